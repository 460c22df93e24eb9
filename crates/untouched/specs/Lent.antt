-- LENDING WHOLE (02, request 104), as a story over calls: what is given with W comes back. The statement only: Laws/Lent.antt proves it.
use Rattle.std.specs.Prelude.{◌≡◌, true, List, ℕ}
use Rattle.words.specs.Kind.{fields_in, Zeroed}
use Rattle.words.specs.Words.{call}
use Rattle.shapes.specs.declared.Board.{Board}
use Rattle.tables.specs.State.{Table}
use Rattle.tables.specs.View.{view}
use Rattle.tables.specs.Fitting.{Words}
use Rattle.rules.specs.Rules.{done, call_on, words_after}
use Rattle.isolation.specs.Whole.{after_all}
use Rattle.isolation.specs.Lent.{taking}
use Rattle.untouched.specs.Untouched.{Within}

-- the words after the call word w
abbrev pub after : Board → List ℕ → ℕ → List ℕ
after b l w = words_after l (call_on b l w)

-- A give with W is done, and a switch follows. Then, whatever calls the child's branch makes, the giver, once it is current again, has the block back by a take of the same slot.
pub record LentBack : Type 0 where
  pub back : (b : Board) (l : List ℕ) (give switch take : ℕ) (ws : List ℕ) {v x : ℕ} {t : Table} → Words l
      → (fields_in call give).service ≡ 5 → (fields_in call give).whole ≡ true → call_on b l give ≡ done v x t
      → (fields_in call switch).service ≡ 13
      → Within b (fields_in call give).partition.0 (after b (after b l give) switch) ws
      → (view (after_all b (after b (after b l give) switch) ws)).k.current ≡ (view l).k.current
      → Zeroed call take → fields_in call take ≡ taking (fields_in call give).slot.0
      → (t' : Table) × (call_on b (after_all b (after b (after b l give) switch) ws) take ≡ done 0 0 t')
