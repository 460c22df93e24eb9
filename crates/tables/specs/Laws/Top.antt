-- Of any words 16 is a top; and a partition from the top on is absent, with no area.
use Rattle.std.specs.Prelude.{◌≡◌, false, List, ℕ, ◌≤◌}
use Rattle.std.proofs.Math.Path.{refl}
use Rattle.std.proofs.Common.{arith}
use Rattle.tables.specs.State.{none}
use Rattle.tables.specs.View.{view}
use Rattle.tables.specs.Laws.Spelling.{zero_areas}
use Rattle.tables.specs.Laws.ZeroWord.{no_area}
use Rattle.tables.specs.Laws.ZeroRecord.{zero_record_means}
use Rattle.tables.specs.Search.{present}
use Rattle.tables.specs.Top.{Top}

-- of any words 16 is one
pub top_16 : (l : List ℕ) → Top l 16
top_16 l = record { within = omega arith; zero = λ p a b. absurd (omega arith) }

-- a partition from there on has no area, and is absent
module _ {l : List ℕ} {n : ℕ} (h : Top l n) (p : ℕ) (a : n ≤ p) where
  pub top_area : (j : ℕ) → (view l).k.area p j ≡ none
  top_area j = no_area l p j (λ b. zero_areas l p ((zero_record_means l p).0 (h.zero p a b)) j)

  pub top_absent : present (view l).k p ≡ false
  unfolding present
  top_absent = rw (top_area 0) refl

-- .. of words that are equal
pub top_at : {a b : List ℕ} {n : ℕ} → a ≡ b → Top b n → Top a n
top_at e h = rw e h
