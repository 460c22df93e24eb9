-- ARMv8-M: "On this one #102's pieces, 19 and the limit of 8 pieces in S10 don't apply, and each loaded entry is one region." What is common is said once, over the
-- pieces of the board (`pieces_for`); of this board the rest follows. The theorem is `plain_board` (`Laws/PlainProof.antt`).
use Rattle.std.specs.Prelude.{◌≡◌, List, [], ◌∷◌, ℕ, ◌-◌, ◌≤◌}
use Rattle.shapes.specs.declared.Board.TheVariants.{V8}
use Rattle.shapes.specs.Pieces.{piece, pieces_for}
use Rattle.tables.specs.State.{Opt, Entry}
use Rattle.sound.specs.Limit.{loaded_pieces}
use Rattle.face.specs.Face.{CallLent}
use Rattle.demands.specs.Demands.{Bytes, refusal_in}

pub record Plain : Type 0 where
  -- the one piece of an entry is the entry itself
  pub one : (e : Entry) → pieces_for V8 e.start e.stop ≡ piece e.start (e.stop - e.start) ∷ []
  -- so S10's limit holds of whatever eight regions name
  pub limit : (slot : ℕ → ℕ → Opt Entry) (region : ℕ → ℕ → Opt ℕ) (p : ℕ) → loaded_pieces V8 slot region p ≤ 8
  -- and `ulavrepit_call` gives 19 to no bytes and no word
  pub never_19 : {b : List ℕ} {w s r : ℕ} {c : List ℕ} {s' : ℕ} → Bytes b → CallLent V8 b w s r c s' → refusal_in r ≡ 19 → ⊥
