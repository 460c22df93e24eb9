-- The verdict of C beside its calls: what makes every call refuse with 1 is what a check names, and no call leads to it.
use Rattle.std.specs.Prelude.{◌≡◌, List, ◌↔◌, ℕ}
use Rattle.shapes.specs.declared.Board.{Board}
use Rattle.ledger.specs.Ledger.{Ledger}
use Rattle.verdict.specs.Verdict.{image_verdict, checked}
use Rattle.face.specs.Face.{result_of, CallLent}
use Rattle.face.specs.Check.{Says}
use Rattle.demands.specs.Demands.{Bytes, BootLent, refusal_in, Accepted, Called}

-- what `ulavrepit_check` promises of its result
abbrev pub CheckLent : Board → List ℕ → ℕ → Type 0
CheckLent board b r = r ≡ result_of 0 (checked (image_verdict board b))

pub record CheckDemand (board : Board) : Type 0 where
  -- the result says which of the three it is, and which clause and partition
  pub says : (b : List ℕ) {r : ℕ} → CheckLent board b r → Says board b r
  -- a call is refused with 1 exactly where a check finds something, or no table
  pub agrees : {b : List ℕ} {w s r : ℕ} {c : List ℕ} {s' q : ℕ} → Bytes b → CallLent board b w s r c s' → CheckLent board b q → (refusal_in r ≡ 1) ↔ (q ≡ 0 → ⊥)
  -- from an accepted boot a check finds nothing, after any list of calls
  pub calls : (base end : ℕ) {b : List ℕ} {r : ℕ} {c : List ℕ} → BootLent b base end r c → Accepted r → {g h : Ledger} {ws d : List ℕ} → Called board c g ws d h
      → {q : ℕ} → CheckLent board d q → q ≡ 0
