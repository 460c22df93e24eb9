-- WHAT A BRANCH CAN'T TOUCH (02, request 112), over the C function that a supplier's module calls. Statements only; Laws/BranchProof.antt has the proofs.
-- Beside and Untouched (untouched/specs) speak of words: those that the bytes are.
use Rattle.std.specs.Prelude.{◌≡◌, List, ℕ, ◌<◌}
use Rattle.words.specs.Kind.{fields_in}
use Rattle.words.specs.Words.{call}
use Rattle.shapes.specs.declared.Board.{Board}
use Rattle.tables.specs.View.{view}
use Rattle.memory.specs.Bytes.{bytes_of, record_byte}
use Rattle.sound.specs.Sound.{Sound}
use Rattle.rules.specs.Branch.{Under}
use Rattle.isolation.specs.Whole.{Reads}
use Rattle.untouched.specs.Untouched.{Beside, Untouched, turned_to}
use Rattle.face.specs.Face.{handed, CallLent}
use Rattle.demands.specs.Demands.{Bytes}

-- calls of ulavrepit_call, done or refused, each made while k or a descendant of it is current, by the bytes that it is handed, take these from b to d
pub data CalledWithin (board : Board) (k : ℕ) : List ℕ → List ℕ → Type 0 where
  no_call : {b : List ℕ} → CalledWithin board k b b
  one_call : {b c d : List ℕ} {w s r s' : ℕ} → Under (view (handed b)).k.parent k (view (handed b)).k.current → CallLent board b w s r c s' → CalledWithin board k c d → CalledWithin board k b d

-- "bit for bit the same": the 320 bytes of each record beside the branch; above k, open bits and region bytes apart, each word
pub record BytesUntouched (k : ℕ) (b d : List ℕ) : Type 0 where
  pub beside : (p n : ℕ) → p < 16 → n < 320 → Beside (view (handed b)).k k p → record_byte d p n ≡ record_byte b p n
  pub words : Untouched k (handed b) (handed d)

-- "find and read region on itself give it the same words": with p current, ulavrepit_call has the same result on d and on e, and leaves the same second value
pub record BytesAnswer (board : Board) (p : ℕ) (d e : List ℕ) : Type 0 where
  pub same : {w s r s' q q' : ℕ} {c f : List ℕ} → Reads (fields_in call w) → (fields_in call w).partition.0 ≡ p
      → CallLent board (bytes_of (turned_to p (handed d))) w s r c s' → CallLent board (bytes_of (turned_to p (handed e))) w s q f q'
      → (r ≡ q) × (s' ≡ q')

-- REQUEST 112, over bytes: of the bytes b of a sound table
pub record BranchDemand (board : Board) : Type 0 where
  pub untouched : {k : ℕ} {b d : List ℕ} → Bytes b → Sound board (handed b) → CalledWithin board k b d → BytesUntouched k b d
  -- "after either of two such lists from one table", for a partition beside the branch
  pub answers : {k p : ℕ} {b d e : List ℕ} → Bytes b → Sound board (handed b) → CalledWithin board k b d → CalledWithin board k b e → Beside (view (handed b)).k k p → BytesAnswer board p d e
