-- A list of runs that C lent holds the runs of the words handed over, two results are equal; and the exits of planning it from bytes. So for the pieces of an entry.
use Rattle.std.specs.Prelude.{◌≡◌, refl, Bool, true, false, cond, List, [], ℕ, eqb, leb, length, replicate, Ok, Err}
use Rattle.std.proofs.Common.{ap, sym, ◌∙◌, arith, eq-eqb, ne_eqb}
use Rattle.std.proofs.lemmas.Bool.{false≢true}
use Rattle.shapes.specs.declared.Board.{Board}
use Rattle.shapes.specs.Pieces.{pieces_for}
use Rattle.tables.specs.State.{Opt, none, some, Entry}
use Rattle.tables.specs.View.{view}
use Rattle.memory.specs.Bytes.{words_of}
use Rattle.sound.specs.Clauses.{sound}
use Rattle.sound.proofs.Laws.Holders.{wrong_length}
use Rattle.holders.specs.Listing.{list_outcome, slot_outcome, pieces_outcome, PiecesListed}
use Rattle.holders.specs.Laws.Listing.{pieces_unsound, pieces_copy, entry_few}
use Rattle.runs.specs.declared.Run.{Run}
use Rattle.runlist.specs.declared.Plan.{Plan}
use Rattle.runs.specs.Runs.{runs_of, runs_outcome, RunsListed}
use Rattle.runlist.specs.Listing.{plan_of, marks_in, refusal, writing_runs}
use Rattle.runlist.specs.Laws.Listing.{plan_unsound, runs_small, MarksOf}
use Rattle.face.specs.Face.{handed, result_of}
use Rattle.face.specs.Laws.Face.{handed_is, handed_unsound}
use Rattle.face.specs.Lists.{Small, ready_from, ready_of, left_of, RunsLent, PiecesLent}
use Rattle.tables.specs.Outcomes.{Outcome}
use Rattle.words.specs.declared.Refusal.TheVariants.{NotSound, ShortList}

-- two results are equal: the answer, and every record
pub handed_one : {board : Board} {b : List ℕ} {before : List Run} {r s : ℕ} {a c : List Run} → RunsLent board b before r a → RunsLent board b before s c → (r ≡ s) × (a ≡ c)
handed_one x y = (x.answer ∙ sym y.answer, x.records ∙ sym y.records)

-- so the records are the runs of the words that were handed over
pub handed_listed : {board : Board} {b : List ℕ} {before after : List Run} {r : ℕ} → RunsLent board b before r after → RunsListed board (handed b) before (runs_outcome board (handed b) (length before)) after
handed_listed h = record { outcome = refl; records = h.records }

-- ── the exits of the code ──
pub ready_none : (board : Board) (b : List ℕ) (size : ℕ) {w : List ℕ} → (length b ≡ 5128 → ⊥) → w ≡ replicate 641 0 → (ready_from (refusal NotSound) ≡ ready_of board b size) × (w ≡ left_of board b)
unfolding left_of
ready_none board b size h z = (ap ready_from (plan_unsound board (handed b) size (handed_unsound b h board)), z ∙ rw (ne_eqb (length b) 5128 h) refl)

pub plan_answers : (board : Board) (t : List ℕ) (size : ℕ) → Small (plan_of board t size).outcome
unfolding plan_of
plan_answers board t size = go (sound board t) (leb (length (runs_of (view t).k)) size)
  where
    go : (x y : Bool) → Small (cond x (cond y (writing_runs (view t).k) (refusal ShortList)) (refusal NotSound)).outcome
    go true true = omega (arith, runs_small t)
    go true false = omega arith
    go false y = omega arith

pub ready_plan : (board : Board) (b : List ℕ) (size : ℕ) {p : Plan} {w : List ℕ} {r : ℕ} → length b ≡ 5128 → p ≡ plan_of board (words_of b) size → w ≡ marks_in board (words_of b) → r ≡ result_of 0 p.outcome
    → (record { number = p.number; answer = r } ≡ ready_of board b size) × (w ≡ left_of board b)
unfolding left_of
ready_plan board b size h q m e = (rw (e, q, ← handed_is b h) refl, m ∙ rw (eq-eqb (length b) 5128 h) refl)

-- of a sound table they have its marks
pub left_marks : (board : Board) (b : List ℕ) → MarksOf board (handed b) (left_of board b)
unfolding left_of handed
left_marks board b = go (eqb (length b) 5128)
  where
    go : (x : Bool) → sound board (cond x (words_of b) []) ≡ true → cond x (marks_in board (words_of b)) (replicate 641 0) ≡ marks_in board (cond x (words_of b) [])
    go true s = refl
    go false s = absurd (false≢true (sym (wrong_length board [] (λ z. omega arith)) ∙ s))

-- ── the pieces of an entry ──
-- two results are equal: the answer, and every word
pub pieces_lent_one : {board : Board} {b : List ℕ} {p s : ℕ} {before : List ℕ} {r q : ℕ} {a c : List ℕ} → PiecesLent board b p s before r a → PiecesLent board b p s before q c → (r ≡ q) × (a ≡ c)
pieces_lent_one x y = (x.answer ∙ sym y.answer, x.words ∙ sym y.words)

pub pieces_answers : (board : Board) (t : List ℕ) (p s size : ℕ) → Small (pieces_outcome board t p s size)
unfolding pieces_outcome slot_outcome list_outcome
pieces_answers board t p s size = go (sound board t) ((view t).k.slot p s) refl
  where
    go : (x : Bool) (y : Opt Entry) → (view t).k.slot p s ≡ y → Small (cond x (slot_outcome board y size) (Err NotSound))
    go false y u = omega arith
    go true none u = omega arith
    go true (some e) u = room (leb (length (pieces_for board e.start e.stop)) size)
      where
        room : (z : Bool) → Small (cond z (Ok ((length (pieces_for board e.start e.stop)), 0)) (Err ShortList))
        room true = omega (arith, entry_few board t p s e u)
        room false = omega arith

module _ {board : Board} (b : List ℕ) {p s : ℕ} {list : List ℕ} {r : ℕ} where
  pub pieces_lent_none : (length b ≡ 5128 → ⊥) → r ≡ result_of 0 (Err NotSound) → PiecesLent board b p s list r list
  pieces_lent_none h e = let n = pieces_unsound board {t = handed b} {p = p} {s = s} {list = list} (handed_unsound b h board) in record { answer = e ∙ ap (result_of 0) n.outcome; words = n.words }

  pub pieces_lent : {a : List ℕ} {o : Outcome} {after : List ℕ} → length b ≡ 5128 → a ≡ words_of b → PiecesListed board a p s list o after → r ≡ result_of 0 o → PiecesLent board b p s list r after
  pieces_lent size load h e = let n = pieces_copy (load ∙ handed_is b size) h in record { answer = e ∙ ap (result_of 0) n.outcome; words = n.words }
