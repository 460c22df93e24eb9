-- The exits of planning a list: refused with NotSound or ShortList, or done with the number of the runs and their marks. What is written then is what is promised.
use Rattle.std.specs.Prelude.{◌≡◌, Bool, true, false, cond, not, List, ◌++◌, ℕ, ◌-◌, ◌^◌, ◌≤◌, ◌<◌, leb, length, drop, Ok}
use Rattle.std.proofs.Math.Path.{refl}
use Rattle.std.proofs.Common.{ap, sym, ◌∙◌, arith}
use borrow.Author.Tests.{not-true, not-false, leb-true, lt-leb, le-leb}
use Rattle.loops.specs.Laws.Rewrite.{length_tab}
use Rattle.shapes.specs.declared.Board.{Board}
use Rattle.tables.specs.View.{view}
use Rattle.tables.specs.Laws.Seen.{see_first}
use Rattle.sound.specs.Clauses.{sound}
use Rattle.sound.proofs.Laws.Whole.{tested}
use Rattle.decide.specs.Decide.{Decided}
use Rattle.runs.specs.declared.Run.{Run}
use Rattle.runlist.specs.declared.Plan.{Plan}
use Rattle.runs.specs.Laws.Stored.{firsts}
use Rattle.runs.specs.Runs.{runs_of, runs_outcome, runs_records, RunsListed}
use Rattle.runs.specs.Laws.RunLaws.{runs_few}
use Rattle.runs.specs.Laws.Bound.{runs_bound}
use Rattle.runs.specs.Laws.Pieces.{stop_small}
use Rattle.runs.specs.Places.{AllInOrder}
use Rattle.words.specs.declared.Refusal.TheVariants.{NotSound, ShortList}
use Rattle.runs.specs.Marks.{run_at, mark_of, marks_over, MarksAt}
use Rattle.runs.specs.Laws.Marks.{read_back, marks_short}
use Rattle.runlist.specs.Listing.{refusal, writing_runs, plan_of, marks_in}

-- ── the exits of the code ──
-- a table that was found sound: its entries are in order
module _ {board : Board} {t : List ℕ} {r : Bool} {o c : List ℕ} (d : Decided board t r o c) where
  pub decided_unsound : not r ≡ true → sound board t ≡ false
  decided_unsound q = sym d.says ∙ not-true r q

  pub decided_sound : not r ≡ false → sound board t ≡ true
  decided_sound q = sym d.says ∙ not-false r q

  pub decided_order : not r ≡ false → AllInOrder (view t).k o
  decided_order q = record { counts = c; orders = d.orders (not-false r q) }

module _ (board : Board) (t : List ℕ) (size : ℕ) where
  pub plan_unsound : sound board t ≡ false → refusal NotSound ≡ plan_of board t size
  unfolding plan_of
  plan_unsound q = rw q refl

  pub plan_short : {n : ℕ} → sound board t ≡ true → n ≡ length (runs_of (view t).k) → size < n → refusal ShortList ≡ plan_of board t size
  unfolding plan_of
  plan_short q e h = rw (q, lt-leb (length (runs_of (view t).k)) size (omega arith)) refl

  pub plan_done : {n : ℕ} → sound board t ≡ true → n ≡ length (runs_of (view t).k) → n ≤ size → record { number = n; outcome = Ok (n, 0) } ≡ plan_of board t size
  unfolding plan_of
  plan_done q e h = rw (q, le-leb (length (runs_of (view t).k)) size (omega arith), e) refl

module _ (board : Board) (t : List ℕ) where
  pub marks_unsound : sound board t ≡ false → t ≡ marks_in board t
  unfolding marks_in
  marks_unsound q = rw q refl

  pub marks_sound : {w : List ℕ} → sound board t ≡ true → w ≡ marks_over 641 (view t).k t → w ≡ marks_in board t
  unfolding marks_in
  marks_sound q e = e ∙ rw q refl

-- ── what was written ──
-- no more runs than there are records, and than there are slots
pub plan_fits : (board : Board) (t : List ℕ) (size : ℕ) → ((plan_of board t size).number ≤ size) × ((plan_of board t size).number ≤ 512)
unfolding plan_of
plan_fits board t size = go (sound board t) (leb (length (runs_of (view t).k)) size) refl refl
  where
    go : (a b : Bool) → sound board t ≡ a → leb (length (runs_of (view t).k)) size ≡ b
        → ((cond a (cond b (writing_runs (view t).k) (refusal ShortList)) (refusal NotSound)).number ≤ size) × ((cond a (cond b (writing_runs (view t).k) (refusal ShortList)) (refusal NotSound)).number ≤ 512)
    go true true p q = (leb-true (length (runs_of (view t).k)) size q, runs_bound (tested board t p))
    go true false p q = (omega arith, omega arith)
    go false b p q = (omega arith, omega arith)

-- there are no more runs than lines, so their number fits where a line number does
pub runs_small : (t : List ℕ) → length (runs_of (view t).k) < 2 ^ 27
unfolding runs_of
runs_small t =
    let f = see_first t _ refl in
    omega (arith, runs_few (view t).k ((view t).k.stop - (view t).k.base) (view t).k.base, f.stop, f.end_small)

-- w has the marks of t, if t is sound
abbrev pub MarksOf : Board → List ℕ → List ℕ → Type 0
MarksOf board t w = sound board t ≡ true → w ≡ marks_in board t

-- a run that is written is read from two marks
pub marks_at : (board : Board) (t : List ℕ) (size : ℕ) {w : List ℕ} {i : ℕ} → MarksOf board t w → i < (plan_of board t size).number → MarksAt w i
unfolding plan_of marks_in
marks_at board t size {w} {i} made h = go (sound board t) (leb (length (runs_of (view t).k)) size) refl h
  where
    go : (a b : Bool) → sound board t ≡ a → i < (cond a (cond b (writing_runs (view t).k) (refusal ShortList)) (refusal NotSound)).number → MarksAt w i
    go true true p x =
        let e : w ≡ marks_over 641 (view t).k t = made p ∙ rw p refl in
        let (here, next) = marks_short (tested board t p) (stop_small t) t i x in
        let size = ap length e ∙ length_tab 641 (mark_of (view t).k t) in
        let few = runs_bound (tested board t p) in
        record {
          below = omega (arith, few);
          here = record { size = size; below = omega (arith, few); small = rw e here };
          next = record { size = size; below = omega (arith, few); small = rw e next };
        }
    go true false p x = absurd (omega arith)
    go false b p x = absurd (omega arith)

-- the records after as many runs as planned were written one by one, from the marks w
abbrev pub written : List ℕ → List Run → Plan → List Run
written w before p = firsts (run_at w) p.number ++ drop p.number before

pub listed : (board : Board) (t : List ℕ) {w : List ℕ} (before : List Run) → MarksOf board t w → RunsListed board t before (plan_of board t (length before)).outcome (written w before (plan_of board t (length before)))
unfolding plan_of marks_in runs_outcome runs_records
listed board t {w} before made = go (sound board t) (leb (length (runs_of (view t).k)) (length before)) refl refl
  where
    go : (a b : Bool) → sound board t ≡ a → leb (length (runs_of (view t).k)) (length before) ≡ b
        → RunsListed board t before (plan_of board t (length before)).outcome (written w before (plan_of board t (length before)))
    go true true p q =
        let e : w ≡ marks_over 641 (view t).k t = made p ∙ rw p refl in
        record { outcome = rw (p, q) refl; records = rw (p, q, e) (ap (λ (rs : List Run). rs ++ drop (length (runs_of (view t).k)) before) (read_back (tested board t p) (stop_small t) t)) }
    go true false p q = record { outcome = rw (p, q) refl; records = rw (p, q) refl }
    go false b p q = record { outcome = rw p refl; records = rw p refl }
