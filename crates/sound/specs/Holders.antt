-- Who holds a line: root first, each the parent of the next.
use Rattle.std.specs.Prelude.{◌≡◌, Bool, cond, ◌&&◌, List, [], ◌∷◌, length, leb, ltb, eqb, ℕ, zero, suc, ◌+◌, Ok, Err}
use Rattle.shapes.specs.declared.Board.{Board}
use Rattle.tables.specs.State.{Opt, none, some, Entry, K}
use Rattle.tables.specs.View.{view}
use Rattle.tables.specs.Search.{look_for}
use Rattle.tables.specs.WayUp.{way_up, names_over}
use Rattle.sound.specs.Clauses.{sound}
use Rattle.tables.specs.Outcomes.{Outcome}
use Rattle.words.specs.declared.Refusal.TheVariants.{NotSound, WrongLine, ShortList}

-- whom an entry is given to; 0 is nobody
unfoldable pub receiver : Opt Entry → ℕ
receiver none = 0
receiver (some e) = e.given

-- .. of p, by its slot that was found
unfoldable pub given_by : K → ℕ → Opt ℕ → ℕ
given_by k p none = 0
given_by k p (some i) = receiver (k.slot p i)

-- whom p gave its entry that holds line l
unfoldable pub heir : K → ℕ → ℕ → ℕ
heir k l p = given_by k p (look_for k l p).slot

-- from p down along what is given, at most n steps: the deepest holder
unfoldable pub deepest : K → ℕ → ℕ → ℕ → ℕ
deepest k l p zero = p
deepest k l p (suc n) = cond (eqb (heir k l p) 0) p (deepest k l (heir k l p) n)

-- the way from p up to the root, root first
unfoldable pub trail : K → ℕ → ℕ → List ℕ
trail k p n = way_up k.parent n p

unfoldable pub holders_of : K → ℕ → List ℕ
holders_of k l = trail k (deepest k l 0 15) 15

-- ── how far the listing looks: the sum over the holders, each of the search of its own record ──
unfoldable pub sum_over : (ℕ → ℕ) → List ℕ → ℕ
sum_over f [] = 0
sum_over f (x ∷ xs) = f x + sum_over f xs

unfoldable pub looks_of : K → ℕ → ℕ
looks_of k l = sum_over (λ p. (look_for k l p).count) (holders_of k l)

-- ── what holders answers, and the bytes after it ──
unfoldable pub in_memory : K → ℕ → Bool
in_memory k l = leb k.base l && ltb l k.stop

unfoldable pub holders_outcome : Board → List ℕ → ℕ → ℕ → Outcome
holders_outcome b t l size =
    cond (sound b t) (cond (in_memory (view t).k l) (cond (leb 16 size) (Ok ((length (holders_of (view t).k l)), (looks_of (view t).k l))) (Err ShortList)) (Err WrongLine)) (Err NotSound)

unfoldable pub holders_bytes : Board → List ℕ → ℕ → List ℕ → List ℕ
holders_bytes b t l bytes =
    cond (sound b t) (cond (in_memory (view t).k l) (cond (leb 16 (length bytes)) (names_over (holders_of (view t).k l) bytes) bytes) bytes) bytes

-- the holders of line l, written
pub record Writes (k : K) (l : ℕ) (before : List ℕ) (r : Outcome) (after : List ℕ) : Type 0 where
  pub outcome : r ≡ Ok ((length (holders_of k l)), (looks_of k l))
  pub bytes : after ≡ names_over (holders_of k l) before

-- what holders promises: its outcome, and every byte of the list
pub record HoldersListed (b : Board) (t : List ℕ) (l : ℕ) (before : List ℕ) (r : Outcome) (after : List ℕ) : Type 0 where
  pub outcome : r ≡ holders_outcome b t l (length before)
  pub bytes : after ≡ holders_bytes b t l before
