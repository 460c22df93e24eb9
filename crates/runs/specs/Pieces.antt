-- How the code finds the runs: piece by piece. A piece goes from a line to the first end among the entries that hold the line; all its lines have the
-- same deepest holder, for each of these entries holds them all. A run is a piece, and the pieces after it while the deepest holder stays the same.
-- The way from the root down to the deepest holder of a line is kept: it is the next piece's way too, down to the first partition whose entry has ended.
use Rattle.std.specs.Prelude.{◌≡◌, cond, ℕ, zero, suc, ◌+◌, ◌≤◌, ◌<◌, min, eqb}
use Rattle.tables.specs.State.{Opt, none, some, Entry, K}
use Rattle.tables.specs.Lines.{Holds}
use Rattle.tables.specs.Search.{look_for}
use Rattle.sound.specs.Holders.{heir, deepest}
use Rattle.runs.specs.declared.pieces.Hop.{Hop}
use Rattle.runs.specs.Runs.{deepest_at}

-- where p's entry ends that holds line l; the next line where none does
unfoldable pub end_of : ℕ → Opt Entry → ℕ
end_of l none = l + 1
end_of l (some e) = e.stop

unfoldable pub end_by : K → ℕ → ℕ → Opt ℕ → ℕ
end_by k l p none = l + 1
end_by k l p (some i) = end_of l (k.slot p i)

unfoldable pub end_at : K → ℕ → ℕ → ℕ
end_at k l p = end_by k l p (look_for k l p).slot

-- from p down along what is given, at most n steps: the lowest of b and these ends
unfoldable pub nearest : K → ℕ → ℕ → ℕ → ℕ → ℕ
nearest k l p b zero = b
nearest k l p b (suc n) = cond (eqb (heir k l p) 0) (min b (end_at k l p)) (nearest k l (heir k l p) (min b (end_at k l p)) n)

abbrev pub piece_end : K → ℕ → ℕ
piece_end k l = nearest k l 0 k.stop 15

-- ── the exits of the code ──
-- one step of the descent: whom p gave its entry that holds line l, and where that entry ends
pub record Hopped (k : K) (l p : ℕ) (r : Hop) : Type 0 where
  pub heir : r.heir.0 ≡ heir k l p
  pub end : r.end.0 ≡ end_at k l p
  pub small : r.heir.0 < 16

-- at p, which holds the line, with so many steps left and the lowest end so far, the descent comes to the same piece as from the root
pub record Descent (k : K) (l p b left : ℕ) : Type 0 where
  pub holds : Holds k.slot p l
  pub low : b ≤ k.stop
  pub comes : deepest k l p left ≡ deepest_at k l
  pub ends : nearest k l p b left ≡ piece_end k l
