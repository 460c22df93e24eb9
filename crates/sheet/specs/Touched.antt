-- Whose two words of the sheet a call can change, and how the code brings the sheet up to the table after it.
use Rattle.std.specs.Prelude.{◌≡◌, Bool, false, cond, ◌||◌, List, ℕ, ◌*◌, ◌/◌, ◌<◌, eqb, get_or}
use Rattle.loops.specs.Loops.{tab}
use Rattle.words.specs.Kind.{fields_in}
use Rattle.words.specs.Words.{call, masks}
use Rattle.words.specs.declared.Partition.{Partition}
use Rattle.words.specs.declared.call_word.CallFields.{CallFields}
use Rattle.tables.specs.State.{K, Table}
use Rattle.tables.specs.Search.{lowest, absent, absent_child, given_in}
use Rattle.memory.specs.Bytes.{word_at, byte_of}
use Rattle.rules.specs.Changes.{above, next_in}
use Rattle.sheet.specs.declared.calls.Whose.{Whose}
use Rattle.sheet.specs.declared.calls.Whose.TheVariants.{Nobody, One, Up, Gone}
use Rattle.sheetrules.specs.Sheet.{lines_word, sheet_of}
use Rattle.sheetrules.specs.Bytes.{pair_put}
use Rattle.summing.specs.Sums.{masks_with}

-- By the call of service n, of the table before it. 1, create: the child; and the caller's entry closes over the new area, as do the entries around it, all the way up. 6, take, leaves the caller's entry its lines, so it is the child's words alone; 7, cut, and 8, merge: the caller's. Load and unload, read region, find and switch move no line, entry or area.
unfoldable pub touched_of_caller : ℕ → K → ℕ → Whose
touched_of_caller n k s =
    cond (eqb n 1) (Up (record { 0 = next_in (lowest 16 (absent_child k)) }))
    (cond (eqb n 6) (One (record { 0 = given_in (k.slot k.current s) }))
    (cond (eqb n 7 || eqb n 8) (One (record { 0 = k.current }))
    Nobody))

-- 2, delete, and 14, clear out: who is gone, and the caller and all above it, whose entries open. 3, prepare, and 4, collect: the area is a structure of P, and an entry of P or of its parent. 5, give: the child's alone; 15, pack: those of P.
unfoldable pub touched_by : ℕ → K → CallFields → Whose
touched_by n k f =
    cond (eqb n 2 || eqb n 14) Gone
    (cond (eqb n 3 || eqb n 4) (Up f.partition)
    (cond (eqb n 5 || eqb n 15) (One f.partition)
    (touched_of_caller n k f.slot.0)))

abbrev pub touched : K → ℕ → Whose
touched k w = touched_by (fields_in call w).service k (fields_in call w)

-- who is named is a partition
pub record Named (x : Whose) : Type 0 where
  pub one : (p : Partition) → x ≡ One p → p.0 < 16
  pub up : (p : Partition) → x ≡ Up p → p.0 < 16

unfoldable pub touches : Whose → K → ℕ → Bool
touches Nobody k q = false
touches (One p) k q = eqb q p.0
touches (Up p) k q = above k p.0 q
touches Gone k q = absent k q || above k k.current q

-- the bytes s with the two words of p put afresh: its children stay as the sheet has them
unfoldable pub kept_pair : Table → ℕ → List ℕ → List ℕ
kept_pair t p s = pair_put s p (masks_with (fields_in masks (word_at s (2 * p))).children t p) (lines_word t p)

-- .. with the 16 bytes of each of m put
unfoldable pub put_those : (ℕ → Bool) → Table → List ℕ → List ℕ
put_those m t s = tab 256 (λ n. cond (m (n / 16)) (byte_of (sheet_of t) n) (get_or s n 0))

-- .. with those put whose words can be others in t
unfoldable pub sheet_kept : Whose → Table → List ℕ → List ℕ
sheet_kept Nobody t s = s
sheet_kept (One p) t s = kept_pair t p.0 s
sheet_kept (Up p) t s = put_those (touches (Up p) t.k) t s
sheet_kept Gone t s = put_those (touches Gone t.k) t s
