-- Whose record a call can change, told by its word and the table before it: bit p of a mask is partition p's.
use Rattle.std.specs.Prelude.{Bool, cond, ◌||◌, List, ℕ, ◌^◌, eqb, Result, Ok, Err}
use Rattle.std.specs.Int.Bits.{bit_or}
use Rattle.loops.specs.Loops.{map_of}
use Rattle.words.specs.Kind.{reading}
use Rattle.words.specs.Words.{call}
use Rattle.words.specs.declared.call_word.CallFields.{CallFields}
use Rattle.shapes.specs.declared.Board.{Board}
use Rattle.tables.specs.State.{Opt, none, some, K}
use Rattle.tables.specs.Search.{given_in}
use Rattle.tables.specs.View.{view}
use Rattle.sound.specs.Clauses.{sound}
use Rattle.rules.specs.Rules.{branch}
use Rattle.words.specs.declared.Refusal.{Refusal}

-- q is p or above it: it is the root, or p is in its branch
unfoldable pub above : K → ℕ → ℕ → Bool
above k p q = eqb q 0 || branch k.parent q p

-- p and all above it, as a mask
unfoldable pub up_from : K → ℕ → ℕ
up_from k p = map_of 16 (above k p)

-- p and all below it
unfoldable pub down_from : K → ℕ → ℕ
down_from k p = map_of 16 (λ q. above k q p)

-- the number of the next child: the lowest that is absent
unfoldable pub next_in : Opt ℕ → ℕ
next_in none = 0
next_in (some n) = n

-- By service n. 5, give, and 6, take: the caller's and the child's. 7, cut, and 8, merge: the caller's. 9, load and unload, and 15, pack: that of P. 11, read region, and 12, find, change nothing, 13, switch, word 0 alone. The others can change everybody's.
unfoldable pub changed_by : ℕ → K → CallFields → ℕ
changed_by n k f =
    cond (eqb n 5) (bit_or (2 ^ k.current) (2 ^ f.partition.0))
    (cond (eqb n 6) (bit_or (2 ^ k.current) (2 ^ given_in (k.slot k.current f.slot.0)))
    (cond (eqb n 7 || eqb n 8) (2 ^ k.current)
    (cond (eqb n 9 || eqb n 15) (2 ^ f.partition.0)
    (cond (eqb n 11 || eqb n 12 || eqb n 13) 0 0xffff))))

-- nobody's, where the word is refused
unfoldable pub changed_of : K → Result CallFields Refusal → ℕ
changed_of k (Ok f) = changed_by f.service k f
changed_of k (Err n) = 0

-- .. or the table
unfoldable pub changed_after : Board → List ℕ → ℕ → ℕ
changed_after b l w = cond (sound b l) (changed_of (view l).k (reading call w)) 0
