-- What an item of the machine form says of a table.
use Rattle.std.specs.Prelude.{Bool, false, cond, List, [], ◌∷◌, ℕ, length, eqb, leb, Option, Some, None}
use Rattle.loops.specs.Loops.{bit_of, any}
use Rattle.shapes.specs.declared.Board.{Board}
use Rattle.shapes.specs.Pieces.{pieces_for}
use Rattle.tables.specs.State.{Opt, none, some, Entry, Area, K, Table}
use Rattle.tables.specs.Search.{look_for}
use Rattle.tables.specs.Settle.{meets}
use Rattle.sound.specs.Clauses.{has}
use Rattle.who.specs.declared.facts.CanWrite.{CanWrite}
use Rattle.who.specs.declared.facts.CanWrite.TheVariants.{Closed, NoRight, ManyPieces, IfLoaded, IfCurrent, Now}
use Rattle.who.specs.declared.facts.Place.{Place}

-- entry: partition, slot, start, end, read, write, execute, open, given, whole, and how many pieces it needs on the board
unfoldable pub entry_numbers : Board → ℕ → ℕ → Entry → Bool → List ℕ
entry_numbers b p s e o =
    p ∷ s ∷ e.start ∷ e.stop ∷ bit_of e.rights.read ∷ bit_of e.rights.write ∷ bit_of e.rights.execute ∷ bit_of o ∷ e.given ∷ bit_of e.whole
    ∷ length (pieces_for b e.start e.stop) ∷ []

-- region r of p names slot s
unfoldable pub names_it : Table → ℕ → ℕ → ℕ → Bool
names_it t p s r = has (λ i. eqb i s) (t.region p r)

-- can: whether p can write into its entry e, in slot s. 0: it is closed. 1: it has no write right. 2: it has more pieces than can be loaded.
-- 3: it can, if it loads it. 4: it has it loaded, and can when it is current. 5: .. and is current.
abbrev pub can_number : CanWrite → ℕ
can_number Closed = 0
can_number NoRight = 1
can_number ManyPieces = 2
can_number IfLoaded = 3
can_number IfCurrent = 4
can_number Now = 5

unfoldable pub can_write : Board → Table → ℕ → ℕ → Entry → Bool → CanWrite
can_write b t p s e o =
    cond
    o
    (cond
    e.rights.write
    (cond (any 8 (names_it t p s)) (cond (eqb t.k.current p) Now IfCurrent) (cond (leb (length (pieces_for b e.start e.stop)) 8) IfLoaded ManyPieces))
    NoRight)
    Closed

-- shut: an area, or none, shares a line with a to b
unfoldable pub shared : Opt Area → ℕ → ℕ → Bool
shared none a b = false
shared (some x) a b = meets x.lo x.hi a b

-- ── holder: in which slot p has line l, and where the entry there ends ──
unfoldable pub entry_end : ℕ → Opt Entry → ℕ
entry_end l none = l
entry_end l (some e) = e.stop

unfoldable pub place_in : K → ℕ → ℕ → Opt ℕ → Option Place
place_in k p l none = None
place_in k p l (some i) = Some (record { slot = record { 0 = i }; end = record { 0 = entry_end l (k.slot p i) } })

-- .. by the search that find makes
unfoldable pub place_of : K → ℕ → ℕ → Option Place
place_of k p l = place_in k p l (look_for k l p).slot
