-- S10, a region at a time: what the exits of the code give.
use Rattle.std.specs.Prelude.{Bool, cond, not, ◌&&◌, Option, Some, None, ℕ, ◌^◌, ◌||◌}
use Rattle.std.specs.Int.Bits.{bit_or}
use Rattle.loops.specs.Loops.{names}
use Rattle.words.specs.declared.regions_word.Region.{Region}
use Rattle.shapes.specs.declared.Board.{Board}
use Rattle.tables.specs.State.{Table}
use Rattle.tables.specs.Search.{is_some}
use Rattle.sound.specs.Limit.{entry_pieces}
use Rattle.words.specs.declared.regions_word.RegionsFields.{RegionsFields}

-- slot i of p holds an entry that is open
unfoldable pub is_open : Table → ℕ → ℕ → Bool
is_open t p i = is_some (t.k.slot p i) && t.opened p i

-- the mask with the slot that a region names
unfoldable pub slot_noted : ℕ → Region → ℕ
slot_noted m x = cond x.loaded (bit_or m (2 ^ x.slot.0)) m

-- what a region weighs, where those before it name the slots of the mask: the pieces of what it names, if S10 says nothing else of it
unfoldable pub weight : Board → Table → ℕ → ℕ → Region → Option ℕ
weight b t p m x = cond x.loaded (cond (is_open t p x.slot.0 && not (names m x.slot.0)) (Some (entry_pieces b (t.k.slot p x.slot.0))) None) (Some 0)

-- one of the eight is loaded
abbrev pub some_loaded : RegionsFields → Bool
some_loaded f =
    f.region0.loaded || f.region1.loaded || f.region2.loaded || f.region3.loaded || f.region4.loaded || f.region5.loaded || f.region6.loaded || f.region7.loaded
