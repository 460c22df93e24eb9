-- The walk along what a partition was given, in two ways: by lines alone, or ranked, with rights and open bits; and what S7 asks of a given or whole entry.
use Rattle.std.specs.Prelude.{◌≡◌, Bool, true, false, cond, not, ◌&&◌, ◌||◌, List, ℕ, eqb}
use Rattle.tables.specs.State.{Table, all_rights}
use Rattle.tables.specs.Search.{child}
use Rattle.sound.specs.Clauses.{when, undivided, s11}
use Rattle.decide.specs.Entries.{exactly}
use Rattle.decide.specs.Local.{grants_open}
use Rattle.decide.specs.Tiles.{Tiled, entry_at, TiledSlot, plain_row}

-- x is the place after the entries of p that tile the entry in slot j of q from place i on; where they do not, 33
pub record TiledFor (ranked : Bool) (l o : List ℕ) (p n i q j x : ℕ) : Type 0 where
  pub ranks : ranked ≡ true → TiledSlot l o p n i q j x
  pub lines : ranked ≡ false → Tiled (plain_row l o p) n i (entry_at l q j).start (entry_at l q j).stop all_rights x

-- S7 of p but for what it says of given and whole entries; ranked, S11 too, and the open bits of what p was given
unfoldable pub covers_for : Bool → Table → ℕ → Bool
covers_for ranked t p = cond ranked (exactly t.k p && s11 t.k p && grants_open t p) (exactly t.k p)

-- slot i of p is given to nobody or to a child of p; a whole one is open, not given, and equal to an entry that p's parent gave it
unfoldable pub given_slot : Table → ℕ → ℕ → Bool
given_slot t p i = when (λ e. (not e.whole || undivided t.k p (t.opened p i) e) && (eqb e.given 0 || child t.k p e.given)) (t.k.slot p i)
