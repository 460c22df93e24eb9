-- S7 to S11 at a partition, as one pass decides them once each area has marked an entry.
use Rattle.std.specs.Prelude.{Bool, cond, not, ◌&&◌, ◌||◌, List, ℕ, ◌+◌, ◌*◌, leb, eqb}
use Rattle.std.specs.Bool.{beq}
use Rattle.loops.specs.Loops.{all}
use Rattle.shapes.specs.declared.Board.{Board}
use Rattle.tables.specs.State.{Entry, Table}
use Rattle.tables.specs.Search.{present, child}
use Rattle.sound.specs.Clauses.{when, undivided, s10, s11}
use Rattle.decide.specs.Entries.{exactly}
use Rattle.marking.specs.Marking.{slot_marked}

-- slot i of p is given to a child of p; or to nobody, and then it is open exactly if no area marked it; a whole one is undivided
unfoldable pub entry_right : Table → List ℕ → ℕ → ℕ → Bool
entry_right t m p i =
    when (λ e. (not e.whole || undivided t.k p (t.opened p i) e) && cond (eqb e.given 0) (beq (t.opened p i) (not (slot_marked m (32 * p + i)))) (child t.k p e.given))
    (t.k.slot p i)

-- the entries of p that lie inside f are open
unfoldable pub open_inside : Table → ℕ → Entry → Bool
open_inside t p f = all 32 (λ i. when (λ e. not (leb f.start e.start && leb e.stop f.stop) || t.opened p i) (t.k.slot p i))

-- each entry that p was given is open exactly if they are
unfoldable pub grants_open : Table → ℕ → Bool
grants_open t p =
    eqb p 0 || all 32 (λ j. when (λ f. not (eqb f.given p) || beq (t.opened (t.k.parent p) j) (open_inside t p f)) (t.k.slot (t.k.parent p) j))

-- S7 and S9 to S11 at p, S9 by the marks m; where p is present
unfoldable pub local_at : Board → Table → List ℕ → ℕ → Bool
local_at b t m p = all 32 (entry_right t m p) && (exactly t.k p && s11 t.k p && grants_open t p) && s10 b t p

unfoldable pub local_where : Board → Table → List ℕ → ℕ → Bool
local_where b t m p = not (present t.k p) || local_at b t m p

-- .. but for what the walk tells of the entries by themselves
unfoldable pub left_where : Board → Table → ℕ → Bool
left_where b t p = not (present t.k p) || (exactly t.k p && s11 t.k p && grants_open t p) && s10 b t p
