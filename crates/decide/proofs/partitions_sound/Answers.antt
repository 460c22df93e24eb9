-- src/lib.rt, partitions_sound: result ≡ all 16 (local_where board (view t.now) mark.now)
use mathlib.Core.Path.{refl, ap}
use native.Mathlib.Omega.{arith}
use Rattle.decide.specs.Laws.Decide.{passed}
use Rattle.decide.specs.Laws.Walk.{row_of_law, root_here, walk_first, walk_ended, rest_local, not_walked, root_uncovered}
use mathlib.Core.Bool.{not}
use Rattle.decide.proofs.partitions_sound.Goals as goal

pub covers_whole-requires : goal.covers_whole-requires
covers_whole-requires c = let h = c.requires.1 in (row_of_law h 0 (omega arith) (root_here h), refl, h.shaped)

pub returns-then-not-covers_whole : goal.returns-then-not-covers_whole
returns-then-not-covers_whole c = root_uncovered c.requires.1 _ c.covers_whole.ensures (ap not c.if-not-covers_whole.true)

pub walk-requires : goal.walk-requires
walk-requires c = let h = c.requires in (h.0, h.1, walk_first h.1)

pub returns-then-not-walk : goal.returns-then-not-walk
returns-then-not-walk c = not_walked c.requires.1 _ c.walk.ensures (ap not c.if-not-walk.true)

pub rest_sound-requires : goal.rest_sound-requires
rest_sound-requires c =
    let h = c.requires in
    (h.0, walk_ended h.1 (c.walk.ensures.on c.if-not-walk.false) (passed c.covers_whole.ensures (ap not c.if-not-covers_whole.false)))

pub returns : goal.returns
returns c =
    let h = c.requires in
    rest_local h.1 (c.walk.ensures.on c.if-not-walk.false) _ c.rest_sound.ensures
