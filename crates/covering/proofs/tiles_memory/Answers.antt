-- src/lib.rt, tiles_memory: result ≡ covers_for ranked (view t.now) p.0
use Rattle.covering.specs.Cover.{covers_for}
use Rattle.covering.proofs.tiles_memory.Goals as goal

pub returns-then-ranked : goal.returns-then-ranked
unfolding covers_for
returns-then-ranked c = rw c.if-ranked.true c.covers_whole.ensures

pub tiles_whole-requires : goal.tiles_whole-requires
unfolding covers_for
tiles_whole-requires c = (c.requires.0, c.requires.1)

pub returns : goal.returns
unfolding covers_for
returns c = rw c.if-ranked.false c.tiles_whole.ensures
