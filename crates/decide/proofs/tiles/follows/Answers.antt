-- src/tiles.rt, follows: result ≡ follows first a b
use Rattle.decide.specs.Tiles.{follows}
use Rattle.decide.proofs.tiles.follows.Goals as goal

pub returns-then-first : goal.returns-then-first
unfolding follows
returns-then-first c = rw c.if-first.true c.none_beyond.ensures

pub returns : goal.returns
unfolding follows
returns c = rw c.if-first.false c.same_rights.ensures
