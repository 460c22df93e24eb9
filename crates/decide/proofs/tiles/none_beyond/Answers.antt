-- src/tiles.rt, none_beyond: result ≡ within a b
use Rattle.decide.specs.Laws.Tiles.{number_within}
use Rattle.decide.proofs.tiles.none_beyond.Goals as goal

pub returns : goal.returns
returns c = rw (c.number-n.ensures, c.number.ensures) (number_within _ _)
