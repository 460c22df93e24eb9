-- src/tiles.rt, number: result ≡ rights_number a
use native.Mathlib.Omega.{arith}
use Rattle.decide.specs.Tiles.{rights_number}
use Rattle.decide.proofs.tiles.number.Goals as goal

pub returns : goal.returns
unfolding rights_number
returns c = omega arith
