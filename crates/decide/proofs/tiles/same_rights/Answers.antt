-- src/tiles.rt, same_rights: result ≡ same_rights a b
use mathlib.Core.Path.{refl}
use Rattle.sound.specs.Clauses.{same_rights}
use Rattle.decide.proofs.tiles.same_rights.Goals as goal

pub returns : goal.returns
unfolding same_rights
returns c = refl
