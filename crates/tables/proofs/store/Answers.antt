-- src/lib.rt, store: t.new ≡ stored t.old at word
use mathlib.Core.Path.{refl}
use Rattle.tables.specs.Store.{stored}
use Rattle.tables.proofs.store.Goals as goal

pub returns-in-Ok : goal.returns-in-Ok
unfolding stored
returns-in-Ok g c = rw c.in-Ok.is refl

pub returns-in_default : goal.returns-in_default
unfolding stored
returns-in_default g c = rw c.in_default.is refl
