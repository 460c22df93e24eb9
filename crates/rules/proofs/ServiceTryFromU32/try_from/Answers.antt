-- src/lib.rt, try_from: ends without a fault
use mathlib.Core.Path.{refl}
use Rattle.rules.specs.Laws.Calls.{uses_none}
use Rattle.rules.proofs.ServiceTryFromU32.try_from.Goals as goal

pub returns-in_default : goal.returns-in_default
returns-in_default c = (refl, uses_none _ c.in_default.in_default-own.rest)
