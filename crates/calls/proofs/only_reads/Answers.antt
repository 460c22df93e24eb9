-- src/lib.rt, only_reads: result ≡ eqb f.service 11 || eqb f.service 12
use Rattle.rules.specs.Laws.Calls.{named_not, none_reads}
use Rattle.calls.proofs.only_reads.Goals as goal

pub returns-in_default-2 : goal.returns-in_default-2
returns-in_default-2 c = none_reads _ (named_not _ c.in_default.is c.try_from.ensures).1
