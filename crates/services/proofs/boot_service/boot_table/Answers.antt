-- src/boot_service.rt, boot_table: Ran (boot_on t.old base end) t.old result t.new
use Rattle.rules.specs.Laws.Ran.{ran_refused, ran_done}
use Rattle.services.specs.Laws.Boot.{boot_empty, boot_high, boot_done}
use native.Mathlib.Omega.{arith}
use Rattle.services.proofs.boot_service.boot_table.Goals as goal

pub returns-then-base-end : goal.returns-then-base-end
returns-then-base-end c = ran_refused (boot_empty _ _ _ c.sized.ensures (omega arith))

pub returns-then-end-ge134217728 : goal.returns-then-end-ge134217728
returns-then-end-ge134217728 c = ran_refused (boot_high _ _ _ c.sized.ensures (omega arith))

pub overflow_cast-base : goal.overflow_cast-base
overflow_cast-base c = omega arith

pub overflow_cast-end : goal.overflow_cast-end
overflow_cast-end c = omega arith

pub put_root-requires : goal.put_root-requires
put_root-requires c = (omega arith, omega arith)

pub returns : goal.returns
returns c = ran_done (boot_done _ _ _ c.sized.ensures (omega arith) (omega arith)) c.put_root.ensures
