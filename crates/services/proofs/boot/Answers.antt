-- src/lib.rt, boot: Ran (boot_on t.old base end) t.old result t.new
use lib.ListN.{length-replicate}
use Prim.Native.Nat.{ℕ}
use Rattle.rules.specs.Laws.Ran.{ran_refused, ran_as, ran_copied, ran_kept}
use Rattle.services.specs.Laws.Boot.{boot_any, boot_length}
use Rattle.services.proofs.boot.Goals as goal

pub returns-then-t-ne641 : goal.returns-then-t-ne641
returns-then-t-ne641 c = ran_refused (boot_length _ _ _ c.if-t-ne641.true)

pub copy_out-requires : goal.copy_out-requires
copy_out-requires c = c.if-t-ne641.false

pub returns-in-Ok : goal.returns-in-Ok
returns-in-Ok c = ran_as (boot_any _ _ _ _ (length-replicate {A = ℕ} 641 0) c.if-t-ne641.false) (ran_copied c.boot_table-booted.ensures c.in-Ok.is c.copy_out.ensures)

pub returns-in_default : goal.returns-in_default
returns-in_default c = ran_as (boot_any _ _ _ _ (length-replicate {A = ℕ} 641 0) c.if-t-ne641.false) (ran_kept c.boot_table-booted.ensures c.in_default.is)
