-- src/lib.rt, check_slots: SlotsChecked t.now p.0 0 (s5 t.now (view t.now).k p.0) result
use mathlib.Core.Path.{sym}
use Rattle.summing.specs.Laws.Sums.{adding_start, adding_at}
use Rattle.comparing.specs.Laws.Once.{structures_start, structures_on, structures_fail, structures_done, checked_fails, checked_all}
use native.Mathlib.Omega.{arith}
use Rattle.comparing.proofs.check_slots.Goals as goal

pub loop-j-init : goal.loop-j-init
loop-j-init c = (structures_start _ _, adding_start)

pub check_structure-requires : goal.check_structure-requires
check_structure-requires c = (c.requires, omega (arith, c.loop-j.invariant.0.within), adding_at _ _ (omega arith) c.loop-j.invariant.1)

pub returns-in_err-sums : goal.returns-in_err-sums
returns-in_err-sums c = rw c.from_residual.ensures (checked_fails c.in_err-sums.ensures.says (structures_fail _ _ c.loop-j.invariant.0 (omega arith)))

pub loop-j-preserved : goal.loop-j-preserved
loop-j-preserved c =
    let turn = c.loop-j in
    let checked = c.in_ok-sums.ensures in
    (structures_on _ _ turn.invariant.0 (omega arith) (omega arith) (sym checked.says), adding_at _ _ (omega arith) checked.sums)

pub returns : goal.returns
returns c = let turn = c.loop-j in checked_all (structures_done _ _ turn.invariant.0 (omega arith)) (adding_at _ _ (omega arith) turn.invariant.1)
