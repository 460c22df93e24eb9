-- src/lib.rt, check_eight: SlotsChecked t.now p.0 (8 * j) (slots_test t.now (view t.now).k p.0 j) result
use mathlib.Core.Path.{sym}
use Rattle.summing.specs.Laws.Sums.{adding_at}
use Rattle.comparing.specs.Laws.Once.{slots_start, slots_on, slots_fail, slots_done, checked_fails, checked_all, structure_of_law}
use native.Mathlib.Omega.{arith}
use Rattle.comparing.proofs.check_eight.Goals as goal

pub loop-i-init : goal.loop-i-init
loop-i-init c = (slots_start _ _ _, c.requires.3)

pub check_slot-requires : goal.check_slot-requires
check_slot-requires c = let asked = c.requires in (asked.0, structure_of_law _ asked.2 (omega (arith, c.loop-i.invariant.0.below)), adding_at _ _ (omega arith) c.loop-i.invariant.1)

pub returns-in_err-sums : goal.returns-in_err-sums
returns-in_err-sums c = rw c.from_residual.ensures (checked_fails c.in_err-sums.ensures.says (slots_fail _ _ c.loop-i.invariant.0 (omega arith)))

pub loop-i-preserved : goal.loop-i-preserved
loop-i-preserved c =
    let turn = c.loop-i in
    let checked = c.in_ok-sums.ensures in
    (slots_on _ _ turn.invariant.0 (omega arith) (omega arith) (sym checked.says), adding_at _ _ (omega arith) checked.sums)

pub returns : goal.returns
returns c = let turn = c.loop-i in checked_all (slots_done _ _ turn.invariant.0 (omega arith)) (adding_at _ _ (omega (arith, turn.invariant.0.within)) turn.invariant.1)
