-- src/kept.rt, zero_absent: sheet.new ≡ put_those (absent (view t.now).k) (view t.now) sheet.old
use mathlib.Core.Path.{sym, ◌∙◌}
use Rattle.sheet.specs.Laws.Those.{zero_start, zero_put, zero_skip, zero_end}
use native.Mathlib.Omega.{arith}
use Rattle.sheet.proofs.kept.zero_absent.Goals as goal
use Rattle.sheet.proofs.kept.zero_absent.Goals.{then-not-is_present, else-not-is_present}

pub loop-p-init : goal.loop-p-init
loop-p-init c = zero_start _ c.requires

pub is_present-requires : goal.is_present-requires
is_present-requires c = omega arith

pub zero_pair-requires : goal.zero_pair-requires
zero_pair-requires c = (omega arith, c.loop-p.invariant.size)

pub loop-p-preserved : goal.loop-p-preserved
loop-p-preserved c =
    let inv = c.loop-p.invariant in
    let seen = c.is_present.ensures in
    elim c.if-not-is_present.branch [
      | then-not-is_present w ↦ rw w.sheet-is (zero_put _ _ inv (omega arith) (sym seen ∙ w.if-not-is_present.true) w.zero_pair.ensures)
      | else-not-is_present w ↦ rw w.sheet-is (zero_skip _ _ inv (omega arith) (sym seen ∙ w.if-not-is_present.false))
    ]

pub shape_of-sheet : goal.shape_of-sheet
shape_of-sheet c = c.loop-p.invariant.size ∙ sym c.requires

pub returns : goal.returns
returns c = zero_end _ c.loop-p.invariant (omega arith)
