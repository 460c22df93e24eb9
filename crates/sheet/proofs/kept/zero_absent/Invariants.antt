-- src/kept.rt, zero_absent: sheet.new ≡ put_those (absent (view t.now).k) (view t.now) sheet.old
use Prim.Native.Nat.{◌*◌}
use Rattle.loops.specs.Loops.{Filling}
use Rattle.tables.specs.View.{view}
use Rattle.sheet.specs.Laws.Those.{or_zero}
use Rattle.sheet.proofs.kept.zero_absent.Given as goal

abbrev pub invariant-loop-p : goal.invariant-loop-p
invariant-loop-p l = Filling (or_zero (view l.t)) l.initial.sheet 256 (16 * l.p) l.sheet
