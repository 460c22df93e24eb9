-- src/lib.rt, none_later: result ≡ all 80 (λ n. not (ltb m n) || apart ((view t.now).k.area (n / 5) (n % 5)) lo.0 hi.0)
use mathlib.Core.Path.{ap, sym, ◌∙◌}
use mathlib.Core.Bool.{not}
use native.Mathlib.Omega.{arith}
use Rattle.loops.specs.Laws.Scan.{seek_start, seek_hit, seek_on, seek_end}
use Rattle.owning.proofs.none_later.Goals as goal

pub loop-n-init : goal.loop-n-init
loop-n-init c = seek_start

pub returns-then-not-later_off : goal.returns-then-not-later_off
returns-then-not-later_off c = seek_hit c.loop-n.invariant (omega arith) (ap not (sym c.later_off.ensures) ∙ (ap not c.if-not-later_off.true))

pub loop-n-preserved : goal.loop-n-preserved
loop-n-preserved c = seek_on c.loop-n.invariant (omega arith) (ap not (sym c.later_off.ensures) ∙ (ap not c.if-not-later_off.false))

pub returns : goal.returns
returns c = seek_end c.loop-n.invariant (omega arith)
