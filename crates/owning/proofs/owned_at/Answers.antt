-- src/lib.rt, owned_at: result ≡ s8 (view t.now).k p.0
use mathlib.Core.Path.{refl, ap, sym, ◌∙◌}
use mathlib.Core.Bool.{not}
use native.Mathlib.Omega.{arith}
use Rattle.loops.specs.Laws.Scan.{seek_start, seek_hit, seek_on, seek_end}
use Rattle.sound.specs.Clauses.{s8}
use Rattle.decide.specs.Laws.Decide.{passed, and_is}
use Rattle.owning.proofs.owned_at.Goals as goal

pub returns-then-not-areas_backed : goal.returns-then-not-areas_backed
unfolding s8
returns-then-not-areas_backed c = let f = c.areas_backed in rw (← f.ensures, c.if-not-areas_backed.true) refl

pub loop-j-init : goal.loop-j-init
unfolding s8
loop-j-init c = seek_start

pub returns-then-not-area_apart : goal.returns-then-not-area_apart
unfolding s8
returns-then-not-area_apart c = seek_hit c.loop-j.invariant (omega arith) (ap not (sym c.area_apart.ensures) ∙ (ap not c.if-not-area_apart.true)) ∙ and_is _ _ (passed c.areas_backed.ensures (ap not c.if-not-areas_backed.false))

pub loop-j-preserved : goal.loop-j-preserved
unfolding s8
loop-j-preserved c = seek_on c.loop-j.invariant (omega arith) (ap not (sym c.area_apart.ensures) ∙ (ap not c.if-not-area_apart.false))

pub returns : goal.returns
unfolding s8
returns c = seek_end c.loop-j.invariant (omega arith) ∙ and_is _ _ (passed c.areas_backed.ensures (ap not c.if-not-areas_backed.false))
