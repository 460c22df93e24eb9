-- src/backed.rt, areas_backed: result ≡ all 5 (s8_backed (view t.now).k p.0)
use mathlib.Core.Path.{ap, sym, ◌∙◌}
use mathlib.Core.Bool.{not}
use Rattle.loops.specs.Laws.Every.{fail_of}
use Rattle.loops.specs.Laws.Scan.{seek_start, seek_hit, seek_on, seek_end}
use Rattle.tables.specs.View.{view}
use Rattle.sound.specs.Clauses.{s8_backed}
use native.Mathlib.Omega.{arith}
use Rattle.owning.proofs.backed.areas_backed.Goals as goal

pub returns-then-not-header_backed : goal.returns-then-not-header_backed
returns-then-not-header_backed c = let a = c.args in sym (fail_of 5 (s8_backed (view a.t.now).k a.p.0) 0 (omega arith) (sym c.header_backed.ensures ∙ c.if-not-header_backed.true))

pub loop-j-init : goal.loop-j-init
loop-j-init c = seek_on seek_start (omega arith) (ap not (sym c.header_backed.ensures) ∙ (ap not c.if-not-header_backed.false))

pub returns-then-not-structure_backed : goal.returns-then-not-structure_backed
returns-then-not-structure_backed c = seek_hit c.loop-j.invariant (omega arith) (ap not (sym c.structure_backed.ensures) ∙ (ap not c.if-not-structure_backed.true))

pub loop-j-preserved : goal.loop-j-preserved
loop-j-preserved c = seek_on c.loop-j.invariant (omega arith) (ap not (sym c.structure_backed.ensures) ∙ (ap not c.if-not-structure_backed.false))

pub returns : goal.returns
returns c = seek_end c.loop-j.invariant (omega arith)
