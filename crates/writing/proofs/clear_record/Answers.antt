-- src/lib.rt, clear_record: Is t.new (clear_record (view t.old) p.0)
use Rattle.writing.specs.Laws.Clearing.{clear_start, clear_on, clear_end}
use native.Mathlib.Omega.{arith}
use Rattle.writing.proofs.clear_record.Goals as goal

pub loop-o-init : goal.loop-o-init
loop-o-init c = clear_start c.requires

pub loop-o-preserved : goal.loop-o-preserved
loop-o-preserved c = clear_on c.requires c.loop-o.invariant (omega arith)

pub returns : goal.returns
returns c = clear_end c.requires c.loop-o.invariant (omega arith)
