-- src/lib.rt, has_child: result ≡ has_child (view t.now).k p.0
use mathlib.Core.Path.{sym, ◌∙◌}
use Rattle.loops.specs.Laws.Scan.{seek_hit, seek_on, seek_end}
use Rattle.tables.specs.Search.{has_child}
use native.Mathlib.Omega.{arith}
use Rattle.searching.proofs.has_child.Goals as goal

pub returns-then-is_child : goal.returns-then-is_child
unfolding has_child
returns-then-is_child c = seek_hit c.loop-c.invariant (omega arith) (sym c.is_child.ensures ∙ c.if-is_child.true)

pub loop-c-preserved : goal.loop-c-preserved
unfolding has_child
loop-c-preserved c = seek_on c.loop-c.invariant (omega arith) (sym c.is_child.ensures ∙ c.if-is_child.false)

pub returns : goal.returns
unfolding has_child
returns c = seek_end c.loop-c.invariant (omega arith)
