-- src/merge_service.rt, one_grant: result ≡ any 32 (λ i. contains_both c.0 (entry_of e) (entry_of f) ((view t.now).k.slot q.0 i))
use Rattle.loops.specs.Laws.Scan.{seek_hit, seek_on, seek_end}
use native.Mathlib.Omega.{arith}
use Rattle.blocks.proofs.merge_service.one_grant.Goals as goal

pub returns-then-contains_both : goal.returns-then-contains_both
returns-then-contains_both c = seek_hit c.loop-i.invariant (omega arith) (rw (c.entry-g.ensures.slot, ← c.contains_both.ensures) c.if-contains_both.true)

pub loop-i-preserved : goal.loop-i-preserved
loop-i-preserved c = seek_on c.loop-i.invariant (omega arith) (rw (c.entry-g.ensures.slot, ← c.contains_both.ensures) c.if-contains_both.false)

pub returns : goal.returns
returns c = seek_end c.loop-i.invariant (omega arith)
