-- src/take_service.rt, returned_slot: result ≡ found_of (lowest 32 (returned (view t.now) (entry_of e)))
use mathlib.Core.Path.{ap, sym, ◌∙◌}
use Rattle.loops.specs.Laws.Scan.{seek_hit, seek_on, seek_end}
use Rattle.tables.specs.Search.{lowest}
use Rattle.tables.specs.Answers.{found_of}
use native.Mathlib.Omega.{arith}
use Rattle.blocks.proofs.take_service.returned_slot.Goals as goal

pub returns-then-is_returned : goal.returns-then-is_returned
unfolding lowest found_of
returns-then-is_returned c = ap found_of (seek_hit c.loop-i.invariant (omega arith) (sym c.is_returned.ensures ∙ c.if-is_returned.true))

pub loop-i-preserved : goal.loop-i-preserved
unfolding lowest found_of
loop-i-preserved c = seek_on c.loop-i.invariant (omega arith) (sym c.is_returned.ensures ∙ c.if-is_returned.false)

pub returns : goal.returns
unfolding lowest found_of
returns c = ap found_of (seek_end c.loop-i.invariant (omega arith))
