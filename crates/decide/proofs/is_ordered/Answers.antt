-- src/lib.rt, is_ordered: Decided board t.now result order.new.slots order.new.counts
use mathlib.Core.Bool.{false≢true}
use Rattle.decide.proofs.is_ordered.Goals as goal

pub order_told-requires : goal.order_told-requires
order_told-requires c = (c.requires, λ q. absurd (false≢true q))
