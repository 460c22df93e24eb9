-- src/masks.rt, with_slot: result ≡ bit_or mask (2 ^ i.0)
use mathlib.Core.Path.{ap}
use lib.Bits.{bit_or}
use Rattle.tables.proofs.masks.with_slot.Goals as goal

pub returns : goal.returns
returns c = ap (bit_or c.args.mask) c.one_bit.ensures
