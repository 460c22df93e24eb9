-- src/masks.rt, one_bit: result ≡ 2 ^ i
use Rattle.loops.specs.Laws.Mask.{bit_alone}
use Rattle.tables.proofs.masks.one_bit.Goals as goal

pub returns : goal.returns
returns c = bit_alone c.args.i c.requires
