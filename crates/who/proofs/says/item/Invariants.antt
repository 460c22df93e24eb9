-- src/says.rt, item: OnOk result (Appends (W.contents out.old) (W.contents out.new) (item_line kind.now numbers.now))
use Rattle.std.proofs.Common.{◌++◌, take}
use Rattle.std.specs.Io.KnownBytes.{Appends}
use Rattle.who.specs.Items.{numbers_text}
use Rattle.who.proofs.says.item.Given as goal

abbrev pub invariant-loop-n : goal.invariant-loop-n
invariant-loop-n g l = Appends (g.W.Write.contents l.fn.out) (g.W.Write.contents l.out) (l.kind ++ numbers_text (take l.n-index l.numbers))
