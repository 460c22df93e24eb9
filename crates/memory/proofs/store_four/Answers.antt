-- src/lib.rt, store_four: Wrote (byte_of t.now) b.old (8 * k) (8 * k + 32) b.new
use mathlib.Core.Path.{refl}
use Prim.Native.Nat.{◌+◌}
use Rattle.memory.specs.Laws.ByteRecords.{wrote_word, wrote_on, wrote_at}
use native.Mathlib.Omega.{arith}
use Rattle.memory.proofs.store_four.Goals as goal

pub loop-o-preserved : goal.loop-o-preserved
loop-o-preserved c =
    let w = c.loop-o.invariant in
    wrote_at (wrote_on w (omega arith) (omega arith) (wrote_word c.args.t.now (c.args.k + c.loop-o.o) c.put.ensures w.size (omega arith) (omega arith))) _ _ refl (omega arith)
