-- src/lib.rt, store: b.new ≡ bytes_of t.now
use mathlib.Core.Path.{refl}
use Rattle.loops.specs.Laws.Left.{bit_not}
use Rattle.memory.specs.Laws.ByteRecords.{wrote_word, wrote_on, wrote_at, wrote_all, tells_after, there_already, stored_after}
use native.Mathlib.Omega.{arith}
use Rattle.memory.proofs.store.Goals as goal
use Rattle.memory.proofs.store.Goals.{then-changed-p-eq1, else-changed-p-eq1}

pub store_record-requires : goal.store_record-requires
store_record-requires c =
    let w = c.loop-p.invariant in
    let wrote = wrote_on (wrote_word c.args.t.now 0 {s = c.args.b.now} c.put.ensures c.requires.0 (omega arith) (omega arith)) (omega arith) (omega arith) w in
    (w.size, omega arith, c.requires.1, tells_after wrote (omega arith) (c.requires.2.at _ (omega arith)))

pub loop-p-preserved : goal.loop-p-preserved
loop-p-preserved c =
    let w = c.loop-p.invariant in
    let wrote = wrote_on (wrote_word c.args.t.now 0 {s = c.args.b.now} c.put.ensures c.requires.0 (omega arith) (omega arith)) (omega arith) (omega arith) w in
    elim c.if-changed-p-eq1.branch [
      | then-changed-p-eq1 w' ↦ rw w'.b-is (wrote_at (wrote_on w (omega arith) (omega arith) w'.store_record.ensures) _ _ refl (omega arith))
      | else-changed-p-eq1 w' ↦ rw w'.b-is (wrote_at (wrote_on w (omega arith) (omega arith) (there_already _ w.size (stored_after wrote (omega arith) (c.requires.3.at _ (omega arith))) (bit_not _ _ refl w'.if-changed-p-eq1.false))) _ _ refl (omega arith))
    ]

pub returns : goal.returns
returns c =
    let wrote = wrote_on (wrote_word c.args.t.now 0 {s = c.args.b.now} c.put.ensures c.requires.0 (omega arith) (omega arith)) (omega arith) (omega arith) c.loop-p.invariant in
    wrote_all c.args.t.now {b = c.args.b.now} (wrote_at wrote _ _ refl (omega arith))
