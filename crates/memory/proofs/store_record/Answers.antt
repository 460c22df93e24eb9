-- src/lib.rt, store_record: Wrote (byte_of t.now) b.old (8 + 320 * p.0) (328 + 320 * p.0) b.new
use native.Mathlib.Nat.{add-zero}
use Rattle.tables.specs.View.{area_word_at}
use Rattle.memory.specs.Laws.ByteRecords.{clear_stored}
use Rattle.memory.proofs.store_record.Goals as goal

pub returns-then-t-at-eq0 : goal.returns-then-t-at-eq0
unfolding area_word_at
returns-then-t-at-eq0 c = clear_stored _ _ (c.requires.2.zero _ c.requires.1 (rw add-zero c.if-t-at-eq0.true)) c.clear_record.ensures
