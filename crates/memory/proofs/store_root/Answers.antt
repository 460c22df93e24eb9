-- src/lib.rt, store_root: b.new ≡ bytes_of t.now
use Rattle.memory.specs.Laws.ByteRecords.{root_stored}
use Rattle.memory.proofs.store_root.Goals as goal

pub returns : goal.returns
returns c = root_stored c.requires.1 c.clear.ensures c.put.ensures c.put-2.ensures c.put-3.ensures c.put-4.ensures
