-- src/lib.rt, load: (t.new ≡ words_of b.now) × Top (words_of b.now) result
use Rattle.memory.specs.Laws.ByteRecords.{load_start, load_word, load_rest, records_part, end_top}
use native.Mathlib.Omega.{arith}
use Rattle.memory.proofs.load.Goals as goal

pub returns : goal.returns
returns c =
    let ended = c.zero_end-top.ensures in
    let bytes = c.args.b.now in
    let rest = c.load_records.ensures.of bytes (records_part bytes) (load_word bytes (load_start bytes c.requires.1) (omega arith) (omega arith) c.word.ensures) in
    (load_rest ended rest (omega arith), end_top ended (omega (arith, ended.within)) (omega arith))
