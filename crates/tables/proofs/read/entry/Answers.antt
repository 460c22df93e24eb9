-- src/read.rt, entry: Seen t.now p.0 i.0 result
use Rattle.tables.specs.Laws.Seen.{see}
use Rattle.tables.specs.View.{slot_word_at}
use Rattle.tables.proofs.read.entry.Goals as goal

pub returns : goal.returns
unfolding slot_word_at
returns c = let a = c.args in see a.t.now a.p.0 a.i.0 _ c.requires.0 c.requires.1 c.fields.ensures
