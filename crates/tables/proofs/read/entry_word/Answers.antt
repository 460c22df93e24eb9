-- src/read.rt, entry_word: result ≡ slot_word ((view t.now).k.slot p.0 i.0) ((view t.now).opened p.0 i.0)
use Rattle.tables.specs.Laws.Seen.{word_of_law}
use Rattle.tables.specs.View.{slot_word_at}
use Rattle.tables.proofs.read.entry_word.Goals as goal

pub returns : goal.returns
unfolding slot_word_at
returns c = let a = c.args in word_of_law a.t.now a.p.0 a.i.0 c.requires
