-- src/read.rt, first: SeenFirst t.now result
use Rattle.tables.specs.Laws.Seen.{see_first}
use Rattle.tables.specs.View.{first_word}
use Rattle.tables.proofs.read.first.Goals as goal

pub returns : goal.returns
unfolding first_word
returns c = see_first _ _ c.fields.ensures
