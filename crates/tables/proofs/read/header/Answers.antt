-- src/read.rt, header: SeenHeader t.now p.0 result
use Rattle.tables.specs.Laws.Seen.{see_header}
use native.Mathlib.Nat.{add-zero}
use Rattle.tables.specs.View.{area_word_at}
use Rattle.tables.proofs.read.header.Goals as goal

pub returns : goal.returns
unfolding area_word_at
returns c = let a = c.args in see_header a.t.now a.p.0 _ c.requires (rw add-zero c.fields.ensures)
