-- src/walk.rt, mark: Marked marks.old n last.0 start.0 deepest.0 result marks.new
use Rattle.runs.specs.Laws.Marks.{marked_same, marked_new}
use Rattle.words.specs.Laws.Same.{eq_same, eq_apart}
use Rattle.runs.proofs.walk.mark.Goals as goal

pub returns-then-eq : goal.returns-then-eq
returns-then-eq c = marked_same (eq_same c.eq.ensures c.if-eq.true)

pub mark_of-requires : goal.mark_of-requires
mark_of-requires c = (c.requires.2, c.requires.3)

pub returns : goal.returns
returns c = marked_new c.mark_of.ensures (eq_apart c.eq.ensures c.if-eq.false)
