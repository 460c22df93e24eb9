-- src/take_service.rt, is_returned: result ≡ returned (view t.now) (entry_of e) i.0
use Rattle.blocks.specs.Laws.TakeExits.{returned_none, returned_given, returned_start, returned_end, returned_open}
use Rattle.words.specs.Laws.Same.{ne_same, ne_apart}
use Rattle.blocks.proofs.take_service.is_returned.Goals as goal

pub returns-then-not-f : goal.returns-then-not-f
returns-then-not-f c = returned_none c.args.e c.entry-f.ensures c.if-not-f.true

pub returns-then-f-ne0 : goal.returns-then-f-ne0
returns-then-f-ne0 c = returned_given c.args.e c.entry-f.ensures c.if-not-f.false c.if-f-ne0.true

pub returns-then-ne : goal.returns-then-ne
returns-then-ne c = returned_start c.args.e c.entry-f.ensures c.if-not-f.false c.if-f-ne0.false (ne_apart c.ne.ensures c.if-ne.true)

pub returns-then-ne-2 : goal.returns-then-ne-2
returns-then-ne-2 c = returned_end c.args.e c.entry-f.ensures c.if-not-f.false c.if-f-ne0.false (ne_same c.ne.ensures c.if-ne.false) (ne_apart c.ne-2.ensures c.if-ne-2.true)

pub returns : goal.returns
returns c = returned_open c.args.e c.entry-f.ensures c.if-not-f.false c.if-f-ne0.false (ne_same c.ne.ensures c.if-ne.false) (ne_same c.ne-2.ensures c.if-ne-2.false)
