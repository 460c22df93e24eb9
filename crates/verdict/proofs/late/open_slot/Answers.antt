-- src/late.rt, open_slot: result ≡ open_slot (view t.now) p.0 i.0
use borrow.Author.Tests.{not-true, not-false}
use Rattle.verdict.specs.Laws.Opens.{open_empty, open_there}
use Rattle.verdict.proofs.late.open_slot.Goals as goal

pub returns-then-not-f : goal.returns-then-not-f
returns-then-not-f c = let f = c.entry-f in let h = c.requires in open_empty f.ensures h.2 h.0 h.1 (not-true f.result.present c.if-not-f.true)

pub is_clear_of-requires : goal.is_clear_of-requires
is_clear_of-requires c = c.requires.3.rising.few

pub returns : goal.returns
returns c =
    let f = c.entry-f in
    open_there f.ensures c.requires.3 (not-false f.result.present c.if-not-f.false) c.is_clear_of.ensures
