-- src/facts.rt, can: result ≡ can_write board (view t.now) p.0 s.0 (entry_of f) f.opened
use mathlib.Core.Path.{sym, ◌∙◌}
use borrow.Author.Tests.{not-true, not-false}
use Rattle.who.specs.Laws.Who.{can_closed, can_no_right, can_pieces, can_if_loaded, can_if_current, can_now}
use Rattle.words.specs.Laws.Same.{ne_same, ne_apart}
use Rattle.who.proofs.facts.can.Goals as goal

pub returns-then-not-f : goal.returns-then-not-f
returns-then-not-f c = can_closed _ _ _ _ _ _ (not-true _ c.if-not-f.true)

pub returns-then-not-f-2 : goal.returns-then-not-f-2
returns-then-not-f-2 c = can_no_right _ _ _ _ _ _ (not-false _ c.if-not-f.false) (not-true _ c.if-not-f-2.true)

pub returns-then-piece_count-gt8 : goal.returns-then-piece_count-gt8
returns-then-piece_count-gt8 c = can_pieces _ _ _ _ _ _ (not-false _ c.if-not-f.false) (not-false _ c.if-not-f-2.false) (sym c.loaded.ensures ∙ c.if-not-loaded.true) c.piece_count.ensures.0 c.if-piece_count-gt8.true

pub returns-then-not-loaded : goal.returns-then-not-loaded
returns-then-not-loaded c = can_if_loaded _ _ _ _ _ _ (not-false _ c.if-not-f.false) (not-false _ c.if-not-f-2.false) (sym c.loaded.ensures ∙ c.if-not-loaded.true) c.piece_count.ensures.0 c.if-piece_count-gt8.false

pub returns-then-ne : goal.returns-then-ne
returns-then-ne c = can_if_current _ _ _ _ _ _ (not-false _ c.if-not-f.false) (not-false _ c.if-not-f-2.false) (sym c.loaded.ensures ∙ c.if-not-loaded.false) c.first-first.ensures.current (ne_apart c.ne.ensures c.if-ne.true)

pub returns : goal.returns
returns c = can_now _ _ _ _ _ _ (not-false _ c.if-not-f.false) (not-false _ c.if-not-f-2.false) (sym c.loaded.ensures ∙ c.if-not-loaded.false) c.first-first.ensures.current (ne_same c.ne.ensures c.if-ne.false)
