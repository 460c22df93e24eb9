-- src/opening.rt, region_weight: (result ≡ weight board (view t.now) p.0 mask x) × IfSome result (λ n. n ≤ 52)
use mathlib.Core.Path.{sym, ◌∙◌}
use native.Mathlib.Omega.{arith}
use borrow.Author.Tests.{not-true, not-false}
use Rattle.loaded.specs.Laws.Regions.{weight_none, weight_closed, weight_again, weight_pieces}
use Rattle.loaded.proofs.opening.region_weight.Goals as goal

pub returns-then-not-x : goal.returns-then-not-x
returns-then-not-x c = (weight_none _ _ _ _ _ (not-true _ c.if-not-x.true), omega arith)

pub returns-then-not-is_open : goal.returns-then-not-is_open
returns-then-not-is_open c = (weight_closed _ _ _ _ _ (not-false _ c.if-not-x.false) (sym c.is_open.ensures ∙ c.if-not-is_open.true), tt)

pub returns-then-has_slot : goal.returns-then-has_slot
returns-then-has_slot c = (weight_again _ _ _ _ _ (not-false _ c.if-not-x.false) (sym c.is_open.ensures ∙ c.if-not-is_open.false) (sym c.has_slot.ensures ∙ c.if-has_slot.true), tt)

pub returns : goal.returns
returns c = (weight_pieces _ _ _ _ _ (not-false _ c.if-not-x.false) (sym c.is_open.ensures ∙ c.if-not-is_open.false) (sym c.has_slot.ensures ∙ c.if-has_slot.false) c.entry_pieces.ensures.0, c.entry_pieces.ensures.1)
