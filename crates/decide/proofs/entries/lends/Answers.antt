-- src/entries.rt, lends: result ≡ has (lends p.0 (entry_of f)) (entry_in g)
use mathlib.Core.Path.{refl, sym, ◌∙◌}
use borrow.Author.Tests.{not-true, not-false}
use Rattle.tables.specs.View.{entry_in}
use Rattle.sound.specs.Clauses.{has, lends}
use Rattle.decide.proofs.entries.lends.Goals as goal

pub returns-then-not-g : goal.returns-then-not-g
unfolding lends has entry_in
returns-then-not-g c = rw (c.if-not-g.true) refl

pub returns-then-ne : goal.returns-then-ne
unfolding lends has entry_in
returns-then-ne c = rw (c.if-not-g.false, not-true _ (sym c.ne.ensures ∙ c.if-ne.true)) refl

pub returns-then-ne-2 : goal.returns-then-ne-2
unfolding lends has entry_in
returns-then-ne-2 c = rw (c.if-not-g.false, not-false _ (sym c.ne.ensures ∙ c.if-ne.false), not-true _ (sym c.ne-2.ensures ∙ c.if-ne-2.true)) refl

pub returns : goal.returns
unfolding lends has entry_in
returns c = c.eq.ensures ∙ rw (c.if-not-g.false, not-false _ (sym c.ne.ensures ∙ c.if-ne.false), not-false _ (sym c.ne-2.ensures ∙ c.if-ne-2.false)) refl
