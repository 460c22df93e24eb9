-- src/backing.rt, backs: result ≡ backs (area_between lo.0 hi.0) (entry_in f)
use mathlib.Core.Path.{refl, sym, ◌∙◌}
use borrow.Author.Tests.{not-true, not-false, eq-eqb, ne_eqb}
use Rattle.tables.specs.View.{entry_in}
use Rattle.sound.specs.Clauses.{has}
use Rattle.marking.specs.Backing.{backs}
use Rattle.marking.proofs.backing.backs.Goals as goal

pub returns-then-not-f : goal.returns-then-not-f
unfolding backs has entry_in
returns-then-not-f c = rw (c.if-not-f.true) refl

pub returns-then-f-ne0 : goal.returns-then-f-ne0
unfolding backs has entry_in
returns-then-f-ne0 c = rw (c.if-not-f.false, ne_eqb _ 0 c.if-f-ne0.true) refl

pub returns-then-ne : goal.returns-then-ne
unfolding backs has entry_in
returns-then-ne c = rw (c.if-not-f.false, eq-eqb _ 0 c.if-f-ne0.false, not-true _ (sym c.ne.ensures ∙ c.if-ne.true)) refl

pub returns : goal.returns
unfolding backs has entry_in
returns c = c.eq.ensures ∙ rw (c.if-not-f.false, eq-eqb _ 0 c.if-f-ne0.false, not-false _ (sym c.ne.ensures ∙ c.if-ne.false)) refl
