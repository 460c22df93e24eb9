-- src/merge_service.rt, grants: result ≡ grants c.0 (entry_of e) (entry_of g)
use mathlib.Core.Path.{refl}
use borrow.Author.Tests.{eq-eqb, ne_eqb, le-leb, lt-leb}
use Rattle.sound.specs.Clauses.{grants}
use Rattle.words.specs.Laws.Same.{ne_same, ne_apart}
use Rattle.blocks.proofs.merge_service.grants.Goals as goal

pub returns-then-ne : goal.returns-then-ne
unfolding grants
returns-then-ne c = rw (ne_eqb _ _ (ne_apart c.ne.ensures c.if-ne.true)) refl

pub returns-then-g-e : goal.returns-then-g-e
unfolding grants
returns-then-g-e c = rw (eq-eqb _ _ (ne_same c.ne.ensures c.if-ne.false), lt-leb _ _ c.if-g-e.true) refl

pub returns : goal.returns
unfolding grants
returns c = rw (eq-eqb _ _ (ne_same c.ne.ensures c.if-ne.false), le-leb _ _ c.if-g-e.false) refl
