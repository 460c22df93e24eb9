-- src/merge_service.rt, contains_both: result ≡ contains_both c.0 (entry_of e) (entry_of f) (entry_in g)
use mathlib.Core.Path.{refl}
use borrow.Author.Tests.{not-true, not-false}
use Rattle.tables.specs.View.{entry_in}
use Rattle.sound.specs.Clauses.{has, contains_both}
use Rattle.blocks.proofs.merge_service.contains_both.Goals as goal

pub returns-then-not-g : goal.returns-then-not-g
unfolding contains_both has entry_in
returns-then-not-g c = rw (not-true c.args.g.present c.if-not-g.true) refl

pub returns-then-not-grants : goal.returns-then-not-grants
unfolding contains_both has entry_in
returns-then-not-grants c = rw (not-false c.args.g.present c.if-not-g.false, ← c.grants.ensures, c.if-not-grants.true) refl

pub returns : goal.returns
unfolding contains_both has entry_in
returns c = rw (not-false c.args.g.present c.if-not-g.false, ← c.grants.ensures, c.if-not-grants.false) c.grants-2.ensures
