-- src/lib.rt, note_pair: same.new ≡ (pair_is sheet.now p.0 masks lines && same.old)
use mathlib.Core.Path.{refl, sym, ◌∙◌}
use Rattle.comparing.proofs.note_pair.Goals as goal

pub pair_is-requires : goal.pair_is-requires
pair_is-requires c = c.requires

pub returns-then-pair_is : goal.returns-then-pair_is
returns-then-pair_is c = rw (sym c.pair_is.ensures ∙ c.if-pair_is.true) refl

pub returns : goal.returns
returns c = rw (sym c.pair_is.ensures ∙ c.if-pair_is.false) refl
