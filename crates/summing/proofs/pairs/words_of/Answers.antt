-- src/pairs.rt, words_of: (result.masks ≡ masks_with children (view t.now) p.0) × (result.lines ≡ lines_word (view t.now) p.0)
use mathlib.Core.Path.{sym, ◌∙◌}
use Rattle.summing.specs.Laws.Written.{pair_none}
use Rattle.summing.proofs.pairs.words_of.Goals as goal

pub is_present-requires : goal.is_present-requires
is_present-requires c = c.requires.0

pub returns-then-not-is_present : goal.returns-then-not-is_present
returns-then-not-is_present c = pair_none c.requires.2 _ _ (sym c.is_present.ensures ∙ c.if-not-is_present.true)

pub gather-x-requires : goal.gather-x-requires
gather-x-requires c = (c.requires.0, c.requires.2)

pub words_from-requires : goal.words_from-requires
words_from-requires c =
    let asked = c.requires in
    (asked.0, asked.1, sym c.is_present.ensures ∙ c.if-not-is_present.false, c.gather-x.ensures)

pub returns : goal.returns
returns c =
    let right = c.requires.2 in
    (c.words_from.ensures.masks right, c.words_from.ensures.lines right)
