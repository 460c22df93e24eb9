-- src/lib.rt, partition_sound: result ≡ left_where board (view t.now) p.0
use mathlib.Core.Path.{sym, ◌∙◌, ap}
use Rattle.decide.specs.Laws.Decide.{passed}
use Rattle.decide.specs.Laws.Local.{left_absent, left_short, left_last}
use mathlib.Core.Bool.{not}
use Rattle.decide.proofs.partition_sound.Goals as goal

pub returns-then-not-is_present : goal.returns-then-not-is_present
returns-then-not-is_present c = left_absent _ _ _ (sym c.is_present.ensures ∙ c.if-not-is_present.true)

pub none_left-requires : goal.none_left-requires
none_left-requires c = let h = c.requires in (h.0, h.1.size_x)

pub returns-then-not-none_left : goal.returns-then-not-none_left
returns-then-not-none_left c =
    let there = passed c.is_present.ensures (ap not c.if-not-is_present.false) in
    left_short _ _ _ there (c.none_left.ensures ∙ c.requires.1.says _ c.requires.0 there) (ap not c.if-not-none_left.true)

pub returns : goal.returns
returns c =
    let there = passed c.is_present.ensures (ap not c.if-not-is_present.false) in
    left_last _ _ _ there (c.none_left.ensures ∙ c.requires.1.says _ c.requires.0 there) (ap not c.if-not-none_left.false) c.regions_right.ensures
