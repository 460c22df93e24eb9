-- src/lib.rt, order_told: Decided board t.now result order.new.slots order.new.counts
use Rattle.decide.specs.Laws.Decide.{failed, passed, parts_formed, formed_first, formed_shaped, not_sound}
use Rattle.decide.specs.Laws.Decided.{not_marked, decided}
use Rattle.marking.specs.Laws.Marking.{no_marks}
use mathlib.Core.Path.{ap}
use mathlib.Core.Bool.{not}
use Rattle.decide.proofs.order_told.Goals as goal

pub is_formed-requires : goal.is_formed-requires
is_formed-requires c = c.requires

pub returns-then-not-is_formed : goal.returns-then-not-is_formed
returns-then-not-is_formed c = not_sound _ _ (λ h. failed c.is_formed.ensures (ap not c.if-not-is_formed.true) (parts_formed _ _ h))

pub arrange-requires : goal.arrange-requires
arrange-requires c = (c.requires.0, formed_shaped _ (passed c.is_formed.ensures (ap not c.if-not-is_formed.false)))

pub returns-then-not-arrange : goal.returns-then-not-arrange
returns-then-not-arrange c = not_sound _ _ (λ h. failed c.arrange.ensures.says (ap not c.if-not-arrange.true) h.s6)

pub mark_all-requires : goal.mark_all-requires
mark_all-requires c = (c.requires.0, formed_shaped _ (passed c.is_formed.ensures (ap not c.if-not-is_formed.false)), no_marks)

pub returns-then-not-mark_all : goal.returns-then-not-mark_all
returns-then-not-mark_all c = not_marked _ c.mark_all.ensures (ap not c.if-not-mark_all.true)

pub partitions_sound-requires : goal.partitions_sound-requires
partitions_sound-requires c = (
  c.requires.0,
  record {
    shaped = formed_shaped _ (passed c.is_formed.ensures (ap not c.if-not-is_formed.false));
    s6 = passed c.arrange.ensures.says (ap not c.if-not-arrange.false);
    orders = c.arrange.ensures.orders c.if-not-arrange.false;
    marked = c.mark_all.ensures.on c.if-not-mark_all.false;
  },
)

pub returns : goal.returns
returns c =
    let is = passed c.is_formed.ensures (ap not c.if-not-is_formed.false) in
    decided _ c.sized.ensures (formed_first _ is) (record {
      shaped = formed_shaped _ is;
      s6 = passed c.arrange.ensures.says (ap not c.if-not-arrange.false);
      orders = c.arrange.ensures.orders c.if-not-arrange.false;
      marked = c.mark_all.ensures.on c.if-not-mark_all.false;
    }) c.partitions_sound.ensures
