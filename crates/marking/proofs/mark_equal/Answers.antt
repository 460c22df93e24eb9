-- src/lib.rt, mark_equal: Marks (view t.now).k q.0 (area_between lo.0 hi.0) mark.old result mark.new
use mathlib.Core.Path.{refl}
use Rattle.marking.specs.Laws.Marking.{search_none, search_some, mark_tells}
use Rattle.marking.specs.Marking.{nobody, marked, before}
use Rattle.marking.proofs.mark_equal.Goals as goal

pub returns-in_default : goal.returns-in_default
returns-in_default c = nobody refl refl (search_none _ c.requires.1 _ _ c.equal_slot.ensures c.in_default.is)

pub has_slot-requires : goal.has_slot-requires
has_slot-requires c = (search_some _ c.requires.1 _ _ c.equal_slot.ensures c.in-Some.is).0

pub returns-then-has_slot : goal.returns-then-has_slot
returns-then-has_slot c =
    let (few, equal) = search_some _ c.requires.1 _ _ c.equal_slot.ensures c.in-Some.is in
    before _ few equal refl (mark_tells _ c.args.q.0 _ few c.has_slot.ensures c.if-has_slot.true) refl

pub with_slot-requires : goal.with_slot-requires
with_slot-requires c = (search_some _ c.requires.1 _ _ c.equal_slot.ensures c.in-Some.is).0

pub returns : goal.returns
returns c =
    let (few, equal) = search_some _ c.requires.1 _ _ c.equal_slot.ensures c.in-Some.is in
    marked _ few equal refl (mark_tells _ c.args.q.0 _ few c.has_slot.ensures c.if-has_slot.false) (rw c.with_slot.ensures refl)
