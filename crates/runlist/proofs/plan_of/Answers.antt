-- src/lib.rt, plan_of: (result ≡ plan_of board t.old size) × (t.new ≡ marks_in board t.old)
use mathlib.Core.Path.{◌∙◌, ap}
use native.Mathlib.Omega.{arith}
use Rattle.sound.proofs.Laws.Whole.{tested}
use Rattle.runlist.specs.Laws.Listing.{decided_unsound, decided_sound, decided_order, plan_unsound, plan_short, plan_done, marks_unsound, marks_sound}
use mathlib.Core.Bool.{not}
use Rattle.runlist.proofs.plan_of.Goals as goal

pub is_ordered-requires : goal.is_ordered-requires
is_ordered-requires c = c.requires

pub returns-then-not-is_ordered : goal.returns-then-not-is_ordered
returns-then-not-is_ordered c =
    let u = decided_unsound c.is_ordered.ensures (ap not c.if-not-is_ordered.true) in
    (c.refuse.ensures ∙ plan_unsound _ _ _ u, marks_unsound _ _ u)

pub leave_marks-n-requires : goal.leave_marks-n-requires
leave_marks-n-requires c = (tested _ _ (decided_sound c.is_ordered.ensures (ap not c.if-not-is_ordered.false)), decided_order c.is_ordered.ensures (ap not c.if-not-is_ordered.false))

pub returns-then-size-n : goal.returns-then-size-n
returns-then-size-n c =
    let s = decided_sound c.is_ordered.ensures (ap not c.if-not-is_ordered.false) in
    (c.refuse-then-size-n.ensures ∙ plan_short _ _ _ s c.leave_marks-n.ensures.0 c.if-size-n.true, marks_sound _ _ s c.leave_marks-n.ensures.1)

pub returns : goal.returns
returns c =
    let s = decided_sound c.is_ordered.ensures (ap not c.if-not-is_ordered.false) in
    (plan_done _ _ _ s c.leave_marks-n.ensures.0 (omega arith), marks_sound _ _ s c.leave_marks-n.ensures.1)
