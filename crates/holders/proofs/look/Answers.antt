-- src/lib.rt, look: (result.heir.0 ≡ heir (view t.now).k l.0 p.0) × (result.heir.0 < 16) × (result.count ≡ (look_for (view t.now).k l.0 p.0).count)
use Rattle.tables.specs.Laws.Search.{lowest_some}
use Rattle.tables.specs.Laws.Answers.{looked_slot, looked_count}
use Rattle.sound.proofs.Laws.Holders.{heir_none, heir_given, heir_empty}
use native.Mathlib.Omega.{arith}
use Rattle.holders.proofs.look.Goals as goal

pub returns-in_default : goal.returns-in_default
returns-in_default c =
    let e = c.holding_slot-looked.ensures in
    (heir_none _ _ _ (looked_slot _ e c.in_default.is), omega arith, looked_count _ e)

pub entry-f-requires : goal.entry-f-requires
entry-f-requires c =
    let e = c.holding_slot-looked.ensures in
    (c.requires, (lowest_some 32 _ _ (looked_slot _ e c.in-Some.is)).below)

pub returns-then-f : goal.returns-then-f
returns-then-f c =
    let e = c.holding_slot-looked.ensures in
    let f = c.entry-f.ensures in
    (heir_given _ _ _ _ _ (looked_slot _ e c.in-Some.is) f.slot c.if-f.true, f.given_small, looked_count _ e)

pub returns : goal.returns
returns c =
    let e = c.holding_slot-looked.ensures in
    let f = c.entry-f.ensures in
    (heir_empty _ _ _ _ _ (looked_slot _ e c.in-Some.is) f.slot c.if-f.false, omega arith, looked_count _ e)
