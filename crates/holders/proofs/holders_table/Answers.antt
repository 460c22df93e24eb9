-- src/lib.rt, holders_table: HoldersListed board t.now line list.old result list.new
use mathlib.Core.Path.{sym, ◌∙◌, ap}
use Rattle.decide.specs.Laws.Decide.{passed}
use Rattle.sound.proofs.Laws.Whole.{tested}
use Rattle.sound.proofs.Laws.Holders.{listed_unsound, listed_outside, listed_short, listed_done, below_base, from_end, in_memory_law}
use native.Mathlib.Omega.{arith}
use mathlib.Core.Bool.{not}
use Rattle.holders.proofs.holders_table.Goals as goal

pub is_sound-requires : goal.is_sound-requires
is_sound-requires c = c.requires

pub returns-then-not-is_sound : goal.returns-then-not-is_sound
returns-then-not-is_sound c = listed_unsound (sym c.is_sound.ensures ∙ c.if-not-is_sound.true)

pub returns-then-line-f : goal.returns-then-line-f
returns-then-line-f c = let f = c.first-f.ensures in listed_outside (passed c.is_sound.ensures (ap not c.if-not-is_sound.false)) (below_base _ _ (omega arith))

pub returns-then-line-f-2 : goal.returns-then-line-f-2
returns-then-line-f-2 c =
    let f = c.first-f.ensures in
    listed_outside (passed c.is_sound.ensures (ap not c.if-not-is_sound.false)) (from_end _ _ (omega arith) (omega arith))

pub returns-then-list-lt16 : goal.returns-then-list-lt16
returns-then-list-lt16 c =
    let f = c.first-f.ensures in
    listed_short (passed c.is_sound.ensures (ap not c.if-not-is_sound.false)) (in_memory_law _ _ (omega arith) (omega arith)) (omega arith)

pub write_holders-requires : goal.write_holders-requires
write_holders-requires c = (tested _ _ (passed c.is_sound.ensures (ap not c.if-not-is_sound.false)), omega arith)

pub returns : goal.returns
returns c =
    let f = c.first-f.ensures in
    listed_done (passed c.is_sound.ensures (ap not c.if-not-is_sound.false)) (in_memory_law _ _ (omega arith) (omega arith)) (omega arith) c.write_holders.ensures
