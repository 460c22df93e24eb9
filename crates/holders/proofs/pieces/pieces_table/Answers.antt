-- src/pieces.rt, pieces_table: PiecesListed board t.now partition slot list.old result list.new
use mathlib.Core.Path.{sym, ◌∙◌, ap}
use native.Mathlib.Omega.{arith}
use Rattle.decide.specs.Laws.Decide.{passed}
use Rattle.sound.proofs.Laws.Whole.{tested}
use Rattle.holders.specs.Laws.Listing.{pieces_unsound, pieces_nowhere, pieces_listed}
use mathlib.Core.Bool.{not}
use Rattle.holders.proofs.pieces.pieces_table.Goals as goal

pub is_sound-requires : goal.is_sound-requires
is_sound-requires c = c.requires

pub returns-then-not-is_sound : goal.returns-then-not-is_sound
returns-then-not-is_sound c = pieces_unsound _ (sym c.is_sound.ensures ∙ c.if-not-is_sound.true)

pub returns-then-partition-gt15 : goal.returns-then-partition-gt15
returns-then-partition-gt15 c = pieces_nowhere _ (passed c.is_sound.ensures (ap not c.if-not-is_sound.false)) (λ a b. omega arith)

pub returns-then-slot-gt31 : goal.returns-then-slot-gt31
returns-then-slot-gt31 c = pieces_nowhere _ (passed c.is_sound.ensures (ap not c.if-not-is_sound.false)) (λ a b. omega arith)

pub list_entry-requires : goal.list_entry-requires
list_entry-requires c = (omega arith, omega arith, tested _ _ (passed c.is_sound.ensures (ap not c.if-not-is_sound.false)))

pub returns : goal.returns
returns c = pieces_listed _ (passed c.is_sound.ensures (ap not c.if-not-is_sound.false)) c.list_entry.ensures
