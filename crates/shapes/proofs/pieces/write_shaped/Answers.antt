-- src/pieces.rt, write_shaped: ShapesListed (pieces_for V7 start end) list.old result list.new
use native.Mathlib.Omega.{arith}
use Rattle.shapes.proofs.Laws.Listing.{list_start, list_size, list_room, list_within, list_some, list_on, list_end}
use borrow.Author.Rules.{rules}
use Rattle.shapes.proofs.pieces.write_shaped.Goals as goal

pub loop-at-init : goal.loop-at-init
loop-at-init c = list_start c.requires.block

pub offset_bounds-list-n : goal.offset_bounds-list-n
offset_bounds-list-n c =
    let size = list_size c.loop-at.invariant c.requires in
    let room = list_room c.loop-at.invariant c.requires (omega arith) in
    search rules

pub bounds-list-n : goal.bounds-list-n
bounds-list-n c = list_room c.loop-at.invariant c.requires (omega arith)

pub overflow_add-n : goal.overflow_add-n
overflow_add-n c =
    let size = list_size c.loop-at.invariant c.requires in
    let room = list_room c.loop-at.invariant c.requires (omega arith) in
    search rules

pub overflow_add-at : goal.overflow_add-at
overflow_add-at c = omega (arith, list_within c.loop-at.invariant c.requires (omega arith) c.widest-lines.ensures)

pub loop-at-smaller : goal.loop-at-smaller
loop-at-smaller c = omega (arith, list_some c.loop-at.invariant c.requires (omega arith) c.widest-lines.ensures)

pub loop-at-preserved : goal.loop-at-preserved
loop-at-preserved c = list_on c.loop-at.invariant c.requires (omega arith) c.widest-lines.ensures c.piece_word.ensures

pub shape_of-list : goal.shape_of-list
shape_of-list c = list_size c.loop-at.invariant c.requires

pub returns : goal.returns
returns c = list_end c.loop-at.invariant c.requires (omega arith)
