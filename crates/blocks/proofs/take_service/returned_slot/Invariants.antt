-- src/take_service.rt, returned_slot: result ≡ found_of (lowest 32 (returned (view t.now) (entry_of e)))
use Rattle.loops.specs.Laws.Scan.{Seeking}
use Rattle.tables.specs.State.{none, some}
use Rattle.tables.specs.View.{view, entry_of}
use Rattle.rules.specs.Rules.{returned}
use Rattle.blocks.proofs.take_service.returned_slot.Given as goal

abbrev pub invariant-loop-i : goal.invariant-loop-i
invariant-loop-i l = Seeking (returned (view l.t) (entry_of l.e)) some none 32 l.i
