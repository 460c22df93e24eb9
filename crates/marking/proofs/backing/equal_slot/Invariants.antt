-- src/backing.rt, equal_slot: result ≡ equal_slot (view t.now).k q.0 (area_between lo.0 hi.0)
use Rattle.std.specs.Prelude.{None}
use Rattle.loops.specs.Laws.Scan.{Seeking}
use Rattle.tables.specs.View.{view}
use Rattle.marking.specs.Backing.{area_between, backs}
use Rattle.marking.specs.Marking.{found_slot}
use Rattle.marking.proofs.backing.equal_slot.Given as goal

abbrev pub invariant-loop-i : goal.invariant-loop-i
invariant-loop-i l = Seeking (λ k. backs (area_between l.lo.0 l.hi.0) ((view l.t).k.slot l.q.0 k)) found_slot None 32 l.i
