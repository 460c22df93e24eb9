-- src/records.rt, eight_sound: result ≡ slots_test t.now (view t.now).k p.0 j
use Prim.Native.Nat.{◌+◌, ◌*◌}
use Rattle.loops.specs.Laws.Every.{Passing}
use Rattle.tables.specs.View.{view}
use Rattle.sound.specs.Clauses.{s5_slot}
use Rattle.shape.proofs.records.eight_sound.Given as goal

abbrev pub invariant-loop-o : goal.invariant-loop-o
invariant-loop-o l = Passing (λ o. s5_slot l.t (view l.t).k l.p.0 (8 * l.j + o)) 8 l.o
