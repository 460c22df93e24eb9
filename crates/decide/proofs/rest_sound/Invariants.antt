-- src/lib.rt, rest_sound: result ≡ all 16 (left_where board (view t.now))
use Rattle.loops.specs.Laws.Every.{Passing}
use Rattle.tables.specs.View.{view}
use Rattle.decide.specs.Local.{left_where}
use Rattle.decide.proofs.rest_sound.Given as goal

abbrev pub invariant-loop-p : goal.invariant-loop-p
invariant-loop-p l = Passing (left_where l.board (view l.t)) 16 l.p
