-- src/kept.rt, climb_pairs: sheet.new ≡ put_those (above (view t.now).k p.0) (view t.now) sheet.old
use Rattle.tables.specs.View.{view}
use Rattle.sheet.specs.Laws.Those.{GoingUp}
use Rattle.sheet.proofs.kept.climb_pairs.Given as goal

abbrev pub invariant-loop : goal.invariant-loop
invariant-loop l = GoingUp (view l.t) l.initial.q l.initial.sheet l.q l.counter l.sheet
