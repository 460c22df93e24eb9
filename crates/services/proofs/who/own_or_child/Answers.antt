-- src/who.rt, own_or_child: result ≡ own_or_child (view t.now).k p.0
use Rattle.services.specs.Laws.Who.{own_caller, own_other}
use Rattle.words.specs.Laws.Same.{eq_same, eq_apart}
use Rattle.services.proofs.who.own_or_child.Goals as goal

pub returns-then-eq : goal.returns-then-eq
returns-then-eq c = own_caller _ _ c.first-f.ensures.current (eq_same c.eq.ensures c.if-eq.true)

pub returns : goal.returns
returns c = own_other _ _ c.first-f.ensures.current (eq_apart c.eq.ensures c.if-eq.false) c.is_child.ensures
