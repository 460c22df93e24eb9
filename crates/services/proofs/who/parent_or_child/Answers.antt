-- src/who.rt, parent_or_child: result ≡ parent_or_child (view t.now).k p.0
use Rattle.services.specs.Laws.Who.{is_parent, of_root, not_parent}
use Rattle.words.specs.Laws.Same.{eq_same, eq_apart}
use Rattle.services.proofs.who.parent_or_child.Goals as goal

pub returns-then-f-eq0 : goal.returns-then-f-eq0
returns-then-f-eq0 c = of_root _ _ c.first-f.ensures.current c.if-f-eq0.true c.is_child.ensures

pub returns-then-eq : goal.returns-then-eq
returns-then-eq c = is_parent _ _ c.first-f.ensures.current c.if-f-eq0.false c.header-h.ensures.parent (eq_same c.eq.ensures c.if-eq.true)

pub returns : goal.returns
returns c = not_parent _ _ c.first-f.ensures.current c.if-f-eq0.false c.header-h.ensures.parent (eq_apart c.eq.ensures c.if-eq.false) c.is_child-2.ensures
