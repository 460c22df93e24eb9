-- src/facts.rt, names: result ≡ names_it (view t.now) p.0 s.0 r
use mathlib.Core.Path.{◌∙◌}
use Rattle.who.specs.Laws.Who.{names_it_none, names_it_some}
use Rattle.who.proofs.facts.names.Goals as goal

pub returns-then-not-x : goal.returns-then-not-x
returns-then-not-x c = names_it_none _ c.regions-f.ensures _ c.requires.1 c.nth-x.ensures c.if-not-x.true

pub returns : goal.returns
returns c = c.eq.ensures ∙ names_it_some _ c.regions-f.ensures _ c.requires.1 c.nth-x.ensures c.if-not-x.false
