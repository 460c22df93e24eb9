-- src/facts.rt, loaded: result ≡ any 8 (names_it (view t.now) p.0 s.0)
use mathlib.Core.Path.{sym, ◌∙◌}
use Rattle.loops.specs.Laws.Scan.{seek_start, seek_hit, seek_on, seek_end}
use native.Mathlib.Omega.{arith}
use Rattle.who.proofs.facts.loaded.Goals as goal

pub loop-r-init : goal.loop-r-init
loop-r-init c = seek_start

pub returns-then-names : goal.returns-then-names
returns-then-names c = seek_hit c.loop-r.invariant (omega arith) (sym c.names.ensures ∙ c.if-names.true)

pub loop-r-preserved : goal.loop-r-preserved
loop-r-preserved c = seek_on c.loop-r.invariant (omega arith) (sym c.names.ensures ∙ c.if-names.false)

pub returns : goal.returns
returns c = seek_end c.loop-r.invariant (omega arith)
