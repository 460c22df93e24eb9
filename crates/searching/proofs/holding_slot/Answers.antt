-- src/lib.rt, holding_slot: result ≡ looked_of (look_for (view t.now).k l.0 p.0)
-- the answer, by the slot
use mathlib.Core.Path.{ap, sym, ◌∙◌}
use Rattle.loops.specs.Laws.Scan.{seek_hit, seek_on, seek_end}
use Rattle.tables.specs.State.{Opt}
use Prim.Native.Nat.{ℕ}
use Rattle.tables.specs.Search.{lowest, looked_at}
use Rattle.tables.specs.Answers.{found_of, looked_of}
use Rattle.tables.specs.declared.Looked.{Looked}
use native.Mathlib.Omega.{arith}
use Rattle.searching.proofs.holding_slot.Goals as goal

-- the answer, by the slot
abbrev answer : Opt ℕ → Looked
answer o = looked_of (record { slot = o; count = looked_at o })

pub returns-then-holds_line : goal.returns-then-holds_line
unfolding lowest found_of looked_at looked_of
returns-then-holds_line c = ap answer (seek_hit c.loop-s.invariant (omega arith) (sym c.holds_line.ensures ∙ c.if-holds_line.true))

pub loop-s-preserved : goal.loop-s-preserved
unfolding lowest found_of looked_at looked_of
loop-s-preserved c = seek_on c.loop-s.invariant (omega arith) (sym c.holds_line.ensures ∙ c.if-holds_line.false)

pub returns : goal.returns
unfolding lowest found_of looked_at looked_of
returns c = ap answer (seek_end c.loop-s.invariant (omega arith))
