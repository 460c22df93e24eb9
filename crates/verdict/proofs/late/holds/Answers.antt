-- src/late.rt, holds: result ≡ clause_at board t.now k p.0
use mathlib.Core.Path.{◌≡◌}
use native.Mathlib.Omega.{arith}
use Rattle.sound.specs.Clauses.{clause_at}
use Rattle.verdict.proofs.Laws.Stages.{reached_shaped, reached_before}
use Rattle.verdict.proofs.late.holds.Goals as goal

pub exact_at-requires : goal.exact_at-requires
unfolding clause_at
exact_at-requires c = let h = c.requires in (h.0, reached_shaped h.2 (omega arith), h.3.orders)

pub returns-then-k-le7 : goal.returns-then-k-le7
unfolding clause_at
returns-then-k-le7 c = let z : c.args.k ≡ 7 = omega arith in rw z c.exact_at.ensures

pub owned_at-requires : goal.owned_at-requires
unfolding clause_at
owned_at-requires c = let h = c.requires in (h.0, reached_shaped h.2 (omega arith))

pub returns-then-k-le8 : goal.returns-then-k-le8
unfolding clause_at
returns-then-k-le8 c = let z : c.args.k ≡ 8 = omega arith in rw z c.owned_at.ensures

pub opens_at-requires : goal.opens_at-requires
unfolding clause_at
opens_at-requires c = let h = c.requires in (h.0, reached_shaped h.2 (omega arith), h.3.areas)

pub returns-then-k-le9 : goal.returns-then-k-le9
unfolding clause_at
returns-then-k-le9 c = let z : c.args.k ≡ 9 = omega arith in rw z c.opens_at.ensures

pub returns-then-k-le10 : goal.returns-then-k-le10
unfolding clause_at
returns-then-k-le10 c = let z : c.args.k ≡ 10 = omega arith in rw z c.regions_right.ensures

pub rights_at-requires : goal.rights_at-requires
unfolding clause_at
rights_at-requires c = let h = c.requires in (h.0, reached_shaped h.2 (omega arith), h.3.orders, reached_before h.2 (omega arith) _ h.0)

pub returns : goal.returns
unfolding clause_at
returns c =
    let z : c.args.k ≡ 11 = omega (arith, c.requires.2.to) in
    rw z c.rights_at.ensures
