-- src/early.rt, holds: result ≡ clause_at board t.now n p.0
use mathlib.Core.Path.{◌≡◌}
use native.Mathlib.Omega.{arith}
use Rattle.sound.specs.Clauses.{s5, clause_at}
use Rattle.verdict.proofs.Laws.Stages.{reached_s3, reached_shaped}
use Rattle.verdict.proofs.early.holds.Goals as goal

pub returns-then-n-le1 : goal.returns-then-n-le1
unfolding s5 clause_at
returns-then-n-le1 c = let z : c.args.n ≡ 1 = omega (arith, c.requires.2.from) in rw z c.range_at.ensures

pub returns-then-n-le2 : goal.returns-then-n-le2
unfolding s5 clause_at
returns-then-n-le2 c = let z : c.args.n ≡ 2 = omega arith in rw z c.family_sound.ensures

pub returns-then-n-le3 : goal.returns-then-n-le3
unfolding s5 clause_at
returns-then-n-le3 c = let z : c.args.n ≡ 3 = omega arith in rw z c.clean_at.ensures

pub areas_at-requires : goal.areas_at-requires
unfolding s5 clause_at
areas_at-requires c = let h = c.requires in (h.0, reached_s3 h.2 (omega arith) _ h.0)

pub returns-then-n-le4 : goal.returns-then-n-le4
unfolding s5 clause_at
returns-then-n-le4 c = let z : c.args.n ≡ 4 = omega arith in rw z c.areas_at.ensures

pub returns-then-n-le5 : goal.returns-then-n-le5
unfolding s5 clause_at
returns-then-n-le5 c = let z : c.args.n ≡ 5 = omega arith in rw z c.slots_sound.ensures

pub apart_at-requires : goal.apart_at-requires
unfolding s5 clause_at
apart_at-requires c = let h = c.requires in (h.0, reached_shaped h.2 (omega arith))

pub returns : goal.returns
unfolding s5 clause_at
returns c = let z : c.args.n ≡ 6 = omega arith in rw z c.apart_at.ensures
