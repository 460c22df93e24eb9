-- src/lib.rt, none_later: result ≡ all 80 (λ n. not (ltb m n) || apart ((view t.now).k.area (n / 5) (n % 5)) lo.0 hi.0)
use mathlib.Core.Bool.{not, ◌||◌}
use Prim.Native.Nat.{◌/◌, ◌%◌}
use Rattle.loops.specs.Laws.Every.{Passing}
use lib.Dec.{ltb}
use Rattle.tables.specs.View.{view}
use Rattle.tables.specs.Settle.{apart}
use Rattle.owning.proofs.none_later.Given as goal

abbrev pub invariant-loop-n : goal.invariant-loop-n
invariant-loop-n l = Passing (λ k. not (ltb l.m k) || apart ((view l.t).k.area (k / 5) (k % 5)) l.lo.0 l.hi.0) 80 l.n
