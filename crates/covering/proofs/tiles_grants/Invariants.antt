-- src/lib.rt, tiles_grants: result ≡ covers_for ranked (view t.now) p.0
use Rattle.covering.specs.Laws.Cover.{WalkedFor}
use Rattle.covering.proofs.tiles_grants.Given as goal

abbrev pub invariant-loop-j : goal.invariant-loop-j
invariant-loop-j l = WalkedFor l.ranked l.t l.order l.p.0 l.q.0 l.n l.m l.i l.j
