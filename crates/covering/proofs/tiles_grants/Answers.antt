-- src/lib.rt, tiles_grants: result ≡ covers_for ranked (view t.now) p.0
use native.Mathlib.Omega.{arith}
use Rattle.covering.specs.Laws.Cover.{cover_start, grant_filled, cover_end, cover_skip, cover_on, cover_stuck}
use Rattle.words.specs.Laws.Same.{eq_same, eq_apart}
use Rattle.covering.proofs.tiles_grants.Goals as goal
use Rattle.covering.proofs.tiles_grants.Goals.{then-eq+else-i-n, else-eq}

pub loop-j-init : goal.loop-j-init
loop-j-init c = cover_start

pub slot_at-s-requires : goal.slot_at-s-requires
slot_at-s-requires c = let h = c.requires.above in (h.in_p, omega (arith, h.rows.ordered.few), h.rows.ordered.under _ (omega arith))

pub entry-g-requires : goal.entry-g-requires
entry-g-requires c = let h = c.requires.above in (h.in_p, rw c.slot_at-s.ensures (h.rows.ordered.under _ (omega arith)))

pub tile_for-i-requires : goal.tile_for-i-requires
tile_for-i-requires c = (c.requires.own, c.loop-j.invariant.rows.few, grant_filled c.requires (omega arith) c.slot_at-s.ensures)

pub returns-then-i-n : goal.returns-then-i-n
returns-then-i-n c = cover_stuck c.requires c.loop-j.invariant (omega arith) c.slot_at-s.ensures c.entry-g.ensures (eq_same c.eq.ensures c.if-eq.true) c.tile_for-i.ensures (omega arith)

pub loop-j-preserved : goal.loop-j-preserved
loop-j-preserved c =
    elim c.if-eq.branch [
      | then-eq+else-i-n w ↦ rw w.i-is (cover_on c.requires c.loop-j.invariant (omega arith) c.slot_at-s.ensures c.entry-g.ensures (eq_same c.eq.ensures w.if-eq.true) w.tile_for-i.ensures w.if-i-n.false)
      | else-eq w ↦ rw w.i-is (cover_skip c.requires c.loop-j.invariant (omega arith) c.slot_at-s.ensures c.entry-g.ensures (eq_apart c.eq.ensures w.if-eq.false))
    ]

pub returns : goal.returns
returns c = cover_end c.requires c.loop-j.invariant (omega arith)
