-- src/tiles.rt, tile: TiledAs (row_of t.now order.now p.0) (opened_bit t.now order.now p.0) n i lo.0 hi.0 r opened result
use mathlib.Core.Path.{refl, sym}
use borrow.Author.Tests.{not-false, eq-eqb}
use Rattle.sound.specs.Laws.Tests.{not_says}
use Rattle.sound.proofs.Laws.MeansRegions.{beq_means}
use Rattle.words.specs.Laws.Same.{ne_same, ne_apart}
use Rattle.decide.specs.Laws.Tiles.{compare_start, set_start, set_on, few, stuck_as, other_bits, same_bits, tile_start, tile_none, tile_elsewhere, tile_over, tile_unlike, tile_next, compare_next, not_first}
use native.Mathlib.Omega.{arith}
use borrow.Author.Rules.{rules}
use Rattle.decide.proofs.tiles.tile.Goals as goal

pub loop-at-init : goal.loop-at-init
loop-at-init c = (c.requires.1, tile_start, compare_start, sym (eq-eqb c.args.i c.args.i refl), set_start)

pub returns-then-k-n : goal.returns-then-k-n
returns-then-k-n c = stuck_as (few c.requires.0) (tile_none c.requires.0 c.loop-at.invariant.1 (omega arith) (omega arith))

pub entry_at-f-requires : goal.entry_at-f-requires
entry_at-f-requires c = let h = c.requires.0 in (h.in_p, omega (arith, h.rows.ordered.few), h.rows.ordered.under _ (omega arith))

pub returns-then-ne : goal.returns-then-ne
returns-then-ne c = stuck_as (few c.requires.0) (tile_elsewhere c.requires.0 c.loop-at.invariant.1 (omega arith) (omega arith) c.entry_at-f.ensures (ne_apart c.ne.ensures c.if-ne.true))

pub returns-then-f-hi : goal.returns-then-f-hi
returns-then-f-hi c = stuck_as (few c.requires.0) (tile_over c.requires.0 c.loop-at.invariant.1 (omega arith) (omega arith) c.entry_at-f.ensures c.if-f-hi.true)

pub returns-then-not-follows : goal.returns-then-not-follows
returns-then-not-follows c = stuck_as (few c.requires.0) (tile_unlike c.requires.0 c.loop-at.invariant.1 (omega arith) (omega arith) c.entry_at-f.ensures c.loop-at.invariant.2 (rw (← c.loop-at.invariant.3, ← c.follows.ensures) c.if-not-follows.true))

pub overflow_add-k : goal.overflow_add-k
overflow_add-k c = let h = c.requires.0.rows.ordered.few in search rules

pub loop-at-smaller : goal.loop-at-smaller
loop-at-smaller c = omega arith

pub loop-at-preserved : goal.loop-at-preserved
loop-at-preserved c =
    let u = ne_same c.ne.ensures c.if-ne.false in (
      omega arith,
      tile_next c.requires.0 c.loop-at.invariant.1 (omega arith) (omega arith) c.entry_at-f.ensures c.loop-at.invariant.2 u (omega arith) (rw (← c.loop-at.invariant.3, ← c.follows.ensures) c.if-not-follows.false),
      compare_next c.requires.0 c.loop-at.invariant.1 (omega arith) (omega arith) c.entry_at-f.ensures c.loop-at.invariant.2 u (omega arith) (rw (← c.loop-at.invariant.3, ← c.follows.ensures) c.if-not-follows.false),
      not_first c.loop-at.invariant.1,
      set_on c.loop-at.invariant.1.up c.loop-at.invariant.4 (sym c.entry_at-f.ensures.opened),
    )

pub returns-then-all_open-opened : goal.returns-then-all_open-opened
returns-then-all_open-opened c = other_bits c.loop-at.invariant.0 (omega arith) c.loop-at.invariant.1 c.loop-at.invariant.4 (few c.requires.0) (λ e. not_says _ c.if-all_open-opened.true ((beq_means _ _).1 e))

pub returns : goal.returns
returns c = same_bits c.loop-at.invariant.0 (omega arith) c.loop-at.invariant.1 c.loop-at.invariant.4 ((beq_means _ _).0 (not-false _ c.if-all_open-opened.false))
