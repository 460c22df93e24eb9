-- src/tiles.rt, tile_lines: Tiled (plain_row t.now order.now p.0) n i lo.0 hi.0 all_rights result
use native.Mathlib.Omega.{arith}
use Rattle.words.specs.Laws.Same.{ne_same, ne_apart}
use Rattle.decide.specs.Laws.Tiles.{tile_start, tile_end}
use Rattle.decide.specs.Laws.Lines.{line_none, line_elsewhere, line_over, line_next}
use Rattle.decide.proofs.tiles.tile_lines.Goals as goal

pub loop-at-init : goal.loop-at-init
loop-at-init c = (c.requires.1, tile_start)

pub returns-then-a-n : goal.returns-then-a-n
returns-then-a-n c = line_none c.requires.0 c.loop-at.invariant.1 (omega arith) (omega arith)

pub entry_at-f-requires : goal.entry_at-f-requires
entry_at-f-requires c = let h = c.requires.0 in (h.in_p, omega (arith, h.rows.ordered.few), h.rows.ordered.under _ (omega arith))

pub returns-then-ne : goal.returns-then-ne
returns-then-ne c = line_elsewhere c.requires.0 c.loop-at.invariant.1 (omega arith) (omega arith) c.entry_at-f.ensures (ne_apart c.ne.ensures c.if-ne.true)

pub returns-then-f-hi : goal.returns-then-f-hi
returns-then-f-hi c = line_over c.requires.0 c.loop-at.invariant.1 (omega arith) (omega arith) c.entry_at-f.ensures c.if-f-hi.true

pub loop-at-preserved : goal.loop-at-preserved
loop-at-preserved c =
    (omega arith, line_next c.requires.0 c.loop-at.invariant.1 (omega arith) (omega arith) c.entry_at-f.ensures (ne_same c.ne.ensures c.if-ne.false) (omega arith))

pub returns : goal.returns
returns c = tile_end c.loop-at.invariant.1 c.loop-at.invariant.0 (omega arith)
