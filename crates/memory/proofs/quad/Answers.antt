-- src/lib.rt, quad: Quad b.now i result
use Rattle.memory.specs.Laws.Quads.{quad_pairs}
use Rattle.memory.proofs.quad.Goals as goal

pub returns : goal.returns
returns c =
    let low = c.pair.ensures in
    quad_pairs _ _ low.2 low.3 c.pair-2.ensures.2 low.0 c.pair-2.ensures.0
