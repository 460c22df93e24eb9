-- src/lib.rt, free_slot: result ≡ found_of (lowest 32 (free (view t.now).k p.0))
use mathlib.Core.Path.{ap}
use Rattle.loops.specs.Laws.Map.{zeros_none, zeros_first}
use Rattle.tables.specs.State.{none, some}
use Rattle.tables.specs.Search.{lowest}
use Rattle.tables.specs.Answers.{found_of}
use Rattle.searching.proofs.free_slot.Goals as goal

pub returns-then-i-eq32 : goal.returns-then-i-eq32
unfolding lowest found_of
returns-then-i-eq32 c = ap found_of (zeros_none 32 _ c.free_map-i.ensures some none c.if-i-eq32.true)

pub returns : goal.returns
unfolding lowest found_of
returns c = ap found_of (zeros_first 32 _ c.free_map-i.ensures some none c.if-i-eq32.false)
