-- src/region_services.rt, pieces_after: result ≡ loaded_pieces board (view t.now).k.slot (upd (view t.now).region p.0 r (some s.0)) p.0
use mathlib.Core.Path.{◌∙◌}
use Rattle.loaded.specs.Laws.Limit.{pieces_after, can_count_after}
use Rattle.services.proofs.region_services.pieces_after.Goals as goal

pub loaded_pieces-requires : goal.loaded_pieces-requires
loaded_pieces-requires c = rw c.with_region-f.ensures (can_count_after c.regions.ensures c.args.r c.args.s.0 c.requires.0 c.requires.1)

pub returns : goal.returns
returns c = c.loaded_pieces.ensures ∙ rw c.with_region-f.ensures (pieces_after c.regions.ensures c.args.r c.args.s.0 _)
