-- src/lib.rt, is_sound_formed: result ≡ sound board t.now
use Rattle.decide.proofs.is_sound_formed.Goals as goal

pub order_told-requires : goal.order_told-requires
order_told-requires c = let asked = c.requires in (asked.0, λ q. asked.1)

pub returns : goal.returns
returns c = c.order_told.ensures.says
