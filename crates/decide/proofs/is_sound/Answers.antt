-- src/lib.rt, is_sound: result ≡ sound board t.now
use Rattle.decide.proofs.is_sound.Goals as goal

pub returns : goal.returns
returns c = c.is_ordered.ensures.says
