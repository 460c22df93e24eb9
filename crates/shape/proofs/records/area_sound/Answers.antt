-- src/records.rt, area_sound: result ≡ area_test p.0 j (record { lo = a.0; hi = b.0 })
use mathlib.Core.Path.{refl, sym, ◌∙◌}
use Rattle.sound.specs.Clauses.{long}
use Rattle.shape.specs.Records.{area_test}
use Rattle.shape.proofs.records.area_sound.Goals as goal

pub returns-then-is_rooted : goal.returns-then-is_rooted
unfolding area_test long
returns-then-is_rooted c = rw (sym c.is_rooted.ensures ∙ c.if-is_rooted.true) c.is_nowhere.ensures

pub returns : goal.returns
unfolding area_test long
returns c = rw (sym c.is_rooted.ensures ∙ c.if-is_rooted.false) refl
