-- src/region_services.rt, unload: Ran (unload (view t.old) p.0 r) t.old result t.new
use mathlib.Core.Path.{refl, sym, ◌∙◌}
use Rattle.sound.specs.Laws.Settled.{unload_settled, settled_words}
use Rattle.rules.specs.Rules.{unload}
use Rattle.rules.specs.Laws.Ran.{ran_refused, ran_done, pass, fail}
use Rattle.services.specs.Laws.RegionExits.{region_high, region_low}
use native.Mathlib.Omega.{arith}
use Rattle.services.proofs.region_services.unload.Goals as goal
use Rattle.words.specs.declared.Refusal.TheVariants.{WrongPartition, WrongRegion}

pub returns-then-not-own_or_child : goal.returns-then-not-own_or_child
unfolding unload
returns-then-not-own_or_child c = ran_refused (fail WrongPartition _ (sym c.own_or_child.ensures ∙ c.if-not-own_or_child.true))

pub returns-then-r-gt7 : goal.returns-then-r-gt7
unfolding unload
returns-then-r-gt7 c = ran_refused (pass WrongPartition (sym c.own_or_child.ensures ∙ c.if-not-own_or_child.false) (fail WrongRegion _ (region_high _ c.if-r-gt7.true)))

pub clear_region-requires : goal.clear_region-requires
unfolding unload
clear_region-requires c = record { canon = c.requires.0; in_p = c.requires.1; in_i = omega (arith, c.if-r-gt7.false) }

pub returns : goal.returns
unfolding unload
returns c = ran_done (pass WrongPartition (sym c.own_or_child.ensures ∙ c.if-not-own_or_child.false) (pass WrongRegion (region_low _ c.if-r-gt7.false) refl)) (settled_words c.clear_region.ensures (unload_settled c.requires.2 _ _))
