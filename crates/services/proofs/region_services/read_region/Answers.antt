-- src/region_services.rt, read_region: Ran (read_region (view t.now) p.0 r) t.now result t.now
use mathlib.Core.Path.{sym, ◌∙◌}
use borrow.Author.Tests.{not-true, not-false}
use Rattle.tables.specs.Laws.Encode.{canon_is}
use Rattle.sound.specs.Laws.Settled.{right_settled, settled_words}
use Rattle.rules.specs.Rules.{read_region}
use Rattle.rules.specs.Laws.Ran.{ran_refused, ran_done, pass, fail, second_is}
use Rattle.services.specs.Laws.RegionExits.{region_high, region_low, seen_region_small, word_none, word_some}
use native.Mathlib.Omega.{arith}
use Rattle.services.proofs.region_services.read_region.Goals as goal
use Rattle.words.specs.declared.Refusal.TheVariants.{WrongPartition, WrongRegion}

pub returns-then-not-own_or_child : goal.returns-then-not-own_or_child
unfolding read_region
returns-then-not-own_or_child c = ran_refused (fail WrongPartition _ (sym c.own_or_child.ensures ∙ c.if-not-own_or_child.true))

pub returns-then-r-gt7 : goal.returns-then-r-gt7
unfolding read_region
returns-then-r-gt7 c = ran_refused (pass WrongPartition (sym c.own_or_child.ensures ∙ c.if-not-own_or_child.false) (fail WrongRegion _ (region_high _ c.if-r-gt7.true)))

pub returns-then-not-x : goal.returns-then-not-x
unfolding read_region
returns-then-not-x c = ran_done (pass WrongPartition (sym c.own_or_child.ensures ∙ c.if-not-own_or_child.false) (pass WrongRegion (region_low _ c.if-r-gt7.false) (second_is (word_none c.regions-f.ensures _ (omega (arith, c.if-r-gt7.false)) c.nth-x.ensures (not-true _ c.if-not-x.true))))) (settled_words (canon_is c.requires.0) (right_settled c.requires.2))

pub entry_word-w-requires : goal.entry_word-w-requires
unfolding read_region
entry_word-w-requires c = record { canon = c.requires.0; in_p = c.requires.1; in_i = seen_region_small c.regions-f.ensures _ (omega (arith, c.if-r-gt7.false)) c.nth-x.ensures }

pub returns : goal.returns
unfolding read_region
returns c = ran_done (pass WrongPartition (sym c.own_or_child.ensures ∙ c.if-not-own_or_child.false) (pass WrongRegion (region_low _ c.if-r-gt7.false) (second_is (word_some c.regions-f.ensures _ (omega (arith, c.if-r-gt7.false)) c.nth-x.ensures (not-false _ c.if-not-x.false) c.entry_word-w.ensures)))) (settled_words (canon_is c.requires.0) (right_settled c.requires.2))
