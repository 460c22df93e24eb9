-- src/region_services.rt, load: Ran (load board (view t.old) p.0 s.0 r) t.old result t.new
use mathlib.Core.Path.{sym, ◌∙◌}
use borrow.Author.Tests.{not-true, not-false}
use Rattle.tables.specs.Laws.Seen.{entry_none, entry_there}
use Rattle.sound.specs.Laws.Settled.{load_settled, settled_words}
use Rattle.rules.specs.Rules.{load}
use Rattle.rules.specs.Laws.Ran.{ran_refused, ran_done, pass, fail, there, missing}
use Rattle.services.specs.Laws.RegionExits.{load_high, load_twice, load_many, load_exit_done}
use native.Mathlib.Omega.{arith}
use Rattle.services.proofs.region_services.load.Goals as goal
use Rattle.words.specs.declared.Refusal.TheVariants.{WrongPartition, NoEntry, NotOpen}

pub own_or_child-requires : goal.own_or_child-requires
unfolding load
own_or_child-requires c = c.requires.1

pub returns-then-not-own_or_child : goal.returns-then-not-own_or_child
unfolding load
returns-then-not-own_or_child c = ran_refused (fail WrongPartition _ (sym c.own_or_child.ensures ∙ c.if-not-own_or_child.true))

pub entry-f-requires : goal.entry-f-requires
unfolding load
entry-f-requires c = (c.requires.1, c.requires.2)

pub returns-then-not-f : goal.returns-then-not-f
unfolding load
returns-then-not-f c = ran_refused (pass WrongPartition (sym c.own_or_child.ensures ∙ c.if-not-own_or_child.false) (missing NoEntry _ (entry_none c.entry-f.ensures (not-true _ c.if-not-f.true))))

pub returns-then-not-f-2 : goal.returns-then-not-f-2
unfolding load
returns-then-not-f-2 c = ran_refused (pass WrongPartition (sym c.own_or_child.ensures ∙ c.if-not-own_or_child.false) (there NoEntry _ _ (entry_there c.entry-f.ensures (not-false _ c.if-not-f.false)) (fail NotOpen _ (c.entry-f.ensures.opened ∙ not-true _ c.if-not-f-2.true))))

pub returns-then-r-gt7 : goal.returns-then-r-gt7
unfolding load
returns-then-r-gt7 c = ran_refused (load_high c.args.board (sym c.own_or_child.ensures ∙ c.if-not-own_or_child.false) c.entry-f.ensures (not-false _ c.if-not-f.false) (not-false _ c.if-not-f-2.false) _ c.if-r-gt7.true)

pub loaded_elsewhere-requires : goal.loaded_elsewhere-requires
unfolding load
loaded_elsewhere-requires c = c.requires.1

pub returns-then-loaded_elsewhere : goal.returns-then-loaded_elsewhere
unfolding load
returns-then-loaded_elsewhere c =
    let twice = sym c.loaded_elsewhere.ensures ∙ c.if-loaded_elsewhere.true in
    ran_refused (load_twice c.args.board (sym c.own_or_child.ensures ∙ c.if-not-own_or_child.false) c.entry-f.ensures (not-false _ c.if-not-f.false) (not-false _ c.if-not-f-2.false) _ c.if-r-gt7.false twice)

pub pieces_after-requires : goal.pieces_after-requires
unfolding load
pieces_after-requires c = (c.requires.1, c.requires.2)

pub returns-then-pieces_after-gt8 : goal.returns-then-pieces_after-gt8
unfolding load
returns-then-pieces_after-gt8 c =
    let nowhere = sym c.loaded_elsewhere.ensures ∙ c.if-loaded_elsewhere.false in
    ran_refused (load_many c.args.board (sym c.own_or_child.ensures ∙ c.if-not-own_or_child.false) c.entry-f.ensures (not-false _ c.if-not-f.false) (not-false _ c.if-not-f-2.false) _ c.if-r-gt7.false nowhere c.pieces_after.ensures c.if-pieces_after-gt8.true)

pub put_region-requires : goal.put_region-requires
unfolding load
put_region-requires c = record { canon = c.requires.0; in_p = c.requires.1; in_r = omega (arith, c.if-r-gt7.false); in_i = c.requires.2 }

pub returns : goal.returns
unfolding load
returns c =
    let nowhere = sym c.loaded_elsewhere.ensures ∙ c.if-loaded_elsewhere.false in
    ran_done (load_exit_done c.args.board (sym c.own_or_child.ensures ∙ c.if-not-own_or_child.false) c.entry-f.ensures (not-false _ c.if-not-f.false) (not-false _ c.if-not-f-2.false) _ c.if-r-gt7.false nowhere c.pieces_after.ensures c.if-pieces_after-gt8.false) (settled_words c.put_region.ensures (load_settled c.requires.3 _ _ _ (c.entry-f.ensures.opened ∙ not-false _ c.if-not-f-2.false)))
