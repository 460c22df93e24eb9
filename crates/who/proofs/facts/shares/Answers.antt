-- src/facts.rt, shares: result ≡ shared ((view t.now).k.area q.0 j) lo.0 hi.0
use mathlib.Core.Path.{refl}
use borrow.Author.Tests.{not-true, not-false, lt-ltb, le-ltb}
use Rattle.tables.specs.View.{structure_area}
use Rattle.tables.specs.Settle.{meets}
use Rattle.who.specs.Who.{shared}
use Rattle.who.proofs.facts.shares.Goals as goal

pub returns-then-not-f : goal.returns-then-not-f
unfolding shared structure_area meets
returns-then-not-f c = let f = c.area-f in rw (f.ensures.area, not-true f.result.present c.if-not-f.true) refl

pub returns-then-f : goal.returns-then-f
unfolding shared structure_area meets
returns-then-f c = let f = c.area-f in rw (f.ensures.area, not-false f.result.present c.if-not-f.false, le-ltb _ _ c.if-f.true) refl

pub returns-then-lo-hi : goal.returns-then-lo-hi
unfolding shared structure_area meets
returns-then-lo-hi c =
    let f = c.area-f in
    rw (f.ensures.area, not-false f.result.present c.if-not-f.false, lt-ltb _ _ c.if-f.false, le-ltb _ _ c.if-lo-hi.true) refl

pub returns-then-f-hi : goal.returns-then-f-hi
unfolding shared structure_area meets
returns-then-f-hi c =
    let f = c.area-f in
    rw (f.ensures.area, not-false f.result.present c.if-not-f.false, lt-ltb _ _ c.if-f.false, lt-ltb _ _ c.if-lo-hi.false, le-ltb _ _ c.if-f-hi.true) refl

pub returns : goal.returns
unfolding shared structure_area meets
returns c =
    let f = c.area-f in
    rw (f.ensures.area, not-false f.result.present c.if-not-f.false, lt-ltb _ _ c.if-f.false, lt-ltb _ _ c.if-lo-hi.false, lt-ltb _ _ c.if-f-hi.false) refl
