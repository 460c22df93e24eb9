-- src/region_services.rt, loaded_elsewhere: result ≡ elsewhere (view t.now) p.0 s.0 r
use Rattle.loops.specs.Laws.Every.{Missing}
use Rattle.tables.specs.View.{view}
use Rattle.services.specs.RegionExits.{in_another}
use Rattle.services.proofs.region_services.loaded_elsewhere.Given as goal

abbrev pub invariant-loop-q : goal.invariant-loop-q
invariant-loop-q l = Missing (in_another (view l.t) l.p.0 l.s.0 l.r) 8 l.q
