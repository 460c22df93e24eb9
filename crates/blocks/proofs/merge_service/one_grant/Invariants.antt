-- src/merge_service.rt, one_grant: result ≡ any 32 (λ i. contains_both c.0 (entry_of e) (entry_of f) ((view t.now).k.slot q.0 i))
use Rattle.loops.specs.Laws.Every.{Missing}
use Rattle.tables.specs.View.{view, entry_of}
use Rattle.sound.specs.Clauses.{contains_both}
use Rattle.blocks.proofs.merge_service.one_grant.Given as goal

abbrev pub invariant-loop-i : goal.invariant-loop-i
invariant-loop-i l = Missing (λ k. contains_both l.c.0 (entry_of l.e) (entry_of l.f) ((view l.t).k.slot l.q.0 k)) 32 l.i
