-- src/cut_service.rt, cut: Ran (cut (view t.old) s.0 l.0) t.old result t.new
use Rattle.std.proofs.lemmas.Result.{err_from_is_err_and}
use Rattle.rules.specs.Rules.{cut}
use Rattle.rules.specs.Laws.Ran.{ran_refused}
use Rattle.blocks.specs.Laws.Pick.{picked_no, picked_is}
use Rattle.blocks.proofs.cut_service.cut.Goals as goal

pub returns-in_err-f : goal.returns-in_err-f
unfolding cut
returns-in_err-f c = let p = err_from_is_err_and c.from_residual.result c.from_residual.ensures.1 in rw (p.1, p.2) (ran_refused (picked_no c.in_err-f.was c.free_entry.ensures _))

pub cut_entry-requires : goal.cut_entry-requires
unfolding cut
cut_entry-requires c = record { canon = c.requires.0; in_i = c.requires.1; line = c.requires.2; entry = picked_is c.in_ok-f.was c.free_entry.ensures; right = c.requires.3 }
