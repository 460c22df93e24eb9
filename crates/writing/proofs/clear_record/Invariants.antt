-- src/lib.rt, clear_record: Is t.new (clear_record (view t.old) p.0)
use Rattle.writing.specs.Laws.Clearing.{Clearing}
use Rattle.writing.proofs.clear_record.Given as goal

abbrev pub invariant-loop-o : goal.invariant-loop-o
invariant-loop-o l = Clearing l.initial.t l.p.0 l.o l.t
