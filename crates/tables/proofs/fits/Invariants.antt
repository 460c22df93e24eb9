-- src/lib.rt, fits: Words t.now
use Rattle.tables.specs.Laws.Fitting.{Fitting}
use Rattle.tables.proofs.fits.Given as goal

abbrev pub invariant-loop-word : goal.invariant-loop-word
invariant-loop-word l = Fitting l.t l.word-index
