-- src/bits.rt, structures_clean: result ≡ all 4 (λ j. zeroed structure (area_word_at t.now p.0 (1 + j)))
use Prim.Native.Nat.{◌+◌}
use Rattle.loops.specs.Laws.Every.{Passing}
use Rattle.words.specs.Kind.{zeroed}
use Rattle.words.specs.Words.{structure}
use Rattle.tables.specs.View.{area_word_at}
use Rattle.verdict.proofs.bits.structures_clean.Given as goal

abbrev pub invariant-loop-j : goal.invariant-loop-j
invariant-loop-j l = Passing (λ i. zeroed structure (area_word_at l.t l.p.0 (1 + i))) 4 l.j
