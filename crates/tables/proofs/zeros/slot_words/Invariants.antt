-- src/zeros.rt, slot_words: result ≡ all 8 (λ o. eqb (slot_word_at t.now p.0 (8 * j + o)) 0)
use Prim.Native.Nat.{◌+◌}
use lib.ListN.{get_or}
use Rattle.loops.specs.Laws.Oring.{Oring}
use Rattle.tables.proofs.zeros.slot_words.Given as goal

abbrev pub invariant-loop-o : goal.invariant-loop-o
invariant-loop-o l = Oring (λ k. get_or l.t (l.at + k) 0) 8 l.o l.x
