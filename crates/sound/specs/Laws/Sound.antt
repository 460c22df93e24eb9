-- The clauses of a sound table by their names.
use Rattle.std.specs.Prelude.{refl, List, ℕ, ◌≤◌, ◌<◌}
use Rattle.std.proofs.Math.Decide.{dec_lt}
use Rattle.std.proofs.Common.{arith}
use Rattle.words.specs.Kind.{Zeroed}
use Rattle.words.specs.Words.{first}
use Rattle.shapes.specs.declared.Board.{Board}
use Rattle.tables.specs.Laws.State.{never_some}
use Rattle.tables.specs.View.{first_word, view}
use Rattle.tables.specs.Laws.View.{slot_bounds, region_bounds}
use Rattle.sound.specs.Limit.{loaded_pieces}
use Rattle.sound.specs.Sound.{S1, S2, S3, S4, S5, S6, S7, S8, S9, Loaded, S10, S11, Sound}
use Rattle.sound.specs.Whole.{Few}
use Rattle.sound.specs.Laws.Limit.{none_loaded}

module _ {board : Board} {l : List ℕ} (h : Sound board l) where
  pub s1_of : S1 (view l).k
  s1_of = h.clauses 1 (omega arith) (omega arith) 0 (omega arith) refl

  pub s3_first_of : Zeroed first (first_word l)
  s3_first_of = (h.clauses 3 (omega arith) (omega arith) 0 (omega arith)).0 refl

  pub s3_of : (p : ℕ) → p < 16 → S3 l p
  s3_of p b = (h.clauses 3 (omega arith) (omega arith) p b).1

  pub s2_of : (p : ℕ) → p < 16 → S2 l (view l).k p
  s2_of = h.clauses 2 (omega arith) (omega arith)

  pub s4_of : (p : ℕ) → p < 16 → S4 l (view l).k p
  s4_of = h.clauses 4 (omega arith) (omega arith)

  pub s5_of : (p : ℕ) → p < 16 → S5 l (view l).k p
  s5_of = h.clauses 5 (omega arith) (omega arith)

  pub s6_of : (p : ℕ) → p < 16 → S6 (view l).k p
  s6_of = h.clauses 6 (omega arith) (omega arith)

  pub s7_of : (p : ℕ) → p < 16 → S7 (view l) p
  s7_of = h.clauses 7 (omega arith) (omega arith)

  pub s8_of : (p : ℕ) → p < 16 → S8 (view l).k p
  s8_of = h.clauses 8 (omega arith) (omega arith)

  pub s9_of : (p : ℕ) → p < 16 → S9 (view l) p
  s9_of = h.clauses 9 (omega arith) (omega arith)

  pub s10_of : (p : ℕ) → p < 16 → S10 board (view l) p
  s10_of = h.clauses 10 (omega arith) (omega arith)

  pub s11_of : (p : ℕ) → p < 16 → S11 (view l).k p
  s11_of = h.clauses 11 (omega arith) (omega arith)

  -- S9 and the regions at any number: past the last partition there is nothing
  pub s9_all : (p : ℕ) → S9 (view l) p
  s9_all p i e u = s9_of p (slot_bounds l p i e u).0 i e u

  pub loaded_all : (p : ℕ) → Loaded (view l) p
  loaded_all p = record {
    names = λ r i u. (s10_of p (region_bounds l p r i u).0).loaded.names r i u;
    once = λ r q i u. (s10_of p (region_bounds l p r i u).0).loaded.once r q i u;
  }

  pub few_all : Few board (view l)
  few_all = record { at = λ p. go p (dec_lt p 16) }
    where
      go : (p : ℕ) → Dec (p < 16) → loaded_pieces board (view l).k.slot (view l).region p ≤ 8
      go p (yes b) = (s10_of p b).few
      go p (no b) = none_loaded board (view l).k.slot (view l).region p (λ r _. never_some ((view l).region p r) (λ i u. b (region_bounds l p r i u).0))
