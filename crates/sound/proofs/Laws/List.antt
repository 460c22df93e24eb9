-- The list of the eleven clauses: each test says what its clause says where the lower ones hold, and `sound` passes exactly where all tests do.
use Rattle.std.specs.Prelude.{◌≡◌, Bool, true, not, ◌||◌, ◌↔◌, List, ℕ, zero, suc, ◌+◌, ◌-◌, ◌≤◌, ◌<◌, eqb, length}
use native.Mathlib.Omega.{arith}
use Rattle.std.proofs.Math.Decide.{dec_lt}
use Rattle.std.proofs.Common.{eqb-true, eq-eqb}
use Rattle.loops.specs.Loops.{all}
use Rattle.loops.specs.Laws.Every.{all_at, all_of}
use Rattle.shapes.specs.declared.Board.{Board}
use Rattle.sound.specs.Sound.{Clause, Lower, Sound}
use Rattle.sound.specs.Clauses.{clause_at, sound}
use Rattle.sound.specs.Laws.Tests.{and_says, and_true, then_says, then_true}
use Rattle.sound.specs.Laws.Means.{and_means}
use Rattle.sound.proofs.Laws.MeansWords.{s1_means, s2_means, s3_first_means, s3_means, s4_means, s5_means}
use Rattle.sound.proofs.Laws.MeansEntries.{s6_means, s7_means}
use Rattle.sound.proofs.Laws.MeansAreas.{s8_means}
use Rattle.sound.proofs.Laws.MeansRegions.{s9_means, s10_means, s11_means}

-- what holds of each of the eleven numbers
pub each_clause : (P : ℕ → Type 0) → P 1 → P 2 → P 3 → P 4 → P 5 → P 6 → P 7 → P 8 → P 9 → P 10 → P 11 → (n : ℕ) → 1 ≤ n → n < 12 → P n
each_clause P a b c d e f g h i j k zero x y = absurd (omega arith)
each_clause P a b c d e f g h i j k (suc zero) x y = a
each_clause P a b c d e f g h i j k (suc (suc zero)) x y = b
each_clause P a b c d e f g h i j k (suc (suc (suc zero))) x y = c
each_clause P a b c d e f g h i j k (suc (suc (suc (suc zero)))) x y = d
each_clause P a b c d e f g h i j k (suc (suc (suc (suc (suc zero))))) x y = e
each_clause P a b c d e f g h i j k (suc (suc (suc (suc (suc (suc zero)))))) x y = f
each_clause P a b c d e f g h i j k (suc (suc (suc (suc (suc (suc (suc zero))))))) x y = g
each_clause P a b c d e f g h i j k (suc (suc (suc (suc (suc (suc (suc (suc zero)))))))) x y = h
each_clause P a b c d e f g h i j k (suc (suc (suc (suc (suc (suc (suc (suc (suc zero))))))))) x y = i
each_clause P a b c d e f g h i j k (suc (suc (suc (suc (suc (suc (suc (suc (suc (suc zero)))))))))) x y = j
each_clause P a b c d e f g h i j k (suc (suc (suc (suc (suc (suc (suc (suc (suc (suc (suc zero))))))))))) x y = k
each_clause P a b c d e f g h i j k (suc (suc (suc (suc (suc (suc (suc (suc (suc (suc (suc (suc n)))))))))))) x y = absurd (omega arith)

-- a test that is looked at with partition 0
at_root : (p : ℕ) (b : Bool) {B : Type 0} → (b ≡ true) ↔ B → (not (eqb p 0) || b ≡ true) ↔ (p ≡ 0 → B)
at_root p b m = (λ q z. m.0 (then_says (eqb p 0) b q (eq-eqb p 0 z)), λ h. then_true (eqb p 0) b (λ x. m.1 (h (eqb-true p 0 x))))

-- S4 needs S2; S7 needs S2 and S5; S9 needs S5
pub clause_means : (board : Board) (l : List ℕ) (n : ℕ) → 1 ≤ n → n < 12 → Lower board l n → (p : ℕ) → p < 16 → (clause_at board l n p ≡ true) ↔ Clause board l n p
unfolding clause_at
clause_means board l =
    each_clause (λ n. Lower board l n → (p : ℕ) → p < 16 → (clause_at board l n p ≡ true) ↔ Clause board l n p)
    (λ low p b. at_root p _ (s1_means l))
    (λ low. s2_means l)
    (λ low p b. and_means (at_root p _ (s3_first_means l)) (s3_means l p))
    (λ low. s4_means l (low 2 (omega arith) (omega arith)))
    (λ low. s5_means l)
    (λ low p b. s6_means l p)
    (λ low. s7_means l (low 2 (omega arith) (omega arith)) (low 5 (omega arith) (omega arith)))
    (λ low p b. s8_means l p)
    (λ low. s9_means l (low 5 (omega arith) (omega arith)))
    (λ low. s10_means board l)
    (λ low. s11_means l)

module _ (board : Board) (l : List ℕ) where
  -- the tests below n pass at every partition
  abbrev pub PassedBelow : ℕ → Type 0
  PassedBelow n = (m : ℕ) → 1 ≤ m → m < n → (p : ℕ) → p < 16 → clause_at board l m p ≡ true

  -- .. exactly where the clauses below n hold
  pub passed_lower : (n : ℕ) → n ≤ 12 → PassedBelow n → Lower board l n
  passed_lower zero h t m a b p c = absurd (omega arith)
  passed_lower (suc n) h t m a b p c = go (passed_lower n (omega arith) (λ i x y. t i x (omega arith))) (dec_lt m n)
    where
      go : Lower board l n → Dec (m < n) → Clause board l m p
      go low (yes d) = low m a d p c
      go low (no d) = (clause_means board l m a (omega arith) (λ i x y. low i x (omega arith)) p c).0 (t m a b p c)

  pub lower_passed : (n : ℕ) → n ≤ 12 → Lower board l n → PassedBelow n
  lower_passed n h low m a b p c = (clause_means board l m a (omega arith) (λ i x y. low i x (omega arith)) p c).1 (low m a b p c)

  -- ── the test of a table is that of its length and of each clause at each partition ──
  pub sound_passed : sound board l ≡ true → (length l ≡ 641) × PassedBelow 12
  unfolding sound
  sound_passed q =
      let (s, r) = and_says (eqb (length l) 641) (all 11 (λ m. all 16 (clause_at board l (1 + m)))) q in
      (eqb-true (length l) 641 s, λ m a b p c. let e : 1 + (m - 1) ≡ m = omega arith in rw e at (all_at 16 (clause_at board l (1 + (m - 1))) (all_at 11 (λ m. all 16 (clause_at board l (1 + m))) r (m - 1) (omega arith)) p c))

  pub passed_sound : length l ≡ 641 → PassedBelow 12 → sound board l ≡ true
  unfolding sound
  passed_sound s t = and_true _ _ (eq-eqb (length l) 641 s) (all_of 11 (λ m. all 16 (clause_at board l (1 + m))) (λ m b. all_of 16 (clause_at board l (1 + m)) (λ p c. t (1 + m) (omega arith) (omega arith) p c)))

  pub sound_means : (sound board l ≡ true) ↔ Sound board l
  sound_means = (
    λ q. let (s, t) = sound_passed q in record { size = s; clauses = passed_lower 12 (omega arith) t },
    λ h. passed_sound h.size (lower_passed 12 (omega arith) h.clauses),
  )
