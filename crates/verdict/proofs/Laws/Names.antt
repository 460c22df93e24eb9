-- What a verdict says: exactly the lowest clause that fails, as a proposition, and the lowest partition where it fails.
use Rattle.std.specs.Prelude.{◌≡◌, Bool, ◌↔◌, List, ℕ, ◌+◌, ◌-◌, ◌*◌, ◌/◌, ◌%◌, ◌≤◌, ◌<◌}
use Rattle.std.proofs.Math.Path.{refl, ap}
use Rattle.std.proofs.Common.{sym, ◌∙◌, true≢false, inl, inr}
use Rattle.std.proofs.Math.Bool.{true, false, not}
use native.Mathlib.Omega.{arith}
use Rattle.std.proofs.Math.Decide.{dec_lt}
use Rattle.std.proofs.lemmas.Bool.{not-false}
use Rattle.loops.specs.Loops.{NoneBelow}
use Rattle.loops.specs.Laws.Scan.{Sought, seek_law, seek_first, seek_none}
use Rattle.shapes.specs.declared.Board.{Board}
use Rattle.sound.specs.Sound.{Lower}
use Rattle.sound.specs.Clauses.{clause_at}
use Rattle.sound.specs.Laws.Tests.{not_says, not_of}
use Rattle.sound.proofs.Laws.List.{clause_means, passed_lower, lower_passed}
use Rattle.words.specs.declared.Partition.{Partition}
use Rattle.verdict.specs.declared.Verdict.{Verdict}
use Rattle.verdict.specs.declared.Verdict.TheVariants.{Accepted, Fails, Length}
use Rattle.verdict.specs.Verdict.{fails_at, failing, verdict, Names}

-- ── verdicts apart ──
abbrev is_accepted : Verdict → Bool
is_accepted Accepted = true
is_accepted (Fails n p) = false
is_accepted Length = false

abbrev is_length : Verdict → Bool
is_length Accepted = false
is_length (Fails n p) = false
is_length Length = true

abbrev clause_of : Verdict → ℕ
clause_of Accepted = 0
clause_of (Fails n p) = n
clause_of Length = 0

abbrev partition_of : Verdict → ℕ
partition_of Accepted = 0
partition_of (Fails n p) = p.0
partition_of Length = 0

pub accepted_not : {n : ℕ} {p : Partition} → Accepted ≡ Fails n p → ⊥
accepted_not e = true≢false (ap is_accepted e)

pub length_not : Length ≡ Accepted → ⊥
length_not e = true≢false (sym (ap is_accepted e))

pub length_names : {n : ℕ} {p : Partition} → Length ≡ Fails n p → ⊥
length_names e = true≢false (ap is_length e)

pub fails_same : {n m : ℕ} {p q : Partition} → Fails n p ≡ Fails m q → (n ≡ m) × (p.0 ≡ q.0)
fails_same e = (ap clause_of e, ap partition_of e)

-- ── the tests in their order ──
module _ (board : Board) (l : List ℕ) where
  -- none fails before number m: a test that comes before it passes
  before_passes : (m : ℕ) → NoneBelow (fails_at board l) m → (j q : ℕ) → 1 ≤ j → q < 16 → 16 * (j - 1) + q < m → clause_at board l j q ≡ true
  unfolding fails_at
  before_passes m none j q a c b =
      let x : 1 + (16 * (j - 1) + q) / 16 ≡ j = omega arith in
      let y : (16 * (j - 1) + q) % 16 ≡ q = omega arith in
      rw (x, y) at (not-false (clause_at board l (1 + (16 * (j - 1) + q) / 16) ((16 * (j - 1) + q) % 16)) (none (16 * (j - 1) + q) b))

  -- .. so the clauses that come wholly before it hold
  pub none_lower : (m n : ℕ) → n ≤ 12 → 16 * (n - 1) ≤ m → NoneBelow (fails_at board l) m → Lower board l n
  none_lower m n h b none = passed_lower board l n h (λ j x y q c. before_passes m none j q x c (omega arith))

  -- where they hold, none fails before the next
  pub lower_none : (n : ℕ) → n ≤ 12 → Lower board l n → NoneBelow (fails_at board l) (16 * (n - 1))
  unfolding fails_at
  lower_none n h low m b = ap not (lower_passed board l n h low (1 + m / 16) (omega arith) (omega arith) (m % 16) (omega arith))

  -- ── what it names ──
  -- number m fails, and none before it
  named : (m : ℕ) → m < 176 → fails_at board l m ≡ true → NoneBelow (fails_at board l) m → Names board l (1 + m / 16) (m % 16)
  unfolding fails_at
  named m b f none =
      let low : Lower board l (1 + m / 16) = none_lower m (1 + m / 16) (omega arith) (omega arith) none in
      record {
        from = omega arith;
        to = omega arith;
        partition = omega arith;
        lower = low;
        before = λ q c. (clause_means board l (1 + m / 16) (omega arith) (omega arith) low q (omega arith)).0 (before_passes m none (1 + m / 16) q (omega arith) (omega arith) (omega arith));
        fails = λ h. not_says _ f ((clause_means board l (1 + m / 16) (omega arith) (omega arith) low (m % 16) (omega arith)).1 h);
      }

  to : {n : ℕ} {p : Partition} → verdict board l ≡ Fails n p → Names board l n p.0
  unfolding verdict failing
  to {n} {p} e = go (seek_law (fails_at board l) failing Accepted 176)
    where
      go : Sought (fails_at board l) failing Accepted 176 (verdict board l) → Names board l n p.0
      go (inl (m, r)) =
          let (x, y) = fails_same (sym r.is ∙ e) in
          rw (← x, ← y) (named m r.below r.holds r.before)
      go (inr r) = absurd (accepted_not (sym r.is ∙ e))

  back : {n p : ℕ} → Names board l n p → verdict board l ≡ Fails n (record { 0 = p })
  unfolding verdict failing fails_at
  back {n} {p} h =
      let one = h.from in
      let eleven = h.to in
      let small = h.partition in
      let x : 1 + (16 * (n - 1) + p) / 16 ≡ n = omega arith in
      let y : (16 * (n - 1) + p) % 16 ≡ p = omega arith in
      seek_first (fails_at board l) failing Accepted 176 (16 * (n - 1) + p) (omega arith)
      (rw (x, y) (not_of (clause_at board l n p) (λ t. h.fails ((clause_means board l n one eleven h.lower p small).0 t))))
      (λ j b. earlier j b (dec_lt j (16 * (n - 1))))
      ∙ rw (x, y) refl
    where
      earlier : (j : ℕ) → j < 16 * (n - 1) + p → Dec (j < 16 * (n - 1)) → fails_at board l j ≡ false
      earlier j b (yes d) = lower_none n (omega (arith, h.to)) h.lower j d
      earlier j b (no d) =
          let one = h.from in
          let small = h.partition in
          let z : 1 + j / 16 ≡ n = omega arith in
          let c : j % 16 < p = omega arith in
          let t : clause_at board l (1 + j / 16) (j % 16) ≡ true = rw z ((clause_means board l n one h.to h.lower (j % 16) (omega arith)).1 (h.before (j % 16) c)) in
          ap not t

  pub verdict_names : {n p : ℕ} → (verdict board l ≡ Fails n (record { 0 = p })) ↔ Names board l n p
  verdict_names = (to, back)

  -- nothing is left to name
  pub accepted_lower : verdict board l ≡ Accepted → Lower board l 12
  unfolding verdict failing
  accepted_lower e = go (seek_law (fails_at board l) failing Accepted 176)
    where
      go : Sought (fails_at board l) failing Accepted 176 (verdict board l) → Lower board l 12
      go (inl (m, r)) = absurd (accepted_not (sym e ∙ r.is))
      go (inr r) = none_lower 176 12 (omega arith) (omega arith) r.none

  pub lower_accepted : Lower board l 12 → verdict board l ≡ Accepted
  unfolding verdict
  lower_accepted h = seek_none (fails_at board l) failing Accepted 176 (lower_none 12 (omega arith) h)
