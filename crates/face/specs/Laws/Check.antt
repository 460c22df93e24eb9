-- The number that C gets for a verdict says which one it is.
use Rattle.std.specs.Prelude.{◌≡◌, refl, List, ℕ, ◌+◌, ◌*◌, ◌/◌, ◌%◌, ◌^◌, ◌≤◌, ◌<◌, length}
use Rattle.std.proofs.Common.{ap, ◌∙◌, arith}
use Rattle.shapes.specs.declared.Board.{Board}
use Rattle.memory.specs.Bytes.{words_of}
use Rattle.sound.specs.Sound.{Sound}
use Rattle.verdict.specs.Verdict.{image_verdict, checked, Names}
use Rattle.verdict.proofs.Theorem.{image_sound, image_names, image_length}
use Rattle.verdict.specs.declared.Verdict.{Verdict}
use Rattle.verdict.specs.declared.Verdict.TheVariants.{Accepted, Fails, Length}
use Rattle.face.specs.Face.{result_of}
use Rattle.face.specs.Check.{Says}

-- ── the number of a verdict ──
abbrev number_of : Verdict → ℕ
number_of v = result_of 0 (checked v)

accepted_number : number_of Accepted ≡ 0
unfolding result_of checked
accepted_number = refl

length_number : number_of Length ≡ 1
unfolding result_of checked
length_number = refl

fails_number : (n p : ℕ) → number_of (Fails n (record { 0 = p })) ≡ 2 ^ 32 * (16 * n + p)
unfolding result_of checked
fails_number n p = omega arith

module _ (board : Board) (b : List ℕ) {r : ℕ} (q : r ≡ number_of (image_verdict board b)) where
  -- it is the number of some verdict: what holds of each of the three holds of it
  each : (P : ℕ → Type 0) → (image_verdict board b ≡ Accepted → P 0) → (image_verdict board b ≡ Length → P 1)
      → ((n p : ℕ) → image_verdict board b ≡ Fails n (record { 0 = p }) → 1 ≤ n → n < 12 → p < 16 → P (2 ^ 32 * (16 * n + p))) → P r
  each P a l f = go (image_verdict board b) refl
    where
      go : (v : Verdict) → image_verdict board b ≡ v → P r
      go Accepted e = rw (q, e, accepted_number) (a e)
      go Length e = rw (q, e, length_number) (l e)
      go (Fails n p) e = let (_, h) = (image_names board b).0 e in rw (q, e, fails_number n p.0) (f n p.0 e h.from h.to h.partition)

  pub check_says : Says board b r
  check_says = record {
    refused = (
      λ e. each (λ r. r ≡ 1 → length b ≡ 5128 → ⊥) (λ _ z. absurd (omega arith)) (λ l _. (image_length board b).0 l) (λ n p _ _ _ _ z. absurd (omega arith)) e,
      λ n. q ∙ ap number_of ((image_length board b).1 n) ∙ length_number,
    );
    sound = (
      λ e. each (λ r. r ≡ 0 → (length b ≡ 5128) × Sound board (words_of b)) (λ a _. (image_sound board b).0 a) (λ _ z. absurd (omega arith)) (λ n p _ c _ _ z. absurd (omega arith)) e,
      λ h. q ∙ ap number_of ((image_sound board b).1 h) ∙ accepted_number,
    );
    names = λ n p. (
      λ (one, e, d). each (λ r. r / 2 ^ 32 / 16 ≡ n → r / 2 ^ 32 % 16 ≡ p → (length b ≡ 5128) × Names board (words_of b) n p)
          (λ _ z _. absurd (omega arith))
          (λ _ z _. absurd (omega arith))
          (λ m o a _ _ c x y.
          let u : m ≡ n = omega arith in
          let v : o ≡ p = omega arith in
          rw (← u, ← v) ((image_names board b).0 a))
          e d,
      λ h.
          let few = h.1.partition in
          let w : r ≡ 2 ^ 32 * (16 * n + p) = q ∙ ap number_of ((image_names board b).1 h) ∙ fails_number n p in
          (h.1.from, omega arith, omega arith),
    );
  }
