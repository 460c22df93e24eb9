-- What C reads out of a result word: the refusal's number, the caller and the first value that were packed into it.
use Rattle.std.specs.Prelude.{◌≡◌, refl, ℕ, ◌^◌, ◌<◌}
use Rattle.std.proofs.Common.{ap, sym, subst, ◌∙◌, arith}
use Rattle.words.specs.declared.Refusal.{Refusal}
use Rattle.words.specs.Refusals.{number_of}
use Rattle.tables.specs.State.{Table}
use Rattle.rules.specs.Rules.{Effect, done, refused}
use Rattle.rules.specs.Ran.{outcome_of}
use Rattle.isolation.specs.Ladder.{Ladder, Answers}
use Rattle.face.specs.Face.{result_packed, result_of}
use Rattle.demands.specs.Demands.{refusal_in, caller_in, first_in, Accepted, Answered, LowestRefusal}
use Rattle.demands.specs.Laws.Lowest.{Rises, applies_range, answers_say}

pub reads_back : (n p v : ℕ) → n < 2 ^ 8 → p < 2 ^ 8 → (refusal_in (result_packed n p v) ≡ n) × (caller_in (result_packed n p v) ≡ p) × (first_in (result_packed n p v) ≡ v)
reads_back n p v a b = (omega arith, omega arith, omega arith)

-- what is read out of r where the result is x
abbrev pub Read : Effect → ℕ → Type 0
Read (done v w t) r = (refusal_in r ≡ 0) × (first_in r ≡ v)
Read (refused why) r = (refusal_in r ≡ number_of why) × (first_in r ≡ 0) × (0 < number_of why)

-- r is the word of the result x, and x is the answer of the ladder l
module _ {l : Ladder} {p r : ℕ} (rises : Rises 1 l) (small : p < 2 ^ 8) where
  pub result_read : (x : Effect) → Answers l x → r ≡ result_of p (outcome_of x) → Read x r × (caller_in r ≡ p)
  unfolding result_of outcome_of
  result_read (done v w t) a e = let (i, j, k) = reads_back 0 p v (omega arith) small in ((rw e i, rw e k), rw e j)
  result_read (refused why) a e =
      let (f, g) = applies_range rises (answers_say rises a).applies in
      let (i, j, k) = reads_back (number_of why) p 0 (omega arith) small in
      ((rw e i, rw e k, omega arith), rw e j)

  pub result_answered : (x : Effect) → Answers l x → r ≡ result_of p (outcome_of x) → {U : Type 0} → ((why : Refusal) → x ≡ refused why → U) → Answered l r U
  result_answered (done v w t) a e u =
      let s = answers_say rises a in
      let ((i, k), _) = result_read (done v w t) a e in
      record {
        refuses = λ n b. (λ q. absurd (omega arith), λ h. absurd (s n h.applies));
        accepts = (λ _. s, λ _. i);
        unchanged = λ z. absurd (z i);
      }
  result_answered (refused why) a e u =
      let s = answers_say rises a in
      let ((i, k, b), _) = result_read (refused why) a e in
      record {
        refuses = λ m b. (
          λ q. let z : number_of why ≡ m = sym i ∙ q in subst (LowestRefusal l) z s,
          λ h. let x = s.lowest m h.applies in let y = h.lowest (number_of why) s.applies in omega arith,
        );
        accepts = (λ q. absurd (omega arith), λ h. absurd (h (number_of why) s.applies));
        unchanged = λ _. (k, u why refl);
      }

  pub accepted_done : (x : Effect) → Answers l x → r ≡ result_of p (outcome_of x) → Accepted r → (w : ℕ) × (t : Table) × (x ≡ done (first_in r) w t)
  accepted_done (done v w t) a e _ = (w, t, ap (λ (y : ℕ). done y w t) (sym (result_read (done v w t) a e).0.1))
  accepted_done (refused why) a e q = let ((i, k, b), _) = result_read (refused why) a e in absurd (omega arith)
