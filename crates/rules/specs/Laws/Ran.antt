-- The exits of a service: a check passed or failed, done or refused, on the words or on a copy of them; and two results are equal.
use Rattle.std.specs.Prelude.{◌≡◌, Bool, true, false, List, ℕ, Ok, Err}
use Rattle.std.proofs.Math.Path.{refl}
use Rattle.std.proofs.Common.{ap, sym, ◌∙◌, arith}
use Rattle.tables.specs.State.{Opt, none, some, Table}
use Rattle.tables.specs.Encode.{encode}
use Rattle.rules.specs.Rules.{Effect, done, refused, check, need, words_after}
use Rattle.rules.specs.Ran.{outcome_of, Ran}
use Rattle.words.specs.declared.Refusal.{Refusal}
use Rattle.tables.specs.Outcomes.{Outcome, answered}

-- two results are equal: the outcome, and every word
pub ran_one : {res : Effect} {before : List ℕ} {r s : Outcome} {a b : List ℕ} → Ran res before r a → Ran res before s b → (r ≡ s) × (a ≡ b)
ran_one x y = (x.outcome ∙ sym y.outcome, x.words ∙ sym y.words)

-- ── equal outcomes ──
pub refused_done : {why : Refusal} {v w : ℕ} → ◌≡◌ {A = Outcome} (Err why) (Ok (v, w)) → ⊥
refused_done q = absurd (let z : ◌≡◌ {A = ℕ} 0 1 = cc in omega arith)

pub done_first : {a b v w : ℕ} → ◌≡◌ {A = Outcome} (Ok (a, b)) (Ok (v, w)) → a ≡ v
done_first h = ap (λ (o : Outcome). (answered o).first) h

pub refused_why : {a b : Refusal} → ◌≡◌ {A = Outcome} (Err a) (Err b) → a ≡ b
refused_why h = cc

-- ── the exits ──
pub ran_refused : {res : Effect} {why : Refusal} {l : List ℕ} → res ≡ refused why → Ran res l (Err why) l
unfolding outcome_of words_after
ran_refused e = record { outcome = rw e refl; words = rw e refl }

pub ran_done : {res : Effect} {v w : ℕ} {t : Table} {l m : List ℕ} → res ≡ done v w t → m ≡ encode t → Ran res l (Ok (v, w)) m
unfolding outcome_of words_after
ran_done e q = record { outcome = rw e refl; words = rw e q }

-- .. by the rule that another is
pub ran_as : {res own : Effect} {l m : List ℕ} {r : Outcome} → res ≡ own → Ran own l r m → Ran res l r m
ran_as e ran = rw e ran

-- ── on a copy a of the words: done, n are copied back from it; refused, the words stay ──
module _ {res : Effect} {a l m : List ℕ} {r : Outcome} (ran : Ran res a r m) where
  pub ran_copied : {v w : ℕ} {n : List ℕ} → r ≡ Ok (v, w) → n ≡ m → Ran res l r n
  unfolding outcome_of words_after
  ran_copied q e = record { outcome = ran.outcome; words = e ∙ ran.words ∙ go res (sym ran.outcome ∙ q) }
    where
      go : (res : Effect) {v w : ℕ} → outcome_of res ≡ Ok (v, w) → words_after a res ≡ words_after l res
      go (done v w t) z = refl
      go (refused why) z = absurd (refused_done z)

  pub ran_kept : {why : Refusal} → r ≡ Err why → Ran res l r l
  unfolding outcome_of words_after
  ran_kept q = record { outcome = ran.outcome; words = go res (sym ran.outcome ∙ q) }
    where
      go : (res : Effect) {why : Refusal} → outcome_of res ≡ Err why → l ≡ words_after l res
      go (done v w t) z = absurd (refused_done (sym z))
      go (refused why) z = refl

-- ── a check that passes, a check that fails; a value that is there, one that is not ──
pub pass : (why : Refusal) {b : Bool} {r s : Effect} → b ≡ true → r ≡ s → check why b r ≡ s
unfolding check
pass why h e = rw h e

pub fail : (why : Refusal) {b : Bool} (r : Effect) → b ≡ false → check why b r ≡ refused why
unfolding check
fail why r h = rw h refl

-- what is done has passed the check
pub check_done : (why : Refusal) (b : Bool) {r : Effect} {v w : ℕ} {t : Table} → check why b r ≡ done v w t → (b ≡ true) × (r ≡ done v w t)
unfolding check
check_done why true z = (refl, z)
check_done why false z = absurd (let q : ◌≡◌ {A = ℕ} 0 1 = cc in omega arith)

pub need_done : {A : Type 0} (why : Refusal) (o : Opt A) (g : A → Effect) {v w : ℕ} {t : Table} → need why o g ≡ done v w t → (a : A) × (o ≡ some a) × (g a ≡ done v w t)
unfolding need
need_done why none g z = absurd (let q : ◌≡◌ {A = ℕ} 0 1 = cc in omega arith)
need_done why (some a) g z = (a, refl, z)

pub there : {A : Type 0} (why : Refusal) {o : Opt A} (f : A → Effect) {s : Effect} (a : A) → o ≡ some a → f a ≡ s → need why o f ≡ s
unfolding need
there why f a h e = rw h e

pub missing : {A : Type 0} (why : Refusal) {o : Opt A} (f : A → Effect) → o ≡ none → need why o f ≡ refused why
unfolding need
missing why f h = rw h refl

-- a second value that the code read
pub second_is : {v w x : ℕ} {t : Table} → w ≡ x → done v w t ≡ done v x t
second_is {v} {t = t} e = ap (λ (y : ℕ). done v y t) e
