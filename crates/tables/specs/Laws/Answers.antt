-- From an answer of the code back to what the search found.
use Rattle.std.specs.Prelude.{◌≡◌, refl, ℕ, Option, Some, None, Result, Ok, Err}
use Rattle.std.specs.Option.{ok_or}
use Rattle.std.proofs.Common.{ap, sym, ◌∙◌, arith}
use Rattle.words.specs.declared.Slot.{Slot}
use Rattle.words.specs.declared.Partition.{Partition}
use Rattle.words.specs.declared.Refusal.{Refusal}
use Rattle.tables.specs.State.{Opt, none, some}
use Rattle.tables.specs.declared.Looked.{Looked}
use Rattle.tables.specs.Search.{Looking}
use Rattle.tables.specs.Answers.{found_of, looked_of, which_of, structure_of}

-- what has a way back is told by its value
told : {A B : Type 0} {f : A → B} (back : B → A) → ((a : A) → back (f a) ≡ a) → (a : A) {b : B} → b ≡ f a → a ≡ back b
told back law a q = sym (ap back q ∙ law a)

-- ── a slot ──
abbrev pub found_in : Option Slot → Opt ℕ
found_in None = none
found_in (Some s) = some s.0

-- at None, o is none; at Some s, it is some s.0
pub found_is : (o : Opt ℕ) {r : Option Slot} → r ≡ found_of o → o ≡ found_in r
unfolding found_of
found_is = told found_in back
  where
    back : (o : Opt ℕ) → found_in (found_of o) ≡ o
    back none = refl
    back (some i) = refl

-- .. and the count
module _ (o : Looking) {r : Looked} (q : r ≡ looked_of o) where
  pub looked_slot : {f : Option Slot} → r.found ≡ f → o.slot ≡ found_in f
  unfolding looked_of
  looked_slot z = found_is o.slot (ap (λ (x : Looked). x.found) q) ∙ ap found_in z

  pub looked_count : r.count ≡ o.count
  unfolding looked_of
  looked_count = ap (λ (x : Looked). x.count) q

-- ── a partition ──
abbrev pub which_in : Option Partition → Opt ℕ
which_in None = none
which_in (Some n) = some n.0

pub which_is : (o : Opt ℕ) {r : Option Partition} → r ≡ which_of o → o ≡ which_in r
unfolding which_of
which_is = told which_in back
  where
    back : (o : Opt ℕ) → which_in (which_of o) ≡ o
    back none = refl
    back (some n) = refl

-- ── a structure ──
abbrev pub structure_in : Option ℕ → Opt ℕ
structure_in None = none
structure_in (Some j) = some j

pub structure_is : (o : Opt ℕ) {r : Option ℕ} → r ≡ structure_of o → o ≡ structure_in r
unfolding structure_of
structure_is = told structure_in back
  where
    back : (o : Opt ℕ) → structure_in (structure_of o) ≡ o
    back none = refl
    back (some j) = refl

-- ── an answer with a refusal for where there is none ──
module _ {A : Type 0} where
  pub or_err : (x : Option A) {r : Result A Refusal} {e why : Refusal} → r ≡ ok_or x e → r ≡ Err why → (x ≡ None) × (why ≡ e)
  or_err None p q = (refl, sym (why_one (sym p ∙ q)))
    where
      why_one : {a b : Refusal} → ◌≡◌ {A = Result A Refusal} (Err a) (Err b) → a ≡ b
      why_one h = cc
  or_err (Some a) p q = absurd (apart (sym p ∙ q))
    where
      apart : {a : A} {b : Refusal} → ◌≡◌ {A = Result A Refusal} (Ok a) (Err b) → ⊥
      apart h = absurd (let z : ◌≡◌ {A = ℕ} 0 1 = cc in omega arith)

  pub or_ok : (x : Option A) {r : Result A Refusal} (e : Refusal) {a : A} → r ≡ ok_or x e → r ≡ Ok a → x ≡ Some a
  or_ok None e p q = absurd (apart (sym q ∙ p))
    where
      apart : {a : A} {b : Refusal} → ◌≡◌ {A = Result A Refusal} (Ok a) (Err b) → ⊥
      apart h = absurd (let z : ◌≡◌ {A = ℕ} 0 1 = cc in omega arith)
  or_ok (Some b) e p q = ap Some (same (sym p ∙ q))
    where
      same : {a b : A} → ◌≡◌ {A = Result A Refusal} (Ok b) (Ok a) → b ≡ a
      same h = cc
