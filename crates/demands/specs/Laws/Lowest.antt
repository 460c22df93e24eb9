-- Where several refusals apply the lowest number is given: the numbers of a ladder rise, so the first condition that fails has it.
use Rattle.std.specs.Prelude.{◌≡◌, ℕ, ◌≤◌}
use Rattle.std.proofs.Common.{sym, subst, ◌∙◌, arith}
use Rattle.words.specs.declared.Refusal.{Refusal}
use Rattle.words.specs.Refusals.{number_of}
use Rattle.tables.specs.State.{Opt, some, Table}
use Rattle.tables.specs.Laws.State.{some_inj, not_none}
use Rattle.rules.specs.Rules.{Effect, done, refused}
use Rattle.isolation.specs.Ladder.{Ladder, finish, must, there, least, Least, Answers, finished, holds, fails as failing, found, missing as none-there, lowest_is, no_lowest as none-low}
use Rattle.isolation.specs.Laws.Ladder.{least_one}
use Rattle.demands.specs.Demands.{Applies, fails, later, missing, of_entry, no_lowest, of_lowest, LowestRefusal}

-- each number of the ladder is at least n, at least those before it, and at most 22, the highest that there is
pub data Rises : ℕ → Ladder → Type 1 where
  top : {n v w : ℕ} {t : Table} → Rises n (finish v w t)
  rung : {n : ℕ} {why : Refusal} {P : Type 0} {c : Ladder} → n ≤ number_of why → number_of why ≤ 22 → Rises (number_of why) c → Rises n (must why P c)
  value : {n : ℕ} {why : Refusal} {A : Type 0} {o : Opt A} {c : A → Ladder} → n ≤ number_of why → number_of why ≤ 22 → ((a : A) → Rises (number_of why) (c a)) → Rises n (there why o c)
  number : {n k : ℕ} {why : Refusal} {P : ℕ → Type 0} {c : ℕ → Ladder} → n ≤ number_of why → number_of why ≤ 22 → ((i : ℕ) → Rises (number_of why) (c i)) → Rises n (least why k P c)

pub applies_range : {n m : ℕ} {l : Ladder} → Rises n l → Applies l m → (n ≤ m) × (m ≤ 22)
applies_range top x = elim x [ ]
applies_range (rung a b r) (fails _) = (a, b)
applies_range (rung a b r) (later x) = let (c, d) = applies_range r x in (omega arith, d)
applies_range (value a b r) (missing _) = (a, b)
applies_range (value a b r) (of_entry e _ x) = let (c, d) = applies_range (r e) x in (omega arith, d)
applies_range (number a b r) (no_lowest _) = (a, b)
applies_range (number a b r) (of_lowest i _ x) = let (c, d) = applies_range (r i) x in (omega arith, d)

-- what a result says of the refusals that apply: refused, its number is the lowest; done, there is none
abbrev pub SaysLowest : Ladder → Effect → Type 1
SaysLowest l (done v w t) = (n : ℕ) → Applies l n → ⊥
SaysLowest l (refused why) = LowestRefusal l (number_of why)

-- the same of a ladder to which the same refusals apply
says_as : {c d : Ladder} (r : Effect) → ((n : ℕ) → Applies c n → Applies d n) → ((n : ℕ) → Applies d n → Applies c n) → SaysLowest c r → SaysLowest d r
says_as (done v w t) f g s = λ n x. s n (g n x)
says_as (refused why) f g s = record { applies = f (number_of why) s.applies; lowest = λ m x. s.lowest m (g m x) }

-- a condition that holds, a value that is there, a number that is the lowest: what applies further on
pub past : {why : Refusal} {n : ℕ} {P : Type 0} {c : Ladder} → P → Applies (must why P c) n → Applies c n
past p (fails q) = absurd (q p)
past p (later x) = x

past_value : {A : Type 0} {why : Refusal} {n : ℕ} {o : Opt A} {c : A → Ladder} {a : A} → o ≡ some a → Applies (there why o c) n → Applies (c a) n
past_value {o = o} u (missing v) = absurd (not_none o v u)
past_value {n = n} {c = c} u (of_entry b v x) = subst (λ z. Applies (c z) n) (some_inj (sym v ∙ u)) x

past_number : {why : Refusal} {n k : ℕ} {P : ℕ → Type 0} {c : ℕ → Ladder} {i : ℕ} → Least k P i → Applies (least why k P c) n → Applies (c i) n
past_number {i = i} p (no_lowest q) = absurd (q i p.below p.here)
past_number {n = n} {c = c} p (of_lowest j q x) = subst (λ z. Applies (c z) n) (least_one q p) x

pub none_left_law : {n v w : ℕ} {t : Table} → Applies (finish v w t) n → ⊥
none_left_law x = let (a, b) = applies_range {n = 23} top x in omega arith

pub answers_say : {n : ℕ} {l : Ladder} {r : Effect} → Rises n l → Answers l r → SaysLowest l r
answers_say top finished = λ n x. none_left_law x
answers_say {r = r} (rung a b u) (holds p s) = says_as r (λ n x. later x) (λ n x. past p x) (answers_say u s)
answers_say (rung {why = why} a b u) (failing q) = record { applies = fails q; lowest = λ n x. (applies_range {n = number_of why} (rung (omega arith) b u) x).0 }
answers_say {r = r} (value a b u) (found e v s) = says_as r (λ n x. of_entry e v x) (λ n x. past_value v x) (answers_say (u e) s)
answers_say (value {why = why} a b u) (none-there q) = record { applies = missing q; lowest = λ n x. (applies_range {n = number_of why} (value (omega arith) b u) x).0 }
answers_say {r = r} (number a b u) (lowest_is i p s) = says_as r (λ n x. of_lowest i p x) (λ n x. past_number p x) (answers_say (u i) s)
answers_say (number {why = why} a b u) (none-low q) = record { applies = no_lowest q; lowest = λ n x. (applies_range {n = number_of why} (number (omega arith) b u) x).0 }
