-- A service's checks as conditions, one after another: the answer is the refusal of the first that fails, and done where none does. The refusals' numbers
-- rise along each ladder, so the first that fails is the lowest that applies (`Answered` in `demands`).
use Rattle.std.specs.Prelude.{◌≡◌, ℕ, ◌<◌}
use Rattle.words.specs.declared.Refusal.{Refusal}
use Rattle.tables.specs.State.{Opt, none, some, Table}
use Rattle.rules.specs.Rules.{Effect, done, refused}

-- i is the lowest number below m that P holds of
pub record Least (m : ℕ) (P : ℕ → Type 0) (i : ℕ) : Type 0 where
  pub below : i < m
  pub here : P i
  pub before : (j : ℕ) → j < i → P j → ⊥

-- must why P: P holds; there why o: o is some value; least why m P: P holds of some number below m. Where it fails, the refusal is why.
pub data Ladder : Type 1 where
  finish : ℕ → ℕ → Table → Ladder
  must : Refusal → Type 0 → Ladder → Ladder
  there : {A : Type 0} → Refusal → Opt A → (A → Ladder) → Ladder
  least : Refusal → ℕ → (ℕ → Type 0) → (ℕ → Ladder) → Ladder

pub data Answers : Ladder → Effect → Type 1 where
  finished : {v w : ℕ} {t : Table} → Answers (finish v w t) (done v w t)
  holds : {why : Refusal} {P : Type 0} {c : Ladder} {r : Effect} → P → Answers c r → Answers (must why P c) r
  fails : {why : Refusal} {P : Type 0} {c : Ladder} → (P → ⊥) → Answers (must why P c) (refused why)
  found : {A : Type 0} {why : Refusal} {o : Opt A} {c : A → Ladder} {r : Effect} (a : A) → o ≡ some a → Answers (c a) r → Answers (there why o c) r
  missing : {A : Type 0} {why : Refusal} {o : Opt A} {c : A → Ladder} → o ≡ none → Answers (there why o c) (refused why)
  lowest_is : {why : Refusal} {m : ℕ} {P : ℕ → Type 0} {c : ℕ → Ladder} {r : Effect} (i : ℕ) → Least m P i → Answers (c i) r → Answers (least why m P c) r
  no_lowest : {why : Refusal} {m : ℕ} {P : ℕ → Type 0} {c : ℕ → Ladder} → ((i : ℕ) → i < m → P i → ⊥) → Answers (least why m P c) (refused why)

-- ── what is done has passed all conditions ──
-- Q holds of the values and the table of whatever passes ..
unfoldable pub Ends : (ℕ → ℕ → Table → Type 0) → Ladder → Type 0
Ends Q (finish v w t) = Q v w t
Ends Q (must why P c) = P → Ends Q c
Ends Q (there {A} why o c) = (a : A) → o ≡ some a → Ends Q (c a)
Ends Q (least why m P c) = (i : ℕ) → Least m P i → Ends Q (c i)
