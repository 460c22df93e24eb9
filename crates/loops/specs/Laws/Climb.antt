-- A climb, exit by exit; there is one number of steps to the root, the test tells who reaches it; and when two climbs give the same.
use Rattle.std.specs.Prelude.{◌≡◌, true, false, cond, ◌↔◌, eqb}
use Rattle.std.proofs.Math.Path.{refl, ap, ap₂}
use Rattle.std.proofs.Common.{sym, subst, ◌∙◌}
use Rattle.std.proofs.lemmas.Bool.{false≢true}
use Prim.Native.Nat.{ℕ, zero, suc, ◌-◌, ◌≤◌}
use Rattle.std.proofs.Math.Decide.{ℕ_discrete}
use native.Mathlib.Omega.{arith}
use borrow.Author.Tests.{eq-eqb, ne_eqb}
use Rattle.loops.specs.Loops.{climb, Reaches, at_root, by_step, reaches}

-- p gets to 0 in n steps, and not before
pub data Steps (up : ℕ → ℕ) : ℕ → ℕ → Type 0 where
  no_step : {p : ℕ} → p ≡ 0 → Steps up 0 p
  one_step : {n p : ℕ} → (p ≡ 0 → ⊥) → Steps up n (up p) → Steps up (suc n) p

-- ── what a function's exits cite ──
module _ {A : Type 0} (up : ℕ → ℕ) (root : ℕ → A) (lost : A) (step : ℕ → A → A) (p n : ℕ) where
  pub climb_root : p ≡ 0 → root n ≡ climb up root lost step p n
  unfolding climb
  climb_root h = go n
    where
      go : (n : ℕ) → root n ≡ climb up root lost step p n
      go zero = rw (eq-eqb p 0 h) refl
      go (suc n) = rw (eq-eqb p 0 h) refl

  pub climb_lost : (p ≡ 0 → ⊥) → n ≡ 0 → lost ≡ climb up root lost step p n
  unfolding climb
  climb_lost h z = rw (z, ne_eqb p 0 h) refl

  -- q is the parent, and r what the function gives there
  pub climb_step : {q : ℕ} {r : A} → (p ≡ 0 → ⊥) → (n ≡ 0 → ⊥) → q ≡ up p → r ≡ climb up root lost step q (n - 1)
      → step p r ≡ climb up root lost step p n
  unfolding climb
  climb_step {q} {r} h z e f = go n refl
    where
      go : (m : ℕ) → n ≡ m → step p r ≡ climb up root lost step p m
      go zero y = absurd (z y)
      go (suc m) y =
          let l : n - 1 ≡ m = omega arith in
          rw (ne_eqb p 0 h) (ap (step p) (f ∙ ap₂ (climb up root lost step) e l))

  -- a step, as an equation
  pub climb_suc : (p ≡ 0 → ⊥) → climb up root lost step p (suc n) ≡ step p (climb up root lost step (up p) n)
  unfolding climb
  climb_suc h = rw (ne_eqb p 0 h) refl

-- ── the number of steps ──
-- there is one such number
pub steps_one : {up : ℕ → ℕ} {m n p : ℕ} → Steps up m p → Steps up n p → m ≡ n
steps_one (no_step z) (no_step y) = refl
steps_one (no_step z) (one_step y t) = absurd (y z)
steps_one (one_step z s) (no_step y) = absurd (z y)
steps_one (one_step z s) (one_step y t) = ap suc (steps_one s t)

-- who gets there in n steps gets there in at most n
pub steps→reaches : {up : ℕ → ℕ} {n p : ℕ} → Steps up n p → Reaches up n p
steps→reaches (no_step z) = at_root z
steps→reaches (one_step z s) = by_step (steps→reaches s)

-- who gets there in at most n gets there in some number of steps
pub reaches→steps : {up : ℕ → ℕ} {n p : ℕ} → Reaches up n p → (m : ℕ) × (m ≤ n) × Steps up m p
reaches→steps (at_root z) = (0, omega arith, no_step z)
reaches→steps {up} (by_step {n} {p} r) = go (ℕ_discrete p 0) (reaches→steps r)
  where
    go : Dec (p ≡ 0) → (m : ℕ) × (m ≤ n) × Steps up m (up p) → (m : ℕ) × (m ≤ suc n) × Steps up m p
    go (yes z) s = (0, omega arith, no_step z)
    go (no z) (m, l, s) = (suc m, omega arith, one_step z s)

-- more steps do not hurt
pub reaches_more : {up : ℕ → ℕ} {m n p : ℕ} → m ≤ n → Reaches up m p → Reaches up n p
reaches_more {n = n} l (at_root z) = at_root z
reaches_more {n = zero} l (by_step r) = absurd (omega arith)
reaches_more {n = suc n} l (by_step r) = by_step {n = n} (reaches_more (omega arith) r)

-- nobody but the root is its own parent
pub no_self : {up : ℕ → ℕ} {n p : ℕ} → Reaches up n p → up p ≡ p → p ≡ 0
no_self (at_root z) q = z
no_self {up} (by_step r) q = sym q ∙ no_self r (ap up q)

-- Who reaches 0 still does so by new parents that are the old ones on the way: P holds of all on the way.
pub reaches_same : {up new : ℕ → ℕ} (P : ℕ → Type 0) → ((p : ℕ) → P p → new p ≡ up p) → ((p : ℕ) → P p → P (up p))
    → {n p : ℕ} → P p → Reaches up n p → Reaches new n p
reaches_same P same on h (at_root z) = at_root z
reaches_same {new = new} P same on {p = p} h (by_step r) =
    by_step (subst (Reaches new _) (sym (same p h)) (reaches_same P same on (on p h) r))

-- ── what a climb says that makes nothing of the way ──
module _ {A : Type 0} (up : ℕ → ℕ) (root : ℕ → A) (lost : A) where
  -- who gets to 0 in m of n steps has n - m left
  pub climb_top : {m n p : ℕ} → m ≤ n → Steps up m p → climb up root lost (λ q r. r) p n ≡ root (n - m)
  climb_top {n = n} l (no_step {p} z) = sym (climb_root up root lost _ p n z) ∙ ap root (omega arith)
  climb_top {n = zero} l (one_step z s) = absurd (omega arith)
  climb_top {n = suc n} l (one_step {p = p} z s) =
      climb_suc up root lost _ p n z ∙ climb_top (omega arith) s ∙ ap root (omega arith)

  -- who does not get there is lost
  pub climb_never : (n p : ℕ) → (Reaches up n p → ⊥) → climb up root lost (λ q r. r) p n ≡ lost
  climb_never zero p h = sym (climb_lost up root lost _ p 0 (λ z. h (at_root z)) refl)
  climb_never (suc n) p h =
      climb_suc up root lost _ p n (λ z. h (at_root z)) ∙ climb_never n (up p) (λ r. h (by_step r))

reaches_to : (up : ℕ → ℕ) (n p : ℕ) → Dec (p ≡ 0) → reaches up n p ≡ true → Reaches up n p
reaches_to up zero p (yes z) q = at_root z
reaches_to up zero p (no z) q = absurd (false≢true (climb_lost up _ false _ p 0 z refl ∙ q))
reaches_to up (suc n) p (yes z) q = at_root z
reaches_to up (suc n) p (no z) q =
    by_step (reaches_to up n (up p) (ℕ_discrete (up p) 0) (sym (climb_suc up _ false _ p n z) ∙ q))

-- the test tells whether p reaches 0
pub reaches_iff : (up : ℕ → ℕ) (n p : ℕ) → (reaches up n p ≡ true) ↔ Reaches up n p
reaches_iff up n p = (
  reaches_to up n p (ℕ_discrete p 0),
  λ r. let (m, l, s) = reaches→steps r in climb_top up _ false l s,
)

-- ── climbs that give the same ──
module _ {A : Type 0} (up : ℕ → ℕ) (a lost : A) (step : ℕ → A → A) where
  past : {m n p : ℕ} → m ≤ n → Steps up m p → climb up (λ k. a) lost step p n ≡ climb up (λ k. a) lost step p m
  past {n = n} l (no_step {p} z) = sym (climb_root up _ lost step p n z) ∙ climb_root up _ lost step p 0 z
  past {n = zero} l (one_step z s) = absurd (omega arith)
  past {n = suc n} l (one_step {n = m} {p} z s) =
      climb_suc up _ lost step p n z ∙ ap (step p) (past (omega arith) s) ∙ sym (climb_suc up _ lost step p m z)

  -- where p reaches 0, more steps change nothing, if `root` does not ask how many are left
  pub climb_enough : {m n p : ℕ} → m ≤ n → Reaches up m p → climb up (λ k. a) lost step p n ≡ climb up (λ k. a) lost step p m
  climb_enough l r = let (j, k, s) = reaches→steps r in past (omega arith) s ∙ sym (past k s)

-- Climbs that agree on the way give the same: P holds of all on the way.
module _ {A : Type 0} {up new : ℕ → ℕ} {root top : ℕ → A} (lost : A) {step turn : ℕ → A → A} (P : ℕ → Type 0)
    (same_up : (p : ℕ) → P p → new p ≡ up p) (on : (p : ℕ) → P p → P (up p))
    (same-root : (k : ℕ) → top k ≡ root k) (same_step : (p : ℕ) (a : A) → P p → turn p a ≡ step p a) where
  pub climb_ext : (p n : ℕ) → P p → climb new top lost turn p n ≡ climb up root lost step p n
  unfolding climb
  climb_ext p zero h = rw (same-root 0) refl
  climb_ext p (suc n) h =
      ap₂ (cond (eqb p 0)) (same-root (suc n))
      (same_step p _ h ∙ ap (step p) (ap (λ (q : ℕ). climb new top lost turn q n) (same_up p h) ∙ climb_ext (up p) n (on p h)))
