-- The test of 15 steps tells exactly who is in the branch of a partition, whatever the parents are; where walks reach the root, its parent is not in it.
use Rattle.std.specs.Prelude.{◌≡◌, Bool, true, false, ◌||◌, eqb}
use Rattle.std.proofs.Math.Path.{refl}
use Rattle.std.proofs.Common.{sym, subst, ◌∙◌, arith}
use Rattle.std.proofs.lemmas.Bool.{false≢true}
use Prim.Native.Nat.{ℕ, zero, suc, ◌≤◌, ◌<◌}
use Rattle.std.proofs.Math.Decide.{ℕ_discrete}
use borrow.Author.Tests.{eq-eqb, ne_eqb}
use Rattle.loops.specs.Loops.{climb, Reaches, at_root, by_step}
use Rattle.loops.specs.Laws.Climb.{climb_root, climb_lost, climb_suc, Steps, no_step, one_step, steps_one, reaches→steps}
use Rattle.loops.specs.Laws.Pigeon.{climb_within}
use Rattle.tables.specs.Update.{upd1}
use Rattle.tables.specs.Laws.Update.{upd1_same, upd1_other}
use Rattle.rules.specs.Rules.{records_zero, branch}
use Rattle.rules.specs.Branch.{Under, itself, below}

module _ (up : ℕ → ℕ) (p : ℕ) where
  -- the walk from q meets p within n steps
  abbrev meets : ℕ → ℕ → Bool
  meets q n = climb up (λ k. false) false (λ r above. eqb r p || above) q n

  meets_here : (n q : ℕ) → (q ≡ 0 → ⊥) → q ≡ p → meets q (suc n) ≡ true
  meets_here n q h z = climb_suc up _ false _ q n h ∙ rw (eq-eqb q p z) refl

  meets_up : (n q : ℕ) → (q ≡ 0 → ⊥) → (q ≡ p → ⊥) → meets q (suc n) ≡ meets (up q) n
  meets_up n q h z = climb_suc up _ false _ q n h ∙ rw (ne_eqb q p z) refl

  meets_under : (n q : ℕ) → Dec (q ≡ 0) → Dec (q ≡ p) → meets q n ≡ true → Under up p q
  meets_under zero q (yes z) d h = absurd (false≢true (climb_root up _ false _ q 0 z ∙ h))
  meets_under zero q (no z) d h = absurd (false≢true (climb_lost up _ false _ q 0 z refl ∙ h))
  meets_under (suc n) q (yes z) d h = absurd (false≢true (climb_root up _ false _ q (suc n) z ∙ h))
  meets_under (suc n) q (no z) (yes e) h = itself e
  meets_under (suc n) q (no z) (no e) h =
      below z (meets_under n (up q) (ℕ_discrete (up q) 0) (ℕ_discrete (up q) p) (sym (meets_up n q z e) ∙ h))

  -- the walk stops at p, so its parent does not count
  meets_cut : (n q : ℕ) → Dec (q ≡ 0) → Dec (q ≡ p) → climb (records_zero (λ q. eqb q p) 0 up) (λ k. false) false (λ r above. eqb r p || above) q n ≡ meets q n
  unfolding climb
  meets_cut zero q d e = refl
  meets_cut (suc n) q (yes z) e = rw (eq-eqb q 0 z) refl
  meets_cut (suc n) q (no z) (yes e) = rw (ne_eqb q 0 z, eq-eqb q p e) refl
  meets_cut (suc n) q (no z) (no e) = rw (ne_eqb q 0 z, ne_eqb q p e) (meets_cut n (up q) (ℕ_discrete (up q) 0) (ℕ_discrete (up q) p))

  -- a walk that ends at p as at the root
  abbrev cut : ℕ → ℕ
  cut = upd1 up p 0

  under_reaches : {q : ℕ} → Under up p q → (n : ℕ) × Reaches cut n q
  under_reaches {q} (itself z) = (1, by_step (at_root (upd1_same up p 0 q z)))
  under_reaches {q} (below z u) = go (ℕ_discrete q p) (under_reaches u)
    where
      go : Dec (q ≡ p) → (n : ℕ) × Reaches cut n (up q) → (n : ℕ) × Reaches cut n q
      go (yes e) r = (1, by_step (at_root (upd1_same up p 0 q e)))
      go (no e) (n, r) = (suc n, by_step (subst (Reaches cut n) (sym (upd1_other up p 0 q e)) r))

  module _ (child : p ≡ 0 → ⊥) where
    -- the root is in no branch but its own
    pub under_root : {q : ℕ} → q ≡ 0 → Under up p q → ⊥
    under_root z (itself e) = child (sym e ∙ z)
    under_root z (below n u) = n z

    under_meets : {n q : ℕ} → Under up p q → Reaches cut n q → meets q n ≡ true
    under_meets u (at_root z) = absurd (under_root z u)
    under_meets {n = suc n} {q} u (by_step r) = go u (ℕ_discrete q p) (λ v. under_meets v r)
      where
        other : (q ≡ p → ⊥) → Under up p q → (q ≡ 0 → ⊥) × Under up p (up q)
        other e (itself z) = absurd (e z)
        other e (below z v) = (z, v)

        go : Under up p q → Dec (q ≡ p) → (Under up p (cut q) → meets (cut q) n ≡ true) → meets q (suc n) ≡ true
        go u (yes e) on = meets_here n q (λ z. under_root z u) e
        go u (no e) on =
            let (z, v) = other e u in
            let same = upd1_other up p 0 q e in
            meets_up n q z e ∙ (rw same at (on (rw same v)))

    -- a walk without a repetition has at most 15 steps: the test tells who is in the branch
    pub branch_of_law : ((q : ℕ) → up q < 16) → {q : ℕ} → q < 16 → Under up p q → branch up p q ≡ true
    unfolding branch
    branch_of_law small b u = under_meets u (climb_within (λ q. q < 16) (λ q _. stays q (ℕ_discrete q p)) 15 (λ q h. h) b (under_reaches u).1)
      where
        stays : (q : ℕ) → Dec (q ≡ p) → cut q < 16
        stays q (yes z) = rw (upd1_same up p 0 q z) (omega arith)
        stays q (no z) = rw (upd1_other up p 0 q z) (small q)

  pub branch_cut : (q : ℕ) → branch (records_zero (λ q. eqb q p) 0 up) p q ≡ branch up p q
  unfolding branch
  branch_cut q = meets_cut 15 q (ℕ_discrete q 0) (ℕ_discrete q p)

  pub branch_self : (p ≡ 0 → ⊥) → {q : ℕ} → q ≡ p → branch up p q ≡ true
  unfolding branch
  branch_self h {q} z = meets_here 14 q (λ y. h (sym z ∙ y)) z

  pub branch_at : {q : ℕ} → branch up p q ≡ true → Under up p q
  unfolding branch
  branch_at {q} h = meets_under 15 q (ℕ_discrete q 0) (ℕ_discrete q p) h

-- ── where walks reach the root ──
-- who is in the branch of p is as far from the root as p, or farther
under_steps : {up : ℕ → ℕ} {p q n : ℕ} → Under up p q → Steps up n q → (m : ℕ) × (m ≤ n) × Steps up m p
under_steps {up} {n = n} (itself z) s = (n, omega arith, subst (Steps up n) z s)
under_steps (below z u) (no_step e) = absurd (z e)
under_steps (below z u) (one_step _ s) = let (m, l, t) = under_steps u s in (m, omega arith, t)

-- so its parent is not in it
pub under_parent : {up : ℕ → ℕ} {p n : ℕ} → (p ≡ 0 → ⊥) → Reaches up n p → Under up p (up p) → ⊥
under_parent {up} {p} h r u = let (m, _, s) = reaches→steps r in go s
  where
    go : {m : ℕ} → Steps up m p → ⊥
    go (no_step z) = h z
    go (one_step z s) = let (j, l, t) = under_steps u s in let e = steps_one t (one_step z s) in omega arith
