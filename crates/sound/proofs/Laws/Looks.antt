-- How many slot words the listing of holders looks at. The descent adds up the searches on its way down, the deepest holder's among them: in a sound
-- table that is the sum over the holders, since who was given the line is one further down the way. No sum is above 512.
use Rattle.std.specs.Prelude.{◌≡◌, eqb, length}
use Rattle.std.proofs.Math.Path.{refl, ap, sym}
use Rattle.std.proofs.Common.{subst, ◌∙◌, eq-eqb, ne_eqb}
use Rattle.std.proofs.Math.Bool.{cond}
use mathlib.Core.List.{List, [], ◌∷◌, ◌++◌}
use Prim.Native.Nat.{ℕ, zero, suc, ◌+◌, ◌*◌, ◌-◌, ◌≤◌, ◌<◌}
use Rattle.std.proofs.Math.Decide.{ℕ_discrete}
use native.Mathlib.Omega.{arith}
use Rattle.loops.specs.Laws.Climb.{Steps, no_step, one_step, climb_root, climb_suc, climb_enough, steps→reaches}
use Rattle.tables.specs.State.{Opt, none, some, Entry, K}
use Rattle.tables.specs.Search.{lowest, holds_at, looked_at, look_for}
use Rattle.tables.specs.Laws.Search.{lowest_some}
use Rattle.sound.specs.Core.{Core}
use Rattle.sound.specs.Holders.{receiver, given_by, heir, deepest, trail, holders_of, sum_over, looks_of}
use Rattle.sound.proofs.Laws.Holders.{holders_few, deepest_down}

-- the words that the search of p for line l looks at
abbrev looked : K → ℕ → ℕ → ℕ
looked k l p = (look_for k l p).count

-- what the descent from p adds up, with n steps left
unfoldable pub looks_from : K → ℕ → ℕ → ℕ → ℕ
looks_from k l p zero = (look_for k l p).count
looks_from k l p (suc n) = (look_for k l p).count + cond (eqb (heir k l p) 0) 0 (looks_from k l (heir k l p) n)

-- ── each search looks at 32 words at most, and there are at most 16 holders ──
looked_le : (k : K) (l p : ℕ) → (look_for k l p).count ≤ 32
unfolding looked_at
looked_le k l p = go (lowest 32 (holds_at k p l)) refl
  where
    go : (o : Opt ℕ) → lowest 32 (holds_at k p l) ≡ o → looked_at o ≤ 32
    go none q = omega arith
    go (some i) q = omega (arith, (lowest_some 32 (holds_at k p l) i q).below)

sum_le : (f : ℕ → ℕ) (xs : List ℕ) → ((x : ℕ) → f x ≤ 32) → sum_over f xs ≤ 32 * length xs
unfolding sum_over
sum_le f [] h = omega arith
sum_le f (x ∷ xs) h = omega (arith, h x, sum_le f xs h)

pub looks_few : (k : K) (l : ℕ) → looks_of k l ≤ 512
unfolding looks_of
looks_few k l = omega (arith, sum_le (looked k l) (holders_of k l) (looked_le k l), holders_few k l)

-- ── the exits of the descent ──
module _ (k : K) (l p n : ℕ) where
  looks_here : heir k l p ≡ 0 → (look_for k l p).count ≡ looks_from k l p n
  unfolding looks_from
  looks_here = go n
    where
      go : (n : ℕ) → heir k l p ≡ 0 → looked k l p ≡ looks_from k l p n
      go zero h = refl
      go (suc n) h = rw (eq-eqb (heir k l p) 0 h) (omega arith)

  looks_last : n ≡ 0 → (look_for k l p).count ≡ looks_from k l p n
  unfolding looks_from
  looks_last = go n
    where
      go : (n : ℕ) → n ≡ 0 → looked k l p ≡ looks_from k l p n
      go zero h = refl
      go (suc n) h = absurd (omega arith)

  looks_down : (n ≡ 0 → ⊥) → (heir k l p ≡ 0 → ⊥) → (look_for k l p).count + looks_from k l (heir k l p) (n - 1) ≡ looks_from k l p n
  unfolding looks_from
  looks_down = go n
    where
      go : (n : ℕ) → (n ≡ 0 → ⊥) → (heir k l p ≡ 0 → ⊥) → looked k l p + looks_from k l (heir k l p) (n - 1) ≡ looks_from k l p n
      go zero z h = absurd (z refl)
      go (suc n) z h = let e : suc n - 1 ≡ n = omega arith in rw (ne_eqb (heir k l p) 0 h, e) refl

-- ── in a sound table it is the sum over the holders ──
sum_end : (f : ℕ → ℕ) (xs : List ℕ) (x : ℕ) → sum_over f (xs ++ (x ∷ [])) ≡ sum_over f xs + f x
unfolding sum_over
sum_end f [] x = omega arith
sum_end f (y ∷ xs) x = omega (arith, sum_end f xs x)

module _ {k : K} (h : Core k) (l : ℕ) where
  -- the parent of an heir
  heir_up : (p : ℕ) → (heir k l p ≡ 0 → ⊥) → k.parent (heir k l p) ≡ p
  unfolding heir given_by receiver
  heir_up p n = go (lowest 32 (holds_at k p l)) n
    where
      at : (i : ℕ) (o : Opt Entry) → k.slot p i ≡ o → (receiver o ≡ 0 → ⊥) → k.parent (receiver o) ≡ p
      at i none u n = absurd (n refl)
      at i (some e) u n = (h.s7_given_law p i e u n).1

      go : (o : Opt ℕ) → (given_by k p o ≡ 0 → ⊥) → k.parent (given_by k p o) ≡ p
      go none n = absurd (n refl)
      go (some i) n = at i (k.slot p i) refl n

  -- the way to one step further down has one more
  trail_more : {a p g : ℕ} → Steps k.parent a p → a < 15 → (g ≡ 0 → ⊥) → k.parent g ≡ p → trail k g 15 ≡ trail k p 15 ++ (g ∷ [])
  unfolding trail
  trail_more {a} {p} {g} s b n e =
      climb_suc k.parent (λ s. 0 ∷ []) [] (λ q r. r ++ (q ∷ [])) g 14 n
      ∙ ap (λ (q : ℕ). trail k q 14 ++ (g ∷ [])) e
      ∙ ap (λ (xs : List ℕ). xs ++ (g ∷ [])) (enough 14 (omega arith) ∙ sym (enough 15 (omega arith)))
    where
      enough : (m : ℕ) → a ≤ m → trail k p m ≡ trail k p a
      enough m c = climb_enough k.parent (0 ∷ []) [] (λ q r. r ++ (q ∷ [])) c (steps→reaches s)

  along : (n : ℕ) {a p : ℕ} → Steps k.parent a p → a + n ≡ 15
      → sum_over (looked k l) (trail k (deepest k l p n) 15) + looked k l p ≡ sum_over (looked k l) (trail k p 15) + looks_from k l p n
  unfolding deepest looks_from
  along zero s b = refl
  along (suc n) {a} {p} s b = go (ℕ_discrete (heir k l p) 0) (λ z. along n {a = suc a} {p = heir k l p} (one_step z (subst (Steps k.parent a) (sym (heir_up p z)) s)) (omega arith))
    where
      go : Dec (heir k l p ≡ 0)
          → ((heir k l p ≡ 0 → ⊥) → sum_over (looked k l) (trail k (deepest k l (heir k l p) n) 15) + looked k l (heir k l p) ≡ sum_over (looked k l) (trail k (heir k l p) 15) + looks_from k l (heir k l p) n)
          → sum_over (looked k l) (trail k (cond (eqb (heir k l p) 0) p (deepest k l (heir k l p) n)) 15) + looked k l p
          ≡ sum_over (looked k l) (trail k p 15) + (looked k l p + cond (eqb (heir k l p) 0) 0 (looks_from k l (heir k l p) n))
      go (yes z) ih = rw (eq-eqb (heir k l p) 0 z) (omega arith)
      go (no z) ih =
          let t = ap (sum_over (looked k l)) (trail_more s (omega arith) z (heir_up p z)) ∙ sum_end (looked k l) (trail k p 15) (heir k l p) in
          rw (ne_eqb (heir k l p) 0 z) (omega (arith, ih z, t))

  pub looks_sum : looks_from k l 0 15 ≡ looks_of k l
  unfolding looks_of holders_of trail sum_over
  looks_sum =
      let t : sum_over (looked k l) (trail k 0 15) ≡ looked k l 0 + 0 = ap (sum_over (looked k l)) (sym (climb_root k.parent (λ s. 0 ∷ []) [] (λ q r. r ++ (q ∷ [])) 0 15 refl)) in
      omega (arith, along 15 (no_step refl) refl, t)

-- at p with so many steps left and the sum of the searches so far, the descent comes to the same partition and the same sum as from the root
pub record Descending (k : K) (l p left count : ℕ) : Type 0 where
  pub within : left ≤ 15
  pub small : p < 16
  pub comes : deepest k l p left ≡ deepest k l 0 15
  pub adds : count + looks_from k l p left ≡ looks_from k l 0 15
  pub few : count ≤ 32 * (15 - left)

module _ {k : K} {l p left count s : ℕ} (d : Descending k l p left count) (looks : s ≡ (look_for k l p).count) where
  pub looks_descent_room : count + s ≤ 512
  looks_descent_room = omega (arith, d.few, looks, looked_le k l p)

  -- one step further down
  pub looks_descent_down : {g : ℕ} → (left ≡ 0 → ⊥) → g ≡ heir k l p → g < 16 → (g ≡ 0 → ⊥) → Descending k l g (left - 1) (count + s)
  looks_descent_down {g} z e b n =
      let h : heir k l p ≡ 0 → ⊥ = λ x. n (e ∙ x) in
      let u : looks_from k l g (left - 1) ≡ looks_from k l (heir k l p) (left - 1) = ap (λ (q : ℕ). looks_from k l q (left - 1)) e in
      record {
        within = omega (arith, d.within);
        small = b;
        comes = ap (λ (q : ℕ). deepest k l q (left - 1)) e ∙ deepest_down k l p left z h ∙ d.comes;
        adds = omega (arith, u, looks, looks_down k l p left z h, d.adds);
        few = omega (arith, d.few, d.within, z, looks, looked_le k l p);
      }

-- at its end it has added up the sum over the holders
module _ {k : K} {l p left count s : ℕ} (h : Core k) (d : Descending k l p left count) (looks : s ≡ (look_for k l p).count) where
  pub looks_descent_here : heir k l p ≡ 0 → count + s ≡ looks_of k l
  looks_descent_here n = omega (arith, looks, looks_here k l p left n, d.adds, looks_sum h l)

  pub looks_descent_last : left ≡ 0 → count + s ≡ looks_of k l
  looks_descent_last z = omega (arith, looks, looks_last k l p left z, d.adds, looks_sum h l)
