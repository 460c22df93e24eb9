-- The test of S8 says what the clause says.
use Rattle.std.specs.Prelude.{◌≡◌, true, ◌&&◌, ◌||◌, ◌⊎◌, ◌↔◌, List, ltb}
use Rattle.std.proofs.Math.Path.{refl}
use Rattle.std.proofs.Math.Bool.{Bool, not}
use Rattle.std.proofs.Math.Logic.{inl, inr, ⊎_elim}
use Prim.Native.Nat.{ℕ, zero, suc, ◌+◌, ◌*◌, ◌/◌, ◌%◌, ◌≤◌, ◌<◌}
use Rattle.std.proofs.Math.Decide.{dec_lt}
use native.Mathlib.Omega.{arith}
use Rattle.std.proofs.Math.Dec.{eqb}
use borrow.Author.Tests.{ltb-true, lt-ltb, eqb-true, eq-eqb}
use Rattle.loops.specs.Loops.{all}
use Rattle.loops.specs.Laws.Every.{all_at, all_of}
use Rattle.tables.specs.State.{some, Area, K}
use Rattle.tables.specs.View.{view}
use Rattle.tables.specs.Laws.View.{area_bounds}
use Rattle.tables.specs.Lines.{InA}
use Rattle.tables.specs.Settle.{apart}
use Rattle.sound.specs.Sound.{Rooted, Equals, S8}
use Rattle.sound.specs.Clauses.{rooted, equals, s8_backed, s8_apart, s8}
use Rattle.sound.specs.Laws.Tests.{and_says, and_true, or_says, or_left, or_right, then_says, then_true, not_says, not_of, when_says, when_true}
use Rattle.sound.specs.Laws.Meets.{apart_means}
use Rattle.sound.proofs.Laws.MeansEntries.{else_says, else_true, Slots32, some_means, slots32}

pub rooted_means : (p j : ℕ) → (rooted p j ≡ true) ↔ Rooted p j
unfolding rooted
rooted_means p j = (
  λ q. let x = and_says (eqb p 0) (ltb j 2) q in (eqb-true p 0 x.0, ltb-true j 2 x.1),
  λ h. rw (eq-eqb p 0 h.0, lt-ltb j 2 h.1) refl,
)

-- an entry of p's parent equals area j of p, or, for a structure's, an entry of p itself
abbrev Backed : K → ℕ → ℕ → Area → Type 0
Backed k p j a = Equals k (k.parent p) a ⊎ ((j ≡ 0 → ⊥) × Equals k p a)

module _ (k : K) (slots : Slots32 k) where
  pub equals_means : (q : ℕ) (a : Area) → (equals k q a ≡ true) ↔ Equals k q a
  unfolding equals
  equals_means q a = (
    λ x.
        let (i, e, u, h) = (some_means k slots _ q).0 x in
        let y = and_says (eqb e.given 0 && eqb e.start a.lo) (eqb e.stop a.hi) h in
        let z = and_says (eqb e.given 0) (eqb e.start a.lo) y.0 in
        record {
          i = i;
          e = e;
          at = u;
          free = eqb-true e.given 0 z.0;
          lo = eqb-true e.start a.lo z.1;
          hi = eqb-true e.stop a.hi y.1;
        },
    λ h.
        (some_means k slots _ q).1 (
          h.i,
          h.e,
          h.at,
          rw (eq-eqb h.e.given 0 h.free, eq-eqb h.e.start a.lo h.lo, eq-eqb h.e.stop a.hi h.hi) refl,
        ),
  )

  backed_means : (p j : ℕ) → (s8_backed k p j ≡ true) ↔ ((a : Area) → k.area p j ≡ some a → (Rooted p j → ⊥) → Backed k p j a)
  unfolding s8_backed
  backed_means p j = (
    λ q a u n.
        ⊎_elim
        (λ x. inl ((equals_means (k.parent p) a).0 x))
        (λ x. let (z, e) = and_says (not (eqb j 0)) (equals k p a) x in inr (λ w. not_says (eqb j 0) z (eq-eqb j 0 w), (equals_means p a).0 e))
        (or_says (equals k (k.parent p) a) _ (when_says _ (k.area p j) (else_says (rooted p j) _ q (λ x. n ((rooted_means p j).0 x))) a u)),
    λ h. else_true (rooted p j) _ (λ n. when_true _ (k.area p j) (λ a u.
        ⊎_elim
        (λ x. or_left _ _ ((equals_means (k.parent p) a).1 x))
        (λ (z, x). or_right (equals k (k.parent p) a) _ (and_true _ _ (not_of (eqb j 0) (λ w. z (eqb-true j 0 w))) ((equals_means p a).1 x)))
        (h a u (λ x. n ((rooted_means p j).1 x))))),
  )

  -- ── where areas stand at 0 to 4 of partitions 0 to 15 ──
  module _ (areas : (p j : ℕ) (a : Area) → k.area p j ≡ some a → (p < 16) × (j < 5)) where
    -- area j of p shares no line with an area after it
    after_means : (p j : ℕ) → (s8_apart k p j ≡ true)
        ↔ ((q i : ℕ) (a b : Area) (l : ℕ) → 5 * p + j < 5 * q + i → k.area p j ≡ some a → k.area q i ≡ some b → InA l a → InA l b → ⊥)
    unfolding s8_apart
    after_means p j = (
      λ x q i a b l c u v s t.
          let m = areas q i b v in
          let n : ℕ = 5 * q + i in
          let d : n / 5 ≡ q = omega arith in
          let e : n % 5 ≡ i = omega arith in
          let f : ℕ → Bool = λ n. not (ltb (5 * p + j) n) || apart (k.area (n / 5) (n % 5)) a.lo a.hi in
          let y = then_says (ltb (5 * p + j) n) _ (all_at 80 f (when_says _ (k.area p j) x a u) n (omega arith)) (lt-ltb (5 * p + j) n c) in
          (apart_means (k.area (n / 5) (n % 5)) a.lo a.hi).0 y b l (rw (d, e) v) t s.from s.to,
      λ h. when_true _ (k.area p j) (λ a u. all_of 80 _ (λ n _. then_true (ltb (5 * p + j) n) _ (λ z.
          (apart_means (k.area (n / 5) (n % 5)) a.lo a.hi).1
          (λ b l v t x y. h (n / 5) (n % 5) a b l (omega (arith, ltb-true)) u v (record { from = x; to = y }) t)))),
    )

    s8_of : (p : ℕ) → (s8 k p ≡ true) ↔ S8 k p
    unfolding s8
    s8_of p = (
      λ x.
          let (y, z) = and_says (all 5 (s8_backed k p)) (all 5 (s8_apart k p)) x in
          record {
            header = λ n a u.
                ⊎_elim (λ h. h) (λ h. absurd (h.0 refl)) ((backed_means p 0).0 (all_at 5 (s8_backed k p) y 0 (omega arith)) a u (λ w. n w.0));
            structure = λ j a u n.
                ⊎_elim inr (λ h. inl h.1) ((backed_means p (1 + j)).0 (all_at 5 (s8_backed k p) y (1 + j) (areas p (1 + j) a u).1) a u n);
            apart = λ j q i a b l c u v s t.
                one z j q i a b l c u v s t (dec_lt (5 * p + j) (5 * q + i)) (dec_lt (5 * q + i) (5 * p + j));
          },
      λ h.
          and_true _ _
          (all_of 5 (s8_backed k p) (λ j _. (backed_means p j).1 (backed h j)))
          (all_of 5 (s8_apart k p) (λ j _. (after_means p j).1 (λ q i a b l c u v s t.
          let m = areas p j a u in
          let n = areas q i b v in
          let z = h.apart j q i a b l (omega arith) u v s t in
          omega arith))),
    )
      where
        backed : S8 k p → (j : ℕ) (a : Area) → k.area p j ≡ some a → (Rooted p j → ⊥) → Backed k p j a
        backed h zero a u n = inl (h.header (λ w. n (w, omega arith)) a u)
        backed h (suc j) a u n =
            let z : 1 + j ≡ suc j = omega arith in
            ⊎_elim (λ x. inr (λ w. omega arith, x)) inl (h.structure j a (rw z u) (rw z n))

        -- two areas that share a line are one: neither comes before the other
        one : all 5 (s8_apart k p) ≡ true → (j q i : ℕ) (a b : Area) (l : ℕ)
            → p ≤ q → k.area p j ≡ some a → k.area q i ≡ some b → InA l a → InA l b
            → Dec (5 * p + j < 5 * q + i) → Dec (5 * q + i < 5 * p + j) → (p ≡ q) × (j ≡ i)
        one z j q i a b l c u v s t (yes d) _ =
            absurd ((after_means p j).0 (all_at 5 (s8_apart k p) z j (areas p j a u).1) q i a b l d u v s t)
        one z j q i a b l c u v s t (no d) (yes e) =
            let m = areas p j a u in
            let n = areas q i b v in
            let w : q ≡ p = omega arith in
            absurd ((after_means p i).0 (all_at 5 (s8_apart k p) z i n.1) p j b a l (omega arith) (rw w at v) u t s)
        one z j q i a b l c u v s t (no d) (no e) =
            let m = areas p j a u in
            let n = areas q i b v in
            (omega arith, omega arith)

pub s8_means : (l : List ℕ) (p : ℕ) → (s8 (view l).k p ≡ true) ↔ S8 (view l).k p
s8_means l = s8_of (view l).k (slots32 l) (area_bounds l)
