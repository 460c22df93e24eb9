-- What `meets`, `apart` and `clear` say: whether ranges share a line. The open bit that S9 derives is true exactly where the entry shares none with an area.
use Rattle.std.specs.Prelude.{◌≡◌, refl, true, false, not, ◌&&◌, ◌↔◌, ℕ, ◌+◌, ◌*◌, ◌/◌, ◌%◌, ◌≤◌, ◌<◌, max}
use Rattle.std.proofs.Math.Bool.{true≢false}
use native.Mathlib.Omega.{arith}
use Rattle.std.proofs.Math.Dec.{ltb}
use borrow.Author.Tests.{ltb-true, lt-ltb, not-true}
use Rattle.loops.specs.Laws.Every.{all_at, all_of}
use Rattle.tables.specs.State.{Opt, none, some, Entry, Area}
use Rattle.tables.specs.Laws.State.{not_none, some_inj, same_a}
use Rattle.tables.specs.Lines.{InA, Clear}
use Rattle.tables.specs.Settle.{meets, apart, clear, open_bit}
use Rattle.sound.specs.Laws.Tests.{and_says, not_of}

-- ── of a to b and c to d ──
module _ (a b c d : ℕ) where
  meets_no : (l : ℕ) → meets a b c d ≡ false → a ≤ l → l < b → c ≤ l → l < d → ⊥
  unfolding meets
  meets_no l q s t u v =
      true≢false (rw (lt-ltb a b (omega arith), lt-ltb c d (omega arith), lt-ltb a d (omega arith), lt-ltb c b (omega arith)) at q)

  meets_yes : meets a b c d ≡ true → (l : ℕ) × (a ≤ l) × (l < b) × (c ≤ l) × (l < d)
  unfolding meets
  meets_yes q =
      let x = and_says (ltb a b && ltb c d && ltb a d) (ltb c b) q in
      let y = and_says (ltb a b && ltb c d) (ltb a d) x.0 in
      let z = and_says (ltb a b) (ltb c d) y.0 in
      (max a c, omega arith, omega (arith, ltb-true), omega arith, omega (arith, ltb-true))

  -- they share no line
  pub meets_not : (not (meets a b c d) ≡ true) ↔ ((l : ℕ) → a ≤ l → l < b → c ≤ l → l < d → ⊥)
  meets_not = (
    λ q l. meets_no l (not-true (meets a b c d) q),
    λ h. not_of (meets a b c d) (λ q. let m = meets_yes q in h m.0 m.1 m.2 m.3 m.4),
  )

-- an area, or none, shares no line with a to b
pub apart_means : (o : Opt Area) (a b : ℕ) → (apart o a b ≡ true) ↔ ((x : Area) (l : ℕ) → o ≡ some x → InA l x → a ≤ l → l < b → ⊥)
unfolding apart
apart_means none a b = (λ q x l u. not_none none refl u, λ h. refl)
apart_means (some y) a b = (
  λ q x l u i s t. let e = same_a (some_inj u) in (meets_not y.lo y.hi a b).0 q l (omega arith) (omega arith) s t,
  λ h. (meets_not y.lo y.hi a b).1 (λ l u v. h y l refl (record { from = u; to = v })),
)

module _ (area : ℕ → ℕ → Opt Area) where
  pub clear_means : (a b : ℕ) → (clear area a b ≡ true) ↔ ((n : ℕ) → n < 80 → (x : Area) (l : ℕ) → area (n / 5) (n % 5) ≡ some x → InA l x → a ≤ l → l < b → ⊥)
  unfolding clear
  clear_means a b = (
    λ q n h. (apart_means (area (n / 5) (n % 5)) a b).0 (all_at 80 (λ n. apart (area (n / 5) (n % 5)) a b) q n h),
    λ f. all_of 80 (λ n. apart (area (n / 5) (n % 5)) a b) (λ n h. (apart_means (area (n / 5) (n % 5)) a b).1 (f n h)),
  )

  -- of areas that stand in the table: five of each of 16 partitions
  pub open_clear : ((p j : ℕ) (a : Area) → area p j ≡ some a → (p < 16) × (j < 5)) → (e : Entry) → (open_bit area (some e) ≡ true) ↔ Clear area e
  unfolding open_bit
  open_clear range e = (
    λ q p j a l u x y.
        let (hp, hj) = range p j a u in
        let h₁ : (5 * p + j) / 5 ≡ p = omega arith in
        let h₂ : (5 * p + j) % 5 ≡ j = omega arith in
        (clear_means e.start e.stop).0 q (5 * p + j) (omega arith) a l (rw (h₁, h₂) u) x y.from y.to,
    λ c. (clear_means e.start e.stop).1 (λ n h a l u x y z. c (n / 5) (n % 5) a l u x (record { from = y; to = z })),
  )
