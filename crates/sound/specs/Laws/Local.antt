-- S8 and S9 without a look at two areas together, or at an entry and an area: each area marks the not-given entry that it equals. Then
-- areas share no line if none marks what another did; a not-given entry is open if it is not marked, a given one if all of the child's inside it are.
use Rattle.std.specs.Prelude.{◌≡◌, refl, Bool, true, false, ◌↔◌, ℕ, zero, suc, ◌+◌, ◌*◌, ◌≤◌, ◌<◌}
use Rattle.std.proofs.Common.{ap, sym, subst, ◌∙◌, arith}
use Rattle.std.proofs.lemmas.Bool.{false≢true}
use Rattle.std.proofs.Math.Decide.{ℕ_discrete}
use Rattle.loops.specs.Laws.Climb.{Steps, one_step, steps_one, reaches→steps}
use Rattle.tables.specs.State.{some, Entry, Area, nowhere, K, Table}
use Rattle.tables.specs.Laws.State.{some_inj, same_at, same_a}
use Rattle.tables.specs.Lines.{In, InA, Clear}
use Rattle.sound.specs.Sound.{Rooted, Around, S9}
use Rattle.sound.specs.Core.{Backed}
use Rattle.sound.specs.Laws.Grants.{Grants, grants_free_one}

-- area j of p equals the not-given entry in the slot of number x: 32 * partition + slot
pub record EqualAt (k : K) (p j : ℕ) (a : Area) (x : ℕ) : Type 0 where
  pub backed : Backed k.slot k.parent p j a
  pub few : backed.i < 32
  pub place : x ≡ 32 * backed.q + backed.i

-- m says which slots are marked: those that areas equal, each by one
pub record MarkedOnce (k : K) (m : ℕ → Bool) : Type 0 where
  pub at : ℕ → ℕ → ℕ
  pub equal : (p j : ℕ) (a : Area) → k.area p j ≡ some a → (Rooted p j → ⊥) → EqualAt k p j a (at p j)
  pub hit : (p j : ℕ) (a : Area) → k.area p j ≡ some a → (Rooted p j → ⊥) → m (at p j) ≡ true
  pub back : (x : ℕ) → m x ≡ true → (p j : ℕ) × (a : Area) × (k.area p j ≡ some a) × (Rooted p j → ⊥) × (at p j ≡ x)
  pub once : (p j q i : ℕ) (a b : Area) → k.area p j ≡ some a → (Rooted p j → ⊥) → k.area q i ≡ some b → (Rooted q i → ⊥) → at p j ≡ at q i → (p ≡ q) × (j ≡ i)

-- the root's header and its structure 0 have area 0, 0
pub record RootAreas (k : K) : Type 0 where
  pub header : k.area 0 0 ≡ some nowhere
  pub structure : k.area 0 1 ≡ some nowhere

-- an area with a line in it is none of these two
pub not_rooted : {k : K} → RootAreas k → (p j : ℕ) (a : Area) (l : ℕ) → k.area p j ≡ some a → InA l a → Rooted p j → ⊥
not_rooted {k} h p zero a l u x z = let w = same_a (some_inj (sym h.header ∙ subst (λ (n : ℕ). k.area n 0 ≡ some a) z.0 u)) in omega arith
not_rooted {k} h p (suc zero) a l u x z = let w = same_a (some_inj (sym h.structure ∙ subst (λ (n : ℕ). k.area n 1 ≡ some a) z.0 u)) in omega arith
not_rooted h p (suc (suc j)) a l u x z = omega arith

module _ {k : K} (h : Grants k) (root : RootAreas k) where
  -- two not-given entries with a line are in one slot
  one_slot : {p q i j l : ℕ} {e f : Entry} → k.slot p i ≡ some e → e.given ≡ 0 → In l e → k.slot q j ≡ some f → f.given ≡ 0 → In l f → (p ≡ q) × (i ≡ j)
  one_slot {p} {q} {i} {j} {l} {e} {f} u a x v b y =
      let z : p ≡ q = grants_free_one h u a x v b y in
      (z, h.s6 p i j e f l u (rw z v) x y)

  module _ {m : ℕ → Bool} (marks : MarkedOnce k m) where
    -- ── S8: areas share no line ──
    pub marked_apart : (p j q i : ℕ) (a b : Area) (l : ℕ) → k.area p j ≡ some a → k.area q i ≡ some b → InA l a → InA l b → (p ≡ q) × (j ≡ i)
    marked_apart p j q i a b l u v x y =
        let n = not_rooted root p j a l u x in
        let o = not_rooted root q i b l v y in
        let c = marks.equal p j a u n in
        let d = marks.equal q i b v o in
        let (z, w) = one_slot {l = l} c.backed.at c.backed.free (omega (arith, c.backed.lo, c.backed.hi)) d.backed.at d.backed.free (omega (arith, d.backed.lo, d.backed.hi)) in
        marks.once p j q i a b u n v o (omega (arith, c.place, d.place))

    -- ── S9: an entry that is not given ──
    pub unmarked_clear : (q i : ℕ) (e : Entry) → i < 32 → k.slot q i ≡ some e → e.given ≡ 0 → (m (32 * q + i) ≡ false) ↔ Clear k.area e
    unmarked_clear q i e few u g = (to, back (m (32 * q + i)) refl)
      where
        to : m (32 * q + i) ≡ false → Clear k.area e
        to w p j a l v x y =
            let n = not_rooted root p j a l v x in
            let c = marks.equal p j a v n in
            let (z, s) = one_slot u g y c.backed.at c.backed.free (omega (arith, c.backed.lo, c.backed.hi)) in
            let at : marks.at p j ≡ 32 * q + i = omega (arith, c.place) in
            false≢true (sym w ∙ ap m (sym at) ∙ marks.hit p j a v n)

        back : (b : Bool) → m (32 * q + i) ≡ b → Clear k.area e → m (32 * q + i) ≡ false
        back false w c = w
        back true w c =
            let (p, j, a, v, n, at) = marks.back (32 * q + i) w in
            let d = marks.equal p j a v n in
            let z : d.backed.q ≡ q = omega (arith, d.place, d.few) in
            let s : d.backed.i ≡ i = omega (arith, d.place, d.few) in
            let r = h.range q i e u in
            let o = same_at (k.slot q i) u (rw (z, s) at d.backed.at) in
            absurd (c p j a e.start v (omega (arith, d.backed.lo, d.backed.hi, o.start, o.stop)) (record { from = omega arith; to = r }))

  -- ── S9: an entry that is given ──
  -- all entries of the child that lie inside it are clear
  pub given_clear : (p i : ℕ) (e : Entry) → k.slot p i ≡ some e → (e.given ≡ 0 → ⊥)
      → Clear k.area e ↔ ((j : ℕ) (f : Entry) → k.slot e.given j ≡ some f → Around f e → Clear k.area f)
  given_clear p i e u g = (
    λ c j f v o q n a l w x y. c q n a l w x (omega (arith, o.from, o.to)),
    λ c q n a l w x y.
        let v = h.cover p i e l u g y in
        let (j, f, o) = h.inside e.given v.i v.e v.at g in
        let at : k.slot p j ≡ some f = rw (h.given p i e u g).1 at o.at in
        let z : i ≡ j = h.s6 p i j e f l u at y (omega (arith, o.around.from, o.around.to)) in
        let s = same_at (k.slot p j) (rw z at u) at in
        c v.i v.e v.at (record { from = omega (arith, s.start, o.around.from); to = omega (arith, s.stop, o.around.to) }) q n a l w x v.holds,
  )

-- all entries of the child that e is given to, inside e, are open
abbrev pub AllOpen : Table → Entry → Type 0
AllOpen t e = (j : ℕ) (f : Entry) → t.k.slot e.given j ≡ some f → Around f e → t.opened e.given j ≡ true

-- S9 of p, by the marks and by the entries of its children
pub record LocalOpen (t : Table) (m : ℕ → Bool) (p : ℕ) : Type 0 where
  pub free : (i : ℕ) (e : Entry) → t.k.slot p i ≡ some e → e.given ≡ 0 → (t.opened p i ≡ true) ↔ (m (32 * p + i) ≡ false)
  pub given : (i : ℕ) (e : Entry) → t.k.slot p i ≡ some e → (e.given ≡ 0 → ⊥) → (t.opened p i ≡ true) ↔ AllOpen t e

module _ {t : Table} (h : Grants t.k) (root : RootAreas t.k) (few : (p i : ℕ) (e : Entry) → t.k.slot p i ≡ some e → i < 32) {m : ℕ → Bool} (marks : MarkedOnce t.k m) where
  pub s9_local : ((p : ℕ) → S9 t p) → (p : ℕ) → LocalOpen t m p
  s9_local s p = record {
    free = λ i e u g.
        let (a, b) = unmarked_clear h root marks p i e (few p i e u) u g in
        let (c, d) = s p i e u in
        (λ q. b (c q), λ q. d (a q));
    given = λ i e u g.
        let (a, b) = given_clear h root p i e u g in
        let (c, d) = s p i e u in
        (λ q j f v o. (s e.given j f v).1 (a (c q) j f v o), λ q. d (b (λ j f v o. (s e.given j f v).0 (q j f v o))));
  }

  -- from the deepest up: below n levels from the deepest there can be, all is told
  from_below : ((p : ℕ) → LocalOpen t m p) → (n d p : ℕ) → Steps t.k.parent d p → 16 ≤ d + n → S9 t p
  from_below s zero d p w far i e u =
      let (d', b, w') = reaches→steps (h.climbs p (h.owner p i e u)) in
      absurd (let z = steps_one w w' in omega arith)
  from_below s (suc n) d p w far i e u = go (ℕ_discrete e.given 0) (λ up. from_below s n (suc d) e.given up (omega arith))
    where
      go : Dec (e.given ≡ 0) → (Steps t.k.parent (suc d) e.given → S9 t e.given) → (t.opened p i ≡ true) ↔ Clear t.k.area e
      go (yes g) below =
          let (a, b) = unmarked_clear h root marks p i e (few p i e u) u g in
          let (c, d) = (s p).free i e u g in
          (λ q. a (c q), λ q. d (b q))
      go (no g) below =
          let (a, b) = given_clear h root p i e u g in
          let (c, f) = (s p).given i e u g in
          let up : Steps t.k.parent d (t.k.parent e.given) = rw (h.given p i e u g).1 w in
          let deep : S9 t e.given = below (one_step g up) in
          (λ q. b (λ j x v o. (deep j x v).0 (c q j x v o)), λ q. f (λ j x v o. (deep j x v).1 (a q j x v o)))

  pub local_s9 : ((p : ℕ) → LocalOpen t m p) → (p : ℕ) → S9 t p
  local_s9 s p i e u =
      let (d, _, w) = reaches→steps (h.climbs p (h.owner p i e u)) in
      from_below s 16 d p w (omega arith) i e u
