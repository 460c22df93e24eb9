-- The tests of S6 and S7 say what the clauses say.
use Rattle.std.specs.Prelude.{◌≡◌, refl, false, cond, ◌&&◌, ◌||◌, ◌↔◌, List, leb, ltb}
use Rattle.std.proofs.Math.Bool.{Bool, true, not}
use Rattle.std.proofs.lemmas.Bool.{false≢true}
use mathlib.Core.Logic.Iff
use Prim.Native.Nat.{ℕ, ◌-◌, ◌≤◌, ◌<◌}
use Rattle.std.proofs.Math.Decide.{ℕ_discrete, dec_lt}
use native.Mathlib.Omega.{arith}
use Rattle.std.proofs.Math.Dec.{eqb}
use borrow.Author.Tests.{ltb-true, lt-ltb, leb-true, le-leb, eqb-true, eqb-false, eq-eqb, ne_eqb}
use Rattle.loops.specs.Loops.{all, any}
use Rattle.loops.specs.Laws.Every.{all_at, all_of, any_at, any_of}
use Rattle.tables.specs.State.{Opt, none, some, Entry, Area, K, Table}
use Rattle.tables.specs.Laws.State.{not_none, some_inj, same}
use Rattle.tables.specs.View.{view}
use Rattle.tables.specs.Laws.View.{slot_bounds}
use Rattle.tables.specs.Laws.Spelling.{zero_slots}
use Rattle.tables.specs.Laws.ZeroWord.{no_entry}
use Rattle.tables.specs.Lines.{In, Holds}
use Rattle.tables.specs.Search.{is_some, present, child, holds}
use Rattle.sound.specs.Sound.{Present, Around, Granted, OneGrant, Lends, Undivided, S2, S5, S6, S7}
use Rattle.sound.specs.Clauses.{when, has, apart_e, s6, held, covered, s7_root, s7_given, grants, s7_inside, s7_cover, lends, undivided, s7_whole, s7, contains_both, one_grant}
use Rattle.sound.specs.Laws.Tests.{and_says, and_true, then_says, then_true, not_says, when_says, when_true, every_says, every_true, some_says, some_true}
use Rattle.sound.specs.Laws.Means.{eq_means, and_means, not_means}
use Rattle.sound.specs.Laws.Meets.{meets_not}
use Rattle.sound.specs.Laws.Cover.{Covered, ends_cover, cover_ends}

-- ── forms of tests ──
-- a || b: b where a fails
pub else_says : (a b : Bool) → a || b ≡ true → (a ≡ true → ⊥) → b ≡ true
else_says true b h n = absurd (n refl)
else_says false b h n = h

pub else_true : (a b : Bool) → ((a ≡ true → ⊥) → b ≡ true) → a || b ≡ true
else_true true b f = refl
else_true false b f = f false≢true

-- not a || not b || c: c where a and b hold
both_true : (a b c : Bool) → (a ≡ true → b ≡ true → c ≡ true) → not a || not b || c ≡ true
both_true true true c f = f refl refl
both_true true false c f = refl
both_true false b c f = refl

-- one test of the root, another of all others
pub root_or_means : (p : ℕ) (a b : Bool) → (cond (eqb p 0) a b ≡ true) ↔ ((p ≡ 0 → a ≡ true) × ((p ≡ 0 → ⊥) → b ≡ true))
root_or_means p a b = (λ q. (λ z. rw (eq-eqb p 0 z) at q, λ z. rw (ne_eqb p 0 z) at q), go (eqb p 0) refl)
  where
    go : (c : Bool) → eqb p 0 ≡ c → (p ≡ 0 → a ≡ true) × ((p ≡ 0 → ⊥) → b ≡ true) → cond c a b ≡ true
    go true u h = h.0 (eqb-true p 0 u)
    go false u h = h.1 (eqb-false p 0 u)

pub is_some_means : {A : Type 0} (o : Opt A) → (is_some o ≡ true) ↔ ((a : A) × (o ≡ some a))
is_some_means none = (λ q. absurd (false≢true q), λ h. not_none none refl h.1)
is_some_means (some a) = (λ q. (a, refl), λ h. refl)

-- ── partitions ──
pub present_means : (k : K) (p : ℕ) → (present k p ≡ true) ↔ Present k p
unfolding present
present_means k p = is_some_means (k.area p 0)

pub child_means : (k : K) (p c : ℕ) → (child k p c ≡ true) ↔ (Present k c × (c ≡ 0 → ⊥) × (k.parent c ≡ p))
unfolding child
child_means k p c = (
  λ q.
      let x = and_says (present k c && not (eqb c 0)) (eqb (k.parent c) p) q in
      let y = and_says (present k c) (not (eqb c 0)) x.0 in
      ((present_means k c).0 y.0, λ z. not_says (eqb c 0) y.1 (eq-eqb c 0 z), eqb-true (k.parent c) p x.1),
  λ h. rw ((present_means k c).1 h.0, ne_eqb c 0 h.1, eq-eqb (k.parent c) p h.2) refl,
)

-- ── one entry, two entries ──
pub holds_means : (l : ℕ) (o : Opt Entry) → (holds l o ≡ true) ↔ ((e : Entry) × (o ≡ some e) × In l e)
unfolding holds
holds_means l none = (λ q. absurd (false≢true q), λ h. not_none none refl h.1)
holds_means l (some e) = (
  λ q. let x = and_says (leb e.start l) (ltb l e.stop) q in (e, refl, record { from = leb-true e.start l x.0; to = ltb-true l e.stop x.1 }),
  λ h. let s = same (some_inj h.1) in rw (le-leb e.start l (omega arith), lt-ltb l e.stop (omega arith)) refl,
)

pub apart_e_means_law : (x y : Opt Entry) → (apart_e x y ≡ true) ↔ ((e f : Entry) (l : ℕ) → x ≡ some e → y ≡ some f → In l e → In l f → ⊥)
unfolding apart_e
apart_e_means_law x y = (
  λ q e f l u v a b.
      (meets_not e.start e.stop f.start f.stop).0 (when_says _ y (when_says _ x q e u) f v) l a.from a.to b.from b.to,
  λ h. when_true _ x (λ e u. when_true _ y (λ f v.
      (meets_not e.start e.stop f.start f.stop).1
      (λ l a b c d. h e f l u v (record { from = a; to = b }) (record { from = c; to = d })))),
)

pub grants_means : (p : ℕ) (e f : Entry) → (grants p e f ≡ true) ↔ ((f.given ≡ p) × Around e f)
unfolding grants
grants_means p e f = (
  λ q.
      let x = and_says (eqb f.given p && leb f.start e.start) (leb e.stop f.stop) q in
      let y = and_says (eqb f.given p) (leb f.start e.start) x.0 in
      (eqb-true f.given p y.0, record { from = leb-true f.start e.start y.1; to = leb-true e.stop f.stop x.1 }),
  λ h. rw (eq-eqb f.given p h.0, le-leb f.start e.start h.1.from, le-leb e.stop f.stop h.1.to) refl,
)

-- ── all entries of a partition, where entries stand in slots 0 to 31 ──
abbrev pub Slots32 : K → Type 0
Slots32 k = (p i : ℕ) (e : Entry) → k.slot p i ≡ some e → i < 32

module _ (k : K) (slots : Slots32 k) where
  -- a test of every entry of p
  pub every_means : (f : Entry → Bool) (p : ℕ) → (all 32 (λ i. when f (k.slot p i)) ≡ true) ↔ ((i : ℕ) (e : Entry) → k.slot p i ≡ some e → f e ≡ true)
  every_means f p = (
    λ q i e u. every_says 32 (λ _. f) (k.slot p) q i e (slots p i e u) u,
    λ h. every_true 32 (λ _. f) (k.slot p) (λ i e _. h i e),
  )

  -- .. of some entry of p
  pub some_means : (f : Entry → Bool) (p : ℕ) → (any 32 (λ i. has f (k.slot p i)) ≡ true) ↔ ((i : ℕ) × (e : Entry) × (k.slot p i ≡ some e) × (f e ≡ true))
  some_means f p = (
    λ q. let (i, e, _, u, h) = some_says 32 (λ _. f) (k.slot p) q in (i, e, u, h),
    λ (i, e, u, h). some_true 32 (λ _. f) (k.slot p) i e (slots p i e u) u h,
  )

  pub held_means : (p l : ℕ) → (held k p l ≡ true) ↔ Holds k.slot p l
  unfolding held
  held_means p l = (
    λ q.
        let (i, _, h) = any_at 32 (λ i. holds l (k.slot p i)) q in
        let (e, u, x) = (holds_means l (k.slot p i)).0 h in
        record { i = i; e = e; at = u; holds = x },
    λ h.
        any_of 32 (λ i. holds l (k.slot p i)) h.i (slots p h.i h.e h.at)
        ((holds_means l (k.slot p h.i)).1 (h.e, h.at, h.holds)),
  )

  pub covered_means : (p lo hi : ℕ) → (covered k p lo hi ≡ true) ↔ Covered k.slot p lo hi
  unfolding covered
  covered_means p lo hi = (
    λ q l a b.
        let x = and_says (held k p lo) _ (then_says (ltb lo hi) _ q (lt-ltb lo hi (omega arith))) in
        ends_cover k.slot p lo hi (record {
          first = λ _. (held_means p lo).0 x.0;
          next = λ i e u c d. (held_means p e.stop).0 (rw (lt-ltb lo e.stop c, lt-ltb e.stop hi d) at ((every_means _ p).0 x.1 i e u));
        }) l a b,
    λ c.
        let h = cover_ends k.slot p lo hi c in
        then_true (ltb lo hi) _ (λ z. and_true (held k p lo) _ ((held_means p lo).1 (h.first (ltb-true lo hi z)))
        ((every_means _ p).1 (λ i e u. both_true (ltb lo e.stop) (ltb e.stop hi) _
        (λ a b. (held_means p e.stop).1 (h.next i e u (ltb-true lo e.stop a) (ltb-true e.stop hi b)))))),
  )

  -- one entry that p's parent gave it contains both
  pub one_grant_means : (p : ℕ) (e f : Entry) → (one_grant k p e f ≡ true) ↔ OneGrant k p e f
  unfolding one_grant contains_both
  one_grant_means p e f = (
    λ q.
        let (j, g, u, z) = (some_means _ (k.parent p)).0 q in
        let (x, y) = and_says (grants p e g) (grants p f g) z in
        (j, g, granted e j g u x, granted f j g u y),
    λ (j, g, x, y). (some_means _ (k.parent p)).1 (
      j,
      g,
      x.at,
      and_true _ _ ((grants_means p e g).1 (x.given, x.around)) ((grants_means p f g).1 (y.given, y.around)),
    ),
  )
    where
      granted : (e : Entry) (j : ℕ) (g : Entry) → k.slot (k.parent p) j ≡ some g → grants p e g ≡ true → Granted k p e j g
      granted e j g u z = let (x, y) = (grants_means p e g).0 z in record { at = u; given = x; around = y }

  -- ── S6 ──
  pair_apart : (p i j : ℕ) → s6 k p ≡ true → i < 32 → j < i → apart_e (k.slot p i) (k.slot p j) ≡ true
  unfolding s6
  pair_apart p i j q a b =
      let f : ℕ → ℕ → Bool = λ i j. apart_e (k.slot p i) (k.slot p j) in
      all_at i (f i) (all_at 32 (λ i. all i (f i)) q i a) j b

  s6_of : (p : ℕ) → (s6 k p ≡ true) ↔ S6 k p
  unfolding s6
  s6_of p = (
    λ q i j e f l u v x y. one q i j e f l u v x y (ℕ_discrete i j) (dec_lt j i),
    λ h. all_of 32 _ (λ i _. all_of i _ (λ j b.
        (apart_e_means_law (k.slot p i) (k.slot p j)).1 (λ e f l u v x y. let z = h i j e f l u v x y in omega arith))),
  )
    where
      -- two entries that share a line are one: neither comes before the other
      one : s6 k p ≡ true → (i j : ℕ) (e f : Entry) (l : ℕ) → k.slot p i ≡ some e → k.slot p j ≡ some f → In l e → In l f
          → Dec (i ≡ j) → Dec (j < i) → i ≡ j
      one q i j e f l u v x y (yes z) _ = z
      one q i j e f l u v x y (no z) (yes b) = absurd ((apart_e_means_law (k.slot p i) (k.slot p j)).0 (pair_apart p i j q (slots p i e u) b) e f l u v x y)
      one q i j e f l u v x y (no z) (no b) = absurd ((apart_e_means_law (k.slot p j) (k.slot p i)).0 (pair_apart p j i q (slots p j f v) (omega arith)) f e l v u y x)

  -- ── S7: its parts ──
  given_means : (p : ℕ) → (s7_given k p ≡ true)
      ↔ ((i : ℕ) (e : Entry) → k.slot p i ≡ some e → (e.given ≡ 0 → ⊥) → Present k e.given × (k.parent e.given ≡ p))
  unfolding s7_given
  given_means p = (
    λ q i e u n.
        let h = (child_means k p e.given).0 (else_says (eqb e.given 0) _ ((every_means _ p).0 q i e u) (λ z. n (eqb-true e.given 0 z))) in
        (h.0, h.2),
    λ h. (every_means _ p).1 (λ i e u. else_true (eqb e.given 0) _ (λ z.
        let n : e.given ≡ 0 → ⊥ = λ w. z (eq-eqb e.given 0 w) in
        let c = h i e u n in
        (child_means k p e.given).1 (c.0, n, c.1))),
  )

  -- where each entry has a line
  pub root_means : (p : ℕ) → ((i : ℕ) (e : Entry) → k.slot p i ≡ some e → e.start < e.stop)
      → (s7_root k p ≡ true) ↔ ((l : ℕ) → Holds k.slot p l ↔ ((k.base ≤ l) × (l < k.stop)))
  unfolding s7_root
  root_means p ranged = (
    λ q l.
        let x = and_says (covered k p k.base k.stop) _ q in (
          λ h.
              let y = and_says (leb k.base h.e.start) (leb h.e.stop k.stop) ((every_means _ p).0 x.1 h.i h.e h.at) in
              (omega (arith, leb-true), omega (arith, leb-true)),
          λ b. (covered_means p k.base k.stop).0 x.0 l b.0 b.1,
        ),
    λ h.
        and_true _ _ ((covered_means p k.base k.stop).1 (λ l a b. (h l).1 (a, b)))
        ((every_means _ p).1 (λ i e u.
        let b = ranged i e u in
        let x = (h e.start).0 (record { i = i; e = e; at = u; holds = omega arith }) in
        let y = (h (e.stop - 1)).0 (record { i = i; e = e; at = u; holds = omega arith }) in
        and_true _ _ (le-leb k.base e.start x.0) (le-leb e.stop k.stop (omega arith)))),
  )

  pub inside_means : (p : ℕ) → (s7_inside k p ≡ true) ↔ ((i : ℕ) (e : Entry) → k.slot p i ≡ some e → (j : ℕ) × (f : Entry) × Granted k p e j f)
  unfolding s7_inside
  inside_means p = (
    λ q i e u.
        let (j, f, v, g) = (some_means _ (k.parent p)).0 ((every_means _ p).0 q i e u) in
        let h = (grants_means p e f).0 g in
        (j, f, record { at = v; given = h.0; around = h.1 }),
    λ h. (every_means _ p).1 (λ i e u.
        let (j, f, g) = h i e u in
        (some_means _ (k.parent p)).1 (j, f, g.at, (grants_means p e f).1 (g.given, g.around))),
  )

  pub cover_means : (p : ℕ) → (s7_cover k p ≡ true)
      ↔ ((i : ℕ) (f : Entry) → k.slot (k.parent p) i ≡ some f → f.given ≡ p → (l : ℕ) → In l f → Holds k.slot p l)
  unfolding s7_cover
  cover_means p = (
    λ q i f u z l x.
        let c = then_says (eqb f.given p) _ ((every_means _ (k.parent p)).0 q i f u) (eq-eqb f.given p z) in
        (covered_means p f.start f.stop).0 c l x.from x.to,
    λ h. (every_means _ (k.parent p)).1 (λ i f u. then_true (eqb f.given p) _ (λ z.
        (covered_means p f.start f.stop).1 (λ l a b. h i f u (eqb-true f.given p z) l (record { from = a; to = b })))),
  )

-- ── S7: whole entries ──
module _ (t : Table) (slots : Slots32 t.k) (p : ℕ) where
  lends_means : (e : Entry) → (any 32 (λ j. has (lends p e) (t.k.slot (t.k.parent p) j)) ≡ true) ↔ Lends t.k p e
  unfolding lends
  lends_means e = (
    λ q.
        let (i, f, u, w) = (some_means t.k slots (lends p e) (t.k.parent p)).0 q in
        let ((g, s), n) = (equal f).0 w in
        record { i = i; f = f; at = u; given = g; start = s; stop = n },
    λ h. (some_means t.k slots (lends p e) (t.k.parent p)).1 (h.i, h.f, h.at, (equal h.f).1 ((h.given, h.start), h.stop)),
  )
    where
      equal : (f : Entry) → (eqb f.given p && eqb f.start e.start && eqb f.stop e.stop ≡ true) ↔ (((f.given ≡ p) × (f.start ≡ e.start)) × (f.stop ≡ e.stop))
      equal f = and_means (and_means (eq_means f.given p) (eq_means f.start e.start)) (eq_means f.stop e.stop)

  undivided_means : (i : ℕ) (e : Entry) → (undivided t.k p (t.opened p i) e ≡ true) ↔ Undivided t p i e
  unfolding undivided
  undivided_means i e =
      let opened : (t.opened p i ≡ true) ↔ (t.opened p i ≡ true) = Iff.rfl in
      let m = and_means (and_means (and_means opened (eq_means e.given 0)) (not_means (eq_means p 0))) (lends_means e) in (
        λ q. let (((o, z), n), l) = m.0 q in record { opened = o; free = z; other = n; lent = l },
        λ h. m.1 (((h.opened, h.free), h.other), h.lent),
      )

  whole_means : (s7_whole t p ≡ true) ↔ ((i : ℕ) (e : Entry) → t.k.slot p i ≡ some e → e.whole ≡ true → Undivided t p i e)
  unfolding s7_whole
  whole_means = (
    λ q i e u w. (undivided_means i e).0 (then_says e.whole _ (every_says 32 (λ i e. not e.whole || undivided t.k p (t.opened p i) e) (t.k.slot p) q i e (slots p i e u) u) w),
    λ h. every_true 32 (λ i e. not e.whole || undivided t.k p (t.opened p i) e) (t.k.slot p) (λ i e _ u. then_true e.whole _ (λ w. (undivided_means i e).1 (h i e u w))),
  )

  -- ── S7, where an owner of an entry is present, and each entry has a line ──
  s7_of : ((i : ℕ) (e : Entry) → t.k.slot p i ≡ some e → Present t.k p) → ((i : ℕ) (e : Entry) → t.k.slot p i ≡ some e → e.start < e.stop)
      → (s7 t p ≡ true) ↔ S7 t p
  unfolding s7
  s7_of owner ranged = (
    λ q.
        let (xw, y) = and_says (s7_given k p && s7_whole t p) _ q in
        let (x, w) = and_says (s7_given k p) (s7_whole t p) xw in
        let (root, other) = (root_or_means p (s7_root k p) _).0 y in
        record {
          root = λ z. (root_means k slots p ranged).0 (root z);
          given = (given_means k slots p).0 x;
          whole = whole_means.0 w;
          inside = λ n i e u.
              let h = then_says (present k p) _ (other n) ((present_means k p).1 (owner i e u)) in
              (inside_means k slots p).0 (and_says (s7_inside k p) (s7_cover k p) h).0 i e u;
          cover = λ n c.
              let h = then_says (present k p) _ (other n) ((present_means k p).1 c) in
              (cover_means k slots p).0 (and_says (s7_inside k p) (s7_cover k p) h).1;
        },
    λ h.
        and_true _ _ (and_true _ _ ((given_means k slots p).1 h.given) (whole_means.1 h.whole))
        ((root_or_means p (s7_root k p) _).1 (
          λ z. (root_means k slots p ranged).1 (h.root z),
          λ n. then_true (present k p) _ (λ c.
              and_true _ _ ((inside_means k slots p).1 (h.inside n)) ((cover_means k slots p).1 (h.cover n ((present_means k p).0 c)))),
        )),
  )
    where
      k : K
      k = t.k

-- ── the table that words are ──
module _ (l : List ℕ) where
  pub slots32 : Slots32 (view l).k
  slots32 p i e q = (slot_bounds l p i e q).1

  -- the owner of an entry is present
  pub owner_present : (p i : ℕ) (e : Entry) → S2 l (view l).k p → (view l).k.slot p i ≡ some e → Present (view l).k p
  owner_present p i e h u = go ((view l).k.area p 0) refl
    where
      go : (o : Opt Area) → (view l).k.area p 0 ≡ o → Present (view l).k p
      go none q = not_none ((view l).k.slot p i) (no_entry l p i (λ _. zero_slots l p (h.absent q) i)) u
      go (some a) q = (a, q)

  pub s6_means : (p : ℕ) → (s6 (view l).k p ≡ true) ↔ S6 (view l).k p
  s6_means = s6_of (view l).k slots32

  pub s7_means : ((q : ℕ) → q < 16 → S2 l (view l).k q) → ((q : ℕ) → q < 16 → S5 l (view l).k q)
      → (p : ℕ) → p < 16 → (s7 (view l) p ≡ true) ↔ S7 (view l) p
  s7_means s2 s5 p b = s7_of (view l) slots32 p (λ i e. owner_present p i e (s2 p b)) (s5 p b).range
