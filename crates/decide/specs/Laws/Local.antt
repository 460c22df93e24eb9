-- What these tests say, and what each exit of the pass gives.
use Rattle.std.specs.Prelude.{◌≡◌, Bool, false, cond, ◌&&◌, ◌||◌, List, ◌↔◌, ℕ, ◌+◌, ◌*◌, ◌<◌, leb, eqb}
use Rattle.std.proofs.Math.Path.{refl}
use Rattle.std.proofs.Common.{sym, ◌∙◌}
use Rattle.std.proofs.Math.Bool.{true, not}
use Rattle.std.specs.Bool.{beq}
use Rattle.std.proofs.Math.Decide.{ℕ_discrete}
use borrow.Author.Tests.{eqb-true, eq-eqb, ne_eqb, leb-true, le-leb, not-true}
use Rattle.loops.specs.Loops.{all}
use Rattle.loops.specs.Laws.Every.{all_at, bool_ext}
use Rattle.shapes.specs.declared.Board.{Board}
use Rattle.tables.specs.State.{some, Entry, Table}
use Rattle.tables.specs.View.{view}
use Rattle.tables.specs.Laws.View.{slot_bounds}
use Rattle.tables.specs.Search.{child, present}
use Rattle.sound.specs.Sound.{Around}
use Rattle.sound.specs.Clauses.{when, undivided, s10, s11}
use Rattle.sound.specs.Laws.Tests.{and_says, and_true, then_says, then_true, every_says, every_true}
use Rattle.sound.proofs.Laws.MeansRegions.{beq_means}
use Rattle.decide.specs.Entries.{exactly}
use Rattle.marking.specs.Marking.{slot_marked}
use Rattle.decide.specs.Local.{entry_right, open_inside, grants_open, local_at, local_where, left_where}
use Rattle.decide.specs.Laws.Decide.{passed}

-- ── what they say ──
module _ (l : List ℕ) (p : ℕ) where
  abbrev lies : Entry → Entry → Bool
  lies f e = leb f.start e.start && leb e.stop f.stop

  open_inside_means : (f : Entry) → (open_inside (view l) p f ≡ true) ↔ ((i : ℕ) (e : Entry) → (view l).k.slot p i ≡ some e → Around e f → (view l).opened p i ≡ true)
  unfolding open_inside
  open_inside_means f = (
    λ q i e u o.
        then_says (lies f e) ((view l).opened p i)
        (every_says 32 (λ i e. not (lies f e) || (view l).opened p i) ((view l).k.slot p) q i e (slot_bounds l p i e u).1 u)
        (and_true _ _ (le-leb _ _ o.from) (le-leb _ _ o.to)),
    λ h. every_true 32 (λ i e. not (lies f e) || (view l).opened p i) ((view l).k.slot p) (λ i e b u. then_true (lies f e) ((view l).opened p i) (λ z.
        let (x, y) = and_says (leb f.start e.start) (leb e.stop f.stop) z in
        h i e u (record { from = leb-true _ _ x; to = leb-true _ _ y }))),
  )

  abbrev up : ℕ
  up = (view l).k.parent p

  abbrev as_open : ℕ → Entry → Bool
  as_open j f = beq ((view l).opened up j) (open_inside (view l) p f)

  pub grants_open_means : (p ≡ 0 → ⊥) → (grants_open (view l) p ≡ true)
      ↔ ((j : ℕ) (f : Entry) → (view l).k.slot ((view l).k.parent p) j ≡ some f → f.given ≡ p
      → ((view l).opened ((view l).k.parent p) j ≡ true) ↔ ((i : ℕ) (e : Entry) → (view l).k.slot p i ≡ some e → Around e f → (view l).opened p i ≡ true))
  unfolding grants_open
  grants_open_means n = rw (ne_eqb p 0 n) (
    λ q j f u g.
        let w = then_says (eqb f.given p) (as_open j f) (every_says 32 (λ j f. not (eqb f.given p) || as_open j f) ((view l).k.slot up) q j f (slot_bounds l up j f u).1 u) (eq-eqb _ _ g) in
        let e = (beq_means ((view l).opened up j) (open_inside (view l) p f)).0 w in
        let (to, back) = open_inside_means f in
        (λ z. to (sym e ∙ z), λ h. e ∙ back h),
    λ h. every_true 32 (λ j f. not (eqb f.given p) || as_open j f) ((view l).k.slot up) (λ j f b u. then_true (eqb f.given p) (as_open j f) (λ g.
        let (x, y) = h j f u (eqb-true _ _ g) in
        let (to, back) = open_inside_means f in
        (beq_means ((view l).opened up j) (open_inside (view l) p f)).1 (bool_ext _ _ (λ z. back (x z)) (λ z. y (to z))))),
  )

  -- the root was given nothing
  pub root_open : p ≡ 0 → grants_open (view l) p ≡ true
  unfolding grants_open
  root_open z = rw (eq-eqb p 0 z) refl

-- ── the parts of the pass ──
module _ (b : Board) (t : Table) (m : List ℕ) (p : ℕ) where
  pub record LocalSays : Type 0 where
    pub entries : all 32 (entry_right t m p) ≡ true
    pub exact : exactly t.k p ≡ true
    pub s11 : s11 t.k p ≡ true
    pub opens : grants_open t p ≡ true
    pub s10 : s10 b t p ≡ true

  pub local_says : local_at b t m p ≡ true → LocalSays
  unfolding local_at
  local_says q =
      let (a, z) = and_says (all 32 (entry_right t m p) && (exactly t.k p && s11 t.k p && grants_open t p)) (s10 b t p) q in
      let (e, d) = and_says (all 32 (entry_right t m p)) (exactly t.k p && s11 t.k p && grants_open t p) a in
      let (c, o) = and_says (exactly t.k p && s11 t.k p) (grants_open t p) d in
      let (x, y) = and_says (exactly t.k p) (s11 t.k p) c in
      record { entries = e; exact = x; s11 = y; opens = o; s10 = z }

  pub local_true : LocalSays → local_at b t m p ≡ true
  unfolding local_at
  local_true h = and_true _ _ (and_true _ _ h.entries (and_true _ _ (and_true _ _ h.exact h.s11) h.opens)) h.s10

  -- ── where p is present ──
  pub where_says : local_where b t m p ≡ true → present t.k p ≡ true → local_at b t m p ≡ true
  unfolding local_where
  where_says q n = then_says (present t.k p) (local_at b t m p) q n

  pub where_true : (present t.k p ≡ true → local_at b t m p ≡ true) → local_where b t m p ≡ true
  unfolding local_where
  where_true f = then_true (present t.k p) (local_at b t m p) f

-- ── one entry ──
module _ (t : Table) (m : List ℕ) (p : ℕ) where
  -- who is given it, and its open bit; a whole one is undivided
  abbrev open_test : ℕ → Entry → Bool
  open_test i e = cond (eqb e.given 0) (beq (t.opened p i) (not (slot_marked m (32 * p + i)))) (child t.k p e.given)

  abbrev whole_test : ℕ → Entry → Bool
  whole_test i e = not e.whole || undivided t.k p (t.opened p i) e

  pub record EntrySays (i : ℕ) (e : Entry) : Type 0 where
    pub whole : not e.whole || undivided t.k p (t.opened p i) e ≡ true
    pub free : e.given ≡ 0 → t.opened p i ≡ not (slot_marked m (32 * p + i))
    pub given : (e.given ≡ 0 → ⊥) → child t.k p e.given ≡ true

  pub one_says : (i : ℕ) (e : Entry) → entry_right t m p i ≡ true → t.k.slot p i ≡ some e → EntrySays i e
  unfolding entry_right when
  one_says i e q u =
      let (w, x) = and_says (whole_test i e) (open_test i e) (rw u at q) in
      record {
        whole = w;
        free = λ g. (beq_means _ _).0 (rw (eq-eqb e.given 0 g) at x);
        given = λ n. rw (ne_eqb e.given 0 n) at x;
      }

  pub entry_says : all 32 (entry_right t m p) ≡ true → (i : ℕ) (e : Entry) → i < 32 → t.k.slot p i ≡ some e → EntrySays i e
  entry_says q i e b u = one_says i e (all_at 32 (entry_right t m p) q i b) u

  pub entry_true : ((i : ℕ) (e : Entry) → i < 32 → t.k.slot p i ≡ some e → EntrySays i e) → all 32 (entry_right t m p) ≡ true
  unfolding entry_right
  entry_true f = every_true 32 (λ i e. whole_test i e && open_test i e) (t.k.slot p) (λ i e b u. let h = f i e b u in and_true _ _ h.whole (go i e h (ℕ_discrete e.given 0)))
    where
      go : (i : ℕ) (e : Entry) → EntrySays i e → Dec (e.given ≡ 0) → open_test i e ≡ true
      go i e h (yes g) = rw (eq-eqb e.given 0 g) ((beq_means _ _).1 (h.free g))
      go i e h (no n) = rw (ne_eqb e.given 0 n) (h.given n)

-- ── what is left to tell once the entries are right by themselves ──
module _ (b : Board) (t : Table) (p : ℕ) where
  abbrev covers : Bool
  covers = exactly t.k p && s11 t.k p && grants_open t p

  pub left_absent : present t.k p ≡ false → true ≡ left_where b t p
  unfolding left_where
  left_absent n = rw n refl

  pub left_short : {r : Bool} → present t.k p ≡ true → r ≡ exactly t.k p && s11 t.k p && grants_open t p → not r ≡ true → false ≡ left_where b t p
  unfolding left_where
  left_short {r} n e q = rw (n, ← e, not-true r q) refl

  pub left_last : {r c : Bool} → present t.k p ≡ true → r ≡ exactly t.k p && s11 t.k p && grants_open t p → not r ≡ false → c ≡ s10 b t p → c ≡ left_where b t p
  unfolding left_where
  left_last n e q z = rw (n, passed e q) z

  pub left_says : left_where b t p ≡ true → present t.k p ≡ true → (covers ≡ true) × (s10 b t p ≡ true)
  unfolding left_where
  left_says q n = and_says covers (s10 b t p) (then_says (present t.k p) (covers && s10 b t p) q n)

  pub left_true : (present t.k p ≡ true → (covers ≡ true) × (s10 b t p ≡ true)) → left_where b t p ≡ true
  unfolding left_where
  left_true f = then_true (present t.k p) (covers && s10 b t p) (λ n. let (x, y) = f n in and_true covers (s10 b t p) x y)
