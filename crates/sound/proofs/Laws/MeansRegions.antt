-- The tests of S9, S10 and S11 are true exactly where the clauses hold.
use Rattle.std.specs.Prelude.{◌≡◌, refl, true, false, ◌&&◌, ◌||◌, List, ◌↔◌, eqb}
use Rattle.std.proofs.Common.{sym, ap, arith}
use Rattle.std.proofs.Math.Bool.{Bool, not}
use Rattle.std.specs.Bool.{beq}
use Rattle.std.proofs.lemmas.Bool.{false≢true}
use Prim.Native.Nat.{ℕ, ◌<◌}
use Rattle.std.proofs.Math.Decide.{ℕ_discrete, dec_lt}
use borrow.Author.Tests.{eqb-true, eq-eqb}
use Rattle.loops.specs.Loops.{all}
use Rattle.loops.specs.Laws.Every.{all_at, all_of, bool_ext}
use Rattle.words.specs.declared.Rights.{Rights}
use Rattle.shapes.specs.declared.Board.{Board}
use Rattle.tables.specs.State.{Opt, none, some, Entry, K, all_rights}
use Rattle.tables.specs.Laws.State.{same_at}
use Rattle.tables.specs.View.{view}
use Rattle.tables.specs.Laws.View.{slot_bounds, area_bounds, region_bounds}
use Rattle.tables.specs.Laws.ZeroWord.{not_open}
use Rattle.tables.specs.Lines.{Clear}
use Rattle.tables.specs.Search.{is_some}
use Rattle.tables.specs.Settle.{open_bit, open_at}
use Rattle.sound.specs.Limit.{loaded_pieces}
use Rattle.sound.specs.Sound.{Granted, OneGrant, Sub, S5, S9, S10, S11}
use Rattle.sound.specs.Clauses.{when, grants, full, within, s9, s10_names, s10_once, s10, s11_within, one_grant, same_rights, s11_equal, s11}
use Rattle.sound.specs.Laws.Means.{and_means, le_means}
use Rattle.sound.proofs.Laws.MeansEntries.{root_or_means, grants_means, Slots32, every_means, one_grant_means, slots32, is_some_means}
use Rattle.sound.specs.Laws.Tests.{and_says, and_true, then_says, then_true, not_says, not_of, when_says, when_true, every_says, every_true}
use Rattle.sound.specs.Laws.Meets.{open_clear}

-- ── S9 ──
pub beq_means : (a b : Bool) → (beq a b ≡ true) ↔ (a ≡ b)
beq_means true true = (λ q. refl, λ e. refl)
beq_means true false = (λ q. absurd (false≢true q), λ e. sym e)
beq_means false true = (λ q. absurd (false≢true q), λ e. e)
beq_means false false = (λ q. refl, λ e. refl)

pub s9_means : (l : List ℕ) → ((q : ℕ) → q < 16 → S5 l (view l).k q) → (p : ℕ) → p < 16 → (s9 (view l) p ≡ true) ↔ S9 (view l) p
unfolding s9 open_at open_bit
s9_means l s p hp = (to, λ h. all_of 32 f (λ i b. (same i).1 (back h i b ((view l).k.slot p i) refl)))
  where
    f : ℕ → Bool
    f i = beq ((view l).opened p i) (open_at (view l).k p i)

    same : (i : ℕ) → (f i ≡ true) ↔ ((view l).opened p i ≡ open_at (view l).k p i)
    same i = beq_means ((view l).opened p i) (open_at (view l).k p i)

    clear : (e : Entry) → (open_bit (view l).k.area (some e) ≡ true) ↔ Clear (view l).k.area e
    clear e = open_clear (view l).k.area (area_bounds l) e

    to : s9 (view l) p ≡ true → S9 (view l) p
    to q i e u =
        let b = (same i).0 (all_at 32 f q i (slot_bounds l p i e u).1) in
        rw (b, u) (clear e)

    back : S9 (view l) p → (i : ℕ) → i < 32 → (o : Opt Entry) → (view l).k.slot p i ≡ o → (view l).opened p i ≡ open_bit (view l).k.area o
    -- an empty slot is a zero word
    back h i b none u = not_open l p i (λ _ _. (s p hp).other i b u)
    back h i b (some e) u = bool_ext ((view l).opened p i) (open_bit (view l).k.area (some e)) (λ x. (clear e).1 ((h i e u).0 x)) (λ x. (h i e u).1 ((clear e).0 x))

-- ── S10 ──
module _ (l : List ℕ) (p : ℕ) where
  names_means : (all 8 (s10_names (view l) p) ≡ true)
      ↔ ((r i : ℕ) → (view l).region p r ≡ some i → ((e : Entry) × ((view l).k.slot p i ≡ some e)) × ((view l).opened p i ≡ true))
  unfolding s10_names
  names_means = (
    λ q r i u. let (a, b) = and_says _ _ (every_says 8 f ((view l).region p) q r i (region_bounds l p r i u).1 u) in ((is_some_means ((view l).k.slot p i)).0 a, b),
    λ h. every_true 8 f ((view l).region p) (λ r i b u. let w = h r i u in and_true _ _ ((is_some_means ((view l).k.slot p i)).1 w.0) w.1),
  )
    where
      f : ℕ → ℕ → Bool
      f r i = is_some ((view l).k.slot p i) && (view l).opened p i

  once_means : (all 8 (λ r. all r (s10_once (view l) p r)) ≡ true) ↔ ((r q i : ℕ) → (view l).region p r ≡ some i → (view l).region p q ≡ some i → r ≡ q)
  unfolding s10_once
  once_means = (
    λ h r q i u v. to h r q i u v (ℕ_discrete r q) (dec_lt q r),
    λ h. all_of 8 _ (λ r a. all_of r _ (λ q b. when_true _ ((view l).region p r) (λ i u. when_true _ ((view l).region p q) (λ j v. not_of (eqb i j) (λ x.
        let z = eqb-true i j x in
        let e = h r q j (rw (← z) u) v in
        omega arith))))),
  )
    where
      f : ℕ → Bool
      f r = all r (s10_once (view l) p r)

      below : all 8 f ≡ true → (r q i : ℕ) → q < r → (view l).region p r ≡ some i → (view l).region p q ≡ some i → ⊥
      below h r q i b u v =
          let x = all_at r (s10_once (view l) p r) (all_at 8 f h r (region_bounds l p r i u).1) q b in
          not_says (eqb i i) (when_says _ ((view l).region p q) (when_says _ ((view l).region p r) x i u) i v) (eq-eqb i i refl)

      to : all 8 f ≡ true → (r q i : ℕ) → (view l).region p r ≡ some i → (view l).region p q ≡ some i → Dec (r ≡ q) → Dec (q < r) → r ≡ q
      to h r q i u v (yes z) d = z
      to h r q i u v (no z) (yes b) = absurd (below h r q i b u v)
      to h r q i u v (no z) (no b) = absurd (below h q r i (omega arith) v u)

pub s10_means : (board : Board) (l : List ℕ) (p : ℕ) → p < 16 → (s10 board (view l) p ≡ true) ↔ S10 board (view l) p
unfolding s10
s10_means board l p hp =
    let m = and_means (and_means (names_means l p) (once_means l p)) (le_means (loaded_pieces board (view l).k.slot (view l).region p) 8) in (
      λ q. let ((a, b), c) = m.0 q in record { loaded = record { names = a; once = b }; few = c },
      λ h. m.1 ((h.loaded.names, h.loaded.once), h.few),
    )

-- ── S11 ──
pub full_means : (r : Rights) → (full r ≡ true) ↔ (r ≡ all_rights)
unfolding full
full_means r = (
  λ q.
      let (s, c) = and_says _ r.execute q in
      let (a, b) = and_says _ _ s in
      each r.read r.write r.execute a b c,
  λ e. rw e refl,
)
  where
    each : (a b c : Bool) → a ≡ true → b ≡ true → c ≡ true → record { read = a; write = b; execute = c } ≡ all_rights
    each a b c x y z = rw (x, y, z) refl

pub within_means : (a b : Rights) → (within a b ≡ true) ↔ Sub a b
unfolding within
within_means a b = (
  λ q.
      let (s, z) = and_says _ _ q in
      let (x, y) = and_says _ _ s in
      record { read = then_says _ _ x; write = then_says _ _ y; execute = then_says _ _ z },
  λ s. and_true _ _ (and_true _ _ (then_true _ _ s.read) (then_true _ _ s.write)) (then_true _ _ s.execute),
)

pub same_rights_means : (a b : Rights) → (same_rights a b ≡ true) ↔ (a ≡ b)
unfolding same_rights
same_rights_means a b =
    let m = and_means (and_means (beq_means a.read b.read) (beq_means a.write b.write)) (beq_means a.execute b.execute) in (
      λ q. let ((x, y), z) = m.0 q in λ i. record { read = x i; write = y i; execute = z i },
      λ e. m.1 ((ap (λ (r : Rights). r.read) e, ap (λ (r : Rights). r.write) e), ap (λ (r : Rights). r.execute) e),
    )

module _ (k : K) (slots : Slots32 k) (p : ℕ) where
  inside_mean : (s11_within k p ≡ true) ↔ ((i j : ℕ) (e f : Entry) → k.slot p i ≡ some e → Granted k p e j f → Sub e.rights f.rights)
  unfolding s11_within
  inside_mean = (
    λ q i j e f u g.
        let x = (every_means k slots (pair e) (k.parent p)).0 ((every_means k slots each p).0 q i e u) j f g.at in
        (within_means e.rights f.rights).0 (then_says (grants p e f) _ x ((grants_means p e f).1 (g.given, g.around))),
    λ h. (every_means k slots each p).1 (λ i e u. (every_means k slots (pair e) (k.parent p)).1 (λ j f v. then_true (grants p e f) _ (λ x.
        let (y, z) = (grants_means p e f).0 x in
        (within_means e.rights f.rights).1 (h i j e f u (record { at = v; given = y; around = z }))))),
  )
    where
      pair : Entry → Entry → Bool
      pair e f = not (grants p e f) || within e.rights f.rights

      each : Entry → Bool
      each e = all 32 (λ j. when (pair e) (k.slot (k.parent p) j))

  equal_mean : (s11_equal k p ≡ true)
      ↔ ((i m : ℕ) (e f : Entry) → k.slot p i ≡ some e → k.slot p m ≡ some f → OneGrant k p e f → e.rights ≡ f.rights)
  unfolding s11_equal
  equal_mean = (
    λ q i m e f u v g. to q i m e f u v g (ℕ_discrete i m) (dec_lt m i),
    λ h. every_true 32 each (k.slot p) (λ i e _ u. every_true i (λ _. pair e) (k.slot p) (λ m f _ v. then_true (one_grant k p e f) _ (λ x.
        (same_rights_means e.rights f.rights).1 (h i m e f u v ((one_grant_means k slots p e f).0 x))))),
  )
    where
      pair : Entry → Entry → Bool
      pair e f = not (one_grant k p e f) || same_rights e.rights f.rights

      each : ℕ → Entry → Bool
      each i e = all i (λ m. when (pair e) (k.slot p m))

      below : s11_equal k p ≡ true → (i m : ℕ) (e f : Entry) → m < i → k.slot p i ≡ some e → k.slot p m ≡ some f → OneGrant k p e f → e.rights ≡ f.rights
      below q i m e f b u v g =
          let x = every_says i (λ _. pair e) (k.slot p) (every_says 32 each (k.slot p) q i e (slots p i e u) u) m f b v in
          (same_rights_means e.rights f.rights).0 (then_says (one_grant k p e f) _ x ((one_grant_means k slots p e f).1 g))

      to : s11_equal k p ≡ true → (i m : ℕ) (e f : Entry) → k.slot p i ≡ some e → k.slot p m ≡ some f → OneGrant k p e f → Dec (i ≡ m) → Dec (m < i)
          → e.rights ≡ f.rights
      to q i m e f u v g (yes z) _ = (same_at (k.slot p m) (rw z at u) v).rights
      to q i m e f u v g (no z) (yes b) = below q i m e f b u v g
      to q i m e f u v (j, g, x, y) (no z) (no b) = sym (below q m i f e (omega arith) v u (j, g, y, x))

pub s11_means : (l : List ℕ) (p : ℕ) → p < 16 → (s11 (view l).k p ≡ true) ↔ S11 (view l).k p
unfolding s11
s11_means l p hp = (
  λ q.
      let (root, child) = (root_or_means p (all 32 (λ i. when full_at (k.slot p i))) _).0 q in
      record {
        root = λ z i e u. (full_means e.rights).0 ((every_means k (slots32 l) full_at p).0 (root z) i e u);
        child = λ n. (inside_mean k (slots32 l) p).0 (and_says (s11_within k p) (s11_equal k p) (child n)).0;
        equal = λ n. (equal_mean k (slots32 l) p).0 (and_says (s11_within k p) (s11_equal k p) (child n)).1;
      },
  λ h. (root_or_means p _ _).1 (
    λ z. (every_means k (slots32 l) full_at p).1 (λ i e u. (full_means e.rights).1 (h.root z i e u)),
    λ n. and_true _ _ ((inside_mean k (slots32 l) p).1 (h.child n)) ((equal_mean k (slots32 l) p).1 (h.equal n)),
  ),
)
  where
    k : K
    k = (view l).k

    full_at : Entry → Bool
    full_at e = full e.rights
