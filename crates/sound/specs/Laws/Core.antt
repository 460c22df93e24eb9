-- A sound table has this core; and a core has each clause but for its words, open bits and regions.
use Rattle.std.specs.Prelude.{◌≡◌, refl, true, List, ◌⊎◌, ℕ, zero, suc, ◌+◌, ◌/◌, ◌≤◌, ◌<◌}
use Rattle.std.proofs.Common.{sym, ◌∙◌, inl, inr, ⊎_elim, arith}
use Rattle.std.proofs.Math.Decide.{dec_lt, ℕ_discrete}
use Rattle.loops.specs.Loops.{Reaches}
use Rattle.shapes.specs.declared.Board.{Board}
use Rattle.tables.specs.State.{Opt, none, some, Entry, Area, nowhere, K, Table}
use Rattle.tables.specs.Laws.State.{not_none, same_at}
use Rattle.tables.specs.View.{view}
use Rattle.tables.specs.Laws.View.{slot_bounds, area_bounds}
use Rattle.tables.specs.Laws.Spelling.{zero_areas}
use Rattle.tables.specs.Laws.ZeroWord.{no_area, no_parent}
use Rattle.tables.specs.Lines.{In, InA, Holds}
use Rattle.sound.specs.Sound.{Present, Rooted, Granted, Equals, S1, S2, S6, S7, S8, S9, S11, Sound}
use Rattle.sound.specs.Core.{Inside, Whole, Backed, Core}
use Rattle.sound.specs.Laws.Sound.{s1_of, s2_of, s4_of, s5_of, s6_of, s7_of, s8_of, s9_of, s11_of}

-- two areas with a line in common are one; S8 says it of two owners in order
pub apart_both : (l : List ℕ) → ((p : ℕ) → p < 16 → S8 (view l).k p) → (p j q i : ℕ) (a b : Area) (n : ℕ)
    → (view l).k.area p j ≡ some a → (view l).k.area q i ≡ some b → InA n a → InA n b → (p ≡ q) × (j ≡ i)
apart_both l s p j q i a b n u v x y = go (dec_lt q p)
  where
    go : Dec (q < p) → (p ≡ q) × (j ≡ i)
    go (yes z) = let (c, d) = (s q (area_bounds l q i b v).0).apart i p j b a n (omega arith) v u y x in (sym c, sym d)
    go (no z) = (s p (area_bounds l p j a u).0).apart j q i a b n (omega arith) u v x y

-- ── from a sound table ──
module _ {board : Board} (l : List ℕ) (h : Sound board l) where
  -- the words of an absent partition are zero: it has no area ..
  absent : (p j : ℕ) (a : Area) → (view l).k.area p j ≡ some a → Present (view l).k p
  absent p j a u = go ((view l).k.area p 0) refl
    where
      go : (o : Opt Area) → (view l).k.area p 0 ≡ o → Present (view l).k p
      go none q = not_none ((view l).k.area p j) (no_area l p j (λ b. zero_areas l p ((s2_of h p b).absent q) j)) u
      go (some b) q = (b, q)

  -- .. and its parent is 0
  orphan : (p : ℕ) → (view l).k.area p 0 ≡ none → (view l).k.parent p ≡ 0
  orphan p q = no_parent l p (λ b. zero_areas l p ((s2_of h p b).absent q) 0 (omega arith))

  -- the root's parent is the root
  up : (p : ℕ) → Present (view l).k p → Present (view l).k ((view l).k.parent p)
  up p a = go (ℕ_discrete p 0) (s2_of h p (area_bounds l p 0 a.0 a.1).0)
    where
      go : Dec (p ≡ 0) → S2 l (view l).k p → Present (view l).k ((view l).k.parent p)
      go (yes z) s = rw ((s.root z).1 ∙ sym z) a
      go (no z) s = s.parent z a

  inside : (c i : ℕ) (e : Entry) → (view l).k.slot c i ≡ some e → (c ≡ 0 → ⊥) → Inside (view l).k.slot (view l).k.parent c e
  inside c i e u n =
      let hc = (slot_bounds l c i e u).0 in
      let (j, f, g) = (s7_of h c hc).inside n i e u in
      record { i = j; f = f; at = g.at; given = g.given; from = g.around.from; to = g.around.to; sub = (s11_of h c hc).child n i j e f u g }

  -- two entries with one grant around them
  equal : (c i m : ℕ) (e f : Entry) → (c ≡ 0 → ⊥) → (view l).k.slot c i ≡ some e → (view l).k.slot c m ≡ some f
      → (o : Inside (view l).k.slot (view l).k.parent c e) (q : Inside (view l).k.slot (view l).k.parent c f) → o.i ≡ q.i → e.rights ≡ f.rights
  equal c i m e f n u v o q z =
      let w = same_at ((view l).k.slot ((view l).k.parent c) q.i) (rw z at o.at) q.at in
      (s11_of h c (slot_bounds l c i e u).0).equal n i m e f u v (
        o.i,
        o.f,
        record { at = o.at; given = o.given; around = record { from = o.from; to = o.to } },
        record { at = o.at; given = o.given; around = record { from = omega (arith, w.start, q.from); to = omega (arith, w.stop, q.to) } },
      )

  -- S7 says it of the child, here it is said of the giver
  cover : (p i : ℕ) (f : Entry) (n : ℕ) → (view l).k.slot p i ≡ some f → (f.given ≡ 0 → ⊥) → In n f → Holds (view l).k.slot f.given n
  cover p i f n u z x =
      let (a, e) = (s7_of h p (slot_bounds l p i f u).0).given i f u z in
      (s7_of h f.given (area_bounds l f.given 0 a.0 a.1).0).cover z a i f (rw e u) refl n x

  -- S7 says it by the open bit
  whole : (c i : ℕ) (e : Entry) → (view l).k.slot c i ≡ some e → e.whole ≡ true → Whole (view l).k.area (view l).k.slot (view l).k.parent c e
  whole c i e u w =
      let b = (slot_bounds l c i e u).0 in
      let o = (s7_of h c b).whole i e u w in
      let g = o.lent in
      record {
        clear = (s9_of h c b i e u).0 o.opened;
        free = o.free;
        other = o.other;
        i = g.i;
        f = g.f;
        at = g.at;
        given = g.given;
        start = g.start;
        stop = g.stop;
      }

  backed : (p j : ℕ) (a : Area) → (view l).k.area p j ≡ some a → (Rooted p j → ⊥) → Backed (view l).k.slot (view l).k.parent p j a
  backed p j a u n = go j u n
    where
      by : {j : ℕ} (q : ℕ) → (q ≡ (view l).k.parent p) ⊎ ((q ≡ p) × (0 < j)) → Equals (view l).k q a → Backed (view l).k.slot (view l).k.parent p j a
      by q w b = record { q = q; who = w; i = b.i; e = b.e; at = b.at; free = b.free; lo = b.lo; hi = b.hi }

      go : (j : ℕ) → (view l).k.area p j ≡ some a → (Rooted p j → ⊥) → Backed (view l).k.slot (view l).k.parent p j a
      go zero u n = by ((view l).k.parent p) (inl refl) ((s8_of h p (area_bounds l p 0 a u).0).header (λ z. n (z, omega arith)) a u)
      go (suc j) u n =
          let e : 1 + j ≡ suc j = omega arith in
          let s = (s8_of h p (area_bounds l p (suc j) a u).0).structure j a (rw e u) (λ r. n (r.0, omega arith)) in
          ⊎_elim (by p (inr (refl, omega arith))) (by ((view l).k.parent p) (inl refl)) s

  pub sound_core : Core (view l).k
  sound_core =
      let root = (s2_of h 0 (omega arith)).root refl in
      record {
        s1 = (s1_of h).range;
        s1_current = (s1_of h).current;
        s2_root_law = (root.0, (s4_of h 0 (omega arith)).root refl, root.1);
        s2_range = area_bounds l;
        s2_absent = absent;
        s2_parent = orphan;
        s2_up = up;
        s2_climb = λ p a. (s2_of h p (area_bounds l p 0 a.0 a.1).0).walk a;
        s4 = λ p j a u n. (s4_of h p (area_bounds l p j a u).0).long j a u n;
        s5 = λ p i e u. (s5_of h p (slot_bounds l p i e u).0).structure i e u;
        s5_range = λ p i e u. (s5_of h p (slot_bounds l p i e u).0).range i e u;
        s6 = λ p i j e f n u. s6_of h p (slot_bounds l p i e u).0 i j e f n u;
        s7_root_law = (s7_of h 0 (omega arith)).root refl;
        s7_given_law = λ p i e u. (s7_of h p (slot_bounds l p i e u).0).given i e u;
        s7_in = inside;
        s7_cover_law = cover;
        s7_whole_law = whole;
        s8 = backed;
        s8_apart_law = apart_both l (s8_of h);
        s11 = (s11_of h 0 (omega arith)).root refl;
        s11_equal_law = equal;
      }

-- ── and back ──
-- What a core says of the clauses: all but zero words and zero bits (S2 absent, S3, S4 absent, S5 other), open bits (S7 whole, S9) and regions (S10).
pub record CoreClauses (k : K) : Type 0 where
  pub s1 : S1 k
  pub s2_root_law : (p : ℕ) → p ≡ 0 → (k.area p 0 ≡ some nowhere) × (k.parent p ≡ 0)
  pub s2_parent : (p : ℕ) → (p ≡ 0 → ⊥) → Present k p → Present k (k.parent p)
  pub s2_area : (p : ℕ) → (p ≡ 0 → ⊥) → k.area p 0 ≡ some nowhere → ⊥
  pub s2_walk : (p : ℕ) → Present k p → Reaches k.parent 15 p
  pub s4_root : (p : ℕ) → p ≡ 0 → k.area p 1 ≡ some nowhere
  pub s4_long : (p j : ℕ) (a : Area) → k.area p j ≡ some a → (Rooted p j → ⊥) → a.lo + 16 ≤ a.hi
  pub s5_structure : (p i : ℕ) (e : Entry) → k.slot p i ≡ some e → (a : Area) × (k.area p (1 + i / 8) ≡ some a)
  pub s5_range : (p i : ℕ) (e : Entry) → k.slot p i ≡ some e → e.start < e.stop
  pub s6 : (p : ℕ) → S6 k p
  pub s8 : (p : ℕ) → S8 k p
  pub s11 : (p : ℕ) → S11 k p

-- S7, with the open bits of S9
pub core_s7 : {t : Table} → Core t.k → (p : ℕ) → S9 t p → S7 t p
core_s7 {t} h p s9 = record {
  root = λ z l. rw z (h.s7_root_law l);
  given = h.s7_given_law p;
  inside = λ n i e u.
      let o = h.s7_in p i e u n in
      (o.i, o.f, record { at = o.at; given = o.given; around = record { from = o.from; to = o.to } });
  cover = λ n a i f u g l x. rw g at (h.s7_cover_law (t.k.parent p) i f l u (λ z. n (sym g ∙ z)) x);
  whole = λ i e u w.
      let o = h.s7_whole_law p i e u w in
      record {
        opened = (s9 i e u).1 o.clear;
        free = o.free;
        other = o.other;
        lent = record { i = o.i; f = o.f; at = o.at; given = o.given; start = o.start; stop = o.stop };
      };
}

-- S8, from what each area is and that no two share a line
pub backed_s8 : {k : K} → ((p j : ℕ) (a : Area) → k.area p j ≡ some a → (Rooted p j → ⊥) → Backed k.slot k.parent p j a)
    → ((p j q i : ℕ) (a b : Area) (l : ℕ) → k.area p j ≡ some a → k.area q i ≡ some b → InA l a → InA l b → (p ≡ q) × (j ≡ i)) → (p : ℕ) → S8 k p
backed_s8 {k} backed apart p = record {
  header = λ n a u. ⊎_elim (λ o. absurd (omega (arith, o.0))) (λ e. e) (whose (backed p 0 a u (λ r. n r.0)));
  structure = λ j a u n. ⊎_elim (λ o. inl o.1) inr (whose (backed p (1 + j) a u n));
  apart = λ j q i a b l _. apart p j q i a b l;
}
  where
    whose : {j : ℕ} {a : Area} → Backed k.slot k.parent p j a → ((0 < j) × Equals k p a) ⊎ Equals k (k.parent p) a
    whose {j} {a} b = go b.who (record { i = b.i; e = b.e; at = b.at; free = b.free; lo = b.lo; hi = b.hi })
      where
        go : (b.q ≡ k.parent p) ⊎ ((b.q ≡ p) × (0 < j)) → Equals k b.q a → ((0 < j) × Equals k p a) ⊎ Equals k (k.parent p) a
        go (inl z) e = inr (rw z at e)
        go (inr z) e = inl (z.1, rw z.0 at e)

module _ {k : K} (h : Core k) where
  core_s8 : (p : ℕ) → S8 k p
  core_s8 = backed_s8 h.s8 h.s8_apart_law

  -- only one entry of the parent holds an entry's first line
  one_around : (p i j : ℕ) (e f : Entry) (n : p ≡ 0 → ⊥) (u : k.slot p i ≡ some e) → Granted k p e j f → (h.s7_in p i e u n).i ≡ j
  one_around p i j e f n u g =
      let o = h.s7_in p i e u n in
      let r = h.s5_range p i e u in
      h.s6 (k.parent p) o.i j o.f f e.start o.at g.at (omega arith) (omega arith)

  core_s11 : (p : ℕ) → S11 k p
  core_s11 p = record {
    root = λ z i e u. h.s11 i e (rw z at u);
    child = λ n i j e f u g.
        let o = h.s7_in p i e u n in
        rw (same_at (k.slot (k.parent p) j) (rw (one_around p i j e f n u g) at o.at) g.at).rights at o.sub;
    equal = λ n i m e f u v (j, g, x, y).
        h.s11_equal_law p i m e f n u v (h.s7_in p i e u n) (h.s7_in p m f v n) (one_around p i j e g n u x ∙ sym (one_around p m j f g n v y));
  }

  pub core_sound : CoreClauses k
  core_sound = record {
    s1 = record { range = h.s1; current = h.s1_current };
    s2_root_law = λ p z. rw z (h.s2_root_law.0, h.s2_root_law.2);
    s2_parent = λ p _. h.s2_up p;
    s2_area = λ p n u. let w = h.s4 p 0 nowhere u (λ r. n r.0) in omega arith;
    s2_walk = h.s2_climb;
    s4_root = λ p z. rw z h.s2_root_law.1;
    s4_long = h.s4;
    s5_structure = h.s5;
    s5_range = h.s5_range;
    s6 = h.s6;
    s8 = core_s8;
    s11 = core_s11;
  }

-- every parent is one of the 16: that of a present partition is present, that of an absent one the root
pub parent_range : {k : K} → Core k → (q : ℕ) → k.parent q < 16
parent_range {k} h q = go (k.area q 0) refl
  where
    go : (o : Opt Area) → k.area q 0 ≡ o → k.parent q < 16
    go none z = rw (h.s2_parent q z) (omega arith)
    go (some a) z = let (b, u) = h.s2_up q (a, z) in (h.s2_range (k.parent q) 0 b u).0
