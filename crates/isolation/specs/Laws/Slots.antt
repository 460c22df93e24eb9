-- Soundness after a change of slots alone.
use Rattle.std.specs.Prelude.{◌≡◌, refl, ◌↔◌, true, ℕ, ◌+◌, ◌/◌, ◌<◌}
use Rattle.std.proofs.Common.{sym, ◌∙◌, arith}
use Rattle.tables.specs.State.{Opt, some, Entry, Area, K, all_rights}
use Rattle.tables.specs.Laws.State.{same_at}
use Rattle.tables.specs.Write.{with_slot}
use Rattle.tables.specs.Lines.{In, Holds, Clear}
use Rattle.sound.specs.Core.{Inside, Whole, Core}
use Rattle.sound.specs.Properties.{Child}
use Rattle.isolation.specs.Laws.Keep.{given_child, Has, PartOf, itself, inside_at, backed_at}

-- what soundness says of the given entry a of p: it is given to a child, which holds its lines
pub record LentToChild (k : K) (new : ℕ → ℕ → Opt Entry) (p : ℕ) (a : Entry) : Type 0 where
  pub child : Child k p a.given
  pub cover : (l : ℕ) → In l a → Holds new a.given l

-- .. of the entry a in slot i of p
pub record Fine (k : K) (new : ℕ → ℕ → Opt Entry) (p i : ℕ) (a : Entry) : Type 0 where
  pub structure : (b : Area) × (k.area p (1 + i / 8) ≡ some b)
  pub range : a.start < a.stop
  pub lent : (a.given ≡ 0 → ⊥) → LentToChild k new p a
  pub inside : (p ≡ 0 → ⊥) → Inside new k.parent p a
  pub root : p ≡ 0 → a.rights ≡ all_rights
  pub whole : a.whole ≡ true → Whole k.area new k.parent p a

-- .. and of all slots: no two entries share a line, the root holds what it held, an entry that is an area stays, and those inside one grant have equal rights
pub record SlotsKept (k : K) (new : ℕ → ℕ → Opt Entry) : Type 0 where
  pub fine : (p i : ℕ) (a : Entry) → new p i ≡ some a → Fine k new p i a
  pub apart : (p i j : ℕ) (a b : Entry) (l : ℕ) → new p i ≡ some a → new p j ≡ some b → In l a → In l b → i ≡ j
  pub root : (l : ℕ) → Holds new 0 l ↔ Holds k.slot 0 l
  pub closed : (q i : ℕ) (e : Entry) → k.slot q i ≡ some e → e.given ≡ 0 → (Clear k.area e → ⊥) → Has new q e
  pub equal : (p i m : ℕ) (a b : Entry) → (p ≡ 0 → ⊥) → new p i ≡ some a → new p m ≡ some b
      → (o : Inside new k.parent p a) (q : Inside new k.parent p b) → o.i ≡ q.i → a.rights ≡ b.rights

-- what is around the entry e of p stays
abbrev pub AroundStays : K → (ℕ → ℕ → Opt Entry) → ℕ → Entry → Type 0
AroundStays k new p e = (p ≡ 0 → ⊥) → (o : Inside k.slot k.parent p e) → Has new (k.parent p) o.f

-- the entry a of p shares a line with an old one, around which all stays, and has its rights
pub record EntryCame (k : K) (new : ℕ → ℕ → Opt Entry) (p : ℕ) (a : Entry) : Type 0 where
  pub j : ℕ
  pub e : Entry
  pub at : k.slot p j ≡ some e
  pub line : ℕ
  pub was : In line e
  pub now : In line a
  pub rights : a.rights ≡ e.rights
  pub stays : AroundStays k new p e

-- where all that is given stays, it does
pub around_stays : (k : K) {new : ℕ → ℕ → Opt Entry} → ((p i : ℕ) (f : Entry) → k.slot p i ≡ some f → (f.given ≡ 0 → ⊥) → Has new p f)
    → (p : ℕ) (e : Entry) → AroundStays k new p e
around_stays k s p e n o = s (k.parent p) o.i o.f o.at (λ z. n (omega arith))

module _ {k : K} (h : Core k) {new : ℕ → ℕ → Opt Entry} where
  pub slots_core : SlotsKept k new → Core (with_slot k new)
  slots_core c = record {
    s1 = h.s1;
    s1_current = h.s1_current;
    s2_root_law = h.s2_root_law;
    s2_range = h.s2_range;
    s2_absent = h.s2_absent;
    s2_parent = h.s2_parent;
    s2_up = h.s2_up;
    s2_climb = h.s2_climb;
    s4 = h.s4;
    s5 = λ p i a u. (c.fine p i a u).structure;
    s5_range = λ p i a u. (c.fine p i a u).range;
    s6 = c.apart;
    s7_root_law = λ l. (λ u. (h.s7_root_law l).0 ((c.root l).0 u), λ u. (c.root l).1 ((h.s7_root_law l).1 u));
    s7_given_law = λ p i a u n. let g = (c.fine p i a u).lent n in (g.child.present, g.child.parent);
    s7_in = λ p i a u. (c.fine p i a u).inside;
    s7_cover_law = λ p i a l u n. ((c.fine p i a u).lent n).cover l;
    s7_whole_law = λ p i a u. (c.fine p i a u).whole;
    s8 = λ p j a u n.
        let b = h.s8 p j a u n in
        let r = h.s4 p j a u n in
        backed_at refl b (c.closed b.q b.i b.e b.at b.free (λ z. z p j a a.lo u (omega arith) (omega arith)));
    s8_apart_law = h.s8_apart_law;
    s11 = λ i a u. (c.fine 0 i a u).root refl;
    s11_equal_law = c.equal;
  }

  -- where what is around an old entry stays, a whole one is whole
  pub whole_stays : {p i : ℕ} {a : Entry} → k.slot p i ≡ some a → AroundStays k new p a → a.whole ≡ true → Whole k.area new k.parent p a
  whole_stays {p} {i} {a} u s z =
      let w = h.s7_whole_law p i a u z in
      let o = h.s7_in p i a u w.other in
      let r = h.s5_range p i a u in
      let j : o.i ≡ w.i = h.s6 (k.parent p) o.i w.i o.f w.f a.start o.at w.at (omega arith) (omega arith) in
      let d = same_at (k.slot (k.parent p) w.i) (rw j at o.at) w.at in
      let (m, v) = s w.other o in
      record {
        clear = w.clear;
        free = w.free;
        other = w.other;
        i = m;
        f = o.f;
        at = v;
        given = o.given;
        start = d.start ∙ w.start;
        stop = d.stop ∙ w.stop;
      }

  -- a part of an old entry is fine ..
  pub part_fine : {p i j : ℕ} {a e : Entry} → k.slot p j ≡ some e → PartOf a e → (b : Area) × (k.area p (1 + i / 8) ≡ some b) → a.start < a.stop
      → ((a.given ≡ 0 → ⊥) → LentToChild k new p a) → (a.whole ≡ true → Whole k.area new k.parent p a) → AroundStays k new p e → Fine k new p i a
  part_fine {p} {j = j} {e = e} u w b r g m s = record {
    structure = b;
    range = r;
    lent = g;
    inside = λ n. let o = h.s7_in p j e u n in inside_at refl w o (s n o);
    root = λ z. rw w.rights (h.s11 j e (rw z at u));
    whole = m;
  }

  -- .. and so is an old entry
  pub old_fine : {p i : ℕ} {a : Entry} → k.slot p i ≡ some a
      → ((a.given ≡ 0 → ⊥) → (l : ℕ) → In l a → Holds k.slot a.given l → Holds new a.given l)
      → AroundStays k new p a → Fine k new p i a
  old_fine {p} {i} {a} u c s = part_fine u (itself a) (h.s5 p i a u) (h.s5_range p i a u)
      (λ n. record { child = given_child h p i a u n; cover = λ l x. c n l x (h.s7_cover_law p i a l u n x) }) (whole_stays u s) s

  -- .. and comes from itself
  pub old_came : {p i : ℕ} {a : Entry} → k.slot p i ≡ some a → AroundStays k new p a → EntryCame k new p a
  old_came {p} {i} {a} u s =
      let r = h.s5_range p i a u in
      record { j = i; e = a; at = u; line = a.start; was = omega arith; now = omega arith; rights = refl; stays = s }

  -- what is around a is what was around the entry that it comes from ..
  module _ (apart : (p i j : ℕ) (a b : Entry) (l : ℕ) → new p i ≡ some a → new p j ≡ some b → In l a → In l b → i ≡ j) {p : ℕ} (n : p ≡ 0 → ⊥) where
    was_around : {a : Entry} (c : EntryCame k new p a) → Inside k.slot k.parent p c.e
    was_around c = h.s7_in p c.j c.e c.at n

    same_grant : {a : Entry} (c : EntryCame k new p a) (o : Inside new k.parent p a) → o.i ≡ (c.stays n (was_around c)).0
    same_grant {a} c o =
        let u = was_around c in
        let (i, v) = c.stays n u in
        let x = c.was in
        let y = c.now in
        apart (k.parent p) o.i i o.f u.f c.line o.at v (omega arith) (omega arith)

    -- .. so two inside one grant come from two inside one grant
    pub came_equal : {a b : Entry} → EntryCame k new p a → EntryCame k new p b → (o : Inside new k.parent p a) (q : Inside new k.parent p b) → o.i ≡ q.i
        → a.rights ≡ b.rights
    came_equal c d o q z =
        let x = was_around c in
        let y = was_around d in
        let u : new (k.parent p) (d.stays n y).0 ≡ some x.f = rw (sym (same_grant c o) ∙ z ∙ same_grant d q) at (c.stays n x).1 in
        let w = same_at (new (k.parent p) (d.stays n y).0) u (d.stays n y).1 in
        let r = h.s5_range (k.parent p) x.i x.f x.at in
        let one : x.i ≡ y.i = h.s6 (k.parent p) x.i y.i x.f y.f x.f.start x.at y.at (omega arith) (omega arith) in
        c.rights ∙ h.s11_equal_law p c.j d.j c.e d.e n c.at d.at x y one ∙ sym d.rights
