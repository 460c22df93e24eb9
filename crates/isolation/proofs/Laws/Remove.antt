-- Partitions are removed (Goes, specs/Laws/Remove): their records are zero, what the caller gave to c is given to nobody, and the table is right again.
use Rattle.std.specs.Prelude.{◌≡◌, refl, ◌⊎◌, ◌↔◌, Bool, true, false, cond, ℕ, ◌+◌, ◌/◌, ◌<◌}
use Rattle.std.proofs.Common.{ap, ◌∙◌, inl, inr, true≢false, arith, eq-eqb, ne_eqb}
use Rattle.std.proofs.Math.Path.{sym}
use Rattle.std.proofs.Math.Decide.{ℕ_discrete}
use Rattle.loops.specs.Laws.Climb.{reaches_same}
use Rattle.tables.specs.State.{Opt, none, some, Entry, Area, nowhere, K, Table, given_to}
use Rattle.tables.specs.Laws.State.{same, some_inj, not_none, never_some}
use Rattle.tables.specs.Update.{upd1}
use Rattle.tables.specs.Laws.Update.{upd1_same, upd1_other}
use Rattle.tables.specs.Lines.{Holds}
use Rattle.sound.specs.Sound.{Present, Rooted}
use Rattle.sound.specs.Core.{Inside, Whole, Backed, Core}
use Rattle.sound.specs.Whole.{Right}
use Rattle.rules.specs.Rules.{ungive, records_zero, remove_k, remove}
use Rattle.rules.specs.Laws.Removed.{records_was}
use Rattle.isolation.specs.Laws.Keep.{entry_present, Has, still, inside_at, backed_at}
use Rattle.isolation.specs.Laws.Settled.{right_loads, settle_right, loads_fewer}
use Rattle.isolation.specs.Laws.Remove.{Goes, kept_given}

-- present, and stays
abbrev pub Remains : K → (ℕ → Bool) → ℕ → Type 0
Remains k m q = Present k q × (m q ≡ false)

-- ── records are zeroed ──
module _ {A : Type 0} (m : ℕ → Bool) (f : ℕ → ℕ → Opt A) (q i : ℕ) where
  abbrev without : ℕ → ℕ → Opt A
  without = records_zero m (λ j. none) f

  without_stays : m q ≡ false → without q i ≡ f q i
  without_stays n = rw n refl

-- ── what was given is given to nobody ──
ungive_yes : (c : ℕ) (e : Entry) → e.given ≡ c → ungive c (some e) ≡ some (given_to e 0)
unfolding ungive
ungive_yes c e g = rw (eq-eqb e.given c g) refl

ungive_no : (c : ℕ) (e : Entry) → (e.given ≡ c → ⊥) → ungive c (some e) ≡ some e
unfolding ungive
ungive_no c e g = rw (ne_eqb e.given c g) refl

ungive_none : (c : ℕ) → ungive c none ≡ none
unfolding ungive
ungive_none c = refl

-- the entry that a was: only what it is given to may differ
record Was (k : K) (m : ℕ → Bool) (p i : ℕ) (a : Entry) : Type 0 where
  e : Entry
  at : k.slot p i ≡ some e
  start : a.start ≡ e.start
  stop : a.stop ≡ e.stop
  rights : a.rights ≡ e.rights
  whole : a.whole ≡ e.whole
  free : e.given ≡ 0 → a.given ≡ 0
  stayed : m p ≡ false
  given : (a.given ≡ 0 → ⊥) → (k.slot p i ≡ some a) × (m a.given ≡ false)

module _ {k : K} {c : ℕ} {m : ℕ → Bool} (h : Core k) (ok : Goes k c m) where
  abbrev new : ℕ → ℕ → Opt Entry
  new = (remove_k k c m).slot

  -- the slots before records are zeroed
  abbrev half : ℕ → ℕ → Opt Entry
  half = upd1 k.slot k.current (λ i. ungive c (k.slot k.current i))

  -- who stays is not c
  not_c : {q : ℕ} → m q ≡ false → q ≡ c → ⊥
  not_c n z = true≢false (sym ok.itself ∙ ap m (sym z) ∙ n)

  -- nobody who stays hangs on one who goes
  up_stays : (q : ℕ) → Present k q → m q ≡ false → m (k.parent q) ≡ false
  up_stays q u n = go (ℕ_discrete q 0) (m (k.parent q)) refl
    where
      go : Dec (q ≡ 0) → (b : Bool) → m (k.parent q) ≡ b → b ≡ false
      go d false z = refl
      go (yes y) true z = sym z ∙ ap m (ap k.parent y ∙ h.s2_root_law.2) ∙ ok.root
      go (no y) true z = sym (ok.down (k.parent q) q (record { present = u; other = y; parent = refl }) z) ∙ n

  -- what is given to c is the caller's
  giver : (p i : ℕ) (a : Entry) → k.slot p i ≡ some a → a.given ≡ c → p ≡ k.current
  giver p i a u g = sym (h.s7_given_law p i a u (λ z. ok.child.other (sym g ∙ z))).1 ∙ ap k.parent g ∙ ok.child.parent

  half_caller : (i : ℕ) → half k.current i ≡ ungive c (k.slot k.current i)
  half_caller i = ap (λ (g : ℕ → Opt Entry). g i) (upd1_same k.slot k.current _ k.current refl)

  half_other : (p i : ℕ) → (p ≡ k.current → ⊥) → half p i ≡ k.slot p i
  half_other p i n = ap (λ (g : ℕ → Opt Entry). g i) (upd1_other k.slot k.current _ p n)

  inv : (p i : ℕ) (a : Entry) → new p i ≡ some a → Was k m p i a
  inv p i a u = let (v, n) = records_was m half p i u in go n v (ℕ_discrete p k.current)
    where
      alike : m p ≡ false → k.slot p i ≡ some a → (a.given ≡ c → ⊥) → Was k m p i a
      alike n v g = record { e = a; at = v; start = refl; stop = refl; rights = refl; whole = refl; free = λ z. z; stayed = n; given = λ _. (v, kept_given h ok p i a v n g) }

      mine : m p ≡ false → (o : Opt Entry) → k.slot p i ≡ o → ungive c o ≡ some a → Was k m p i a
      mine n none v w = not_none none refl (sym (ungive_none c) ∙ w)
      mine n (some e) v w = freed (ℕ_discrete e.given c)
        where
          freed : Dec (e.given ≡ c) → Was k m p i a
          freed (yes g) =
              let q = same (some_inj (sym (ungive_yes c e g) ∙ w)) in
              record {
                e = e;
                at = v;
                start = sym q.start;
                stop = sym q.stop;
                rights = sym q.rights;
                whole = sym q.whole;
                free = λ _. sym q.given;
                stayed = n;
                given = λ z. absurd (z (sym q.given));
              }
          freed (no g) =
              let q = sym (ungive_no c e g) ∙ w in
              alike n (v ∙ q) (λ z. g ((same (some_inj q)).given ∙ z))

      go : m p ≡ false → half p i ≡ some a → Dec (p ≡ k.current) → Was k m p i a
      go n v (yes z) = mine n (k.slot p i) refl (rw z (sym (half_caller i) ∙ rw z at v))
      go n v (no z) = let w = sym (half_other p i z) ∙ v in alike n w (λ g. z (giver p i a w g))

  pub remove_stays : (p i : ℕ) (a : Entry) → k.slot p i ≡ some a → m p ≡ false → (a.given ≡ c → ⊥) → Has (remove_k k c m).slot p a
  remove_stays p i a u n g = (i, without_stays m half p i n ∙ go (ℕ_discrete p k.current))
    where
      go : Dec (p ≡ k.current) → half p i ≡ some a
      go (yes z) = rw z (half_caller i ∙ ap (ungive c) (rw z at u) ∙ ungive_no c a g)
      go (no z) = half_other p i z ∙ u

  -- what the caller gave to c is its own again
  pub freed_at : (i : ℕ) (a : Entry) → k.slot k.current i ≡ some a → a.given ≡ c → new k.current i ≡ some (given_to a 0)
  freed_at i a u g = without_stays m half k.current i ok.caller ∙ half_caller i ∙ ap (ungive c) u ∙ ungive_yes c a g

  new_holds : (p l : ℕ) → Holds new p l → Holds k.slot p l × (m p ≡ false)
  new_holds p l u = let o = inv p u.i u.e u.at in (record { i = u.i; e = o.e; at = o.at; holds = omega arith }, o.stayed)

  holds_new : (p l : ℕ) → Holds k.slot p l → m p ≡ false → Holds new p l
  holds_new p l u n = go (ℕ_discrete u.e.given c)
    where
      go : Dec (u.e.given ≡ c) → Holds new p l
      go (yes g) =
          let z = giver p u.i u.e u.at g in
          record { i = u.i; e = given_to u.e 0; at = rw z (freed_at u.i u.e (rw z at u.at) g); holds = omega arith }
      go (no g) = still u (remove_stays p u.i u.e u.at n g)

  -- the ledger's line: who goes holds no line, the others what they held
  pub remove_holds : (p l : ℕ) → Holds (remove_k k c m).slot p l ↔ (Holds k.slot p l × (m p ≡ false))
  remove_holds p l = (new_holds p l, λ u. holds_new p l u.0 u.1)

  area_was : (q i : ℕ) (a : Area) → (remove_k k c m).area q i ≡ some a → (k.area q i ≡ some a) × (m q ≡ false)
  area_was q i a u = records_was m k.area q i u

  area_stays : (q i : ℕ) (a : Area) → k.area q i ≡ some a → m q ≡ false → (remove_k k c m).area q i ≡ some a
  area_stays q i a u n = without_stays m k.area q i n ∙ u

  left : (q : ℕ) → Present (remove_k k c m) q → Remains k m q
  left q (a, u) = let (v, n) = area_was q 0 a u in ((a, v), n)

  keep : (q : ℕ) → Remains k m q → Present (remove_k k c m) q
  keep q ((a, u), n) = (a, area_stays q 0 a u n)

  up_same : (q : ℕ) → m q ≡ false → (remove_k k c m).parent q ≡ k.parent q
  up_same q n = rw n refl

  pub parent_remains : (q : ℕ) → Remains k m q → Remains k m (k.parent q)
  parent_remains q (u, n) = (h.s2_up q u, up_stays q u n)

  orphan : (q : ℕ) → (remove_k k c m).area q 0 ≡ none → (remove_k k c m).parent q ≡ 0
  orphan q z = go (m q) refl
    where
      go : (b : Bool) → m q ≡ b → cond b 0 (k.parent q) ≡ 0
      go true n = refl
      go false n = h.s2_parent q (never_some (k.area q 0) (λ a u. not_none ((remove_k k c m).area q 0) z (area_stays q 0 a u n)))

  inside : (p i : ℕ) (a : Entry) → new p i ≡ some a → (p ≡ 0 → ⊥) → Inside new (remove_k k c m).parent p a
  inside p i a u n =
      let o = inv p i a u in
      let f = h.s7_in p i o.e o.at n in
      inside_at (up_same p o.stayed) (record { from = omega arith; to = omega arith; rights = o.rights }) f
      (remove_stays (k.parent p) f.i f.f f.at (up_stays p (entry_present h p i o.e o.at) o.stayed) (λ z. not_c o.stayed (sym f.given ∙ z)))

  -- what is around an entry was around it
  inside_was : (p i : ℕ) (a : Entry) (u : new p i ≡ some a) → (p ≡ 0 → ⊥) → Inside new (remove_k k c m).parent p a → Inside k.slot k.parent p (inv p i a u).e
  inside_was p i a u n g =
      let o = inv p i a u in
      inside_at (sym (up_same p o.stayed)) (record { from = omega arith; to = omega arith; rights = sym o.rights }) g
      (g.i, ((inv ((remove_k k c m).parent p) g.i g.f g.at).given (λ z. n (sym g.given ∙ z))).0)

  whole : (p i : ℕ) (a : Entry) → new p i ≡ some a → a.whole ≡ true → Whole (remove_k k c m).area new (remove_k k c m).parent p a
  whole p i a u z =
      let o = inv p i a u in
      let w = h.s7_whole_law p i o.e o.at (sym o.whole ∙ z) in
      let (j, v) = remove_stays (k.parent p) w.i w.f w.at (up_stays p (entry_present h p i o.e o.at) o.stayed) (λ y. not_c o.stayed (sym w.given ∙ y)) in
      record {
        clear = λ q r b l v x y. w.clear q r b l (area_was q r b v).0 x (omega arith);
        free = o.free w.free;
        other = w.other;
        i = j;
        f = w.f;
        at = rw (up_same p o.stayed) v;
        given = w.given;
        start = w.start ∙ sym o.start;
        stop = w.stop ∙ sym o.stop;
      }

  backed : (p j : ℕ) (a : Area) → (remove_k k c m).area p j ≡ some a → (Rooted p j → ⊥) → Backed new (remove_k k c m).parent p j a
  backed p j a u n =
      let (v, s) = area_was p j a u in
      let b = h.s8 p j a v n in
      backed_at (up_same p s) b (remove_stays b.q b.i b.e b.at (go b.q s (up_stays p (h.s2_absent p j a v) s) b.who) (λ z. ok.child.other (sym z ∙ b.free)))
    where
      go : (q : ℕ) → m p ≡ false → m (k.parent p) ≡ false → (q ≡ k.parent p) ⊎ ((q ≡ p) × (0 < j)) → m q ≡ false
      go q s n (inl y) = ap m y ∙ n
      go q s n (inr y) = ap m y.0 ∙ s

  pub remove_core : Core (remove_k k c m)
  unfolding inside_was inside_at
  remove_core = record {
    s1 = h.s1;
    s1_current = keep k.current (h.s1_current, ok.caller);
    s2_root_law = (
      area_stays 0 0 nowhere h.s2_root_law.0 ok.root,
      area_stays 0 1 nowhere h.s2_root_law.1 ok.root,
      up_same 0 ok.root ∙ h.s2_root_law.2,
    );
    s2_range = λ q i a u. h.s2_range q i a (area_was q i a u).0;
    s2_absent = λ q i a u. let (v, n) = area_was q i a u in keep q (h.s2_absent q i a v, n);
    s2_parent = orphan;
    s2_up = λ q u. let v = left q u in rw (up_same q v.1) (keep (k.parent q) (parent_remains q v));
    s2_climb = λ q u. let v = left q u in reaches_same (Remains k m) (λ p w. up_same p w.1) parent_remains v (h.s2_climb q v.0);
    s4 = λ q i a u. h.s4 q i a (area_was q i a u).0;
    s5 = λ p i a u.
        let o = inv p i a u in
        let (b, v) = h.s5 p i o.e o.at in
        (b, area_stays p (1 + i / 8) b v o.stayed);
    s5_range = λ p i a u. let o = inv p i a u in omega (arith, h.s5_range p i o.e o.at);
    s6 = λ p i j a b l u v x y.
        let o = inv p i a u in
        let r = inv p j b v in
        h.s6 p i j o.e r.e l o.at r.at (omega arith) (omega arith);
    s7_root_law = λ l. (λ u. (h.s7_root_law l).0 (new_holds 0 l u).0, λ u. holds_new 0 l ((h.s7_root_law l).1 u) ok.root);
    s7_given_law = λ p i a u n.
        let (v, g) = (inv p i a u).given n in
        let (w, z) = h.s7_given_law p i a v n in
        (keep a.given (w, g), up_same a.given g ∙ z);
    s7_in = inside;
    s7_cover_law = λ p i a l u n x. let (v, g) = (inv p i a u).given n in holds_new a.given l (h.s7_cover_law p i a l v n x) g;
    s7_whole_law = whole;
    s8 = backed;
    s8_apart_law = λ p j q i a b l u v. h.s8_apart_law p j q i a b l (area_was p j a u).0 (area_was q i b v).0;
    s11 = λ i a u. let o = inv 0 i a u in o.rights ∙ h.s11 i o.e o.at;
    s11_equal_law = λ p i j a b n u v g f z.
        let o = inv p i a u in
        let q = inv p j b v in
        o.rights ∙ h.s11_equal_law p i j o.e q.e n o.at q.at (inside_was p i a u n g) (inside_was p j b v n f) z ∙ sym q.rights;
  }

-- .. and with its open bits and regions the table is right again
pub remove_right : {t : Table} {c : ℕ} {m : ℕ → Bool} → Right t → Goes t.k c m → Right (remove t c m)
remove_right {t} {m = m} h ok =
    settle_right (remove_core h.core ok) h.stop (loads_fewer (right_loads h) (λ q r i u. (records_was m t.region q r u).0))
