-- An area that finds no equal entry, or one that is marked, fails S8; the others mark one slot each.
use Rattle.std.specs.Prelude.{◌≡◌, Bool, true, false, not, ◌&&◌, List, Option, Some, None, ◌⊎◌, ℕ, zero, suc, ◌+◌, ◌-◌, ◌*◌, ◌/◌, ◌%◌, ◌^◌, ◌≤◌, ◌<◌, eqb, length, get_or, set, replicate}
use Rattle.std.proofs.Math.Path.{refl}
use Rattle.std.proofs.Common.{ap, sym, subst, ◌∙◌, inl, inr, ⊎_elim, arith, length-set, get_or-set_other}
use Rattle.std.proofs.lemmas.Option.{none-some, same_Some}
use Rattle.std.proofs.Math.Bool.{or-true, or-false, false≢true}
use Rattle.std.proofs.Math.Decide.{ℕ_discrete, dec_lt}
use Rattle.std.specs.Int.Bits.{bit_or}
use Rattle.std.proofs.lemmas.List.{length-replicate}
use Rattle.std.proofs.Math.Seq.{get_or-set_same}
use borrow.Author.Tests.{eq-eqb, ne_eqb, eqb-true, not-true}
use Rattle.tables.specs.State.{none, some, Entry, Area, K}
use Rattle.tables.specs.Laws.State.{some_inj, not_none, same_at}
use Rattle.words.specs.declared.header_word.HeaderFields.{HeaderFields}
use Rattle.words.specs.declared.structure_word.StructureFields.{StructureFields}
use Rattle.tables.specs.View.{header_area, structure_area, view}
use Rattle.tables.specs.Seen.{SeenHeader, SeenStructure}
use Rattle.tables.specs.Laws.View.{slot_bounds}
use Rattle.tables.specs.Laws.Spelling.{zero_areas}
use Rattle.tables.specs.Laws.ZeroWord.{no_area}
use Rattle.tables.specs.Laws.ZeroRecord.{zero_record_means}
use Rattle.tables.specs.Lines.{InA}
use Rattle.tables.specs.Search.{present}
use Rattle.tables.specs.Top.{Top}
use Rattle.tables.specs.Laws.Top.{top_area}
use Rattle.loops.specs.Laws.Scan.{Sought, seek_law}
use Rattle.sound.specs.Sound.{Rooted, Equals}
use Rattle.sound.specs.Clauses.{has, rooted}
use Rattle.sound.specs.Laws.Core.{apart_both}
use Rattle.sound.specs.Laws.Tests.{and_says, and_true}
use Rattle.sound.proofs.Laws.MeansAreas.{rooted_means}
use Rattle.sound.specs.Laws.Local.{EqualAt, MarkedOnce}
use Rattle.shape.specs.AtOnce.{Shaped}
use Rattle.shape.specs.Laws.AtOnce.{shaped_s2, shaped_record}
use Rattle.ordering.specs.Laws.Present.{absent_zero, record_solid}
use Rattle.marking.specs.Backing.{area_between, backs}
use Rattle.loops.specs.Loops.{names}
use Rattle.loops.specs.Laws.Mask.{names_none, names_or, names_one}
use Rattle.words.specs.declared.Slot.{Slot}
use Rattle.marking.specs.declared.Mark.{Mark}
use Rattle.marking.specs.declared.Mark.TheVariants.{Nobody, Now, Before}
use Rattle.marking.specs.Marking.{slot_marked, There, MarkedTo, found_slot, equal_slot, is_now, Marks, nobody, marked, before, MarksEither, in_one, in_other, CanMark, EachS8, MarkSays}

-- what passes backs
backs_says : (k : K) (q i : ℕ) (a : Area) → backs a (k.slot q i) ≡ true → (e : Entry) × (k.slot q i ≡ some e) × (e.given ≡ 0) × (e.start ≡ a.lo) × (e.stop ≡ a.hi)
unfolding backs has
backs_says k q i a w = go (k.slot q i) refl w
  where
    go : (x : _) → k.slot q i ≡ x → has (λ e. eqb e.given 0 && eqb e.start a.lo && eqb e.stop a.hi) x ≡ true
        → (e : Entry) × (k.slot q i ≡ some e) × (e.given ≡ 0) × (e.start ≡ a.lo) × (e.stop ≡ a.hi)
    go none u z = absurd (false≢true z)
    go (some e) u z =
        let (x, c) = and_says (eqb e.given 0 && eqb e.start a.lo) (eqb e.stop a.hi) z in
        let (y, b) = and_says (eqb e.given 0) (eqb e.start a.lo) x in
        (e, u, eqb-true _ _ y, eqb-true _ _ b, eqb-true _ _ c)

-- the number of an area tells it
number_one : {p j q i : ℕ} → j < 5 → i < 5 → 5 * p + j ≡ 5 * q + i → (p ≡ q) × (j ≡ i)
number_one h g z = (omega arith, omega arith)

module _ {k : K} where
  mark_start : {m : List ℕ} → length m ≡ 16 → ((x : ℕ) → slot_marked m x ≡ false) → MarkedTo k 0 m
  mark_start size zeros = record {
    size = size;
    at = λ n. 0;
    equal = λ p j a h. absurd (omega (arith, h.below));
    hit = λ p j a h. absurd (omega (arith, h.below));
    back = λ x n. absurd (false≢true (sym (zeros x) ∙ n));
    once = λ p j q i a b h. absurd (omega (arith, h.below));
  }

  -- more numbers, of which none has an area: the marks stay
  mark_more : {n n' : ℕ} {m : List ℕ} → MarkedTo k n m → n ≤ n' → ((p j : ℕ) (a : Area) → There k n' p j a → 5 * p + j < n) → MarkedTo k n' m
  mark_more {n} {n'} inv up empty = record {
    size = inv.size;
    at = inv.at;
    equal = λ p j a h. inv.equal p j a (down h);
    hit = λ p j a h. inv.hit p j a (down h);
    back = λ x b. let (p, j, a, h, z) = inv.back x b in (p, j, a, record { few = h.few; below = omega (arith, h.below); area = h.area; other = h.other }, z);
    once = λ p j q i a b h g. inv.once p j q i a b (down h) (down g);
  }
    where
      down : {p j : ℕ} {a : Area} → There k n' p j a → There k n p j a
      down {p} {j} {a} h = record { few = h.few; below = empty p j a h; area = h.area; other = h.other }

  -- area j of p is not there, or one of the root's two
  pub mark_skip : {p j : ℕ} {m : List ℕ} → MarkedTo k (5 * p + j) m → j < 5 → ((a : Area) → k.area p j ≡ some a → (Rooted p j → ⊥) → ⊥) → MarkedTo k (5 * p + (j + 1)) m
  mark_skip {p} {j} inv few none-there = mark_more inv (omega arith) (λ q i a h. go q i a h (ℕ_discrete (5 * q + i) (5 * p + j)))
    where
      go : (q i : ℕ) (a : Area) → There k (5 * p + (j + 1)) q i a → Dec (5 * q + i ≡ 5 * p + j) → 5 * q + i < 5 * p + j
      go q i a h (yes z) = let (s, t) = number_one h.few few z in absurd (none-there a (rw (s, t) at h.area) (λ r. h.other (rw (s, t) r)))
      go q i a h (no z) = omega (arith, h.below)

  -- from p on, up to q, there is no area
  pub mark_absent : {p q : ℕ} {m : List ℕ} → MarkedTo k (5 * p) m → p ≤ q → ((r j : ℕ) → p ≤ r → r < q → j < 5 → k.area r j ≡ none) → MarkedTo k (5 * q) m
  mark_absent {p} {q} inv up empty = mark_more inv (omega arith) (λ r j a h. go r j a h (dec_lt r p))
    where
      go : (r j : ℕ) (a : Area) → There k (5 * q) r j a → Dec (r < p) → 5 * r + j < 5 * p
      go r j a h (yes z) = omega (arith, h.few)
      go r j a h (no z) = not_none (k.area r j) (empty r j (omega arith) (omega (arith, h.below)) h.few) h.area

  -- area n is there, and equals the entry in slot x
  module _ {n p j : ℕ} {a : Area} {m : List ℕ} (inv : MarkedTo k n m) (is : 5 * p + j ≡ n) (h : There k (n + 1) p j a) {x : ℕ} (e : EqualAt k p j a x) where
    -- .. which nobody has marked
    pub mark_on : {m' : List ℕ} → slot_marked m x ≡ false → length m' ≡ 16 → slot_marked m' x ≡ true → ((y : ℕ) → (y ≡ x → ⊥) → slot_marked m' y ≡ slot_marked m y) → MarkedTo k (n + 1) m'
    mark_on {m'} unmarked size put kept = record {
      size = size;
      at = at;
      equal = λ q i b g. equal q i b g (ℕ_discrete (5 * q + i) n);
      hit = λ q i b g. hit q i b g (ℕ_discrete (5 * q + i) n);
      back = λ y c. back y c (ℕ_discrete y x);
      once = λ q i r o b c g f. once q i r o b c g f (ℕ_discrete (5 * q + i) n) (ℕ_discrete (5 * r + o) n);
    }
      where
        choose : (y : ℕ) → Dec (y ≡ n) → ℕ
        choose y (yes z) = x
        choose y (no z) = inv.at y

        at : ℕ → ℕ
        at y = choose y (ℕ_discrete y n)

        at_here : (y : ℕ) → y ≡ n → at y ≡ x
        at_here y z = go (ℕ_discrete y n)
          where
            go : (d : Dec (y ≡ n)) → choose y d ≡ x
            go (yes _) = refl
            go (no c) = absurd (c z)

        at_other : (y : ℕ) → (y ≡ n → ⊥) → at y ≡ inv.at y
        at_other y c = go (ℕ_discrete y n)
          where
            go : (d : Dec (y ≡ n)) → choose y d ≡ inv.at y
            go (yes z) = absurd (c z)
            go (no _) = refl

        down : {q i : ℕ} {b : Area} → There k (n + 1) q i b → (5 * q + i ≡ n → ⊥) → There k n q i b
        down g c = record { few = g.few; below = omega (arith, g.below); area = g.area; other = g.other }

        equal : (q i : ℕ) (b : Area) → There k (n + 1) q i b → Dec (5 * q + i ≡ n) → EqualAt k q i b (at (5 * q + i))
        equal q i b g (yes z) =
            let (s, t) = number_one g.few h.few (z ∙ sym is) in
            let v : a ≡ b = some_inj (sym h.area ∙ rw (← s, ← t) g.area) in
            rw (at_here (5 * q + i) z, s, t, ← v) e
        equal q i b g (no z) = rw (at_other (5 * q + i) z) (inv.equal q i b (down g z))

        hit : (q i : ℕ) (b : Area) → There k (n + 1) q i b → Dec (5 * q + i ≡ n) → slot_marked m' (at (5 * q + i)) ≡ true
        hit q i b g (yes z) = ap (slot_marked m') (at_here (5 * q + i) z) ∙ put
        hit q i b g (no z) = ap (slot_marked m') (at_other (5 * q + i) z) ∙ go (ℕ_discrete (inv.at (5 * q + i)) x)
          where
            go : Dec (inv.at (5 * q + i) ≡ x) → slot_marked m' (inv.at (5 * q + i)) ≡ true
            go (yes c) = ap (slot_marked m') c ∙ put
            go (no c) = kept _ c ∙ inv.hit q i b (down g z)

        back : (y : ℕ) → slot_marked m' y ≡ true → Dec (y ≡ x) → (q i : ℕ) × (b : Area) × There k (n + 1) q i b × (at (5 * q + i) ≡ y)
        back y c (yes z) = (p, j, a, h, at_here (5 * p + j) is ∙ sym z)
        back y c (no z) =
            let (q, i, b, g, w) = inv.back y (sym (kept y z) ∙ c) in
            (q, i, b, record { few = g.few; below = omega (arith, g.below); area = g.area; other = g.other }, at_other (5 * q + i) (λ v. omega (arith, g.below)) ∙ w)

        -- nobody before had slot x
        fresh : (q i : ℕ) (b : Area) → There k n q i b → inv.at (5 * q + i) ≡ x → ⊥
        fresh q i b g z = false≢true (sym unmarked ∙ ap (slot_marked m) (sym z) ∙ inv.hit q i b g)

        once : (q i r o : ℕ) (b c : Area) → There k (n + 1) q i b → There k (n + 1) r o c → Dec (5 * q + i ≡ n) → Dec (5 * r + o ≡ n) → at (5 * q + i) ≡ at (5 * r + o) → 5 * q + i ≡ 5 * r + o
        once q i r o b c g f (yes z) (yes y) w = z ∙ sym y
        once q i r o b c g f (yes z) (no y) w = absurd (fresh r o c (down f y) (sym (at_other _ y) ∙ sym w ∙ at_here _ z))
        once q i r o b c g f (no z) (yes y) w = absurd (fresh q i b (down g z) (sym (at_other _ z) ∙ w ∙ at_here _ y))
        once q i r o b c g f (no z) (no y) w = inv.once q i r o b c (down g z) (down f y) (sym (at_other _ z) ∙ w ∙ at_other _ y)

    -- .. which another has marked: both have the entry's first line
    pub mark_twice : ((q i : ℕ) (f : Entry) → k.slot q i ≡ some f → f.start < f.stop) → slot_marked m x ≡ true
        → (s8 : (q i r o : ℕ) (b c : Area) (l : ℕ) → k.area q i ≡ some b → k.area r o ≡ some c → InA l b → InA l c → (q ≡ r) × (i ≡ o)) → ⊥
    mark_twice lines taken apart =
        let (q, i, b, g, z) = inv.back x taken in
        let d = inv.equal q i b g in
        let s : d.backed.q ≡ e.backed.q = omega (arith, d.place, e.place, d.few, e.few) in
        let t : d.backed.i ≡ e.backed.i = omega (arith, d.place, e.place, d.few, e.few) in
        let w = same_at (k.slot e.backed.q e.backed.i) (rw (s, t) at d.backed.at) e.backed.at in
        let r = lines _ _ _ e.backed.at in
        let (u, v) = apart q i p j b a e.backed.e.start g.area h.area
        (omega (arith, d.backed.lo, d.backed.hi, w.start, w.stop)) (omega (arith, e.backed.lo, e.backed.hi)) in
        omega (arith, g.below)

  -- ── all have marked ──
  pub all_marked : {m : List ℕ} → ((p j : ℕ) (a : Area) → k.area p j ≡ some a → (p < 16) × (j < 5)) → MarkedTo k 80 m → MarkedOnce k (slot_marked m)
  all_marked {m} range inv = record {
    at = λ p j. inv.at (5 * p + j);
    equal = λ p j a u n. inv.equal p j a (there p j a u n);
    hit = λ p j a u n. inv.hit p j a (there p j a u n);
    back = λ x w. let (p, j, a, h, z) = inv.back x w in (p, j, a, h.area, h.other, z);
    once = λ p j q i a b u n v o z.
        let h = there p j a u n in
        let g = there q i b v o in
        number_one h.few g.few (inv.once p j q i a b h g z);
  }
    where
      there : (p j : ℕ) (a : Area) → k.area p j ≡ some a → (Rooted p j → ⊥) → There k 80 p j a
      there p j a u n = let (b, c) = range p j a u in record { few = c; below = omega arith; area = u; other = n }

-- no slot is marked
pub zeros : (n x : ℕ) → ◌≡◌ {A = ℕ} (get_or (replicate n 0) x 0) 0
zeros zero x = refl
zeros (suc n) zero = refl
zeros (suc n) (suc x) = zeros n x

pub no_marks : {k : K} → MarkedTo k 0 (replicate 16 0)
unfolding slot_marked
no_marks = mark_start (length-replicate {A = ℕ} 16 0) (λ x. rw (zeros 16 (x / 32)) (names_none (x % 32)))

-- ── the mask of q with slot i ──
mark_at : (m : List ℕ) (q i : ℕ) → i < 32 → slot_marked m (32 * q + i) ≡ names (get_or m q 0) i
unfolding slot_marked
mark_at m q i c =
    let a : (32 * q + i) / 32 ≡ q = omega arith in
    let b : (32 * q + i) % 32 ≡ i = omega arith in
    rw (a, b) refl

-- .. as the code tells it
pub mark_tells : (m : List ℕ) (q i : ℕ) {r x : Bool} → i < 32 → r ≡ names (get_or m q 0) i → r ≡ x → slot_marked m (32 * q + i) ≡ x
mark_tells m q i c e z = mark_at m q i c ∙ sym e ∙ z

module _ (m : List ℕ) (q i : ℕ) (few : i < 32) where
  abbrev with_mark : List ℕ
  with_mark = set m q (bit_or (get_or m q 0) (2 ^ i))

  mark_put : q < length m → slot_marked with_mark (32 * q + i) ≡ true
  mark_put b = mark_at with_mark q i few ∙ rw (get_or-set_same m q (bit_or (get_or m q 0) (2 ^ i)) 0 b) (names_or (get_or m q 0) (2 ^ i) i ∙ rw (names_one i i, eq-eqb i i refl) (or-true (names (get_or m q 0) i)))

  mark_kept : q < length m → (y : ℕ) → (y ≡ 32 * q + i → ⊥) → slot_marked with_mark y ≡ slot_marked m y
  unfolding slot_marked
  mark_kept b y n = go (ℕ_discrete (y / 32) q)
    where
      go : Dec (y / 32 ≡ q) → slot_marked with_mark y ≡ slot_marked m y
      go (yes z) = rw (z, get_or-set_same m q (bit_or (get_or m q 0) (2 ^ i)) 0 b) (names_or (get_or m q 0) (2 ^ i) (y % 32) ∙ rw (names_one i (y % 32), ne_eqb (y % 32) i (λ w. n (omega arith))) (or-false (names (get_or m q 0) (y % 32))))
      go (no z) = rw (get_or-set_other m q (y / 32) (bit_or (get_or m q 0) (2 ^ i)) 0 z) refl

-- ── what a step says ──
pub all_on : {k : K} {n : ℕ} {m : List ℕ} → MarkedTo k n m → MarkSays k n true m
all_on h = record { on = λ _. h; off = λ q. absurd (false≢true (sym q)) }

-- where one fails, no more is looked at
pub says_fails : {k : K} {n n' : ℕ} {r : Bool} {m : List ℕ} → MarkSays k n r m → not r ≡ true → MarkSays k n' false m
says_fails {r = r} h q = record { on = λ z. absurd (false≢true z); off = λ _. h.off (not-true r q) }

-- the answers differ
is_nobody : Mark → Bool
is_nobody Nobody = true
is_nobody Now = false
is_nobody Before = false

pub now_is : Nobody ≡ Now → ⊥
unfolding is_nobody
now_is e = false≢true (sym (ap is_nobody e))

pub before_is : Nobody ≡ Before → ⊥
unfolding is_nobody
before_is e = false≢true (sym (ap is_nobody e))

-- nothing was marked where no entry is equal
pub marks_none : {k : K} {q : ℕ} {r : Mark} {a : Area} {m m' : List ℕ} → Marks k q a m r m' → r ≡ Nobody → (m' ≡ m) × (Equals k q a → ⊥)
marks_none (nobody _ e no_entry) z = (e, no_entry)
marks_none (marked i c w y free e) z = absurd (now_is (sym z ∙ y))
marks_none (before i c w y taken e) z = absurd (before_is (sym z ∙ y))

-- .. the other is asked
pub then_other : {k : K} {one other : ℕ} {n x : Mark} {a : Area} {m m₁ m' : List ℕ} → Marks k one a m n m₁ → n ≡ Nobody → Marks k other a m₁ x m' → MarksEither k one other a m (is_now x) m'
then_other {x = x} t z s = let (e, no_entry) = marks_none t z in in_other x refl no_entry (rw (← e) s)

-- ── as the code searches ──
module _ (l : List ℕ) (shaped : Shaped l) where
  abbrev k : K
  k = (view l).k

  lines : (q i : ℕ) (f : Entry) → k.slot q i ≡ some f → f.start < f.stop
  lines q i f u = let b = (slot_bounds l q i f u).0 in record_solid l q b (shaped_record shaped q b) i f u

  equal_at : {p j q i : ℕ} {a : Area} → i < 32 → backs a (k.slot q i) ≡ true → (q ≡ k.parent p) ⊎ ((q ≡ p) × (0 < j)) → EqualAt k p j a (32 * q + i)
  equal_at {p} {j} {q} {i} {a} few w who =
      let (e, u, g, lo, hi) = backs_says k q i a w in
      record { backed = record { q = q; who = who; i = i; e = e; at = u; free = g; lo = lo; hi = hi }; few = few; place = refl }

  -- the search of q
  module _ (q : ℕ) (a : Area) {r : Option Slot} (is : r ≡ equal_slot k q a) where
    pub search_none : r ≡ None → Equals k q a → ⊥
    unfolding backs has
    search_none missed e = go (seek_law (λ i. backs a (k.slot q i)) found_slot None 32)
      where
        go : Sought (λ i. backs a (k.slot q i)) found_slot None 32 (equal_slot k q a) → ⊥
        go (inl (n, f)) = none-some _ (sym missed ∙ is ∙ f.is)
        go (inr f) = false≢true (sym (f.none e.i (slot_bounds l q e.i e.e e.at).1) ∙ rw e.at (and_true _ _ (and_true _ _ (eq-eqb _ 0 e.free) (eq-eqb _ _ e.lo)) (eq-eqb _ _ e.hi)))

    pub search_some : {i : Slot} → r ≡ Some i → (i.0 < 32) × (backs a (k.slot q i.0) ≡ true)
    search_some {i} here = go (seek_law (λ i. backs a (k.slot q i)) found_slot None 32)
      where
        go : Sought (λ i. backs a (k.slot q i)) found_slot None 32 (equal_slot k q a) → (i.0 < 32) × (backs a (k.slot q i.0) ≡ true)
        go (inl (n, f)) = let z : i.0 ≡ n = ap (λ (i : Slot). i.0) (same_Some _ _ (sym here ∙ is ∙ f.is)) in rw z (f.below, f.holds)
        go (inr f) = absurd (none-some _ (sym (f.is) ∙ sym is ∙ here))

  -- ── the exits of the code, for area j of p ──
  module _ (p j : ℕ) {m : List ℕ} (few : j < 5) (inv : MarkedTo k (5 * p + j) m) where
    pub says_rooted : rooted p j ≡ true → MarkSays k (5 * p + (j + 1)) true m
    says_rooted q = all_on (mark_skip inv few (λ a u n. n ((rooted_means p j).0 q)))

    pub says_absent : k.area p j ≡ none → MarkSays k (5 * p + (j + 1)) true m
    says_absent q = all_on (mark_skip inv few (λ a u n. not_none (k.area p j) q u))

    module _ (in_p : p < 16) {a : Area} (u : k.area p j ≡ some a) (n : Rooted p j → ⊥) where
      there : There k (5 * p + j + 1) p j a
      there = record { few = few; below = omega arith; area = u; other = n }

      next : {m' : List ℕ} → MarkedTo k (5 * p + j + 1) m' → MarkedTo k (5 * p + (j + 1)) m'
      next {m'} h = let z : 5 * p + j + 1 ≡ 5 * p + (j + 1) = omega arith in subst (λ (x : ℕ). MarkedTo k x m') z h

      pub says_found : {q : ℕ} {r : Mark} {m' : List ℕ} → q < 16 → (q ≡ k.parent p) ⊎ ((q ≡ p) × (0 < j)) → Marks k q a m r m' → (r ≡ Nobody → ⊥) → MarkSays k (5 * p + (j + 1)) (is_now r) m'
      says_found b who (nobody z _ _) found = absurd (found z)
      says_found {q} b who (marked i c w z free e) found =
          let room : q < length m = omega (arith, inv.size) in
          rw (z, e) (all_on (next (mark_on inv refl there (equal_at c w who) free (length-set m q (bit_or (get_or m q 0) (2 ^ i)) ∙ inv.size) (mark_put m q i c room) (mark_kept m q i c room))))
      says_found b who (before i c w z taken e) found = rw z (record {
        on = λ q. absurd (false≢true q);
        off = λ _ s8. mark_twice inv refl there (equal_at c w who) lines taken (apart_both l s8);
      })

      pub says_none : {r : Mark} {m' : List ℕ} → r ≡ Nobody → (EachS8 k → ⊥) → MarkSays k (5 * p + (j + 1)) (is_now r) m'
      says_none z never = rw z (record { on = λ q. absurd (false≢true q); off = λ _. never })

      -- where S8 asks for an entry of q
      pub says_marks : {q : ℕ} {r : Mark} {m' : List ℕ} → q < 16 → (q ≡ k.parent p) ⊎ ((q ≡ p) × (0 < j)) → Marks k q a m r m' → (EachS8 k → Equals k q a) → MarkSays k (5 * p + (j + 1)) (is_now r) m'
      says_marks b who (nobody z e none_equal) has_one = says_none z (λ s8. none_equal (has_one s8))
      says_marks b who (marked i c w z free e) has_one = says_found b who (marked i c w z free e) (λ y. now_is (sym y ∙ z))
      says_marks b who (before i c w z taken e) has_one = says_found b who (before i c w z taken e) (λ y. before_is (sym y ∙ z))

  -- ── the header's area ──
  module _ {p : ℕ} {m : List ℕ} (in_p : p < 16) (inv : MarkedTo k (5 * p + 0) m) {f : HeaderFields} (v : SeenHeader l p f) where
    pub header_absent : f.present ≡ false → MarkSays k (5 * p + 1) true m
    unfolding header_area
    header_absent q = says_absent p 0 (omega arith) inv (v.area ∙ rw q refl)

    pub header_marks : {r : Mark} {m' : List ℕ} → rooted p 0 ≡ false → f.present ≡ true → Marks k f.parent.0 (area_between f.start.0 f.end.0) m r m' → MarkSays k (5 * p + 1) (is_now r) m'
    unfolding header_area
    header_marks q here t =
        let u : k.area p 0 ≡ some (area_between f.start.0 f.end.0) = v.area ∙ rw here refl in
        let n : Rooted p 0 → ⊥ = λ z. false≢true (sym q ∙ (rooted_means p 0).1 z) in
        says_marks p 0 (omega arith) inv in_p u n v.parent_small (inl (sym v.parent)) t (λ s8. rw v.parent at ((s8 p in_p).header (λ z. n (z, omega arith)) _ u))

  -- ── a structure's ──
  module _ {p j : ℕ} {m : List ℕ} (in_p : p < 16) (from : 0 < j) (few : j < 5) (inv : MarkedTo k (5 * p + j) m) {f : StructureFields} (v : SeenStructure l p (j - 1) f) where
    is : k.area p j ≡ structure_area f
    is = let z : j ≡ 1 + (j - 1) = omega arith in ap (k.area p) z ∙ v.area

    pub structure_absent : f.present ≡ false → MarkSays k (5 * p + (j + 1)) true m
    unfolding structure_area
    structure_absent q = says_absent p j few inv (is ∙ rw q refl)

    -- its own is asked, or the parent's, whichever first
    module _ (n : Rooted p j → ⊥) (here : f.present ≡ true) {g : HeaderFields} (w : SeenHeader l p g) where
      area : k.area p j ≡ some (area_between f.start.0 f.end.0)
      unfolding structure_area
      area = is ∙ rw here refl

      either : EachS8 k → Equals k p (area_between f.start.0 f.end.0) ⊎ Equals k g.parent.0 (area_between f.start.0 f.end.0)
      either s8 =
          let y : 1 + (j - 1) ≡ j = omega arith in
          rw (← w.parent) ((s8 p in_p).structure (j - 1) _ (rw y area) (λ b. n (rw (← y) b)))

      -- whichever of the two is asked first
      asked : {one other : ℕ} {r : Bool} {m' : List ℕ} → one < 16 → other < 16 → (one ≡ k.parent p) ⊎ ((one ≡ p) × (0 < j)) → (other ≡ k.parent p) ⊎ ((other ≡ p) × (0 < j))
          → (EachS8 k → Equals k one (area_between f.start.0 f.end.0) ⊎ Equals k other (area_between f.start.0 f.end.0))
          → MarksEither k one other (area_between f.start.0 f.end.0) m r m' → MarkSays k (5 * p + (j + 1)) r m'
      asked b c who-one who-other has_one (in_one x e found t) = rw e (says_found p j few inv in_p area n b who-one t found)
      asked b c who-one who-other has_one (in_other x e no_entry t) =
          rw e (says_marks p j few inv in_p area n c who-other t (λ s8. ⊎_elim (λ o. absurd (no_entry o)) (λ o. o) (has_one s8)))

      pub own_first : {r : Bool} {m' : List ℕ} → MarksEither k p g.parent.0 (area_between f.start.0 f.end.0) m r m' → MarkSays k (5 * p + (j + 1)) r m'
      own_first = asked in_p w.parent_small (inr (refl, from)) (inl (sym w.parent)) either

      pub parent_first : {r : Bool} {m' : List ℕ} → MarksEither k g.parent.0 p (area_between f.start.0 f.end.0) m r m' → MarkSays k (5 * p + (j + 1)) r m'
      parent_first = asked w.parent_small in_p (inl (sym w.parent)) (inr (refl, from)) (λ s8. ⊎_elim inr inl (either s8))

-- ── one partition after the other ──
module _ {l : List ℕ} (shaped : Shaped l) where
  -- who is absent has no area
  no_areas : (p j : ℕ) → present (view l).k p ≡ false → (view l).k.area p j ≡ none
  no_areas p j q = no_area l p j (λ b. zero_areas l p ((zero_record_means l p).0 (absent_zero l p b (shaped_s2 shaped p b) q).1) j)

  pub can_mark : {p : ℕ} {m : List ℕ} → p < 16 → MarkedTo (view l).k (5 * p) m → CanMark l p 0 m
  can_mark {p} {m} b inv = let z : 5 * p ≡ 5 * p + 0 = omega arith in record { in_p = b; shaped = shaped; marked = subst (λ (n : ℕ). MarkedTo (view l).k n m) z inv }

  -- p is absent, or its five areas have marked
  pub absent_marks : (p : ℕ) {m : List ℕ} → MarkedTo (view l).k (5 * p + 0) m → present (view l).k p ≡ false → MarkSays (view l).k (5 * (p + 1)) true m
  absent_marks p {m} inv q =
      let z : 5 * p + 0 ≡ 5 * p = omega arith in
      all_on (mark_absent (subst (λ (n : ℕ). MarkedTo (view l).k n m) z inv) (omega arith) (λ r j a b _. let e : r ≡ p = omega arith in rw e (no_areas p j q)))

  pub five_marks : (p : ℕ) {j : ℕ} {m : List ℕ} → 5 ≤ j → j ≤ 5 → MarkedTo (view l).k (5 * p + j) m → MarkSays (view l).k (5 * (p + 1)) true m
  five_marks p {j} {m} a b inv = let z : 5 * p + j ≡ 5 * (p + 1) = omega arith in all_on (subst (λ (n : ℕ). MarkedTo (view l).k n m) z inv)

  -- .. and so have all, since none is from the top on
  pub top_marks : {p top : ℕ} {m : List ℕ} → Top l top → top ≤ p → p ≤ 16 → MarkedTo (view l).k (5 * p) m → MarkSays (view l).k 80 true m
  top_marks h a b inv = all_on (mark_absent inv b (λ r j c _ _. top_area h r (omega arith) j))
