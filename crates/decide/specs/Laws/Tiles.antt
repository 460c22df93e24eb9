-- The walk along a partition's entries and its parent's grants decides S7's cover and S11: where they hold it is nowhere stuck, where it ends they hold.
use Rattle.std.specs.Prelude.{◌≡◌, Bool, false, cond, not, ◌&&◌, ◌||◌, List, ◌↔◌, ℕ, ◌+◌, ◌-◌, ◌*◌, ◌≤◌, ◌<◌, get_or, eqb}
use Rattle.std.proofs.Math.Path.{refl, ap, subst}
use Rattle.std.proofs.Common.{sym, ◌∙◌, eq-eqb, ne_eqb}
use Rattle.std.proofs.Math.Bool.{true}
use Rattle.std.specs.Bool.{beq}
use Rattle.std.proofs.lemmas.Bool.{false≢true}
use Rattle.std.proofs.Math.Decide.{ℕ_discrete, dec_lt}
use native.Mathlib.Omega.{arith}
use Rattle.std.specs.Int.Bits.{bit_and}
use Rattle.loops.specs.Loops.{all, bit_of}
use Rattle.loops.specs.Laws.Every.{bool_ext}
use Rattle.words.specs.declared.Rights.{Rights}
use Rattle.words.specs.declared.slot_word.SlotFields.{SlotFields}
use Rattle.tables.specs.State.{Opt, none, some, Entry, Same, entry, all_rights}
use Rattle.tables.specs.Laws.State.{some_inj, not_none, same}
use Rattle.tables.specs.View.{entry_of, entry_in, view}
use Rattle.tables.specs.Laws.View.{slot_bounds}
use Rattle.tables.specs.Lines.{In}
use Rattle.settling.specs.Rising.{low_of, high_of}
use Rattle.tables.specs.Search.{present}
use Rattle.tables.specs.Seen.{Seen}
use Rattle.sound.specs.Sound.{Around}
use Rattle.sound.specs.Clauses.{s7_root, s7_inside, s7_cover, within, s11}
use Rattle.sound.specs.Laws.Tests.{and_says, and_true, never}
use Rattle.sound.proofs.Laws.MeansEntries.{present_means, slots32, root_means, inside_means, cover_means}
use Rattle.sound.proofs.Laws.MeansRegions.{beq_means, within_means, same_rights_means, s11_means}
use Rattle.sound.proofs.Laws.MeansWords.{s2_means}
use Rattle.decide.specs.Entries.{exactly}
use Rattle.decide.specs.Local.{grants_open}
use Rattle.decide.specs.Laws.Local.{grants_open_means}
use Rattle.shape.specs.AtOnce.{Shaped}
use Rattle.shape.specs.Laws.AtOnce.{shaped_s2, shaped_record}
use Rattle.ordering.specs.Laws.Present.{record_solid}
use Rattle.ordering.specs.Order.{lines_of, placed, Orders}
use Rattle.ordering.specs.Laws.Order.{held_of, lines_of_law}
use Rattle.decide.specs.Tiles.{TilePiece, Tiling, GoesOn, rights_number, follows, Tiled, fitted, stuck, AllSet, TiledAs, alike, unlike, entry_or, entry_at, row_of, opened_bit, Filled, plain_row, InOrder, ChildOf}
use Rattle.decide.specs.Walk.{Exact, Bits, WalkedRows}

-- ── two rows: n entries E, and m entries F, some of them given to p ──
-- each of E has a line; in both, each ends by the start of those after it
pub record TwoRows (E : ℕ → Entry) (n : ℕ) (F : ℕ → Entry) (m : ℕ) : Type 0 where
  pub line : (a : ℕ) → a < n → (E a).start < (E a).stop
  pub ends : (a b : ℕ) → a < b → b < n → (E a).stop ≤ (E b).start
  pub grants : (a b : ℕ) → a < b → b < m → (F a).stop ≤ (F b).start

-- each of E lies inside one of F that is given to p, and they cover those
pub record Lies (E : ℕ → Entry) (n : ℕ) (F : ℕ → Entry) (m p : ℕ) : Type 0 where
  pub inside : (a : ℕ) → a < n → (b : ℕ) × (b < m) × ((F b).given ≡ p) × Around (E a) (F b)
  pub cover : (b : ℕ) → b < m → (F b).given ≡ p → (l : ℕ) → In l (F b) → (a : ℕ) × (a < n) × In l (E a)

-- ── one range lo to hi with rights r ──
-- two results are equal, in a row where each has a line and ends by the start of those after it
module _ {E : ℕ → Entry} {n i lo hi : ℕ} {r : Rights} (line : (a : ℕ) → a < n → (E a).start < (E a).stop) (ends : (a b : ℕ) → a < b → b < n → (E a).stop ≤ (E b).start) where
  -- one place more would be in the range, which those before it cover
  no_further : {x y at at' : ℕ} → y ≤ n → hi ≤ at → Tiling E i x lo hi at r → Tiling E i y lo hi at' r → x < y → ⊥
  no_further {x} few far t u h =
      let e = u.piece x t.up h in
      let (a, _, b, v) = t.cover (E x).start e.from (omega (arith, line x (omega arith), e.to)) in
      omega (arith, v.to, ends a x b (omega arith))

  -- where they tile the range, the walk is not stuck
  no_stop : {x k at at' : ℕ} → x ≤ n → hi ≤ at → Tiling E i x lo hi at r → at' < hi → Tiling E i k lo hi at' r → GoesOn E n i k hi at' r
  no_stop {x} {k} {at} {at'} few far t c u =
      let (a, from, b, v) = t.cover at' u.on (omega arith) in
      go a b v (reached a from v (dec_lt a k))
    where
      reached : (a : ℕ) → i ≤ a → In at' (E a) → Dec (a < k) → k ≤ a
      reached a from v (yes h) = absurd (omega (arith, v.to, (u.piece a from h).before))
      reached a from v (no h) = omega arith

      starts : (a : ℕ) → k ≤ a → a < n → In at' (E a) → Dec (k ≡ a) → (E k).start ≤ at'
      starts a h b v (yes z) = rw z v.from
      starts a h b v (no z) = omega (arith, v.from, line k (omega arith), ends k a (omega arith) b)

      at_least : k < n → lo ≤ (E k).start → Dec ((E k).start < at') → at' ≤ (E k).start
      at_least b from (yes h) = let (a, _, d, v) = u.cover (E k).start from h in absurd (omega (arith, v.to, ends a k d b))
      at_least b from (no h) = omega arith

      go : (a : ℕ) → a < x → In at' (E a) → k ≤ a → GoesOn E n i k hi at' r
      go a b v h =
          let e = t.piece k u.up (omega arith) in
          let low = starts a h (omega arith) v (ℕ_discrete k a) in
          let high = at_least (omega arith) e.from (dec_lt (E k).start at') in
          record { there = omega arith; start = omega arith; to = e.to; rights = e.rights; equal = t.equal k u.up (omega arith) }

  row_one : {x y : ℕ} → Tiled E n i lo hi r x → Tiled E n i lo hi r y → x ≡ y
  row_one (fitted at few far t) (fitted at' few' far' u) = omega (arith, no_further few' far t u, no_further few far' u t)
  row_one (fitted at few far t) (stuck k at' _ z c u no_fit) = absurd (no_fit (no_stop few far t c u))
  row_one (stuck k at _ z c t no_fit) (fitted at' few' far' u) = absurd (no_fit (no_stop few' far' u c t))
  row_one (stuck k at _ z c t no_fit) (stuck k' at' _ z' c' u no-fit') = z ∙ sym z'

  -- .. with the flags
  module _ {O : ℕ → Bool} {o : Bool} where
    mixed_one : {x y k at : ℕ} → y ≡ 33 → k ≤ n → hi ≤ at → Tiling E i k lo hi at r → ((o ≡ true) ↔ AllSet O i k → ⊥) → Tiled E n i lo hi r x → (x ≤ n → (o ≡ true) ↔ AllSet O i x) → x ≡ y
    mixed_one z few far u differs (stuck k' at' _ w c t no_fit) _ = w ∙ sym z
    mixed_one {at = at} z few far u differs (fitted at' few' far' t) flags =
        absurd (differs (subst (λ (x : ℕ). (o ≡ true) ↔ AllSet O i x) (row_one (fitted at' few' far' t) (fitted at few far u)) (flags few')))

    as_one : {x y : ℕ} → TiledAs E O n i lo hi r o x → TiledAs E O n i lo hi r o y → x ≡ y
    as_one (alike t _) (alike u _) = row_one t u
    as_one (alike t f) (unlike k at _ z few far u differs) = mixed_one z few far u differs t f
    as_one (unlike k at _ z few far u differs) (alike t f) = sym (mixed_one z few far u differs t f)
    as_one (unlike _ _ _ z _ _ _ _) (unlike _ _ _ w _ _ _ _) = z ∙ sym w

-- ── what the rights of the next entry are compared with ──
-- s: the range's before the first, those of the first after it
pub record ComparedWith (E : ℕ → Entry) (i k : ℕ) (r s : Rights) : Type 0 where
  pub before : k ≡ i → s ≡ r
  pub after : i < k → s ≡ (E i).rights

pub compare_start : {E : ℕ → Entry} {i : ℕ} {r : Rights} → ComparedWith E i i r r
compare_start = record { before = λ _. refl; after = λ h. absurd (omega arith) }

-- after an entry the next is not the first: the flag that the walk carries
pub not_first : {E : ℕ → Entry} {i k lo hi at : ℕ} {r : Rights} → Tiling E i k lo hi at r → false ≡ eqb (k + 1) i
not_first {i = i} {k} t = sym (ne_eqb (k + 1) i (λ z. omega (arith, t.up)))

-- ── rights as numbers: a bit of a that b lacks is not in both ──
either : (Bool → Bool) → Bool
either f = f true && f false

either_says : (f : Bool → Bool) → either f ≡ true → (x : Bool) → f x ≡ true
unfolding either
either_says f q true = (and_says (f true) (f false) q).0
either_says f q false = (and_says (f true) (f false) q).1

numbered : Bool → Bool → Bool → ℕ
numbered r w x = 4 * bit_of r + 2 * bit_of w + bit_of x

agrees : Bool → Bool → Bool → Bool → Bool → Bool → Bool
agrees r w x s v y = beq (eqb (bit_and (numbered r w x) (numbered s v y)) (numbered r w x)) ((not r || s) && (not w || v) && (not x || y))

agree : (r w x s v y : Bool) → agrees r w x s v y ≡ true
unfolding either agrees numbered
agree r w x s v y =
    let a = either_says (λ r. either (λ w. either (λ x. either (λ s. either (λ v. either (λ y. agrees r w x s v y)))))) refl r in
    let b = either_says (λ w. either (λ x. either (λ s. either (λ v. either (λ y. agrees r w x s v y))))) a w in
    let c = either_says (λ x. either (λ s. either (λ v. either (λ y. agrees r w x s v y)))) b x in
    let d = either_says (λ s. either (λ v. either (λ y. agrees r w x s v y))) c s in
    let e = either_says (λ v. either (λ y. agrees r w x s v y)) d v in
    either_says (λ y. agrees r w x s v y) e y

pub number_within : (a b : Rights) → eqb (bit_and (rights_number a) (rights_number b)) (rights_number a) ≡ within a b
unfolding rights_number within agrees numbered
number_within a b = (beq_means _ _).0 (agree a.read a.write a.execute b.read b.write b.execute)

module _ (k i : ℕ) (a b : Rights) where
  first_follows : within a b ≡ true → k ≡ i → follows (eqb k i) a b ≡ true
  unfolding follows
  first_follows q z = rw (eq-eqb k i z) q

  later_follows : a ≡ b → (k ≡ i → ⊥) → follows (eqb k i) a b ≡ true
  unfolding follows
  later_follows q z = rw (ne_eqb k i z) ((same_rights_means a b).1 q)

  follows_first : follows (eqb k i) a b ≡ true → k ≡ i → within a b ≡ true
  unfolding follows
  follows_first q z = rw (eq-eqb k i z) at q

  follows_later : follows (eqb k i) a b ≡ true → (k ≡ i → ⊥) → a ≡ b
  unfolding follows
  follows_later q z = (same_rights_means a b).0 (rw (ne_eqb k i z) at q)

-- ── laws of the walk along one range ──
module _ {E : ℕ → Entry} {i lo hi : ℕ} {r : Rights} where
  pub tile_start : Tiling E i i lo hi lo r
  tile_start = record {
    up = omega arith;
    on = omega arith;
    piece = λ a b c. absurd (omega arith);
    cover = λ l b c. absurd (omega arith);
    equal = λ a b c. absurd (omega arith);
  }

  pub tile_on : {n k at : ℕ} → Tiling E i k lo hi at r → (E k).start < (E k).stop → GoesOn E n i k hi at r → Tiling E i (k + 1) lo hi (E k).stop r
  tile_on {n} {k} {at} inv line f = record {
    up = omega (arith, inv.up);
    on = omega (arith, inv.on, f.start);
    piece = λ a b c. piece a b c (ℕ_discrete a k);
    cover = λ l b c. cover l b c (dec_lt l at);
    equal = λ a b c. equal a b c (ℕ_discrete a k);
  }
    where
      equal : (a : ℕ) → i ≤ a → a < k + 1 → Dec (a ≡ k) → (E a).rights ≡ (E i).rights
      equal a b c (yes z) = rw z f.equal
      equal a b c (no z) = inv.equal a b (omega arith)

      piece : (a : ℕ) → i ≤ a → a < k + 1 → Dec (a ≡ k) → TilePiece (E a) lo hi (E k).stop r
      piece a b c (yes z) = rw z (record { from = omega (arith, inv.on, f.start); to = f.to; before = omega arith; rights = f.rights })
      piece a b c (no z) = let e = inv.piece a b (omega arith) in record { from = e.from; to = e.to; before = omega (arith, e.before, f.start); rights = e.rights }

      cover : (l : ℕ) → lo ≤ l → l < (E k).stop → Dec (l < at) → (a : ℕ) × (i ≤ a) × (a < k + 1) × In l (E a)
      cover l b c (yes d) = let (a, g, h, u) = inv.cover l b d in (a, g, omega arith, u)
      cover l b c (no d) = (k, inv.up, omega arith, record { from = omega (arith, f.start); to = c })

  pub tile_end : {n k at : ℕ} → Tiling E i k lo hi at r → k ≤ n → hi ≤ at → Tiled E n i lo hi r k
  tile_end {at = at} inv few c = fitted at few c inv

-- ── the open bits so far ──
pub set_start : {O : ℕ → Bool} {i : ℕ} → (true ≡ true) ↔ AllSet O i i
set_start = (λ _ a b c. absurd (omega arith), λ _. refl)

pub set_on : {O : ℕ → Bool} {i k : ℕ} {o x : Bool} → i ≤ k → (o ≡ true) ↔ AllSet O i k → x ≡ O k → (o && x ≡ true) ↔ AllSet O i (k + 1)
set_on {O} {i} {k} {o} {x} up (to, back) e = (
  λ q a b c. let (y, z) = and_says o x q in go (to y) z a b c (ℕ_discrete a k),
  λ all. and_true o x (back (λ a b c. all a b (omega arith))) (e ∙ all k up (omega arith)),
)
  where
    go : AllSet O i k → x ≡ true → (a : ℕ) → i ≤ a → a < k + 1 → Dec (a ≡ k) → O a ≡ true
    go all z a b c (yes w) = rw w (sym e ∙ z)
    go all z a b c (no w) = all a b (omega arith)

-- what they say of a range with open bit o: it is stuck, the bits differ, they do not
module _ {E : ℕ → Entry} {O : ℕ → Bool} {n i lo hi : ℕ} {r : Rights} {o : Bool} where
  pub stuck_as : n < 33 → Tiled E n i lo hi r 33 → TiledAs E O n i lo hi r o 33
  stuck_as few t = alike t (λ h. absurd (omega arith))

  module _ {k at : ℕ} {b : Bool} (few : k ≤ n) (far : hi ≤ at) (t : Tiling E i k lo hi at r) (bits : (b ≡ true) ↔ AllSet O i k) where
    pub other_bits : n < 33 → (b ≡ o → ⊥) → TiledAs E O n i lo hi r o 33
    other_bits small differ = let (to, back) = bits in unlike k at small refl few far t (λ (f, g). differ (bool_ext b o (λ q. g (to q)) (λ q. back (f q))))

    pub same_bits : b ≡ o → TiledAs E O n i lo hi r o k
    same_bits e = alike (fitted at few far t) (λ _. subst (λ (b : Bool). (b ≡ true) ↔ AllSet O i k) e bits)

-- ── laws of the walk along the grants ──
module _ {E F : ℕ → Entry} {p : ℕ} where
  exact_start : Exact E 0 F 0 p
  exact_start = record {
    inside = λ a b. absurd (omega arith);
    cover = λ a b. absurd (omega arith);
    rights = λ a b c. absurd (omega arith);
    equal = λ a c b d. absurd (omega arith);
  }

  -- the next is not given to p
  exact_skip : {i j : ℕ} → Exact E i F j p → ((F j).given ≡ p → ⊥) → Exact E i F (j + 1) p
  exact_skip {i} {j} inv no-grant = record {
    inside = λ a b. let (c, h, g, u) = inv.inside a b in (c, omega arith, g, u);
    cover = λ b h g. inv.cover b (below b h g) g;
    rights = λ a b c h g. inv.rights a b c (below b h g) g;
    equal = λ a d b c e h g. inv.equal a d b c e (below b h g) g;
  }
    where
      below : (b : ℕ) → b < j + 1 → (F b).given ≡ p → b < j
      below b h g = go (ℕ_discrete b j)
        where
          go : Dec (b ≡ j) → b < j
          go (yes z) = absurd (no-grant (subst (λ (b : ℕ). (F b).given ≡ p) z g))
          go (no z) = omega arith

  module _ {n m : ℕ} (w : TwoRows E n F m) {i j : ℕ} (inv : Exact E i F j p) (few : i ≤ n) where
    -- an entry that comes later lies in none of these grants: its start is held by an earlier one
    later : (k b : ℕ) → i ≤ k → k < n → b < j → (F b).given ≡ p → Around (E k) (F b) → ⊥
    later k b c d h g u =
        let (a, e, v) = inv.cover b h g (E k).start (record { from = u.from; to = omega (arith, u.to, w.line k d) }) in
        omega (arith, v.to, w.ends a k (omega arith) d)

    -- not all of them lie inside
    exact_short : m ≤ j → i < n → Exact E n F m p → ⊥
    exact_short c d ex =
        let (b, h, g, u) = ex.inside i d in
        later i b (omega arith) d (omega arith) g u

    module _ (next : j < m) (given : (F j).given ≡ p) {x : ℕ} where
      exact_on : x ≤ n → Tiled E n i (F j).start (F j).stop (F j).rights x → Exact E x F (j + 1) p
      exact_on few' (stuck k at b z c t no_fit) = absurd (omega arith)
      exact_on few' (fitted at _ c t) = record {
        inside = λ a b. inside a b (dec_lt a i);
        cover = λ b h. cover b h (ℕ_discrete b j);
        rights = λ a b c h. rights a b c h (ℕ_discrete b j);
        equal = λ a d b c e h. equal a d b c e h (ℕ_discrete b j);
      }
        where
          inside : (a : ℕ) → a < x → Dec (a < i) → (b : ℕ) × (b < j + 1) × ((F b).given ≡ p) × Around (E a) (F b)
          inside a b (yes d) = let (c, h, g, u) = inv.inside a d in (c, omega arith, g, u)
          inside a b (no d) = let e = t.piece a (omega arith) b in (j, omega arith, given, record { from = e.from; to = e.to })

          cover : (b : ℕ) → b < j + 1 → Dec (b ≡ j) → (F b).given ≡ p → (l : ℕ) → In l (F b) → (a : ℕ) × (a < x) × In l (E a)
          cover b h (yes z) g l u =
              let v : In l (F j) = subst (λ (b : ℕ). In l (F b)) z u in
              let (a, _, d, w) = t.cover l v.from (omega (arith, v.to)) in
              (a, d, w)
          cover b h (no z) g l u = let (a, d, v) = inv.cover b (omega arith) g l u in (a, omega (arith, t.up), v)

          -- what lies in this grant comes from place i on, what lies in one of those before it earlier
          late : (a b : ℕ) → a < x → b ≡ j → Around (E a) (F b) → Dec (a < i) → i ≤ a
          late a b c z u (yes d) =
              let (b', h, _, v) = inv.inside a d in
              let o : Around (E a) (F j) = subst (λ (b : ℕ). Around (E a) (F b)) z u in
              absurd (omega (arith, w.line a (omega arith), w.grants b' j h next, v.to, o.from))
          late a b c z u (no d) = omega arith

          early : (a b : ℕ) → a < x → b < j → (F b).given ≡ p → Around (E a) (F b) → Dec (a < i) → a < i
          early a b c h g u (yes d) = d
          early a b c h g u (no d) = absurd (later a b (omega arith) (omega arith) h g u)

          rights : (a b : ℕ) → a < x → b < j + 1 → Dec (b ≡ j) → (F b).given ≡ p → Around (E a) (F b) → within (E a).rights (F b).rights ≡ true
          rights a b c h (yes z) g u = rw z (t.piece a (late a b c z u (dec_lt a i)) c).rights
          rights a b c h (no z) g u = inv.rights a b (early a b c (omega arith) g u (dec_lt a i)) (omega arith) g u

          equal : (a d b : ℕ) → a < x → d < x → b < j + 1 → Dec (b ≡ j) → (F b).given ≡ p → Around (E a) (F b) → Around (E d) (F b) → (E a).rights ≡ (E d).rights
          equal a d b c e h (yes z) g u v = t.equal a (late a b c z u (dec_lt a i)) c ∙ sym (t.equal d (late d b e z v (dec_lt d i)) e)
          equal a d b c e h (no z) g u v =
              inv.equal a d b (early a b c (omega arith) g u (dec_lt a i)) (early d b e (omega arith) g v (dec_lt d i)) (omega arith) g u v

      -- they do not tile it
      exact_stuck : n < x → Tiled E n i (F j).start (F j).stop (F j).rights x → Exact E n F m p → ⊥
      exact_stuck far (fitted at few' c t) ex = omega arith
      exact_stuck far (stuck k at _ _ c t no_fit) ex =
          let (a, d, u) = ex.cover j next given at (record { from = t.on; to = c }) in
          let e : k ≤ a = reached a d u (dec_lt a k) in
          let s : (E k).start ≤ at = omega (arith, u.from, starts a e d (ℕ_discrete k a)) in
          let (b, h, g, v) = ex.inside k (omega arith) in
          here (omega arith) s ex b h g v (dec_lt b j) (dec_lt j b)
        where
          -- those before k end by line at
          ended : (a : ℕ) → a < k → Dec (a < i) → (E a).stop ≤ at
          ended a b (yes d) = let (b', h, _, u) = inv.inside a d in omega (arith, u.to, w.grants b' j h next, t.on)
          ended a b (no d) = (t.piece a (omega arith) b).before

          reached : (a : ℕ) → a < n → In at (E a) → Dec (a < k) → k ≤ a
          reached a d u (yes h) = absurd (omega (arith, u.to, ended a h (dec_lt a i)))
          reached a d u (no h) = omega arith

          starts : (a : ℕ) → k ≤ a → a < n → Dec (k ≡ a) → (E k).start ≤ (E a).start
          starts a e d (yes z) = rw z (omega arith)
          starts a e d (no z) = omega (arith, w.line k (omega arith), w.ends k a (omega arith) d)

          exactly_at : k < n → (E k).start ≤ at → Around (E k) (F j) → Dec ((E k).start < at) → (E k).start ≡ at
          exactly_at d s v (yes h) =
              let (a, _, e, u) = t.cover (E k).start v.from h in
              absurd (omega (arith, u.to, w.ends a k e d))
          exactly_at d s v (no h) = omega arith

          -- .. and has the rights of those before it
          alike : k < n → Around (E k) (F j) → Exact E n F m p → Dec (k ≡ i) → (E k).rights ≡ (E i).rights
          alike d v ex (yes z) = rw z refl
          alike d v ex (no z) =
              let e = t.piece i (omega arith) (omega (arith, t.up)) in
              ex.equal k i j d (omega (arith, t.up)) next given v (record { from = e.from; to = e.to })

          here : k < n → (E k).start ≤ at → Exact E n F m p → (b : ℕ) → b < m → (F b).given ≡ p → Around (E k) (F b) → Dec (b < j) → Dec (j < b) → ⊥
          here d s ex b h g v (yes y) _ = later k b t.up d y g v
          here d s ex b h g v (no y) (yes z) = omega (arith, v.from, w.grants j b z h)
          here d s ex b h g v (no y) (no z) =
              let e : b ≡ j = omega arith in
              let u : Around (E k) (F j) = subst (λ (b : ℕ). Around (E k) (F b)) e v in
              no_fit (record { there = d; start = exactly_at d s u (dec_lt (E k).start at); to = u.to; rights = ex.rights k j d next given u; equal = alike d u ex (ℕ_discrete k i) })

-- ── laws of their open bits ──
-- what lies in grant j comes from place i on, and before k if those before k cover it
in_grant : {E F : ℕ → Entry} {p n m : ℕ} → TwoRows E n F m → {i j : ℕ} → Exact E i F j p → j < m → {k at : ℕ} {r : Rights} → (F j).stop ≤ at → Tiling E i k (F j).start (F j).stop at r
    → (a : ℕ) → a < n → Around (E a) (F j) → (i ≤ a) × (a < k)
in_grant {E} w {i} {j} inv next {k} c t a d u = (late (dec_lt a i), soon (dec_lt a k))
  where
    late : Dec (a < i) → i ≤ a
    late (yes e) = let (b, h, _, v) = inv.inside a e in absurd (omega (arith, w.line a d, w.grants b j h next, v.to, u.from))
    late (no e) = omega arith

    soon : Dec (a < k) → a < k
    soon (yes e) = e
    soon (no e) =
        let (b, _, h, v) = t.cover (E a).start u.from (omega (arith, w.line a d, u.to)) in
        absurd (omega (arith, v.to, w.ends b a (omega arith) d))

module _ {E F : ℕ → Entry} {O P : ℕ → Bool} {p : ℕ} where
  bits_start : Bits E O 0 F P 0 p
  bits_start = record { says = λ b c. absurd (omega arith) }

  bits_skip : {i j : ℕ} → Bits E O i F P j p → ((F j).given ≡ p → ⊥) → Bits E O i F P (j + 1) p
  bits_skip {i} {j} inv no-grant = record { says = λ b h g. go b h g (ℕ_discrete b j) }
    where
      go : (b : ℕ) → b < j + 1 → (F b).given ≡ p → Dec (b ≡ j) → (P b ≡ true) ↔ ((a : ℕ) → a < i → Around (E a) (F b) → O a ≡ true)
      go b h g (yes z) = absurd (no-grant (subst (λ (b : ℕ). (F b).given ≡ p) z g))
      go b h g (no z) = inv.says b (omega arith) g

  module _ {n m : ℕ} (w : TwoRows E n F m) {i j : ℕ} (inv : Exact E i F j p) (few : i ≤ n) (next : j < m) where
    bits_on : {x : ℕ} → Bits E O i F P j p → x ≤ n → Tiled E n i (F j).start (F j).stop (F j).rights x → (P j ≡ true) ↔ AllSet O i x → Bits E O x F P (j + 1) p
    bits_on had few' (stuck k at b z c t no_fit) _ = absurd (omega arith)
    bits_on {x} had few' (fitted at _ c t) (to, back) = record { says = λ b h g. go b h g (ℕ_discrete b j) }
      where
        early : (a b : ℕ) → a < x → b < j → (F b).given ≡ p → Around (E a) (F b) → Dec (a < i) → a < i
        early a b c h g u (yes d) = d
        early a b c h g u (no d) = absurd (later w inv few a b (omega arith) (omega arith) h g u)

        go : (b : ℕ) → b < j + 1 → (F b).given ≡ p → Dec (b ≡ j) → (P b ≡ true) ↔ ((a : ℕ) → a < x → Around (E a) (F b) → O a ≡ true)
        go b h g (yes z) = rw z (
          λ q a d u. let (e, f) = in_grant w inv next c t a (omega arith) u in to q a e f,
          λ f. back (λ a d e. let y = t.piece a d e in f a e (record { from = y.from; to = y.to })),
        )
        go b h g (no z) =
            let (to, back) = had.says b (omega arith) g in
            (λ q a d u. to q a (early a b d (omega arith) g u (dec_lt a i)) u, λ f. back (λ a d u. f a (omega (arith, t.up)) u))

    -- they tile it, and their bits tell otherwise
    bits_unlike : {k at : ℕ} → (F j).given ≡ p → k ≤ n → (F j).stop ≤ at → Tiling E i k (F j).start (F j).stop at (F j).rights → ((P j ≡ true) ↔ AllSet O i k → ⊥) → Bits E O n F P m p → ⊥
    bits_unlike given few' c t differs all =
        let (to, back) = all.says j next given in
        differs (
          λ q a d e. let y = t.piece a d e in to q a (omega arith) (record { from = y.from; to = y.to }),
          λ set. back (λ a d u. let (e, f) = in_grant w inv next c t a d u in set a e f),
        )

-- ── a walk along two rows that tells a test ──
-- b: whether they are exact to their ends
pub record RowsTell (E : ℕ → Entry) (O : ℕ → Bool) (n : ℕ) (F : ℕ → Entry) (P : ℕ → Bool) (m p : ℕ) (b : Bool) : Type 0 where
  pub rows : TwoRows E n F m
  pub to : b ≡ true → Exact E n F m p × Bits E O n F P m p
  pub back : Exact E n F m p → Bits E O n F P m p → b ≡ true

module _ {E F : ℕ → Entry} {O P : ℕ → Bool} {n m p : ℕ} where
  pub rows_start : WalkedRows E O n F P m p 0 0
  rows_start = record { few = omega arith; far = omega arith; exact = exact_start; bits = bits_start }

  pub rows_skip : {i j : ℕ} → WalkedRows E O n F P m p i j → j < m → ((F j).given ≡ p → ⊥) → WalkedRows E O n F P m p i (j + 1)
  rows_skip inv next no-grant = record { few = inv.few; far = omega arith; exact = exact_skip inv.exact no-grant; bits = bits_skip inv.bits no-grant }

  module _ {b : Bool} (h : RowsTell E O n F P m p b) {i j : ℕ} (inv : WalkedRows E O n F P m p i j) where
    pub rows_end : m ≤ j → eqb i n ≡ b
    rows_end c = go (ℕ_discrete i n)
      where
        go : Dec (i ≡ n) → eqb i n ≡ b
        go (yes e) = let z : m ≡ j = omega (arith, inv.far) in eq-eqb i n e ∙ sym (h.back (rw (← e, z) inv.exact) (rw (← e, z) inv.bits))
        go (no e) = ne_eqb i n e ∙ never _ (λ w. exact_short h.rows inv.exact inv.few c (omega (arith, inv.few)) (h.to w).0)

    module _ (next : j < m) (given : (F j).given ≡ p) {x : ℕ} where
      pub rows_on : TiledAs E O n i (F j).start (F j).stop (F j).rights (P j) x → x ≤ n → WalkedRows E O n F P m p x (j + 1)
      rows_on (alike t f) few = record {
        few = few;
        far = omega arith;
        exact = exact_on h.rows inv.exact inv.few next given few t;
        bits = bits_on h.rows inv.exact inv.few next inv.bits few t (f few);
      }
      rows_on (unlike _ _ small is _ _ _ _) few = absurd (omega (arith, small, is))

      pub rows_stuck : TiledAs E O n i (F j).start (F j).stop (F j).rights (P j) x → n < x → false ≡ b
      rows_stuck tiled beyond = never _ (λ w. go tiled (h.to w))
        where
          go : TiledAs E O n i (F j).start (F j).stop (F j).rights (P j) x → Exact E n F m p × Bits E O n F P m p → ⊥
          go (alike t _) (w, _) = exact_stuck h.rows inv.exact inv.few next given beyond t w
          go (unlike _ _ _ _ few far t differs) (_, w) = bits_unlike h.rows inv.exact inv.few next given few far t differs w

-- ── the entries of a partition by place ──
-- an entry and what was read of it; it is there
pub seen_at : {l : List ℕ} {p j : ℕ} {e : Entry} {f : SlotFields} → (view l).k.slot p j ≡ some e → Seen l p j f → Same e (entry_of f)
unfolding entry_in
seen_at {e = e} {f} u v = go f.present (sym u ∙ v.slot)
  where
    go : (x : Bool) → some e ≡ cond x (some (entry_of f)) none → Same e (entry_of f)
    go true u = same (some_inj u)
    go false u = not_none none refl (sym u)

pub seen_present : {l : List ℕ} {p j : ℕ} {e : Entry} {f : SlotFields} → (view l).k.slot p j ≡ some e → Seen l p j f → f.present ≡ true
unfolding entry_in
seen_present {e = e} {f} u v = go f.present (sym u ∙ v.slot)
  where
    go : (x : Bool) → some e ≡ cond x (some (entry_of f)) none → x ≡ true
    go true u = refl
    go false u = not_none none refl (sym u)

-- the entry in a slot, for what was read of it
pub slot_tiled : {l : List ℕ} {E : ℕ → Entry} {O : ℕ → Bool} {n i q j x : ℕ} {f : SlotFields} → Filled l q j → Seen l q j f
    → TiledAs E O n i f.start.0 f.end.0 f.rights f.opened x → TiledAs E O n i (entry_at l q j).start (entry_at l q j).stop (entry_at l q j).rights ((view l).opened q j) x
unfolding entry_or
slot_tiled (e, u) v t = let h = seen_at u v in rw (u, h.start, h.stop, h.rights, v.opened) t

module _ {l o : List ℕ} {p n : ℕ} (h : InOrder l o p n) where
  -- what stands at place a
  pub row_at : (a : ℕ) → a < n → (view l).k.slot p (placed o p a) ≡ some (row_of l o p a)
  unfolding entry_or
  row_at a b =
      let (x, u) = h.rows.ordered.full a b in
      let (e, v, _, _) = held_of (view l).k p (placed o p a) x u in
      rw v refl

  -- .. and what was read there
  pub row_seen : {a : ℕ} {f : SlotFields} → a < n → Seen l p (placed o p a) f → Same (row_of l o p a) (entry_of f)
  row_seen b v = seen_at (row_at _ b) v

  -- each entry of p stands somewhere
  row_every : (j : ℕ) (e : Entry) → (view l).k.slot p j ≡ some e → (a : ℕ) × (a < n) × (row_of l o p a ≡ e)
  unfolding entry_or
  row_every j e u =
      let (a, b, z) = h.rows.ordered.every j _ (slot_bounds l p j e u).1 (lines_of_law (view l).k p j e u) in
      (a, b, ap (λ (j : ℕ). entry_or ((view l).k.slot p j)) z ∙ ap entry_or u)

  -- .. at a slot
  pub row_every_at : (j : ℕ) (e : Entry) → (view l).k.slot p j ≡ some e → (a : ℕ) × (a < n) × ((row_of l o p a ≡ e) × (placed o p a ≡ j))
  unfolding entry_or
  row_every_at j e u =
      let (a, b, z) = h.rows.ordered.every j _ (slot_bounds l p j e u).1 (lines_of_law (view l).k p j e u) in
      (a, b, (ap (λ (j : ℕ). entry_or ((view l).k.slot p j)) z ∙ ap entry_or u, z))

  -- few: 33 is beyond all places
  pub few : n < 33
  few = omega (arith, h.rows.ordered.few)

  pub row_line : (a : ℕ) → a < n → (row_of l o p a).start < (row_of l o p a).stop
  row_line a b = h.lines (placed o p a) _ (row_at a b)

  pub row_ends : (a b : ℕ) → a < b → b < n → (row_of l o p a).stop ≤ (row_of l o p b).start
  unfolding lines_of low_of high_of
  row_ends a b c d =
      let x = ap (λ (e : Opt Entry). high_of (lines_of e)) (row_at a (omega arith)) in
      let y = ap (λ (e : Opt Entry). low_of (lines_of e)) (row_at b d) in
      omega (arith, x, y, h.rows.apart.ends a b c d)

-- ── the walk along one range, as the code reads the entries ──
pub tile_one : {l o : List ℕ} {p n i lo hi : ℕ} {r : Rights} {b : Bool} {x y : ℕ} → InOrder l o p n
    → TiledAs (row_of l o p) (opened_bit l o p) n i lo hi r b x → TiledAs (row_of l o p) (opened_bit l o p) n i lo hi r b y → x ≡ y
tile_one h = as_one (row_line h) (row_ends h)

pub line_one : {l o : List ℕ} {p n i lo hi : ℕ} {r : Rights} {x y : ℕ} → InOrder l o p n → Tiled (plain_row l o p) n i lo hi r x → Tiled (plain_row l o p) n i lo hi r y → x ≡ y
line_one h = row_one (row_line h) (row_ends h)

module _ {l o : List ℕ} {p n i k lo hi at : ℕ} {r : Rights} (h : InOrder l o p n) (inv : Tiling (row_of l o p) i k lo hi at r) where
  no_place : at < hi → (GoesOn (row_of l o p) n i k hi at r → ⊥) → Tiled (row_of l o p) n i lo hi r 33
  no_place c no_fit = stuck k at (omega (arith, h.rows.ordered.few)) refl c inv no_fit

  pub tile_none : at < hi → n ≤ k → Tiled (row_of l o p) n i lo hi r 33
  tile_none c b = no_place c (λ u. omega (arith, u.there))

  module _ {f : SlotFields} (c : at < hi) (b : k < n) (v : Seen l p (placed o p k) f) where
    pub tile_elsewhere : (f.start.0 ≡ at → ⊥) → Tiled (row_of l o p) n i lo hi r 33
    tile_elsewhere no_start = no_place c (λ u. no_start (sym (row_seen h b v).start ∙ u.start))

    pub tile_over : hi < f.end.0 → Tiled (row_of l o p) n i lo hi r 33
    tile_over d = no_place c (λ u. omega (arith, u.to, (row_seen h b v).stop))

    module _ {s : Rights} (w : ComparedWith (row_of l o p) i k r s) where
      pub tile_unlike : follows (eqb k i) f.rights s ≡ false → Tiled (row_of l o p) n i lo hi r 33
      tile_unlike q = no_place c (λ u. false≢true (sym q ∙ go u (ℕ_discrete k i)))
        where
          go : GoesOn (row_of l o p) n i k hi at r → Dec (k ≡ i) → follows (eqb k i) f.rights s ≡ true
          go u (yes z) = first_follows k i f.rights s (rw (← (row_seen h b v).rights, w.before z) u.rights) z
          go u (no z) = later_follows k i f.rights s (sym (row_seen h b v).rights ∙ u.equal ∙ sym (w.after (omega (arith, inv.up)))) z

      module _ (start : f.start.0 ≡ at) (to : f.end.0 ≤ hi) (q : follows (eqb k i) f.rights s ≡ true) where
        fits : GoesOn (row_of l o p) n i k hi at r
        fits =
            let e = row_seen h b v in
            let (x, y) = go (ℕ_discrete k i) in
            record { there = b; start = e.start ∙ start; to = omega (arith, e.stop); rights = rw e.rights x; equal = e.rights ∙ y }
          where
            go : Dec (k ≡ i) → (within f.rights r ≡ true) × (f.rights ≡ (row_of l o p i).rights)
            go (yes z) = (rw (w.before z) at (follows_first k i f.rights s q z), rw (← z) (sym (row_seen h b v).rights))
            go (no z) =
                let after : i < k = omega (arith, inv.up) in
                let x = follows_later k i f.rights s q z ∙ w.after after in
                (rw x (inv.piece i (omega arith) after).rights, x)

        pub tile_next : Tiling (row_of l o p) i (k + 1) lo hi f.end.0 r
        tile_next = rw (← (row_seen h b v).stop) (tile_on inv (row_line h k b) fits)

        pub compare_next : ComparedWith (row_of l o p) i (k + 1) r f.rights
        compare_next = record { before = λ z. absurd (omega (arith, inv.up)); after = λ _. sym (row_seen h b v).rights ∙ fits.equal }

-- ── a child's entries and its parent's ──
module _ {l o : List ℕ} {p q n m : ℕ} (h : ChildOf l o p q n m) where
  -- a slot of the parent, and one of q
  to_q : (j : ℕ) (f : Entry) → (view l).k.slot ((view l).k.parent p) j ≡ some f → (view l).k.slot q j ≡ some f
  to_q j f u = subst (λ (q : ℕ). (view l).k.slot q j ≡ some f) h.up u

  of_q : (j : ℕ) (f : Entry) → (view l).k.slot q j ≡ some f → (view l).k.slot ((view l).k.parent p) j ≡ some f
  of_q j f u = subst (λ (q : ℕ). (view l).k.slot q j ≡ some f) (sym h.up) u

  -- S7 of p but for `given`, by place; and back
  pub child_lies : exactly (view l).k p ≡ true → Lies (row_of l o p) n (row_of l o q) m p
  unfolding exactly
  child_lies x =
      let y : s7_inside (view l).k p && s7_cover (view l).k p ≡ true = rw (ne_eqb p 0 h.other) at x in
      let (lies, covers) = and_says (s7_inside (view l).k p) (s7_cover (view l).k p) y in
      record {
        inside = λ a b.
            let (j, f, g) = (inside_means (view l).k (slots32 l) p).0 lies _ _ (row_at h.own a b) in
            let (c, d, z) = row_every h.above j f (to_q j f g.at) in
            (c, d, subst (λ (f : Entry). f.given ≡ p) (sym z) g.given, subst (Around (row_of l o p a)) (sym z) g.around);
        cover = λ b c g i v.
            let t = (cover_means (view l).k (slots32 l) p).0 covers _ _ (of_q _ _ (row_at h.above b c)) g i v in
            let (a, d, z) = row_every h.own t.i t.e t.at in
            (a, d, subst (In i) (sym z) t.holds);
      }

  pub lies_child : Lies (row_of l o p) n (row_of l o q) m p → exactly (view l).k p ≡ true
  unfolding exactly
  lies_child lies =
      rw (ne_eqb p 0 h.other)
      (and_true _ _
      ((inside_means (view l).k (slots32 l) p).1 (λ i e u.
      let (a, c, z) = row_every h.own i e u in
      let (b, d, g, v) = lies.inside a c in
      (placed o q b, row_of l o q b, record { at = of_q _ _ (row_at h.above b d); given = g; around = subst (λ (e : Entry). Around e (row_of l o q b)) z v })))
      ((cover_means (view l).k (slots32 l) p).1 (λ j f u g i v.
      let (b, d, z) = row_every h.above j f (to_q j f u) in
      let (a, c, t) = lies.cover b d (subst (λ (f : Entry). f.given ≡ p) (sym z) g) i (subst (In i) (sym z) v) in
      record { i = placed o p a; e = row_of l o p a; at = row_at h.own a c; holds = t })))

  child_exact : exactly (view l).k p && s11 (view l).k p ≡ true → Exact (row_of l o p) n (row_of l o q) m p
  child_exact w =
      let (x, s) = and_says (exactly (view l).k p) (s11 (view l).k p) w in
      let lies = child_lies x in
      record {
        inside = lies.inside;
        cover = lies.cover;
        rights = λ a b c d g v.
            (within_means (row_of l o p a).rights (row_of l o q b).rights).1
            (((s11_means l p h.own.in_p).0 s).child h.other _ _ _ _ (row_at h.own a c) (record { at = of_q _ _ (row_at h.above b d); given = g; around = v }));
        equal = λ a c b d e i g u v.
            let w = of_q _ _ (row_at h.above b i) in
            ((s11_means l p h.own.in_p).0 s).equal h.other _ _ _ _ (row_at h.own a d) (row_at h.own c e)
            (placed o q b, row_of l o q b, record { at = w; given = g; around = u }, record { at = w; given = g; around = v });
      }

  exact_child : Exact (row_of l o p) n (row_of l o q) m p → exactly (view l).k p && s11 (view l).k p ≡ true
  exact_child ex =
      and_true (exactly (view l).k p) _
      (lies_child (record { inside = ex.inside; cover = ex.cover }))
      ((s11_means l p h.own.in_p).1 (record {
        root = λ z. absurd (h.other z);
        child = λ _ i j e f u g.
            let (a, c, z) = row_every h.own i e u in
            let (b, d, y) = row_every h.above j f (to_q j f g.at) in
            let v : Around (row_of l o p a) (row_of l o q b) = subst (λ (e : Entry). Around e (row_of l o q b)) (sym z) (subst (Around e) (sym y) g.around) in
            rw (← z, ← y) ((within_means (row_of l o p a).rights (row_of l o q b).rights).0 (ex.rights a b c d (subst (λ (f : Entry). f.given ≡ p) (sym y) g.given) v));
        equal = λ _ i m e f u v (j, g, x, y).
            let (a, c, z) = row_every h.own i e u in
            let (d, k, w) = row_every h.own m f v in
            let (b, r, s) = row_every h.above j g (to_q j g x.at) in
            let near : (a : ℕ) (e : Entry) → row_of l o p a ≡ e → Around e g → Around (row_of l o p a) (row_of l o q b) = λ a e z t. rw (z, s) t in
            rw (← z, ← w) (ex.equal a d b c k r (rw s x.given) (near a e z x.around) (near d f w y.around));
      }))

  -- the open bits of the grants, as a test
  bits_child : grants_open (view l) p ≡ true → Bits (row_of l o p) (opened_bit l o p) n (row_of l o q) (opened_bit l o q) m p
  bits_child w = record {
    says = λ b c g.
        let (to, back) = (grants_open_means l p h.other).0 w _ _ (of_q _ _ (row_at h.above b c)) g in
        let is : (view l).opened ((view l).k.parent p) (placed o q b) ≡ opened_bit l o q b = ap (λ (q' : ℕ). (view l).opened q' (placed o q b)) h.up in (
          λ z a d u. to (is ∙ z) _ _ (row_at h.own a d) u,
          λ f. sym is ∙ back (λ i e v u.
              let (a, d, z) = row_every_at h.own i e v in
              ap ((view l).opened p) (sym z.1) ∙ f a d (subst (λ (e : Entry). Around e (row_of l o q b)) (sym z.0) u)),
        );
  }

  child_bits : Bits (row_of l o p) (opened_bit l o p) n (row_of l o q) (opened_bit l o q) m p → grants_open (view l) p ≡ true
  child_bits bits = (grants_open_means l p h.other).1 (λ j f u g.
      let (b, c, z) = row_every_at h.above j f (to_q j f u) in
      let (to, back) = bits.says b c (subst (λ (f : Entry). f.given ≡ p) (sym z.0) g) in
      let is : (view l).opened ((view l).k.parent p) j ≡ opened_bit l o q b = ap (λ (q' : ℕ). (view l).opened q' j) h.up ∙ ap ((view l).opened q) (sym z.1) in (
        λ w i e v x.
            let (a, d, y) = row_every_at h.own i e v in
            ap ((view l).opened p) (sym y.1) ∙ to (sym is ∙ w) a d (subst (λ (f : Entry). Around (row_of l o p a) f) (sym z.0) (subst (λ (e : Entry). Around e f) (sym y.0) x)),
        λ all. is ∙ back (λ a d v. all _ _ (row_at h.own a d) (subst (Around (row_of l o p a)) z.0 v)),
      ))

  two_rows : TwoRows (row_of l o p) n (row_of l o q) m
  two_rows = record { line = row_line h.own; ends = row_ends h.own; grants = row_ends h.above }

  -- the walk tells S7's cover, S11 and the open bits
  pub child_tells : RowsTell (row_of l o p) (opened_bit l o p) n (row_of l o q) (opened_bit l o q) m p (exactly (view l).k p && s11 (view l).k p && grants_open (view l) p)
  child_tells = record {
    rows = two_rows;
    to = λ w. let (x, y) = and_says (exactly (view l).k p && s11 (view l).k p) (grants_open (view l) p) w in (child_exact x, bits_child y);
    back = λ x y. and_true _ _ (exact_child x) (child_bits y);
  }

-- ── the root's entries, and base to end as one that it was given ──
abbrev pub whole : List ℕ → ℕ → ℕ → Entry
whole l p b = entry (view l).k.base (view l).k.stop p all_rights false

module _ {l o : List ℕ} {p n : ℕ} (h : InOrder l o p n) (root : p ≡ 0) where
  pub root_lies : exactly (view l).k p ≡ true → Lies (row_of l o p) n (whole l p) 1 p
  unfolding exactly
  root_lies y =
      let x : s7_root (view l).k p ≡ true = rw (eq-eqb p 0 root) at y in
      let q = (root_means (view l).k (slots32 l) p h.lines).0 x in
      record {
        inside = λ a b.
            let c = row_line h a b in
            let y = (q (row_of l o p a).start).0 (record { i = _; e = _; at = row_at h a b; holds = record { from = omega arith; to = omega arith } }) in
            let z = (q ((row_of l o p a).stop - 1)).0 (record { i = _; e = _; at = row_at h a b; holds = record { from = omega arith; to = omega arith } }) in
            (0, omega arith, refl, record { from = y.0; to = omega (arith, z.1) });
        cover = λ b c g i v.
            let t = (q i).1 (v.from, v.to) in
            let (a, d, z) = row_every h t.i t.e t.at in
            (a, d, subst (In i) (sym z) t.holds);
      }

  pub lies_root : Lies (row_of l o p) n (whole l p) 1 p → exactly (view l).k p ≡ true
  unfolding exactly
  lies_root lies =
      rw (eq-eqb p 0 root)
      ((root_means (view l).k (slots32 l) p h.lines).1 (λ i. (
        λ t.
            let (a, c, z) = row_every h t.i t.e t.at in
            let (b, d, g, v) = lies.inside a c in
            let x : In i (row_of l o p a) = subst (In i) (sym z) t.holds in
            (omega (arith, v.from, x.from), omega (arith, v.to, x.to)),
        λ t.
            let (a, c, v) = lies.cover 0 (omega arith) refl i (record { from = t.0; to = t.1 }) in
            record { i = placed o p a; e = row_of l o p a; at = row_at h a c; holds = v },
      )))

-- ── what the walks need, from what is known of the table ──
module _ {l o c : List ℕ} (shaped : Shaped l) (orders : Orders (view l).k o c) where
  pub in_order : {p : ℕ} → p < 16 → present (view l).k p ≡ true → InOrder l o p (get_or c p 0)
  in_order {p} b there = record { in_p = b; lines = record_solid l p b (shaped_record shaped p b); rows = orders.rows p b there }

  -- the parent of a partition that is present is so too, as S2 says
  pub child_of : {p q : ℕ} → p < 16 → present (view l).k p ≡ true → (p ≡ 0 → ⊥) → q < 16 → (view l).k.parent p ≡ q → ChildOf l o p q (get_or c p 0) (get_or c q 0)
  child_of {p} {q} b there other d up =
      let s = (s2_means l p b).0 (shaped_s2 shaped p b) in
      let t : present (view l).k q ≡ true = rw (← up) ((present_means (view l).k ((view l).k.parent p)).1 (s.parent other ((present_means (view l).k p).0 there))) in
      record { other = other; up = up; own = in_order b there; above = in_order d t }
