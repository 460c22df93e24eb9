-- The pairs of some partitions, put over the bytes of a sheet: of one, of those in a mask, of those who are absent, of those who stand above one.
use Rattle.std.specs.Prelude.{◌≡◌, Bool, List, ℕ, ◌+◌, ◌*◌, ◌/◌, ◌%◌, ◌^◌, ◌≤◌, ◌<◌, eqb, length, ◌||◌, ◌⊎◌, suc}
use Rattle.std.proofs.Math.Path.{refl}
use Rattle.std.proofs.Common.{ap, sym, ◌∙◌, arith, eq-eqb, ne_eqb, inl, inr}
use Rattle.std.proofs.Math.Bool.{true, false, cond}
use Rattle.std.proofs.Math.Decide.{dec_lt, ℕ_discrete}
use Rattle.std.proofs.Math.ListN.{get_or}
use Rattle.loops.specs.Loops.{names, Filling, Reaches, at_root, by_step}
use Rattle.loops.specs.Laws.Left.{bit_set, bit_not, bits_half, bits_few, none_from}
use Rattle.loops.specs.Laws.Rewrite.{tab_is, tab_ext, fill_start, length_tab, tab_at, fill_tab}
use Rattle.tables.specs.State.{Table, Opt, none, some, Area}
use Rattle.memory.specs.Bytes.{byte_of}
use Rattle.sound.specs.Whole.{Right}
use Rattle.sheetrules.specs.Sheet.{masks_word, lines_word, sheet_of}
use Rattle.sheetrules.specs.Bytes.{sheet_bytes, pair_put}
use Rattle.summing.specs.Sums.{children_of, masks_with}
use Rattle.sheet.specs.Touched.{touches, put_those}
use Rattle.sheet.specs.declared.calls.Whose.TheVariants.{Gone}
use Rattle.sheetrules.specs.Laws.Bytes.{pair_sheet, pair_on_law}
use Rattle.summing.specs.Laws.Written.{with_children}
use Rattle.tables.specs.Search.{is_some, is_none, present, absent}
use Rattle.sound.specs.Core.{Core}
use Rattle.sound.specs.Laws.Core.{parent_range}
use Rattle.sound.specs.Properties.{Above, itself, higher}
use Rattle.rules.specs.Changes.{above}
use Rattle.isolation.specs.Laws.Above.{all_climb, top_only, above_means, above_not}

-- ── bytes ──
module _ (t : Table) where
  abbrev byte : ℕ → ℕ
  byte = byte_of (sheet_of t)

  pub those_length : (m : ℕ → Bool) (s : List ℕ) → length (put_those m t s) ≡ 256
  unfolding put_those
  those_length m s = length_tab 256 _

  -- where the bytes of the others are there, all are
  pub those_all : (m : ℕ → Bool) (s : List ℕ) → ((n : ℕ) → n < 256 → m (n / 16) ≡ false → get_or s n 0 ≡ byte n) → put_those m t s ≡ sheet_bytes (sheet_of t)
  unfolding put_those sheet_bytes
  those_all m s there = tab_ext 256 _ _ (λ n b. go n b (m (n / 16)) refl)
    where
      go : (n : ℕ) → n < 256 → (x : Bool) → m (n / 16) ≡ x → cond x (byte n) (get_or s n 0) ≡ byte n
      go n b true z = refl
      go n b false z = there n b z

  -- some are put, and then others
  pub those_twice : (m o : ℕ → Bool) (s : List ℕ) → put_those m t (put_those o t s) ≡ put_those (λ q. o q || m q) t s
  unfolding put_those
  those_twice m o s = tab_ext 256 _ _ (λ n b. ap (cond (m (n / 16)) (byte n)) (tab_at 256 _ n b) ∙ go n (m (n / 16)) (o (n / 16)))
    where
      go : (n : ℕ) (x y : Bool) → cond x (byte n) (cond y (byte n) (get_or s n 0)) ≡ cond (y || x) (byte n) (get_or s n 0)
      go n true true = refl
      go n true false = refl
      go n false true = refl
      go n false false = refl

  -- the pair of p is put
  module _ (p : ℕ) (b : p < 16) (s : List ℕ) {u : List ℕ} (size : length s ≡ 256) (put : u ≡ pair_put s p (masks_word t p) (lines_word t p)) where
    abbrev only : ℕ → ℕ → ℕ
    only n x = cond (eqb (n / 16) p) (byte n) x

    filled : Filling only s 256 (16 * (p + 1)) u
    filled = pair_on_law (sheet_of t) only p start b (λ n x e. rw (eq-eqb (n / 16) p e) refl) (pair_sheet t p b s refl refl put)
      where
        start : Filling only s 256 (16 * p) s
        start = record { within = omega arith; size = size; below = λ n h. rw (ne_eqb (n / 16) p (λ z. omega arith)) refl; above = λ n h. refl }

    pub pair_size : length u ≡ 256
    pair_size = filled.size

    pub pair_in : (n : ℕ) → n / 16 ≡ p → get_or u n 0 ≡ byte n
    pair_in n z = filled.below n (omega arith) ∙ rw (eq-eqb (n / 16) p z) refl

    pub pair_out : (n : ℕ) → (n / 16 ≡ p → ⊥) → get_or u n 0 ≡ get_or s n 0
    pair_out n z = go (dec_lt n (16 * (p + 1)))
      where
        go : Dec (n < 16 * (p + 1)) → get_or u n 0 ≡ get_or s n 0
        go (yes d) = filled.below n d ∙ rw (ne_eqb (n / 16) p z) refl
        go (no d) = filled.above n (omega arith)

-- the pair of q with its children is its pair
pub pair_with : {t : Table} → Right t → (q : ℕ) (s : List ℕ) {c : ℕ} {u : List ℕ} → c ≡ children_of t.k q → u ≡ pair_put s q (masks_with c t q) (lines_word t q) → u ≡ pair_put s q (masks_word t q) (lines_word t q)
pair_with {t} h q s e put = put ∙ ap (λ (m : ℕ). pair_put s q m (lines_word t q)) (with_children h q e)

-- ── the walk over a mask: the pairs of those below p whose bit is set are put, and the bits from p on are left ──
abbrev or_put : ℕ → Table → ℕ → ℕ → ℕ
or_put m t n x = cond (names m (n / 16)) (byte_of (sheet_of t) n) x

pub record Putting (m : ℕ) (t : Table) (s : List ℕ) (p left : ℕ) (u : List ℕ) : Type 0 where
  pub within : p ≤ 16
  pub bits : left ≡ m / 2 ^ p
  pub filled : Filling (or_put m t) s 256 (16 * p) u

module _ {m : ℕ} {t : Table} {s : List ℕ} where
  pub put_start : length s ≡ 256 → Putting m t s 0 m s
  put_start h = record { within = omega arith; bits = omega arith; filled = fill_start h }

  module _ (few : m < 0x1_0000) {p left : ℕ} {u : List ℕ} (inv : Putting m t s p left u) where
    pub put_within : (left ≡ 0 → ⊥) → p < 16
    put_within h = bits_few m p inv.bits few inv.within h

    module _ (more : left ≡ 0 → ⊥) where
      pub put_on : left % 2 ≡ 1 → {v : List ℕ} → v ≡ pair_put u p (masks_word t p) (lines_word t p) → Putting m t s (p + 1) (left / 2) v
      put_on q put = record {
        within = omega (arith, put_within more);
        bits = bits_half m p inv.bits;
        filled = pair_on_law (sheet_of t) (or_put m t) p inv.filled (put_within more) (λ n x e. rw (e, bit_set m p inv.bits q) refl) (pair_sheet t p (put_within more) u refl refl put);
      }

      pub put_skip : (left % 2 ≡ 1 → ⊥) → Putting m t s (p + 1) (left / 2) u
      put_skip q = record {
        within = omega (arith, put_within more);
        bits = bits_half m p inv.bits;
        filled = record { within = omega (arith, put_within more); size = inv.filled.size; below = λ n c. go n c (dec_lt n (16 * p)); above = λ n c. inv.filled.above n (omega arith) };
      }
        where
          go : (n : ℕ) → n < 16 * (p + 1) → Dec (n < 16 * p) → get_or u n 0 ≡ or_put m t n (get_or s n 0)
          go n c (yes d) = inv.filled.below n d
          go n c (no d) = let e : n / 16 ≡ p = omega arith in inv.filled.above n (omega arith) ∙ rw (e, bit_not m p inv.bits q) refl

    pub put_end : left ≡ 0 → u ≡ put_those (names m) t s
    unfolding put_those
    put_end z = tab_is 256 _ u inv.filled.size (λ n c. go n (dec_lt n (16 * p)))
      where
        go : (n : ℕ) → Dec (n < 16 * p) → get_or u n 0 ≡ or_put m t n (get_or s n 0)
        go n (yes d) = inv.filled.below n d
        go n (no d) = inv.filled.above n (omega arith) ∙ rw (none_from m p (sym z ∙ inv.bits) (n / 16) (omega arith)) refl

-- ── the walk from p up: at q, after so many of the 16 turns, the pairs of all below it are put ──
pub record GoingUp (t : Table) (p : ℕ) (s : List ℕ) (q turn : ℕ) (u : List ℕ) : Type 0 where
  pub small : q < 16
  pub steps : ℕ
  pub turns : turn + suc steps ≡ 16
  pub climbs : Reaches t.k.parent steps q
  pub way : Above t.k.parent q p
  pub size : length u ≡ 256
  pub stay : (n : ℕ) → n < 256 → above t.k p (n / 16) ≡ false → get_or u n 0 ≡ get_or s n 0
  pub put : (n : ℕ) → n < 256 → above t.k p (n / 16) ≡ true → (get_or u n 0 ≡ byte_of (sheet_of t) n) ⊎ Above t.k.parent (n / 16) q

module _ {t : Table} (h : Core t.k) {p : ℕ} (b : p < 16) {s : List ℕ} where
  pub rise_start : length s ≡ 256 → GoingUp t p s p 0 s
  rise_start size = record {
    small = b;
    steps = 15;
    turns = refl;
    climbs = all_climb h p;
    way = itself refl;
    size = size;
    stay = λ n _ _. refl;
    put = λ n _ a. inr ((above_means h p (n / 16) b).0 a);
  }

  module _ {q turn : ℕ} {u v : List ℕ} (inv : GoingUp t p s q turn u) (put : v ≡ pair_put u q (masks_word t q) (lines_word t q)) where
    pub now_size : length v ≡ 256
    now_size = pair_size t q inv.small u inv.size put

    -- q stands on the way, so the others' bytes stay
    now_stay : (n : ℕ) → n < 256 → above t.k p (n / 16) ≡ false → get_or v n 0 ≡ get_or s n 0
    now_stay n c x = pair_out t q inv.small u inv.size put n (λ z. above_not h b x (rw z inv.way)) ∙ inv.stay n c x

    now_put : (n : ℕ) → n < 256 → above t.k p (n / 16) ≡ true → (get_or v n 0 ≡ byte_of (sheet_of t) n) ⊎ ((n / 16 ≡ q → ⊥) × Above t.k.parent (n / 16) q)
    now_put n c x = go (ℕ_discrete (n / 16) q) (inv.put n c x)
      where
        go : Dec (n / 16 ≡ q) → (get_or u n 0 ≡ byte_of (sheet_of t) n) ⊎ Above t.k.parent (n / 16) q → (get_or v n 0 ≡ byte_of (sheet_of t) n) ⊎ ((n / 16 ≡ q → ⊥) × Above t.k.parent (n / 16) q)
        go (yes z) _ = inl (pair_in t q inv.small u inv.size put n z)
        go (no z) (inl e) = inl (pair_out t q inv.small u inv.size put n z ∙ e)
        go (no z) (inr a) = inr (z, a)

    pub rise_end : q ≡ 0 → v ≡ put_those (above t.k p) t s
    unfolding put_those
    rise_end z = tab_is 256 _ v now_size (λ n c. go n c (above t.k p (n / 16)) refl)
      where
        last : (n : ℕ) → (get_or v n 0 ≡ byte_of (sheet_of t) n) ⊎ ((n / 16 ≡ q → ⊥) × Above t.k.parent (n / 16) q) → get_or v n 0 ≡ byte_of (sheet_of t) n
        last n (inl e) = e
        last n (inr (m, a)) = absurd (m (top_only h z a ∙ sym z))

        go : (n : ℕ) → n < 256 → (x : Bool) → above t.k p (n / 16) ≡ x → get_or v n 0 ≡ cond x (byte_of (sheet_of t) n) (get_or s n 0)
        go n c true x = last n (now_put n c x)
        go n c false x = now_stay n c x

    pub rise_on : (q ≡ 0 → ⊥) → {r : ℕ} → t.k.parent q ≡ r → GoingUp t p s r (turn + 1) v
    rise_on z {r} e =
        let (m, d, c) = step inv.climbs in
        record {
          small = rw (← e) (parent_range h q);
          steps = m;
          turns = omega (arith, inv.turns, d);
          climbs = rw (← e) c;
          way = rw (← e) (more inv.way);
          size = now_size;
          stay = now_stay;
          put = λ n c x. on n (now_put n c x);
        }
      where
        step : {m : ℕ} → Reaches t.k.parent m q → (j : ℕ) × (m ≡ suc j) × Reaches t.k.parent j (t.k.parent q)
        step (at_root y) = absurd (z y)
        step {m = suc m} (by_step c) = (m, refl, c)

        more : {x : ℕ} → Above t.k.parent q x → Above t.k.parent (t.k.parent q) x
        more (itself y) = higher (itself (ap t.k.parent y))
        more (higher a) = higher (more a)

        next : {x : ℕ} → (x ≡ q → ⊥) → Above t.k.parent x q → Above t.k.parent x (t.k.parent q)
        next m (itself y) = absurd (m (sym y))
        next m (higher a) = a

        on : (n : ℕ) → (get_or v n 0 ≡ byte_of (sheet_of t) n) ⊎ ((n / 16 ≡ q → ⊥) × Above t.k.parent (n / 16) q) → (get_or v n 0 ≡ byte_of (sheet_of t) n) ⊎ Above t.k.parent (n / 16) r
        on n (inl d) = inl d
        on n (inr (m, a)) = inr (rw (← e) (next m a))

-- ── the walk over all: who is absent below p has zero words ──
abbrev pub or_zero : Table → ℕ → ℕ → ℕ
or_zero t n x = cond (absent t.k (n / 16)) (byte_of (sheet_of t) n) x

module _ (t : Table) {s : List ℕ} where
  pub zero_start : length s ≡ 256 → Filling (or_zero t) s 256 (16 * 0) s
  zero_start h = fill_start h

  module _ (p : ℕ) {u : List ℕ} (inv : Filling (or_zero t) s 256 (16 * p) u) (b : p < 16) where
    pub zero_put : present t.k p ≡ false → {v : List ℕ} → v ≡ pair_put u p 0 0 → Filling (or_zero t) s 256 (16 * (p + 1)) v
    unfolding masks_word lines_word present absent
    zero_put q put = pair_on_law (sheet_of t) (or_zero t) p inv b (λ n x e. rw (e, gone) refl) (pair_sheet t p b u (rw q refl) (rw q refl) put)
      where
        gone : is_none (t.k.area p 0) ≡ true
        gone = go (t.k.area p 0) q
          where
            go : (o : Opt Area) → is_some o ≡ false → is_none o ≡ true
            go none _ = refl
            go (some a) z = sym z

    pub zero_skip : present t.k p ≡ true → Filling (or_zero t) s 256 (16 * (p + 1)) u
    unfolding present absent
    zero_skip q = record { within = omega arith; size = inv.size; below = λ n c. go n c (dec_lt n (16 * p)); above = λ n c. inv.above n (omega arith) }
      where
        here : is_none (t.k.area p 0) ≡ false
        here = on (t.k.area p 0) q
          where
            on : (o : Opt Area) → is_some o ≡ true → is_none o ≡ false
            on none z = sym z
            on (some a) _ = refl

        go : (n : ℕ) → n < 16 * (p + 1) → Dec (n < 16 * p) → get_or u n 0 ≡ or_zero t n (get_or s n 0)
        go n c (yes d) = inv.below n d
        go n c (no d) = let e : n / 16 ≡ p = omega arith in inv.above n (omega arith) ∙ rw (e, here) refl

  pub zero_end : {u : List ℕ} {i : ℕ} → Filling (or_zero t) s 256 i u → 256 ≤ i → u ≡ put_those (absent t.k) t s
  unfolding put_those
  zero_end inv h = fill_tab inv h

-- who is gone, and then the way up from the current one
pub gone_put : (t : Table) (s : List ℕ) {c : ℕ} {u v : List ℕ} → t.k.current ≡ c → u ≡ put_those (absent t.k) t s → v ≡ put_those (above t.k c) t u → v ≡ put_those (touches Gone t.k) t s
unfolding touches
gone_put t s e q r = r ∙ rw (q, ← e) (those_twice t (above t.k t.k.current) (absent t.k) s)
