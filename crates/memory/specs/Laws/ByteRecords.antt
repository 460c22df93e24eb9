-- Records loaded or stored one by one, those that are zero passed over, are the whole table; and two results are equal.
use Rattle.std.specs.Prelude.{◌≡◌, refl, true, false, List, ℕ, ◌+◌, ◌-◌, ◌*◌, ◌/◌, ◌%◌, ◌≤◌, ◌<◌, length, set, take, drop, replicate}
use Rattle.std.proofs.Math.Path.{ap, sym}
use Rattle.std.proofs.Common.{subst, ◌∙◌, add-zero, add_assoc, arith, length-drop, length-set, eq-eqb, ne_eqb, lt-ltb, le-ltb, ext_get_or, take_all, get_or-drop, get_or-set_same, get_or-set_other}
use Rattle.std.proofs.Math.Decide.{ℕ_discrete, dec_lt}
use Rattle.std.proofs.Math.ListN.{get_or, get_or-replicate}
use Rattle.std.proofs.lemmas.List.{length-replicate}
use Rattle.loops.specs.Laws.Carry.{done_keeps}
use Rattle.loops.specs.Loops.{tab_from, names}
use Rattle.loops.specs.Laws.Rewrite.{tab_at, tab_is, tab_ext, fill_start, fill_put}
use Rattle.words.specs.Parts.{pack_parts}
use Rattle.tables.specs.View.{record_word, area_word_at}
use Rattle.tables.specs.State.{none, Table}
use Rattle.tables.specs.Encode.{header_word, structure_word, slot_word, part_word, word_for, encode}
use Rattle.tables.specs.Laws.Encode.{regions_none, encode_at}
use Rattle.tables.specs.Spelling.{ZeroWords}
use Rattle.tables.specs.Laws.ZeroRecord.{zero_record_means}
use Rattle.tables.specs.Top.{Top}
use Rattle.memory.specs.Bytes.{octets, word_from, word_at, byte_at, byte_of, words_of, bytes_of, record_byte, put_word}
use Rattle.memory.specs.Quads.{zero_forty}
use Rattle.memory.specs.Laws.Quads.{zero_forty_law}
use Rattle.memory.specs.Laws.ByteTrips.{byte_place, bytes_words, record_byte_law as record-place}
use Rattle.memory.specs.ByteRecords.{ZeroEnd, HeaderTells, TellsAt, BytesTell, StoredAt, StoredBut, RootOnly, Loading, LoadedOn, Wrote}

-- two results of one that loads or writes are equal
pub loading_one : (b : List ℕ) {k : ℕ} {s t : List ℕ} → Loading b k s → Loading b k t → s ≡ t
loading_one b {k} {s} {t} x y = ext_get_or 0 s t (x.size ∙ sym y.size) (λ i _. go i (dec_lt i k))
  where
    go : (i : ℕ) → Dec (i < k) → get_or s i 0 ≡ get_or t i 0
    go i (yes h) = x.below i h ∙ sym (y.below i h)
    go i (no h) = x.above i (omega arith) ∙ sym (y.above i (omega arith))

pub wrote_one : {g : ℕ → ℕ} {b : List ℕ} {i j : ℕ} {s t : List ℕ} → Wrote g b i j s → Wrote g b i j t → s ≡ t
wrote_one {i = i} {j} {s} {t} x y = ext_get_or 0 s t (x.size ∙ sym y.size) (λ n _. go n (dec_lt n i) (dec_lt n j))
  where
    go : (n : ℕ) → Dec (n < i) → Dec (n < j) → get_or s n 0 ≡ get_or t n 0
    go n (yes h) _ = x.before n h ∙ sym (y.before n h)
    go n (no h) (yes q) = x.at n (omega arith) q ∙ sym (y.at n (omega arith) q)
    go n (no h) (no q) = x.after n (omega arith) ∙ sym (y.after n (omega arith))

-- ── where the zeros begin ──
pub end_start : {b : List ℕ} → ZeroEnd b 641
end_start = record { within = omega arith; zero = λ i h g. absurd (omega arith) }

-- a record more is zero
pub end_record : {b : List ℕ} (p n : ℕ) {at : ℕ} → ZeroEnd b (1 + 40 * p) → n + 1 ≡ p → at ≡ 8 + 320 * n → zero_forty b at ≡ true → ZeroEnd b (1 + 40 * n)
end_record {b} p n {at} e q from z = record { within = omega (arith, e.within); zero = λ i h g. go i h g (dec_lt i (8 * (1 + 40 * p))) }
  where
    go : (i : ℕ) → 8 * (1 + 40 * n) ≤ i → i < 5128 → Dec (i < 8 * (1 + 40 * p)) → get_or b i 0 ≡ 0
    go i h g (yes x) = zero_forty_law b at z i (omega arith) (omega arith)
    go i h g (no x) = e.zero i (omega arith) g

module _ {b : List ℕ} {n : ℕ} (e : ZeroEnd b n) where
  zero_at : (k : ℕ) → n ≤ k → k < 641 → word_at b k ≡ 0
  unfolding word_at tab_from
  zero_at k h g = ap (pack_parts octets) (tab_ext 8 _ (λ j. 0) (λ j q. e.zero (8 * k + j) (omega arith) (omega arith)))

  -- the words from there on are zero, as they were
  pub load_rest : {k : ℕ} {t : List ℕ} → Loading b k t → n ≤ k → t ≡ words_of b
  unfolding words_of
  load_rest {k} {t} inv h = tab_is 641 (word_at b) t inv.size (λ i g. go i g (dec_lt i k))
    where
      go : (i : ℕ) → i < 641 → Dec (i < k) → get_or t i 0 ≡ word_at b i
      go i g (yes x) = inv.below i x
      go i g (no x) = inv.above i (omega arith) ∙ get_or-replicate 641 i 0 0 g ∙ sym (zero_at i (omega arith) g)

  -- so are the records that begin there or later
  pub end_top : {r : ℕ} → r ≤ 16 → n ≤ 1 + 40 * r → Top (words_of b) r
  unfolding words_of record_word
  end_top few past = record {
    within = few;
    zero = λ p h g. (zero_record_means (words_of b) p).1 (λ o q. tab_at 641 (word_at b) (1 + 40 * p + o) (omega arith) ∙ zero_at (1 + 40 * p + o) (omega arith) (omega arith));
  }

-- ── loaded ──
word_at_law : (b : List ℕ) (k : ℕ) {i : ℕ} → i ≡ 8 * k → word_from b i ≡ word_at b k
unfolding word_at
word_at_law b k e = ap (word_from b) e

pub load_start : (b : List ℕ) {t : List ℕ} → t ≡ replicate 641 0 → Loading b 0 t
load_start b e = rw e (fill_start (length-replicate {A = ℕ} 641 0))

-- one word more
pub load_word : (b : List ℕ) {t : List ℕ} {k i w : ℕ} → Loading b k t → k < 641 → i ≡ 8 * k → w ≡ word_from b i → Loading b (k + 1) (set t k w)
load_word b {k = k} inv h e q = fill_put inv h (q ∙ word_at_law b k e)

pub load_at : (b : List ℕ) {t : List ℕ} {i : ℕ} (j : ℕ) → i ≡ j → Loading b i t → Loading b j t
load_at b {t} j e inv = subst (λ (k : ℕ). Loading b k t) e inv

-- the records' bytes, which begin behind word 0, as the code hands them over
pub records_part : (b : List ℕ) → take (length b - 8) (drop 8 b) ≡ drop 8 b
records_part b = take_all (length b - 8) (drop 8 b) (omega (arith, length-drop 8 b))

-- .. and a word of them
behind : (b : List ℕ) (k : ℕ) → word_from (drop 8 b) (8 * k) ≡ word_from b (8 * (k + 1))
unfolding tab_from
behind b k = ap (pack_parts octets) (tab_ext 8 _ _ at)
  where
    at : (j : ℕ) → j < 8 → get_or (drop 8 b) (8 * k + j) 0 ≡ get_or b (8 * (k + 1) + j) 0
    at j q = let e : 8 + (8 * k + j) ≡ 8 * (k + 1) + j = omega arith in get_or-drop 8 b (8 * k + j) 0 ∙ rw e refl

module _ {r l : List ℕ} {j : ℕ} where
  pub loads_none : LoadedOn r j j l l
  loads_none = record { of = λ b e inv. inv }

  pub loads_at : {k : ℕ} {t : List ℕ} (n : ℕ) → LoadedOn r j k l t → k ≡ n → LoadedOn r j n l t
  loads_at {t = t} n s e = subst (λ (k : ℕ). LoadedOn r j k l t) e s

  pub loads_on : {k n : ℕ} {s t : List ℕ} → LoadedOn r j k l s → LoadedOn r k n s t → LoadedOn r j n l t
  loads_on x y = record { of = λ b e inv. y.of b e (x.of b e inv) }

  -- one word more
  pub loads_word : {k i n w : ℕ} {t : List ℕ} → LoadedOn r j k l t → k < 640 → n ≡ k + 1 → i ≡ 8 * k → w ≡ word_from r i → LoadedOn r j (k + 1) l (set t n w)
  loads_word {k} {i} {n} {w} x h place from e = rw place (record { of = λ b q inv. load_word b (x.of b q inv) (omega arith) refl (e ∙ rw (q, from) (behind b k)) })

-- ── written ──
module _ {g : ℕ → ℕ} {b : List ℕ} where
  pub wrote_none : (i : ℕ) → length b ≡ 5128 → Wrote g b i i b
  wrote_none i h = record { size = h; at = λ n x y. absurd (omega arith); before = λ n x. refl; after = λ n x. refl }

  module _ {i j : ℕ} {s : List ℕ} (w : Wrote g b i j s) where
    -- the same places, written otherwise
    pub wrote_at : (m k : ℕ) → i ≡ m → j ≡ k → Wrote g b m k s
    wrote_at m k d e = subst (λ (n : ℕ). Wrote g b m n s) e (subst (λ (n : ℕ). Wrote g b n j s) d w)

    pub wrote_byte : {v : ℕ} → i ≤ j → j < 5128 → v ≡ g j → Wrote g b i (j + 1) (set s j v)
    wrote_byte {v} h q e = record {
      size = length-set s j v ∙ w.size;
      at = λ n x y. go n x y (ℕ_discrete n j);
      before = λ n x. other n (omega arith) ∙ w.before n x;
      after = λ n x. other n (omega arith) ∙ w.after n (omega arith);
    }
      where
        other : (n : ℕ) → (n ≡ j → ⊥) → get_or (set s j v) n 0 ≡ get_or s n 0
        other n c = get_or-set_other s j n v 0 c

        go : (n : ℕ) → i ≤ n → n < j + 1 → Dec (n ≡ j) → get_or (set s j v) n 0 ≡ g n
        go n x y (yes z) = rw z (get_or-set_same s j v 0 (omega (arith, w.size)) ∙ e)
        go n x y (no z) = other n z ∙ w.at n x (omega arith)

    -- .. and then from there on
    pub wrote_on : {k : ℕ} {t : List ℕ} → i ≤ j → j ≤ k → Wrote g s j k t → Wrote g b i k t
    wrote_on {k} {t} h q x = record {
      size = x.size;
      at = λ n y z. go n y z (dec_lt n j);
      before = λ n y. x.before n (omega arith) ∙ w.before n y;
      after = λ n y. x.after n y ∙ w.after n (omega arith);
    }
      where
        go : (n : ℕ) → i ≤ n → n < k → Dec (n < j) → get_or t n 0 ≡ g n
        go n y z (yes c) = x.before n c ∙ w.at n y c
        go n y z (no c) = x.at n (omega arith) z

-- a word put at its place is eight bytes of the table
pub wrote_word : (l : List ℕ) (k : ℕ) {s t : List ℕ} {i : ℕ} → t ≡ put_word s i (get_or l k 0) → length s ≡ 5128 → k < 641 → i ≡ 8 * k → Wrote (byte_of l) s i (i + 8) t
wrote_word l k {s} {i = i} r size h e =
    rw r
    (done_keeps _ s (λ j t. Wrote (byte_of l) s i (i + j) t) 8 (rw add-zero (wrote_none i size))
    (λ j t q f. rw (← add_assoc) (wrote_byte f (omega arith) (omega arith) (sym (ap (λ (n : ℕ). byte_of l (n + j)) e ∙ byte_place l k j q)))))

-- the whole table
pub wrote_all : (l : List ℕ) {b s : List ℕ} → Wrote (byte_of l) b 0 5128 s → s ≡ bytes_of l
unfolding bytes_of
wrote_all l {s = s} w = tab_is 5128 (byte_of l) s w.size (λ n h. w.at n (omega arith) h)

-- ── zero words are zero bytes ──
byte_zero : (j : ℕ) → j < 8 → byte_at 0 j ≡ 0
unfolding byte_at
byte_zero j h = get_or-replicate 8 j 0 0 h

record_byte_law : (l : List ℕ) (p : ℕ) → ZeroWords l p → (i : ℕ) → 8 + 320 * p ≤ i → i < 328 + 320 * p → byte_of l i ≡ 0
unfolding record_word
record_byte_law l p z i h g = rw (word (i / 8 - (1 + 40 * p)) (omega arith) (omega arith)) (byte_zero (i % 8) (omega arith))
  where
    word : (o : ℕ) → i / 8 ≡ 1 + 40 * p + o → o < 40 → get_or l (i / 8) 0 ≡ 0
    word o e h = rw e (z o h)

-- an absent record that is cleared is stored
pub clear_stored : (l : List ℕ) (p : ℕ) {b s : List ℕ} → ZeroWords l p → Wrote (λ n. 0) b (8 + 320 * p) (328 + 320 * p) s → Wrote (byte_of l) b (8 + 320 * p) (328 + 320 * p) s
clear_stored l p z w = record { size = w.size; at = λ n x y. w.at n x y ∙ sym (record_byte_law l p z n x y); before = w.before; after = w.after }

-- one that is zero is cleared
pub zero_cleared : {b : List ℕ} (p : ℕ) → length b ≡ 5128 → TellsAt b p → word_from b (8 + 320 * p) ≡ 0 → Wrote (λ n. 0) b (8 + 320 * p) (328 + 320 * p) b
zero_cleared p size t z = record { size = size; at = t.zero z; before = λ n x. refl; after = λ n x. refl }

-- bytes whose words tell, tell
pub bytes_tell : {b : List ℕ} → length b ≡ 5128 → ((i : ℕ) → i < 5128 → get_or b i 0 < 256) → HeaderTells (words_of b) → BytesTell b
unfolding words_of bytes_of area_word_at word_at
bytes_tell {b} size small h = record {
  at = λ p x. record {
    zero = λ e i y z.
        let n : 8 + 320 * p ≡ 8 * (1 + 40 * p + 0) = omega arith in
        ap (λ (s : List ℕ). get_or s i 0) (sym (bytes_words b size small))
        ∙ tab_at 5128 (byte_of (words_of b)) i (omega arith)
        ∙ record_byte_law (words_of b) p (h.zero p x (tab_at 641 (word_at b) (1 + 40 * p + 0) (omega arith) ∙ rw n at e)) i y z;
  };
}

-- what was written before a record leaves what it tells
pub tells_after : {g : ℕ → ℕ} {b s : List ℕ} {j p : ℕ} → Wrote g b 0 j s → j ≤ 8 + 320 * p → TellsAt b p → TellsAt s p
unfolding tab_from
tells_after {b = b} {s} {p = p} w h t = record {
  zero = λ e i x y.
      w.after i (omega arith)
      ∙ t.zero (ap (pack_parts octets) (tab_ext 8 (λ n. get_or b (8 + 320 * p + n) 0) _ (λ n q. sym (w.after (8 + 320 * p + n) (omega arith)))) ∙ e) i x y;
}

-- ── a record that is there already ──
pub there_already : {m : ℕ} {l b : List ℕ} (p : ℕ) → length b ≡ 5128 → StoredAt m l b p → names m p ≡ false → Wrote (byte_of l) b (8 + 320 * p) (328 + 320 * p) b
there_already p size h x = record { size = size; at = h.there x; before = λ n _. refl; after = λ n _. refl }

pub stored_after : {g : ℕ → ℕ} {m : ℕ} {l b s : List ℕ} {j p : ℕ} → Wrote g b 0 j s → j ≤ 8 + 320 * p → StoredAt m l b p → StoredAt m l s p
stored_after w h k = record { there = λ x n a e. w.after n (omega arith) ∙ k.there x n a e }

-- .. for its words are those of the bytes
pub stored_but : {m : ℕ} {l b : List ℕ} → m < 0x1_0000 → length b ≡ 5128 → ((i : ℕ) → i < 5128 → get_or b i 0 < 256) → ((p : ℕ) → p < 16 → names m p ≡ false → (o : ℕ) → o < 40 → record_word l p o ≡ record_word (words_of b) p o) → StoredBut m l b
unfolding record_byte bytes_of
stored_but {m} {l} {b} few size small same = record { small = few; at = λ p a. record { there = λ x n h k. go p a x (n - (8 + 320 * p)) (omega arith) n (omega arith) } }
  where
    go : (p : ℕ) → p < 16 → names m p ≡ false → (i : ℕ) → i < 320 → (n : ℕ) → 8 + 320 * p + i ≡ n → get_or b n 0 ≡ byte_of l n
    go p a x i h n e =
        subst (λ (n : ℕ). get_or b n 0 ≡ byte_of l n) e
        (ap (λ (s : List ℕ). record_byte s p i) (sym (bytes_words b size small))
        ∙ record-place (words_of b) p i a h
        ∙ ap (λ (w : ℕ). byte_at w (i % 8)) (sym (same p a x (i / 8) (omega arith)))
        ∙ sym (record-place l p i a h)
        ∙ tab_at 5128 (byte_of l) (8 + 320 * p + i) (omega arith))

-- ── the root alone ──
-- zeros, and then four words
module _ {l b z r s t u : List ℕ} (only : RootOnly l) (c : Wrote (λ n. 0) b 0 5128 z) where
  pub root_stored : r ≡ put_word z 0 (get_or l 0 0) → s ≡ put_word r 8 (get_or l 1 0) → t ≡ put_word s 16 (get_or l 2 0) → u ≡ put_word t 72 (get_or l 9 0) → u ≡ bytes_of l
  unfolding bytes_of
  root_stored e f g h = tab_is 5128 (byte_of l) u w3.size (λ n q. go n q (dec_lt n 8) (dec_lt n 16) (dec_lt n 24) (dec_lt n 72) (dec_lt n 80))
    where
      w0 : Wrote (byte_of l) z 0 8 r
      w0 = wrote_word l 0 e c.size (omega arith) (omega arith)

      w1 : Wrote (byte_of l) r 8 16 s
      w1 = wrote_word l 1 f w0.size (omega arith) (omega arith)

      w2 : Wrote (byte_of l) s 16 24 t
      w2 = wrote_word l 2 g w1.size (omega arith) (omega arith)

      w3 : Wrote (byte_of l) t 72 80 u
      w3 = wrote_word l 9 h w2.size (omega arith) (omega arith)

      zero : (n : ℕ) → n < 5128 → (n / 8 ≡ 0 → ⊥) → (n / 8 ≡ 1 → ⊥) → (n / 8 ≡ 2 → ⊥) → (n / 8 ≡ 9 → ⊥) → get_or z n 0 ≡ byte_of l n
      zero n q x0 x1 x2 x9 = c.at n (omega arith) q ∙ sym (rw (only.zero (n / 8) (omega arith) x0 x1 x2 x9) (byte_zero (n % 8) (omega arith)))

      -- a byte outside of the four words
      left : (n : ℕ) → n < 5128 → 24 ≤ n → ((72 ≤ n) × (n < 80) → ⊥) → get_or t n 0 ≡ byte_of l n
      left n q x y = w2.after n x ∙ w1.after n (omega arith) ∙ w0.after n (omega arith) ∙ zero n q (λ k. omega arith) (λ k. omega arith) (λ k. omega arith) (λ k. y (omega arith, omega arith))

      go : (n : ℕ) → n < 5128 → Dec (n < 8) → Dec (n < 16) → Dec (n < 24) → Dec (n < 72) → Dec (n < 80) → get_or u n 0 ≡ byte_of l n
      go n q (yes x) _ _ _ _ = w3.before n (omega arith) ∙ w2.before n (omega arith) ∙ w1.before n x ∙ w0.at n (omega arith) x
      go n q (no x) (yes y) _ _ _ = w3.before n (omega arith) ∙ w2.before n y ∙ w1.at n (omega arith) y
      go n q (no x) (no y) (yes v) _ _ = w3.before n (omega arith) ∙ w2.at n (omega arith) v
      go n q (no x) (no y) (no v) (yes m) _ = w3.before n m ∙ left n q (omega arith) (λ k. omega (arith, k.0))
      go n q (no x) (no y) (no v) (no m) (yes k) = w3.at n (omega arith) k
      go n q (no x) (no y) (no v) (no m) (no k) = w3.after n (omega arith) ∙ left n q (omega arith) (λ a. omega (arith, a.1))

-- so are the words of a table with these alone
pub root_only : (t : Table) → ((p j : ℕ) → ((p ≡ 0) × (j < 2) → ⊥) → t.k.area p j ≡ none) → ((p i : ℕ) → ((p ≡ 0) × (i ≡ 0) → ⊥) → t.k.slot p i ≡ none)
    → ((p : ℕ) → t.region p ≡ (λ r. none)) → RootOnly (encode t)
unfolding word_for part_word header_word structure_word slot_word
root_only t area slot region = record { zero = λ n h a b c d. encode_at t n h ∙ rw (ne_eqb n 0 a) (go ((n - 1) / 40) ((n - 1) % 40) (λ z. b (omega arith)) (λ z. c (omega arith)) (λ z. d (omega arith))) }
  where
    go : (p o : ℕ) → ((p ≡ 0) × (o ≡ 0) → ⊥) → ((p ≡ 0) × (o ≡ 1) → ⊥) → ((p ≡ 0) × (o ≡ 8) → ⊥) → part_word t p o ≡ 0
    go p o b c d = at (dec_lt o 8) (ℕ_discrete o 5) (ℕ_discrete o 0) (dec_lt o 5)
      where
        at : Dec (o < 8) → Dec (o ≡ 5) → Dec (o ≡ 0) → Dec (o < 5) → part_word t p o ≡ 0
        at (yes h) (yes x) _ _ = rw (lt-ltb o 8 h, eq-eqb o 5 x, region p) regions_none
        at (yes h) (no x) (yes y) _ = rw (lt-ltb o 8 h, ne_eqb o 5 x, eq-eqb o 0 y, area p 0 (λ z. b (z.0, y))) refl
        at (yes h) (no x) (no y) (yes v) = rw (lt-ltb o 8 h, ne_eqb o 5 x, ne_eqb o 0 y, lt-ltb o 5 v, area p o (λ z. c (z.0, omega (arith, z.1)))) refl
        at (yes h) (no x) (no y) (no v) = rw (lt-ltb o 8 h, ne_eqb o 5 x, ne_eqb o 0 y, le-ltb o 5 (omega arith)) refl
        at (no h) _ _ _ = rw (le-ltb o 8 (omega arith), slot p (o - 8) (λ z. d (z.0, omega (arith, z.1)))) refl
