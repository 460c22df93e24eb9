-- The sheet in bytes: compared pair by pair it is compared word by word, written pair by pair it is written whole; and bytes and words are the same sheet.
use Rattle.std.specs.Prelude.{◌≡◌, Bool, false, cond, ◌&&◌, ◌↔◌, ℕ, ◌+◌, ◌*◌, ◌/◌, ◌%◌, ◌≤◌, ◌<◌, eqb, length, get_or}
use Rattle.std.proofs.Math.Path.{refl, ap}
use Rattle.std.proofs.Common.{sym, subst, ◌∙◌, add-zero, add_assoc, length-set, eq-eqb, ne_eqb, eqb-true}
use Rattle.std.proofs.Math.Bool.{true}
use Rattle.std.proofs.lemmas.Bool.{false≢true}
use mathlib.Core.List.{List, []}
use Rattle.std.proofs.Math.Decide.{ℕ_discrete}
use native.Mathlib.Omega.{arith}
use Rattle.loops.specs.Loops.{all, tab, Filling}
use Rattle.loops.specs.Laws.Every.{bool_ext, all_of, all_at}
use Rattle.loops.specs.Laws.Carry.{done_keeps}
use Rattle.loops.specs.Laws.Rewrite.{length_tab, tab_at, tab_is, fill_start, fill_put, fill_tab}
use Rattle.tables.specs.State.{Table}
use Rattle.memory.specs.Bytes.{word_from, word_at, byte_of, put_word}
use Rattle.memory.specs.Laws.ByteTrips.{byte_place, bytes_there}
use Rattle.sound.specs.Laws.Tests.{and_says, and_true}
use Rattle.sheetrules.specs.Sheet.{masks_word, lines_word, sheet_word, sheet_of, matches}
use Rattle.sheetrules.specs.Bytes.{handed_sheet, sheet_bytes, pair_is, pair_matches, pair_put}

-- ── the two words of a partition ──
module _ (t : Table) (p : ℕ) where
  word_even : {n : ℕ} → n ≡ 2 * p → sheet_word t n ≡ masks_word t p
  unfolding sheet_word
  word_even {n} z =
      let e : n % 2 ≡ 0 = omega arith in
      let d : n / 2 ≡ p = omega arith in
      rw (e, d) refl

  word_odd : {n : ℕ} → n ≡ 2 * p + 1 → sheet_word t n ≡ lines_word t p
  unfolding sheet_word
  word_odd {n} z =
      let e : n % 2 ≡ 1 = omega arith in
      let d : n / 2 ≡ p = omega arith in
      rw (e, d) refl

  module _ (h : p < 16) where
    pub sheet_even : get_or (sheet_of t) (2 * p) 0 ≡ masks_word t p
    unfolding sheet_of
    sheet_even = tab_at 32 (sheet_word t) (2 * p) (omega arith) ∙ word_even refl

    pub sheet_odd : get_or (sheet_of t) (2 * p + 1) 0 ≡ lines_word t p
    unfolding sheet_of
    sheet_odd = tab_at 32 (sheet_word t) (2 * p + 1) (omega arith) ∙ word_odd refl

-- ── the sheet is the table's ──
pub sheet_length : (t : Table) → length (sheet_of t) ≡ 32
unfolding sheet_of
sheet_length t = length_tab 32 (sheet_word t)

pub matches_means : (s : List ℕ) (t : Table) → (matches s t ≡ true) ↔ (s ≡ sheet_of t)
unfolding matches sheet_of
matches_means s t = (to, back)
  where
    to : eqb (length s) 32 && all 32 (λ n. eqb (get_or s n 0) (sheet_word t n)) ≡ true → s ≡ tab 32 (sheet_word t)
    to q =
        let (a, b) = and_says (eqb (length s) 32) (all 32 (λ n. eqb (get_or s n 0) (sheet_word t n))) q in
        tab_is 32 (sheet_word t) s (eqb-true (length s) 32 a) (λ n h. eqb-true _ _ (all_at 32 (λ n. eqb (get_or s n 0) (sheet_word t n)) b n h))

    back : s ≡ tab 32 (sheet_word t) → eqb (length s) 32 && all 32 (λ n. eqb (get_or s n 0) (sheet_word t n)) ≡ true
    back e =
        and_true _ _ (eq-eqb (length s) 32 (ap length e ∙ length_tab 32 (sheet_word t)))
        (all_of 32 (λ n. eqb (get_or s n 0) (sheet_word t n)) (λ n h. eq-eqb (get_or s n 0) (sheet_word t n) (ap (λ (x : List ℕ). get_or x n 0) e ∙ tab_at 32 (sheet_word t) n h)))

-- ── compared pair by pair ──
pub short_sheet : (b : List ℕ) (t : Table) → (length b ≡ 256 → ⊥) → false ≡ matches (handed_sheet b) t
unfolding handed_sheet matches
short_sheet b t h = rw (ne_eqb (length b) 256 h) refl

pub short_handed : (b : List ℕ) → (length b ≡ 256 → ⊥) → length (handed_sheet b) ≡ 32 → ⊥
unfolding handed_sheet
short_handed b h z = absurd (omega (arith, subst (λ (x : Bool). length (cond x (tab 32 (word_at b)) []) ≡ 32) (ne_eqb (length b) 256 h) z))

-- a sheet that matches has its length
pub matches_length : (b : List ℕ) (t : Table) → matches (handed_sheet b) t ≡ true → length b ≡ 256
matches_length b t q = go (ℕ_discrete (length b) 256)
  where
    go : Dec (length b ≡ 256) → length b ≡ 256
    go (yes z) = z
    go (no z) = absurd (false≢true (short_sheet b t z ∙ q))

module _ (b : List ℕ) (t : Table) (size : length b ≡ 256) where
  abbrev same : ℕ → Bool
  same n = eqb (get_or (tab 32 (word_at b)) n 0) (sheet_word t n)

  even_same : (p : ℕ) → p < 16 → {n : ℕ} → n ≡ 2 * p → same n ≡ eqb (word_at b (2 * p)) (masks_word t p)
  even_same p h {n} z = rw (tab_at 32 (word_at b) n (omega arith), word_even t p z, z) refl

  odd_same : (p : ℕ) → p < 16 → {n : ℕ} → n ≡ 2 * p + 1 → same n ≡ eqb (word_at b (2 * p + 1)) (lines_word t p)
  odd_same p h {n} z = rw (tab_at 32 (word_at b) n (omega arith), word_odd t p z, z) refl

  pub sheet_pairs : all 16 (pair_matches b t) ≡ matches (handed_sheet b) t
  unfolding handed_sheet matches pair_is
  sheet_pairs = rw (eq-eqb (length b) 256 size, length_tab 32 (word_at b)) (bool_ext _ _ to back)
    where
      to : all 16 (pair_matches b t) ≡ true → all 32 same ≡ true
      to q = all_of 32 same (λ n h. at n h (ℕ_discrete (n % 2) 0))
        where
          at : (n : ℕ) → n < 32 → Dec (n % 2 ≡ 0) → same n ≡ true
          at n h (yes z) = even_same (n / 2) (omega arith) (omega arith) ∙ (and_says _ _ (all_at 16 (pair_matches b t) q (n / 2) (omega arith))).0
          at n h (no z) = odd_same (n / 2) (omega arith) (omega arith) ∙ (and_says (eqb (word_at b (2 * (n / 2))) (masks_word t (n / 2))) _ (all_at 16 (pair_matches b t) q (n / 2) (omega arith))).1

      back : all 32 same ≡ true → all 16 (pair_matches b t) ≡ true
      back q = all_of 16 (pair_matches b t) (λ p h.
          and_true _ _ (sym (even_same p h refl) ∙ all_at 32 same q (2 * p) (omega arith)) (sym (odd_same p h refl) ∙ all_at 32 same q (2 * p + 1) (omega arith)))

-- the exits: the first word differs; it does not
first_word : (b : List ℕ) (p : ℕ) {i x : ℕ} → i ≡ 16 * p → x ≡ word_from b i → x ≡ word_at b (2 * p)
unfolding word_at
first_word b p {i} e q = let z : i ≡ 8 * (2 * p) = omega arith in q ∙ ap (word_from b) z

module _ (b : List ℕ) (p m l : ℕ) {i x : ℕ} (e : i ≡ 16 * p) (q : x ≡ word_from b i) where
  pub pair_differs : (x ≡ m → ⊥) → false ≡ pair_is b p m l
  unfolding pair_is
  pair_differs n = rw (ne_eqb (word_at b (2 * p)) m (λ z. n (first_word b p e q ∙ z))) refl

  pub pair_second : {j y : ℕ} → j ≡ 16 * p + 8 → x ≡ m → y ≡ word_from b j → eqb y l ≡ pair_is b p m l
  unfolding pair_is word_at
  pair_second {j} {y} d n k =
      let z : j ≡ 8 * (2 * p + 1) = omega arith in
      rw (eq-eqb (word_at b (2 * p)) m (sym (first_word b p e q) ∙ n), k ∙ ap (word_from b) z) refl

-- ── written pair by pair ──
pub put_length : (b : List ℕ) (i w : ℕ) → length (put_word b i w) ≡ length b
put_length b i w = done_keeps _ b (λ j s. length s ≡ length b) 8 refl (λ j s h q. length-set s (i + j) _ ∙ q)

-- a word of the sheet is put, where g says the sheet's bytes
fill_word : (sheet : List ℕ) (g : ℕ → ℕ → ℕ) {b s u : List ℕ} (n : ℕ) {i : ℕ} → Filling g b 256 i s → n < 32 → i ≡ 8 * n → ((j x : ℕ) → j < 8 → g (i + j) x ≡ byte_of sheet (i + j)) → u ≡ put_word s i (get_or sheet n 0)
    → Filling g b 256 (i + 8) u
fill_word sheet g {b} {s} n {i} inv h e at z =
    rw z
    (done_keeps _ s (λ j u. Filling g b 256 (i + j) u) 8 (rw add-zero inv)
    (λ j u c f. rw (← add_assoc) (fill_put f (omega arith) (sym (ap (λ (n : ℕ). byte_of sheet (n + j)) e ∙ byte_place sheet n j c) ∙ sym (at j _ c)))))

-- the two words of p are put
pub pair_put_law : (p : ℕ) (b : List ℕ) {m n x y i j : ℕ} {s u : List ℕ} → m ≡ x → n ≡ y → i ≡ 16 * p → j ≡ 16 * p + 8 → s ≡ put_word b i m → u ≡ put_word s j n → u ≡ pair_put b p x y
pair_put_law p b q r d e z w = w ∙ rw (z, r, q, d, e) refl

-- .. and are those of the sheet
pub pair_sheet : (t : Table) (p : ℕ) → p < 16 → (b : List ℕ) {x y : ℕ} {u : List ℕ} → x ≡ masks_word t p → y ≡ lines_word t p → u ≡ pair_put b p x y → u ≡ pair_put b p (get_or (sheet_of t) (2 * p) 0) (get_or (sheet_of t) (2 * p + 1) 0)
pair_sheet t p h b q r z = z ∙ rw (q, r, ← sheet_even t p h, ← sheet_odd t p h) refl

-- the pair of p is put, where g says the sheet's bytes
pub pair_on_law : (sheet : List ℕ) (g : ℕ → ℕ → ℕ) {b : List ℕ} (p : ℕ) {s u : List ℕ} → Filling g b 256 (16 * p) s → p < 16 → ((k x : ℕ) → k / 16 ≡ p → g k x ≡ byte_of sheet k)
    → u ≡ pair_put s p (get_or sheet (2 * p) 0) (get_or sheet (2 * p + 1) 0) → Filling g b 256 (16 * (p + 1)) u
pair_on_law sheet g {b} p {s} {u} inv h at put =
    subst (λ (n : ℕ). Filling g b 256 n u) (omega arith)
    (fill_word sheet g (2 * p + 1) {i = 16 * p + 8} (fill_word sheet g (2 * p) {i = 16 * p} inv (omega arith) (omega arith) (λ j x c. at (16 * p + j) x (omega arith)) refl) (omega arith) (omega arith) (λ j x c. at (16 * p + 8 + j) x (omega arith)) put)

module _ (sheet : List ℕ) {b : List ℕ} where
  pub sheet_start : length b ≡ 256 → Filling (λ k x. byte_of sheet k) b 256 (16 * 0) b
  sheet_start h = fill_start h

  pub sheet_on : (p : ℕ) {s u : List ℕ} → Filling (λ k x. byte_of sheet k) b 256 (16 * p) s → p < 16 → u ≡ pair_put s p (get_or sheet (2 * p) 0) (get_or sheet (2 * p + 1) 0)
      → Filling (λ k x. byte_of sheet k) b 256 (16 * (p + 1)) u
  sheet_on p inv h put = pair_on_law sheet (λ k x. byte_of sheet k) p inv h (λ k x e. refl) put

  pub sheet_end : {s : List ℕ} {i : ℕ} → Filling (λ k x. byte_of sheet k) b 256 i s → 256 ≤ i → s ≡ sheet_bytes sheet
  unfolding sheet_bytes
  sheet_end inv h = fill_tab inv h

-- ── bytes and words ──
module _ (b : List ℕ) (size : length b ≡ 256) where
  pub handed_words : handed_sheet b ≡ tab 32 (word_at b)
  unfolding handed_sheet
  handed_words = rw (eq-eqb (length b) 256 size) refl

  pub handed_length : length (handed_sheet b) ≡ 32
  handed_length = ap length handed_words ∙ length_tab 32 (word_at b)

  pub sheet_bytes_law : ((i : ℕ) → get_or b i 0 < 256) → sheet_bytes (handed_sheet b) ≡ b
  unfolding sheet_bytes
  sheet_bytes_law small = ap (λ (s : List ℕ). tab 256 (byte_of s)) handed_words ∙ bytes_there 32 b size (λ i _. small i)

-- two words are those of p in the bytes where its own are
pub pair_same : (b : List ℕ) (t : Table) (p : ℕ) {r : Bool} {x y : ℕ} → r ≡ pair_is b p x y → x ≡ masks_word t p → y ≡ lines_word t p → r ≡ pair_matches b t p
pair_same b t p q e d = q ∙ rw (e, d) refl
