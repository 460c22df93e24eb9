-- Words to bytes and back, bytes to words and back.
use Rattle.std.specs.Prelude.{◌≡◌, refl, Bool, true, false, List, ℕ, ◌+◌, ◌*◌, ◌/◌, ◌%◌, ◌^◌, ◌<◌, ltb, length, get_or}
use Rattle.std.proofs.Common.{ap, sym, ◌∙◌, arith, lit<, ltb-true, ltb-false}
use Rattle.std.proofs.Math.ListN.{get_or-eq_default}
use Rattle.loops.specs.Loops.{tab, tab_from}
use Rattle.loops.specs.Laws.Rewrite.{length_tab, tab_at, tab_get_d_law, tab_ext}
use Rattle.words.specs.Parts.{pack_parts, unpack}
use Rattle.words.specs.Laws.Parts.{pack_unpack, unpack_pack, pack_lt}
use Rattle.tables.specs.Fitting.{Words}
use Rattle.tables.specs.View.{record_word}
use Rattle.memory.specs.Bytes.{octets, word_at, byte_at, byte_of, words_of, bytes_of, record_byte}

pub length_words_of_law : (b : List ℕ) → length (words_of b) ≡ 641
unfolding words_of
length_words_of_law b = length_tab 641 _

pub length_bytes_of_law : (l : List ℕ) → length (bytes_of l) ≡ 5128
unfolding bytes_of
length_bytes_of_law l = length_tab 5128 _

-- byte 8k + j of a table is byte j of its word k
pub byte_place : (l : List ℕ) (k j : ℕ) → j < 8 → byte_of l (8 * k + j) ≡ byte_at (get_or l k 0) j
byte_place l k j h =
    let m : (8 * k + j) / 8 ≡ k = omega arith in
    let n : (8 * k + j) % 8 ≡ j = omega arith in
    rw (m, n)

-- so the eight bytes of word k of n are the parts of the word
octets_at : (n : ℕ) (l : List ℕ) (k : ℕ) → k < n → tab 8 (λ j. get_or (tab (8 * n) (byte_of l)) (8 * k + j) 0) ≡ unpack octets (get_or l k 0)
unfolding byte_at
octets_at n l k h =
    tab_ext 8 _ _ (λ j q. tab_at (8 * n) _ (8 * k + j) (omega arith) ∙ byte_place l k j q)
    ∙ tab_get_d_law 8 (unpack octets (get_or l k 0)) refl

-- words to bytes and back: n of them, and those of a table
pub words_there : (n : ℕ) (l : List ℕ) → length l ≡ n → ((k : ℕ) → k < n → get_or l k 0 < 2 ^ 64) → tab n (word_at (tab (8 * n) (byte_of l))) ≡ l
unfolding word_at
words_there n l h small =
    tab_ext n _ _
    (λ k q. ap (pack_parts octets) (octets_at n l k q) ∙ pack_unpack octets (get_or l k 0) (small k q) tt)
    ∙ tab_get_d_law n l h

pub words_bytes : (l : List ℕ) → length l ≡ 641 → ((k : ℕ) → k < 641 → get_or l k 0 < 2 ^ 64) → words_of (bytes_of l) ≡ l
unfolding words_of bytes_of
words_bytes l h small = words_there 641 l h small

-- the bytes of a word that is packed from eight bytes are these
byte_at_pack_law : (f : ℕ → ℕ) (j : ℕ) → ((j : ℕ) → j < 8 → f j < 256) → j < 8 → byte_at (pack_parts octets (tab 8 f)) j ≡ f j
unfolding byte_at tab_from
byte_at_pack_law f j small h =
    ap (λ (l : List ℕ). get_or l j 0) (unpack_pack octets (tab 8 f) (search lit<)) ∙ tab_at 8 f j h

-- words of bytes are below 2^64
pub words_small : (b : List ℕ) → ((i : ℕ) → get_or b i 0 < 256) → Words (words_of b)
unfolding words_of word_at tab_from
words_small b small = record { small = λ k. go k (ltb k 641) refl }
  where
    go : (k : ℕ) (x : Bool) → ltb k 641 ≡ x → get_or (words_of b) k 0 < 2 ^ 64
    go k true u = rw (tab_at 641 (word_at b) k (ltb-true k 641 u)) (pack_lt octets (tab 8 (λ j. get_or b (8 * k + j) 0)) (search small))
    go k false u = rw (get_or-eq_default (words_of b) 0 {n = k} (omega (arith, ltb-false k 641 u, length_words_of_law b))) (omega arith)

-- bytes to words and back: those of n words, and of a table
pub bytes_there : (n : ℕ) (b : List ℕ) → length b ≡ 8 * n → ((i : ℕ) → i < 8 * n → get_or b i 0 < 256) → tab (8 * n) (byte_of (tab n (word_at b))) ≡ b
unfolding word_at
bytes_there n b h small =
    tab_ext (8 * n) _ _
    (λ i q.
    ap (λ (w : ℕ). byte_at w (i % 8)) (tab_at n _ (i / 8) (omega arith))
    ∙ byte_at_pack_law (λ j. get_or b (8 * (i / 8) + j) 0) (i % 8) (λ j r. small (8 * (i / 8) + j) (omega arith)) (omega arith)
    ∙ ap (λ (m : ℕ). get_or b m 0) (omega arith))
    ∙ tab_get_d_law (8 * n) b h

pub bytes_words : (b : List ℕ) → length b ≡ 5128 → ((i : ℕ) → i < 5128 → get_or b i 0 < 256) → bytes_of (words_of b) ≡ b
unfolding bytes_of words_of
bytes_words b h small = bytes_there 641 b h small

-- byte n of a record is one of its word n / 8
pub record_byte_law : (l : List ℕ) (p n : ℕ) → p < 16 → n < 320 → record_byte (bytes_of l) p n ≡ byte_at (record_word l p (n / 8)) (n % 8)
unfolding record_byte bytes_of record_word
record_byte_law l p n a b =
    let i : (8 + 320 * p + n) / 8 ≡ 1 + 40 * p + n / 8 = omega arith in
    let j : (8 + 320 * p + n) % 8 ≡ n % 8 = omega arith in
    tab_at 5128 (byte_of l) (8 + 320 * p + n) (omega arith) ∙ rw (i, j) refl

-- a record's words are those of its bytes
pub record_word_law : (b : List ℕ) (p o : ℕ) → p < 16 → o < 40 → record_word (words_of b) p o ≡ pack_parts octets (tab 8 (λ j. record_byte b p (8 * o + j)))
unfolding words_of record_word word_at record_byte
record_word_law b p o h k =
    tab_at 641 (word_at b) (1 + 40 * p + o) (omega arith)
    ∙ ap (pack_parts octets) (tab_ext 8 _ _ (λ j q. ap (λ (n : ℕ). get_or b n 0) (omega arith)))

-- so a record of which no byte changes keeps its words
pub record_stays : (b c : List ℕ) (p : ℕ) → p < 16 → ((n : ℕ) → n < 320 → record_byte c p n ≡ record_byte b p n) → (o : ℕ) → o < 40 → record_word (words_of c) p o ≡ record_word (words_of b) p o
record_stays b c p h same o k =
    record_word_law c p o h k
    ∙ ap (pack_parts octets) (tab_ext 8 _ _ (λ j q. same (8 * o + j) (omega arith)))
    ∙ sym (record_word_law b p o h k)
