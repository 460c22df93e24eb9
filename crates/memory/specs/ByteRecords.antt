-- The bytes of a table, record by record. Of a record that is zero nothing has to be loaded or stored.
use Rattle.std.specs.Prelude.{◌≡◌, false, List, ℕ, ◌+◌, ◌*◌, ◌≤◌, ◌<◌, length, get_or, drop, replicate}
use Rattle.loops.specs.Loops.{names, Filling}
use Rattle.tables.specs.View.{area_word_at}
use Rattle.tables.specs.Spelling.{ZeroWords}
use Rattle.memory.specs.Bytes.{word_from, word_at, byte_of}

-- the words of the bytes b from word n on are zero
pub record ZeroEnd (b : List ℕ) (n : ℕ) : Type 0 where
  pub within : n ≤ 641
  pub zero : (i : ℕ) → 8 * n ≤ i → i < 5128 → get_or b i 0 ≡ 0

-- A record that begins with a zero word is zero, as in a sound table: there only an absent partition begins so.
pub record HeaderTells (l : List ℕ) : Type 0 where
  pub zero : (p : ℕ) → p < 16 → area_word_at l p 0 ≡ 0 → ZeroWords l p

-- .. so it is of the bytes of p
pub record TellsAt (b : List ℕ) (p : ℕ) : Type 0 where
  pub zero : word_from b (8 + 320 * p) ≡ 0 → (i : ℕ) → 8 + 320 * p ≤ i → i < 328 + 320 * p → get_or b i 0 ≡ 0

-- .. and of every partition's
pub record BytesTell (b : List ℕ) : Type 0 where
  pub at : (p : ℕ) → p < 16 → TellsAt b p

-- Where the bit of p is not set in m, its bytes in b are those of the words l ..
pub record StoredAt (m : ℕ) (l b : List ℕ) (p : ℕ) : Type 0 where
  pub there : names m p ≡ false → (n : ℕ) → 8 + 320 * p ≤ n → n < 328 + 320 * p → get_or b n 0 ≡ byte_of l n

-- .. and so every partition's; m has no other bits
pub record StoredBut (m : ℕ) (l b : List ℕ) : Type 0 where
  pub small : m < 0x1_0000
  pub at : (p : ℕ) → p < 16 → StoredAt m l b p

-- The words of l are zero but for the first, the root's header, its first structure and its first slot.
pub record RootOnly (l : List ℕ) : Type 0 where
  pub zero : (n : ℕ) → n < 641 → (n ≡ 0 → ⊥) → (n ≡ 1 → ⊥) → (n ≡ 2 → ⊥) → (n ≡ 9 → ⊥) → get_or l n 0 ≡ 0

-- at k, t has the words of the bytes b below k, and is zero from there on
abbrev pub Loading : List ℕ → ℕ → List ℕ → Type 0
Loading b k t = Filling (λ i x. word_at b i) (replicate 641 0) 641 k t

-- r are the bytes of the records: where l has the words of the table's bytes below the records' word j, t has those below their word k
pub record LoadedOn (r : List ℕ) (j k : ℕ) (l t : List ℕ) : Type 0 where
  pub of : (b : List ℕ) → r ≡ drop 8 b → Loading b (j + 1) l → Loading b (k + 1) t

-- the bytes of s from byte i up to byte j are g's, and the others are those of b
pub record Wrote (g : ℕ → ℕ) (b : List ℕ) (i j : ℕ) (s : List ℕ) : Type 0 where
  pub size : length s ≡ 5128
  pub at : (n : ℕ) → i ≤ n → n < j → get_or s n 0 ≡ g n
  pub before : (n : ℕ) → n < i → get_or s n 0 ≡ get_or b n 0
  pub after : (n : ℕ) → j ≤ n → get_or s n 0 ≡ get_or b n 0
