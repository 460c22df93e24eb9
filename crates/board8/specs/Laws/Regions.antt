-- Each exit of the code leaves the answer and the numbers that are lent as they should be; and two results are equal.
use Rattle.std.specs.Prelude.{◌≡◌, true, false, List, ℕ, ◌<◌, length, Result, Ok, Err}
use Rattle.std.proofs.Math.Path.{refl, sym}
use Rattle.std.proofs.Common.{ap, ◌∙◌}
use Rattle.words.specs.declared.slot_word.SlotFields.{SlotFields}
use Rattle.shapes.specs.declared.Board.TheVariants.{V8}
use Rattle.memory.specs.Bytes.{words_of}
use Rattle.tables.specs.Laws.State.{never_some}
use Rattle.tables.specs.Laws.View.{slot_bounds}
use Rattle.tables.specs.View.{view, entry_in}
use Rattle.tables.specs.Search.{present}
use Rattle.tables.specs.Seen.{Seen}
use Rattle.sound.specs.Clauses.{sound}
use Rattle.face.specs.Face.{handed}
use Rattle.face.specs.Laws.Face.{handed_is, handed_unsound}
use Rattle.pairs.specs.Pair.{writes, readable, reads, plain}
use Rattle.pairs.specs.declared.Registers.{Registers}
use Rattle.board8.specs.Regions.{entry_pair, pair_on, write_answer, rbar_after, rlar_after, WriteLent, read_answer, entry_after, ReadLent}
use Rattle.words.specs.declared.Refusal.{Refusal}
use Rattle.words.specs.Refusals.{number_of}
use Rattle.words.specs.declared.Refusal.TheVariants.{NotSound, NoEntry}

-- two results are equal: the answer, and what is lent
pub write_lent_one : {table : List ℕ} {p s a b r r' x y x' y' : ℕ} → WriteLent table p s a b r x y → WriteLent table p s a b r' x' y' → (r ≡ r') × (x ≡ x') × (y ≡ y')
write_lent_one x y = (x.answer ∙ sym y.answer, x.base ∙ sym y.base, x.limit ∙ sym y.limit)

pub read_lent_one : {a b e r r' x x' : ℕ} → ReadLent a b e r x → ReadLent a b e r' x' → (r ≡ r') × (x ≡ x')
read_lent_one x y = (x.answer ∙ sym y.answer, x.word ∙ sym y.word)

-- ── what stands in a slot ──
-- nothing past 16 partitions of 32 slots
pub no_slot : (l : List ℕ) (p s : ℕ) → (p < 16 → s < 32 → ⊥) → Err NoEntry ≡ entry_pair ((view l).k.slot p s)
unfolding entry_pair
no_slot l p s n = rw (never_some ((view l).k.slot p s) (λ e u. let h = slot_bounds l p s e u in n h.0 h.1)) refl

module _ {l : List ℕ} {p i : ℕ} {f : SlotFields} (seen : Seen l p i f) where
  pub no_entry_pair : f.present ≡ false → Err NoEntry ≡ entry_pair ((view l).k.slot p i)
  unfolding entry_pair entry_in
  no_entry_pair q = rw (seen.slot, q) refl

  -- whom it is given to is not told
  pub is_entry_pair : f.present ≡ true → writes (plain f.start f.end f.rights) ≡ entry_pair ((view l).k.slot p i)
  unfolding entry_pair entry_in writes readable
  is_entry_pair q = rw (seen.slot, q) refl

-- ── a table in bytes ──
module _ (b : List ℕ) (p s : ℕ) where
  pub pair_unsound : sound V8 (handed b) ≡ false → Err NotSound ≡ pair_on b p s
  unfolding pair_on
  pair_unsound q = rw q refl

  pub other_length : (length b ≡ 5128 → ⊥) → Err NotSound ≡ pair_on b p s
  other_length h = pair_unsound (handed_unsound b h V8)

  module _ (size : length b ≡ 5128) {a : List ℕ} (load : a ≡ words_of b) where
    pub unsound_words : sound V8 a ≡ false → Err NotSound ≡ pair_on b p s
    unsound_words q = pair_unsound (ap (sound V8) (sym (load ∙ handed_is b size)) ∙ q)

    pub sound_words : {r : Result Registers Refusal} → sound V8 a ≡ true → r ≡ entry_pair ((view a).k.slot p s) → r ≡ pair_on b p s
    unfolding pair_on
    sound_words q e =
        let z : a ≡ handed b = load ∙ handed_is b size in
        rw (← z, q) e

-- ── what is lent ──
module _ (table : List ℕ) (p s rbar rlar : ℕ) {o : Result Registers Refusal} (e : o ≡ pair_on table p s) where
  pub write_lent : (both : Registers) → o ≡ Ok both → WriteLent table p s rbar rlar 0 both.rbar both.rlar
  unfolding write_answer rbar_after rlar_after
  write_lent both q = let z = sym e ∙ q in record { answer = rw z refl; base = rw z refl; limit = rw z refl }

  pub write_lent_not : (why : Refusal) {n : ℕ} → n ≡ number_of why → o ≡ Err why → WriteLent table p s rbar rlar n rbar rlar
  unfolding write_answer rbar_after rlar_after
  write_lent_not why k q = let z = sym e ∙ q in record { answer = k ∙ rw z refl; base = rw z refl; limit = rw z refl }

module _ (rbar rlar entry : ℕ) {o : Result ℕ Refusal} (e : o ≡ reads rbar rlar) where
  pub read_lent : (w : ℕ) → o ≡ Ok w → ReadLent rbar rlar entry 0 w
  unfolding read_answer entry_after
  read_lent w q = let z = sym e ∙ q in record { answer = rw z refl; word = rw z refl }

  pub read_lent_not : (why : Refusal) {n : ℕ} → n ≡ number_of why → o ≡ Err why → ReadLent rbar rlar entry n entry
  unfolding read_answer entry_after
  read_lent_not why k q = let z = sym e ∙ q in record { answer = k ∙ rw z refl; word = rw z refl }
