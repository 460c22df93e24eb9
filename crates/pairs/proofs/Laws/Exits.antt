-- The exits of the code that writes a pair and of the code that reads one.
use Rattle.std.specs.Prelude.{◌≡◌, refl, Bool, true, false, cond, not, ℕ, ◌-◌, ◌≤◌, ◌<◌, ◌^◌, Result, Ok, Err}
use Rattle.std.proofs.Math.Path.{ap, sym, subst}
use Rattle.std.proofs.Common.{◌∙◌, true≢false, arith}
use Rattle.words.specs.Kind.{writing, fields_in, zeroed}
use Rattle.words.specs.Laws.Kind.{zeroed_means, write_done}
use Rattle.words.specs.Words.{slot}
use Rattle.words.specs.Laws.Kinds.{slot_range}
use Rattle.tables.specs.State.{some, Entry}
use Rattle.tables.specs.Encode.{slot_for, slot_word}
use Rattle.pairs.specs.Word.{pair}
use Rattle.pairs.specs.declared.pair_word.PairFields.{PairFields}
use Rattle.pairs.specs.Pair.{Readable, readable, fields_of, said_by, Fair, pair_of, entry_of_pair, one_word, halves, writes, open_word, reads, parted}
use Rattle.pairs.proofs.Laws.Pair.{readable_says, readable_true, of_range, GoodPair, pair_entry_done, pair_entry_none}
use Rattle.words.specs.declared.Refusal.{Refusal}
use Rattle.pairs.specs.declared.Registers.{Registers}
use Rattle.words.specs.declared.Refusal.TheVariants.{WrongPair}

-- ── writing ──
pub writes_done : (e : Entry) → Readable e → writes e ≡ Ok (halves (pair_of e))
unfolding writes
writes_done e h = rw (readable_true e h) refl

pub writes_refused : (e : Entry) → (Readable e → ⊥) → writes e ≡ Err WrongPair
unfolding writes
writes_refused e h = go (readable e) refl
  where
    go : (b : Bool) → readable e ≡ b → cond b (Ok (halves (pair_of e))) (Err WrongPair) ≡ Err WrongPair
    go true q = absurd (h (readable_says e q))
    go false q = refl

module _ (e : Entry) where
  pub writes_unread : e.rights.read ≡ false → Err WrongPair ≡ writes e
  writes_unread q = sym (writes_refused e (λ h. true≢false (sym h.read ∙ q)))

  pub writes_empty : e.stop ≤ e.start → Err WrongPair ≡ writes e
  writes_empty q = sym (writes_refused e (λ h. omega (arith, h.rising)))

  pub writes_past : 2 ^ 27 ≤ e.stop → Err WrongPair ≡ writes e
  writes_past q = sym (writes_refused e (λ h. omega (arith, h.below)))

  -- the fields with this access
  abbrev pub fields_with : ℕ → PairFields
  fields_with n = record { base = record { 0 = e.start }; access = n; never = not e.rights.execute; limit = record { 0 = e.stop - 1 }; enabled = true }

  -- the writer of the word refuses no readable entry
  pub writes_by : (n : ℕ) {o : Result ℕ Refusal} {r : Result Registers Refusal} → n ≡ cond e.rights.write 1 3 → e.rights.read ≡ true → e.start < e.stop → e.stop < 2 ^ 27
      → o ≡ writing pair (fields_with n) → r ≡ parted o → r ≡ writes e
  unfolding parted
  writes_by n q a b d x y =
      let h : Readable e = record { read = a; rising = b; below = d } in
      y ∙ ap parted (x ∙ ap (λ (m : ℕ). writing pair (fields_with m)) q ∙ write_done pair (fields_of e) (of_range e h)) ∙ sym (writes_done e h)

-- ── reading ──
module _ (rbar rlar : ℕ) {w : ℕ} (q : w ≡ one_word rbar rlar) where
  refused : (GoodPair w → ⊥) → Err WrongPair ≡ reads rbar rlar
  unfolding open_word
  refused h = sym (ap open_word (pair_entry_none w h)) ∙ ap (λ (v : ℕ). open_word (entry_of_pair v)) q

  -- a zero bit is set; or a field is not as it should be
  pub reads_set : zeroed pair w ≡ false → Err WrongPair ≡ reads rbar rlar
  reads_set e = refused (λ g. true≢false (sym ((zeroed_means pair w).1 g.zeroed) ∙ e))

  module _ {f : PairFields} (p : f ≡ fields_in pair w) where
    pub reads_unfair : (Fair f → ⊥) → Err WrongPair ≡ reads rbar rlar
    reads_unfair h = refused (λ g. h (subst Fair (sym p) g.fair))

    pub reads_is : {o : Result ℕ Refusal} → zeroed pair w ≡ true → Fair f → o ≡ writing slot (slot_for (said_by f) true) → o ≡ reads rbar rlar
    unfolding open_word slot_word
    reads_is e h y =
        let g : GoodPair w = record { zeroed = (zeroed_means pair w).0 e; fair = subst Fair p h } in
        y
        ∙ write_done slot (slot_for (said_by f) true) (slot_range (slot_for (said_by f) true) (omega arith) (omega (arith, h.rising, h.below)) (omega (arith, h.below)))
        ∙ ap (λ (x : PairFields). open_word (some (said_by x))) p
        ∙ sym (ap open_word (pair_entry_done w g))
        ∙ ap (λ (v : ℕ). open_word (entry_of_pair v)) q
