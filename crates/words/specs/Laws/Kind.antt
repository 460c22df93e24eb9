-- Of a lawful kind what was read is in range, and both round trips hold.
use Rattle.std.specs.Prelude.{◌≡◌, refl, ℕ, ◌^◌, ◌<◌, true, ◌↔◌, eqb, Ok, Err}
use Rattle.std.proofs.Common.{ap, sym, subst, ◌∙◌, arith, eqb-true, eq-eqb}
use Rattle.words.specs.Parts.{pack_parts, FieldsFit, zero_sum}
use Rattle.words.specs.Laws.Parts.{clean_sum, pack_unpack, unpack_fit, unpack_pack, pack_lt, pack_clean, clean_true, clean_says, clean_false, sum_clean, zero_clean, fit_true, fit_false}
use Rattle.words.specs.Kind.{Kind, fields_in, word_of, Zeroed, InRange, Lawful, RoundTrips, zeroed, reading, writing}
use Rattle.loops.specs.Laws.Every.{bool_ext}
use Rattle.words.specs.declared.Refusal.TheVariants.{BadWord}

module _ {A : Type 0} (k : Kind A) where
  pub zeroed_means : (w : ℕ) → (zeroed k w ≡ true) ↔ Zeroed k w
  zeroed_means w = (clean_says k.parts w, clean_true k.parts w)

  -- none is set exactly if they add up to 0
  pub zeroed_sum : (w : ℕ) {z : ℕ} → z ≡ zero_sum k.parts w → eqb z 0 ≡ zeroed k w
  zeroed_sum w e =
      bool_ext _ _
      (λ q. clean_true k.parts w (sum_clean k.parts w (sym e ∙ eqb-true _ 0 q)))
      (λ q. eq-eqb _ 0 (e ∙ clean_sum k.parts w (clean_says k.parts w q)))

  -- the zero word has none set
  pub zero_zeroed : Zeroed k 0
  zero_zeroed = zero_clean k.parts

  -- ── the exits of a reader and of a writer ──
  pub read_done : (w : ℕ) → zero_sum k.parts w ≡ 0 → reading k w ≡ Ok (fields_in k w)
  read_done w h = rw (clean_true k.parts w (sum_clean k.parts w h)) refl

  pub read_refused : (w : ℕ) → (zero_sum k.parts w ≡ 0 → ⊥) → reading k w ≡ Err BadWord
  read_refused w h = rw (clean_false k.parts w (λ c. h (clean_sum k.parts w c))) refl

  pub write_done : (f : A) → InRange k f → writing k f ≡ Ok (word_of k f)
  write_done f h = rw (fit_true k.parts (k.list f) h) refl

  pub write_refused : (f : A) → (InRange k f → ⊥) → writing k f ≡ Err BadWord
  write_refused f h = rw (fit_false k.parts (k.list f) h) refl

-- ── both round trips ──
module _ {A : Type 0} {k : Kind A} (law : Lawful k) where
  -- what was read is in range
  pub in_range : (w : ℕ) → InRange k (fields_in k w)
  in_range w = subst (FieldsFit k.parts) (sym (law.list_of w)) (unpack_fit k.parts w)

  pub word_back : (w : ℕ) → w < 2 ^ 64 → Zeroed k w → word_of k (fields_in k w) ≡ w
  word_back w h c =
      ap (pack_parts k.parts) (law.list_of w)
      ∙ pack_unpack k.parts w (subst (λ (n : ℕ). w < 2 ^ n) (sym law.whole) h) c

  pub fields_back : (f : A) → InRange k f → fields_in k (word_of k f) ≡ f
  fields_back f h = ap k.of (unpack_pack k.parts (k.list f) h) ∙ law.of_list f

  -- the fields of the zero word are written as the zero word
  pub zero_back : word_of k (fields_in k 0) ≡ 0
  zero_back = word_back 0 (omega arith) (zero_zeroed k)

  pub word_small : (f : A) → InRange k f → word_of k f < 2 ^ 64
  word_small f h = subst (λ (n : ℕ). word_of k f < 2 ^ n) law.whole (pack_lt k.parts (k.list f) h)

  pub word_zeroed : (f : A) → InRange k f → Zeroed k (word_of k f)
  word_zeroed f h = pack_clean k.parts (k.list f) h

  pub round_trips : RoundTrips k
  round_trips = record {
    words = λ w h c. (read_done k w (clean_sum k.parts w c), write_done k (fields_in k w) (in_range w) ∙ ap Ok (word_back w h c));
    values = λ f h. (write_done k f h, read_done k (word_of k f) (clean_sum k.parts (word_of k f) (word_zeroed f h)) ∙ ap Ok (fields_back f h));
  }
