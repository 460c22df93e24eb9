-- The tests decide what they say; a word unpacked and packed, and fields packed and unpacked, are the same.
use Rattle.std.specs.Prelude.{◌≡◌, refl, Bool, true, false, List, [], ◌∷◌, ℕ, ◌+◌, ◌*◌, ◌/◌, ◌%◌, ◌^◌, ◌≤◌, ◌<◌, ltb, eqb}
use Rattle.std.proofs.Common.{ap, ap₂, sym, ◌∙◌, arith, mod-lt, mod-eq_of_lt, add_assoc, zero-add, zero-mul, lt_of_lt_of_le, lt-ltb, ltb-true, eqb-true, eq-eqb, pow_pos, pow-add, pow_mono}
use Rattle.std.proofs.Math.Bool.{and-eq-true_iff}
use Rattle.std.proofs.lemmas.Bool.{false≢true}
use Rattle.std.proofs.Math.Nat.{mod-one, div-eq_of_lt, zero-mod}
use Rattle.std.proofs.Math.Arith.{digits_lt}
use Rattle.std.proofs.Math.Pow.{high, low, mod-mod-pow, field}
use Rattle.std.proofs.lemmas.Nat.{mod-pow-add}
use Rattle.words.specs.Parts.{Part, bits, zeros, width, unpack, pack_parts, clean, fit, Clean, FieldsFit, zero_sum}

-- ── the two tests as propositions ──
no_true : (b : Bool) → (b ≡ true → ⊥) → b ≡ false
no_true true h = absurd (h refl)
no_true false h = refl

pub clean_true : (ps : List Part) (w : ℕ) → Clean ps w → clean ps w ≡ true
clean_true [] w h = refl
clean_true (bits b ∷ ps) w h = clean_true ps w h
clean_true (zeros b ∷ ps) w h = (and-eq-true_iff _ _).1 (eq-eqb _ 0 h.0, clean_true ps w h.1)

pub clean_says : (ps : List Part) (w : ℕ) → clean ps w ≡ true → Clean ps w
clean_says [] w h = tt
clean_says (bits b ∷ ps) w h = clean_says ps w h
clean_says (zeros b ∷ ps) w h =
    let z = (and-eq-true_iff (eqb (w / 2 ^ width ps % 2 ^ b) 0) (clean ps w)).0 h in
    (eqb-true _ 0 z.0, clean_says ps w z.1)

pub clean_false : (ps : List Part) (w : ℕ) → (Clean ps w → ⊥) → clean ps w ≡ false
clean_false ps w h = no_true (clean ps w) (λ e. h (clean_says ps w e))

pub sum_clean : (ps : List Part) (w : ℕ) → zero_sum ps w ≡ 0 → Clean ps w
sum_clean [] w h = tt
sum_clean (bits b ∷ ps) w h = sum_clean ps w h
sum_clean (zeros b ∷ ps) w h = (omega arith, sum_clean ps w (omega arith))

pub clean_sum : (ps : List Part) (w : ℕ) → Clean ps w → zero_sum ps w ≡ 0
clean_sum [] w h = refl
clean_sum (bits b ∷ ps) w h = clean_sum ps w h
clean_sum (zeros b ∷ ps) w h = omega (arith, clean_sum ps w h.1)

-- the zero word has none set
pub zero_clean : (ps : List Part) → Clean ps 0
zero_clean [] = tt
zero_clean (bits b ∷ ps) = zero_clean ps
zero_clean (zeros b ∷ ps) = (ap (λ (x : ℕ). x % 2 ^ b) (div-eq_of_lt (pow_pos (width ps))) ∙ zero-mod (2 ^ b), zero_clean ps)

pub fit_true : (ps : List Part) (fs : List ℕ) → FieldsFit ps fs → fit ps fs ≡ true
fit_true [] [] h = refl
fit_true [] (f ∷ fs) h = absurd h
fit_true (bits b ∷ ps) [] h = absurd h
fit_true (bits b ∷ ps) (f ∷ fs) h = (and-eq-true_iff _ _).1 (lt-ltb f (2 ^ b) h.0, fit_true ps fs h.1)
fit_true (zeros b ∷ ps) fs h = fit_true ps fs h

pub fit_says : (ps : List Part) (fs : List ℕ) → fit ps fs ≡ true → FieldsFit ps fs
fit_says [] [] h = tt
fit_says [] (f ∷ fs) h = absurd (false≢true h)
fit_says (bits b ∷ ps) [] h = absurd (false≢true h)
fit_says (bits b ∷ ps) (f ∷ fs) h =
    let z = (and-eq-true_iff (ltb f (2 ^ b)) (fit ps fs)).0 h in
    (ltb-true f (2 ^ b) z.0, fit_says ps fs z.1)
fit_says (zeros b ∷ ps) fs h = fit_says ps fs h

pub fit_false : (ps : List Part) (fs : List ℕ) → (FieldsFit ps fs → ⊥) → fit ps fs ≡ false
fit_false ps fs h = no_true (fit ps fs) (λ e. h (fit_says ps fs e))

-- ── a word, unpacked and packed ──
repacked : (ps : List Part) (w : ℕ) → Clean ps w → pack_parts ps (unpack ps w) ≡ w % 2 ^ width ps
repacked [] w h = sym (mod-one w)
repacked (bits b ∷ ps) w h = rw (repacked ps w h) (sym (mod-pow-add w b (width ps)))
repacked (zeros b ∷ ps) w h =
    repacked ps w h.1 ∙ sym (mod-pow-add w b (width ps) ∙ rw (h.0, zero-mul) (zero-add (w % 2 ^ width ps)))

pub pack_unpack : (ps : List Part) (w : ℕ) → w < 2 ^ width ps → Clean ps w → pack_parts ps (unpack ps w) ≡ w
pack_unpack ps w h c = repacked ps w c ∙ mod-eq_of_lt h

pub unpack_fit : (ps : List Part) (w : ℕ) → FieldsFit ps (unpack ps w)
unpack_fit [] w = tt
unpack_fit (bits b ∷ ps) w = (mod-lt _ (pow_pos b), unpack_fit ps w)
unpack_fit (zeros b ∷ ps) w = unpack_fit ps w

-- ── fields, packed and unpacked ──
-- a part reads only the bits from its own down
unpack_low : (ps : List Part) (j w : ℕ) → unpack ps (w % 2 ^ (j + width ps)) ≡ unpack ps w
unpack_low [] j w = refl
unpack_low (bits b ∷ ps) j w =
    rw (← add_assoc j b (width ps))
    (ap₂ ◌∷◌ (ap (λ (x : ℕ). x % 2 ^ b) (field w (j + b) (width ps)) ∙ mod-mod-pow _ j b) (unpack_low ps (j + b) w))
unpack_low (zeros b ∷ ps) j w = rw (← add_assoc j b (width ps)) (unpack_low ps (j + b) w)

clean_low : (ps : List Part) (j w : ℕ) → Clean ps (w % 2 ^ (j + width ps)) → Clean ps w
clean_low [] j w h = tt
clean_low (bits b ∷ ps) j w h = clean_low ps (j + b) w (rw (← add_assoc j b (width ps)) at h)
clean_low (zeros b ∷ ps) j w h =
    let g : Clean (zeros b ∷ ps) (w % 2 ^ (j + b + width ps)) = rw (add_assoc j b (width ps)) h in
    (sym (ap (λ (x : ℕ). x % 2 ^ b) (field w (j + b) (width ps)) ∙ mod-mod-pow _ j b) ∙ g.0, clean_low ps (j + b) w g.1)

pub pack_lt : (ps : List Part) (fs : List ℕ) → FieldsFit ps fs → pack_parts ps fs < 2 ^ width ps
pack_lt [] [] h = omega arith
pack_lt [] (f ∷ fs) h = absurd h
pack_lt (bits b ∷ ps) [] h = absurd h
pack_lt (bits b ∷ ps) (f ∷ fs) h = rw pow-add (digits_lt h.0 (pack_lt ps fs h.1))
pack_lt (zeros b ∷ ps) fs h = lt_of_lt_of_le (pack_lt ps fs h) (pow_mono (let z : width ps ≤ b + width ps = omega arith in z))

-- the low bits of a word are those of its tail
tail : (f : ℕ) (ps : List Part) (fs : List ℕ) → FieldsFit ps fs → (f * 2 ^ width ps + pack_parts ps fs) % 2 ^ (0 + width ps) ≡ pack_parts ps fs
tail f ps fs h = rw zero-add (low f (width ps) (pack_lt ps fs h))

pub unpack_pack : (ps : List Part) (fs : List ℕ) → FieldsFit ps fs → unpack ps (pack_parts ps fs) ≡ fs
unpack_pack [] [] h = refl
unpack_pack [] (f ∷ fs) h = absurd h
unpack_pack (bits b ∷ ps) [] h = absurd h
unpack_pack (bits b ∷ ps) (f ∷ fs) h =
    ap₂ ◌∷◌
    (ap (λ (x : ℕ). x % 2 ^ b) (high f (width ps) (pack_lt ps fs h.1)) ∙ mod-eq_of_lt h.0)
    (sym (unpack_low ps 0 (f * 2 ^ width ps + pack_parts ps fs)) ∙ ap (unpack ps) (tail f ps fs h.1) ∙ unpack_pack ps fs h.1)
unpack_pack (zeros b ∷ ps) fs h = unpack_pack ps fs h

pub pack_clean : (ps : List Part) (fs : List ℕ) → FieldsFit ps fs → Clean ps (pack_parts ps fs)
pack_clean [] fs h = tt
pack_clean (bits b ∷ ps) [] h = absurd h
pack_clean (bits b ∷ ps) (f ∷ fs) h =
    clean_low ps 0 (f * 2 ^ width ps + pack_parts ps fs) (rw (tail f ps fs h.1) (pack_clean ps fs h.1))
pack_clean (zeros b ∷ ps) fs h =
    (ap (λ (x : ℕ). x % 2 ^ b) (div-eq_of_lt (pack_lt ps fs h)) ∙ zero-mod (2 ^ b), pack_clean ps fs h)
