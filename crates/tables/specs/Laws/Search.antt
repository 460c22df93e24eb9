-- The lowest number that passes is found, or none passes; what was read is there where its present bit is set; and which slots of a structure are free.
use Rattle.std.specs.Prelude.{◌≡◌, Bool, true, false, cond, not, ℕ, ◌+◌, ◌*◌, ◌/◌, ◌<◌}
use Rattle.std.proofs.Math.Path.{refl}
use Rattle.std.proofs.Common.{sym, ◌∙◌, inl, inr, ne_eqb}
use Rattle.std.proofs.lemmas.Bool.{false≢true}
use native.Mathlib.Omega.{arith}
use Rattle.loops.specs.Loops.{seek, NoneBelow, map_from}
use Rattle.loops.specs.Laws.Scan.{seek_law, Sought}
use Rattle.loops.specs.Laws.Map.{map_none}
use Rattle.words.specs.declared.header_word.HeaderFields.{HeaderFields}
use Rattle.words.specs.declared.slot_word.SlotFields.{SlotFields}
use Rattle.words.specs.declared.structure_word.StructureFields.{StructureFields}
use Rattle.tables.specs.State.{none, some, K, Opt}
use Rattle.tables.specs.Laws.State.{some_inj, not_none}
use Rattle.tables.specs.View.{entry_in, header_area, structure_area}
use Rattle.tables.specs.Search.{is_some, is_none, lowest, Lowest, present, absent, absent_child, free}

pub lowest_some : (n : ℕ) (f : ℕ → Bool) (k : ℕ) → lowest n f ≡ some k → Lowest n f k
unfolding lowest
lowest_some n f k e = go (seek_law f some none n)
  where
    go : Sought f some none n (seek f some none n) → Lowest n f k
    go (inl (j, h)) = let z : j ≡ k = some_inj (sym h.is ∙ e) in rw (← z) (record { below = h.below; holds = h.holds; before = h.before })
    go (inr h) = not_none none refl (sym h.is ∙ e)

pub lowest_none : (n : ℕ) (f : ℕ → Bool) → lowest n f ≡ none → NoneBelow f n
unfolding lowest
lowest_none n f e = go (seek_law f some none n)
  where
    go : Sought f some none n (seek f some none n) → NoneBelow f n
    go (inl (j, h)) = not_none none refl (sym e ∙ h.is)
    go (inr h) = h.none

-- what passes the test for nothing is none
pub none_is : {A : Type 0} (o : Opt A) → is_none o ≡ true → o ≡ none
none_is none h = refl
none_is (some a) h = absurd (false≢true h)

-- ── what was read is there where its present bit is set ──
some_if : {A : Type 0} (b : Bool) (a : A) → is_some (cond b (some a) none) ≡ b
some_if true a = refl
some_if false a = refl

pub entry_some : (f : SlotFields) → is_some (entry_in f) ≡ f.present
unfolding entry_in
entry_some f = some_if f.present _

pub header_some : (f : HeaderFields) → is_some (header_area f) ≡ f.present
unfolding header_area
header_some f = some_if f.present _

pub structure_some : (f : StructureFields) → is_some (structure_area f) ≡ f.present
unfolding structure_area
structure_some f = some_if f.present _

-- of a number that is not the root, the search for an absent partition asks only whether it is present
pub absent_child_law : (k : K) (n : ℕ) → 0 < n → absent_child k n ≡ not (present k n)
unfolding absent_child absent present
absent_child_law k n h = rw (ne_eqb n 0 (λ z. omega arith)) refl

-- ── the slots of structure j ──
module _ (k : K) (p j : ℕ) where
  -- where it is absent none is free
  pub absent_free : is_some (k.area p (1 + j)) ≡ false → 0 ≡ map_from (free k p) (8 * j) 8
  unfolding free
  absent_free q = map_none (free k p) (8 * j) 8 (λ i a b. let z : i / 8 ≡ j = omega arith in rw (z, q) refl)

  -- where it is present those without an entry are
  pub empty_free : (i : ℕ) → is_some (k.area p (1 + j)) ≡ true → i / 8 ≡ j → is_none (k.slot p i) ≡ free k p i
  unfolding free
  empty_free i q z = rw (z, q) refl
