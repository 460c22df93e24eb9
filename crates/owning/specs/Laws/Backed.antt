-- What the code finds of an area is S8's test that it is an entry.
use Rattle.std.specs.Prelude.{◌≡◌, Bool, true, false, List, Option, None, ℕ, ◌+◌, ◌-◌, ◌<◌}
use Rattle.std.proofs.Math.Path.{refl}
use Rattle.std.proofs.Common.{ap, ◌∙◌, arith}
use Rattle.std.proofs.Math.Bool.{and-false, or-true, or-false}
use borrow.Author.Tests.{ne_eqb}
use Rattle.std.specs.Option.{is_some}
use Rattle.loops.specs.Laws.Scan.{seek_map}
use Rattle.words.specs.declared.header_word.HeaderFields.{HeaderFields}
use Rattle.words.specs.declared.structure_word.StructureFields.{StructureFields}
use Rattle.tables.specs.State.{Area, K}
use Rattle.tables.specs.View.{header_area, structure_area, view}
use Rattle.tables.specs.Seen.{SeenHeader, SeenStructure}
use Rattle.sound.specs.Clauses.{when, rooted, equals, s8_backed}
use Rattle.marking.specs.Backing.{area_between, backs}
use Rattle.words.specs.declared.Slot.{Slot}
use Rattle.marking.specs.Marking.{found_slot, equal_slot}

-- the search for the slot finds one exactly where there is one
pub equal_is : (k : K) (q : ℕ) (a : Area) {r : Option Slot} → r ≡ equal_slot k q a → is_some r ≡ equals k q a
unfolding equals backs
equal_is k q a e = ap is_some e ∙ seek_map is_some (λ j. backs a (k.slot q j)) found_slot None 32

pub backed_rooted : (k : K) (p j : ℕ) → rooted p j ≡ true → true ≡ s8_backed k p j
unfolding s8_backed
backed_rooted k p j q = rw q refl

-- the header's area, by what the code finds
module _ {l : List ℕ} {p : ℕ} {f : HeaderFields} (v : SeenHeader l p f) (q : rooted p 0 ≡ false) where
  pub backed_header_absent : f.present ≡ false → true ≡ s8_backed (view l).k p 0
  unfolding s8_backed when header_area
  backed_header_absent u = rw (q, v.area, u) refl

  pub backed_header_parent : {b : Bool} → f.present ≡ true → b ≡ equals (view l).k f.parent.0 (area_between f.start.0 f.end.0) → b ≡ s8_backed (view l).k p 0
  unfolding s8_backed when header_area
  backed_header_parent u x = rw (q, v.area, u, v.parent, or-false) x

-- a structure's
module _ {l : List ℕ} {p : ℕ} (j : ℕ) {f : StructureFields} (h : 0 < j) (v : SeenStructure l p (j - 1) f) (q : rooted p j ≡ false) where
  is : (view l).k.area p j ≡ structure_area f
  is = let z : j ≡ 1 + (j - 1) = omega arith in ap ((view l).k.area p) z ∙ v.area

  pub backed_structure_absent : f.present ≡ false → true ≡ s8_backed (view l).k p j
  unfolding s8_backed when structure_area
  backed_structure_absent u = rw (q, is, u) refl

  -- own is whether it is an entry of p itself
  module _ {own : Bool} (u : f.present ≡ true) (x : own ≡ equals (view l).k p (area_between f.start.0 f.end.0)) where
    pub backed_structure_own : own ≡ true → true ≡ s8_backed (view l).k p j
    unfolding s8_backed when structure_area
    backed_structure_own y = rw (q, is, u, ne_eqb j 0 (λ z. omega arith), ← x, y, or-true) refl

    pub backed_structure_parent : {b : Bool} {g : HeaderFields} → own ≡ false → SeenHeader l p g → b ≡ equals (view l).k g.parent.0 (area_between f.start.0 f.end.0) → b ≡ s8_backed (view l).k p j
    unfolding s8_backed when structure_area
    backed_structure_parent y w z = rw (q, is, u, ← x, y, and-false, w.parent, or-false) z
