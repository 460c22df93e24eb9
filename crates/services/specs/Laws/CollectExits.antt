-- The exits of collect; done, the table that the rule settles.
use Rattle.std.specs.Prelude.{◌≡◌, refl, Bool, true, false, not, ◌&&◌, List, ℕ, ◌+◌, ◌≤◌, ◌<◌, eqb, ltb}
use Rattle.std.proofs.Common.{ap, ◌∙◌, arith, lt-ltb, le-ltb, eq-eqb, eqb-true}
use Rattle.std.proofs.Math.Bool.{not-not}
use Rattle.words.specs.declared.slot_word.SlotFields.{SlotFields}
use Rattle.words.specs.declared.structure_word.StructureFields.{StructureFields}
use Rattle.tables.specs.State.{none}
use Rattle.tables.specs.View.{view}
use Rattle.tables.specs.Write.{put_structure}
use Rattle.tables.specs.Settle.{settled}
use Rattle.tables.specs.Seen.{Seen, SeenStructure}
use Rattle.tables.specs.Search.{is_some}
use Rattle.tables.specs.Laws.Search.{entry_some, structure_some}
use Rattle.rules.specs.Rules.{done, own_or_child, vacant, collect}
use Rattle.rules.specs.Laws.Ran.{pass}
use Rattle.words.specs.declared.Refusal.TheVariants.{WrongPartition, NoEntry, InUse}

-- a slot that was read is present as its bit says
pub slot_there : {l : List ℕ} {p i : ℕ} {f : SlotFields} {b : Bool} → Seen l p i f → f.present ≡ b → not (not (is_some ((view l).k.slot p i))) ≡ b
slot_there {f = f} v q = not-not _ ∙ ap is_some v.slot ∙ entry_some f ∙ q

-- ── check 4 of collect ──
pub no_such : (j : ℕ) (b : Bool) → 4 ≤ j → (ltb j 4 && b) ≡ false
no_such j b h = rw (le-ltb j 4 h) refl

pub structure_there : {l : List ℕ} {p j : ℕ} {f : StructureFields} {b : Bool} → SeenStructure l p j f → j < 4 → f.present ≡ b
    → (ltb j 4 && is_some ((view l).k.area p (1 + j))) ≡ b
structure_there {j = j} {f} v h q = rw (lt-ltb j 4 h) (ap is_some v.area ∙ structure_some f ∙ q)

-- ── check 15 of collect ──
pub occupied_exit : {x : Bool} (p j : ℕ) → x ≡ false → (x && not (eqb p 0 && eqb j 0)) ≡ false
occupied_exit p j q = rw q refl

pub root_first : {x : Bool} (p j : ℕ) → x ≡ true → p + j ≡ 0 → (x && not (eqb p 0 && eqb j 0)) ≡ false
root_first p j q z = rw (q, eq-eqb p 0 (omega arith), eq-eqb j 0 (omega arith)) refl

pub not_root_first : {x : Bool} (p j : ℕ) → x ≡ true → (p + j ≡ 0 → ⊥) → (x && not (eqb p 0 && eqb j 0)) ≡ true
not_root_first p j q z = rw q (go (eqb p 0) (eqb j 0) refl refl)
  where
    go : (a b : Bool) → eqb p 0 ≡ a → eqb j 0 ≡ b → not (a && b) ≡ true
    go false b u v = refl
    go true false u v = refl
    go true true u v = absurd (z (omega (arith, eqb-true p 0 u, eqb-true j 0 v)))

-- ── done ──
pub collect_is : (l : List ℕ) (p j : ℕ) → own_or_child (view l).k p ≡ true → (ltb j 4 && is_some ((view l).k.area p (1 + j))) ≡ true → (vacant (view l).k p j && not (eqb p 0 && eqb j 0)) ≡ true
    → collect (view l) p j ≡ done 0 0 (settled (put_structure (view l) p j none))
unfolding collect
collect_is l p j own present empty = pass WrongPartition own (pass NoEntry present (pass InUse empty refl))
