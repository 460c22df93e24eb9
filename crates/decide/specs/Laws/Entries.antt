-- S7 of a present partition from its parts, S11 of the root slot by slot; empty slots pass both.
use Rattle.std.specs.Prelude.{◌≡◌, refl, Bool, true, false, not, ◌&&◌, ◌||◌, List, ℕ, ◌≤◌, ◌<◌}
use Rattle.std.proofs.Math.Bool.{and-false}
use Rattle.std.proofs.Common.{eq-eqb, ne_eqb}
use Rattle.loops.specs.Loops.{all}
use Rattle.tables.specs.State.{Entry, K, Table}
use Rattle.tables.specs.View.{view}
use Rattle.tables.specs.Search.{present}
use Rattle.sound.specs.Clauses.{when, has, s7_given, lends, undivided, s7_whole, s7, s11}
use Rattle.ordering.specs.Used.{Bound}
use Rattle.decide.specs.Entries.{exactly, full_slot}

-- S7 of a partition that is present
pub s7_parts : (t : Table) (p : ℕ) → present t.k p ≡ true → s7 t p ≡ s7_given t.k p && s7_whole t p && exactly t.k p
unfolding s7 exactly
s7_parts t p h = rw h refl

-- what S7 says of an entry that is whole, and of another
pub whole_on : (w u : Bool) {r : Bool} → w ≡ true → r ≡ u → r ≡ (not w || u)
whole_on w u q e = rw q e

pub whole_off : (w u : Bool) → w ≡ false → true ≡ (not w || u)
whole_off w u q = rw q refl

-- .. where it is given
pub whole_given : (w u c : Bool) → w ≡ true → u ≡ false → false ≡ (not w || u) && c
whole_given w u c q e = rw (q, e) refl

pub not_whole : (w u c : Bool) {r : Bool} → w ≡ false → r ≡ c → r ≡ (not w || u) && c
not_whole w u c q e = rw q e

pub given_divides : (k : K) (p : ℕ) (o : Bool) (e : Entry) → (e.given ≡ 0 → ⊥) → undivided k p o e ≡ false
unfolding undivided
given_divides k p o e n = rw (ne_eqb e.given 0 n, and-false) refl

-- an empty slot lends nothing
pub lends_empty : {l : List ℕ} {q m : ℕ} (p : ℕ) (e : Entry) → Bound l q m → (i : ℕ) → m ≤ i → i < 32 → has (lends p e) ((view l).k.slot q i) ≡ false
unfolding has
lends_empty p e h i c d = rw (h.empty i c d) refl

pub full_empty : {l : List ℕ} {p m : ℕ} → Bound l p m → (i : ℕ) → m ≤ i → i < 32 → full_slot (view l).k p i ≡ true
unfolding full_slot when
full_empty h i a b = rw (h.empty i a b) refl

-- S11 of the root
pub rights_root : (k : K) (p : ℕ) → p ≡ 0 → s11 k p ≡ all 32 (full_slot k p)
unfolding s11 full_slot
rights_root k p z = rw (eq-eqb p 0 z) refl
