-- The walk over the slots of a record, from the last one down: a slot joins; the eight of an absent structure join; and what is gathered at the end.
use Rattle.std.specs.Prelude.{◌≡◌, refl, Bool, true, false, cond, List, ℕ, zero, suc, ◌+◌, ◌-◌, ◌*◌, ◌/◌, ◌^◌, ◌≤◌, ◌<◌}
use Rattle.std.proofs.Math.Path.{ap}
use Rattle.std.proofs.Common.{sym, subst, ◌∙◌, arith, pow_mono}
use Rattle.std.proofs.lemmas.Bool.{false≢true}
use Rattle.loops.specs.Loops.{bit_of, carried, sum, map_of}
use Rattle.loops.specs.Laws.Count.{sum_more}
use Rattle.loops.specs.Laws.Map.{Mapping, map_lt, map_join, map_none, map_start, map_on, map_end}
use Rattle.words.specs.declared.slot_word.SlotFields.{SlotFields}
use Rattle.tables.specs.State.{none, some, Table}
use Rattle.tables.specs.Laws.State.{never_some}
use Rattle.tables.specs.View.{entry_of, entry_in, view}
use Rattle.tables.specs.Search.{is_some}
use Rattle.tables.specs.Laws.Search.{entry_some}
use Rattle.tables.specs.Seen.{Seen}
use Rattle.tables.specs.Laws.Seen.{entry_there}
use Rattle.sound.specs.Whole.{Right}
use Rattle.sheetrules.specs.Sheet.{occupied, structured, number_of_lines, held_lines, open_lines}
use Rattle.summing.specs.Sums.{Ending, Ranged, Adding}
use Rattle.summing.specs.declared.sums.Sums.{Sums}

-- ── a sum from the last number down ──
-- numbers that add nothing
sum_skip : (f : ℕ → ℕ) (m n : ℕ) → ((k : ℕ) → m ≤ k → k < m + n → f k ≡ 0) → sum (m + n) f ≡ sum m f
sum_skip f m zero h = let e : m + 0 ≡ m = omega arith in ap (λ (x : ℕ). sum x f) e
sum_skip f m (suc n) h =
    let e : m + suc n ≡ m + n + 1 = omega arith in
    ap (λ (x : ℕ). sum x f) e
    ∙ omega (arith, sum_more (m + n) f, h (m + n) (omega arith) (omega arith), sum_skip f m n (λ k a b. h k a (omega arith)))

module _ {f : ℕ → ℕ} where
  ending_start : Ending f 32 0
  ending_start = record { within = omega arith; few = omega arith; made = omega arith }

  module _ (i : ℕ) {x : ℕ} (inv : Ending f (i + 1) x) where
    ending_room : {y : ℕ} → y ≤ 0x7ff_ffff → x + y < 2 ^ 32
    ending_room l = omega (arith, inv.few, inv.within)

    ending_on : {y : ℕ} → y ≡ f i → y ≤ 0x7ff_ffff → Ending f i (x + y)
    ending_on q l = record { within = omega (arith, inv.within); few = omega (arith, inv.few, inv.within); made = omega (arith, inv.made, sum_more i f, q) }

  ending_skip : (i : ℕ) {x : ℕ} → Ending f (i + 8) x → ((k : ℕ) → i ≤ k → k < i + 8 → f k ≡ 0) → Ending f i x
  ending_skip i inv h = record { within = omega (arith, inv.within); few = omega (arith, inv.few); made = omega (arith, inv.made, sum_skip f i 8 h) }

  ending_end : {x : ℕ} → Ending f 0 x → x ≡ sum 32 f
  unfolding sum carried
  ending_end inv = omega (arith, inv.made)

-- ── a map of which eight bits are 0 ──
module _ {f : ℕ → Bool} (i : ℕ) {x : ℕ} (inv : Mapping f 0 32 (i + 8) x) where
  skip_room : 256 * x < 2 ^ 32
  skip_room =
      let c : 2 ^ (0 + 32 - (i + 8)) ≤ 2 ^ 24 = pow_mono {j = 24} (omega arith) in
      omega (arith, inv.made, map_lt f (i + 8) (0 + 32 - (i + 8)))

  skip_map : ((k : ℕ) → i ≤ k → k < i + 8 → f k ≡ false) → Mapping f 0 32 i (256 * x)
  skip_map h =
      let e : 8 + (0 + 32 - (i + 8)) ≡ 0 + 32 - i = omega (arith, inv.within) in
      record {
        above = omega arith;
        within = omega (arith, inv.within);
        made = rw (← e) (omega (arith, inv.made, map_join f i 8 (0 + 32 - (i + 8)), map_none f i 8 h));
      }

-- ── slots ──
pub adding_start : {t : Table} {p : ℕ} → Adding t p 32 (record { slots = 0; held = 0; opened = 0 })
adding_start = record { slots = map_start; held = ending_start; opened = ending_start }

pub adding_at : {t : Table} {p : ℕ} (i j : ℕ) {x : Sums} → i ≡ j → Adding t p i x → Adding t p j x
adding_at {t} {p} i j {x} e a = subst (λ (k : ℕ). Adding t p k x) e a

-- the lines of an entry whose end fits its field
pub lines_small : (f : SlotFields) → f.end.0 < 2 ^ 27 → number_of_lines (entry_in f) ≤ 0x7ff_ffff
unfolding number_of_lines entry_in
lines_small f h = go f.present
  where
    go : (b : Bool) → number_of_lines (cond b (some (entry_of f)) none) ≤ 0x7ff_ffff
    go true = omega arith
    go false = omega arith

pub open_small : (b : Bool) {x : ℕ} → x ≤ 0x7ff_ffff → cond b x 0 ≤ 0x7ff_ffff
open_small true h = h
open_small false h = omega arith

pub open_is : (b : Bool) (x : ℕ) → b ≡ true → x ≡ cond b x 0
open_is b x q = rw q refl

nothing : (b : Bool) → ◌≡◌ {A = ℕ} (cond b 0 0) 0
nothing true = refl
nothing false = refl

with_nothing : {t : Table} {p i a b c : ℕ} → Adding t p i (record { slots = a + 0; held = b + 0; opened = c + 0 }) → Adding t p i (record { slots = a; held = b; opened = c })
with_nothing {a = a} {b} {c} z =
    let d : a + 0 ≡ a = omega arith in
    let e : b + 0 ≡ b = omega arith in
    let f : c + 0 ≡ c = omega arith in
    rw (d, e, f) at z

-- an entry ends behind its start
pub right_ranged : {t : Table} → Right t → (p i : ℕ) → Ranged t p i
right_ranged h p i = record { ends = h.core.s5_range p i }

pub entry_range : {l : List ℕ} {p i : ℕ} {f : SlotFields} → Ranged (view l) p i → Seen l p i f → f.present ≡ true → (f.present ≡ true) × (f.start.0 < f.end.0)
entry_range {f = f} h seen q = (q, h.ends (entry_of f) (entry_there seen q))

-- slot i joins
module _ {l : List ℕ} {p i : ℕ} {x : Sums} {f : SlotFields} (seen : Seen l p i f) (inv : Adding (view l) p (i + 1) x) where
  add_slot : {a b c : ℕ} → a ≡ bit_of (is_some (entry_in f)) → b ≡ number_of_lines (entry_in f) → c ≡ cond f.opened (number_of_lines (entry_in f)) 0
      → Adding (view l) p i (record { slots = 2 * x.slots + a; held = x.held + b; opened = x.opened + c })
  add_slot {a} {b} {c} q r s =
      let few = lines_small f seen.end_small in
      let e : i + 1 - 1 ≡ i = omega arith in
      record {
        slots = rw e at (map_on inv.slots (omega arith) {y = a} (rw (e, seen.slot) q));
        held = ending_on i inv.held (rw seen.slot r) (omega arith);
        opened = ending_on i inv.opened (rw (seen.slot, seen.opened) s) (let z = open_small f.opened few in omega arith);
      }

  -- .. with an entry
  pub add_entry : f.present ≡ true → {b c : ℕ} → b ≡ number_of_lines (entry_in f) → c ≡ cond f.opened (number_of_lines (entry_in f)) 0
      → Adding (view l) p i (record { slots = 2 * x.slots + 1; held = x.held + b; opened = x.opened + c })
  add_entry q r s = add_slot {a = 1} (rw (entry_some, q) refl) r s

  -- .. with none
  pub skip_slot : f.present ≡ false → Adding (view l) p i (record { slots = 2 * x.slots; held = x.held; opened = x.opened })
  unfolding number_of_lines entry_in
  skip_slot q =
      with_nothing (add_slot {a = 0} {b = 0} {c = 0} (rw (entry_some, q) refl) (rw q refl) (rw q (sym (nothing f.opened))))

  pub held_room : {b : ℕ} → b ≡ number_of_lines (entry_in f) → x.held + b < 2 ^ 32
  held_room q = ending_room i inv.held (let z = lines_small f seen.end_small in omega arith)

  pub opened_room : {c : ℕ} → c ≡ cond f.opened (number_of_lines (entry_in f)) 0 → x.opened + c < 2 ^ 32
  opened_room q = ending_room i inv.opened (let z = open_small f.opened (lines_small f seen.end_small) in omega arith)

-- the slots of an absent structure join
module _ {t : Table} {p : ℕ} (j : ℕ) {x : Sums} (inv : Adding t p (8 * j + 8) x) where
  pub absent_room : 256 * x.slots < 2 ^ 32
  absent_room = skip_room (8 * j) inv.slots

  pub add_empty : ((k : ℕ) → 8 * j ≤ k → k < 8 * j + 8 → t.k.slot p k ≡ none) → Adding t p (8 * j) (record { slots = 256 * x.slots; held = x.held; opened = x.opened })
  unfolding number_of_lines
  add_empty empty = record {
    slots = skip_map (8 * j) inv.slots (λ k a b. ap is_some (empty k a b));
    held = ending_skip (8 * j) inv.held (λ k a b. ap number_of_lines (empty k a b));
    opened = ending_skip (8 * j) inv.opened (λ k a b. rw (empty k a b) (nothing (t.opened p k)));
  }

  pub add_absent : Right t → structured t.k p j ≡ false → Adding t p (8 * j) (record { slots = 256 * x.slots; held = x.held; opened = x.opened })
  add_absent h q = add_empty (λ k a b. never_some (t.k.slot p k) (λ e u.
      let (y, v) = h.core.s5 p k e u in
      let z : k / 8 ≡ j = omega arith in
      false≢true (sym q ∙ ap is_some (rw z at v))))

-- all of them
pub adding_end : {t : Table} {p : ℕ} {x : Sums} → Adding t p 0 x
    → (x.slots ≡ map_of 32 (occupied t.k p)) × (x.held ≡ held_lines t.k p) × (x.opened ≡ open_lines t p)
adding_end inv = (map_end inv.slots (omega arith), ending_end inv.held, ending_end inv.opened)
