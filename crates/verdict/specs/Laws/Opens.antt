-- S9 slot by slot; an empty slot passes it.
use Rattle.std.specs.Prelude.{◌≡◌, Bool, true, false, List, ℕ, ◌<◌}
use Rattle.std.proofs.Math.Path.{refl}
use Rattle.std.specs.Bool.{beq}
use Rattle.words.specs.declared.slot_word.SlotFields.{SlotFields}
use Rattle.tables.specs.View.{entry_in, view}
use Rattle.tables.specs.Seen.{Seen}
use Rattle.tables.specs.Laws.Seen.{entry_none}
use Rattle.tables.specs.Settle.{open_bit, open_at}
use Rattle.settling.specs.declared.areas.Areas.{Areas}
use Rattle.settling.specs.Areas.{AreasOf, clear_of}
use Rattle.settling.specs.Laws.Areas.{clear_quick}
use Rattle.shape.specs.AtOnce.{Shaped}
use Rattle.ordering.specs.Laws.Used.{empty_closed}
use Rattle.verdict.specs.Stages.{open_slot}

module _ {l : List ℕ} {p i : ℕ} {f : SlotFields} (v : Seen l p i f) where
  pub open_empty : Shaped l → p < 16 → i < 32 → f.present ≡ false → true ≡ open_slot (view l) p i
  unfolding open_slot open_at open_bit
  open_empty shaped a b u = let w = entry_none v u in rw (w, empty_closed shaped a i b w) refl

  pub open_there : {g : Areas} {x : Bool} → AreasOf (view l).k g → f.present ≡ true → x ≡ clear_of g f.start.0 f.end.0 → beq f.opened x ≡ open_slot (view l) p i
  unfolding open_slot open_at open_bit entry_in
  open_there h u q = rw (v.slot, v.opened, u, ← clear_quick (view l).k h f.start.0 f.end.0, ← q) refl
