-- What is free in a right table: it shares no line with an area, and can be put again.
use Rattle.std.specs.Prelude.{◌≡◌, true, List, ℕ, ◌<◌}
use Rattle.std.proofs.Common.{◌∙◌}
use Rattle.words.specs.declared.slot_word.SlotFields.{SlotFields}
use Rattle.tables.specs.View.{view, entry_of}
use Rattle.tables.specs.Encode.{Canon}
use Rattle.tables.specs.Seen.{Seen}
use Rattle.tables.specs.Laws.Seen.{entry_there}
use Rattle.tables.specs.Settle.{clear}
use Rattle.sound.specs.Whole.{Right}
use Rattle.sound.specs.Laws.Settled.{entry_clear, right_settled}
use Rattle.blocks.specs.Pick.{Free}
use Rattle.writing.specs.CanWrite.{CanEntry}

-- in a right table no area shares a line with a free entry
pub free_clear : {l : List ℕ} {s : ℕ} {f : SlotFields} → Right (view l) → Free l s f → clear (view l).k.area f.start.0 f.end.0 ≡ true
free_clear {f = f} right entry = entry_clear (right_settled right) {e = entry_of f} (entry_there entry.seen entry.present) ∙ entry.seen.opened ∙ entry.opened

pub can_put : {l : List ℕ} {c p s : ℕ} {f : SlotFields} → Canon l → c < 16 → s < 32 → Seen l p s f → f.present ≡ true → CanEntry l c s f
can_put a b d v q = record {
  canon = a;
  in_p = b;
  in_i = d;
  present = q;
  given_small = v.given_small;
  start_small = v.start_small;
  end_small = v.end_small;
}
