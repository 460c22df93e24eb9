-- The checks 4, 5, 6 of slot S of the caller, whatever follows them.
use Rattle.std.specs.Prelude.{◌≡◌, true, List, ℕ, Result, Ok, Err}
use Rattle.words.specs.declared.slot_word.SlotFields.{SlotFields}
use Rattle.tables.specs.State.{Entry}
use Rattle.tables.specs.View.{view, entry_of}
use Rattle.tables.specs.Seen.{Seen}
use Rattle.rules.specs.Rules.{Effect, refused, free_entry}
use Rattle.words.specs.declared.Refusal.{Refusal}

-- f is the caller's entry in slot s, open and not given, and the rule goes on with it
pub record Free (l : List ℕ) (s : ℕ) (f : SlotFields) : Type 0 where
  pub rule : (next : Entry → Effect) → free_entry (view l) s next ≡ next (entry_of f)
  pub seen : Seen l (view l).k.current s f
  pub present : f.present ≡ true
  pub opened : f.opened ≡ true
  pub not_given : f.given.0 ≡ 0

-- the entry, or why the rule ends here
pub data Picks (l : List ℕ) (s : ℕ) : Result SlotFields Refusal → Type 0 where
  found : {f : SlotFields} → Free l s f → Picks l s (Ok f)
  ends : {why : Refusal} → ((next : Entry → Effect) → free_entry (view l) s next ≡ refused why) → Picks l s (Err why)
