-- LENDING WHOLE (02, 104): a block that is lent whole, and the call that takes it back.
use Rattle.std.specs.Prelude.{◌≡◌, true, false, ℕ}
use Rattle.words.specs.declared.call_word.CallFields.{CallFields}
use Rattle.tables.specs.State.{some, Entry, K}
use Rattle.tables.specs.Lines.{In}

-- slot s of g is lent whole to c: it is given to c, who has a whole entry with a line of it
pub record LentWhole (k : K) (g s c : ℕ) : Type 0 where
  pub e : Entry
  pub at : k.slot g s ≡ some e
  pub given : e.given ≡ c
  pub other : c ≡ 0 → ⊥
  pub i : ℕ
  pub f : Entry
  pub child : k.slot c i ≡ some f
  pub whole : f.whole ≡ true
  pub line : ℕ
  pub mine : In line e
  pub its : In line f

-- the fields of a take of slot s
abbrev pub taking : ℕ → CallFields
taking s = record {
  service = 6;
  partition = record { 0 = 0 };
  slot = record { 0 = s };
  other = 0;
  rights = record { read = false; write = false; execute = false };
  line = record { 0 = 0 };
  whole = false;
}
