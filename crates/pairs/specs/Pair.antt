-- A region's register pair on ARMv8-M, written from an entry and read back. The two registers are one word of 64 bits (`pair`), RBAR in its high half.
use Rattle.std.specs.Prelude.{◌≡◌, Bool, true, false, cond, not, ◌&&◌, ℕ, ◌+◌, ◌-◌, ◌*◌, ◌/◌, ◌%◌, ◌^◌, ◌≤◌, ◌<◌, eqb, ltb, leb, Result, Ok, Err}
use Rattle.words.specs.Kind.{fields_in, word_of, zeroed}
use Rattle.words.specs.declared.Line.{Line}
use Rattle.words.specs.declared.Rights.{Rights}
use Rattle.tables.specs.State.{Opt, none, some, Entry, entry, range_of}
use Rattle.tables.specs.Encode.{slot_word}
use Rattle.pairs.specs.Word.{pair}
use Rattle.pairs.specs.declared.pair_word.PairFields.{PairFields}
use Rattle.pairs.specs.declared.Registers.{Registers}
use Rattle.words.specs.declared.Refusal.{Refusal}
use Rattle.words.specs.declared.Refusal.TheVariants.{WrongPair}

-- ── readable entries ──
-- with the read right, start below end, lines that there are
pub record Readable (e : Entry) : Type 0 where
  pub read : e.rights.read ≡ true
  pub rising : e.start < e.stop
  pub below : e.stop < 2 ^ 27

unfoldable pub readable : Entry → Bool
readable e = e.rights.read && (ltb e.start e.stop && ltb e.stop (2 ^ 27))

-- what a pair tells of an entry: its range and rights
abbrev pub bare : Entry → Entry
bare e = range_of e e.rights false

-- ── the fields of a pair ──
-- access 01 reads and writes, 11 only reads; execute-never; the limit is the last line inside
abbrev pub fields_of : Entry → PairFields
fields_of e = record {
  base = record { 0 = e.start };
  access = cond e.rights.write 1 3;
  never = not e.rights.execute;
  limit = record { 0 = e.stop - 1 };
  enabled = true;
}

abbrev pub said_by : PairFields → Entry
said_by f = entry f.base.0 (f.limit.0 + 1) 0 (record { read = true; write = eqb f.access 1; execute = not f.never }) false

-- enabled, access 01 or 11, a limit not below the base, and a line after it
pub record Fair (f : PairFields) : Type 0 where
  pub enabled : f.enabled ≡ true
  pub access : f.access % 2 ≡ 1
  pub rising : f.base.0 ≤ f.limit.0
  pub below : f.limit.0 < 2 ^ 27 - 1

unfoldable pub fair : PairFields → Bool
fair f = f.enabled && (eqb (f.access % 2) 1 && (leb f.base.0 f.limit.0 && ltb f.limit.0 (2 ^ 27 - 1)))

-- ── the pair of an entry, and the entry of a pair ──
abbrev pub pair_of : Entry → ℕ
pair_of e = word_of pair (fields_of e)

unfoldable pub entry_of_pair : ℕ → Opt Entry
entry_of_pair w = cond (zeroed pair w && fair (fields_in pair w)) (some (said_by (fields_in pair w))) none

-- ── as two registers ──
abbrev pub one_word : ℕ → ℕ → ℕ
one_word rbar rlar = rbar * 2 ^ 32 + rlar

abbrev pub halves : ℕ → Registers
halves w = record { rbar = w / 2 ^ 32; rlar = w % 2 ^ 32 }

-- writing: the two registers, or 22
unfoldable pub writes : Entry → Result Registers Refusal
writes e = cond (readable e) (Ok (halves (pair_of e))) (Err WrongPair)

-- reading: the entry's word, present and open, or 22
unfoldable pub open_word : Opt Entry → Result ℕ Refusal
open_word none = Err WrongPair
open_word (some e) = Ok (slot_word (some e) true)

abbrev pub reads : ℕ → ℕ → Result ℕ Refusal
reads rbar rlar = open_word (entry_of_pair (one_word rbar rlar))

-- ── what the code hands on ──
-- lines and rights as an entry that is neither given nor whole
abbrev pub plain : Line → Line → Rights → Entry
plain a b r = entry a.0 b.0 0 r false

-- what the writer of the word answers, as two registers
unfoldable pub parted : Result ℕ Refusal → Result Registers Refusal
parted (Ok w) = Ok (halves w)
parted (Err why) = Err why
