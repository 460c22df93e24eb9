-- A SHEET BESIDE THE TABLE (02, request 108): what it says of each partition, its 32 words, and the rules of a boot and a call that keep it.
use Rattle.std.specs.Prelude.{Bool, cond, ◌&&◌, List, ℕ, ◌+◌, ◌-◌, ◌/◌, ◌%◌, eqb, length, get_or}
use Rattle.loops.specs.Loops.{all, sum, map_of, tab}
use Rattle.words.specs.Kind.{word_of, reading}
use Rattle.words.specs.Words.{call, masks, lines}
use Rattle.words.specs.declared.masks_word.MasksFields.{MasksFields}
use Rattle.words.specs.declared.lines_word.LinesFields.{LinesFields}
use Rattle.shapes.specs.declared.Board.{Board}
use Rattle.tables.specs.State.{Opt, none, some, Entry, K, Table}
use Rattle.tables.specs.View.{view}
use Rattle.tables.specs.Search.{is_some, present, child}
use Rattle.sound.specs.Clauses.{sound}
use Rattle.rules.specs.Rules.{Effect, check, serve_read, boot_on}
use Rattle.words.specs.declared.Refusal.TheVariants.{NotSound, WrongSheet}

-- ── what the sheet says of partition p ──
-- slot i of p is occupied; structure j of p is present
abbrev pub occupied : K → ℕ → ℕ → Bool
occupied k p i = is_some (k.slot p i)

abbrev pub structured : K → ℕ → ℕ → Bool
structured k p j = is_some (k.area p (1 + j))

-- "children mask 16, occupied slots 32, present structures 4": bit 0 of each the least significant
abbrev pub masks_of : K → ℕ → MasksFields
masks_of k p = record { children = map_of 16 (child k p); slots = map_of 32 (occupied k p); structures = map_of 4 (structured k p) }

-- the lines of an entry
unfoldable pub number_of_lines : Opt Entry → ℕ
number_of_lines none = 0
number_of_lines (some e) = e.stop - e.start

-- those that slot i of p holds, and those of them that are open
abbrev pub held_at : K → ℕ → ℕ → ℕ
held_at k p i = number_of_lines (k.slot p i)

abbrev pub opened_at : Table → ℕ → ℕ → ℕ
opened_at t p i = cond (t.opened p i) (held_at t.k p i) 0

-- "lines held 27, lines open 27": of all its entries, and of its open entries
abbrev pub held_lines : K → ℕ → ℕ
held_lines k p = sum 32 (held_at k p)

abbrev pub open_lines : Table → ℕ → ℕ
open_lines t p = sum 32 (opened_at t p)

abbrev pub lines_for : Table → ℕ → LinesFields
lines_for t p = record { held = held_lines t.k p; opened = open_lines t p }

-- ── its words: two a partition; "absent partitions have zero words" ──
unfoldable pub masks_word : Table → ℕ → ℕ
masks_word t p = cond (present t.k p) (word_of masks (masks_of t.k p)) 0

unfoldable pub lines_word : Table → ℕ → ℕ
lines_word t p = cond (present t.k p) (word_of lines (lines_for t p)) 0

-- word n
unfoldable pub sheet_word : Table → ℕ → ℕ
sheet_word t n = cond (eqb (n % 2) 0) (masks_word t (n / 2)) (lines_word t (n / 2))

-- the sheet of a table, worked out afresh
unfoldable pub sheet_of : Table → List ℕ
sheet_of t = tab 32 (sheet_word t)

-- ── the rules ──
-- the sheet is 32 words, and each is the table's
unfoldable pub matches : List ℕ → Table → Bool
matches s t = eqb (length s) 32 && all 32 (λ n. eqb (get_or s n 0) (sheet_word t n))

-- a call of word w on the words l beside the sheet s: "20, next after 1"
unfoldable pub call_sheet_on : Board → List ℕ → List ℕ → ℕ → Effect
call_sheet_on b l s w = check NotSound (sound b l) (check WrongSheet (matches s (view l)) (serve_read b (view l) (reading call w)))

-- a boot: "from any content", so of the sheet only its length counts
unfoldable pub boot_sheet_on : List ℕ → List ℕ → ℕ → ℕ → Effect
boot_sheet_on l s base end = check NotSound (eqb (length l) 641) (check WrongSheet (eqb (length s) 32) (boot_on l base end))
