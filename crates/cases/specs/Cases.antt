-- 01's "A session printed whole" and "Checked by the prover, and by a run": one list, `cases`, and a single statement over it, `every_case` (proofs/Cases.antt).
-- The checker computes every case by the rules that the contracts cite: call_on, boot_on, words_after, holders_outcome, holders_bytes; on ARMv7-M.
use Rattle.std.specs.Prelude.{◌≡◌, refl, Bool, true, false, ◌&&◌, List, [], ◌∷◌, ◌++◌, map, ℕ, length, get_or, replicate, eqb}
use Rattle.std.proofs.Common.{ap₂, eq-eqb, eqb-true}
use Rattle.std.proofs.Math.Bool.{and-eq-true_iff}
use Rattle.std.proofs.lemmas.Bool.{false≢true}
use Rattle.std.proofs.Math.Decide.{ℕ_discrete}
use Rattle.loops.specs.Loops.{rest, tab_from, climb, carried, sum}
use Rattle.words.specs.Kind.{word_of}
use Rattle.words.specs.Words.{first, header, structure, regions, slot, call}
use Rattle.shapes.specs.declared.Board.TheVariants.{V7}
use Rattle.tables.specs.State.{Opt, none, some, Entry, entry, all_rights, Area}
use Rattle.tables.specs.View.{view, view_k, entry_in, header_area, structure_area, area_in, nth_region, named, inside, parent_at, first_word, record_word, area_word_at, regions_word_at, blank_word_at, slot_word_at}
use Rattle.tables.specs.Encode.{encode, slot_word, header_word, structure_word, region_for, regions_word, part_word, word_for}
use Rattle.tables.specs.Update.{pick, upd, upd1, both?}
use Rattle.tables.specs.Search.{lowest, present, absent, absent_child, child, has_child, no_structure, free, holds, looked_at}
use Rattle.tables.specs.Settle.{meets, apart, clear, open_bit, open_at, keep, settle}
use Rattle.tables.specs.ZeroRecord.{zero_to, zero_blanks}
use Rattle.tables.specs.Outcomes.{answered, Outcome}
use Rattle.sound.specs.Clauses.{when, has, is_nowhere, long, s1, s2_root, s2_other, s2, blank_region, s3_regions, s3_first, s3, rooted, s4_area, s4_absent, s4, s5_slot, s5, apart_e, s6, held, covered, s7_root, s7_given, grants, s7_inside, s7_cover, lends, undivided, s7_whole, s7, equals, s8_backed, s8_apart, s8, s9, s10_names, s10_once, s10, full, within, s11_within, contains_both, one_grant, same_rights, s11_equal, s11, clause_at, sound}
use Rattle.shapes.specs.Pieces.{fits, grown, widest, pieces_in, pieces}
use Rattle.sound.specs.Limit.{entry_pieces, region_pieces, loaded_pieces}
use Rattle.sound.specs.Holders.{receiver, given_by, heir, deepest, trail, holders_of, sum_over, looks_of, in_memory, holders_outcome, holders_bytes}
use Rattle.rules.specs.Ran.{outcome_of}
use Rattle.rules.specs.Pack.{usable, rename, move_to, pack_slot, packed}
use Rattle.rules.specs.Rules.{Effect, check, need, own_or_child, parent_or_child, free_entry, create, delete, prepare, vacant, collect, give, returned, take, cut, merge, elsewhere, load, unload, region_word, read_region, find, switch, ungive, branch, clear_out, pack, no_rights, uses, unused, region_call, known, perform, serve, serve_read, call_on, boot_on, words_after}

-- ── a case: what is computed, and what 01 says ──
abbrev pub Case : Type 0
Case = List ℕ × List ℕ

abbrev pub computed : List Case → List (List ℕ)
computed cs = map (λ (c : Case). c.0) cs

abbrev pub expected : List Case → List (List ℕ)
expected cs = map (λ (c : Case). c.1) cs

-- an outcome as numbers: refusal number or 0, first value, second value
abbrev pub told : Outcome → List ℕ
told o = let n = answered o in n.refusal ∷ n.first ∷ n.second ∷ []

-- .. that of a rule
abbrev pub shown : Effect → List ℕ
shown r = told (outcome_of r)

-- the call word with these fields: service, P, S, T, L; no rights
abbrev pub word : ℕ → ℕ → ℕ → ℕ → ℕ → ℕ
word n p s u l = word_of call (record {
  service = n;
  partition = record { 0 = p };
  slot = record { 0 = s };
  other = u;
  rights = record { read = false; write = false; execute = false };
  line = record { 0 = l };
  whole = false;
})

-- on the words l the call word w is done, with these values
abbrev pub gives : List ℕ → ℕ → ℕ → ℕ → Case
gives l w v₁ v₂ = (shown (call_on V7 l w), 0 ∷ v₁ ∷ v₂ ∷ [])

-- .. is refused, with this number
abbrev pub refuses : List ℕ → ℕ → ℕ → Case
refuses l w n = (shown (call_on V7 l w), n ∷ 0 ∷ 0 ∷ [])

-- call words one after the other: what each shows, and the words after the last
abbrev pub run : List ℕ → List ℕ → List ℕ × List ℕ
run l [] = ([], l)
run l (w ∷ ws) =
    let r = call_on V7 l w in
    let z = run (words_after l r) ws in
    (shown r ++ z.0, z.1)

-- ── B is boot 256 to 1024 ──
abbrev pub blank : List ℕ
blank = replicate 641 0

unfoldable pub B : List ℕ
B = words_after blank (boot_on blank 256 1024)

-- whatever stood in the 641 words before
pub B-any : (l : List ℕ) → length l ≡ 641 → words_after l (boot_on l 256 1024) ≡ B
unfolding B boot_on words_after check
B-any l h = rw (eq-eqb (length l) 641 h) refl

-- ── the session: its call words and the lines that it prints for them, without their numbers ──
abbrev pub calls : List ℕ
calls =
    0x7000000002000000
    ∷ 0x7000000001100000
    ∷ 0x1000000000000000
    ∷ 0x7010000001200000
    ∷ 0x3110000000000000
    ∷ 0x5118300000000000
    ∷ 0x5118300000000000
    ∷ []

abbrev pub printed : List ℕ
printed =
    0 ∷ 1 ∷ 0
    ∷ 0 ∷ 2 ∷ 0
    ∷ 0 ∷ 1 ∷ 0
    ∷ 0 ∷ 3 ∷ 0
    ∷ 0 ∷ 0 ∷ 0
    ∷ 0 ∷ 0 ∷ 0
    ∷ 6 ∷ 0 ∷ 0
    ∷ []

-- what it shows, and the table after it
unfoldable pub session : List ℕ × List ℕ
session = run B calls

-- ── X: that table, part by part ──
abbrev pub block_of : ℕ → ℕ → ℕ → Opt Entry
block_of start stop given = some (entry start stop given all_rights false)

abbrev pub area : ℕ → ℕ → Opt Area
area lo hi = some (record { lo = lo; hi = hi })

-- the first things of a partition, from number 0 on
abbrev row : {A : Type 0} → List (Opt A) → ℕ → Opt A
row os i = get_or os i none

-- the rows of partitions 0 to 3
abbrev pub rows : {A : Type 0} → List (Opt A) → List (Opt A) → List (Opt A) → List (Opt A) → ℕ → ℕ → Opt A
rows a b c d p = row (get_or (a ∷ b ∷ c ∷ d ∷ []) p [])

unfoldable pub X : List ℕ
X = encode (settle (record {
  base = 256;
  stop = 1024;
  current = 0;
  parent = λ p. 0;
  area = rows (area 0 0 ∷ area 0 0 ∷ []) (area 256 272 ∷ area 272 288 ∷ []) [] [];
  slot =
      rows (block_of 256 272 0 ∷ block_of 512 1024 0 ∷ block_of 272 288 0 ∷ block_of 288 512 1 ∷ [])
      (some (entry 288 512 0 (record { read = true; write = true; execute = false }) false) ∷ []) [] [];
}) (rows [] [] [] []))

-- ── the cases, in 01's order; a star as there. X is the session's table ──
abbrev pub cases_of : List ℕ → List ℕ × List ℕ → List Case
cases_of B (lines, X) =
    -- the lines printed
    (lines, printed)
    -- afterwards root slot 3 is f880001200000400 and slot 0 of partition 1 is f000001200000400
    ∷ (slot_word_at X 0 3 ∷ [], 0xf880001200000400 ∷ [])
    ∷ (slot_word_at X 1 0 ∷ [], 0xf000001200000400 ∷ [])
    -- * B: root slot 0 is f800001000000800
    ∷ (slot_word_at B 0 0 ∷ [], 0xf800001000000800 ∷ [])
    -- * B, cut slot 0 at 256: 7; at 1024: 7; * at 257: done, slot 1
    ∷ refuses B (word 7 0 0 0 256) 7
    ∷ refuses B (word 7 0 0 0 1024) 7
    ∷ gives B (word 7 0 0 0 257) 1 0
    -- * B, merge S = T = 0: 11
    ∷ refuses B (word 8 0 0 0 0) 11
    -- * B, switch to 0: 3
    ∷ refuses B (word 13 0 0 0 0) 3
    -- * B, load slot 0 in region 8: 16; in 7: done
    ∷ refuses B (word 9 0 0 8 0) 16
    ∷ gives B (word 9 0 0 7 0) 0 0
    -- * B, collect P 0 structure 0: 15
    ∷ refuses B (word 4 0 0 0 0) 15
    -- * X, holders of 300: 0, 1. Two holders; their numbers are the first two bytes, the rest stay. Slot 3 of 0 and slot 0 of 1: 5 slot words looked at
    ∷ (told (holders_outcome V7 X 300 16), 0 ∷ 2 ∷ 5 ∷ [])
    ∷ (holders_bytes V7 X 300 (replicate 16 255), 0 ∷ 1 ∷ replicate 14 255)
    -- X, holders of 1024: 7
    ∷ (told (holders_outcome V7 X 1024 16), 7 ∷ 0 ∷ 0 ∷ [])
    -- * X, take slot 3: done; * slot 1: 6
    ∷ gives X (word 6 0 3 0 0) 0 0
    ∷ refuses X (word 6 0 1 0 0) 6
    -- X, create from slot 0: 5
    ∷ refuses X (word 1 0 0 0 0) 5
    -- * boot 5 to 5: 7
    ∷ (shown (boot_on blank 5 5), 7 ∷ 0 ∷ 0 ∷ [])
    -- boot 0 to 134,217,727: done
    ∷ (shown (boot_on blank 0 134217727), 0 ∷ 0 ∷ 0 ∷ [])
    -- a 15-line entry for create: 9; 16 lines: done. B, cut slot 0 at 271 or 272, then create from slot 0
    ∷ ((run B (word 7 0 0 0 271 ∷ word 1 0 0 0 0 ∷ [])).0, 0 ∷ 1 ∷ 0 ∷ 9 ∷ 0 ∷ 0 ∷ [])
    ∷ ((run B (word 7 0 0 0 272 ∷ word 1 0 0 0 0 ∷ [])).0, 0 ∷ 1 ∷ 0 ∷ 0 ∷ 1 ∷ 0 ∷ [])
    ∷ []

abbrev pub cases : List Case
cases = cases_of B session

-- ── a test that every case is right: the list is then computed once, not once for each side ──
abbrev pub equal : List ℕ → List ℕ → Bool
equal [] [] = true
equal [] (n ∷ ns) = false
equal (m ∷ ms) [] = false
equal (m ∷ ms) (n ∷ ns) = eqb m n && equal ms ns

abbrev pub right : List Case → Bool
right [] = true
right (c ∷ cs) = equal c.0 c.1 && right cs

pub equal_says : (a b : List ℕ) → equal a b ≡ true → a ≡ b
equal_says [] [] h = refl
equal_says [] (n ∷ ns) h = absurd (false≢true h)
equal_says (m ∷ ms) [] h = absurd (false≢true h)
equal_says (m ∷ ms) (n ∷ ns) h =
    let z = (and-eq-true_iff (eqb m n) (equal ms ns)).0 h in
    ap₂ ◌∷◌ (eqb-true m n z.0) (equal_says ms ns z.1)

pub right_says : (cs : List Case) → right cs ≡ true → computed cs ≡ expected cs
right_says [] h = refl
right_says (c ∷ cs) h =
    let z = (and-eq-true_iff (equal c.0 c.1) (right cs)).0 h in
    ap₂ ◌∷◌ (equal_says c.0 c.1 z.0) (right_says cs z.1)

-- all that the checker opens to compute a case, said once: to open this is to open what stands on its line
unfoldable pub computes : Unit {0}
unfolding carried rest tab_from climb first header structure regions slot call first_word record_word area_word_at regions_word_at blank_word_at slot_word_at view view_k entry_in header_area structure_area area_in nth_region named inside parent_at encode slot_word header_word structure_word region_for regions_word part_word word_for pick upd upd1 both? ℕ_discrete lowest present absent absent_child child no_structure free holds looked_at meets apart clear open_bit open_at keep settle zero_to zero_blanks when has is_nowhere long s1 s2_root s2_other s2 blank_region s3_regions s3_first s3 rooted s4_area s4_absent s4 s5_slot s5 apart_e s6 held covered s7_root s7_given grants s7_inside s7_cover lends undivided s7_whole s7 equals s8_backed s8_apart s8 s9 s10_names s10_once fits grown widest pieces_in pieces entry_pieces region_pieces loaded_pieces s10 full within s11_within contains_both one_grant same_rights s11_equal s11 clause_at sound receiver given_by heir deepest trail holders_of sum_over looks_of in_memory holders_outcome holders_bytes check need own_or_child parent_or_child free_entry create prepare vacant collect give returned take cut merge elsewhere load switch ungive branch clear_out sum no_rights uses unused region_call known perform serve serve_read call_on boot_on words_after outcome_of has_child delete unload region_word read_region find usable rename move_to pack_slot packed pack
computes = tt

-- 01's cases, and before them that the session's table is X: so the session is computed once for both
abbrev pub with_table : List ℕ × List ℕ → List Case
with_table s = (s.1, X) ∷ cases_of B s
