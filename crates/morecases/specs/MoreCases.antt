-- Cases beside 01's list: services that it does not call, and 02's requests 101, 102, 104, 105 and 111. One list, `more_cases`, and a single statement over it, `every_more_case`.
-- The checker computes them as it computes those of `cases`, on ARMv7-M.
use Rattle.std.specs.Prelude.{◌≡◌, refl, true, false, cond, List, [], ◌∷◌, ◌++◌, ℕ, ◌+◌, ◌*◌, ◌^◌, get_or, replicate, eqb}
use Rattle.std.proofs.Math.Bool.{and-eq-true_iff}
use Rattle.shapes.specs.declared.Board.TheVariants.{V7}
use Rattle.shapes.specs.Pieces.{pieces_for, piece_words}
use Rattle.tables.specs.State.{Opt, none, some, Entry, entry, all_rights}
use Rattle.tables.specs.View.{slot_word_at}
use Rattle.tables.specs.Encode.{encode}
use Rattle.tables.specs.Settle.{settle}
use Rattle.cases.specs.Cases.{Case, computed, expected, word, gives, refuses, run, B, X, block_of, area, rows, equal, right, right_says, computes}

-- the word of service 9 with these fields: P, S, T, R as a number
abbrev pub word9 : ℕ → ℕ → ℕ → ℕ → ℕ
word9 p s u r = word 9 p s u 0 + r * 2 ^ 43

-- ── D: X with a branch three deep: 1 has child 2, which has loaded a region, and 2 has child 3 ──
unfoldable pub D : List ℕ
D = encode (settle (record {
  base = 256;
  stop = 1024;
  current = 0;
  parent = λ p. get_or (0 ∷ 0 ∷ 1 ∷ 2 ∷ []) p 0;
  area = rows (area 0 0 ∷ area 0 0 ∷ []) (area 256 272 ∷ area 272 288 ∷ []) (area 288 304 ∷ area 304 320 ∷ []) (area 320 336 ∷ []);
  slot =
      rows (block_of 256 272 0 ∷ block_of 512 1024 0 ∷ block_of 272 288 0 ∷ block_of 288 512 1 ∷ []) (block_of 288 304 0 ∷ block_of 304 320 0 ∷ block_of 320 512 2 ∷ [])
      (block_of 320 336 0 ∷ block_of 336 512 0 ∷ []) [];
}) (rows [] [] (some 1 ∷ []) []))

-- ── A: the root alone, with the session's cuts ──
unfoldable pub A : List ℕ
A = (run B (0x7000000002000000 ∷ 0x7000000001100000 ∷ 0x7010000001200000 ∷ [])).1

-- ── 02's story of a long day (111): partition 1 has one entry in each of its four structures, whose areas are entries of the root ──
-- things of a partition, each with its number
abbrev placed : {A : Type 0} → List (ℕ × A) → ℕ → Opt A
placed [] i = none
placed ((j, x) ∷ xs) i = cond (eqb i j) (some x) (placed xs i)

abbrev own : ℕ → ℕ → Entry
own start stop = entry start stop 0 all_rights false

abbrev story : (ℕ → Opt Entry) → (ℕ → Opt ℕ) → List ℕ
story slots regions = encode (settle (record {
  base = 256;
  stop = 1024;
  current = 0;
  parent = λ p. 0;
  area = rows (area 0 0 ∷ area 0 0 ∷ []) (area 256 272 ∷ area 272 288 ∷ area 288 304 ∷ area 304 320 ∷ area 320 336 ∷ []) [] [];
  slot = λ p. cond (eqb p 1) slots (rows (block_of 256 272 0 ∷ block_of 272 288 0 ∷ block_of 288 304 0 ∷ block_of 304 320 0 ∷ block_of 320 336 0 ∷ block_of 336 512 1 ∷ block_of 512 1024 0 ∷ []) [] [] [] p);
}) (λ p. cond (eqb p 1) regions (λ r. none)))

-- in slots 3, 12, 17 and 30; regions 0 and 2 name the last two
unfoldable pub E : List ℕ
E = story (placed ((3, own 400 440) ∷ (12, own 336 400) ∷ (17, own 480 512) ∷ (30, own 440 480) ∷ [])) (placed ((0, 30) ∷ (2, 17) ∷ []))

-- .. in slots 0 to 3
unfoldable pub F : List ℕ
F = story (placed ((0, own 400 440) ∷ (1, own 336 400) ∷ (2, own 480 512) ∷ (3, own 440 480) ∷ [])) (placed ((0, 3) ∷ (2, 2) ∷ []))

-- ── services that 01's list does not call, and requests 101 and 105 of 02; B, X, D and A as above ──
abbrev pub further_cases : List ℕ → List ℕ → List ℕ → List ℕ → List Case
further_cases B X D A =
    let region = run B (word9 0 0 7 0 ∷ word 11 0 0 7 0 ∷ word9 0 0 7 1 ∷ word 11 0 0 7 0 ∷ []) in
    let gone = run X (word 2 1 0 0 0 ∷ []) in
    let one = run X (word 14 1 0 0 0 ∷ []) in
    let three = run D (word 14 1 0 0 0 ∷ []) in
    -- X, find P 0 at 300: slot 3, its word; at 600: slot 1, another word; at 1024: 7
    gives X (word 12 0 0 0 300) 3 0xf880001200000400
    ∷ gives X (word 12 0 0 0 600) 1 0xf800002000000800
    ∷ refuses X (word 12 0 0 0 1024) 7
    -- B, load slot 0 in region 7, read region 7, unload it, read it again: the entry's word, then 0; afterwards B
    ∷ (region.0, 0 ∷ 0 ∷ 0 ∷ 0 ∷ 0 ∷ 0xf800001000000800 ∷ 0 ∷ 0 ∷ 0 ∷ 0 ∷ 0 ∷ 0 ∷ [])
    ∷ (region.1, B)
    -- B, unload region 8: 16; of partition 1, which is absent: 3
    ∷ refuses B (word9 0 0 8 1) 16
    ∷ refuses B (word9 1 0 8 1) 3
    -- B, service 9 with R = 1 and S = 1, with R = 2 of the absent partition; service 10: 2
    ∷ refuses B (word9 0 1 7 1) 2
    ∷ refuses B (word9 1 0 7 2) 2
    ∷ refuses B (word 10 0 0 7 0) 2
    -- X, delete 1: done; afterwards every word is as if nobody had ever been created. D, delete 1, which has a child: 15
    ∷ (gone.0, 0 ∷ 0 ∷ 0 ∷ [])
    ∷ (gone.1, A)
    ∷ refuses D (word 2 1 0 0 0) 15
    -- X, clear out 1, a branch of one: done, 1; afterwards likewise
    ∷ (one.0, 0 ∷ 1 ∷ 0 ∷ [])
    ∷ (one.1, A)
    -- D, clear out 1, a branch three deep: done, 3; afterwards likewise
    ∷ (three.0, 0 ∷ 3 ∷ 0 ∷ [])
    ∷ (three.1, A)
    -- P no child: 3. D, clear out 2, a grandchild; X, clear out 2, absent
    ∷ refuses D (word 14 2 0 0 0) 3
    ∷ refuses X (word 14 2 0 0 0) 3
    ∷ []

-- ── L: the session's give, lent whole (request 104) ──
unfoldable pub L : List ℕ
L = (run B (0x7000000002000000 ∷ 0x7000000001100000 ∷ 0x1000000000000000 ∷ 0x7010000001200000 ∷ 0x3110000000000000 ∷ 0x5118300000008000 ∷ [])).1

abbrev pub lent_cases : List ℕ → List Case
lent_cases L =
    let back = run L (word 13 1 0 0 0 ∷ word 7 0 0 0 400 ∷ word 12 1 0 0 300 ∷ word 13 0 0 0 0 ∷ word 6 0 3 0 0 ∷ []) in
    -- root slot 3 is as it was without W, slot 0 of partition 1 has the mark
    (slot_word_at L 0 3 ∷ slot_word_at L 1 0 ∷ [], 0xf880001200000400 ∷ 0xf000001200000401 ∷ [])
    -- switch to 1; its cut at 400: 18; its find at 300: slot 0, with the mark; switch to 0; take slot 3: done
    ∷ (back.0, 0 ∷ 0 ∷ 0 ∷ 18 ∷ 0 ∷ 0 ∷ 0 ∷ 0 ∷ 0xf000001200000401 ∷ 0 ∷ 0 ∷ 0 ∷ 0 ∷ 0 ∷ 0 ∷ [])
    ∷ (slot_word_at back.1 0 3 ∷ slot_word_at back.1 1 0 ∷ [], 0xf800001200000400 ∷ 0 ∷ [])
    -- W with take: 2
    ∷ refuses L (word 6 0 3 0 0 + 2 ^ 15) 2
    ∷ []

-- ── request 111 of 02; E and F as above ──
abbrev pub pack_cases : List ℕ → List ℕ → List Case
pack_cases E F =
    let packs = run E (word 15 1 0 0 0 ∷ []) in
    let collects = run F (word 4 1 0 1 0 ∷ word 4 1 0 2 0 ∷ word 4 1 0 3 0 ∷ []) in
    -- E, collect structure 3 of 1, which has an entry: 15
    refuses E (word 4 1 0 3 0) 15
    -- E, pack 1: done, 4; afterwards F: the entries stand in slots 0 to 3 in unchanged slot order, and regions 0 and 2 have followed theirs
    ∷ (packs.0, 0 ∷ 4 ∷ 0 ∷ [])
    ∷ (packs.1, F)
    -- F, collect structures 1, 2 and 3 of 1, which are not needed: done
    ∷ (collects.0, 0 ∷ 0 ∷ 0 ∷ 0 ∷ 0 ∷ 0 ∷ 0 ∷ 0 ∷ 0 ∷ [])
    -- F, pack 1 once more: none moves; pack 0, the caller: none
    ∷ gives F (word 15 1 0 0 0) 0 0
    ∷ gives E (word 15 0 0 0 0) 0 0
    -- E, pack 2, which is absent: 3; pack with a slot: 2
    ∷ refuses E (word 15 2 0 0 0) 3
    ∷ refuses E (word 15 1 1 0 0) 2
    ∷ []

-- ── the shapes of regions (request 102) ──
abbrev pub shaped_cases : List ℕ → List Case
shaped_cases B =
    let cuts = run B (word9 0 0 7 0 ∷ word 7 0 0 0 512 ∷ word 11 0 0 7 0 ∷ []) in
    let merges = run B (word 7 0 0 0 512 ∷ word9 0 0 2 0 ∷ word9 0 1 3 0 ∷ word 8 0 0 1 0 ∷ word 11 0 0 2 0 ∷ word 11 0 0 3 0 ∷ []) in
    let limit = run B (word 7 0 0 0 258 ∷ word9 0 1 0 0 ∷ word9 0 0 1 0 ∷ word9 0 0 0 0 ∷ []) in
    -- 288 to 512 needs three pieces, of 32, 64 and 128 lines; words past them stay
    (piece_words (pieces_for V7 288 512) (replicate 5 7), (288 * 2 ^ 32 + 32) ∷ (320 * 2 ^ 32 + 64) ∷ (384 * 2 ^ 32 + 128) ∷ 7 ∷ 7 ∷ [])
    -- B, cut slot 0 at 258: slot 1 needs eight pieces. Load it in region 0: done; slot 0, of one piece, in region 1: 19; in region 0: done
    ∷ (limit.0, 0 ∷ 1 ∷ 0 ∷ 0 ∷ 0 ∷ 0 ∷ 19 ∷ 0 ∷ 0 ∷ 0 ∷ 0 ∷ 0 ∷ [])
    -- B, load slot 0 in region 7, cut slot 0 at 512, read region 7: 0
    ∷ (cuts.0, 0 ∷ 0 ∷ 0 ∷ 0 ∷ 1 ∷ 0 ∷ 0 ∷ 0 ∷ 0 ∷ [])
    -- B, cut slot 0 at 512, load slots 0 and 1 in regions 2 and 3, merge them, read both regions: 0
    ∷ (merges.0, 0 ∷ 1 ∷ 0 ∷ 0 ∷ 0 ∷ 0 ∷ 0 ∷ 0 ∷ 0 ∷ 0 ∷ 0 ∷ 0 ∷ 0 ∷ 0 ∷ 0 ∷ 0 ∷ 0 ∷ 0 ∷ [])
    ∷ []

abbrev pub more_cases : List Case
more_cases = further_cases B X D A ++ lent_cases L ++ pack_cases E F ++ shaped_cases B

-- ── each list is computed by itself: a declaration has so many steps and no more ──
right_both : (bs cs : List Case) → right bs ≡ true → right cs ≡ true → right (bs ++ cs) ≡ true
right_both [] cs g h = h
right_both (c ∷ bs) cs g h =
    let z = (and-eq-true_iff (equal c.0 c.1) (right bs)).0 g in
    rw z.0 (right_both bs cs z.1 h)

further_right : right (further_cases B X D A) ≡ true
unfolding computes B X D A
further_right = refl

lent_right : right (lent_cases L) ≡ true
unfolding computes B L
lent_right = refl

pack_right : right (pack_cases E F) ≡ true
unfolding computes E F
pack_right = refl

shaped_right : right (shaped_cases B) ≡ true
unfolding computes B
shaped_right = refl

-- ── the statement: in every case, what is computed is what 01's rules and 02 say ──
pub every_more_case : computed more_cases ≡ expected more_cases
every_more_case =
    let later = pack_cases E F ++ shaped_cases B in
    right_says more_cases
    (right_both (further_cases B X D A) (lent_cases L ++ later) further_right
    (right_both (lent_cases L) later lent_right
    (right_both (pack_cases E F) (shaped_cases B) pack_right shaped_right)))
