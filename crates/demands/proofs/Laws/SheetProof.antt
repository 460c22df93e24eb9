-- A sheet beside the table, over bytes: what is refused 1 or 20, that all else is as without a sheet, and that the sheet goes on to be the table's.
use Rattle.std.specs.Prelude.{◌≡◌, Bool, true, false, cond, ◌↔◌, ℕ, ◌+◌, ◌-◌, ◌*◌, ◌^◌, ◌<◌, length, get_or}
use Rattle.std.proofs.Math.Path.{refl, ap, sym}
use Rattle.std.proofs.Common.{subst, ◌∙◌, arith, lit<}
use Rattle.std.proofs.lemmas.Bool.{false≢true}
use mathlib.Core.List.{List}
use Rattle.std.proofs.Math.Decide.{ℕ_discrete}
use Rattle.words.specs.Kind.{fields_in, reading}
use Rattle.words.specs.Laws.Kind.{fields_back}
use Rattle.words.specs.Words.{call, masks, lines}
use Rattle.words.specs.declared.lines_word.LinesFields.{LinesFields}
use Rattle.words.specs.Laws.Kinds.{lines_lawful}
use Rattle.words.proofs.Trips.{masks_trips, lines_trips}
use Rattle.words.specs.declared.Refusal.{Refusal}
use Rattle.words.specs.Refusals.{number_of}
use Rattle.words.specs.Laws.Refusals.{number_low}
use Rattle.shapes.specs.declared.Board.{Board}
use Rattle.words.specs.declared.call_word.CallFields.{CallFields}
use Rattle.tables.specs.State.{Opt, none, Table}
use Rattle.tables.specs.View.{record_word, view}
use Rattle.tables.specs.Encode.{encode}
use Rattle.tables.specs.Fitting.{Words}
use Rattle.tables.specs.Search.{is_some, present}
use Rattle.tables.specs.Laws.Back.{view_encode}
use Rattle.memory.specs.Bytes.{word_at, bytes_of, record_byte}
use Rattle.memory.specs.Laws.ByteTrips.{length_bytes_of_law, record_stays}
use Rattle.sound.specs.Sound.{Present, Sound}
use Rattle.sound.specs.Clauses.{sound}
use Rattle.sound.specs.Whole.{Right}
use Rattle.sound.proofs.Laws.List.{sound_means}
use Rattle.rules.specs.Rules.{Effect, done, refused, call_on, boot_on}
use Rattle.rules.specs.Ran.{outcome_of}
use Rattle.rules.specs.Calls.{caller_of}
use Rattle.services.specs.Laws.Boot.{boot_length}
use Rattle.isolation.proofs.Laws.Boot.{boot_right}
use Rattle.isolation.specs.Ladder.{Ladder, finish, must, there, least}
use Rattle.isolation.specs.Ladders.{boot_ladder, numbered_ladder, call_ladder}
use Rattle.isolation.specs.Laws.Fits.{Good, right_fit, good_right}
use Rattle.isolation.specs.Whole.{after_all}
use Rattle.isolation.proofs.Whole.{call_right}
use Rattle.ledger.proofs.Laws.Kept.{from_boot_kept}
use Rattle.sheetrules.specs.Sheet.{lines_word, lines_for, sheet_of, matches, call_sheet_on, boot_sheet_on}
use Rattle.sheetrules.specs.Bytes.{handed_sheet, sheet_bytes, sheet_bytes_after}
use Rattle.sheetrules.specs.Laws.Rules.{call_1, call_20, call_else, boot_1, boot_20, boot_else}
use Rattle.sheetrules.specs.Laws.Held.{root_lines}
use Rattle.sheetrules.proofs.Laws.Words.{lines_in_law, masks_back, lines_back, pair_absent}
use Rattle.sheetrules.specs.Laws.Bytes.{matches_means, matches_length, short_handed, handed_length, sheet_bytes_law}
use Rattle.sheetrules.proofs.Laws.Reading.{sheet_words, sheet_masks_read, sheet_lines_read, bytes_same}
use Rattle.sheet.specs.Laws.Kept.{call_kept}
use Rattle.face.specs.Face.{handed, result_of, second_after, bytes_after, Lent, CallLent}
use Rattle.face.specs.Laws.Face.{handed_is, handed_unsound, handed_whole, handed_short}
use Rattle.facesheet.specs.Sheets.{BothLent, BootSheetLent, CallSheetLent}
use Rattle.demands.specs.Demands.{Bytes, BootLent, refusal_in, first_in, Accepted, Applies, fails, later, missing, of_entry, no_lowest, of_lowest}
use Rattle.demands.proofs.Theorem.{boot_answered, booted, start, start_good}
use Rattle.demands.specs.Laws.Calls.{handed_small, handed_of, call_answered, call_done, one_unsound, next, caller_byte}
use Rattle.demands.specs.Laws.Lowest.{Rises, top, rung, applies_range, past}
use Rattle.demands.specs.Laws.Results.{reads_back}
use Rattle.demands.specs.Sheet.{IsSheet, SheetPair, CalledBeside, no_call, one_call, KeptBeside, SheetDemand}
use Rattle.words.specs.declared.Refusal.TheVariants.{WrongLine, NotSound, WrongSheet}

-- a table that was left is right: the sheet left beside it is its own
afresh : {t : Table} {c u : List ℕ} → Right t → c ≡ bytes_of (encode t) → u ≡ sheet_bytes (sheet_of t) → IsSheet c u
afresh {t} {c} h d e =
    e ∙ ap (λ (t : Table). sheet_bytes (sheet_of t)) (sym (ap view (ap handed d ∙ handed_of h) ∙ view_encode t (right_fit h)))

-- the sheet of the bytes is that of the words, both ways
to_matches : {board : Board} (b s : List ℕ) → Good board (handed b) → IsSheet b s → matches (handed_sheet s) (view (handed b)) ≡ true
to_matches b s g e = (matches_means (handed_sheet s) (view (handed b))).1 (ap handed_sheet e ∙ sheet_words (good_right g))

of_matches : (b s : List ℕ) → Bytes s → matches (handed_sheet s) (view (handed b)) ≡ true → IsSheet b s
of_matches b s small q =
    sym (sheet_bytes_law s (matches_length s (view (handed b)) q) small) ∙ ap sheet_bytes ((matches_means (handed_sheet s) (view (handed b))).0 q)

-- what is read of a refusal, and of what is done
refused_reads : {p r : ℕ} {why : Refusal} {res : Effect} → p < 2 ^ 8 → res ≡ refused why → r ≡ result_of p (outcome_of res) → refusal_in r ≡ number_of why
unfolding result_of outcome_of
refused_reads {p} {why = why} c e q = rw (q ∙ ap (λ (x : Effect). result_of p (outcome_of x)) e) (reads_back (number_of why) p 0 (omega (arith, number_low why)) c).0

-- a refusal leaves both
both_unchanged : {p : ℕ} {res : Effect} {b s : List ℕ} {r : ℕ} {c u : List ℕ} → p < 2 ^ 8 → BothLent p res b s r c u → (Accepted r → ⊥) → (why : Refusal) × (res ≡ refused why) × (c ≡ b) × (u ≡ s)
unfolding result_of outcome_of bytes_after sheet_bytes_after
both_unchanged {p} {res} {b} {s} {r} {c} {u} small h n = go res refl h.table.result h.table.bytes h.sheet
  where
    go : (x : Effect) → res ≡ x → r ≡ result_of p (outcome_of x) → c ≡ bytes_after b x → u ≡ sheet_bytes_after s x → (why : Refusal) × (res ≡ refused why) × (c ≡ b) × (u ≡ s)
    go (done f y t) z e d k = absurd (n (rw e (reads_back 0 p f (omega arith) small).0))
    go (refused why) z e d k = (why, z, d, k)

-- ── the rows without a sheet have no number from 20 on ──
data Below : Ladder → Type 1 where
  last : {v w : ℕ} {t : Table} → Below (finish v w t)
  asks : {why : Refusal} {P : Type 0} {c : Ladder} → number_of why < 20 → Below c → Below (must why P c)
  needs : {why : Refusal} {A : Type 0} {o : Opt A} {c : A → Ladder} → number_of why < 20 → ((a : A) → Below (c a)) → Below (there why o c)
  finds : {k : ℕ} {why : Refusal} {P : ℕ → Type 0} {c : ℕ → Ladder} → number_of why < 20 → ((i : ℕ) → Below (c i)) → Below (least why k P c)

applies_below : {m : ℕ} {l : Ladder} → Below l → Applies l m → m < 20
applies_below last x = elim x [ ]
applies_below (asks b r) (fails _) = b
applies_below (asks b r) (later x) = applies_below r x
applies_below (needs b r) (missing _) = b
applies_below (needs b r) (of_entry e _ x) = applies_below (r e) x
applies_below (finds b r) (no_lowest _) = b
applies_below (finds b r) (of_lowest i _ x) = applies_below (r i) x

either : (x : Bool) {c d : Ladder} → Below c → Below d → Below (cond x c d)
either true p q = p
either false p q = q

numbered_below : (board : Board) (n : ℕ) (t : Table) (f : CallFields) → Below (numbered_ladder board n t f)
numbered_below board n t f = search (either, last, asks, needs, finds, lit<) depth 40 fits 4000

call_below : (board : Board) (l : List ℕ) (w : ℕ) → Below (call_ladder board l w)
call_below board l w = let services = numbered_below board (fields_in call w).service (view l) (fields_in call w) in search (asks, services, lit<) depth 10

boot_below : (l : List ℕ) (base end : ℕ) → Below (boot_ladder l base end)
boot_below l base end = search (last, asks, lit<) depth 10

-- ── boot ──
data HowBoot (b s : List ℕ) (base end : ℕ) : Type 0 where
  short : (length b ≡ 5128 → ⊥) → boot_sheet_on (handed b) (handed_sheet s) base end ≡ refused NotSound → HowBoot b s base end
  no_sheet : length b ≡ 5128 → (length s ≡ 256 → ⊥) → boot_sheet_on (handed b) (handed_sheet s) base end ≡ refused WrongSheet → HowBoot b s base end
  plain : length b ≡ 5128 → length s ≡ 256 → boot_sheet_on (handed b) (handed_sheet s) base end ≡ boot_on (handed b) base end → HowBoot b s base end

how_boot : (b s : List ℕ) (base end : ℕ) → HowBoot b s base end
how_boot b s base end = go (ℕ_discrete (length b) 5128) (ℕ_discrete (length s) 256)
  where
    go : Dec (length b ≡ 5128) → Dec (length s ≡ 256) → HowBoot b s base end
    go (no h) _ = short h (boot_1 _ _ base end (handed_short b h))
    go (yes h) (no k) = no_sheet h k (boot_20 _ _ base end (handed_whole b h) (short_handed s k))
    go (yes h) (yes k) = plain h k (boot_else _ _ base end (handed_whole b h) (handed_length s k))

-- after 1 comes 7
range_rises : {P : Type 0} {t : Table} → Rises 2 (must WrongLine P (finish 0 0 t))
range_rises = rung {n = 2} {why = WrongLine} (omega arith) (omega arith) top

module _ (base end : ℕ) {b s : List ℕ} {r : ℕ} {c s' : List ℕ} (h : BootSheetLent b s base end r c s') where
  boot_without : boot_sheet_on (handed b) (handed_sheet s) base end ≡ boot_on (handed b) base end → BootLent b base end r c
  boot_without e = subst (λ (x : Effect). Lent 0 x b r c) e h.table

  boot_says : {why : Refusal} → boot_sheet_on (handed b) (handed_sheet s) base end ≡ refused why → refusal_in r ≡ number_of why
  boot_says e = refused_reads (omega arith) e h.table.result

  -- without a sheet it is 1 by the length alone, and never 20
  boot_one : length b ≡ 5128 → BootLent b base end r c → (refusal_in r ≡ 1 → ⊥) × (refusal_in r ≡ 20 → ⊥)
  boot_one k l =
      let a = boot_answered base end l in (
        λ z. let (i, _) = applies_range range_rises (past (handed_whole b k) ((a.refuses 1 (omega arith)).0 z).applies) in omega arith,
        λ z. let i = applies_below (boot_below (handed b) base end) ((a.refuses 20 (omega arith)).0 z).applies in omega arith,
      )

  sheet_boot_1 : (refusal_in r ≡ 1) ↔ (length b ≡ 5128 → ⊥)
  sheet_boot_1 = go (how_boot b s base end)
    where
      go : HowBoot b s base end → (refusal_in r ≡ 1) ↔ (length b ≡ 5128 → ⊥)
      go (short k e) = (λ _. k, λ _. boot_says e)
      go (no_sheet k j e) = (λ z. absurd (omega (arith, boot_says e)), λ n. absurd (n k))
      go (plain k j e) = (λ z. absurd ((boot_one k (boot_without e)).0 z), λ n. absurd (n k))

  sheet_boot_20 : (refusal_in r ≡ 20) ↔ ((length b ≡ 5128) × (length s ≡ 256 → ⊥))
  sheet_boot_20 = go (how_boot b s base end)
    where
      go : HowBoot b s base end → (refusal_in r ≡ 20) ↔ ((length b ≡ 5128) × (length s ≡ 256 → ⊥))
      go (short k e) = (λ z. absurd (omega (arith, boot_says e)), λ n. absurd (k n.0))
      go (no_sheet k j e) = (λ _. (k, j), λ _. boot_says e)
      go (plain k j e) = (λ z. absurd ((boot_one k (boot_without e)).1 z), λ n. absurd (n.1 j))

  sheet_boot_else : length s ≡ 256 → BootLent b base end r c
  sheet_boot_else k = go (how_boot b s base end)
    where
      go : HowBoot b s base end → BootLent b base end r c
      go (short j e) = boot_without (e ∙ sym (boot_length (handed b) base end (handed_short b j)))
      go (no_sheet j n e) = absurd (n k)
      go (plain j n e) = boot_without e

  -- an accepted one
  module _ (q : Accepted r) where
    boot_lent : BootLent b base end r c × (boot_sheet_on (handed b) (handed_sheet s) base end ≡ boot_on (handed b) base end)
    boot_lent = go (how_boot b s base end)
      where
        go : HowBoot b s base end → BootLent b base end r c × (boot_sheet_on (handed b) (handed_sheet s) base end ≡ boot_on (handed b) base end)
        go (short k e) = absurd (omega (arith, boot_says e, q))
        go (no_sheet k j e) = absurd (omega (arith, boot_says e, q))
        go (plain k j e) = (boot_without e, e)

    boot_is : boot_on (handed b) base end ≡ done (first_in r) 0 (booted base end boot_lent.0 q).0
    boot_is = (booted base end boot_lent.0 q).1

    sheet_boot_afresh : IsSheet c s'
    unfolding bytes_after sheet_bytes_after
    sheet_boot_afresh =
        let e = boot_lent.1 ∙ boot_is in
        afresh (boot_right (handed b) base end boot_is) (h.table.bytes ∙ ap (bytes_after b) e) (h.sheet ∙ ap (sheet_bytes_after s) e)

-- the bytes of a sound table are 5,128
sound_size : (board : Board) (b : List ℕ) → sound board (handed b) ≡ true → length b ≡ 5128
sound_size board b q = go (ℕ_discrete (length b) 5128)
  where
    go : Dec (length b ≡ 5128) → length b ≡ 5128
    go (yes h) = h
    go (no h) = absurd (false≢true (sym (handed_unsound b h board) ∙ q))

-- ── a call ──
data How (board : Board) (l s : List ℕ) (w : ℕ) : Type 0 where
  unsound : sound board l ≡ false → call_sheet_on board l s w ≡ refused NotSound → How board l s w
  mismatch : sound board l ≡ true → matches s (view l) ≡ false → call_sheet_on board l s w ≡ refused WrongSheet → How board l s w
  same : sound board l ≡ true → matches s (view l) ≡ true → call_sheet_on board l s w ≡ call_on board l w → How board l s w

how : (board : Board) (l s : List ℕ) (w : ℕ) → How board l s w
how board l s w = go (sound board l) (matches s (view l)) refl refl
  where
    go : (x y : Bool) → sound board l ≡ x → matches s (view l) ≡ y → How board l s w
    go false y p q = unsound p (call_1 board l s w p)
    go true false p q = mismatch p q (call_20 board l s w p q)
    go true true p q = same p q (call_else board l s w p q)

not_sound : {board : Board} {l : List ℕ} → sound board l ≡ false → Sound board l → ⊥
not_sound {board} {l} q s = false≢true (sym q ∙ (sound_means board l).1 s)

module _ {board : Board} {b s : List ℕ} {w v r : ℕ} {c s' : List ℕ} {v' : ℕ} (h : CallSheetLent board b s w v r c s' v') where
  without : call_sheet_on board (handed b) (handed_sheet s) w ≡ call_on board (handed b) w → CallLent board b w v r c v'
  without e = record {
    table = subst (λ (x : Effect). Lent (caller_of board (handed b)) x b r c) e h.both.table;
    second = h.second ∙ ap (λ (x : Effect). second_after v (outcome_of x)) e;
  }

  call_says : {why : Refusal} → call_sheet_on board (handed b) (handed_sheet s) w ≡ refused why → refusal_in r ≡ number_of why
  call_says e = refused_reads (caller_byte board b) e h.both.table.result

  call_unchanged : (Accepted r → ⊥) → (c ≡ b) × (s' ≡ s) × (v' ≡ v)
  unfolding outcome_of second_after
  call_unchanged n =
      let (m, e, d, k) = both_unchanged (caller_byte board b) h.both n in
      (d, k, h.second ∙ ap (λ (x : Effect). second_after v (outcome_of x)) e)

  -- done by the rule: the sheet is the new table's
  left : Words (handed b) → {f y : ℕ} {t : Table} → call_sheet_on board (handed b) (handed_sheet s) w ≡ call_on board (handed b) w → call_on board (handed b) w ≡ done f y t
      → IsSheet c s' × (c ≡ bytes_of (encode t)) × (s' ≡ sheet_bytes (sheet_of t))
  unfolding bytes_after sheet_bytes_after
  left small e z =
      let d = h.both.table.bytes ∙ ap (bytes_after b) (e ∙ z) in
      let k = h.both.sheet ∙ ap (sheet_bytes_after s) (e ∙ z) in
      (afresh (call_right board (handed b) w small z) d k, d, k)

  -- where the sheet is the table's, the next one is the next table's
  next_sheet : Words (handed b) → call_sheet_on board (handed b) (handed_sheet s) w ≡ call_on board (handed b) w → IsSheet b s → IsSheet c s'
  unfolding bytes_after sheet_bytes_after
  next_sheet small e is = go (call_on board (handed b) w) refl
    where
      go : (x : Effect) → call_on board (handed b) w ≡ x → IsSheet c s'
      go (done f y t) z = (left small e z).0
      go (refused why) z =
          let d = h.both.table.bytes ∙ ap (bytes_after b) (e ∙ z) in
          let k = h.both.sheet ∙ ap (sheet_bytes_after s) (e ∙ z) in
          k ∙ is ∙ ap (λ (x : List ℕ). sheet_bytes (sheet_of (view (handed x)))) (sym d)

  module _ (small : Words (handed b)) where
    never : call_sheet_on board (handed b) (handed_sheet s) w ≡ call_on board (handed b) w → refusal_in r ≡ 20 → ⊥
    never e z = let i = applies_below (call_below board (handed b) w) (((call_answered small (without e)).refuses 20 (omega arith)).0 z).applies in omega arith

    sheet_call_1 : (refusal_in r ≡ 1) ↔ (Sound board (handed b) → ⊥)
    sheet_call_1 = go (how board (handed b) (handed_sheet s) w)
      where
        go : How board (handed b) (handed_sheet s) w → (refusal_in r ≡ 1) ↔ (Sound board (handed b) → ⊥)
        go (unsound p e) = (λ _. not_sound p, λ _. call_says e)
        go (mismatch p q e) = (λ z. absurd (omega (arith, call_says e)), λ n. absurd (n ((sound_means board (handed b)).0 p)))
        go (same p q e) = one_unsound small (without e)

    sheet_call_20 : Bytes s → (refusal_in r ≡ 20) ↔ (Sound board (handed b) × (IsSheet b s → ⊥))
    sheet_call_20 bytes = go (how board (handed b) (handed_sheet s) w)
      where
        go : How board (handed b) (handed_sheet s) w → (refusal_in r ≡ 20) ↔ (Sound board (handed b) × (IsSheet b s → ⊥))
        go (unsound p e) = (λ z. absurd (omega (arith, call_says e)), λ n. absurd (not_sound p n.0))
        go (mismatch p q e) =
            let k = (sound_means board (handed b)).0 p in
            (λ _. (k, λ i. false≢true (sym q ∙ to_matches b s (record { small = small; sound = k }) i)), λ _. call_says e)
        go (same p q e) = (λ z. absurd (never e z), λ n. absurd (n.1 (of_matches b s bytes q)))

    sheet_call_else : (Sound board (handed b) → IsSheet b s) → CallLent board b w v r c v'
    unfolding call_on
    sheet_call_else is = go (how board (handed b) (handed_sheet s) w)
      where
        go : How board (handed b) (handed_sheet s) w → CallLent board b w v r c v'
        go (unsound p e) = without (e ∙ sym (rw p refl))
        go (mismatch p q e) = let k = (sound_means board (handed b)).0 p in absurd (false≢true (sym q ∙ to_matches b s (record { small = small; sound = k }) (is k)))
        go (same p q e) = without e

    -- an accepted one
    module _ (a : Accepted r) where
      plainly : (sound board (handed b) ≡ true) × (matches (handed_sheet s) (view (handed b)) ≡ true) × (call_sheet_on board (handed b) (handed_sheet s) w ≡ call_on board (handed b) w)
      plainly = go (how board (handed b) (handed_sheet s) w)
        where
          go : How board (handed b) (handed_sheet s) w → (sound board (handed b) ≡ true) × (matches (handed_sheet s) (view (handed b)) ≡ true) × (call_sheet_on board (handed b) (handed_sheet s) w ≡ call_on board (handed b) w)
          go (unsound p e) = absurd (omega (arith, call_says e, a))
          go (mismatch p q e) = absurd (omega (arith, call_says e, a))
          go (same p q e) = (p, q, e)

      sheet_call_afresh : IsSheet c s'
      sheet_call_afresh = let (_, q, e) = plainly in let (y, t, z) = call_done small (without e) a in (left small e z).0

      sheet_kept_law : Bytes s → (p : ℕ) → p < 16 → ((n : ℕ) → n < 320 → record_byte c p n ≡ record_byte b p n) → (n : ℕ) → n < 16 → get_or s' (16 * p + n) 0 ≡ get_or s (16 * p + n) 0
      sheet_kept_law bytes p k bits n i =
          let (k', q, e) = plainly in
          let (y, t, z) = call_done small (without e) a in
          let (_, d, u) = left small e z in
          let words : (o : ℕ) → o < 40 → record_word (encode t) p o ≡ record_word (handed b) p o = λ o f.
          ap (λ (l : List ℕ). record_word l p o) (sym (handed_is c (ap length d ∙ length_bytes_of_law (encode t)) ∙ ap handed d ∙ handed_of (call_right board (handed b) w small z)))
          ∙ record_stays b c p k bits o f
          ∙ ap (λ (l : List ℕ). record_word l p o) (handed_is b (sound_size board b k')) in
          let (m, l) = call_kept board (handed b) w small z p words in
          ap (λ (x : List ℕ). get_or x (16 * p + n) 0) u
          ∙ bytes_same (view (handed b)) t p k m l n i
          ∙ ap (λ (x : List ℕ). get_or x (16 * p + n) 0) (sym (of_matches b s bytes q))

-- beside its own sheet a table is called as without one
agrees : {board : Board} (b s : List ℕ) → Good board (handed b) → IsSheet b s → (w : ℕ) → call_sheet_on board (handed b) (handed_sheet s) w ≡ call_on board (handed b) w
agrees {board} b s good is w = go (how board (handed b) (handed_sheet s) w)
  where
    go : How board (handed b) (handed_sheet s) w → call_sheet_on board (handed b) (handed_sheet s) w ≡ call_on board (handed b) w
    go (unsound p e) = absurd (not_sound p good.sound)
    go (mismatch p q e) = absurd (false≢true (sym q ∙ to_matches b s good is))
    go (same p q e) = e

-- ── any list of calls ──
called_beside : {board : Board} {b s ws d u : List ℕ} → Good board (handed b) → IsSheet b s → CalledBeside board b s ws d u → (handed d ≡ after_all board (handed b) ws) × Good board (handed d) × IsSheet d u
unfolding after_all
called_beside good is no_call = (refl, good, is)
called_beside {board} {b} {s} good is (one_call {ws = ws} {w = w} h more) =
    let l = sheet_call_else h good.small (λ _. is) in
    let (g, q) = next good l in
    let e = agrees b s good is w in
    let (x, y, z) = called_beside (subst (Good board) (sym q) g) (next_sheet h good.small e is) more in
    (x ∙ ap (λ (l : List ℕ). after_all board l ws) q, y, z)

-- ── what is read ──
is_here : (t : Table) (p : ℕ) → Present t.k p → present t.k p ≡ true
unfolding present
is_here t p v = ap is_some v.1

not_here : (t : Table) (p : ℕ) → t.k.area p 0 ≡ none → present t.k p ≡ false
unfolding present
not_here t p z = ap is_some z

pair : {board : Board} (b s : List ℕ) → Good board (handed b) → IsSheet b s → (p : ℕ) → p < 16 → SheetPair (view (handed b)) p (word_at s (2 * p)) (word_at s (2 * p + 1))
pair b s good is p k =
    let t = view (handed b) in
    let h = good_right good in
    let first = ap (λ (x : List ℕ). word_at x (2 * p)) is ∙ sheet_masks_read h p k in
    let second = ap (λ (x : List ℕ). word_at x (2 * p + 1)) is ∙ sheet_lines_read h p k in
    record {
      present = λ v. let here = is_here t p v in (ap (reading masks) first ∙ masks_back h p here, ap (reading lines) second ∙ lines_back h p here);
      absent = λ z. let (x, y) = pair_absent h p (not_here t p z) in (first ∙ sym x, second ∙ sym y);
    }

root_held : {board : Board} (b s : List ℕ) → Good board (handed b) → IsSheet b s → (fields_in lines (word_at s 1)).held ≡ (view (handed b)).k.stop - (view (handed b)).k.base
unfolding lines_word
root_held b s good is =
    let t = view (handed b) in
    let h = good_right good in
    let here = is_here t 0 (_, h.core.s2_root_law.0) in
    ap (λ (x : ℕ). (fields_in lines x).held) (ap (λ (x : List ℕ). word_at x 1) is ∙ sheet_lines_read h 0 (omega arith) ∙ rw here refl)
    ∙ ap (λ (x : LinesFields). x.held) (fields_back lines_lawful (lines_for t 0) (lines_in_law h 0))
    ∙ root_lines h.core

module _ (base end : ℕ) {b s : List ℕ} {r : ℕ} {c s' : List ℕ} (h : BootSheetLent b s base end r c s') (q : Accepted r) {board : Board} {ws d u : List ℕ} (calls : CalledBeside board c s' ws d u) where
  beside : KeptBeside board base end d u
  beside =
      let (e, good, is) = called_beside (start_good base end (boot_lent base end h q).0 q board) (sheet_boot_afresh base end h q) calls in
      let k = from_boot_kept {base = base} {end = end} board (handed b) (boot_is base end h q) ws in
      let from = e ∙ ap (λ (l : List ℕ). after_all board l ws) (start base end (boot_lent base end h q).0 q) in
      record {
        sound = good.sound;
        sheet = is;
        never_20 = λ {w} l. never l good.small (agrees d u good is w);
        root = root_held d u good is ∙ rw (from, k.base_is, k.end_is) refl;
      }

pub sheet_demand : (board : Board) → SheetDemand board
sheet_demand board = record {
  boot_answers = λ b s base end. (_, _, _, record { table = record { result = refl; bytes = refl }; sheet = refl });
  call_answers = λ b s w v. (_, _, _, _, record { both = record { table = record { result = refl; bytes = refl }; sheet = refl }; second = refl });
  boot_1 = sheet_boot_1;
  boot_20 = sheet_boot_20;
  boot_else = sheet_boot_else;
  call_1 = λ {b} small h. sheet_call_1 h (handed_small b small);
  call_20 = λ {b} small bytes h. sheet_call_20 h (handed_small b small) bytes;
  call_else = λ {b} small h. sheet_call_else h (handed_small b small);
  boot_unchanged = λ base end h n. let (_, _, d, k) = both_unchanged (omega arith) h n in (d, k);
  call_unchanged = call_unchanged;
  boot_afresh = sheet_boot_afresh;
  call_afresh = λ {b} small h. sheet_call_afresh h (handed_small b small);
  kept = λ {b} small bytes h a. sheet_kept_law h (handed_small b small) a bytes;
  pairs = λ b {s} small k is. pair b s (record { small = handed_small b small; sound = k }) is;
  session = λ base end h q. beside base end h q;
  masks_trip = masks_trips;
  lines_trip = lines_trips;
}
