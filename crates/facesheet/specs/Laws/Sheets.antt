-- Each exit of boot and call with a sheet leaves the bytes, the result and the second value that the rule says; and two results are equal.
use Rattle.std.specs.Prelude.{◌≡◌, refl, Bool, true, false, cond, ℕ, ◌<◌, length, get_or, Ok, Err}
use Rattle.std.proofs.Math.Path.{ap, sym}
use Rattle.std.proofs.Common.{subst, ◌∙◌}
use mathlib.Core.List.{List}
use Rattle.words.specs.declared.Refusal.{Refusal}
use Rattle.words.specs.Refusals.{number_of}
use Rattle.shapes.specs.declared.Board.{Board}
use Rattle.tables.specs.State.{Table}
use Rattle.tables.specs.View.{view}
use Rattle.tables.specs.Laws.Back.{view_encode}
use Rattle.tables.specs.Fitting.{Words}
use Rattle.memory.specs.Bytes.{words_of, bytes_of}
use Rattle.memory.specs.Laws.ByteTrips.{words_small}
use Rattle.sound.specs.Clauses.{sound}
use Rattle.sound.specs.Whole.{Right}
use Rattle.sound.proofs.Laws.List.{sound_means}
use Rattle.sound.proofs.Laws.Whole.{sound_right}
use Rattle.sound.specs.Laws.Canonical.{sound_canon}
use Rattle.rules.specs.Rules.{Effect, done, refused, call_on, boot_on, words_after}
use Rattle.rules.specs.Ran.{outcome_of, Ran}
use Rattle.rules.specs.Laws.Ran.{refused_done, refused_why}
use Rattle.rules.specs.declared.Answer.{Answer}
use Rattle.rules.specs.Calls.{caller_of, CallAnswers}
use Rattle.rules.specs.Laws.Reads.{answers_stand}
use Rattle.services.specs.Laws.Boot.{boot_any}
use Rattle.isolation.specs.Laws.Fits.{right_fit}
use Rattle.isolation.proofs.Laws.Boot.{boot_right}
use Rattle.isolation.proofs.Whole.{call_right}
use Rattle.sheet.specs.Touched.{touched, Named, sheet_kept}
use Rattle.sheet.specs.declared.calls.Whose.{Whose}
use Rattle.sheet.specs.Laws.Touched.{call_put}
use Rattle.face.specs.Face.{handed, result_packed, result_of, second_after, bytes_after, Lent, CallLent}
use Rattle.face.specs.Laws.Face.{lent_one, handed_is, handed_unsound, boot_lent, call_lent, call_stands, call_lent_refused, handed_whole, handed_short}
use Rattle.facesheet.specs.Sheets.{BothLent, BootSheetLent, CallSheetLent}
use Rattle.sheetrules.specs.Sheet.{sheet_of, matches, call_sheet_on, boot_sheet_on}
use Rattle.sheetrules.specs.Bytes.{handed_sheet, sheet_bytes, sheet_bytes_after}
use Rattle.sheetrules.specs.Laws.Rules.{call_1, call_20, call_else, boot_1, boot_20, boot_else}
use Rattle.sheetrules.specs.Laws.Bytes.{matches_means, sheet_bytes_law, short_handed, handed_length, matches_length}
use Rattle.tables.specs.Outcomes.{Outcome}

-- two results are equal: the result, every byte of both, the second value
pub both_lent_one : {n : ℕ} {res : Effect} {b s : List ℕ} {r r' : ℕ} {c d u u' : List ℕ} → BothLent n res b s r c u → BothLent n res b s r' d u' → (r ≡ r') × (c ≡ d) × (u ≡ u')
both_lent_one x y =
    let (r, bytes) = lent_one x.table y.table in
    (r, bytes, x.sheet ∙ sym y.sheet)

pub call_sheet_lent_one : {board : Board} {b s : List ℕ} {w v r r' : ℕ} {c d u u' : List ℕ} {v' v'' : ℕ} → CallSheetLent board b s w v r c u v' → CallSheetLent board b s w v r' d u' v''
    → (r ≡ r') × (c ≡ d) × (u ≡ u') × (v' ≡ v'')
call_sheet_lent_one x y =
    let (r, bytes, sheet) = both_lent_one x.both y.both in
    (r, bytes, sheet, x.second ∙ sym y.second)

-- a refusal changes neither
both_refused : {n : ℕ} {why : Refusal} {res : Effect} {b s : List ℕ} {r : ℕ} → res ≡ refused why → r ≡ result_packed (number_of why) n 0 → BothLent n res b s r b s
unfolding result_of outcome_of bytes_after sheet_bytes_after
both_refused {n} {why} {res} {b} {s} e q = record {
  table = record { result = q ∙ ap (λ (x : Effect). result_of n (outcome_of x)) (sym e); bytes = ap (bytes_after b) (sym e) };
  sheet = ap (sheet_bytes_after s) (sym e);
}

-- a refusal that shows
refused_result : {res : Effect} {why : Refusal} → outcome_of res ≡ Err why → res ≡ refused why
unfolding outcome_of
refused_result {res} q = go res q
  where
    go : (x : Effect) {why : Refusal} → outcome_of x ≡ Err why → x ≡ refused why
    go (done v y t) z = absurd (refused_done (sym z))
    go (refused why) z = ap refused (refused_why z)

-- what was done leaves the sheet of the table that it left
both_done : {res : Effect} {a m : List ℕ} {o : Outcome} {v y : ℕ} (s : List ℕ) {u : List ℕ} → Ran res a o m → o ≡ Ok (v, y) → ((v y : ℕ) (t : Table) → res ≡ done v y t → Right t)
    → u ≡ sheet_bytes (sheet_of (view m)) → u ≡ sheet_bytes_after s res
unfolding outcome_of words_after sheet_bytes_after
both_done {res} {a} {m} {o} s {u} ran q right e = go res refl ran.outcome ran.words
  where
    go : (x : Effect) → res ≡ x → o ≡ outcome_of x → m ≡ words_after a x → u ≡ sheet_bytes_after s x
    go (done v y t) z c d = e ∙ ap (λ (t : Table). sheet_bytes (sheet_of t)) (ap view d ∙ view_encode t (right_fit (right v y t z)))
    go (refused n) z c d = absurd (refused_done (sym c ∙ q))

-- .. and that table is right
right_done : {res : Effect} {a m : List ℕ} {o : Outcome} {v y : ℕ} → Ran res a o m → o ≡ Ok (v, y) → ((v y : ℕ) (t : Table) → res ≡ done v y t → Right t) → Right (view m)
unfolding outcome_of words_after
right_done {res} {a} {m} {o} ran q right = go res refl ran.outcome ran.words
  where
    go : (x : Effect) → res ≡ x → o ≡ outcome_of x → m ≡ words_after a x → Right (view m)
    go (done v y t) z c d = let k = right v y t z in subst Right (sym (ap view d ∙ view_encode t (right_fit k))) k
    go (refused n) z c d = absurd (refused_done (sym c ∙ q))

-- .. and what is so of every such result is so of it
done_has : {res : Effect} {a m : List ℕ} {o : Outcome} {v y : ℕ} (P : Table → Type 0) → Ran res a o m → o ≡ Ok (v, y) → ((v y : ℕ) (t : Table) → res ≡ done v y t → Right t × P t) → P (view m)
unfolding outcome_of words_after
done_has {res} {a} {m} {o} P ran q all = go res refl ran.outcome ran.words
  where
    go : (x : Effect) → res ≡ x → o ≡ outcome_of x → m ≡ words_after a x → P (view m)
    go (done v y t) z c d = let (k, e) = all v y t z in subst P (sym (ap view d ∙ view_encode t (right_fit k))) e
    go (refused n) z c d = absurd (refused_done (sym c ∙ q))

-- ── boot ──
pub booted_right : (base end : ℕ) {a m : List ℕ} {o : Outcome} {v y : ℕ} → Ran (boot_on a base end) a o m → o ≡ Ok (v, y) → Right (view m)
booted_right base end {a} ran q = right_done ran q (λ v y t z. boot_right a base end z)

module _ (b s : List ℕ) (base end : ℕ) where
  pub boot_short : {r : ℕ} → (length b ≡ 5128 → ⊥) → r ≡ result_packed 1 0 0 → BootSheetLent b s base end r b s
  boot_short h q = both_refused (boot_1 _ _ base end (handed_short b h)) q

  module _ (size : length b ≡ 5128) where
    pub boot_no_sheet : {r : ℕ} → (length s ≡ 256 → ⊥) → r ≡ result_packed 20 0 0 → BootSheetLent b s base end r b s
    boot_no_sheet h q = both_refused (boot_20 _ _ base end (handed_whole b size) (short_handed s h)) q

    module _ (h : length s ≡ 256) {a m : List ℕ} {o : Outcome} (zeros : length a ≡ 641) (ran : Ran (boot_on a base end) a o m) where
      -- as without a sheet
      same_boot : boot_sheet_on (handed b) (handed_sheet s) base end ≡ boot_on (handed b) base end
      same_boot = boot_else _ _ base end (handed_whole b size) (handed_length s h)

      pub boot_both : {v y r : ℕ} {n u : List ℕ} → o ≡ Ok (v, y) → r ≡ result_packed 0 0 v → n ≡ bytes_of m → u ≡ sheet_bytes (sheet_of (view m)) → BootSheetLent b s base end r n u
      boot_both {r = r} {n} q p e d =
          let also : boot_sheet_on (handed b) (handed_sheet s) base end ≡ boot_on a base end = same_boot ∙ boot_any a (handed b) base end zeros (handed_whole b size) in
          record {
            table = subst (λ (x : Effect). Lent 0 x b r n) (sym same_boot) (boot_lent b base end size zeros ran q p e);
            sheet = both_done s ran q (λ v y t z. boot_right a base end z) d ∙ ap (sheet_bytes_after s) (sym also);
          }

      pub boot_neither : {r : ℕ} {why : Refusal} → o ≡ Err why → r ≡ result_packed (number_of why) 0 0 → BootSheetLent b s base end r b s
      boot_neither q p =
          let also : boot_sheet_on (handed b) (handed_sheet s) base end ≡ boot_on a base end = same_boot ∙ boot_any a (handed b) base end zeros (handed_whole b size) in
          both_refused (also ∙ refused_result (sym ran.outcome ∙ q)) p

-- ── a call ──
-- what was loaded, and is sound, is right; so is what a call that is done leaves of it
module _ (board : Board) (b : List ℕ) {a : List ℕ} (load : a ≡ words_of b) (small : (i : ℕ) → get_or b i 0 < 256) where
  loaded_words : Words a
  loaded_words = subst Words (sym load) (words_small b small)

  pub loaded_right : sound board a ≡ true → Right (view a)
  loaded_right z =
      let h = (sound_means board a).0 z in
      sound_right (sound_canon loaded_words h) h

  pub called_right : {w : ℕ} {m : List ℕ} {x : Answer} {f g : ℕ} → CallAnswers board a w x m → x.outcome ≡ Ok (f, g) → Right (view m)
  called_right {w} h q = right_done h.ran q (λ v y t e. call_right board a w loaded_words e)

loaded_is : (b : List ℕ) {a : List ℕ} → length b ≡ 5128 → a ≡ words_of b → a ≡ handed b
loaded_is b size load = load ∙ handed_is b size

module _ (board : Board) (b s : List ℕ) (w : ℕ) where
  call_refused : {v r : ℕ} {why : Refusal} → call_sheet_on board (handed b) (handed_sheet s) w ≡ refused why → r ≡ result_packed (number_of why) (caller_of board (handed b)) 0 → CallSheetLent board b s w v r b s v
  unfolding second_after outcome_of
  call_refused {v} e q = record { both = both_refused e q; second = ap (λ (x : Effect). second_after v (outcome_of x)) (sym e) }

  unsound : {v r : ℕ} → sound board (handed b) ≡ false → r ≡ result_packed 1 0 0 → CallSheetLent board b s w v r b s v
  unfolding caller_of
  unsound z q = call_refused (call_1 board _ _ w z) (q ∙ rw z refl)

  pub call_short : {v r : ℕ} → (length b ≡ 5128 → ⊥) → r ≡ result_packed 1 0 0 → CallSheetLent board b s w v r b s v
  call_short h q = unsound (handed_unsound b h board) q

  module _ {a : List ℕ} (size : length b ≡ 5128) (load : a ≡ words_of b) where
    abbrev is : a ≡ handed b
    is = loaded_is b size load

    pub call_unsound : {v r : ℕ} → sound board a ≡ false → r ≡ result_packed 1 0 0 → CallSheetLent board b s w v r b s v
    call_unsound z q = unsound (sym (ap (sound board) is) ∙ z) q

    pub call_mismatch : {v r c : ℕ} → sound board a ≡ true → matches (handed_sheet s) (view a) ≡ false → (view a).k.current ≡ c → r ≡ result_packed 20 c 0 → CallSheetLent board b s w v r b s v
    unfolding caller_of
    call_mismatch z y e q =
        let z' = sym (ap (sound board) is) ∙ z in
        let y' = ap (λ (l : List ℕ). matches (handed_sheet s) (view l)) (sym is) ∙ y in
        call_refused (call_20 board _ _ w z' y') (q ∙ ap (λ (n : ℕ). result_packed 20 n 0) (sym e ∙ ap (λ (l : List ℕ). (view l).k.current) is) ∙ rw z' refl)

    -- the sheet is the table's: as without one
    module _ (z : sound board a ≡ true) (y : matches (handed_sheet s) (view a) ≡ true) where
      same_call : call_sheet_on board (handed b) (handed_sheet s) w ≡ call_on board (handed b) w
      same_call = call_else board _ _ w (sym (ap (sound board) is) ∙ z) (ap (λ (l : List ℕ). matches (handed_sheet s) (view l)) (sym is) ∙ y)

      beside : {v r v' : ℕ} {n u : List ℕ} → CallLent board b w v r n v' → u ≡ sheet_bytes_after s (call_on board (handed b) w) → CallSheetLent board b s w v r n u v'
      beside {v} {r} {n = n} c d = record {
        both = record { table = subst (λ (x : Effect). Lent (caller_of board (handed b)) x b r n) (sym same_call) c.table; sheet = d ∙ ap (sheet_bytes_after s) (sym same_call) };
        second = c.second ∙ ap (λ (x : Effect). second_after v (outcome_of x)) (sym same_call);
      }

      module _ {m : List ℕ} {x : Answer} (h : CallAnswers board a w x m) where
        pub call_neither : {v r : ℕ} {why : Refusal} → x.outcome ≡ Err why → r ≡ result_packed (number_of why) x.caller.0 0 → CallSheetLent board b s w v r b s v
        unfolding sheet_bytes_after
        call_neither q p = beside (call_lent_refused b size load h q p) (sym (ap (sheet_bytes_after s) (refused_result (sym (subst (λ (l : List ℕ). CallAnswers board l w x m) is h).ran.outcome ∙ q))))

        module _ (small : (i : ℕ) → get_or b i 0 < 256) {f g : ℕ} (q : x.outcome ≡ Ok (f, g)) where
          -- as it was where every word is as it was; else with the words of those put that the call touched
          sheet_after : ((i : ℕ) → get_or s i 0 < 256) → {whose : Whose} {u : List ℕ} → whose ≡ touched (view a).k w → Named whose → u ≡ cond x.stands s (sheet_kept whose (view m) s)
              → u ≡ sheet_bytes (sheet_of (view m))
          sheet_after bytes {whose} r named e = e ∙ go x.stands refl
            where
              was : s ≡ sheet_bytes (sheet_of (view a))
              was =
                  sym (sheet_bytes_law s (matches_length s (view a) y) bytes)
                  ∙ ap sheet_bytes ((matches_means (handed_sheet s) (view a)).0 y)

              kept : sheet_kept (touched (view a).k w) (view m) (sheet_bytes (sheet_of (view a))) ≡ sheet_bytes (sheet_of (view m))
              kept = done_has (λ t. sheet_kept (touched (view a).k w) t (sheet_bytes (sheet_of (view a))) ≡ sheet_bytes (sheet_of t)) h.ran q (λ v y t e.
                  (call_right board a w (loaded_words board b load small) e, call_put board a w (loaded_words board b load small) (subst Named r named) e))

              go : (k : Bool) → x.stands ≡ k → cond k s (sheet_kept whose (view m) s) ≡ sheet_bytes (sheet_of (view m))
              go true k = was ∙ ap (λ (l : List ℕ). sheet_bytes (sheet_of (view l))) (sym (answers_stand (loaded_words board b load small) h k))
              go false _ = ap (λ (x : Whose). sheet_kept x (view m) s) r ∙ ap (sheet_kept (touched (view a).k w) (view m)) was ∙ kept

          table_after : {n : List ℕ} → n ≡ cond x.stands b (bytes_of m) → n ≡ bytes_of m
          table_after e = e ∙ go x.stands refl
            where
              go : (k : Bool) → x.stands ≡ k → cond k b (bytes_of m) ≡ bytes_of m
              go true k = call_stands b size load h small k
              go false k = refl

          pub call_both : ((i : ℕ) → get_or s i 0 < 256) → {v r v' : ℕ} {n u : List ℕ} → r ≡ result_packed 0 x.caller.0 f → n ≡ cond x.stands b (bytes_of m)
              → {whose : Whose} → (whose ≡ touched (view a).k w) × Named whose → u ≡ cond x.stands s (sheet_kept whose (view m) s) → v' ≡ g → CallSheetLent board b s w v r n u v'
          call_both bytes p e (r, named) d k =
              beside (call_lent b size load h q p (table_after e) k)
              (both_done s h.ran q (λ v y t e. call_right board a w (loaded_words board b load small) e) (sheet_after bytes r named d) ∙ ap (λ (l : List ℕ). sheet_bytes_after s (call_on board l w)) is)
