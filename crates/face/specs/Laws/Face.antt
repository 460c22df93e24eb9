-- Each exit of boot, call and holders leaves the bytes, the result and the second value that the rule says; and two results are equal.
use Rattle.std.specs.Prelude.{◌≡◌, Bool, ◌&&◌, ℕ, ◌^◌, ◌<◌, length, get_or, eqb, leb, ltb, Ok, Err}
use Rattle.std.proofs.Math.Path.{refl, ap, sym}
use Rattle.std.proofs.Common.{subst, ◌∙◌, eq-eqb, ne_eqb}
use Rattle.std.proofs.Math.Bool.{true, false, cond}
use mathlib.Core.List.{List, []}
use native.Mathlib.Omega.{arith}
use Rattle.loops.specs.Loops.{names}
use Rattle.words.specs.declared.Refusal.{Refusal}
use Rattle.words.specs.Refusals.{number_of}
use Rattle.shapes.specs.declared.Board.{Board}
use Rattle.tables.specs.State.{none, Table}
use Rattle.tables.specs.View.{record_word, view}
use Rattle.tables.specs.Encode.{encode}
use Rattle.tables.specs.Fitting.{Words}
use Rattle.memory.specs.Bytes.{words_of, bytes_of}
use Rattle.tables.specs.Laws.Update.{upd_other}
use Rattle.tables.specs.Settle.{keep, settle}
use Rattle.memory.specs.ByteRecords.{HeaderTells, BytesTell, StoredBut, RootOnly}
use Rattle.memory.specs.Laws.ByteRecords.{bytes_tell, stored_but, root_only}
use Rattle.memory.specs.Laws.ByteTrips.{length_words_of_law, words_small, bytes_words}
use Rattle.sound.specs.Sound.{Sound}
use Rattle.sound.specs.Clauses.{sound}
use Rattle.sound.proofs.Laws.List.{sound_means}
use Rattle.shape.specs.Laws.Absent.{header_tells}
use Rattle.sound.proofs.Laws.Holders.{wrong_length, holders_few, listed_unsound, listed_copy}
use Rattle.sound.specs.Holders.{in_memory, holders_of, looks_of, holders_outcome, HoldersListed}
use Rattle.rules.specs.Rules.{Effect, done, refused, check, call_on, boot_k, boot_on, words_after}
use Rattle.rules.specs.Ran.{outcome_of, Ran}
use Rattle.rules.specs.Laws.Ran.{ran_refused, ran_as, refused_done, done_first, refused_why}
use Rattle.services.specs.Laws.Boot.{boot_any, boot_length}
use Rattle.rules.specs.declared.Answer.{Answer}
use Rattle.rules.specs.Laws.Calls.{caller_small, changed_small, answers_unsound}
use Rattle.rules.specs.Calls.{CallAnswers}
use Rattle.rules.specs.Laws.Reads.{answers_stand}
use Rattle.isolation.proofs.Whole.{call_sound}
use Rattle.isolation.proofs.Laws.Elsewhere.{call_elsewhere}
use Rattle.face.specs.Face.{handed, result_packed, result_of, second_after, bytes_after, Lent, CallLent, ListLent}
use Rattle.tables.specs.Outcomes.{Outcome}
use Rattle.words.specs.declared.Refusal.TheVariants.{NotSound, WrongLine, ShortList}

-- two results are equal: the result, and every byte
pub lent_one : {caller : ℕ} {res : Effect} {before : List ℕ} {r s : ℕ} {a b : List ℕ} → Lent caller res before r a → Lent caller res before s b → (r ≡ s) × (a ≡ b)
lent_one x y = (x.result ∙ sym y.result, x.bytes ∙ sym y.bytes)

pub call_lent_one : {board : Board} {before : List ℕ} {w s : ℕ} {r r' : ℕ} {a b : List ℕ} {v v' : ℕ} → CallLent board before w s r a v → CallLent board before w s r' b v' → (r ≡ r') × (a ≡ b) × (v ≡ v')
call_lent_one x y =
    let (r, bytes) = lent_one x.table y.table in
    (r, bytes, x.second ∙ sym y.second)

pub list_lent_one : {board : Board} {table : List ℕ} {l : ℕ} {before : List ℕ} {s r r' : ℕ} {a b : List ℕ} {v v' : ℕ} → ListLent board table l before s r a v → ListLent board table l before s r' b v' → (r ≡ r') × (a ≡ b) × (v ≡ v')
list_lent_one x y = (x.result ∙ sym y.result, x.bytes ∙ sym y.bytes, x.second ∙ sym y.second)

-- ── what is handed over ──
pub handed_is : (b : List ℕ) → length b ≡ 5128 → words_of b ≡ handed b
unfolding handed
handed_is b h = rw (eq-eqb (length b) 5128 h) refl

pub handed_whole : (b : List ℕ) → length b ≡ 5128 → length (handed b) ≡ 641
handed_whole b h = ap length (sym (handed_is b h)) ∙ length_words_of_law b

module _ (b : List ℕ) (h : length b ≡ 5128 → ⊥) where
  pub handed_none : handed b ≡ []
  unfolding handed
  handed_none = rw (ne_eqb (length b) 5128 h) refl

  pub handed_short : length (handed b) ≡ 641 → ⊥
  handed_short z = omega (arith, ap (λ (x : List ℕ). length x) handed_none, z)

  pub handed_unsound : (board : Board) → sound board (handed b) ≡ false
  handed_unsound board = rw handed_none (wrong_length board [] (λ z. omega arith))

-- ── the exits of a function that writes the table ──
module _ {c : ℕ} {res : Effect} {a m : List ℕ} {o : Outcome} (ran : Ran res a o m) (b : List ℕ) {r : ℕ} where
  lent_done : {v w : ℕ} {n : List ℕ} → o ≡ Ok (v, w) → r ≡ result_packed 0 c v → n ≡ bytes_of m → Lent c res b r n
  unfolding result_of outcome_of bytes_after words_after
  lent_done q p e = record {
    result = p ∙ ap (result_of c) (sym q ∙ ran.outcome);
    bytes = e ∙ ap bytes_of ran.words ∙ go res (sym ran.outcome ∙ q);
  }
    where
      go : (res : Effect) {v w : ℕ} → outcome_of res ≡ Ok (v, w) → bytes_of (words_after a res) ≡ bytes_after b res
      go (done v w t) z = refl
      go (refused n) z = absurd (refused_done z)

  lent_refused : {why : Refusal} → o ≡ Err why → r ≡ result_packed (number_of why) c 0 → Lent c res b r b
  unfolding result_of outcome_of bytes_after
  lent_refused q p = record { result = p ∙ ap (result_of c) (sym q ∙ ran.outcome); bytes = go res (sym ran.outcome ∙ q) }
    where
      go : (res : Effect) {why : Refusal} → outcome_of res ≡ Err why → b ≡ bytes_after b res
      go (done v w t) z = absurd (refused_done (sym z))
      go (refused n) z = refl

-- ── what is done leaves a sound table, so that its headers tell the absent partitions ──
tells : {board : Board} {res : Effect} {a m : List ℕ} {o : Outcome} {v w : ℕ} → Ran res a o m → o ≡ Ok (v, w) → ((x y : ℕ) (t : Table) → res ≡ done x y t → Sound board (encode t)) → HeaderTells m
unfolding outcome_of words_after
tells {res = res} {a} {m} ran q sound-after = go res refl
  where
    go : (r : Effect) → res ≡ r → HeaderTells m
    go (done x y t) e = subst HeaderTells (sym (ran.words ∙ ap (words_after a) e)) (header_tells (sound-after x y t e))
    go (refused n) e = absurd (refused_done (sym (ap outcome_of e) ∙ sym ran.outcome ∙ q))

-- ── boot ──
-- what boot writes is the root alone
pub boot_root : (base end : ℕ) {a m : List ℕ} {o : Outcome} {v w : ℕ} → Ran (boot_on a base end) a o m → o ≡ Ok (v, w) → RootOnly m
unfolding boot_on check outcome_of words_after settle keep
boot_root base end {a} {m} {o} {v} {w} ran q = go (eqb (length a) 641) (ltb base end && ltb base (2 ^ 27) && ltb end (2 ^ 27)) ran
  where
    booted : Table
    booted = settle (boot_k base end) (λ p r. none)

    go : (x y : Bool) → Ran (check NotSound x (check WrongLine y (done 0 0 booted))) a o m → RootOnly m
    go true true r =
        subst RootOnly (sym r.words)
        (root_only booted
        (λ p j h. upd_other _ 0 1 _ p j (λ z. h (z.0, omega (arith, z.1))) ∙ upd_other _ 0 0 _ p j (λ z. h (z.0, omega (arith, z.1))))
        (λ p i h. upd_other _ 0 0 _ p i h)
        (λ p. refl))
    go true false r = absurd (refused_done (sym r.outcome ∙ q))
    go false y r = absurd (refused_done (sym r.outcome ∙ q))

pub boot_none : (b : List ℕ) (base end : ℕ) {r : ℕ} → (length b ≡ 5128 → ⊥) → r ≡ result_packed 1 0 0 → Lent 0 (boot_on (handed b) base end) b r b
boot_none b base end h p =
    lent_refused (ran_refused {l = b} (boot_length (handed b) base end (handed_short b h))) b refl p

module _ (b : List ℕ) (base end : ℕ) {a m : List ℕ} {o : Outcome} (size : length b ≡ 5128) (zeros : length a ≡ 641) (ran : Ran (boot_on a base end) a o m) where
  any : boot_on (handed b) base end ≡ boot_on a base end
  any = boot_any a (handed b) base end zeros (handed_whole b size)

  pub boot_lent : {v w r : ℕ} {n : List ℕ} → o ≡ Ok (v, w) → r ≡ result_packed 0 0 v → n ≡ bytes_of m → Lent 0 (boot_on (handed b) base end) b r n
  boot_lent q p e = lent_done (ran_as any ran) b q p e

  pub boot_kept : {r : ℕ} {why : Refusal} → o ≡ Err why → r ≡ result_packed (number_of why) 0 0 → Lent 0 (boot_on (handed b) base end) b r b
  boot_kept q p = lent_refused (ran_as any ran) b q p

-- ── a call ──
pub call_none : (board : Board) (b : List ℕ) {w s r : ℕ} → (length b ≡ 5128 → ⊥) → r ≡ result_packed 1 0 0 → CallLent board b w s r b s
unfolding second_after outcome_of
call_none board b {w} {s} h p =
    let n = answers_unsound board (handed b) w (handed_unsound b h board) in
    record {
      table = lent_refused n.ran b refl (p ∙ ap (λ (c : ℕ). result_packed 1 c 0) n.caller);
      second = ap (second_after s) n.ran.outcome;
    }

module _ {board : Board} (b : List ℕ) {a m : List ℕ} {w : ℕ} {x : Answer} (size : length b ≡ 5128) (load : a ≡ words_of b) (h : CallAnswers board a w x m) where
  here : CallAnswers board (handed b) w x m
  here = subst (λ (l : List ℕ). CallAnswers board l w x m) (load ∙ handed_is b size) h

  pub call_lent : {s r v y : ℕ} {n : List ℕ} {s' : ℕ} → x.outcome ≡ Ok (v, y) → r ≡ result_packed 0 x.caller.0 v → n ≡ bytes_of m → s' ≡ y → CallLent board b w s r n s'
  unfolding second_after
  call_lent {s} {v = v} q p e z = record {
    table = lent_done here.ran b q (p ∙ ap (λ (c : ℕ). result_packed 0 c v) here.caller) e;
    second = z ∙ ap (second_after s) (sym q ∙ here.ran.outcome);
  }

  pub call_tells : {v y : ℕ} → ((i : ℕ) → get_or b i 0 < 256) → x.outcome ≡ Ok (v, y) → HeaderTells m
  call_tells small q = tells h.ran q (λ x y t. call_sound board a w (subst Words (sym load) (words_small b small)))

  -- it was asked of a sound table, so that the bytes before it tell them too
  pub call_told : {v y : ℕ} → ((i : ℕ) → get_or b i 0 < 256) → x.outcome ≡ Ok (v, y) → BytesTell b
  unfolding call_on outcome_of
  call_told {v} {y} small q = bytes_tell size (λ i _. small i) (subst HeaderTells load (header_tells (go (sound board a) refl)))
    where
      go : (s : Bool) → sound board a ≡ s → Sound board a
      go true e = (sound_means board a).0 e
      go false e = let u : call_on board a w ≡ refused NotSound = rw e refl in absurd (refused_done (sym (ap outcome_of u) ∙ sym h.ran.outcome ∙ q))

  -- of whom it did not change, the bytes are there already
  pub call_stored : {v y : ℕ} → ((i : ℕ) → get_or b i 0 < 256) → x.outcome ≡ Ok (v, y) → StoredBut x.changed m b
  unfolding outcome_of words_after
  call_stored small q = stored_but (rw h.changed (changed_small board a w)) size (λ i _. small i) (go (call_on board a w) refl)
    where
      go : (r : Effect) → call_on board a w ≡ r → (p : ℕ) → p < 16 → names x.changed p ≡ false → (o : ℕ) → o < 40 → record_word m p o ≡ record_word (words_of b) p o
      go (done v y t) e p k z o d =
          ap (λ (l : List ℕ). record_word l p o) (h.ran.words ∙ ap (words_after a) e)
          ∙ call_elsewhere board a w (subst Words (sym load) (words_small b small)) e p k (sym (ap (λ (n : ℕ). names n p) h.changed) ∙ z) o d
          ∙ ap (λ (l : List ℕ). record_word l p o) load
      go (refused n) e p k z o d = absurd (refused_done (sym (ap outcome_of e) ∙ sym h.ran.outcome ∙ q))

  -- where its answer stands, the bytes are those of the table already
  pub call_stands : ((i : ℕ) → get_or b i 0 < 256) → x.stands ≡ true → b ≡ bytes_of m
  call_stands small q =
      sym
      (ap bytes_of (answers_stand (subst Words (sym load) (words_small b small)) h q ∙ load)
      ∙ bytes_words b size (λ i _. small i))

  pub call_lent_refused : {s r : ℕ} {why : Refusal} → x.outcome ≡ Err why → r ≡ result_packed (number_of why) x.caller.0 0 → CallLent board b w s r b s
  unfolding second_after
  call_lent_refused {s} {why = why} q p = record {
    table = lent_refused here.ran b q (p ∙ ap (λ (c : ℕ). result_packed (number_of why) c 0) here.caller);
    second = ap (second_after s) (sym q ∙ here.ran.outcome);
  }

  pub call_caller_small : x.caller.0 < 16
  call_caller_small = rw here.caller (caller_small board (handed b))

-- ── holders ──
module _ (board : Board) (t : List ℕ) (l size : ℕ) where
  pub holders_first : {v w : ℕ} → holders_outcome board t l size ≡ Ok (v, w) → v < 32
  unfolding holders_outcome
  holders_first {v} {w} q = go (sound board t) (in_memory (view t).k l) (leb 16 size) q
    where
      go : (x y z : Bool) → cond {A = Outcome} x (cond y (cond z (Ok (length (holders_of (view t).k l), looks_of (view t).k l)) (Err ShortList)) (Err WrongLine)) (Err NotSound) ≡ Ok (v, w) → v < 32
      go true true true q = let e = done_first q in omega (arith, holders_few (view t).k l)
      go true true false q = absurd (refused_done q)
      go true false z q = absurd (refused_done q)
      go false y z q = absurd (refused_done q)

  pub holders_number : {why : Refusal} → holders_outcome board t l size ≡ Err why → number_of why < 18
  unfolding holders_outcome
  holders_number {why} q = go (sound board t) (in_memory (view t).k l) (leb 16 size) q
    where
      go : (x y z : Bool) → cond {A = Outcome} x (cond y (cond z (Ok (length (holders_of (view t).k l), looks_of (view t).k l)) (Err ShortList)) (Err WrongLine)) (Err NotSound) ≡ Err why → number_of why < 18
      go true true true q = absurd (refused_done (sym q))
      go true true false q = subst (λ (r : Refusal). number_of r < 18) (refused_why q) (omega arith)
      go true false z q = subst (λ (r : Refusal). number_of r < 18) (refused_why q) (omega arith)
      go false y z q = subst (λ (r : Refusal). number_of r < 18) (refused_why q) (omega arith)

pub list_none : (board : Board) (b : List ℕ) {l : ℕ} {list : List ℕ} {s r : ℕ} → (length b ≡ 5128 → ⊥) → r ≡ result_packed 1 0 0 → ListLent board b l list s r list s
unfolding result_of second_after
list_none board b {l} {list} {s} h p =
    let n : HoldersListed board (handed b) l list (Err NotSound) list = listed_unsound (handed_unsound b h board) in
    record { result = p ∙ ap (result_of 0) n.outcome; bytes = n.bytes; second = ap (second_after s) n.outcome }

module _ {board : Board} (b : List ℕ) {a : List ℕ} {l : ℕ} {list list' : List ℕ} {o : Outcome} (size : length b ≡ 5128) (load : a ≡ words_of b) (h : HoldersListed board a l list o list') where
  listed : HoldersListed board (handed b) l list o list'
  listed = listed_copy (load ∙ handed_is b size) h

  pub list_lent : {s r v y s' : ℕ} → o ≡ Ok (v, y) → r ≡ result_packed 0 0 v → s' ≡ y → ListLent board b l list s r list' s'
  unfolding result_of second_after
  list_lent {s} q p z = record {
    result = p ∙ ap (result_of 0) (sym q ∙ listed.outcome);
    bytes = listed.bytes;
    second = z ∙ ap (second_after s) (sym q ∙ listed.outcome);
  }

  pub list_kept : {s r : ℕ} {why : Refusal} → o ≡ Err why → r ≡ result_packed (number_of why) 0 0 → ListLent board b l list s r list' s
  unfolding result_of second_after
  list_kept {s} q p = record {
    result = p ∙ ap (result_of 0) (sym q ∙ listed.outcome);
    bytes = listed.bytes;
    second = ap (second_after s) (sym q ∙ listed.outcome);
  }
