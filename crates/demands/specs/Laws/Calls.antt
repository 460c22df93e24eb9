-- One call after another, over bytes: the bytes that one leaves are the words that the next one reads.
use Rattle.std.specs.Prelude.{◌≡◌, Bool, List, [], ◌↔◌, ℕ, ◌^◌, ◌<◌, eqb, length}
use Rattle.std.proofs.Math.Path.{refl, ap}
use Rattle.std.proofs.Common.{ap₂, sym, subst, ◌∙◌, arith}
use Rattle.std.proofs.Math.Bool.{true, false, cond, false≢true}
use borrow.Author.Tests.{ne_eqb}
use Rattle.words.specs.Kind.{fields_in}
use Rattle.words.specs.Words.{call}
use Rattle.words.specs.Refusals.{number_of}
use Rattle.shapes.specs.declared.Board.{Board}
use Rattle.tables.specs.State.{Table}
use Rattle.tables.specs.View.{view}
use Rattle.tables.specs.Encode.{encode}
use Rattle.tables.specs.Laws.Encode.{encode_length}
use Rattle.tables.specs.Laws.Back.{view_encode}
use Rattle.tables.specs.Fitting.{Words}
use Rattle.tables.specs.Laws.SmallWords.{encode_small}
use Rattle.memory.specs.Bytes.{words_of, bytes_of}
use Rattle.memory.specs.Laws.ByteTrips.{length_bytes_of_law, words_small, words_bytes}
use Rattle.sound.specs.Sound.{Sound}
use Rattle.sound.specs.Clauses.{sound}
use Rattle.sound.specs.Properties.{Isolated}
use Rattle.sound.proofs.Laws.Whole.{right_isolated}
use Rattle.sound.specs.Whole.{Right}
use Rattle.sound.proofs.Laws.List.{sound_means}
use Rattle.rules.specs.Rules.{Effect, done, refused, call_on, words_after}
use Rattle.rules.specs.Ran.{outcome_of}
use Rattle.rules.specs.Calls.{caller_of}
use Rattle.rules.specs.Laws.Calls.{caller_small}
use Rattle.isolation.specs.Laws.Fits.{Good, right_fit}
use Rattle.isolation.specs.Ladder.{Ladder, Answers}
use Rattle.isolation.specs.Ladders.{call_ladder}
use Rattle.isolation.proofs.Laws.Exact.{call_exact}
use Rattle.isolation.specs.Whole.{after_all}
use Rattle.isolation.proofs.Whole.{call_right, next_good}
use Rattle.ledger.specs.Ledger.{Ledger, Event, apply, event_of, noted, lines_named, kept_on}
use Rattle.face.specs.Face.{handed, result_of, second_after, bytes_after, CallLent}
use Rattle.face.specs.Laws.Face.{handed_is}
use Rattle.demands.specs.Demands.{Bytes, refusal_in, caller_in, first_in, Accepted, fails, Answered, Changed, happened, entered, Called, no_call, one_call}
use Rattle.demands.specs.Laws.Lowest.{applies_range, past}
use Rattle.demands.specs.Laws.Rising.{word_rises, call_rises}
use Rattle.demands.specs.Laws.Results.{result_read, result_answered, accepted_done}

-- words of 64 bits
pub handed_small : (b : List ℕ) → Bytes b → Words (handed b)
unfolding handed
handed_small b small = go (eqb (length b) 5128)
  where
    go : (x : Bool) → Words (cond x (words_of b) [])
    go true = words_small b small
    go false = record { small = λ n. omega arith }

-- the bytes of a right table are read as its words, and as the table itself
pub handed_of : {t : Table} → Right t → handed (bytes_of (encode t)) ≡ encode t
handed_of {t} h =
    sym (handed_is (bytes_of (encode t)) (length_bytes_of_law (encode t)))
    ∙ words_bytes (encode t) (encode_length t) (λ k _. (encode_small (right_fit h)).small k)

-- what is done with a right table, and leaves its bytes
pub changed : {l : Ladder} {v w : ℕ} {t : Table} {c : List ℕ} → Answers l (done v w t) → Right t → c ≡ bytes_of (encode t) → Changed l v w c
changed {t = t} a h e =
    let q = ap handed e ∙ handed_of h in
    let is = ap view q ∙ view_encode t (right_fit h) in
    record {
      table = t;
      row = a;
      bytes = e;
      words = q;
      read = is;
      isolated = subst Isolated (sym is) (right_isolated h);
    }

-- ── one call ──
pub caller_byte : (board : Board) (b : List ℕ) → caller_of board (handed b) < 2 ^ 8
caller_byte board b = let z = caller_small board (handed b) in omega arith

module _ {board : Board} {b : List ℕ} {w s r : ℕ} {c : List ℕ} {s' : ℕ} (small : Words (handed b)) (h : CallLent board b w s r c s') where
  exact : Answers (call_ladder board (handed b) w) (call_on board (handed b) w)
  exact = call_exact board (handed b) w small

  pub call_answered : Answered (call_ladder board (handed b) w) r ((c ≡ b) × (s' ≡ s))
  unfolding bytes_after second_after outcome_of
  call_answered =
      result_answered (call_rises board (handed b) w) (caller_byte board b) (call_on board (handed b) w) exact h.table.result
      (λ n z. (h.table.bytes ∙ ap (bytes_after b) z, h.second ∙ ap (λ (y : Effect). second_after s (outcome_of y)) z))

  -- refusal 1 is given exactly where the table is not sound
  pub one_unsound : (refusal_in r ≡ 1) ↔ (Sound board (handed b) → ⊥)
  one_unsound = (
    λ q s. let (i, _) = applies_range (word_rises board (view (handed b)) w) (past s ((call_answered.refuses 1 (omega arith)).0 q).applies) in omega arith,
    λ n. (call_answered.refuses 1 (omega arith)).1 (record { applies = fails n; lowest = λ m x. (applies_range (call_rises board (handed b) w) x).0 }),
  )

  pub call_caller : (refusal_in r ≡ 1 → caller_in r ≡ 0) × ((refusal_in r ≡ 1 → ⊥) → caller_in r ≡ (view (handed b)).k.current)
  unfolding caller_of
  call_caller =
      let e = (result_read (call_rises board (handed b) w) (caller_byte board b) (call_on board (handed b) w) exact h.table.result).1 in
      go (sound board (handed b)) refl e
    where
      go : (x : Bool) → sound board (handed b) ≡ x → caller_in r ≡ cond x (view (handed b)).k.current 0
          → (refusal_in r ≡ 1 → caller_in r ≡ 0) × ((refusal_in r ≡ 1 → ⊥) → caller_in r ≡ (view (handed b)).k.current)
      go true q e = (λ z. absurd (one_unsound.0 z ((sound_means board (handed b)).0 q)), λ _. e)
      go false q e = (λ _. e, λ n. absurd (n (one_unsound.1 (λ s. false≢true (sym q ∙ (sound_means board (handed b)).1 s)))))

  -- an accepted call is done by the rule
  pub call_done : Accepted r → (y : ℕ) × (t : Table) × (call_on board (handed b) w ≡ done (first_in r) y t)
  call_done = accepted_done (call_rises board (handed b) w) (caller_byte board b) (call_on board (handed b) w) exact h.table.result

  pub call_changed : Accepted r → Changed (call_ladder board (handed b) w) (first_in r) s' c
  unfolding bytes_after second_after outcome_of
  call_changed q =
      let (y, t, z) = call_done q in
      let e : s' ≡ y = h.second ∙ ap (λ (x : Effect). second_after s (outcome_of x)) z in
      changed (subst (Answers (call_ladder board (handed b) w)) (z ∙ ap (λ (x : ℕ). done (first_in r) x t) (sym e)) exact) (call_right board (handed b) w small z) (h.table.bytes ∙ ap (bytes_after b) z)

  -- the event is told by the result word as by the rule
  pub call_event : (g : Ledger) → happened board b w r g ≡ event_of g (fields_in call w) (caller_of board (handed b)) (outcome_of (call_on board (handed b) w)) (lines_named board (handed b) w)
  unfolding event_of outcome_of
  call_event g = go (call_on board (handed b) w) exact h.table.result
    where
      go : (x : Effect) → Answers (call_ladder board (handed b) w) x → r ≡ result_of (caller_of board (handed b)) (outcome_of x)
          → happened board b w r g ≡ event_of g (fields_in call w) (caller_of board (handed b)) (outcome_of x) (lines_named board (handed b) w)
      go (done v y t) a e = let ((i, k), j) = result_read (call_rises board (handed b) w) (caller_byte board b) (done v y t) a e in rw (i, k, j) refl
      go (refused why) a e = let ((i, k, j), _) = result_read (call_rises board (handed b) w) (caller_byte board b) (refused why) a e in rw (i, ne_eqb (number_of why) 0 (omega arith)) refl

  -- so the ledger is kept as by the rule
  pub call_noted : (g : Ledger) → entered board b w r g ≡ noted w (caller_of board (handed b)) (outcome_of (call_on board (handed b) w)) (lines_named board (handed b) w) g
  unfolding noted
  call_noted g = ap (λ (e : Event). apply e g) (call_event g)

-- the words after it are read in the bytes after it, and are good words again
module _ {board : Board} {b : List ℕ} {w s r : ℕ} {c : List ℕ} {s' : ℕ} (good : Good board (handed b)) (h : CallLent board b w s r c s') where
  pub next : Good board (words_after (handed b) (call_on board (handed b) w)) × (handed c ≡ words_after (handed b) (call_on board (handed b) w))
  unfolding bytes_after words_after
  next = (next_good good w, go (call_on board (handed b) w) refl)
    where
      go : (x : Effect) → call_on board (handed b) w ≡ x → handed c ≡ words_after (handed b) x
      go (done v y t) z = ap handed (h.table.bytes ∙ ap (bytes_after b) z) ∙ handed_of (call_right board (handed b) w good.small z)
      go (refused n) z = ap handed (h.table.bytes ∙ ap (bytes_after b) z)

-- ── any list of calls ──
-- the words at its end are those of the rules, and so is the ledger
pub called : {board : Board} {b ws d : List ℕ} {g h : Ledger} → Good board (handed b) → Called board b g ws d h → (handed d ≡ after_all board (handed b) ws) × (h ≡ kept_on board (handed b) g ws)
unfolding after_all kept_on
called good no_call = (refl, refl)
called {board} {b} {g = g} good (one_call {c = c} {d} {ws} {w} {r = r} {h = h} here more) =
    let (k, q) = next good here in
    let (u, v) = called (subst (Good board) (sym q) k) more in (
      u ∙ ap (λ (l : List ℕ). after_all board l ws) q,
      v ∙ ap₂ (λ (l : List ℕ) (e : Ledger). kept_on board l e ws) q (call_noted good.small here g),
    )
