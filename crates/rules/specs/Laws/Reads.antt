-- A call whose answer stands leaves every word as it was; so a copy of the words need not be written back.
use Rattle.std.specs.Prelude.{◌≡◌, Bool, cond, List, ◌⊎◌, ℕ, eqb, Result, Ok, Err}
use Rattle.std.proofs.Math.Path.{refl}
use Rattle.std.proofs.Common.{sym, subst, ◌∙◌, inl, inr, eqb-true}
use Rattle.std.proofs.Math.Bool.{true, false}
use Rattle.words.specs.Kind.{reading}
use Rattle.words.specs.Words.{call}
use Rattle.shapes.specs.declared.Board.{Board}
use Rattle.tables.specs.State.{Opt, none, some}
use Rattle.tables.specs.View.{view}
use Rattle.tables.specs.Encode.{encode}
use Rattle.tables.specs.Laws.Encode.{canon_is}
use Rattle.tables.specs.Fitting.{Words}
use Rattle.tables.specs.Settle.{settled}
use Rattle.sound.specs.Laws.Tests.{or_says}
use Rattle.sound.specs.Clauses.{sound}
use Rattle.sound.specs.Laws.Canonical.{sound_canon}
use Rattle.sound.proofs.Laws.List.{sound_means}
use Rattle.sound.proofs.Laws.Whole.{sound_right}
use Rattle.sound.specs.Laws.Settled.{right_settled, settled_words}
use Rattle.rules.specs.Rules.{Effect, refused, check, need, read_region, find, known, perform, serve, serve_read, call_on, words_after}
use Rattle.rules.specs.Laws.Each.{perform_at}
use Rattle.rules.specs.Reads.{only_reads, stands_after}
use Rattle.rules.specs.Calls.{CallAnswers}
use Rattle.rules.specs.declared.Answer.{Answer}
use Rattle.words.specs.declared.call_word.CallFields.{CallFields}
use Rattle.words.specs.declared.Refusal.{Refusal}
use Rattle.words.specs.declared.Refusal.TheVariants.{NotSound, BadWord, WrongPartition, WrongLine, WrongRegion}

-- ── a rule that leaves the words l: done with their own table, or refused ──
module _ {l : List ℕ} where
  checked : (why : Refusal) (b : Bool) (r : Effect) → words_after l r ≡ l → words_after l (check why b r) ≡ l
  unfolding check words_after
  checked why true r k = k
  checked why false r k = refl

  needed : {A : Type 0} (why : Refusal) (o : Opt A) (f : A → Effect) → ((a : A) → words_after l (f a) ≡ l) → words_after l (need why o f) ≡ l
  unfolding need words_after
  needed why none f k = refl
  needed why (some a) f k = k a

module _ {l : List ℕ} (same : encode (settled (view l)) ≡ l) where
  read_stands : (p r : ℕ) → words_after l (read_region (view l) p r) ≡ l
  unfolding read_region words_after
  read_stands p r = checked WrongPartition _ _ (checked WrongRegion _ _ same)

  find_stands : (p n : ℕ) → words_after l (find (view l) p n) ≡ l
  unfolding find words_after
  find_stands p n = checked WrongPartition _ _ (needed WrongLine _ _ (λ i. same))

  serve_stands : (board : Board) (r : Result CallFields Refusal) → only_reads r ≡ true → words_after l (serve_read board (view l) r) ≡ l
  unfolding serve_read serve only_reads words_after
  serve_stands board (Ok f) q = checked BadWord (known f) (perform board (view l) f) (go (or_says _ _ q))
    where
      go : (eqb f.service 11 ≡ true) ⊎ (eqb f.service 12 ≡ true) → words_after l (perform board (view l) f) ≡ l
      go (inl z) = rw (perform_at board 11 (view l) f (eqb-true _ 11 z)) (read_stands _ _)
      go (inr z) = rw (perform_at board 12 (view l) f (eqb-true _ 12 z)) (find_stands _ _)
  serve_stands board (Err n) q = refl

-- done or refused, such a call leaves every word as it was
reads_stand : (board : Board) (l : List ℕ) (w : ℕ) → Words l → stands_after board l w ≡ true → words_after l (call_on board l w) ≡ l
unfolding stands_after call_on words_after
reads_stand board l w small = go (sound board l) refl
  where
    same : sound board l ≡ true → encode (settled (view l)) ≡ l
    same h =
        let s = (sound_means board l).0 h in
        let canon = sound_canon small s in
        sym (settled_words (canon_is canon) (right_settled (sound_right canon s)))

    go : (a : Bool) → sound board l ≡ a → cond a (only_reads (reading call w)) true ≡ true → words_after l (cond a (serve_read board (view l) (reading call w)) (refused NotSound)) ≡ l
    go true h q = serve_stands (same h) board (reading call w) q
    go false h q = refl

pub answers_stand : {board : Board} {l : List ℕ} {w : ℕ} {r : Answer} {m : List ℕ} → Words l → CallAnswers board l w r m → r.stands ≡ true → m ≡ l
answers_stand {board} {l} {w} small h q = h.ran.words ∙ reads_stand board l w small (sym h.stands ∙ q)

-- ── on a copy: its words are copied back, or they stand ──
module _ {board : Board} {l a : List ℕ} {w : ℕ} {r : Answer} {m : List ℕ} (copy : a ≡ l) (h : CallAnswers board a w r m) where
  pub answers_copied : {n : List ℕ} → n ≡ m → CallAnswers board l w r n
  answers_copied e = rw (← copy, e) h

  pub answers_left : Words l → r.stands ≡ true → CallAnswers board l w r l
  answers_left small q = answers_copied (sym (answers_stand (subst Words (sym copy) small) h q ∙ copy))
