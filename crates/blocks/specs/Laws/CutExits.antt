-- Cut, exit by exit: the number of each refusal, and, done, that nothing is left to settle, since each part of an open entry is open.
use Rattle.std.specs.Prelude.{◌≡◌, refl, true, false, List, ℕ, ◌<◌, ◌≤◌, eqb, Ok, Err}
use Rattle.std.proofs.Math.Path.{ap}
use Rattle.std.proofs.Common.{ap₂, sym, subst, ◌∙◌, arith, lt-ltb, le-ltb}
use Rattle.std.proofs.Math.Bool.{not}
use Rattle.words.specs.declared.slot_word.SlotFields.{SlotFields}
use Rattle.tables.specs.State.{Opt, none, some, Entry, Table, ending_at, starting_at}
use Rattle.tables.specs.View.{view, entry_of}
use Rattle.tables.specs.Encode.{encode, Is}
use Rattle.tables.specs.Update.{upd}
use Rattle.tables.specs.Write.{with_slot}
use Rattle.tables.specs.Search.{lowest, free}
use Rattle.tables.specs.Settle.{settle, settled}
use Rattle.sound.specs.Laws.Settled.{Settled, clear_part, settled_words, put_settled, emptied_settled, right_settled}
use Rattle.rules.specs.Rules.{unloaded, cut}
use Rattle.rules.specs.Ran.{Ran}
use Rattle.rules.specs.Laws.Ran.{ran_refused, ran_done, pass, fail, there, missing}
use Rattle.blocks.specs.Laws.Unloading.{upd_twice, unloaded_same}
use Rattle.writing.specs.CanWrite.{CanEntry}
use Rattle.blocks.specs.CutExits.{split_at, CanCut}
use Rattle.blocks.specs.Laws.FreeExits.{can_put, free_clear}
use Rattle.words.specs.declared.Refusal.TheVariants.{WrongLine, NoneFree, LentWhole}

module _ {l : List ℕ} {s k : ℕ} {f : SlotFields} (h : CanCut l s k f) where
  pub can_split : {c : ℕ} → c < 16 → CanEntry l c s f
  can_split b = can_put h.canon b h.in_i h.entry.seen h.entry.present

  pub cut_low : k ≤ f.start.0 → Ran (cut (view l) s k) l (Err WrongLine) l
  unfolding cut
  cut_low b = ran_refused (h.entry.rule _ ∙ fail WrongLine _ (rw (le-ltb f.start.0 k b) refl))

  pub cut_high : f.start.0 < k → f.end.0 ≤ k → Ran (cut (view l) s k) l (Err WrongLine) l
  unfolding cut
  cut_high a b = ran_refused (h.entry.rule _ ∙ fail WrongLine _ (rw (lt-ltb f.start.0 k a) (le-ltb k f.end.0 b)))

  module _ {c : ℕ} (now : (view l).k.current ≡ c) (low : f.start.0 < k) (high : k < f.end.0) where
    pub cut_full : lowest 32 (free (view l).k c) ≡ none → Ran (cut (view l) s k) l (Err NoneFree) l
    unfolding cut
    cut_full z =
        ran_refused (h.entry.rule _ ∙ pass WrongLine (rw (lt-ltb f.start.0 k low) (lt-ltb k f.end.0 high))
        (missing NoneFree _ (ap (λ (c : ℕ). lowest 32 (free (view l).k c)) now ∙ z)))

    pub cut_whole : {n : ℕ} → lowest 32 (free (view l).k c) ≡ some n → f.whole ≡ true → Ran (cut (view l) s k) l (Err LentWhole) l
    unfolding cut
    cut_whole {n} z q =
        ran_refused (h.entry.rule _ ∙ pass WrongLine (rw (lt-ltb f.start.0 k low) (lt-ltb k f.end.0 high))
        (there NoneFree _ n (ap (λ (c : ℕ). lowest 32 (free (view l).k c)) now ∙ z) (fail LentWhole _ (ap not q))))

    -- both parts are open, as the entry was
    split_settled : (n : ℕ) → Settled (split_at (view l) c s n k f)
    split_settled n =
        let whole = free_clear h.right h.entry in
        let part = clear_part (view l).k.area in
        rw h.entry.opened (put_settled
        (put_settled (emptied_settled (right_settled h.right) c s) c s (ending_at (entry_of f) k) true (part f.start.0 f.start.0 k f.end.0 whole (omega arith) (omega arith)) (λ _. refl))
        c n (starting_at (entry_of f) k) true (part f.start.0 k f.end.0 f.end.0 whole (omega arith) (omega arith)) (λ _. refl))

    -- the table of the rule
    abbrev ruled : ℕ → ℕ → Table
    ruled c n = settle (with_slot (view l).k (upd (upd (view l).k.slot c s (some (ending_at (entry_of f) k))) c n (some (starting_at (entry_of f) k)))) (unloaded (view l).region c (λ i. eqb i s))

    split_ruled : (n : ℕ) → settled (split_at (view l) c s n k f) ≡ ruled c n
    split_ruled n = ap₂ (λ (g : ℕ → ℕ → Opt Entry) (r : ℕ → ℕ → Opt ℕ). settle (with_slot (view l).k (upd g c n (some (starting_at (entry_of f) k)))) r)
        (upd_twice (view l).k.slot c s none (some (ending_at (entry_of f) k))) (unloaded_same (right_settled h.right) c s)

    pub cut_exit_done : {n : ℕ} {m : List ℕ} → lowest 32 (free (view l).k c) ≡ some n → f.whole ≡ false → Is m (split_at (view l) c s n k f) → Ran (cut (view l) s k) l (Ok (n, 0)) m
    unfolding cut
    cut_exit_done {n} {m} z q put =
        ran_done (h.entry.rule _ ∙ pass WrongLine (rw (lt-ltb f.start.0 k low) (lt-ltb k f.end.0 high))
        (there NoneFree _ n (ap (λ (c : ℕ). lowest 32 (free (view l).k c)) now ∙ z) (pass LentWhole (ap not q) refl)))
        (subst (λ (c : ℕ). m ≡ encode (ruled c n)) (sym now) (settled_words put (split_settled n) ∙ ap encode (split_ruled n)))
