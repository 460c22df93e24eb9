-- Give, exit by exit: the number of each refusal, and, done, that nothing is left to settle, since what is handed on is open as it was.
use Rattle.std.specs.Prelude.{◌≡◌, refl, Bool, true, false, List, ℕ, Ok, Err}
use Rattle.std.proofs.Common.{ap, sym, subst, ◌∙◌}
use Rattle.std.proofs.Math.Bool.{not}
use Rattle.words.specs.declared.Rights.{Rights}
use Rattle.words.specs.declared.slot_word.SlotFields.{SlotFields}
use Rattle.tables.specs.State.{none, some, K, given_to, range_of}
use Rattle.tables.specs.View.{view, entry_of}
use Rattle.tables.specs.Encode.{encode, Is}
use Rattle.tables.specs.Search.{lowest, child, free}
use Rattle.tables.specs.Settle.{settled}
use Rattle.sound.specs.Clauses.{within}
use Rattle.sound.specs.Laws.Settled.{Settled, settled_words, put_settled, right_settled}
use Rattle.rules.specs.Rules.{give}
use Rattle.rules.specs.Ran.{Ran}
use Rattle.rules.specs.Laws.Ran.{ran_refused, ran_done, pass, fail, there, missing}
use Rattle.writing.specs.CanWrite.{CanEntry}
use Rattle.blocks.specs.GiveExits.{handed_to, CanGive}
use Rattle.blocks.specs.Laws.FreeExits.{can_put, free_clear}
use Rattle.words.specs.declared.Refusal.TheVariants.{WrongPartition, NoneFree, MoreRights, LentWhole}

-- the test of P, with the caller's number read first
pub child_now : (k : K) (p : ℕ) {c : ℕ} {b : Bool} → k.current ≡ c → child k c p ≡ b → child k k.current p ≡ b
child_now k p now e = ap (λ (c : ℕ). child k c p) now ∙ e

module _ {l : List ℕ} {c p s : ℕ} {f : SlotFields} (h : CanGive l c p s f) where
  pub can_hand : CanEntry l c s f
  can_hand = can_put h.canon h.caller h.in_i h.entry.seen h.entry.present

  pub give_full : (r : Rights) (w : Bool) → lowest 32 (free (view l).k p) ≡ none → Ran (give (view l) p s r w) l (Err NoneFree) l
  unfolding give
  give_full r w z = ran_refused (pass WrongPartition (child_now _ _ h.now h.is_child) (h.entry.rule _ ∙ missing NoneFree _ z))

  module _ (r : Rights) (w : Bool) {n : ℕ} (z : lowest 32 (free (view l).k p) ≡ some n) where
    pub give_more : within r f.rights ≡ false → Ran (give (view l) p s r w) l (Err MoreRights) l
    unfolding give
    give_more y = ran_refused (pass WrongPartition (child_now _ _ h.now h.is_child) (h.entry.rule _ ∙ there NoneFree _ n z (fail MoreRights _ y)))

    pub give_whole : within r f.rights ≡ true → f.whole ≡ true → Ran (give (view l) p s r w) l (Err LentWhole) l
    unfolding give
    give_whole y q = ran_refused (pass WrongPartition (child_now _ _ h.now h.is_child) (h.entry.rule _ ∙ there NoneFree _ n z (pass MoreRights y (fail LentWhole _ (ap not q)))))

    -- both entries are open: their range is that of f
    handed_settled : Settled (handed_to (view l) c s p n r w f)
    handed_settled =
        let whole = free_clear h.right h.entry in
        rw h.entry.opened (put_settled (put_settled (right_settled h.right) c s (given_to (entry_of f) p) true whole (λ _. refl)) p n (range_of (entry_of f) r w) true whole (λ _. refl))

    pub give_exit_done : {m : List ℕ} → within r f.rights ≡ true → f.whole ≡ false → Is m (handed_to (view l) c s p n r w f) → Ran (give (view l) p s r w) l (Ok (n, 0)) m
    unfolding give
    give_exit_done {m} y q put =
        ran_done (pass WrongPartition (child_now _ _ h.now h.is_child) (h.entry.rule _ ∙ there NoneFree _ n z (pass MoreRights y (pass LentWhole (ap not q) refl))))
        (subst (λ (c : ℕ). m ≡ encode (settled (handed_to (view l) c s p n r w f))) (sym h.now) (settled_words put handed_settled))
