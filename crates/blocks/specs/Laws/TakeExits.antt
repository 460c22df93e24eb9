-- Take, exit by exit: which slot of the child was returned, the number of each refusal, and, done, that only the child's regions are left to settle.
use Rattle.std.specs.Prelude.{◌≡◌, true, false, List, ℕ, Ok, Err}
use Rattle.std.proofs.Math.Path.{refl}
use Rattle.std.proofs.Common.{sym, subst, ◌∙◌}
use borrow.Author.Tests.{eq-eqb, ne_eqb}
use Rattle.words.specs.declared.slot_word.SlotFields.{SlotFields}
use Rattle.tables.specs.State.{none, some, given_to}
use Rattle.tables.specs.View.{view, entry_of}
use Rattle.tables.specs.Encode.{encode, Is}
use Rattle.tables.specs.Write.{put_slot}
use Rattle.tables.specs.Seen.{Seen}
use Rattle.tables.specs.Laws.Seen.{entry_none, entry_there}
use Rattle.tables.specs.Search.{lowest}
use Rattle.tables.specs.Settle.{settled}
use Rattle.tables.specs.Kept.{keep_regions}
use Rattle.sound.specs.Clauses.{has}
use Rattle.sound.specs.Laws.Settled.{Settled, entry_clear, put_settled, empty_words, right_settled}
use Rattle.rules.specs.Rules.{returned, take}
use Rattle.rules.specs.Ran.{Ran}
use Rattle.rules.specs.Laws.Ran.{ran_refused, ran_done, pass, fail, there, missing}
use Rattle.blocks.specs.Laws.Pick.{at_caller}
use Rattle.writing.specs.CanWrite.{CanEntry}
use Rattle.blocks.specs.Laws.FreeExits.{can_put}
use Rattle.blocks.specs.TakeExits.{taken_back, CanTake}
use Rattle.words.specs.declared.Refusal.TheVariants.{NoEntry, Given, InPieces}

-- ── slot i of the child that e is given to, whose entry f was read ──
module _ {l : List ℕ} {i : ℕ} (e : SlotFields) {f : SlotFields} (v : Seen l e.given.0 i f) where
  pub returned_none : f.present ≡ false → false ≡ returned (view l) (entry_of e) i
  unfolding returned has
  returned_none q = rw (entry_none v q) refl

  module _ (q : f.present ≡ true) where
    pub returned_given : (f.given.0 ≡ 0 → ⊥) → false ≡ returned (view l) (entry_of e) i
    unfolding returned has
    returned_given g = rw (entry_there v q, ne_eqb f.given.0 0 g) refl

    module _ (g : f.given.0 ≡ 0) where
      pub returned_start : (f.start.0 ≡ e.start.0 → ⊥) → false ≡ returned (view l) (entry_of e) i
      unfolding returned has
      returned_start a = rw (entry_there v q, eq-eqb f.given.0 0 g, ne_eqb f.start.0 e.start.0 a) refl

      module _ (a : f.start.0 ≡ e.start.0) where
        pub returned_end : (f.end.0 ≡ e.end.0 → ⊥) → false ≡ returned (view l) (entry_of e) i
        unfolding returned has
        returned_end b = rw (entry_there v q, eq-eqb f.given.0 0 g, eq-eqb f.start.0 e.start.0 a, ne_eqb f.end.0 e.end.0 b) refl

        pub returned_open : f.end.0 ≡ e.end.0 → f.opened ≡ returned (view l) (entry_of e) i
        unfolding returned has
        returned_open b = rw (entry_there v q, eq-eqb f.given.0 0 g, eq-eqb f.start.0 e.start.0 a, eq-eqb f.end.0 e.end.0 b) (sym v.opened)

-- ── the checks before 14, of the caller's entry f that was read ──
module _ {l : List ℕ} {c s : ℕ} {f : SlotFields} (now : (view l).k.current ≡ c) (v : Seen l c s f) where
  pub take_none : f.present ≡ false → Ran (take (view l) s) l (Err NoEntry) l
  unfolding take
  take_none q = ran_refused (missing NoEntry _ (entry_none (at_caller now v) q))

  pub take_not_given : f.present ≡ true → f.given.0 ≡ 0 → Ran (take (view l) s) l (Err Given) l
  unfolding take
  take_not_given q g = ran_refused (there NoEntry _ _ (entry_there (at_caller now v) q) (fail Given _ (rw (eq-eqb f.given.0 0 g) refl)))

-- ── take: they pass ──
module _ {l : List ℕ} {c s : ℕ} {f : SlotFields} (h : CanTake l c s f) where
  pub can_take : CanEntry l c s f
  can_take = can_put h.canon h.caller h.in_i h.seen h.present

  pub take_kept : lowest 32 (returned (view l) (entry_of f)) ≡ none → Ran (take (view l) s) l (Err InPieces) l
  unfolding take
  take_kept z =
      ran_refused (there NoEntry _ _ (entry_there (at_caller h.now h.seen) h.present) (pass Given (rw (ne_eqb f.given.0 0 h.is_given) refl) (missing InPieces _ z)))

  -- the caller's entry has its range and is as open as before
  own_settled : Settled (put_slot (view l) c s (some (given_to (entry_of f) 0)) f.opened)
  own_settled =
      let was = right_settled h.right in
      put_settled was c s (given_to (entry_of f) 0) f.opened (entry_clear was {e = entry_of f} (entry_there h.seen h.present) ∙ h.seen.opened) (λ q. sym h.seen.opened ∙ q)

  pub take_exit_done : {i : ℕ} {m r : List ℕ} → lowest 32 (returned (view l) (entry_of f)) ≡ some i → Is m (taken_back (view l) c s i f) → Is r (keep_regions (view m) f.given.0) → Ran (take (view l) s) l (Ok (0, 0)) r
  unfolding take
  take_exit_done {i} {r = r} z put kept =
      ran_done (there NoEntry _ _ (entry_there (at_caller h.now h.seen) h.present) (pass Given (rw (ne_eqb f.given.0 0 h.is_given) refl) (there InPieces _ i z refl)))
      (subst (λ (c : ℕ). r ≡ encode (settled (taken_back (view l) c s i f))) (sym h.now) (empty_words own_settled f.given.0 i put kept))
