-- Merge, exit by exit: the number of each refusal, and, done, that the two open entries are one open entry, and both slots are unloaded.
use Rattle.std.specs.Prelude.{◌≡◌, refl, Bool, true, false, ◌&&◌, ◌||◌, List, ℕ, eqb, Ok}
use Rattle.std.proofs.Common.{ap, ap₂, sym, ◌∙◌, eq-eqb, ne_eqb}
use Rattle.std.proofs.Math.Path.{subst}
use Rattle.loops.specs.Loops.{any}
use Rattle.words.specs.declared.slot_word.SlotFields.{SlotFields}
use Rattle.tables.specs.State.{Opt, none, some, Entry, K, Table, ending_at}
use Rattle.tables.specs.View.{view, entry_of}
use Rattle.tables.specs.Encode.{encode, Is}
use Rattle.tables.specs.Update.{upd}
use Rattle.tables.specs.Write.{with_slot}
use Rattle.tables.specs.Seen.{Seen}
use Rattle.tables.specs.Laws.Seen.{entry_none, entry_there}
use Rattle.tables.specs.Settle.{settle, settled}
use Rattle.sound.specs.Laws.Settled.{Settled, clear_both, settled_words, entry_clear, put_settled, emptied_settled, right_settled}
use Rattle.sound.specs.Clauses.{contains_both, one_grant}
use Rattle.rules.specs.Rules.{Effect, done, refused, check, unloaded, merge_k, merge}
use Rattle.rules.specs.Ran.{Ran}
use Rattle.rules.specs.Laws.Ran.{ran_done, pass, fail, there, missing}
use Rattle.blocks.specs.Laws.Pick.{at_caller}
use Rattle.blocks.specs.Laws.Unloading.{upd_twice, unloaded_same, unloaded_both}
use Rattle.blocks.specs.MergeExits.{may_join, longer_at, joined_at, CanMerge}
use Rattle.words.specs.declared.Refusal.TheVariants.{NoEntry, NotOpen, Given, Apart, TwoGrants}

pub joins_root : (k : K) (c : ℕ) (e f : Entry) → c ≡ 0 → true ≡ may_join k c e f
unfolding may_join
joins_root k c e f z = rw (eq-eqb c 0 z) refl

pub joins_granted : (k : K) (c : ℕ) (e f : Entry) {q : ℕ} {b : Bool} → (c ≡ 0 → ⊥) → k.parent c ≡ q → b ≡ any 32 (λ i. contains_both c e f (k.slot q i)) → b ≡ may_join k c e f
unfolding may_join one_grant
joins_granted k c e f {b = b} z w x = rw (ne_eqb c 0 z) (subst (λ (q : ℕ). b ≡ any 32 (λ i. contains_both c e f (k.slot q i))) (sym w) x)

pub merge_none : {l : List ℕ} {c s : ℕ} (u : ℕ) {e : SlotFields} → (view l).k.current ≡ c → Seen l c s e → e.present ≡ false → merge (view l) s u ≡ refused NoEntry
unfolding merge
merge_none u now v q = missing NoEntry _ (entry_none (at_caller now v) q)

pub merge_other_none : {l : List ℕ} {c s u : ℕ} {e f : SlotFields} → (view l).k.current ≡ c → Seen l c s e → e.present ≡ true → Seen l c u f → f.present ≡ false
    → merge (view l) s u ≡ refused NoEntry
unfolding merge
merge_other_none now v p w q = there NoEntry _ _ (entry_there (at_caller now v) p) (missing NoEntry _ (entry_none (at_caller now w) q))

module _ {l : List ℕ} {c s u : ℕ} {e f : SlotFields} (h : CanMerge l c s u e f) where
  e_now : Seen l (view l).k.current s e
  e_now = at_caller h.now h.first

  f_now : Seen l (view l).k.current u f
  f_now = at_caller h.now h.second

  abbrev after : Effect
  after = done 0 0 (settle (merge_k (view l).k s u (entry_of e) (entry_of f)) (unloaded (view l).region (view l).k.current (λ i. eqb i s || eqb i u)))

  from_5 : {x : Effect} → check NotOpen ((view l).opened (view l).k.current s && (view l).opened (view l).k.current u) (check Given (eqb e.given.0 0 && eqb f.given.0 0)
      (check Apart (eqb e.end.0 f.start.0) (check TwoGrants (eqb (view l).k.current 0 || one_grant (view l).k (view l).k.current (entry_of e) (entry_of f)) after))) ≡ x
      → merge (view l) s u ≡ x
  unfolding merge
  from_5 q = there NoEntry _ _ (entry_there e_now h.first_there) (there NoEntry _ _ (entry_there f_now h.second_there) q)

  pub merge_closed : e.opened ≡ false → merge (view l) s u ≡ refused NotOpen
  merge_closed q = from_5 (fail NotOpen _ (rw (e_now.opened, q) refl))

  pub merge_other_closed : e.opened ≡ true → f.opened ≡ false → merge (view l) s u ≡ refused NotOpen
  merge_other_closed a q = from_5 (fail NotOpen _ (rw (e_now.opened, a, f_now.opened) q))

  module _ (a : e.opened ≡ true) (b : f.opened ≡ true) where
    from_6 : {x : Effect} → check Given (eqb e.given.0 0 && eqb f.given.0 0)
        (check Apart (eqb e.end.0 f.start.0) (check TwoGrants (eqb (view l).k.current 0 || one_grant (view l).k (view l).k.current (entry_of e) (entry_of f)) after)) ≡ x
        → merge (view l) s u ≡ x
    from_6 q = from_5 (pass NotOpen (rw (e_now.opened, a, f_now.opened) b) q)

    pub merge_given : (e.given.0 ≡ 0 → ⊥) → merge (view l) s u ≡ refused Given
    merge_given z = from_6 (fail Given _ (rw (ne_eqb e.given.0 0 z) refl))

    pub merge_other_given : e.given.0 ≡ 0 → (f.given.0 ≡ 0 → ⊥) → merge (view l) s u ≡ refused Given
    merge_other_given g z = from_6 (fail Given _ (rw (eq-eqb e.given.0 0 g) (ne_eqb f.given.0 0 z)))

    module _ (g : e.given.0 ≡ 0) (i : f.given.0 ≡ 0) where
      from_11 : {x : Effect} → check Apart (eqb e.end.0 f.start.0)
          (check TwoGrants (eqb (view l).k.current 0 || one_grant (view l).k (view l).k.current (entry_of e) (entry_of f)) after) ≡ x
          → merge (view l) s u ≡ x
      from_11 q = from_6 (pass Given (rw (eq-eqb e.given.0 0 g) (eq-eqb f.given.0 0 i)) q)

      pub merge_apart : (e.end.0 ≡ f.start.0 → ⊥) → merge (view l) s u ≡ refused Apart
      merge_apart z = from_11 (fail Apart _ (ne_eqb e.end.0 f.start.0 z))

      module _ (n : e.end.0 ≡ f.start.0) where
        join_now : {b : Bool} → may_join (view l).k c (entry_of e) (entry_of f) ≡ b → (eqb (view l).k.current 0 || one_grant (view l).k (view l).k.current (entry_of e) (entry_of f)) ≡ b
        unfolding may_join
        join_now {b} q = subst (λ (c : ℕ). may_join (view l).k c (entry_of e) (entry_of f) ≡ b) (sym h.now) q

        from_12 : {x : Effect} → check TwoGrants (eqb (view l).k.current 0 || one_grant (view l).k (view l).k.current (entry_of e) (entry_of f)) after ≡ x
            → merge (view l) s u ≡ x
        from_12 q = from_11 (pass Apart (eq-eqb e.end.0 f.start.0 n) q)

        pub merge_two_grants : may_join (view l).k c (entry_of e) (entry_of f) ≡ false → merge (view l) s u ≡ refused TwoGrants
        merge_two_grants q = from_12 (fail TwoGrants _ (join_now q))

        module _ (m : may_join (view l).k c (entry_of e) (entry_of f) ≡ true) where
          -- the longer entry is open, as its two parts are
          longer_settled : Settled (longer_at (view l) c s e f)
          longer_settled =
              let was = right_settled h.right in
              let low = entry_clear was {e = entry_of e} (entry_there h.first h.first_there) ∙ h.first.opened ∙ a in
              let high = entry_clear was {e = entry_of f} (entry_there h.second h.second_there) ∙ h.second.opened ∙ b in
              rw a (put_settled (emptied_settled was c s) c s (ending_at (entry_of e) f.end.0) true (clear_both (view l).k.area e.start.0 e.end.0 f.end.0 low (rw n high)) (λ _. refl))

          -- the table of the rule
          abbrev ruled : ℕ → Table
          ruled c = settle (with_slot (view l).k (upd (upd (view l).k.slot c s (some (ending_at (entry_of e) f.end.0))) c u none)) (unloaded (view l).region c (λ i. eqb i s || eqb i u))

          join_ruled : settled (joined_at (view l) c s u e f) ≡ ruled c
          join_ruled = ap₂ (λ (g : ℕ → ℕ → Opt Entry) (r : ℕ → ℕ → Opt ℕ). settle (with_slot (view l).k (upd g c u none)) r)
              (upd_twice (view l).k.slot c s none (some (ending_at (entry_of e) f.end.0)))
              (unloaded_same longer_settled c u
              ∙ ap (λ (r : ℕ → ℕ → Opt ℕ). unloaded r c (λ i. eqb i u)) (unloaded_same (right_settled h.right) c s)
              ∙ unloaded_both (view l).region c (λ i. eqb i s) (λ i. eqb i u))

          pub merge_exit_done : {r : List ℕ} → Is r (joined_at (view l) c s u e f) → Ran (merge (view l) s u) l (Ok (0, 0)) r
          merge_exit_done {r} put =
              ran_done (from_12 (pass TwoGrants (join_now m) refl))
              (subst (λ (c : ℕ). r ≡ encode (ruled c)) (sym h.now) (settled_words put (emptied_settled longer_settled c u) ∙ ap encode join_ruled))
