-- Every call answers by its conditions: 1, then 2 where a field is not in order, then those of the row of its number; and no other answer fits.
use Rattle.std.specs.Prelude.{◌≡◌, refl, Bool, true, false, not, ◌||◌, List, ◌↔◌, ℕ, eqb}
use Rattle.std.proofs.Common.{sym, subst, true≢false}
use Rattle.std.proofs.lemmas.Bool.{false≢true}
use mathlib.Core.Logic.Iff
use Rattle.words.specs.Kind.{fields_in}
use Rattle.words.specs.Laws.Kind.{zeroed_means}
use Rattle.words.specs.Words.{call}
use Rattle.words.specs.declared.call_word.CallFields.{CallFields}
use Rattle.shapes.specs.declared.Board.{Board}
use Rattle.tables.specs.State.{Table}
use Rattle.tables.specs.Fitting.{Words}
use Rattle.sound.specs.Laws.Canonical.{sound_canon}
use Rattle.sound.specs.Laws.Means.{eq_means, and_means, has_means}
use Rattle.sound.specs.Whole.{Right}
use Rattle.sound.proofs.Laws.List.{sound_means}
use Rattle.sound.proofs.Laws.Whole.{sound_right}
use Rattle.rules.specs.declared.Uses.{Uses}
use Rattle.rules.specs.Rules.{Effect, no_rights, uses, unused, region_call, known, serve, call_on}
use Rattle.rules.specs.Laws.Calls.{call_as}
use Rattle.rules.specs.Laws.Each.{perform_each}
use Rattle.isolation.specs.Ladder.{Answers}
use Rattle.isolation.specs.Laws.Ladder.{answer_one, check_answers}
use Rattle.isolation.specs.Laws.Checks.{unset_means}
use Rattle.isolation.proofs.Laws.Create.{create_exact}
use Rattle.isolation.proofs.Laws.Delete.{delete_exact}
use Rattle.isolation.proofs.Laws.Prepare.{prepare_exact}
use Rattle.isolation.proofs.Laws.Collect.{collect_exact}
use Rattle.isolation.proofs.Laws.Give.{give_exact}
use Rattle.isolation.proofs.Laws.Take.{take_exact}
use Rattle.isolation.proofs.Laws.Cut.{cut_exact}
use Rattle.isolation.proofs.Laws.Merge.{merge_exact}
use Rattle.isolation.proofs.Laws.Regions.{load_exact, unload_exact, read_region_exact_law}
use Rattle.isolation.specs.Laws.Find.{find_exact}
use Rattle.isolation.proofs.Laws.Switch.{switch_exact}
use Rattle.isolation.proofs.Laws.ClearOut.{clear_exact}
use Rattle.isolation.proofs.Laws.Pack.{pack_exact}
use Rattle.isolation.specs.Ladders.{Unused, RegionCall, Known, numbered_ladder, serve_ladder, call_ladder}

-- ── 2: fields that a service doesn't use are zero ──
-- a || b: b where a is false
else_means : (a : Bool) {b : Bool} {B : Type 0} → (b ≡ true) ↔ B → (a || b ≡ true) ↔ (a ≡ false → B)
else_means true m = (λ _ q. absurd (true≢false q), λ _. refl)
else_means false m = (λ q _. m.0 q, λ f. m.1 (f refl))

-- not a || b: b where a is true
only_means : (a : Bool) {b : Bool} {A B : Type 0} → (a ≡ true) ↔ A → (b ≡ true) ↔ B → (not a || b ≡ true) ↔ (A → B)
only_means true f g = (λ q _. g.0 q, λ h. g.1 (h (f.0 refl)))
only_means false f g = (λ _ x. absurd (false≢true (f.1 x)), λ _. refl)

unused_means : (x : Uses) (f : CallFields) → (unused x f ≡ true) ↔ Unused x f
unfolding unused no_rights
unused_means x f =
    let g = f.rights in
    and_means
    (and_means
    (and_means
    (and_means
    (and_means (else_means x.p (eq_means f.partition.0 0)) (else_means x.s (eq_means f.slot.0 0)))
    (else_means x.u (eq_means f.other 0)))
    (else_means x.r (and_means (and_means (unset_means g.read) (unset_means g.write)) (unset_means g.execute))))
    (else_means x.l (eq_means f.line.0 0)))
    (else_means x.w (unset_means f.whole))

region_means : (f : CallFields) → (region_call f ≡ true) ↔ RegionCall f
unfolding region_call
region_means f =
    let g = f.rights in
    and_means (and_means (unset_means g.read) (unset_means g.write)) (only_means g.execute Iff.rfl (eq_means f.slot.0 0))

known_means : (f : CallFields) → (known f ≡ true) ↔ Known f
unfolding known
known_means f = and_means (only_means (eqb f.service 9) (eq_means f.service 9) (region_means f)) (has_means (uses f.service) (λ x. unused_means x f))

-- ── a call ──
module _ (board : Board) {t : Table} (h : Right t) (f : CallFields) where
  -- by the row of its number
  at : (n : ℕ) {r : Effect} → Answers (numbered_ladder board n t f) r → f.service ≡ n → Answers (numbered_ladder board f.service t f) r
  at n {r} a q = subst (λ (m : ℕ). Answers (numbered_ladder board m t f) r) (sym q) a

  pub serve_exact : Answers (serve_ladder board t f) (serve board t f)
  unfolding serve
  serve_exact =
      let p = f.partition.0 in
      let s = f.slot.0 in
      let u = f.other in
      let l = f.line.0 in
      check_answers (known_means f) (λ k. perform_each (Answers (numbered_ladder board f.service t f)) board t f ((known_means f).1 k) (record {
        create = at 1 (create_exact h s);
        delete = at 2 (delete_exact h p);
        prepare = at 3 (prepare_exact h p s);
        collect = at 4 (collect_exact h p u);
        give = at 5 (give_exact h p s f.rights f.whole);
        take = at 6 (take_exact h s);
        cut = at 7 (cut_exact h s l);
        merge = at 8 (merge_exact h s u);
        load = λ q z. at 9 (rw z (load_exact board h p s u)) q;
        unload = λ q z. at 9 (rw z (unload_exact h p u)) q;
        read_region = at 11 (read_region_exact_law h p u);
        find = at 12 (find_exact h p l);
        switch = at 13 (switch_exact h p);
        clear_out = at 14 (clear_exact h p);
        pack = at 15 (pack_exact h p);
      }))

module _ (board : Board) (l : List ℕ) (w : ℕ) (small : Words l) where
  pub call_exact : Answers (call_ladder board l w) (call_on board l w)
  call_exact =
      rw (call_as board l w)
      (check_answers (sound_means board l) (λ s.
      check_answers (zeroed_means call w) (λ _. serve_exact board (sound_right (sound_canon small s) s) (fields_in call w))))

  -- so the answer of a call is the one that its conditions give
  pub call_is : {r : Effect} → (call_on board l w ≡ r) ↔ Answers (call_ladder board l w) r
  call_is = (λ z. rw z at call_exact, answer_one call_exact)
