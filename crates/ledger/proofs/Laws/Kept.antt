-- The ledger is who holds what: after boot, and after any list of calls, done or refused.
use Rattle.std.specs.Prelude.{◌≡◌, Bool, true, ◌&&◌, ◌↔◌, eqb}
use Rattle.std.proofs.Math.Path.{refl, ap, sym}
use Rattle.std.proofs.Common.{subst, ◌∙◌, true≢false, arith}
use Rattle.std.proofs.Math.Bool.{not}
use mathlib.Core.List.{List, [], ◌∷◌}
use mathlib.Core.Logic.Iff
use Prim.Native.Nat.{ℕ, ◌+◌, ◌-◌, ◌≤◌, ◌<◌}
use Rattle.std.proofs.lemmas.Bool.{not-true}
use Rattle.loops.specs.Laws.Every.{all_at, all_of}
use Rattle.words.specs.Kind.{fields_in}
use Rattle.words.specs.Words.{call}
use Rattle.words.specs.declared.Rights.{Rights}
use Rattle.words.specs.declared.call_word.CallFields.{CallFields}
use Rattle.shapes.specs.declared.Board.{Board}
use Rattle.tables.specs.State.{Opt, none, some, Entry, K, Table}
use Rattle.tables.specs.Update.{upd1}
use Rattle.tables.specs.View.{view}
use Rattle.tables.specs.Encode.{encode}
use Rattle.tables.specs.Laws.Back.{view_encode}
use Rattle.tables.specs.Search.{lowest}
use Rattle.tables.specs.Laws.Search.{lowest_some, lowest_none}
use Rattle.tables.specs.Lines.{In, Holds}
use Rattle.tables.specs.Settle.{settle}
use Rattle.sound.specs.Laws.Means.{eq_means, le_means, lt_means, and_means, or_means, not_means}
use Rattle.sound.specs.Laws.Tests.{and_says, and_true}
use Rattle.sound.specs.Laws.Properties.{siblings_one}
use Rattle.sound.specs.Whole.{Right}
use Rattle.sound.proofs.Laws.List.{sound_means}
use Rattle.rules.specs.Rules.{Effect, done, refused, records_zero, remove, branch, create, delete, give, take, clear_out, serve, call_on, boot_on, words_after}
use Rattle.rules.specs.Laws.Each.{done_each}
use Rattle.rules.specs.Ran.{outcome_of}
use Rattle.rules.specs.Calls.{caller_of, CallAnswers}
use Rattle.rules.specs.declared.Answer.{Answer}
use Rattle.isolation.specs.Ladder.{Ends}
use Rattle.isolation.specs.Laws.Ladder.{ends}
use Rattle.isolation.specs.Laws.Fits.{Good, right_fit}
use Rattle.isolation.specs.Laws.Keep.{given_child}
use Rattle.isolation.proofs.Laws.Create.{create_done, create_holds}
use Rattle.isolation.specs.Laws.Remove.{Goes}
use Rattle.isolation.proofs.Laws.Remove.{remove_holds}
use Rattle.isolation.proofs.Laws.Delete.{delete_done}
use Rattle.isolation.proofs.Laws.Prepare.{prepare_done, prepare_holds}
use Rattle.isolation.proofs.Laws.Collect.{collect_done, collect_holds}
use Rattle.isolation.proofs.Laws.Give.{give_done, give_holds}
use Rattle.isolation.proofs.Laws.Take.{TakeOk, take_done, take_holds}
use Rattle.isolation.proofs.Laws.Cut.{cut_done, cut_holds}
use Rattle.isolation.proofs.Laws.Merge.{merge_done, merge_holds}
use Rattle.isolation.proofs.Laws.Regions.{load_done, unload_done, read_region_same_law}
use Rattle.isolation.specs.Laws.Find.{find_same}
use Rattle.isolation.proofs.Laws.Switch.{switch_done}
use Rattle.isolation.proofs.Laws.ClearOut.{branch_goes, clear_done}
use Rattle.isolation.proofs.Laws.Pack.{pack_done, pack_holds}
use Rattle.isolation.proofs.Laws.Boot.{boot_exact, boot_holds, boot_right}
use Rattle.isolation.specs.Whole.{after_all}
use Rattle.isolation.proofs.Whole.{serve_right, served, call_good, boot_good}
use Rattle.ledger.specs.Ledger.{Ledger, opening, Lines, among, adopt, enter, strike_all, apply, child_for, struck, accepted, event_of, noted, lines_in, lines_named, kept_on}

-- g is the ledger of a table of base to end: its partitions are those that hold the line, its tree is the table's
pub record Keeps (base end : ℕ) (g : Ledger) (k : K) : Type 0 where
  pub base_is : k.base ≡ base
  pub end_is : k.stop ≡ end
  pub tree : g.parent ≡ k.parent
  pub holders : (p l : ℕ) → (g.stands p l ≡ true) ↔ Holds k.slot p l

-- ── one call ──
-- p is c, and line l is one of the entry's
at_lines : (c p l : ℕ) {o : Opt Entry} {e : Entry} → o ≡ some e → (eqb p c && among l (lines_in o) ≡ true) ↔ ((p ≡ c) × In l e)
unfolding among lines_in
at_lines c p l {e = e} u = rw u (and_means (eq_means p c) (
  λ q. let (a, b) = (and_means (le_means e.start l) (lt_means l e.stop)).0 q in record { from = a; to = b },
  λ x. (and_means (le_means e.start l) (lt_means l e.stop)).1 (x.from, x.to),
))

-- the only number that passes is the lowest
only_lowest : (n : ℕ) (f : ℕ → Bool) (c : ℕ) → c < n → f c ≡ true → ((p : ℕ) → f p ≡ true → p ≡ c) → lowest n f ≡ some c
only_lowest n f c b q one = go (lowest n f) refl
  where
    go : (o : Opt ℕ) → lowest n f ≡ o → o ≡ some c
    go none z = absurd (true≢false (sym q ∙ lowest_none n f z c b))
    go (some p) z = ap some (one p (lowest_some n f p z).holds)

module _ {base end : ℕ} {g : Ledger} {t : Table} (h : Right t) (s : Keeps base end g t.k) where
  -- base and end stay
  kept : {new : Ledger} {k : K} → k.base ≡ t.k.base → k.stop ≡ t.k.stop → new.parent ≡ k.parent
      → ((p l : ℕ) → (new.stands p l ≡ true) ↔ Holds k.slot p l) → Keeps base end new k
  kept b e u f = record { base_is = b ∙ s.base_is; end_is = e ∙ s.end_is; tree = u; holders = f }

  -- nobody is entered, nobody struck
  quiet : {k : K} → k.base ≡ t.k.base → k.stop ≡ t.k.stop → k.parent ≡ t.k.parent
      → ((p l : ℕ) → Holds k.slot p l ↔ Holds t.k.slot p l) → Keeps base end g k
  quiet b e u f = kept b e (s.tree ∙ sym u) (λ p l. Iff.trans (s.holders p l) (Iff.symm (f p l)))

  -- the lines of entry i of the caller
  abbrev lines : ℕ → Lines
  lines i = lines_in (t.k.slot t.k.current i)

  create_kept : (i : ℕ) {v w : ℕ} {t' : Table} → create t i ≡ done v w t' → Keeps base end (apply (adopt v t.k.current) g) t'.k
  unfolding apply settle
  create_kept i {v} x =
      let (_, ok, z) = create_done h i x in
      rw z (kept refl refl (ap (λ (u : ℕ → ℕ). upd1 u v t.k.current) s.tree)
      (λ p l. Iff.trans (s.holders p l) (Iff.symm (create_holds h.core ok p l))))

  give_kept : (c i : ℕ) (r : Rights) (m : Bool) {v w : ℕ} {t' : Table} → give t c i r m ≡ done v w t' → Keeps base end (apply (enter c (lines i)) g) t'.k
  unfolding apply settle
  give_kept c i r m x =
      let (e, ok, z) = give_done h c i r m x in
      rw z (kept refl refl s.tree λ p l. Iff.trans (or_means (s.holders p l) (at_lines c p l ok.entry.at)) (Iff.symm (give_holds m h.core ok p l)))

  -- the caller's child that stands for the lines of an entry which take may have back is the one that the entry is given to: it has them, and no other child has
  pub child_for_law : {i j : ℕ} {e f : Entry} → TakeOk t.k i j e f → lowest 16 (child_for g t.k.current (lines i)) ≡ some e.given
  unfolding child_for lines_in
  child_for_law {j = j} {e} {f} ok =
      let c = given_child h.core t.k.current _ e ok.at ok.given in
      let (a, u) = c.present in
      let long = h.core.s5_range t.k.current _ e ok.at in
      let holds : (l : ℕ) → e.start ≤ l → l < e.stop → Holds t.k.slot e.given l =
      λ l x y. record { i = j; e = f; at = ok.back.at; holds = record { from = omega (arith, ok.back.start); to = omega (arith, ok.back.stop) } } in
      rw ok.at (only_lowest 16 _ e.given (h.core.s2_range e.given 0 a u).0
      (and_true _ _ (and_true _ _ ((not_means (eq_means e.given 0)).1 c.other) ((eq_means (g.parent e.given) t.k.current).1 (ap (λ (u : ℕ → ℕ). u e.given) s.tree ∙ c.parent)))
      (all_of (e.stop - e.start) _ (λ n b. (s.holders e.given (e.start + n)).1 (holds (e.start + n) (omega arith) (omega arith)))))
      (λ p q.
      let (x, y) = and_says _ _ q in
      let (m, v) = and_says _ _ x in
      let z = all_at (e.stop - e.start) (λ n. g.stands p (e.start + n)) y 0 (omega arith) in
      siblings_one h.core {l = e.start + 0} ((not_means (eq_means p 0)).0 m) c.other
      (ap (λ (u : ℕ → ℕ). u p) (sym s.tree) ∙ (eq_means (g.parent p) t.k.current).0 v ∙ sym c.parent)
      ((s.holders p (e.start + 0)).0 z) (holds (e.start + 0) (omega arith) (omega arith))))

  take_kept : (i : ℕ) {v w : ℕ} {t' : Table} → take t i ≡ done v w t' → Keeps base end (apply (struck (lowest 16 (child_for g t.k.current (lines i))) (lines i)) g) t'.k
  unfolding apply struck settle
  take_kept i x =
      let (j, e, f, ok, z) = take_done h i x in
      rw (z, child_for_law ok) (kept refl refl s.tree
      λ p l. Iff.trans (and_means (s.holders p l) (not_means (at_lines e.given p l ok.at))) (Iff.symm (take_holds h.core ok p l)))

  -- who goes is struck
  remove_kept : {c : ℕ} {m : ℕ → Bool} → Goes t.k c m → Keeps base end (apply (strike_all m) g) (remove t c m).k
  unfolding apply settle
  remove_kept {c} {m} ok =
      kept refl refl (ap (records_zero m 0) s.tree)
      (λ p l. Iff.trans (and_means (s.holders p l) (not-true (m p), λ q. ap not q)) (Iff.symm (remove_holds h.core ok p l)))

  delete_kept : (c : ℕ) {v w : ℕ} {t' : Table} → delete t c ≡ done v w t' → Keeps base end (apply (strike_all (λ q. eqb q c)) g) t'.k
  delete_kept c x = let (ok, z) = delete_done h c x in rw z (remove_kept ok)

  clear_kept : (c : ℕ) {v w : ℕ} {t' : Table} → clear_out t c ≡ done v w t' → Keeps base end (apply (strike_all (branch g.parent c)) g) t'.k
  clear_kept c x =
      let (ok, _, z) = clear_done h c x in
      rw z (subst (λ (u : ℕ → ℕ). Keeps base end (apply (strike_all (branch u c)) g) (remove t c (branch t.k.parent c)).k) (sym s.tree) (remove_kept (branch_goes h.core ok)))

  -- each service, with the event that it is
  pub serve_kept : (board : Board) (f : CallFields) {v w : ℕ} {t' : Table} → serve board t f ≡ done v w t' → Keeps base end (apply (accepted g f t.k.current v (lines f.slot.0)) g) t'.k
  unfolding apply accepted settle
  serve_kept board f z =
      let p = f.partition.0 in
      let i = f.slot.0 in
      let u = f.other in
      let m = f.line.0 in
      done_each board t f z (record {
        create = λ y x. rw y (create_kept i x);
        delete = λ y x. rw y (delete_kept p x);
        prepare = λ y x. let (_, ok, q) = prepare_done h p i x in rw (y, q) (quiet refl refl refl (prepare_holds h.core ok));
        collect = λ y x. let (ok, q) = collect_done h p u x in rw (y, q) (quiet refl refl refl (collect_holds h.core ok));
        give = λ y x. rw y (give_kept p i f.rights f.whole x);
        take = λ y x. rw y (take_kept i x);
        cut = λ y x. let (_, ok, q) = cut_done h i m x in rw (y, q) (quiet refl refl refl (cut_holds h.core ok));
        merge = λ y x. let (_, _, ok, q) = merge_done h i u x in rw (y, q) (quiet refl refl refl (merge_holds h.core ok));
        load = λ y _ x. let (_, _, q) = load_done board h p i u x in rw (y, q) s;
        unload = λ y _ x. let (_, _, q) = unload_done h p u x in rw (y, q) s;
        read_region = λ y x. rw (y, read_region_same_law h p u x) s;
        find = λ y x. rw (y, find_same h p m x) s;
        switch = λ y x. let (_, q) = switch_done h p x in rw (y, q) (quiet refl refl refl (λ p l. Iff.rfl));
        clear_out = λ y x. rw y (clear_kept p x);
        pack = λ y x. let (_, _, q) = pack_done h p x in rw (y, q) (quiet refl refl refl (pack_holds h p));
      })

-- ── any list of calls ──
-- the reader has the answers that `call` promises
pub told_answers : {board : Board} {l m : List ℕ} {w : ℕ} {a : Answer} → CallAnswers board l w a m → (a.caller.0 ≡ caller_of board l) × (a.outcome ≡ outcome_of (call_on board l w))
told_answers h = (h.caller, h.ran.outcome)

module _ {base end : ℕ} where
  pub after_kept : {board : Board} {l : List ℕ} → Good board l → {g : Ledger} → Keeps base end g (view l).k → (ws : List ℕ) → Keeps base end (kept_on board l g ws) (view (after_all board l ws)).k
  unfolding kept_on after_all apply noted event_of outcome_of words_after caller_of
  after_kept h s [] = s
  after_kept {board} {l} h {g} s (w ∷ ws) = let (a, b) = one (call_on board l w) refl in after_kept {l = words_after l (call_on board l w)} a b ws
    where
      one : (r : Effect) → call_on board l w ≡ r
          → Good board (words_after l r) × Keeps base end (noted w (caller_of board l) (outcome_of r) (lines_named board l w) g) (view (words_after l r)).k
      one (done v x t') z =
          let (_, a, y) = served board l w h.small z in
          let q = serve_right board a (fields_in call w) y in
          (call_good board l w h.small z, rw (view_encode t' (right_fit q), (sound_means board l).1 h.sound) (serve_kept a s board (fields_in call w) y))
      one (refused why) z = (h, s)

  boot_kept : (l : List ℕ) {v x : ℕ} {t' : Table} → boot_on l base end ≡ done v x t' → Keeps base end (opening base end) t'.k
  unfolding Ends opening settle
  boot_kept l = ends (λ _ _ t'. Keeps base end (opening base end) t'.k) (boot_exact l base end) (λ _ _. record {
    base_is = refl;
    end_is = refl;
    tree = refl;
    holders = λ p m.
        let q = and_means (eq_means p 0) (and_means (le_means base m) (lt_means m end)) in
        Iff.trans q (Iff.symm (boot_holds base end p m));
  })

  -- from an accepted boot the ledger is right after any list of calls
  pub from_boot_kept : (board : Board) (l : List ℕ) {v x : ℕ} {t' : Table} → boot_on l base end ≡ done v x t' → (ws : List ℕ)
      → Keeps base end (kept_on board (encode t') (opening base end) ws) (view (after_all board (encode t') ws)).k
  from_boot_kept board l {t' = t'} z = after_kept (boot_good board l base end z) (rw (view_encode t' (right_fit (boot_right l base end z))) (boot_kept l z))
