-- In a sound table take of a block that is lent whole is never refused with InPieces: it is done. And no call of a partition changes an entry of its own that is whole.
use Rattle.std.specs.Prelude.{◌≡◌, Bool, true, false, List, ◌⊎◌, ℕ}
use Rattle.std.proofs.Math.Path.{refl}
use Rattle.std.proofs.Common.{sym, ◌∙◌, inl, inr, arith}
use Rattle.std.proofs.Math.Bool.{false≢true}
use Rattle.words.specs.Kind.{fields_in, zeroed, Zeroed}
use Rattle.words.specs.Laws.Kind.{zeroed_means}
use Rattle.words.specs.Words.{call}
use Rattle.words.specs.declared.call_word.CallFields.{CallFields}
use Rattle.shapes.specs.declared.Board.{Board}
use Rattle.tables.specs.State.{Opt, none, some, Entry, Same, Table}
use Rattle.tables.specs.View.{view}
use Rattle.tables.specs.Fitting.{Words}
use Rattle.tables.specs.Search.{lowest}
use Rattle.tables.specs.Laws.Search.{lowest_none}
use Rattle.tables.specs.Settle.{settle}
use Rattle.sound.specs.Sound.{Sound}
use Rattle.sound.specs.Clauses.{has, sound}
use Rattle.sound.specs.Laws.Canonical.{sound_canon}
use Rattle.sound.specs.Laws.Means.{eq_means, not_means}
use Rattle.sound.proofs.Laws.List.{sound_means}
use Rattle.sound.proofs.Laws.Whole.{sound_right}
use Rattle.sound.specs.Whole.{Right}
use Rattle.rules.specs.Rules.{Effect, done, refused, check, no_rights, uses, unused, region_call, known, perform, remove_k, serve, returned, take, call_on}
use Rattle.rules.specs.Laws.Calls.{call_as}
use Rattle.rules.specs.Laws.Each.{done_each, perform_at}
use Rattle.rules.specs.Laws.Ran.{pass, there}
use Rattle.isolation.specs.Lent.{LentWhole, taking}
use Rattle.isolation.specs.Ladders.{Returned}
use Rattle.isolation.specs.Laws.Fits.{right_fit}
use Rattle.isolation.specs.Laws.Ladder.{not_done}
use Rattle.isolation.specs.Laws.Two.{same_place, two_old}
use Rattle.isolation.specs.Laws.Keep.{given_child, child_other, Has}
use Rattle.isolation.specs.Laws.Written.{stays_at}
use Rattle.isolation.specs.Laws.Remove.{Goes}
use Rattle.isolation.proofs.Laws.Remove.{remove_stays}
use Rattle.isolation.proofs.Laws.Create.{create_done}
use Rattle.isolation.proofs.Laws.Delete.{delete_done}
use Rattle.isolation.proofs.Laws.Prepare.{prepare_done}
use Rattle.isolation.proofs.Laws.Collect.{collect_done}
use Rattle.isolation.proofs.Laws.Give.{give_done}
use Rattle.isolation.proofs.Laws.Take.{returned_means, take_done}
use Rattle.isolation.proofs.Laws.Cut.{cut_done}
use Rattle.isolation.proofs.Laws.Merge.{merge_plain, merge_done}
use Rattle.isolation.proofs.Laws.Regions.{load_done, unload_done, read_region_same_law}
use Rattle.isolation.specs.Laws.Find.{find_same}
use Rattle.isolation.proofs.Laws.Switch.{switch_done}
use Rattle.isolation.proofs.Laws.ClearOut.{branch_goes, clear_done}
use Rattle.isolation.proofs.Laws.Pack.{pack_lowered, pack_done}
use Rattle.words.specs.declared.Refusal.{Refusal}
use Rattle.words.specs.declared.Refusal.TheVariants.{NotSound, BadWord, NoEntry, Given, InPieces}

-- ── take ──
module _ {t : Table} (h : Right t) {s c : ℕ} (b : LentWhole t.k t.k.current s c) where
  is_given : b.e.given ≡ 0 → ⊥
  is_given z = b.other (sym b.given ∙ z)

  -- the whole entry equals a grant to its partition, and the only one with that line is the block
  whole_returned : Returned t.k b.e b.i b.f
  whole_returned =
      let w = h.core.s7_whole_law c b.i b.f b.child b.whole in
      let up : t.k.parent c ≡ t.k.current = rw b.given at (given_child h.core t.k.current s b.e b.at is_given).parent in
      let u : t.k.slot t.k.current w.i ≡ some w.f = rw up at w.at in
      let x = b.its in
      let j : w.i ≡ s = h.core.s6 t.k.current w.i s w.f b.e b.line u b.at (omega arith) b.mine in
      let d = same_place t.k.slot b.at u (refl, j) in
      record { at = rw b.given b.child; clear = w.clear; free = w.free; start = sym w.start ∙ d.start; stop = sym w.stop ∙ d.stop }

  pub take_lent : (t' : Table) × (take t s ≡ done 0 0 t')
  unfolding take
  take_lent = go (lowest 32 (returned t b.e)) refl
    where
      go : (o : Opt ℕ) → lowest 32 (returned t b.e) ≡ o → (t' : Table) × (take t s ≡ done 0 0 t')
      go none q =
          let n = lowest_none 32 (returned t b.e) q b.i ((right_fit h).slot c b.i b.f b.child).1 in
          absurd (false≢true (sym n ∙ (returned_means h s b.e b.i).1 (b.f, whole_returned)))
      go (some i) q = (_, there NoEntry _ b.e b.at (pass Given ((not_means (eq_means b.e.given 0)).1 is_given) (there InPieces _ i q refl)))

-- .. by its call word
check_refused : (why : Refusal) (b : Bool) {r : Effect} {told : Refusal} → check why b r ≡ refused told → (why ≡ told) ⊎ (r ≡ refused told)
unfolding check
check_refused why true z = inr z
check_refused why false z = inl (cc)

module _ (board : Board) (l : List ℕ) (w : ℕ) (small : Words l) where
  -- of any words and any call word
  pub take_whole : {c : ℕ} → (fields_in call w).service ≡ 6 → LentWhole (view l).k (view l).k.current (fields_in call w).slot.0 c → call_on board l w ≡ refused InPieces → ⊥
  unfolding serve check
  take_whole six b z = one (sound board l) refl (rw (call_as board l w) at z)
    where
      f : CallFields
      f = fields_in call w

      never : Sound board l → perform board (view l) f ≡ refused InPieces → ⊥
      never s y =
          let (t', x) = take_lent (sound_right (sound_canon small s) s) b in
          not_done (sym y ∙ perform_at board 6 (view l) f six ∙ x)

      apart : BadWord ≡ InPieces → ⊥
      apart y = let n : ◌≡◌ {A = ℕ} 2 14 = cc in omega arith

      three : Sound board l → (BadWord ≡ InPieces) ⊎ (perform board (view l) f ≡ refused InPieces) → ⊥
      three s (inl y) = absurd (apart y)
      three s (inr y) = never s y

      two : Sound board l → (BadWord ≡ InPieces) ⊎ (serve board (view l) f ≡ refused InPieces) → ⊥
      two s (inl y) = absurd (apart y)
      two s (inr y) = three s (check_refused BadWord (known f) y)

      one : (b : Bool) → sound board l ≡ b → check NotSound b (check BadWord (zeroed call w) (serve board (view l) f)) ≡ refused InPieces → ⊥
      one true q y = two ((sound_means board l).0 q) (check_refused BadWord (zeroed call w) y)
      one false q y = let n : ◌≡◌ {A = ℕ} 1 14 = cc in omega arith

  -- .. and its own call word is done
  pub take_whole_done : {s c : ℕ} → Sound board l → Zeroed call w → fields_in call w ≡ taking s → LentWhole (view l).k (view l).k.current s c
      → (t' : Table) × (call_on board l w ≡ done 0 0 t')
  unfolding serve known has uses unused region_call no_rights
  take_whole_done {s} sd z e b =
      let (t', x) = take_lent (sound_right (sound_canon small sd) sd) b in
      (t', call_as board l w ∙ pass NotSound ((sound_means board l).1 sd) (pass BadWord ((zeroed_means call w).1 z) (rw e (pass BadWord refl (perform_at board 6 (view l) (taking s) refl ∙ x)))))

-- ── no call of a partition changes a whole entry of its own ──
module _ {t : Table} (h : Right t) {i : ℕ} {a : Entry} (u : t.k.slot t.k.current i ≡ some a) (whole : a.whole ≡ true) where
  -- what is the same entry is whole
  marked : {e : Entry} → Same a e → e.whole ≡ true
  marked d = sym d.whole ∙ whole

  free : a.given ≡ 0
  free = (h.core.s7_whole_law t.k.current i a u whole).free

  gone : {c : ℕ} {m : ℕ → Bool} → Goes t.k c m → Has (remove_k t.k c m).slot t.k.current a
  gone ok = remove_stays h.core ok t.k.current i a u ok.caller (λ z. ok.child.other (sym z ∙ free))

  pub own_stays : (board : Board) (f : CallFields) {v w : ℕ} {t' : Table} → serve board t f ≡ done v w t' → Has t'.k.slot t.k.current a
  unfolding settle
  own_stays board f z =
      let p = f.partition.0 in
      let s = f.slot.0 in
      let o = f.other in
      let l = f.line.0 in
      done_each board t f z (record {
        create = λ _ x. let (e, ok, q) = create_done h s x in rw q (i, u);
        delete = λ _ x. let (ok, q) = delete_done h p x in rw q (gone ok);
        prepare = λ _ x. let (e, ok, q) = prepare_done h p s x in rw q (i, u);
        collect = λ _ x. let (ok, q) = collect_done h p o x in rw q (i, u);
        give = λ _ x.
            let (e, ok, q) = give_done h p s f.rights f.whole x in
            rw q (stays_at ok.entry ok.slot _ _ t.k.current i a u (λ y. false≢true (sym ok.plain ∙ marked (same_place t.k.slot ok.entry.at u y))));
        take = λ _ x.
            let (j, e, g, ok, q) = take_done h s x in
            let c = given_child h.core t.k.current s e ok.at ok.given in
            rw q (
              i,
              two_old t.k.slot t.k.current s _ e.given j _ t.k.current i
                  (λ y. ok.given (sym (same_place t.k.slot ok.at u y).given ∙ free)) (λ y. child_other h.core c y.0) ∙ u,
            );
        cut = λ _ x.
            let (e, ok, q) = cut_done h s l x in
            rw q (stays_at ok.entry ok.slot _ _ t.k.current i a u (λ y. false≢true (sym ok.plain ∙ marked (same_place t.k.slot ok.entry.at u y))));
        merge = λ _ x.
            let (e, g, ok, q) = merge_done h s o x in
            let (m, n) = merge_plain h.core ok in
            rw q (
              i,
              two_old t.k.slot t.k.current s _ t.k.current o _ t.k.current i
                  (λ y. m (marked (same_place t.k.slot ok.first.at u y))) (λ y. n (marked (same_place t.k.slot ok.second.at u y))) ∙ u,
            );
        load = λ _ _ x. let (e, ok, q) = load_done board h p s o x in rw q (i, u);
        unload = λ _ _ x. let (c, _, q) = unload_done h p o x in rw q (i, u);
        read_region = λ _ x. rw (read_region_same_law h p o x) (i, u);
        find = λ _ x. rw (find_same h p l x) (i, u);
        switch = λ _ x. let (c, q) = switch_done h p x in rw q (i, u);
        clear_out = λ _ x. let (c, _, q) = clear_done h p x in rw q (gone (branch_goes h.core c));
        pack = λ _ x. let (_, _, q) = pack_done h p x in let (m, _, v) = (pack_lowered h p t.k.current).now i a u in rw q (m, v);
      })
