-- A partition whose record an accepted call leaves as it was has the same children then. All else in its two words of the sheet is of its own record.
use Rattle.std.specs.Prelude.{◌≡◌, refl, Bool, true, false, ◌⊎◌, ℕ, ◌+◌, ◌<◌}
use Rattle.std.proofs.Math.Path.{ap}
use Rattle.std.proofs.Common.{sym, subst, ◌∙◌, inl, inr, arith}
use Rattle.std.proofs.Math.Bool.{false≢true}
use Rattle.std.proofs.Math.Decide.{ℕ_discrete}
use Rattle.loops.specs.Laws.Every.{bool_ext}
use Rattle.words.specs.declared.call_word.CallFields.{CallFields}
use Rattle.shapes.specs.declared.Board.{Board}
use Rattle.tables.specs.State.{Opt, some, Entry, Area, K, Table}
use Rattle.tables.specs.Laws.State.{not_none}
use Rattle.tables.specs.Update.{upd}
use Rattle.tables.specs.Laws.Update.{upd_same, upd_other, upd1_same, upd1_other}
use Rattle.tables.specs.Search.{child}
use Rattle.tables.specs.Lines.{Clear}
use Rattle.tables.specs.Settle.{settle}
use Rattle.sound.specs.Sound.{Present}
use Rattle.sound.specs.Properties.{Child}
use Rattle.sound.specs.Whole.{Right}
use Rattle.rules.specs.Rules.{done, create_k, remove_k, remove, serve, area_of}
use Rattle.rules.specs.Laws.Each.{done_each}
use Rattle.rules.specs.Laws.Removed.{records_was}
use Rattle.isolation.specs.Laws.Checks.{is_child_means}
use Rattle.isolation.specs.Laws.Remove.{Goes}
use Rattle.isolation.proofs.Laws.Remove.{remove_right}
use Rattle.isolation.proofs.Laws.Create.{CreateOk, create_done, create_right}
use Rattle.isolation.proofs.Laws.Delete.{delete_done}
use Rattle.isolation.proofs.Laws.Prepare.{prepare_done}
use Rattle.isolation.proofs.Laws.Collect.{collect_done}
use Rattle.isolation.proofs.Laws.Give.{give_done}
use Rattle.isolation.proofs.Laws.Take.{take_done}
use Rattle.isolation.proofs.Laws.Cut.{cut_done}
use Rattle.isolation.proofs.Laws.Merge.{merge_done}
use Rattle.isolation.proofs.Laws.Regions.{load_done, unload_done, read_region_same_law}
use Rattle.isolation.specs.Laws.Find.{find_same}
use Rattle.isolation.proofs.Laws.Switch.{switch_done}
use Rattle.isolation.proofs.Laws.ClearOut.{branch_goes, clear_done}
use Rattle.isolation.proofs.Laws.Pack.{pack_done}
use Rattle.tables.specs.Laws.Stays.{Stays}

-- the children of p are as before
pub record SameChildren (k new : K) (p : ℕ) : Type 0 where
  pub to : (c : ℕ) → Child k p c → Child new p c
  pub back : (c : ℕ) → Child new p c → Child k p c

-- .. so the mask of children is
pub same_mask : {k new : K} {p : ℕ} → SameChildren k new p → (c : ℕ) → child new p c ≡ child k p c
same_mask {k} {new} {p} s c = bool_ext (child new p c) (child k p c)
    (λ q. (is_child_means k p c).1 (s.back c ((is_child_means new p c).0 q)))
    (λ q. (is_child_means new p c).1 (s.to c ((is_child_means k p c).0 q)))

-- .. where no header changes
pub heads_same : (k new : K) → ((q : ℕ) → new.parent q ≡ k.parent q) → ((q : ℕ) → new.area q 0 ≡ k.area q 0) → (p : ℕ) → SameChildren k new p
heads_same k new parent header p = record {
  to = λ c d. record { present = (d.present.0, header c ∙ d.present.1); other = d.other; parent = parent c ∙ d.parent };
  back = λ c d. record { present = (d.present.0, sym (header c) ∙ d.present.1); other = d.other; parent = sym (parent c) ∙ d.parent };
}

-- ── create: the caller's entry closes over the new header ──
module _ {t new : Table} {s n : ℕ} {e : Entry} (h : Right t) (g : Right new) (ok : CreateOk t.k s n e) (is : new.k ≡ create_k t.k n e) where
  closes : Stays t new t.k.current → ⊥
  closes same =
      let c = t.k.current in
      let at = ok.area.entry.at in
      let open-then : new.opened c s ≡ true = same.opened s ∙ (h.s9 c s e at).1 ok.area.entry.clear in
      let here : new.k.area n 0 ≡ some (area_of e) = ap (λ (k : K). k.area n 0) is ∙ upd_same t.k.area n 0 (some (area_of e)) n 0 (refl, refl) in
      let r = ok.area.long in
      (g.s9 c s e (same.slot s ∙ at)).0 open-then n 0 (area_of e) e.start here (record { from = omega arith; to = omega arith }) (record { from = omega arith; to = omega arith })

  parent_of : (q : ℕ) → (q ≡ n → ⊥) → new.k.parent q ≡ t.k.parent q
  parent_of q m = ap (λ (k : K). k.parent q) is ∙ upd1_other t.k.parent n t.k.current q m

  header_of : (q : ℕ) → (q ≡ n → ⊥) → new.k.area q 0 ≡ t.k.area q 0
  header_of q m = ap (λ (k : K). k.area q 0) is ∙ upd_other t.k.area n 0 (some (area_of e)) q 0 (λ z. m z.0)

  old : {q : ℕ} → Present t.k q → q ≡ n → ⊥
  old v z = not_none (t.k.area n 0) ok.area.absent (rw z at v.1)

  create_children : {p : ℕ} → Stays t new p → SameChildren t.k new.k p
  create_children {p} same = record {
    to = λ c d. let m = old d.present in record { present = (d.present.0, header_of c m ∙ d.present.1); other = d.other; parent = parent_of c m ∙ d.parent };
    back = λ c d. go c d (ℕ_discrete c n);
  }
    where
      go : (c : ℕ) → Child new.k p c → Dec (c ≡ n) → Child t.k p c
      go c d (yes z) =
          let up : t.k.current ≡ p = sym (ap (λ (k : K). k.parent c) is ∙ upd1_same t.k.parent n t.k.current c z) ∙ d.parent in
          absurd (closes (subst (Stays t new) (sym up) same))
      go c d (no m) = record { present = (d.present.0, sym (header_of c m) ∙ d.present.1); other = d.other; parent = sym (parent_of c m) ∙ d.parent }

-- ── removal: the entry of the caller that was the header's opens again; who goes is no longer there ──
module _ {t : Table} {c : ℕ} {m : ℕ → Bool} (h : Right t) (ok : Goes t.k c m) where
  abbrev new : Table
  new = remove t c m

  right : Right new
  right = remove_right h ok

  area_was : (q j : ℕ) (a : Area) → (remove_k t.k c m).area q j ≡ some a → (t.k.area q j ≡ some a) × (m q ≡ false)
  area_was q j a u = records_was m t.k.area q j u

  opens : Stays t new t.k.current → ⊥
  unfolding settle
  opens same =
      let (a, u) = ok.child.present in
      let d = h.core.s8 c 0 a u (λ r. ok.child.other r.0) in
      let r = h.core.s4 c 0 a u (λ r. ok.child.other r.0) in
      let at : t.k.slot t.k.current d.i ≡ some d.e = rw (← (owner d.who)) d.at in
      let clear : Clear (remove_k t.k c m).area d.e = λ q j x l v y z.
      let (w, n) = area_was q j x v in
      let (b, _) = h.core.s8_apart_law q j c 0 x a l w u y (omega (arith, d.lo, d.hi)) in
      false≢true (sym n ∙ ap m b ∙ ok.itself) in
      let open-now = (right.s9 t.k.current d.i d.e (same.slot d.i ∙ at)).1 clear in
      (h.s9 t.k.current d.i d.e at).0 (sym (same.opened d.i) ∙ open-now) c 0 a a.lo u (omega arith) (omega (arith, d.lo, d.hi))
    where
      owner : {q : ℕ} → (q ≡ t.k.parent c) ⊎ ((q ≡ c) × (0 < 0)) → q ≡ t.k.current
      owner (inl z) = z ∙ ok.child.parent
      owner (inr z) = absurd (omega (arith, z.1))

  gone : {p : ℕ} → Stays t new p → Present t.k p → m p ≡ true → ⊥
  unfolding settle
  gone {p} same (a, u) n =
      let v : (remove_k t.k c m).area p 0 ≡ some a = same.area 0 ∙ u in
      false≢true (sym (area_was p 0 a v).1 ∙ n)

  stays : {p d : ℕ} → Stays t new p → Child t.k p d → m d ≡ false
  stays {p} {d} same k = go (m d) refl
    where
      no : (d ≡ c) ⊎ (m (t.k.parent d) ≡ true) → ⊥
      no (inl z) = opens (subst (Stays t new) (sym k.parent ∙ ap t.k.parent z ∙ ok.child.parent) same)
      no (inr w) = gone same (subst (Present t.k) k.parent (h.core.s2_up d k.present)) (ap m (sym k.parent) ∙ w)

      go : (b : Bool) → m d ≡ b → b ≡ false
      go true z = absurd (no (ok.up d z))
      go false z = refl

  remove_children : {p : ℕ} → Stays t new p → SameChildren t.k new.k p
  unfolding settle
  remove_children {p} same = record {
    to = λ d k. let n = stays same k in record { present = (k.present.0, rw n k.present.1); other = k.other; parent = rw n k.parent };
    back = λ d k. let (u, n) = area_was d 0 k.present.0 k.present.1 in record { present = (k.present.0, u); other = k.other; parent = rw n at k.parent };
  }

-- ── any service ──
module _ (b : Board) {t : Table} (h : Right t) where
  settled_children : {new : K} (k : K) {p : ℕ} → new ≡ k → ((q : ℕ) → k.parent q ≡ t.k.parent q) → ((q : ℕ) → k.area q 0 ≡ t.k.area q 0) → SameChildren t.k new p
  settled_children {new} k {p = p} z parent header = rw z (heads_same t.k k parent header p)

  structure_header : (q j : ℕ) (x : Opt Area) (p : ℕ) → upd t.k.area q (1 + j) x p 0 ≡ t.k.area p 0
  structure_header q j x p = upd_other t.k.area q (1 + j) x p 0 (λ z. omega (arith, z.1))

  same_children : {new : Table} {p : ℕ} → new ≡ t → SameChildren t.k new.k p
  same_children {p = p} z = rw z (heads_same t.k t.k (λ q. refl) (λ q. refl) p)

  -- whose record stays keeps its children
  pub serve_children : (f : CallFields) {v w : ℕ} {new : Table} {p : ℕ} → serve b t f ≡ done v w new → Stays t new p → SameChildren t.k new.k p
  unfolding settle
  serve_children f {new = new} {p} z same =
      let q = f.partition.0 in
      let i = f.slot.0 in
      let u = f.other in
      let l = f.line.0 in
      done_each b t f z (record {
        create = λ _ x. let (e, ok, y) = create_done h i x in create_children h (create_right h i x) ok (ap (λ (t : Table). t.k) y) same;
        delete = λ _ x. let (ok, y) = delete_done h q x in rw y (remove_children h ok (rw y at same));
        prepare = λ _ x. let (e, ok, y) = prepare_done h q i x in settled_children _ (ap (λ (t : Table). t.k) y) (λ _. refl) (structure_header q _ _);
        collect = λ _ x. let (ok, y) = collect_done h q u x in settled_children _ (ap (λ (t : Table). t.k) y) (λ _. refl) (structure_header q _ _);
        give = λ _ x. let (e, ok, y) = give_done h q i f.rights f.whole x in settled_children _ (ap (λ (t : Table). t.k) y) (λ _. refl) (λ _. refl);
        take = λ _ x. let (j, e, g, ok, y) = take_done h i x in settled_children _ (ap (λ (t : Table). t.k) y) (λ _. refl) (λ _. refl);
        cut = λ _ x. let (e, ok, y) = cut_done h i l x in settled_children _ (ap (λ (t : Table). t.k) y) (λ _. refl) (λ _. refl);
        merge = λ _ x. let (e, g, ok, y) = merge_done h i u x in settled_children _ (ap (λ (t : Table). t.k) y) (λ _. refl) (λ _. refl);
        load = λ _ _ x. let (e, ok, y) = load_done b h q i u x in settled_children _ (ap (λ (t : Table). t.k) y) (λ _. refl) (λ _. refl);
        unload = λ _ _ x. let (c, _, y) = unload_done h q u x in settled_children _ (ap (λ (t : Table). t.k) y) (λ _. refl) (λ _. refl);
        read_region = λ _ x. same_children (read_region_same_law h q u x);
        find = λ _ x. same_children (find_same h q l x);
        switch = λ _ x. let (c, y) = switch_done h q x in settled_children _ (ap (λ (t : Table). t.k) y) (λ _. refl) (λ _. refl);
        clear_out = λ _ x. let (c, _, y) = clear_done h q x in let ok = branch_goes h.core c in rw y (remove_children h ok (rw y at same));
        pack = λ _ x. let (c, _, y) = pack_done h q x in settled_children _ (ap (λ (t : Table). t.k) y) (λ _. refl) (λ _. refl);
      })
