-- Each service, called in the branch of b, leaves what is outside it.
use Rattle.std.specs.Prelude.{◌≡◌, refl, Bool, true, false, cond, ◌||◌, ◌⊎◌, ℕ, ◌+◌, eqb}
use Rattle.std.proofs.Math.Path.{ap}
use Rattle.std.proofs.Common.{sym, subst, ◌∙◌, inl, inr, arith}
use Rattle.std.proofs.lemmas.Bool.{false≢true}
use Rattle.std.proofs.Math.Decide.{ℕ_discrete}
use Rattle.loops.specs.Loops.{Reaches, at_root, by_step}
use Rattle.words.specs.declared.call_word.CallFields.{CallFields}
use Rattle.shapes.specs.declared.Board.{Board}
use Rattle.tables.specs.State.{Opt, none, some, Entry, Area, nowhere, K, Table}
use Rattle.tables.specs.Laws.State.{not_none}
use Rattle.tables.specs.Update.{upd, upd1}
use Rattle.tables.specs.Laws.Update.{upd_other, upd1_same, upd1_other, row_other}
use Rattle.tables.specs.Write.{with_slot, with_area, with_current}
use Rattle.tables.specs.Settle.{open_at, keep, settle}
use Rattle.sound.specs.Sound.{Present}
use Rattle.sound.specs.Properties.{Child}
use Rattle.sound.specs.Whole.{Right}
use Rattle.rules.specs.Branch.{Under, itself as is-top, below}
use Rattle.rules.specs.Rules.{done, area_of, create_k, remove_k, remove, unloaded, serve}
use Rattle.rules.specs.Laws.Each.{done_each}
use Rattle.isolation.specs.Laws.Settled.{right_same}
use Rattle.isolation.specs.Ladders.{OwnOrChild}
use Rattle.isolation.specs.Laws.Keep.{given_child}
use Rattle.isolation.specs.Laws.Remove.{Goes}
use Rattle.isolation.proofs.Laws.Create.{create_done}
use Rattle.isolation.proofs.Laws.Delete.{delete_done}
use Rattle.isolation.proofs.Laws.Prepare.{prepare_done}
use Rattle.isolation.proofs.Laws.Collect.{collect_done}
use Rattle.isolation.proofs.Laws.Give.{give_done}
use Rattle.isolation.proofs.Laws.Take.{take_done}
use Rattle.isolation.proofs.Laws.Cut.{cut_done}
use Rattle.isolation.proofs.Laws.Merge.{merge_done}
use Rattle.isolation.proofs.Laws.Regions.{load_done, unload_done, read_region_same_law}
use Rattle.isolation.specs.Laws.Find.{find_same}
use Rattle.isolation.proofs.Laws.Switch.{switch_done}
use Rattle.isolation.proofs.Laws.ClearOut.{branch_goes, clear_done}
use Rattle.isolation.proofs.Laws.Pack.{pack_done}
use Rattle.untouched.specs.Untouched.{Outside}
use Rattle.untouched.proofs.Laws.Frame.{Alike, Frame}

-- of a call that is done: what is outside stays, and of its regions those go that name a slot that is closed then
pub record Step (b : ℕ) (t new : Table) : Type 0 where
  pub frame : Frame b t.k new.k
  pub regions : (p r : ℕ) → Outside t.k b p → new.region p r ≡ keep (new.opened p) (t.region p r)

module _ {b : ℕ} {t : Table} (h : Right t) (home : Present t.k b) (inside : Under t.k.parent b t.k.current) where
  abbrev k : K
  k = t.k

  -- ── who is in the branch ──
  child_in : {q : ℕ} → Child k k.current q → Under k.parent b q
  child_in c = below c.other (subst (Under k.parent b) (sym c.parent) inside)

  own_in : {q : ℕ} → OwnOrChild k q → Under k.parent b q
  own_in (inl z) = subst (Under k.parent b) (sym z) inside
  own_in (inr c) = child_in c

  not_in : {p q : ℕ} → Under k.parent b q → Outside k b p → p ≡ q → ⊥
  not_in u o z = o.out (subst (Under k.parent b) (sym z) u)

  -- ── kinds of change ──
  settled_step : {new : K} {region : ℕ → ℕ → Opt ℕ} → Frame b k new → ((p r : ℕ) → Outside k b p → region p r ≡ t.region p r) → Step b t (settle new region)
  unfolding settle
  settled_step {new} f g = record { frame = f; regions = λ p r o. ap (keep (open_at new p)) (g p r o) }

  same : {p : ℕ} → Alike k k p
  same = record { parent = refl; area = λ j. refl; slot = λ i. refl }

  slots_frame : {new : ℕ → ℕ → Opt Entry} → ((p i : ℕ) → Outside k b p → new p i ≡ k.slot p i) → Frame b k (with_slot k new)
  slots_frame g = record {
    alike = λ p o. record { parent = refl; area = λ j. refl; slot = λ i. g p i o };
    stays = home;
    tree = λ q v. inl (v, refl);
  }

  -- slot s of the caller and slot n of q, who is in the branch
  two_frame : {q : ℕ} (s n : ℕ) (x y : Opt Entry) → Under k.parent b q → Frame b k (with_slot k (upd (upd k.slot k.current s x) q n y))
  two_frame {q} s n x y u = slots_frame (λ p i o.
      upd_other (upd k.slot k.current s x) q n y p i (λ z. not_in u o z.0)
      ∙ upd_other k.slot k.current s x p i (λ z. not_in inside o z.0))

  -- structure j of q, who is in the branch
  area_frame : {q : ℕ} (j : ℕ) (x : Opt Area) → Under k.parent b q → Frame b k (with_area k k.parent (upd k.area q (1 + j) x))
  area_frame {q} j x u = record {
    alike = λ p o. record { parent = refl; area = λ i. upd_other k.area q (1 + j) x p i (λ z. not_in u o z.0); slot = λ i. refl };
    stays = (home.0, header b ∙ home.1);
    tree = λ p v. inl ((v.0, sym (header p) ∙ v.1), refl);
  }
    where
      header : (p : ℕ) → upd k.area q (1 + j) x p 0 ≡ k.area p 0
      header p = upd_other k.area q (1 + j) x p 0 (λ z. omega (arith, z.1))

  -- a new child n of the caller
  create_frame : {n : ℕ} (e : Entry) → k.area n 0 ≡ none → Frame b k (create_k k n e)
  create_frame {n} e absent = record {
    alike = λ p o. record {
      parent = upd1_other k.parent n k.current p (λ z. old p o.present z);
      area = λ j. upd_other k.area n 0 (some (area_of e)) p j (λ z. old p o.present z.0);
      slot = λ i. refl;
    };
    stays = (home.0, was b (old b home) ∙ home.1);
    tree = λ q v. go q v (ℕ_discrete q n);
  }
    where
      old : (p : ℕ) → Present k p → p ≡ n → ⊥
      old p v z = not_none (k.area n 0) absent (rw z at v.1)

      was : (q : ℕ) → (q ≡ n → ⊥) → upd k.area n 0 (some (area_of e)) q 0 ≡ k.area q 0
      was q m = upd_other k.area n 0 (some (area_of e)) q 0 (λ z. m z.0)

      -- the way from the caller up to b has no new one
      way : {x : ℕ} → Present k x → Under k.parent b x → Under (upd1 k.parent n k.current) b x
      way v (is-top z) = is-top z
      way {x} v (below m u) = below m (rw (upd1_other k.parent n k.current x (old x v)) (way (h.core.s2_up x v) u))

      go : (q : ℕ) → Present (create_k k n e) q → Dec (q ≡ n)
          → (Present k q × ((create_k k n e).parent q ≡ k.parent q)) ⊎ ((k.area q 0 ≡ none) × Under (create_k k n e).parent b q)
      go q v (yes z) = inr (rw z absent, new q z (ℕ_discrete n 0))
        where
          new : (q : ℕ) → q ≡ n → Dec (n ≡ 0) → Under (upd1 k.parent n k.current) b q
          new q z (yes y) = not_none {a = nowhere} (k.area n 0) absent (rw y h.core.s2_root_law.0)
          new q z (no y) = below (λ w. y (sym z ∙ w)) (rw (upd1_same k.parent n k.current q z) (way h.core.s1_current inside))
      go q v (no z) = inl ((v.0, sym (was q z) ∙ v.1), upd1_other k.parent n k.current q z)

  -- a child of the caller with all that hang on it goes
  module _ {c : ℕ} {m : ℕ → Bool} (ok : Goes k c m) where
    -- who goes is in the branch
    gone : {n p : ℕ} → Reaches k.parent n p → m p ≡ true → Under k.parent b p
    gone {p = p} (at_root z) q = absurd (false≢true (sym ok.root ∙ ap m (sym z) ∙ q))
    gone {p = p} (by_step r) q = go (ℕ_discrete p 0) (ok.up p q) (gone r)
      where
        go : Dec (p ≡ 0) → (p ≡ c) ⊎ (m (k.parent p) ≡ true) → (m (k.parent p) ≡ true → Under k.parent b (k.parent p)) → Under k.parent b p
        go (yes z) _ ih = absurd (false≢true (sym ok.root ∙ ap m (sym z) ∙ q))
        go (no n) (inl e) ih = rw e (child_in ok.child)
        go (no n) (inr w) ih = below n (ih w)

    left : {p : ℕ} → Outside k b p → m p ≡ false
    left {p} o = go (m p) refl
      where
        go : (x : Bool) → m p ≡ x → x ≡ false
        go true q = absurd (o.out (gone (h.core.s2_climb p o.present) q))
        go false q = refl

    -- b is no member: with it the caller would go
    down : {x : ℕ} → Present k x → Under k.parent b x → m b ≡ true → m x ≡ true
    down v (is-top z) q = ap m z ∙ q
    down {x} v (below n u) q = ok.down (k.parent x) x (record { present = v; other = n; parent = refl }) (down (h.core.s2_up x v) u q)

    home_left : m b ≡ false
    home_left = go (m b) refl
      where
        go : (x : Bool) → m b ≡ x → x ≡ false
        go true q = absurd (false≢true (sym ok.caller ∙ down h.core.s1_current inside q))
        go false q = refl

    remove_frame : Frame b k (remove_k k c m)
    remove_frame = record {
      alike = λ p o. let n = left o in record {
        parent = rw n refl;
        area = λ j. rw n refl;
        slot = λ i. rw n (row_other k.slot k.current _ p i (λ z. not_in inside o z));
      };
      stays = (home.0, rw home_left home.1);
      tree = λ q v. inl (was q v.0 (m q) refl v.1);
    }
      where
        was : (q : ℕ) (a : Area) (x : Bool) → m q ≡ x → cond x (λ j. none) (k.area q) 0 ≡ some a → Present k q × (cond (m q) 0 (k.parent q) ≡ k.parent q)
        was q a true n u = not_none none refl u
        was q a false n u = ((a, u), rw n refl)

  remove_step : {c : ℕ} {m : ℕ → Bool} → Goes k c m → Step b t (remove t c m)
  remove_step ok = settled_step (remove_frame ok) (λ p r o. rw (left ok o) refl)

  -- ── the services ──
  region_step : {p : ℕ} (r : ℕ) (x : Opt ℕ) → OwnOrChild k p → Step b t (settle k (upd t.region p r x))
  region_step {p} r x c = settled_step (record { alike = λ q o. same; stays = home; tree = λ q v. inl (v, refl) })
      (λ q i o. upd_other t.region p r x q i (λ z. not_in (own_in c) o z.0))

  -- the slots and regions of p
  row_step : {p : ℕ} (slot : ℕ → Opt Entry) (region : ℕ → Opt ℕ) → OwnOrChild k p → Step b t (settle (with_slot k (upd1 k.slot p slot)) (upd1 t.region p region))
  row_step {p} slot region c = settled_step (slots_frame (λ q i o. row_other k.slot p slot q i (not_in (own_in c) o)))
      (λ q r o. row_other t.region p region q r (not_in (own_in c) o))

  -- what is unloaded is the caller's
  unloads : (m : ℕ → Bool) (p r : ℕ) → Outside k b p → unloaded t.region k.current m p r ≡ t.region p r
  unloads m p r o = row_other t.region k.current _ p r (λ z. not_in inside o z)

  current_frame : (p : ℕ) → Frame b k (with_current k p)
  current_frame p = record { alike = λ q o. record { parent = refl; area = λ j. refl; slot = λ i. refl }; stays = home; tree = λ q v. inl (v, refl) }

  same_step : {new : Table} → new ≡ t → Step b t new
  same_step {new} z =
      let s = settled_step {new = k} {region = t.region} (record { alike = λ q o. same; stays = home; tree = λ q v. inl (v, refl) }) (λ p r o. refl) in
      rw (z ∙ sym (right_same h)) s

  pub serve_step : (board : Board) (f : CallFields) {v w : ℕ} {new : Table} → serve board t f ≡ done v w new → Step b t new
  serve_step board f z =
      let p = f.partition.0 in
      let i = f.slot.0 in
      let u = f.other in
      let l = f.line.0 in
      done_each board t f z (record {
        create = λ _ x. let (e, ok, q) = create_done h i x in rw q (settled_step (create_frame e ok.area.absent) (λ p r o. refl));
        delete = λ _ x. let (ok, q) = delete_done h p x in rw q (remove_step ok);
        prepare = λ _ x. let (e, ok, q) = prepare_done h p i x in rw q (settled_step (area_frame _ _ (own_in ok.who)) (λ p r o. refl));
        collect = λ _ x. let (ok, q) = collect_done h p u x in rw q (settled_step (area_frame _ _ (own_in ok.who)) (λ p r o. refl));
        give = λ _ x. let (e, ok, q) = give_done h p i f.rights f.whole x in rw q (settled_step (two_frame _ _ _ _ (child_in ok.child)) (λ p r o. refl));
        take = λ _ x. let (j, e, g, ok, q) = take_done h i x in rw q (settled_step (two_frame _ _ _ _ (child_in (given_child h.core k.current i e ok.at ok.given))) (λ p r o. refl));
        cut = λ _ x. let (e, ok, q) = cut_done h i l x in rw q (settled_step (two_frame _ _ _ _ inside) (unloads (λ j. eqb j i)));
        merge = λ _ x. let (e, g, ok, q) = merge_done h i u x in rw q (settled_step (two_frame _ _ _ _ inside) (unloads (λ j. eqb j i || eqb j u)));
        load = λ _ _ x. let (e, ok, q) = load_done board h p i u x in rw q (region_step _ _ ok.who);
        unload = λ _ _ x. let (c, _, q) = unload_done h p u x in rw q (region_step _ _ c);
        read_region = λ _ x. same_step (read_region_same_law h p u x);
        find = λ _ x. same_step (find_same h p l x);
        switch = λ _ x. let (c, q) = switch_done h p x in rw q (settled_step (current_frame p) (λ p r o. refl));
        clear_out = λ _ x. let (c, _, q) = clear_done h p x in rw q (remove_step (branch_goes h.core c));
        pack = λ _ x. let (c, _, q) = pack_done h p x in rw q (row_step _ _ c);
      })
