-- Where an area comes or goes, the records of all stay but of its owner and of those who hold its lines; these are, by the table before the call, above who has it.
use Rattle.std.specs.Prelude.{◌≡◌, refl, Bool, true, false, cond, ◌⊎◌, ℕ, ◌+◌, ◌<◌}
use Rattle.std.proofs.Common.{ap, sym, subst, ◌∙◌, true≢false, inl, inr, arith}
use Rattle.tables.specs.State.{none, some, Entry, Area, K, Table}
use Rattle.tables.specs.Update.{upd}
use Rattle.tables.specs.Laws.Update.{upd_other, row_other, upd_none}
use Rattle.tables.specs.Lines.{InA, Holds}
use Rattle.tables.specs.Laws.Stays.{Stays}
use Rattle.sound.specs.Properties.{Above, itself, higher}
use Rattle.sound.specs.Whole.{Right}
use Rattle.sound.specs.Laws.Chain.{holder_above}
use Rattle.rules.specs.Rules.{area_of, create_k, prepare_k, collect_k, remove_k}
use Rattle.rules.specs.Laws.Removed.{records_was}
use Rattle.isolation.specs.Ladders.{OwnOrChild}
use Rattle.isolation.specs.Laws.Checks.{FreeArea}
use Rattle.isolation.proofs.Laws.Create.{CreateOk}
use Rattle.isolation.proofs.Laws.Prepare.{PrepareOk}
use Rattle.isolation.proofs.Laws.Collect.{CollectOk}
use Rattle.isolation.specs.Laws.Remove.{Goes}
use Rattle.isolation.proofs.Laws.Opened.{opened_stays, came_opened}

module _ {t new : Table} (h : Right t) (g : Right new) where
  -- ── an area comes: area j of p is the entry e of the caller ──
  module _ {s p j : ℕ} {e : Entry} (f : FreeArea t.k s p j e)
      (areas : (r i : ℕ) → new.k.area r i ≡ upd t.k.area p j (some (area_of e)) r i) (slots : (r i : ℕ) → new.k.slot r i ≡ t.k.slot r i) where
    came_stays : {q : ℕ} → (q ≡ p → ⊥) → (Above t.k.parent q t.k.current → ⊥) → Stays t new q
    came_stays {q} n far = record { area = λ i. areas q i ∙ upd_other t.k.area p j (some (area_of e)) q i (λ z. n z.0); slot = slots q; opened = came_opened h g f areas slots far }

  -- create: who is not the child, and not above the caller
  pub create_spares : {s n : ℕ} {e : Entry} → CreateOk t.k s n e → new.k ≡ create_k t.k n e → {q : ℕ} → (q ≡ n → ⊥) → (Above t.k.parent q t.k.current → ⊥) → Stays t new q
  create_spares ok is = came_stays ok.area (λ r i. ap (λ (k : K). k.area r i) is) (λ r i. ap (λ (k : K). k.slot r i) is)

  -- prepare: who is not above P; the caller is P or its parent
  own_above : {p q : ℕ} → OwnOrChild t.k p → Above t.k.parent q t.k.current → Above t.k.parent q p
  own_above {q = q} (inl z) a = subst (Above t.k.parent q) (sym z) a
  own_above {q = q} (inr c) a = higher (subst (Above t.k.parent q) (sym c.parent) a)

  pub prepare_spares : {p s j : ℕ} {e : Entry} → PrepareOk t.k p s j e → new.k ≡ prepare_k t.k p j e → {q : ℕ} → (Above t.k.parent q p → ⊥) → Stays t new q
  prepare_spares ok is out =
      came_stays ok.area (λ r i. ap (λ (k : K). k.area r i) is) (λ r i. ap (λ (k : K). k.slot r i) is) (λ z. out (itself (sym z))) (λ a. out (own_above ok.who a))

  -- ── areas go ──
  -- who holds a line of an area of r is above r or its parent
  lent_above : {r j : ℕ} {a : Area} → t.k.area r j ≡ some a → ((r ≡ 0) × (j < 2) → ⊥) → {l q : ℕ} → InA l a → Holds t.k.slot q l → Above t.k.parent q r ⊎ Above t.k.parent q (t.k.parent r)
  lent_above {r} {j} v n {q = q} x u =
      let d = h.core.s8 r j _ v n in
      go d.who (holder_above h.core d.at d.free (record { from = omega (arith, d.lo, x.from); to = omega (arith, d.hi, x.to) }) u)
    where
      go : {y : ℕ} → (y ≡ t.k.parent r) ⊎ ((y ≡ r) × (0 < j)) → Above t.k.parent q y → Above t.k.parent q r ⊎ Above t.k.parent q (t.k.parent r)
      go (inl z) a = inr (subst (Above t.k.parent q) z a)
      go (inr (z, _)) a = inl (subst (Above t.k.parent q) z a)

  -- collect: who is not above P
  pub collect_spares : {p j : ℕ} → CollectOk t.k p j → new.k ≡ collect_k t.k p j → {q : ℕ} → (Above t.k.parent q p → ⊥) → Stays t new q
  collect_spares {p} {j} ok is {q} out = record {
    area = λ i. areas q i ∙ upd_other t.k.area p (1 + j) none q i (λ z. out (itself (sym z.0)));
    slot = slots;
    opened = opened_stays h g slots
        (λ r i l a x u v. upd_none t.k.area p (1 + j) r i (sym (areas r i) ∙ v))
        (λ r i l a x u v. areas r i ∙ upd_other t.k.area p (1 + j) none r i (λ z. held a x u (rw (z.0, z.1) at v)) ∙ v);
  }
    where
      areas : (r i : ℕ) → new.k.area r i ≡ upd t.k.area p (1 + j) none r i
      areas r i = ap (λ (k : K). k.area r i) is

      slots : (i : ℕ) → new.k.slot q i ≡ t.k.slot q i
      slots i = ap (λ (k : K). k.slot q i) is

      held : (a : Area) {l : ℕ} → InA l a → Holds t.k.slot q l → t.k.area p (1 + j) ≡ some a → ⊥
      held a x u v = go (lent_above v (λ z. ok.other (z.0, omega (arith, z.1))) x u)
        where
          go : Above t.k.parent q p ⊎ Above t.k.parent q (t.k.parent p) → ⊥
          go (inl a) = out a
          go (inr a) = out (higher a)

  -- removal: who stays and is not above the caller
  module _ {c : ℕ} {m : ℕ → Bool} (ok : Goes t.k c m) (is : new.k ≡ remove_k t.k c m) where
    -- above one who goes are who go, and who is above the caller
    above_gone : {q x : ℕ} → m x ≡ true → Above t.k.parent q x → (m q ≡ true) ⊎ Above t.k.parent q t.k.current
    above_gone v (itself z) = inl (ap m (sym z) ∙ v)
    above_gone {q} {x} v (higher a) = go (ok.up x v) (λ w. above_gone w a)
      where
        go : (x ≡ c) ⊎ (m (t.k.parent x) ≡ true) → (m (t.k.parent x) ≡ true → (m q ≡ true) ⊎ Above t.k.parent q t.k.current) → (m q ≡ true) ⊎ Above t.k.parent q t.k.current
        go (inl z) on = inr (subst (Above t.k.parent q) (ap t.k.parent z ∙ ok.child.parent) a)
        go (inr w) on = on w

    pub removal_spares : {q : ℕ} → m q ≡ false → (Above t.k.parent q t.k.current → ⊥) → Stays t new q
    removal_spares {q} stays out = record {
      area = λ j. areas q j ∙ rw stays refl;
      slot = slots;
      opened = opened_stays h g slots (λ r j l a x u v. (records_was m t.k.area r j (sym (areas r j) ∙ v)).0) (λ r j l a x u v. areas r j ∙ kept r j l a x u v (m r) refl);
    }
      where
        areas : (r j : ℕ) → new.k.area r j ≡ cond (m r) (λ j. none) (t.k.area r) j
        areas r j = ap (λ (k : K). k.area r j) is

        slots : (i : ℕ) → new.k.slot q i ≡ t.k.slot q i
        slots i = ap (λ (k : K). k.slot q i) is ∙ rw stays (row_other t.k.slot t.k.current _ q i (λ z. out (itself (sym z))))

        near : {x : ℕ} → m x ≡ true → Above t.k.parent q x ⊎ Above t.k.parent q (t.k.parent x) → ⊥
        near {x} v a = go (above_gone v (up a))
          where
            up : Above t.k.parent q x ⊎ Above t.k.parent q (t.k.parent x) → Above t.k.parent q x
            up (inl a) = a
            up (inr a) = higher a

            go : (m q ≡ true) ⊎ Above t.k.parent q t.k.current → ⊥
            go (inl z) = true≢false (sym z ∙ stays)
            go (inr a) = out a

        kept : (r j l : ℕ) (a : Area) → InA l a → Holds t.k.slot q l → t.k.area r j ≡ some a → (b : Bool) → m r ≡ b → cond (m r) (λ j. none) (t.k.area r) j ≡ some a
        kept r j l a x u v false z = rw z v
        kept r j l a x u v true z = absurd (near z (lent_above v (λ y. true≢false (sym z ∙ ap m y.0 ∙ ok.root)) x u))
