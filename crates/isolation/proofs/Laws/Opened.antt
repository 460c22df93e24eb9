-- Where an area comes, who is not above the caller is as open as before.
use Rattle.std.specs.Prelude.{◌≡◌, refl, ◌⊎◌, ℕ}
use Rattle.std.proofs.Common.{sym, ◌∙◌, inl, inr, arith}
use Rattle.loops.specs.Laws.Every.{bool_ext}
use Rattle.tables.specs.State.{Opt, none, some, Entry, Area, Table}
use Rattle.tables.specs.Laws.State.{some_inj, same_a}
use Rattle.tables.specs.Update.{upd}
use Rattle.tables.specs.Laws.Update.{upd_from}
use Rattle.tables.specs.Lines.{InA, Holds}
use Rattle.sound.specs.Properties.{Above}
use Rattle.sound.specs.Whole.{Right}
use Rattle.sound.specs.Laws.Chain.{holder_above}
use Rattle.rules.specs.Rules.{area_of}
use Rattle.isolation.specs.Laws.Checks.{FreeArea}
use Rattle.isolation.proofs.Laws.NewArea.{area_stays}

module _ {t new : Table} (h : Right t) (g : Right new) where
  -- the same entries, and of the areas with a line of them none came and none went
  pub opened_stays : {q : ℕ} → ((i : ℕ) → new.k.slot q i ≡ t.k.slot q i)
      → ((r j l : ℕ) (a : Area) → InA l a → Holds t.k.slot q l → new.k.area r j ≡ some a → t.k.area r j ≡ some a)
      → ((r j l : ℕ) (a : Area) → InA l a → Holds t.k.slot q l → t.k.area r j ≡ some a → new.k.area r j ≡ some a)
      → (i : ℕ) → new.opened q i ≡ t.opened q i
  opened_stays {q} slot came went i = go (t.k.slot q i) refl
    where
      go : (o : Opt Entry) → t.k.slot q i ≡ o → new.opened q i ≡ t.opened q i
      go none u = g.closed q i (slot i ∙ u) ∙ sym (h.closed q i u)
      go (some e) u =
          let v = slot i ∙ u in
          bool_ext (new.opened q i) (t.opened q i)
          (λ w. (h.s9 q i e u).1 (λ r j a l x y z. (g.s9 q i e v).0 w r j a l (went r j l a y (record { i = i; e = e; at = u; holds = z }) x) y z))
          (λ w. (g.s9 q i e v).1 (λ r j a l x y z. (h.s9 q i e u).0 w r j a l (came r j l a y (record { i = i; e = e; at = u; holds = z }) x) y z))

  -- ── an area comes: area j of p is the entry e of the caller ──
  module _ {s p j : ℕ} {e : Entry} (f : FreeArea t.k s p j e)
      (areas : (r i : ℕ) → new.k.area r i ≡ upd t.k.area p j (some (area_of e)) r i) (slots : (r i : ℕ) → new.k.slot r i ≡ t.k.slot r i) where
    -- who is not above the caller is as open as before
    pub came_opened : {q : ℕ} → (Above t.k.parent q t.k.current → ⊥) → (i : ℕ) → new.opened q i ≡ t.opened q i
    came_opened {q} far = opened_stays (slots q)
        (λ r i l a x u v. was r i l a x u (upd_from t.k.area p j (some (area_of e)) r i (sym (areas r i) ∙ v)))
        (λ r i l a x u v. areas r i ∙ area_stays f r i a v)
      where
        was : (r i l : ℕ) (a : Area) → InA l a → Holds t.k.slot q l → ((r ≡ p) × (i ≡ j) × (some (area_of e) ≡ some a)) ⊎ (((r ≡ p) × (i ≡ j) → ⊥) × (t.k.area r i ≡ some a)) → t.k.area r i ≡ some a
        was r i l a x u (inl (_, _, z)) =
            let w = same_a (some_inj z) in
            absurd (far (holder_above h.core f.entry.at f.entry.free (record { from = omega (arith, w.lo, x.from); to = omega (arith, w.hi, x.to) }) u))
        was r i l a x u (inr (_, v)) = v
