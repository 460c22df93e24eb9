-- Where an area comes or goes, the records of all stay but of its owner and of those who hold its lines; these are above who has it as an entry.
use Rattle.std.specs.Prelude.{◌≡◌, refl, Bool, true, false, ℕ}
use Rattle.std.proofs.Common.{ap, sym, subst, ◌∙◌}
use Rattle.tables.specs.State.{none, Entry, K, Table}
use Rattle.tables.specs.Laws.State.{not_none}
use Rattle.tables.specs.Laws.Update.{upd1_same, upd1_other}
use Rattle.tables.specs.Laws.Stays.{Stays}
use Rattle.sound.specs.Properties.{Above, itself, higher}
use Rattle.sound.specs.Whole.{Right}
use Rattle.rules.specs.Rules.{create_k, prepare_k, collect_k, remove_k}
use Rattle.isolation.proofs.Laws.Create.{CreateOk}
use Rattle.isolation.proofs.Laws.Prepare.{PrepareOk}
use Rattle.isolation.proofs.Laws.Collect.{CollectOk}
use Rattle.isolation.specs.Laws.Remove.{Goes}
use Rattle.isolation.proofs.Laws.Remove.{Remains, parent_remains}
use Rattle.sound.specs.Sound.{Present}
use Rattle.isolation.proofs.Laws.Spares.{create_spares, prepare_spares, collect_spares, removal_spares}

-- q is above x by other parents, too, that are the same on the way
way_same : {up now : ℕ → ℕ} (P : ℕ → Type 0) → ((x : ℕ) → P x → now x ≡ up x) → ((x : ℕ) → P x → P (up x)) → {q x : ℕ} → P x → Above up q x → Above now q x
way_same P same on v (itself z) = itself z
way_same {now = now} P same on {q} {x} v (higher a) = higher (subst (Above now q) (sym (same x v)) (way_same P same on (on x v) a))

-- ── by the table after the call ──
module _ {t new : Table} (h : Right t) (g : Right new) where
  -- create: who is not above the child
  pub create_stays : {s n : ℕ} {e : Entry} → CreateOk t.k s n e → new.k ≡ create_k t.k n e → {q : ℕ} → (Above new.k.parent q n → ⊥) → Stays t new q
  create_stays {n = n} ok is {q} far = create_spares h g ok is (λ z. far (itself (sym z)))
      (λ a. far (higher (subst (Above new.k.parent q) (sym child) (way_same (Present t.k) old h.core.s2_up h.core.s1_current a))))
    where
      child : new.k.parent n ≡ t.k.current
      child = ap (λ (k : K). k.parent n) is ∙ upd1_same t.k.parent n t.k.current n refl

      old : (x : ℕ) → Present t.k x → new.k.parent x ≡ t.k.parent x
      old x v = ap (λ (k : K). k.parent x) is ∙ upd1_other t.k.parent n t.k.current x (λ z. not_none (t.k.area n 0) ok.area.absent (rw z at v.1))

  -- prepare: who is not above P
  pub prepare_stays : {p s j : ℕ} {e : Entry} → PrepareOk t.k p s j e → new.k ≡ prepare_k t.k p j e → {q : ℕ} → (Above new.k.parent q p → ⊥) → Stays t new q
  prepare_stays ok is far = prepare_spares h g ok is (λ a. far (rw is a))

  -- collect: who is not above P
  pub collect_stays : {p j : ℕ} → CollectOk t.k p j → new.k ≡ collect_k t.k p j → {q : ℕ} → (Above new.k.parent q p → ⊥) → Stays t new q
  collect_stays ok is far = collect_spares h g ok is (λ a. far (rw is a))

  -- removal: who is there and is not above the caller
  module _ {c : ℕ} {m : ℕ → Bool} (ok : Goes t.k c m) (is : new.k ≡ remove_k t.k c m) where
    pub removal_stays : {q : ℕ} → Present new.k q → (Above new.k.parent q t.k.current → ⊥) → Stays t new q
    removal_stays {q} here far = removal_spares h g ok is stays
        (λ a. far (way_same (Remains t.k m) (λ x v. ap (λ (k : K). k.parent x) is ∙ rw v.1 refl) (parent_remains h.core ok) (h.core.s1_current, ok.caller) a))
      where
        stays : m q ≡ false
        stays = go (m q) refl
          where
            go : (b : Bool) → m q ≡ b → b ≡ false
            go false z = refl
            go true z = not_none none refl (rw z at (sym (ap (λ (k : K). k.area q 0) is) ∙ here.1))
