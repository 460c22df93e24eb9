-- Of whoever is not above the one that has an area as an entry, nothing is left to settle when it comes or goes: the mask of the way up will do.
use Rattle.std.specs.Prelude.{◌≡◌, refl, Bool, true, false, cond, List, ℕ, ◌<◌}
use Rattle.std.proofs.Math.Path.{ap}
use Rattle.std.proofs.Common.{sym, subst, ◌∙◌}
use Rattle.tables.specs.State.{Table}
use Rattle.tables.specs.View.{view}
use Rattle.tables.specs.Encode.{Is}
use Rattle.tables.specs.Settle.{open_bit, open_at, settle, settled}
use Rattle.settling.specs.Settled.{FixedBut}
use Rattle.sound.specs.Properties.{Above}
use Rattle.sound.specs.Whole.{Right}
use Rattle.rules.specs.Rules.{done, create, prepare, collect}
use Rattle.rules.specs.Changes.{up_from}
use Rattle.rules.specs.Laws.Changes.{up_small, up_names}
use Rattle.isolation.specs.Laws.Above.{above_not}
use Rattle.isolation.proofs.Laws.Create.{create_done, create_right}
use Rattle.isolation.proofs.Laws.Prepare.{prepare_done, prepare_right}
use Rattle.isolation.proofs.Laws.Collect.{collect_done, collect_right}
use Rattle.isolation.specs.Laws.Remove.{Goes}
use Rattle.isolation.proofs.Laws.Remove.{remove_right}
use Rattle.isolation.proofs.Laws.Spares.{collect_spares, removal_spares}
use Rattle.isolation.proofs.Laws.Opened.{came_opened}
use Rattle.services.specs.DeleteExits.{ungiven}
use Rattle.services.specs.Zeroed.{zero_records}

outside : {up : ℕ → ℕ} {c p q : ℕ} → c ≡ p → (Above up q p → ⊥) → Above up q c → ⊥
outside {up} {q = q} now far a = far (subst (Above up q) now a)

-- p and all above it are named: of the others each open bit is that of S9
module _ (l : List ℕ) {m : List ℕ} (h : Right (view l)) {p mask : ℕ} (small : p < 16) (told : mask ≡ up_from (view l).k p) {t : Table} (was : Is m t) where
  fixed_but : ((q i : ℕ) → (Above (view l).k.parent q p → ⊥) → open_at t.k q i ≡ t.opened q i) → FixedBut mask m
  fixed_but others = rw told (record {
    small = up_small (view l).k p;
    at = λ q i b z. subst (λ (t : Table). open_at t.k q i ≡ t.opened q i) (sym was.viewed) (others q i (above_not h.core small (sym (up_names (view l).k p q b) ∙ z)));
  })

  -- ── what was open is open still, until it is settled ──
  module _ (opened : (q i : ℕ) → (view l).opened q i ≡ t.opened q i) where
    -- an entry of p, the caller, becomes an area
    module _ (now : (view l).k.current ≡ p) where
      pub fixed_create : (s : ℕ) {v w : ℕ} → create (view l) s ≡ done v w (settled t) → FixedBut mask m
      unfolding settle
      fixed_create s x =
          let (e, ok, z) = create_done h s x in
          fixed_but (λ q i far. came_opened h (create_right h s x) ok.area (λ r j. ap (λ (t : Table). t.k.area r j) z) (λ r j. ap (λ (t : Table). t.k.slot r j) z) (outside now far) i ∙ opened q i)

      pub fixed_prepare : (r s : ℕ) {v w : ℕ} → prepare (view l) r s ≡ done v w (settled t) → FixedBut mask m
      unfolding settle
      fixed_prepare r s x =
          let (e, ok, z) = prepare_done h r s x in
          fixed_but (λ q i far. came_opened h (prepare_right h r s x) ok.area (λ r j. ap (λ (t : Table). t.k.area r j) z) (λ r j. ap (λ (t : Table). t.k.slot r j) z) (outside now far) i ∙ opened q i)

    -- a structure of p goes
    pub fixed_collect : (j : ℕ) {v w : ℕ} → collect (view l) p j ≡ done v w (settled t) → FixedBut mask m
    unfolding settle
    fixed_collect j x =
        let (ok, z) = collect_done h p j x in
        fixed_but (λ q i far. (collect_spares h (collect_right h p j x) ok (ap (λ (t : Table). t.k) z) far).opened i ∙ opened q i)

-- partitions below p, the caller, go
pub fixed_removed : (l : List ℕ) {m : List ℕ} → Right (view l) → {p mask : ℕ} → p < 16 → mask ≡ up_from (view l).k p → (view l).k.current ≡ p
    → {r : ℕ} {gone : ℕ → Bool} → Goes (view l).k r gone → Is m (zero_records (ungiven (view l) (view l).k.current r) gone) → FixedBut mask m
unfolding settle open_at open_bit
fixed_removed l h {p} small told now {r} {gone} ok was = fixed_but l h small told was (λ q i far. go q i far (gone q) refl)
  where
    go : (q i : ℕ) → (Above (view l).k.parent q p → ⊥) → (b : Bool) → gone q ≡ b → open_at (zero_records (ungiven (view l) (view l).k.current r) gone).k q i ≡ cond (gone q) (λ i. false) ((view l).opened q) i
    go q i far true z = rw z refl
    go q i far false z = (removal_spares h (remove_right h ok) ok refl z (outside now far)).opened i ∙ rw z refl
