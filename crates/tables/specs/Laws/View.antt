-- What a table has stands within 16 partitions of 32 slots, 5 areas and 8 regions.
use Rattle.std.specs.Prelude.{◌≡◌, refl, Bool, true, false, cond, List, ltb, ℕ, ◌<◌}
use Rattle.std.proofs.Common.{ltb-true, lt-ltb}
use Rattle.tables.specs.State.{Opt, none, some, Entry, Area}
use Rattle.tables.specs.Laws.State.{not_none}
use Rattle.tables.specs.View.{entry_in, slot_at, area_at, region_at, inside, view_k, view}

-- ── laws of inside ──
pub inside_in : {A : Type 0} (z : A) (n m : ℕ) (f : ℕ → ℕ → A) (p i : ℕ) → p < n → i < m → inside z n m f p i ≡ f p i
unfolding inside
inside_in z n m f p i a b = rw (lt-ltb p n a, lt-ltb i m b) refl

-- where the table has z, and outside, stands z
pub inside_none : {A : Type 0} (z : A) (n m : ℕ) (f : ℕ → ℕ → A) (p i : ℕ) → (p < n → i < m → f p i ≡ z) → inside z n m f p i ≡ z
unfolding inside
inside_none z n m f p i h = go (ltb p n) (ltb i m) refl refl
  where
    go : (x y : Bool) → ltb p n ≡ x → ltb i m ≡ y → cond x (cond y (f p i) z) z ≡ z
    go true true a b = h (ltb-true p n a) (ltb-true i m b)
    go true false a b = refl
    go false y a b = refl

pub inside_some : {A : Type 0} (n m : ℕ) (f : ℕ → ℕ → Opt A) (p i : ℕ) (a : A) → inside none n m f p i ≡ some a → (p < n) × (i < m) × (f p i ≡ some a)
unfolding inside
inside_some n m f p i a q = go (ltb p n) (ltb i m) refl refl q
  where
    go : (x y : Bool) → ltb p n ≡ x → ltb i m ≡ y → cond x (cond y (f p i) none) none ≡ some a → (p < n) × (i < m) × (f p i ≡ some a)
    go true true u v z = (ltb-true p n u, ltb-true i m v, z)
    go true false u v z = not_none none refl z
    go false y u v z = not_none none refl z

-- ── what is there stands within 16 by 32, 5 or 8 ──
module _ (l : List ℕ) where
  pub slot_bounds : (p i : ℕ) (e : Entry) → (view l).k.slot p i ≡ some e → (p < 16) × (i < 32)
  unfolding view view_k
  slot_bounds p i e q = let s = inside_some 16 32 (λ p i. entry_in (slot_at l p i)) p i e q in (s.0, s.1)

  pub area_bounds : (p j : ℕ) (a : Area) → (view l).k.area p j ≡ some a → (p < 16) × (j < 5)
  unfolding view view_k
  area_bounds p j a q = let s = inside_some 16 5 (area_at l) p j a q in (s.0, s.1)

  pub region_bounds : (p r i : ℕ) → (view l).region p r ≡ some i → (p < 16) × (r < 8)
  unfolding view
  region_bounds p r i q = let s = inside_some 16 8 (region_at l) p r i q in (s.0, s.1)
