-- Slot s of the caller, which is open and not given, and the free slot n of q are written: what stays.
use Rattle.std.specs.Prelude.{◌≡◌, ℕ}
use Rattle.std.proofs.Common.{◌∙◌}
use Rattle.tables.specs.State.{Opt, some, Entry, K, Same}
use Rattle.tables.specs.Laws.State.{not_none}
use Rattle.tables.specs.Lines.{Clear}
use Rattle.isolation.specs.Laws.Two.{same_place, two, two_first, two_old}
use Rattle.isolation.specs.Laws.Checks.{FreeEntry}
use Rattle.isolation.specs.Ladders.{FreeSlot}
use Rattle.isolation.specs.Laws.Keep.{same_clear, Has}

module _ {k : K} {s q n : ℕ} {e : Entry} (a : FreeEntry k s e) (b : FreeSlot k q n) (x y : Opt Entry) where
  abbrev new : ℕ → ℕ → Opt Entry
  new = two k.slot k.current s x q n y

  -- the two slots differ
  pub first_at_law : new k.current s ≡ x
  first_at_law = two_first k.slot k.current s x q n y (λ z. not_none (k.slot q n) b.empty (rw (z.0, z.1) at a.at))

  -- all but slot s stay ..
  pub stays_at : (p i : ℕ) (f : Entry) → k.slot p i ≡ some f → ((p ≡ k.current) × (i ≡ s) → ⊥) → Has new p f
  stays_at p i f u z = (i, two_old k.slot k.current s x q n y p i z (λ w. not_none (k.slot q n) b.empty (rw (w.0, w.1) at u)) ∙ u)

  other_stays : (p i : ℕ) (f : Entry) → k.slot p i ≡ some f → (Same f e → ⊥) → Has new p f
  other_stays p i f u z = stays_at p i f u (λ w. z (same_place k.slot a.at u w))

  -- .. so what is given or not open does
  pub given_stays : (p i : ℕ) (f : Entry) → k.slot p i ≡ some f → (f.given ≡ 0 → ⊥) → Has new p f
  given_stays p i f u z = other_stays p i f u (λ w. z (w.given ∙ a.free))

  pub closed_stays : (p i : ℕ) (f : Entry) → k.slot p i ≡ some f → f.given ≡ 0 → (Clear k.area f → ⊥) → Has new p f
  closed_stays p i f u _ z = other_stays p i f u (λ w. z (same_clear w a.clear))
