-- Who has a line and gave it to nobody is the last of a chain: every holder of the line is it, or above it.
use Rattle.std.specs.Prelude.{◌≡◌, ℕ}
use Rattle.tables.specs.State.{some, Entry, K}
use Rattle.tables.specs.Lines.{In, Holds}
use Rattle.sound.specs.Core.{Core}
use Rattle.sound.specs.Properties.{Above}
use Rattle.sound.specs.Laws.Grants.{core_grants, grants_holder_above, grants_free_one}

module _ {k : K} (h : Core k) where
  pub holder_above : {l q j : ℕ} {f : Entry} → k.slot q j ≡ some f → f.given ≡ 0 → In l f → {p : ℕ} → Holds k.slot p l → Above k.parent p q
  holder_above = grants_holder_above (core_grants h)

  -- so of all entries with the line one is not given
  pub free_one : {p q i j l : ℕ} {e f : Entry} → k.slot p i ≡ some e → e.given ≡ 0 → In l e → k.slot q j ≡ some f → f.given ≡ 0 → In l f → p ≡ q
  free_one = grants_free_one (core_grants h)
