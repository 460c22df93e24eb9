-- Every sound table has the four properties; what a partition holds, each one above it holds, and no sibling does.
use Rattle.std.specs.Prelude.{◌≡◌, List, ℕ, ◌≤◌, ◌<◌}
use Rattle.std.proofs.Common.{ap, sym, ◌∙◌}
use Rattle.std.proofs.Math.Decide.{ℕ_discrete}
use Rattle.shapes.specs.declared.Board.{Board}
use Rattle.tables.specs.State.{some, Entry, K, Table}
use Rattle.tables.specs.View.{view}
use Rattle.tables.specs.Lines.{In, Holds}
use Rattle.sound.specs.Sound.{Present, S9, Loaded, Sound}
use Rattle.sound.specs.Laws.Sound.{s9_all, loaded_all}
use Rattle.sound.specs.Core.{Core}
use Rattle.sound.specs.Laws.Core.{sound_core, core_sound}
use Rattle.sound.specs.Laws.Grants.{core_grants, root_above, grants_holder_present, grants_parent_holds, grants_siblings_one}
use Rattle.sound.specs.Properties.{Accessible, Isolated, EqualRights, Above, itself, higher}

-- ── the properties ──
-- so each line of an entry that a region has loaded is accessible to the region's own partition
pub region_lines : {t : Table} → Isolated t → (p r i : ℕ) (e : Entry) (l : ℕ) → t.region p r ≡ some i → t.k.slot p i ≡ some e → In l e → Accessible t p l
region_lines h p r i e l u v x =
    let (f, o) = h.regions p r i u in
    record { i = i; e = e; entry = record { at = v; opened = o.opened }; holds = x }

-- ── lines and the tree ──
module _ {k : K} (h : Core k) where
  pub parent_holds : {c l : ℕ} → (c ≡ 0 → ⊥) → Holds k.slot c l → Holds k.slot (k.parent c) l
  parent_holds = grants_parent_holds (core_grants h)

  pub siblings_one : {c d l : ℕ} → (c ≡ 0 → ⊥) → (d ≡ 0 → ⊥) → k.parent c ≡ k.parent d → Holds k.slot c l → Holds k.slot d l → c ≡ d
  siblings_one = grants_siblings_one (core_grants h)

  up_holds : {q p l : ℕ} → Above k.parent q p → Holds k.slot p l → Holds k.slot q l
  up_holds (itself z) u = rw z at u
  up_holds {q} {l = l} (higher {p} a) u = go (ℕ_discrete p 0) (up_holds a)
    where
      go : Dec (p ≡ 0) → (Holds k.slot (k.parent p) l → Holds k.slot q l) → Holds k.slot q l
      go (yes z) f = f (rw (ap k.parent z ∙ h.s2_root_law.2 ∙ sym z) u)
      go (no n) f = f (parent_holds n u)

  -- what a partition holds every one above it holds
  pub above_holds : {p q l : ℕ} → Above k.parent q p → Holds k.slot p l → Holds k.slot q l
  above_holds a u = up_holds a u

  pub holder_present : {p l : ℕ} → Holds k.slot p l → Present k p
  holder_present = grants_holder_present (core_grants h)

  pub root_holds : {p l : ℕ} → Holds k.slot p l → Holds k.slot 0 l
  root_holds {p} u = above_holds (root_above (h.s2_climb p (holder_present u))) u

  pub held_range : {p l : ℕ} → Holds k.slot p l → (k.base ≤ l) × (l < k.stop)
  held_range {l = l} u = (h.s7_root_law l).0 (root_holds u)

-- ── rights ──
pub core_rights : {k : K} → Core k → EqualRights k
core_rights h = record {
  root = λ i m e f u v. h.s11 i e u ∙ sym (h.s11 m f v);
  child = λ p i m e f n. ((core_sound h).s11 p).equal n i m e f;
}

-- ── every sound table is isolated ──
pub isolated : {t : Table} → Core t.k → ((p : ℕ) → S9 t p) → ((p : ℕ) → Loaded t p) → Isolated t
isolated c s9 loaded = record {
  vertical = λ p d n s u. rw s.parent at (parent_holds c s.other u);
  horizontal = λ p d f n s t m u v. m (siblings_one c s.other t.other (s.parent ∙ sym t.parent) u v);
  kernel = λ p q n u v. let o = u.entry in (s9 p u.i u.e o.at).0 o.opened q v.j v.a n v.at v.holds u.holds;
  regions = λ p r i u. let ((e, a), o) = (loaded p).names r i u in (e, record { at = a; opened = o });
}

pub sound_isolated : {board : Board} (l : List ℕ) → Sound board l → Isolated (view l)
sound_isolated l h = isolated (sound_core l h) (s9_all h) (loaded_all h)
