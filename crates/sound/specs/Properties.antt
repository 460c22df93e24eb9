-- The paper's isolation properties (document 000, sections 3.3 and 4.2), of every sound table. Its blocks are entries here, its addresses lines.
use Rattle.std.specs.Prelude.{◌≡◌, true, ℕ}
use Rattle.tables.specs.State.{some, Entry, Area, K, Table}
use Rattle.tables.specs.Lines.{In, InA, Holds}
use Rattle.sound.specs.Sound.{Present, OneGrant}

-- ── the paper's sets; AllPaddr[MappedBlocks[p]] is Holds ──
-- children[p]: c is present, not the root, and its parent is p
pub record Child (k : K) (p c : ℕ) : Type 0 where
  pub present : Present k c
  pub other : c ≡ 0 → ⊥
  pub parent : k.parent c ≡ p

-- AccessibleMappedBlocks[p]: slot i of p is the open entry e
pub record OpenEntry (t : Table) (p i : ℕ) (e : Entry) : Type 0 where
  pub at : t.k.slot p i ≡ some e
  pub opened : t.opened p i ≡ true

-- AllPaddr[AccessibleMappedBlocks[p]]: an open entry of p holds line l
pub record Accessible (t : Table) (p l : ℕ) : Type 0 where
  pub i : ℕ
  pub e : Entry
  pub entry : OpenEntry t p i e
  pub holds : In l e

-- AllPaddr[ConfigBlocks[p]]: line l lies in an area of p, the header's or a structure's
pub record Serves (k : K) (p l : ℕ) : Type 0 where
  pub j : ℕ
  pub a : Area
  pub at : k.area p j ≡ some a
  pub holds : InA l a

-- ── the properties ──
-- Definition 4.1, Vertical Sharing: an address of a child's blocks is an address of its parent's blocks.
abbrev pub VerticalSharing : K → Type 0
VerticalSharing k = (p c l : ℕ) → Child k p c → Holds k.slot c l → Holds k.slot p l

-- Definition 4.2, Horizontal Isolation: an address of one child's blocks is no address of another child's. That the two differ the paper does not say.
abbrev pub HorizontalIsolation : K → Type 0
HorizontalIsolation k = (p c d l : ℕ) → Child k p c → Child k p d → (c ≡ d → ⊥) → Holds k.slot c l → Holds k.slot d l → ⊥

-- Definition 4.3, Kernel Data Isolation: an address of a partition's accessible blocks is no address of any partition's configuration blocks.
abbrev pub KernelDataIsolation : Table → Type 0
KernelDataIsolation t = (p q l : ℕ) → Accessible t p l → Serves t.k q l → ⊥

-- Section 3.3, MPUFromAccessibleBlocks: in a given partition, all blocks configured in the MPU are accessible blocks of that partition.
abbrev pub RegionsAccessible : Table → Type 0
RegionsAccessible t = (p r i : ℕ) → t.region p r ≡ some i → (e : Entry) × OpenEntry t p i e

pub record Isolated (t : Table) : Type 0 where
  pub vertical : VerticalSharing t.k
  pub horizontal : HorizontalIsolation t.k
  pub kernel : KernelDataIsolation t
  pub regions : RegionsAccessible t

-- ── rights ──
-- The root's entries have equal rights, and so have a child's own entries inside one grant to it: what merge joins does not differ in rights.
pub record EqualRights (k : K) : Type 0 where
  pub root : (i m : ℕ) (e f : Entry) → k.slot 0 i ≡ some e → k.slot 0 m ≡ some f → e.rights ≡ f.rights
  pub child : (p i m : ℕ) (e f : Entry) → (p ≡ 0 → ⊥) → k.slot p i ≡ some e → k.slot p m ≡ some f → OneGrant k p e f → e.rights ≡ f.rights

-- ── lines and the tree ──
-- q is p or above it
pub data Above (up : ℕ → ℕ) (q : ℕ) : ℕ → Type 0 where
  itself : {p : ℕ} → p ≡ q → Above up q p
  higher : {p : ℕ} → Above up q (up p) → Above up q p
