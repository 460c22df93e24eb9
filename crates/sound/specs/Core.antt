-- Soundness without words, open bits and regions: what the theory of the services is proved over.
use Rattle.std.specs.Prelude.{◌≡◌, true, ◌⊎◌, ◌↔◌, ℕ, ◌+◌, ◌/◌, ◌≤◌, ◌<◌}
use Rattle.loops.specs.Loops.{Reaches}
use Rattle.tables.specs.State.{Opt, none, some, Entry, Area, nowhere, K, all_rights}
use Rattle.tables.specs.Lines.{In, InA, Holds, Clear}
use Rattle.sound.specs.Sound.{Present, Rooted, Sub}

-- around an entry of c: an entry that c's parent gave it, with all its rights
pub record Inside (slot : ℕ → ℕ → Opt Entry) (up : ℕ → ℕ) (c : ℕ) (e : Entry) : Type 0 where
  pub i : ℕ
  pub f : Entry
  pub at : slot (up c) i ≡ some f
  pub given : f.given ≡ c
  pub from : f.start ≤ e.start
  pub to : e.stop ≤ f.stop
  pub sub : Sub e.rights f.rights

-- the entry e of c, lent whole: it shares no line with an area, is given to nobody, and equals an entry that c's parent gave it
pub record Whole (area : ℕ → ℕ → Opt Area) (slot : ℕ → ℕ → Opt Entry) (up : ℕ → ℕ) (c : ℕ) (e : Entry) : Type 0 where
  pub clear : Clear area e
  pub free : e.given ≡ 0
  pub other : c ≡ 0 → ⊥
  pub i : ℕ
  pub f : Entry
  pub at : slot (up c) i ≡ some f
  pub given : f.given ≡ c
  pub start : f.start ≡ e.start
  pub stop : f.stop ≡ e.stop

-- the not-given entry that area j of p is: the parent's, or p's own if the area is a structure's
pub record Backed (slot : ℕ → ℕ → Opt Entry) (up : ℕ → ℕ) (p j : ℕ) (a : Area) : Type 0 where
  pub q : ℕ
  pub who : (q ≡ up p) ⊎ ((q ≡ p) × (0 < j))
  pub i : ℕ
  pub e : Entry
  pub at : slot q i ≡ some e
  pub free : e.given ≡ 0
  pub lo : e.start ≡ a.lo
  pub hi : e.stop ≡ a.hi

pub record Core (k : K) : Type 0 where
  pub s1 : k.base < k.stop
  pub s1_current : Present k k.current
  pub s2_root_law : (k.area 0 0 ≡ some nowhere) × (k.area 0 1 ≡ some nowhere) × (k.parent 0 ≡ 0)
  pub s2_range : (p j : ℕ) (a : Area) → k.area p j ≡ some a → (p < 16) × (j < 5)
  pub s2_absent : (p j : ℕ) (a : Area) → k.area p j ≡ some a → Present k p
  pub s2_parent : (p : ℕ) → k.area p 0 ≡ none → k.parent p ≡ 0
  pub s2_up : (p : ℕ) → Present k p → Present k (k.parent p)
  pub s2_climb : (p : ℕ) → Present k p → Reaches k.parent 15 p
  pub s4 : (p j : ℕ) (a : Area) → k.area p j ≡ some a → (Rooted p j → ⊥) → a.lo + 16 ≤ a.hi
  pub s5 : (p i : ℕ) (e : Entry) → k.slot p i ≡ some e → (a : Area) × (k.area p (1 + i / 8) ≡ some a)
  pub s5_range : (p i : ℕ) (e : Entry) → k.slot p i ≡ some e → e.start < e.stop
  pub s6 : (p i j : ℕ) (e f : Entry) (l : ℕ) → k.slot p i ≡ some e → k.slot p j ≡ some f → In l e → In l f → i ≡ j
  pub s7_root_law : (l : ℕ) → Holds k.slot 0 l ↔ ((k.base ≤ l) × (l < k.stop))
  pub s7_given_law : (p i : ℕ) (e : Entry) → k.slot p i ≡ some e → (e.given ≡ 0 → ⊥) → Present k e.given × (k.parent e.given ≡ p)
  pub s7_in : (c i : ℕ) (e : Entry) → k.slot c i ≡ some e → (c ≡ 0 → ⊥) → Inside k.slot k.parent c e
  pub s7_cover_law : (p i : ℕ) (f : Entry) (l : ℕ) → k.slot p i ≡ some f → (f.given ≡ 0 → ⊥) → In l f → Holds k.slot f.given l
  pub s7_whole_law : (c i : ℕ) (e : Entry) → k.slot c i ≡ some e → e.whole ≡ true → Whole k.area k.slot k.parent c e
  pub s8 : (p j : ℕ) (a : Area) → k.area p j ≡ some a → (Rooted p j → ⊥) → Backed k.slot k.parent p j a
  pub s8_apart_law : (p j q i : ℕ) (a b : Area) (l : ℕ) → k.area p j ≡ some a → k.area q i ≡ some b → InA l a → InA l b → (p ≡ q) × (j ≡ i)
  pub s11 : (i : ℕ) (e : Entry) → k.slot 0 i ≡ some e → e.rights ≡ all_rights
  pub s11_equal_law : (c i m : ℕ) (e f : Entry) → (c ≡ 0 → ⊥) → k.slot c i ≡ some e → k.slot c m ≡ some f
      → (o : Inside k.slot k.parent c e) (q : Inside k.slot k.parent c f) → o.i ≡ q.i → e.rights ≡ f.rights
