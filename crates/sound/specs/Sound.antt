-- A sound table: 01's clauses S1 to S11, as propositions. Each is said of one partition p, so that a failing one can be named.
use Rattle.std.specs.Prelude.{◌≡◌, true, false, cond, List, ◌⊎◌, ◌↔◌, ℕ, ◌+◌, ◌/◌, ◌≤◌, ◌<◌, length, eqb}
use Rattle.loops.specs.Loops.{Reaches}
use Rattle.words.specs.Kind.{Zeroed}
use Rattle.words.specs.Words.{first, header, structure, regions}
use Rattle.words.specs.declared.Rights.{Rights}
use Rattle.shapes.specs.declared.Board.{Board}
use Rattle.tables.specs.State.{none, some, Entry, all_rights, Area, nowhere, K, Table}
use Rattle.tables.specs.View.{first_word, area_word_at, regions_word_at, blank_word_at, slot_word_at, nth_region, regions_at, view}
use Rattle.tables.specs.Spelling.{ZeroWords}
use Rattle.tables.specs.Lines.{In, InA, Holds, Clear}
use Rattle.sound.specs.Limit.{loaded_pieces}

-- ── words used below ──
abbrev pub Present : K → ℕ → Type 0
Present k p = (a : Area) × (k.area p 0 ≡ some a)

-- the root's header and its structure 0 have area 0, 0
abbrev pub Rooted : ℕ → ℕ → Type 0
Rooted p j = (p ≡ 0) × (j < 2)

-- f contains e
pub record Around (e f : Entry) : Type 0 where
  pub from : f.start ≤ e.start
  pub to : e.stop ≤ f.stop

-- slot i of p's parent holds f, which is given to p and contains e
pub record Granted (k : K) (p : ℕ) (e : Entry) (i : ℕ) (f : Entry) : Type 0 where
  pub at : k.slot (k.parent p) i ≡ some f
  pub given : f.given ≡ p
  pub around : Around e f

-- one entry that p's parent gave it contains e and f
abbrev pub OneGrant : K → ℕ → Entry → Entry → Type 0
OneGrant k p e f = (j : ℕ) × (g : Entry) × Granted k p e j g × Granted k p f j g

-- an entry that p's parent gave it equals e
pub record Lends (k : K) (p : ℕ) (e : Entry) : Type 0 where
  pub i : ℕ
  pub f : Entry
  pub at : k.slot (k.parent p) i ≡ some f
  pub given : f.given ≡ p
  pub start : f.start ≡ e.start
  pub stop : f.stop ≡ e.stop

-- e, in slot i of p, is open, not given, and equal to an entry that p's parent gave it (the root has no parent)
pub record Undivided (t : Table) (p i : ℕ) (e : Entry) : Type 0 where
  pub opened : t.opened p i ≡ true
  pub free : e.given ≡ 0
  pub other : p ≡ 0 → ⊥
  pub lent : Lends t.k p e

-- a not-given entry of partition q equals the area
pub record Equals (k : K) (q : ℕ) (a : Area) : Type 0 where
  pub i : ℕ
  pub e : Entry
  pub at : k.slot q i ≡ some e
  pub free : e.given ≡ 0
  pub lo : e.start ≡ a.lo
  pub hi : e.stop ≡ a.hi

-- no right of a that b lacks
pub record Sub (a b : Rights) : Type 0 where
  pub read : a.read ≡ true → b.read ≡ true
  pub write : a.write ≡ true → b.write ≡ true
  pub execute : a.execute ≡ true → b.execute ≡ true

-- S1 base < end; current is present.
pub record S1 (k : K) : Type 0 where
  pub range : k.base < k.stop
  pub current : Present k k.current

-- S2 an absent partition's 40 words are zero; the root is present with parent 0 and area 0, 0; any other has a present parent and an area, and the walk
-- from a partition up to the root ends within 15 steps.
pub record S2 (l : List ℕ) (k : K) (p : ℕ) : Type 0 where
  pub absent : k.area p 0 ≡ none → ZeroWords l p
  pub root : p ≡ 0 → (k.area p 0 ≡ some nowhere) × (k.parent p ≡ 0)
  pub parent : (p ≡ 0 → ⊥) → Present k p → Present k (k.parent p)
  pub area : (p ≡ 0 → ⊥) → k.area p 0 ≡ some nowhere → ⊥
  pub walk : Present k p → Reaches k.parent 15 p

-- S3 all zero bits are zero; regions not loaded are zero bytes.
pub record S3 (l : List ℕ) (p : ℕ) : Type 0 where
  pub header_bits : Zeroed header (area_word_at l p 0)
  pub structure_bits : (j : ℕ) → j < 4 → Zeroed structure (area_word_at l p (1 + j))
  pub region_bits : Zeroed regions (regions_word_at l p)
  pub unloaded : (r : ℕ) → r < 8 → (nth_region (regions_at l p) r).loaded ≡ false → (nth_region (regions_at l p) r).slot.0 ≡ 0
  pub blank : (o : ℕ) → o < 2 → blank_word_at l p o ≡ 0

-- S4 absent structures are zero words; root structure 0 is present with area 0, 0; any other present structure has an area; 0, 0 counts as no area, and
-- every area has 16 lines or more.
pub record S4 (l : List ℕ) (k : K) (p : ℕ) : Type 0 where
  pub absent : (j : ℕ) → j < 4 → k.area p (1 + j) ≡ none → area_word_at l p (1 + j) ≡ 0
  pub root : p ≡ 0 → k.area p 1 ≡ some nowhere
  pub long : (j : ℕ) (a : Area) → k.area p j ≡ some a → (Rooted p j → ⊥) → a.lo + 16 ≤ a.hi

-- S5 entries stand only in present structures, start < end; other slots are zero.
pub record S5 (l : List ℕ) (k : K) (p : ℕ) : Type 0 where
  pub structure : (i : ℕ) (e : Entry) → k.slot p i ≡ some e → (a : Area) × (k.area p (1 + i / 8) ≡ some a)
  pub range : (i : ℕ) (e : Entry) → k.slot p i ≡ some e → e.start < e.stop
  pub other : (i : ℕ) → i < 32 → k.slot p i ≡ none → slot_word_at l p i ≡ 0

-- S6 no line lies in two entries of one partition.
abbrev pub S6 : K → ℕ → Type 0
S6 k p = (i j : ℕ) (e f : Entry) (l : ℕ) → k.slot p i ≡ some e → k.slot p j ≡ some f → In l e → In l f → i ≡ j

-- S7 the root's entries cover exactly base to end; given is 0 or a present child; a child's entries lie each inside one entry its parent gave it, and
-- cover those exactly; each whole entry is open, not given, and equal to an entry its partition's parent gave it.
pub record S7 (t : Table) (p : ℕ) : Type 0 where
  pub root : p ≡ 0 → (l : ℕ) → Holds t.k.slot p l ↔ ((t.k.base ≤ l) × (l < t.k.stop))
  pub given : (i : ℕ) (e : Entry) → t.k.slot p i ≡ some e → (e.given ≡ 0 → ⊥) → Present t.k e.given × (t.k.parent e.given ≡ p)
  pub inside : (p ≡ 0 → ⊥) → (i : ℕ) (e : Entry) → t.k.slot p i ≡ some e → (j : ℕ) × (f : Entry) × Granted t.k p e j f
  pub cover : (p ≡ 0 → ⊥) → Present t.k p → (i : ℕ) (f : Entry) → t.k.slot (t.k.parent p) i ≡ some f → f.given ≡ p → (l : ℕ) → In l f → Holds t.k.slot p l
  pub whole : (i : ℕ) (e : Entry) → t.k.slot p i ≡ some e → e.whole ≡ true → Undivided t p i e

-- S8 a header's area equals a not-given entry of the parent; a structure's area equals a not-given entry of the partition or of its parent; no two areas
-- share a line (of two owners the lower is at fault).
pub record S8 (k : K) (p : ℕ) : Type 0 where
  pub header : (p ≡ 0 → ⊥) → (a : Area) → k.area p 0 ≡ some a → Equals k (k.parent p) a
  pub structure : (j : ℕ) (a : Area) → k.area p (1 + j) ≡ some a → (Rooted p (1 + j) → ⊥) → Equals k p a ⊎ Equals k (k.parent p) a
  pub apart : (j q i : ℕ) (a b : Area) (l : ℕ) → p ≤ q → k.area p j ≡ some a → k.area q i ≡ some b → InA l a → InA l b → (p ≡ q) × (j ≡ i)

-- S9 an entry is open exactly if it shares no line with an area.
abbrev pub S9 : Table → ℕ → Type 0
S9 t p = (i : ℕ) (e : Entry) → t.k.slot p i ≡ some e → (t.opened p i ≡ true) ↔ Clear t.k.area e

-- each region of p that is loaded names an open entry of p, and no slot stands in two
pub record Loaded (t : Table) (p : ℕ) : Type 0 where
  pub names : (r i : ℕ) → t.region p r ≡ some i → ((e : Entry) × (t.k.slot p i ≡ some e)) × (t.opened p i ≡ true)
  pub once : (r q i : ℕ) → t.region p r ≡ some i → t.region p q ≡ some i → r ≡ q

-- S10 a loaded region names an open entry of its own partition; no slot twice; at most 8 pieces over the loaded entries of each partition.
pub record S10 (b : Board) (t : Table) (p : ℕ) : Type 0 where
  pub loaded : Loaded t p
  pub few : loaded_pieces b t.k.slot t.region p ≤ 8

-- S11 the root's entries have all rights; a child's have no right that the parent's entry around it lacks; a child's own entries inside one grant to it
-- have equal rights.
pub record S11 (k : K) (p : ℕ) : Type 0 where
  pub root : p ≡ 0 → (i : ℕ) (e : Entry) → k.slot p i ≡ some e → e.rights ≡ all_rights
  pub child : (p ≡ 0 → ⊥) → (i j : ℕ) (e f : Entry) → k.slot p i ≡ some e → Granted k p e j f → Sub e.rights f.rights
  pub equal : (p ≡ 0 → ⊥) → (i m : ℕ) (e f : Entry) → k.slot p i ≡ some e → k.slot p m ≡ some f → OneGrant k p e f → e.rights ≡ f.rights

-- Clause n, from 1 to 11, at partition p. S1, and S3 of word 0, are looked at with partition 0.
abbrev pub Clause : Board → List ℕ → ℕ → ℕ → Type 0
Clause b l n p =
    cond (eqb n 1) (p ≡ 0 → S1 (view l).k)
    (cond (eqb n 2) (S2 l (view l).k p)
    (cond (eqb n 3) ((p ≡ 0 → Zeroed first (first_word l)) × S3 l p)
    (cond (eqb n 4) (S4 l (view l).k p)
    (cond (eqb n 5) (S5 l (view l).k p)
    (cond (eqb n 6) (S6 (view l).k p)
    (cond (eqb n 7) (S7 (view l) p)
    (cond (eqb n 8) (S8 (view l).k p)
    (cond (eqb n 9) (S9 (view l) p)
    (cond (eqb n 10) (S10 b (view l) p)
    (S11 (view l).k p))))))))))

-- the clauses below n hold at every partition
abbrev pub Lower : Board → List ℕ → ℕ → Type 0
Lower b l n = (m : ℕ) → 1 ≤ m → m < n → (p : ℕ) → p < 16 → Clause b l m p

-- 641 words, and S1 to S11 at every partition
pub record Sound (b : Board) (l : List ℕ) : Type 0 where
  pub size : length l ≡ 641
  pub clauses : Lower b l 12
