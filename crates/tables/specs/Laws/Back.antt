-- A table that fits its words is read back from them; what canonical words are seen as fits.
use Rattle.std.specs.Prelude.{◌≡◌, Bool, List, length, get_or, ℕ, zero, suc, ◌^◌, ◌<◌}
use Rattle.std.proofs.Math.Path.{refl, ap, sym}
use Rattle.std.proofs.Common.{◌∙◌, arith}
use Rattle.std.proofs.Math.Bool.{true, false, cond}
use Rattle.std.proofs.Math.Dec.{ltb}
use borrow.Author.Tests.{ltb-true, ltb-false, ne_eqb}
use Rattle.std.proofs.Math.Decide.{ℕ_discrete}
use Rattle.words.specs.Kind.{fields_in, word_of, InRange}
use Rattle.words.specs.Laws.Kind.{fields_back}
use Rattle.words.specs.Words.{first, header, structure, regions, slot}
use Rattle.words.specs.Laws.Fields.{header_zero, structure_zero, slot_zero}
use Rattle.words.specs.Laws.Kinds.{first_range, header_range, structure_range, regions_range, slot_range, first_lawful, header_lawful, structure_lawful, regions_lawful, slot_lawful}
use Rattle.words.specs.declared.header_word.HeaderFields.{HeaderFields}
use Rattle.words.specs.declared.regions_word.RegionsFields.{RegionsFields}
use Rattle.words.specs.declared.slot_word.SlotFields.{SlotFields}
use Rattle.tables.specs.State.{Opt, none, some, Entry, Area, Table}
use Rattle.tables.specs.Laws.State.{never_some}
use Rattle.tables.specs.View.{area_word_at, entry_in, header_area, structure_area, area_in, nth_region, named, first_at, slot_at, header_at, area_at, region_at, inside, parent_at, view_k, view}
use Rattle.tables.specs.Encode.{slot_for, slot_word, header_for, header_word, structure_for, structure_word, region_for, regions_for, regions_word, first_for, word_for, encode, Canon, Is}
use Rattle.tables.specs.Laws.Encode.{encode_is}
use Rattle.tables.specs.Laws.Spelling.{Spells, encode_spells}

-- numbers below their widths, nothing outside 16 by 5, 32 and 8, and nothing said of what is absent
pub record Fit (t : Table) : Type 0 where
  pub base : t.k.base < 2 ^ 27
  pub stop : t.k.stop < 2 ^ 27
  pub current : t.k.current < 16
  pub parent : (p : ℕ) → t.k.parent p < 16
  pub orphan : (p : ℕ) → t.k.area p 0 ≡ none → t.k.parent p ≡ 0
  pub area : (p j : ℕ) (a : Area) → t.k.area p j ≡ some a → (p < 16) × (j < 5) × (a.lo < 2 ^ 27) × (a.hi < 2 ^ 27)
  pub slot : (p i : ℕ) (e : Entry) → t.k.slot p i ≡ some e → (p < 16) × (i < 32) × (e.given < 16) × (e.start < 2 ^ 27) × (e.stop < 2 ^ 27)
  pub closed : (p i : ℕ) → t.k.slot p i ≡ none → t.opened p i ≡ false
  pub region : (p r i : ℕ) → t.region p r ≡ some i → (p < 16) × (r < 8) × (i < 32)

-- ── each word, read ──
abbrev SmallA : Area → Type 0
SmallA a = (a.lo < 2 ^ 27) × (a.hi < 2 ^ 27)

slot_back : (e : Entry) (o : Bool) → e.given < 16 → e.start < 2 ^ 27 → e.stop < 2 ^ 27 → fields_in slot (word_of slot (slot_for e o)) ≡ slot_for e o
slot_back e o g s n = fields_back slot_lawful (slot_for e o) (slot_range (slot_for e o) g s n)

header_back : (u : ℕ) (a : Area) → u < 16 → SmallA a → fields_in header (word_of header (header_for u a)) ≡ header_for u a
header_back u a h s = fields_back header_lawful (header_for u a) (header_range (header_for u a) h s.0 s.1)

structure_back : (a : Area) → SmallA a → fields_in structure (word_of structure (structure_for a)) ≡ structure_for a
structure_back a s = fields_back structure_lawful (structure_for a) (structure_range (structure_for a) s.0 s.1)

module _ (x : Opt Entry) (o : Bool) (h : (e : Entry) → x ≡ some e → (e.given < 16) × (e.start < 2 ^ 27) × (e.stop < 2 ^ 27)) where
  slot_read : entry_in (fields_in slot (slot_word x o)) ≡ x
  unfolding slot_word entry_in
  slot_read = go x h
    where
      go : (x : Opt Entry) → ((e : Entry) → x ≡ some e → (e.given < 16) × (e.start < 2 ^ 27) × (e.stop < 2 ^ 27)) → entry_in (fields_in slot (slot_word x o)) ≡ x
      go none h = ap entry_in slot_zero
      go (some e) h = let b = h e refl in ap entry_in (slot_back e o b.0 b.1 b.2)

  open_read : (x ≡ none → o ≡ false) → (fields_in slot (slot_word x o)).opened ≡ o
  unfolding slot_word
  open_read = go x h
    where
      go : (x : Opt Entry) → ((e : Entry) → x ≡ some e → (e.given < 16) × (e.start < 2 ^ 27) × (e.stop < 2 ^ 27)) → (x ≡ none → o ≡ false) → (fields_in slot (slot_word x o)).opened ≡ o
      go none h g = ap (λ (f : SlotFields). f.opened) slot_zero ∙ sym (g refl)
      go (some e) h g = let b = h e refl in ap (λ (f : SlotFields). f.opened) (slot_back e o b.0 b.1 b.2)

header_read : (u : ℕ) (x : Opt Area) → u < 16 → ((a : Area) → x ≡ some a → SmallA a) → header_area (fields_in header (header_word u x)) ≡ x
unfolding header_word header_area
header_read u none h g = ap header_area header_zero
header_read u (some a) h g = ap header_area (header_back u a h (g a refl))

parent_read : (u : ℕ) (x : Opt Area) → u < 16 → ((a : Area) → x ≡ some a → SmallA a) → (x ≡ none → u ≡ 0) → (fields_in header (header_word u x)).parent.0 ≡ u
unfolding header_word
parent_read u none h g z = ap (λ (f : HeaderFields). f.parent.0) header_zero ∙ sym (z refl)
parent_read u (some a) h g z = ap (λ (f : HeaderFields). f.parent.0) (header_back u a h (g a refl))

structure_read : (x : Opt Area) → ((a : Area) → x ≡ some a → SmallA a) → structure_area (fields_in structure (structure_word x)) ≡ x
unfolding structure_word structure_area
structure_read none g = ap structure_area structure_zero
structure_read (some a) g = ap structure_area (structure_back a (g a refl))

pub nth_for : (f : ℕ → Opt ℕ) (r : ℕ) → r < 8 → nth_region (regions_for f) r ≡ region_for (f r)
unfolding nth_region
nth_for f zero h = refl
nth_for f (suc zero) h = refl
nth_for f (suc (suc zero)) h = refl
nth_for f (suc (suc (suc zero))) h = refl
nth_for f (suc (suc (suc (suc zero)))) h = refl
nth_for f (suc (suc (suc (suc (suc zero))))) h = refl
nth_for f (suc (suc (suc (suc (suc (suc zero)))))) h = refl
nth_for f (suc (suc (suc (suc (suc (suc (suc zero))))))) h = refl
nth_for f (suc (suc (suc (suc (suc (suc (suc (suc r)))))))) h = absurd (omega arith)

slot_small : (x : Opt ℕ) → ((i : ℕ) → x ≡ some i → i < 32) → (region_for x).slot.0 < 32
unfolding region_for
slot_small none g = omega arith
slot_small (some i) g = g i refl

-- regions that name slots are in range, and come back from their word
pub regions_fit : (f : ℕ → Opt ℕ) → ((r i : ℕ) → f r ≡ some i → i < 32) → InRange regions (regions_for f)
regions_fit f g =
    let s : (q : ℕ) → (region_for (f q)).slot.0 < 32 = λ q. slot_small (f q) (g q) in
    regions_range (regions_for f) (s 0) (s 1) (s 2) (s 3) (s 4) (s 5) (s 6) (s 7)

pub regions_back : (f : ℕ → Opt ℕ) → ((r i : ℕ) → f r ≡ some i → i < 32) → fields_in regions (regions_word f) ≡ regions_for f
unfolding regions_word
regions_back f g = fields_back regions_lawful (regions_for f) (regions_fit f g)

name_for : (x : Opt ℕ) → named (region_for x) ≡ x
unfolding region_for named
name_for none = refl
name_for (some i) = refl

region_read : (f : ℕ → Opt ℕ) → ((r i : ℕ) → f r ≡ some i → i < 32) → (r : ℕ) → r < 8 → named (nth_region (fields_in regions (regions_word f)) r) ≡ f r
region_read f g r h =
    ap (λ (x : RegionsFields). named (nth_region x r)) (regions_back f g) ∙ ap named (nth_for f r h) ∙ name_for (f r)

-- ── the whole table, read ──
-- inside n by m the words tell it, outside there is nothing
inside_is : {A : Type 0} (z : A) (n m : ℕ) (f g : ℕ → ℕ → A) (p i : ℕ) → (p < n → i < m → f p i ≡ g p i) → ((p < n → i < m → ⊥) → g p i ≡ z) → inside z n m f p i ≡ g p i
unfolding inside
inside_is z n m f g p i h out = go (ltb p n) (ltb i m) refl refl
  where
    go : (x y : Bool) → ltb p n ≡ x → ltb i m ≡ y → cond x (cond y (f p i) z) z ≡ g p i
    go true true a b = h (ltb-true p n a) (ltb-true i m b)
    go true false a b = sym (out (λ x y. let w = ltb-false i m b in omega arith))
    go false y a b = sym (out (λ x y. let w = ltb-false p n a in omega arith))

module _ (t : Table) (h : Fit t) where
  small : (p j : ℕ) (a : Area) → t.k.area p j ≡ some a → SmallA a
  small p j a u = let b = h.area p j a u in (b.2, b.3)

  range : (p i : ℕ) (e : Entry) → t.k.slot p i ≡ some e → (e.given < 16) × (e.start < 2 ^ 27) × (e.stop < 2 ^ 27)
  range p i e u = let b = h.slot p i e u in (b.2, b.3, b.4)

  spelt : Spells (encode t) t
  spelt = encode_spells t

  no_area : (p j : ℕ) → ((p < 16) × (j < 5) → ⊥) → t.k.area p j ≡ none
  no_area p j out = never_some (t.k.area p j) (λ a u. let b = h.area p j a u in out (b.0, b.1))

  no_slot : (p i : ℕ) → ((p < 16) × (i < 32) → ⊥) → t.k.slot p i ≡ none
  no_slot p i out = never_some (t.k.slot p i) (λ e u. let b = h.slot p i e u in out (b.0, b.1))

  first_is : first_at (encode t) ≡ first_for t.k
  first_is =
      ap (fields_in first) spelt.first
      ∙ fields_back first_lawful (first_for t.k) (first_range (first_for t.k) h.base h.stop h.current)

  parent_is : (p : ℕ) → parent_at (encode t) p ≡ t.k.parent p
  unfolding parent_at
  parent_is p = go (ltb p 16) refl
    where
      go : (b : Bool) → ltb p 16 ≡ b → cond b (header_at (encode t) p).parent.0 0 ≡ t.k.parent p
      go true u =
          ap (λ (w : ℕ). (fields_in header w).parent.0) (spelt.at p (ltb-true p 16 u)).header
          ∙ parent_read (t.k.parent p) (t.k.area p 0) (h.parent p) (small p 0) (h.orphan p)
      go false u = sym (h.orphan p (no_area p 0 (λ b. let w = ltb-false p 16 u in omega arith)))

  area_is : (p j : ℕ) → inside none 16 5 (area_at (encode t)) p j ≡ t.k.area p j
  unfolding area_in
  area_is p j = inside_is none 16 5 (area_at (encode t)) t.k.area p j (λ a b. go a b (ℕ_discrete j 0)) (λ out. no_area p j (λ b. out b.0 b.1))
    where
      go : p < 16 → j < 5 → Dec (j ≡ 0) → area_in j (area_word_at (encode t) p j) ≡ t.k.area p j
      go a b (yes z) =
          rw z (ap (λ (w : ℕ). header_area (fields_in header w)) (spelt.at p a).header ∙ header_read (t.k.parent p) (t.k.area p 0) (h.parent p) (small p 0))
      go a b (no z) =
          rw (ne_eqb j 0 z)
          (ap (λ (w : ℕ). structure_area (fields_in structure w)) ((spelt.at p a).structure j (omega arith) b)
          ∙ structure_read (t.k.area p j) (small p j))

  slot_is : (p i : ℕ) → inside none 16 32 (λ p i. entry_in (slot_at (encode t) p i)) p i ≡ t.k.slot p i
  slot_is p i =
      inside_is none 16 32 (λ p i. entry_in (slot_at (encode t) p i)) t.k.slot p i
      (λ a b. ap (λ (w : ℕ). entry_in (fields_in slot w)) ((spelt.at p a).slot i b) ∙ slot_read (t.k.slot p i) (t.opened p i) (range p i))
      (λ out. no_slot p i (λ b. out b.0 b.1))

  open_is : (p i : ℕ) → inside false 16 32 (λ p i. (slot_at (encode t) p i).opened) p i ≡ t.opened p i
  open_is p i =
      inside_is false 16 32 (λ p i. (slot_at (encode t) p i).opened) t.opened p i
      (λ a b. ap (λ (w : ℕ). (fields_in slot w).opened) ((spelt.at p a).slot i b) ∙ open_read (t.k.slot p i) (t.opened p i) (range p i) (h.closed p i))
      (λ out. h.closed p i (no_slot p i (λ b. out b.0 b.1)))

  region_is : (p r : ℕ) → inside none 16 8 (region_at (encode t)) p r ≡ t.region p r
  region_is p r =
      inside_is none 16 8 (region_at (encode t)) t.region p r
      (λ a b.
      ap (λ (w : ℕ). named (nth_region (fields_in regions w) r)) (spelt.at p a).regions
      ∙ region_read (t.region p) (λ q i u. (h.region p q i u).2) r b)
      (λ out. never_some (t.region p r) (λ i u. let b = h.region p r i u in out b.0 b.1))

  pub view_encode : view (encode t) ≡ t
  unfolding view view_k
  view_encode = λ x. record {
    k = record {
      base = (first_is x).base.0;
      stop = (first_is x).end.0;
      current = (first_is x).current.0;
      parent = λ p. parent_is p x;
      area = λ p j. area_is p j x;
      slot = λ p i. slot_is p i x;
    };
    opened = λ p i. open_is p i x;
    region = λ p r. region_is p r x;
  }

pub fit_canon : {t : Table} → Fit t → Canon (encode t)
fit_canon {t} h = record { same = ap encode (view_encode t h) }

-- words that are those of a table that fits
pub is_from : (l : List ℕ) (t : Table) → length l ≡ 641 → Fit t → ((n : ℕ) → n < 641 → get_or l n 0 ≡ word_for t n) → Is l t
is_from l t e f h = let q = encode_is t l e h in record { viewed = ap view (sym q) ∙ view_encode t f; encoded = q }
