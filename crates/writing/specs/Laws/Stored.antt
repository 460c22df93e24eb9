-- After each write the words are those of the table with that one change.
use Rattle.std.specs.Prelude.{◌≡◌, refl, true, false, List, set, ℕ, ◌+◌, ◌*◌, ◌^◌, ◌<◌}
use Rattle.std.proofs.Common.{ap, ap₂, sym, subst, ◌∙◌, add-zero, arith}
use Rattle.words.specs.Kind.{fields_in, writing}
use Rattle.words.specs.Words.{first, header, structure, regions, slot}
use Rattle.words.specs.Fields.{no_region}
use Rattle.words.specs.Laws.Kinds.{first_range, header_range, structure_range, slot_range}
use Rattle.words.specs.declared.Line.{Line}
use Rattle.words.specs.declared.Partition.{Partition}
use Rattle.words.specs.declared.Slot.{Slot}
use Rattle.words.specs.declared.first_word.FirstFields.{FirstFields}
use Rattle.words.specs.declared.header_word.HeaderFields.{HeaderFields}
use Rattle.words.specs.declared.regions_word.RegionsFields.{RegionsFields}
use Rattle.words.specs.declared.slot_word.SlotFields.{SlotFields}
use Rattle.words.specs.declared.structure_word.StructureFields.{StructureFields}
use Rattle.tables.specs.State.{Opt, none, some, Area, Table}
use Rattle.tables.specs.Laws.State.{not_none, some_inj, same, same_a}
use Rattle.tables.specs.Update.{upd}
use Rattle.tables.specs.Laws.Update.{upd_same, upd_other}
use Rattle.tables.specs.View.{area_place, regions_place, slot_place, entry_of, view}
use Rattle.tables.specs.Encode.{slot_for, slot_word, header_for, header_word, structure_for, structure_word, region_for, regions_for, regions_word, first_for, Is}
use Rattle.tables.specs.Laws.Encode.{canon_is}
use Rattle.tables.specs.Laws.Spelling.{canon_spells}
use Rattle.tables.specs.Laws.Back.{regions_fit, regions_back}
use Rattle.tables.specs.Laws.FitView.{fit_view}
use Rattle.tables.specs.Regions.{with_region}
use Rattle.tables.specs.Laws.Regions.{with_region_for}
use Rattle.tables.specs.Seen.{SeenFirst, SeenRegions}
use Rattle.tables.specs.Write.{put_slot, put_header, put_structure, put_region, put_current}
use Rattle.tables.specs.Laws.Writes.{is_fit, slot_put, header_put, structure_put, region_put, current_put}
use Rattle.tables.specs.Store.{stored}
use Rattle.tables.specs.Laws.Store.{store_word}
use Rattle.writing.specs.CanWrite.{CanClear, CanEntry, CanHeader, CanStructure, CanRegion, CanCurrent}
use Rattle.writing.specs.Stored.{span}

-- one write after another: what the second makes of the table that the first left
pub is_then : {l m : List ℕ} {t : Table} (f : Table → Table) → Is l t → Is m (f (view l)) → Is m (f t)
is_then {m = m} f was next = subst (λ (t : Table). Is m (f t)) was.viewed next

-- ── a slot ──
slot_for_law : (f : SlotFields) → f.present ≡ true → f ≡ slot_for (entry_of f) f.opened
slot_for_law f h = λ x. record { present = h x; opened = f.opened; rights = f.rights; given = f.given; start = f.start; end = f.end; whole = f.whole }

pub entry_stored : {l : List ℕ} {p i : ℕ} {f : SlotFields} → CanEntry l p i f
    → Is (stored l (slot_place p i) (writing slot f)) (put_slot (view l) p i (some (entry_of f)) f.opened)
unfolding slot_word
entry_stored {l} {p} {i} {f} c =
    rw (store_word slot l (slot_place p i) (slot_for_law f c.present) (slot_range f c.given_small c.start_small c.end_small))
    (slot_put (canon_is c.canon) p i (some (entry_of f)) f.opened c.in_p c.in_i (record {
      range = λ e q. let s = same (some_inj q) in (omega (arith, c.given_small), omega (arith, c.start_small), omega (arith, c.end_small));
      closed = λ q. not_none none refl (sym q);
    }))

pub entry_cleared : {l : List ℕ} {p i : ℕ} → CanClear 32 l p i → Is (set l (slot_place p i) 0) (put_slot (view l) p i none false)
unfolding slot_word
entry_cleared {p = p} {i} c =
    slot_put (canon_is c.canon) p i none false c.in_p c.in_i (record { range = λ e q. not_none none refl q; closed = λ q. refl })

-- ── a header ──
span_small : {a b : Line} → a.0 < 2 ^ 27 → b.0 < 2 ^ 27 → (x : Area) → some (span a b) ≡ some x → (x.lo < 2 ^ 27) × (x.hi < 2 ^ 27)
span_small h g x q = let s = same_a (some_inj q) in (omega arith, omega arith)

header_for_law : (f : HeaderFields) → f.present ≡ true → f ≡ header_for f.parent.0 (span f.start f.end)
header_for_law f h = λ x. record { present = h x; parent = f.parent; start = f.start; end = f.end }

pub header_stored : {l : List ℕ} {p : ℕ} {f : HeaderFields} → CanHeader l p f
    → Is (stored l (1 + 40 * p) (writing header f)) (put_header (view l) p f.parent.0 (some (span f.start f.end)))
unfolding header_word
header_stored {l} {p} {f} c =
    rw (store_word header l (1 + 40 * p) (header_for_law f c.present) (header_range f c.parent_small c.start_small c.end_small), ← add-zero (1 + 40 * p))
    (header_put (canon_is c.canon) p f.parent.0 (some (span f.start f.end)) c.in_p c.parent_small
    (span_small c.start_small c.end_small) (λ q. not_none none refl (sym q)))

-- ── a structure ──
structure_for_law : (f : StructureFields) → f.present ≡ true → f ≡ structure_for (span f.start f.end)
structure_for_law f h = λ x. record { present = h x; start = f.start; end = f.end }

structure_place : (p j : ℕ) → 2 + 40 * p + j ≡ area_place p (1 + j)
structure_place p j = omega arith

pub structure_stored : {l : List ℕ} {p j : ℕ} {f : StructureFields} → CanStructure l p j f
    → Is (stored l (2 + 40 * p + j) (writing structure f)) (put_structure (view l) p j (some (span f.start f.end)))
unfolding structure_word
structure_stored {l} {p} {j} {f} c =
    rw (store_word structure l (2 + 40 * p + j) (structure_for_law f c.present) (structure_range f c.start_small c.end_small), structure_place p j)
    (structure_put (canon_is c.canon) p j (some (span f.start f.end)) c.in_p c.in_j (span_small c.start_small c.end_small))

pub structure_cleared : {l : List ℕ} {p j : ℕ} → CanClear 4 l p j → Is (set l (2 + 40 * p + j) 0) (put_structure (view l) p j none)
unfolding structure_word
structure_cleared {p = p} {j} c =
    rw (structure_place p j) (structure_put (canon_is c.canon) p j none c.in_p c.in_i (λ a q. not_none none refl q))

-- ── a region: the word of all eight is written ──
-- region r of p names what o says
regions_stored : {l : List ℕ} {p r : ℕ} {f : RegionsFields} (o : Opt ℕ) → CanClear 8 l p r → ((i : ℕ) → o ≡ some i → i < 32) → SeenRegions l p f
    → Is (stored l (regions_place p) (writing regions (with_region f r (region_for o)))) (put_region (view l) p r o)
unfolding regions_word
regions_stored {l} {p} {r} {f} o c small seen = rw (store_word regions l (regions_place p) is (rw is (regions_fit new fits))) put
  where
    new : ℕ → Opt ℕ
    new = upd (view l).region p r o p

    put : Is (set l (regions_place p) (regions_word new)) (put_region (view l) p r o)
    put = region_put (canon_is c.canon) p r o c.in_p c.in_i small

    fits : (q i : ℕ) → new q ≡ some i → i < 32
    fits q i h = ((is_fit put).region p q i h).2

    was : f ≡ regions_for ((view l).region p)
    was =
        seen.is
        ∙ ap (fields_in regions) ((canon_spells c.canon).at p c.in_p).regions
        ∙ regions_back ((view l).region p) (λ q i h. ((fit_view c.canon).region p q i h).2)

    is : with_region f r (region_for o) ≡ regions_for new
    is =
        ap₂ (λ (f : RegionsFields) (o : Opt ℕ). with_region f r (region_for o)) was (sym (upd_same (view l).region p r o p r (refl, refl)))
        ∙ with_region_for ((view l).region p) new r (λ q z. upd_other (view l).region p r o p q (λ w. z w.1))

pub region_stored : {l : List ℕ} {p r : ℕ} {s : Slot} {f : RegionsFields} → CanRegion l p r s.0 → SeenRegions l p f
    → Is (stored l (regions_place p) (writing regions (with_region f r (record { loaded = true; slot = s })))) (put_region (view l) p r (some s.0))
unfolding region_for
region_stored {s = s} c =
    regions_stored (some s.0) (record { canon = c.canon; in_p = c.in_p; in_i = c.in_r }) (λ i q. rw (← some_inj q) c.in_i)

pub region_cleared : {l : List ℕ} {p r : ℕ} {f : RegionsFields} → CanClear 8 l p r → SeenRegions l p f
    → Is (stored l (regions_place p) (writing regions (with_region f r no_region))) (put_region (view l) p r none)
unfolding region_for
region_cleared c = regions_stored none c (λ i q. not_none none refl q)

-- ── current ──
-- c for current
abbrev pub first_with : FirstFields → Partition → FirstFields
first_with f c = record { base = f.base; end = f.end; current = c }

pub current_stored : {l : List ℕ} {c : Partition} {f : FirstFields} → CanCurrent l c.0 → SeenFirst l f
    → Is (stored l 0 (writing first (first_with f c))) (put_current (view l) c.0)
current_stored {l} {c} {f} h s =
    rw (store_word first l 0 (sym is) (first_range (first_with f c) s.base_small s.end_small h.in_c))
    (current_put (canon_is h.canon) c.0 h.in_c)
  where
    is : first_for (put_current (view l) c.0).k ≡ first_with f c
    is = λ x. record { base = record { 0 = s.base x }; end = record { 0 = s.stop x }; current = c }
