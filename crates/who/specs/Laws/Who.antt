-- The numbers of an item, one by one.
use Rattle.std.specs.Prelude.{◌≡◌, Bool, true, false, List, [], ◌∷◌, ℕ, ◌≤◌, ◌<◌, length, eqb, Some, None}
use Rattle.std.proofs.Math.Path.{refl}
use Rattle.std.proofs.Common.{ap, sym, ◌∙◌}
use borrow.Author.Tests.{eq-eqb, ne_eqb, le-leb, lt-leb}
use Rattle.loops.specs.Loops.{bit_of, any}
use Rattle.shapes.specs.declared.Board.{Board}
use Rattle.shapes.specs.Pieces.{pieces_for}
use Rattle.words.specs.declared.Slot.{Slot}
use Rattle.words.specs.declared.regions_word.Region.{Region}
use Rattle.words.specs.declared.regions_word.RegionsFields.{RegionsFields}
use Rattle.words.specs.declared.slot_word.SlotFields.{SlotFields}
use Rattle.tables.specs.State.{none, some, Entry, K, Table}
use Rattle.tables.specs.View.{entry_in, nth_region, view, named as slotNamed}
use Rattle.tables.specs.Seen.{SeenRegions}
use Rattle.tables.specs.Search.{look_for}
use Rattle.sound.specs.Clauses.{has}
use Rattle.who.specs.declared.facts.CanWrite.TheVariants.{Closed, NoRight, ManyPieces, IfLoaded, IfCurrent, Now}
use Rattle.who.specs.Who.{entry_numbers, names_it, can_write, entry_end, place_in, place_of}

pub entry_numbers_law :
    (b : Board) (p s : ℕ) (e : Entry) (o : Bool) {r w x y h n : ℕ} → r ≡ bit_of e.rights.read → w ≡ bit_of e.rights.write → x ≡ bit_of e.rights.execute → y ≡ bit_of o
    → h ≡ bit_of e.whole → n ≡ length (pieces_for b e.start e.stop) → p ∷ s ∷ e.start ∷ e.stop ∷ r ∷ w ∷ x ∷ y ∷ e.given ∷ h ∷ n ∷ [] ≡ entry_numbers b p s e o
unfolding entry_numbers
entry_numbers_law b p s e o qr qw qx qy qh qn = rw (qr, qw, qx, qy, qh, qn) refl

-- ── a region that was read ──
module _ {l : List ℕ} {p : ℕ} {f : RegionsFields} {x : Region} (s : ℕ) (v : SeenRegions l p f) (r : ℕ) (h : r < 8) (is : x ≡ nth_region f r) where
  seen : (view l).region p r ≡ slotNamed x
  seen = v.region r h ∙ ap slotNamed (sym is)

  pub names_it_none : x.loaded ≡ false → false ≡ names_it (view l) p s r
  unfolding names_it has slotNamed
  names_it_none q = rw (seen, q) refl

  pub names_it_some : x.loaded ≡ true → eqb x.slot.0 s ≡ names_it (view l) p s r
  unfolding names_it has slotNamed
  names_it_some q = rw (seen, q) refl

-- ── the exits of can ──
module _ (b : Board) (t : Table) (p s : ℕ) (e : Entry) (o : Bool) where
  pub can_closed : o ≡ false → Closed ≡ can_write b t p s e o
  unfolding can_write
  can_closed q = rw q refl

  module _ (u : o ≡ true) where
    pub can_no_right : e.rights.write ≡ false → NoRight ≡ can_write b t p s e o
    unfolding can_write
    can_no_right q = rw (u, q) refl

    module _ (v : e.rights.write ≡ true) where
      module _ {n : ℕ} (x : any 8 (names_it t p s) ≡ false) (is : n ≡ length (pieces_for b e.start e.stop)) where
        pub can_pieces : 8 < n → ManyPieces ≡ can_write b t p s e o
        unfolding can_write
        can_pieces q = rw (u, v, x, ← is, lt-leb n 8 q) refl

        pub can_if_loaded : n ≤ 8 → IfLoaded ≡ can_write b t p s e o
        unfolding can_write
        can_if_loaded q = rw (u, v, x, ← is, le-leb n 8 q) refl

      module _ {c : ℕ} (x : any 8 (names_it t p s) ≡ true) (is : t.k.current ≡ c) where
        pub can_if_current : (c ≡ p → ⊥) → IfCurrent ≡ can_write b t p s e o
        unfolding can_write
        can_if_current q = rw (u, v, x, is, ne_eqb c p q) refl

        pub can_now : c ≡ p → Now ≡ can_write b t p s e o
        unfolding can_write
        can_now q = rw (u, v, x, is, eq-eqb c p q) refl

-- ── the exits of place_of ──
module _ (k : K) (p l : ℕ) where
  pub place_of_none : (look_for k l p).slot ≡ none → None ≡ place_of k p l
  unfolding place_of place_in
  place_of_none q = rw q refl

  module _ (s : Slot) (f : SlotFields) (at : (look_for k l p).slot ≡ some s.0) (is : k.slot p s.0 ≡ entry_in f) where
    pub place_of_entry : f.present ≡ true → Some (record { slot = s; end = f.end }) ≡ place_of k p l
    unfolding place_of place_in entry_end entry_in
    place_of_entry q = rw (at, is, q) refl

    pub place_of_empty : f.present ≡ false → Some (record { slot = s; end = record { 0 = l } }) ≡ place_of k p l
    unfolding place_of place_in entry_end entry_in
    place_of_empty q = rw (at, is, q) refl
