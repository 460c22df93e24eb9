-- How many entries a pack moves: those that have a free slot below them.
use Rattle.std.specs.Prelude.{◌≡◌, refl, Bool, true, false, ◌&&◌, ◌||◌, ℕ, ◌+◌, ◌≤◌, ◌<◌}
use Rattle.std.proofs.Common.{ap, ap₂, sym, ◌∙◌, zero-add, arith}
use Rattle.loops.specs.Loops.{NoneBelow, bit_of, any, carried, count}
use Rattle.loops.specs.Laws.Every.{none_of, any_of, any_more}
use Rattle.loops.specs.Laws.Count.{sum_more, count_le}
use Rattle.tables.specs.State.{Opt, none, some, Entry, Table}
use Rattle.tables.specs.Search.{is_some, is_none, free}
use Rattle.sound.specs.Laws.Tests.{or_left}
use Rattle.sound.specs.Whole.{Right}
use Rattle.rules.specs.Pack.{usable, Packing, free_in, move_entry, pack_slot, packing_of, packed}
use Rattle.rules.proofs.Laws.Pack.{Moves, turns, slot_same, from_empty, Roomy, move_roomy}
use Rattle.rules.specs.Rules.{done as completed, pack}
use Rattle.isolation.proofs.Laws.Pack.{entries_roomy, pack_done}

module _ (can : ℕ → Bool) (s : Packing) where
  -- slot i has an entry, and one below it is free
  abbrev goes : ℕ → Bool
  goes i = is_some (s.slot i) && any i (free_in can s.slot)

  -- before the turn of slot i: from i on all is as it was, whether a slot below i is free is so too, and so many entries have moved
  record Counted (i : ℕ) (x : Packing) : Type 0 where
    same : (m : ℕ) → i ≤ m → x.slot m ≡ s.slot m
    roomy : Roomy can x.slot
    below : any i (free_in can x.slot) ≡ any i (free_in can s.slot)
    number : x.moved ≡ s.moved + count i goes

  module _ {i : ℕ} {x : Packing} (c : Counted i x) where
    -- whether slot i is free, too
    here : free_in can x.slot i ≡ free_in can s.slot i
    here = ap (λ (o : Opt Entry). can i && is_none o) (c.same i (omega arith))

    stays : ((e : Entry) → x.slot i ≡ some e → NoneBelow (free_in can x.slot) i) → Counted (i + 1) x
    stays f = record {
      same = λ m b. c.same m (omega arith);
      roomy = c.roomy;
      below = any_more i (free_in can x.slot) ∙ ap₂ ◌||◌ c.below here ∙ sym (any_more i (free_in can s.slot));
      number = omega (arith, c.number, sum_more i (λ k. bit_of (goes k)), ap bit_of (left (s.slot i) refl));
    }
      where
        left : (o : Opt Entry) → s.slot i ≡ o → is_some o && any i (free_in can s.slot) ≡ false
        left none u = refl
        left (some e) u = sym c.below ∙ none_of i (free_in can x.slot) (f e (c.same i (omega arith) ∙ u))

    moves : i < 32 → (j : ℕ) (e : Entry) → Moves can x.slot i j e → Counted (i + 1) (move_entry i j x)
    moves b j e h = record {
      same = λ m d. slot_same h m (λ z. omega arith) (λ z. omega (arith, h.low.below)) ∙ c.same m (omega arith);
      roomy = move_roomy c.roomy h;
      below = any_of (i + 1) (free_in can (move_entry i j x).slot) i (omega arith) freed ∙ sym (any_more i (free_in can s.slot) ∙ or_left _ _ lower);
      number = omega (arith, c.number, sum_more i (λ k. bit_of (goes k)), ap bit_of goes_i);
    }
      where
        lower : any i (free_in can s.slot) ≡ true
        lower = sym c.below ∙ any_of i (free_in can x.slot) j h.low.below h.low.holds

        freed : free_in can (move_entry i j x).slot i ≡ true
        freed = rw (from_empty h, c.roomy i e h.at) refl

        goes_i : goes i ≡ true
        goes_i = rw (sym (c.same i (omega arith)) ∙ h.at, lower) refl

  pub packed_number : Roomy can s.slot → (carried (pack_slot can) s 32).moved ≡ s.moved + count 32 goes
  packed_number r = (turns can s Counted
      (record { same = λ m b. refl; roomy = r; below = refl; number = omega (arith, count_le 0 goes) })
      (λ _ _ c f. stays c f) (λ _ _ c b j e h. moves c b j e h)).number

-- so the first value of a pack is the number of P's entries with a free slot below them
pub pack_number : {t : Table} → Right t → (p : ℕ) {v w : ℕ} {t' : Table} → pack t p ≡ completed v w t'
    → v ≡ count 32 (λ i. is_some (t.k.slot p i) && any i (free t.k p))
unfolding packed usable free
pack_number {t} h p x =
    let (_, n, _) = pack_done h p x in
    n ∙ packed_number (usable t.k p) (packing_of t p 0) (entries_roomy h p) ∙ zero-add _
