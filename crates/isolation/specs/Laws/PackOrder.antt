-- Packing keeps the order: the list of the entries in slot order is the same.
use Rattle.std.specs.Prelude.{◌≡◌, refl, Bool, List, ◌++◌}
use Rattle.std.proofs.Common.{ap, ap₂, sym, ◌∙◌, append-nil, arith}
use Prim.Native.Nat.{ℕ, zero, suc, ◌≤◌, ◌<◌}
use Rattle.std.proofs.Math.Decide.{ℕ_discrete}
use Rattle.loops.specs.Loops.{carried}
use Rattle.tables.specs.State.{Opt, none, Entry}
use Rattle.rules.specs.Pack.{Packing, move_slot, pack_slot}
use Rattle.rules.proofs.Laws.Pack.{Moves, turns, to_holds, to_empty, from_empty, slot_same, Tight, tight_stays, tight_moves, none_between}
use Rattle.isolation.specs.Pack.{entry_only, entries_of}

-- ── the entries of the first n slots ──
-- slots without an entry add none
entries_none : (slot : ℕ → Opt Entry) (a b : ℕ) → a ≤ b → ((m : ℕ) → a ≤ m → m < b → slot m ≡ none) → entries_of slot b ≡ entries_of slot a
unfolding entries_of
entries_none slot a zero h f = let z : 0 ≡ a = omega arith in ap (entries_of slot) z
entries_none slot a (suc b) h f = go (ℕ_discrete a (suc b)) (λ c. entries_none slot a b c (λ m d e. f m d (omega arith)))
  where
    go : Dec (a ≡ suc b) → (a ≤ b → entries_of slot b ≡ entries_of slot a) → entries_of slot (suc b) ≡ entries_of slot a
    go (yes z) ih = ap (entries_of slot) (sym z)
    go (no z) ih =
        ap (λ (o : Opt Entry). entries_of slot b ++ entry_only o) (f b (omega arith) (omega arith))
        ∙ append-nil (entries_of slot b)
        ∙ ih (omega arith)

-- the same up to a, and the same slots from a on
entries_on : (f g : ℕ → Opt Entry) (a b : ℕ) → entries_of f a ≡ entries_of g a → a ≤ b → ((m : ℕ) → a ≤ m → m < b → f m ≡ g m) → entries_of f b ≡ entries_of g b
unfolding entries_of
entries_on f g a zero e h same = let z : a ≡ 0 = omega arith in ap (entries_of f) (sym z) ∙ e ∙ ap (entries_of g) z
entries_on f g a (suc b) e h same = go (ℕ_discrete a (suc b)) (λ c. entries_on f g a b e c (λ m d i. same m d (omega arith)))
  where
    go : Dec (a ≡ suc b) → (a ≤ b → entries_of f b ≡ entries_of g b) → entries_of f (suc b) ≡ entries_of g (suc b)
    go (yes z) ih = ap (entries_of f) (sym z) ∙ e ∙ ap (entries_of g) z
    go (no z) ih = ap₂ (λ (xs : List Entry) (o : Opt Entry). xs ++ entry_only o) (ih (omega arith)) (same b (omega arith) (omega arith))

-- one move: from slot j, the free one, to slot i no other entry stands
module _ {can : ℕ → Bool} {slot : ℕ → Opt Entry} {i j : ℕ} {e : Entry} (t : Tight can slot i) (h : Moves can slot i j e) where
  move_order : i < 32 → entries_of (move_slot i j slot) 32 ≡ entries_of slot 32
  unfolding entries_of
  move_order b =
      entries_on new slot (suc i) 32 up_to (omega arith) (λ m c d. slot_same h m (λ z. omega arith) (λ z. omega (arith, h.low.below)))
    where
      new : ℕ → Opt Entry
      new = move_slot i j slot

      below : entries_of new j ≡ entries_of slot j
      below = entries_on new slot 0 j refl (omega arith) (λ m c d. slot_same h m (λ z. omega (arith, h.low.below)) (λ z. omega arith))

      -- slots j to i: the entry is the first of them, and it was the last
      now : entries_of new (suc i) ≡ entries_of new (suc j)
      now = entries_none new (suc j) (suc i) (omega (arith, h.low.below)) (λ m c d. go m c d (ℕ_discrete m i))
        where
          go : (m : ℕ) → suc j ≤ m → m < suc i → Dec (m ≡ i) → new m ≡ none
          go m c d (yes z) = ap new z ∙ from_empty h
          go m c d (no z) = slot_same h m z (λ w. omega arith) ∙ none_between t h m (omega arith) (omega arith)

      was : entries_of slot i ≡ entries_of slot j
      was = entries_none slot j i (omega (arith, h.low.below)) (λ m c d. go m c d (ℕ_discrete m j))
        where
          go : (m : ℕ) → j ≤ m → m < i → Dec (m ≡ j) → slot m ≡ none
          go m c d (yes z) = ap slot z ∙ to_empty h
          go m c d (no z) = none_between t h m (omega arith) d

      up_to : entries_of new (suc i) ≡ entries_of slot (suc i)
      up_to = now ∙ ap₂ (λ (xs : List Entry) (o : Opt Entry). xs ++ entry_only o) (below ∙ sym was) (to_holds h)

pub packed_order : (can : ℕ → Bool) (s : Packing) → entries_of (carried (pack_slot can) s 32).slot 32 ≡ entries_of s.slot 32
packed_order can s =
    (turns can s (λ i x. Tight can x.slot i × (entries_of x.slot 32 ≡ entries_of s.slot 32)) (record { below = λ n m e b. absurd (omega arith) }, refl)
    (λ _ _ (t, q) f. (tight_stays t f, q)) (λ _ _ (t, q) b _ _ h. (tight_moves t h, move_order t h b ∙ q))).1
