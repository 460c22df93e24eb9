-- Packing, turn by turn: where an entry stands then, that no free slot is left below one, that a second time moves none, and that regions follow their entries.
use Rattle.std.specs.Prelude.{◌≡◌, refl, Bool, true, false, cond, ◌⊎◌, ℕ, ◌+◌, ◌≤◌, ◌<◌, eqb}
use Rattle.std.proofs.Common.{ap, sym, ◌∙◌, inl, inr, arith, eq-eqb, ne_eqb}
use Rattle.std.proofs.lemmas.Bool.{false≢true}
use Rattle.std.proofs.Math.Decide.{ℕ_discrete, dec_lt}
use Rattle.loops.specs.Loops.{NoneBelow, carried}
use Rattle.loops.specs.Laws.Carry.{done_keeps}
use Rattle.tables.specs.State.{Opt, none, some, Entry, Table}
use Rattle.tables.specs.Laws.State.{some_inj, not_none}
use Rattle.tables.specs.Update.{upd1}
use Rattle.tables.specs.Laws.Update.{upd1_same, upd1_other, upd1_from}
use Rattle.tables.specs.Search.{lowest, Lowest, is_some, is_none}
use Rattle.tables.specs.Laws.Search.{lowest_some, lowest_none, none_is}
use Rattle.tables.specs.Lines.{In}
use Rattle.tables.specs.Settle.{open_bit, open_at}
use Rattle.sound.specs.Laws.Tests.{and_says}
use Rattle.sound.specs.Laws.Settled.{Settled}
use Rattle.rules.specs.Pack.{Packing, free_in, move_slot, rename, move_entry, move_to, pack_slot, usable, packing_of, packed}

-- the entry e of slot i moves to slot j, the lowest free one below it
pub record Moves (can : ℕ → Bool) (slot : ℕ → Opt Entry) (i j : ℕ) (e : Entry) : Type 0 where
  pub at : slot i ≡ some e
  pub low : Lowest i (free_in can slot) j

-- a turn: no slot below an entry is free, or it moves
pub turn : (can : ℕ → Bool) (i : ℕ) (s : Packing) (P : Packing → Type 0)
    → (((e : Entry) → s.slot i ≡ some e → NoneBelow (free_in can s.slot) i) → P s)
    → ((j : ℕ) (e : Entry) → Moves can s.slot i j e → P (move_entry i j s))
    → P (pack_slot can i s)
unfolding pack_slot move_to
turn can i s P stay move = go (s.slot i) refl (lowest i (free_in can s.slot)) refl
  where
    go : (o : Opt Entry) → s.slot i ≡ o → (x : Opt ℕ) → lowest i (free_in can s.slot) ≡ x → P (cond (is_some o) (move_to i s x) s)
    go none u x q = stay (λ e v. not_none (s.slot i) u v)
    go (some e) u none q = stay (λ _ _. lowest_none i (free_in can s.slot) q)
    go (some e) u (some j) q = move j e (record { at = u; low = lowest_some i (free_in can s.slot) j q })

-- what holds before the first turn and is kept by those that move nothing and by those that move an entry, holds after the last
pub turns : (can : ℕ → Bool) (s : Packing) (P : ℕ → Packing → Type 0) → P 0 s
    → ((i : ℕ) (x : Packing) → P i x → ((e : Entry) → x.slot i ≡ some e → NoneBelow (free_in can x.slot) i) → P (i + 1) x)
    → ((i : ℕ) (x : Packing) → P i x → i < 32 → (j : ℕ) (e : Entry) → Moves can x.slot i j e → P (i + 1) (move_entry i j x))
    → P 32 (carried (pack_slot can) s 32)
turns can s P start stay move =
    done_keeps (pack_slot can) s P 32 start (λ i x b h. turn can i x (P (i + 1)) (stay i x h) (move i x h b))

-- ── where an entry stands after a move ──
pub data Now (i j was now : ℕ) : Type 0 where
  there : (was ≡ i → ⊥) → now ≡ was → Now i j was now
  moved : was ≡ i → now ≡ j → Now i j was now

pub now_one : {i j was a b : ℕ} → Now i j was a → Now i j was b → a ≡ b
now_one (there _ x) (there _ y) = x ∙ sym y
now_one (there n _) (moved y _) = absurd (n y)
now_one (moved y _) (there n _) = absurd (n y)
now_one (moved _ x) (moved _ y) = x ∙ sym y

module _ {can : ℕ → Bool} {slot : ℕ → Opt Entry} {i j : ℕ} {e : Entry} (h : Moves can slot i j e) where
  pub to_usable : can j ≡ true
  to_usable = (and_says (can j) (is_none (slot j)) h.low.holds).0

  pub to_empty : slot j ≡ none
  to_empty = none_is (slot j) (and_says (can j) (is_none (slot j)) h.low.holds).1

  under : j < i
  under = h.low.below

  now_le : {m n : ℕ} → Now i j m n → n ≤ m
  now_le (there _ z) = omega arith
  now_le (moved y z) = omega (arith, under)

  pub entry_came : (m : ℕ) (a : Entry) → move_slot i j slot m ≡ some a → (n : ℕ) × (slot n ≡ some a) × Now i j n m
  entry_came m a u = go (upd1_from (upd1 slot j (slot i)) i none m u)
    where
      at : (m ≡ i → ⊥) → ((m ≡ j) × (slot i ≡ some a)) ⊎ ((m ≡ j → ⊥) × (slot m ≡ some a)) → (n : ℕ) × (slot n ≡ some a) × Now i j n m
      at n (inl (z, w)) = (i, w, moved refl z)
      at n (inr (_, w)) = (m, w, there n refl)

      go : ((m ≡ i) × (none ≡ some a)) ⊎ ((m ≡ i → ⊥) × (upd1 slot j (slot i) m ≡ some a)) → (n : ℕ) × (slot n ≡ some a) × Now i j n m
      go (inl (_, z)) = not_none none refl z
      go (inr (n, v)) = at n (upd1_from slot j (slot i) m v)

  -- slot j has what slot i had
  pub to_holds : move_slot i j slot j ≡ slot i
  to_holds = upd1_other (upd1 slot j (slot i)) i none j (λ z. omega (arith, under)) ∙ upd1_same slot j (slot i) j refl

  -- slot i is empty
  pub from_empty : move_slot i j slot i ≡ none
  from_empty = upd1_same (upd1 slot j (slot i)) i none i refl

  -- .. and all others are as they were
  pub slot_same : (m : ℕ) → (m ≡ i → ⊥) → (m ≡ j → ⊥) → move_slot i j slot m ≡ slot m
  slot_same m n x = upd1_other (upd1 slot j (slot i)) i none m n ∙ upd1_other slot j (slot i) m x

  pub entry_goes : (m : ℕ) (a : Entry) → slot m ≡ some a → (n : ℕ) × (move_slot i j slot n ≡ some a) × Now i j m n
  entry_goes m a u = go (ℕ_discrete m i)
    where
      go : Dec (m ≡ i) → (n : ℕ) × (move_slot i j slot n ≡ some a) × Now i j m n
      go (yes z) = (j, to_holds ∙ (rw z at u), moved z refl)
      go (no n) = (m, slot_same m n (λ z. not_none (slot j) to_empty (rw z at u)) ∙ u, there n refl)

-- ── every entry stands in its slot or in a lower one, and there is no other ──
pub record Lowered (old new : ℕ → Opt Entry) : Type 0 where
  pub was : (m : ℕ) (a : Entry) → new m ≡ some a → (n : ℕ) × (m ≤ n) × (old n ≡ some a)
  pub now : (n : ℕ) (a : Entry) → old n ≡ some a → (m : ℕ) × (m ≤ n) × (new m ≡ some a)

pub lowered_same : (slot : ℕ → Opt Entry) → Lowered slot slot
lowered_same slot = record { was = λ m a u. (m, omega arith, u); now = λ n a u. (n, omega arith, u) }

move_lowered : {can : ℕ → Bool} {old slot : ℕ → Opt Entry} {i j : ℕ} {e : Entry} → Lowered old slot → Moves can slot i j e → Lowered old (move_slot i j slot)
move_lowered g h = record {
  was = λ m a u.
      let (n, v, x) = entry_came h m a u in
      let (o, y, w) = g.was n a v in
      (o, omega (arith, now_le h x), w);
  now = λ o a u.
      let (n, y, v) = g.now o a u in
      let (m, w, x) = entry_goes h n a v in
      (m, omega (arith, now_le h x), w);
}

pub packed_lowered : (can : ℕ → Bool) (s : Packing) → Lowered s.slot (carried (pack_slot can) s 32).slot
packed_lowered can s = turns can s (λ _ x. Lowered s.slot x.slot) (lowered_same s.slot) (λ _ _ g _. g) (λ _ _ g _ _ _ h. move_lowered g h)

-- each in a usable slot
abbrev pub Roomy : (ℕ → Bool) → (ℕ → Opt Entry) → Type 0
Roomy can slot = (m : ℕ) (a : Entry) → slot m ≡ some a → can m ≡ true

pub move_roomy : {can : ℕ → Bool} {slot : ℕ → Opt Entry} {i j : ℕ} {e : Entry} → Roomy can slot → Moves can slot i j e → Roomy can (move_slot i j slot)
move_roomy {can} {i = i} {j} g h m a u = let (n, v, w) = entry_came h m a u in at (g n a v) w
  where
    at : {n m : ℕ} → can n ≡ true → Now i j n m → can m ≡ true
    at q (there _ z) = rw z q
    at q (moved _ z) = rw z (to_usable h)

pub packed_roomy : (can : ℕ → Bool) (s : Packing) → Roomy can s.slot → Roomy can (carried (pack_slot can) s 32).slot
packed_roomy can s start = turns can s (λ _ x. Roomy can x.slot) start (λ _ _ g _. g) (λ _ _ g _ _ _ h. move_roomy g h)

-- no line in two of them
abbrev pub SlotsApart : (ℕ → Opt Entry) → Type 0
SlotsApart slot = (m n : ℕ) (a b : Entry) (l : ℕ) → slot m ≡ some a → slot n ≡ some b → In l a → In l b → m ≡ n

pub packed_apart : (can : ℕ → Bool) (s : Packing) → SlotsApart s.slot → SlotsApart (carried (pack_slot can) s 32).slot
packed_apart can s start = turns can s (λ _ x. SlotsApart x.slot) start (λ _ _ g _. g) (λ i x g _ j e h m n a b l u v y z.
    let (o, w, c) = entry_came h m a u in
    let (q, t, d) = entry_came h n b v in
    let same : o ≡ q = g o q a b l w t y z in
    now_one (rw same at c) d)

-- at most one entry a turn moves
pub packed_few : (can : ℕ → Bool) (s : Packing) (n : ℕ) → (carried (pack_slot can) s n).moved ≤ s.moved + n
packed_few can s n = done_keeps (pack_slot can) s (λ i x. x.moved ≤ s.moved + i) n (omega arith)
    (λ i x b h. turn can i x (λ y. y.moved ≤ s.moved + (i + 1)) (λ _. omega arith) (λ _ _ _. omega arith))

-- ── no free slot is left below an entry ──
-- .. of the first i slots
pub record Tight (can : ℕ → Bool) (slot : ℕ → Opt Entry) (i : ℕ) : Type 0 where
  pub below : (n m : ℕ) (e : Entry) → n < i → slot n ≡ some e → m < n → free_in can slot m ≡ false

module _ {can : ℕ → Bool} {slot : ℕ → Opt Entry} {i : ℕ} (t : Tight can slot i) where
  pub tight_stays : ((e : Entry) → slot i ≡ some e → NoneBelow (free_in can slot) i) → Tight can slot (i + 1)
  tight_stays f = record { below = λ n m e b u c. go n m e b u c (ℕ_discrete n i) }
    where
      go : (n m : ℕ) (e : Entry) → n < i + 1 → slot n ≡ some e → m < n → Dec (n ≡ i) → free_in can slot m ≡ false
      go n m e b u c (yes z) = f e (rw z at u) m (omega arith)
      go n m e b u c (no z) = t.below n m e (omega arith) u c

  module _ {j : ℕ} {e : Entry} (h : Moves can slot i j e) where
    -- an entry between j and i would have the free slot j below it
    pub none_between : (n : ℕ) → j < n → n < i → slot n ≡ none
    none_between n b c = go (slot n) refl
      where
        go : (o : Opt Entry) → slot n ≡ o → o ≡ none
        go none u = refl
        go (some a) u = absurd (false≢true (sym (t.below n j a c u b) ∙ h.low.holds))

    -- below j nothing has changed
    free_same : (m : ℕ) → m < j → free_in can (move_slot i j slot) m ≡ free_in can slot m
    free_same m b = rw (slot_same h m (λ z. omega (arith, h.low.below)) (λ z. omega arith)) refl

    pub tight_moves : Tight can (move_slot i j slot) (i + 1)
    tight_moves = record { below = λ n m a b u c. go n m a b u c (ℕ_discrete n i) (ℕ_discrete n j) }
      where
        before : (n : ℕ) (a : Entry) → n < i → slot n ≡ some a → (n ≡ j → ⊥) → Dec (j < n) → n < j
        before n a b u x (yes c) = not_none (slot n) (none_between n c b) u
        before n a b u x (no c) = omega arith

        go : (n m : ℕ) (a : Entry) → n < i + 1 → move_slot i j slot n ≡ some a → m < n → Dec (n ≡ i) → Dec (n ≡ j) → free_in can (move_slot i j slot) m ≡ false
        go n m a b u c (yes z) _ = not_none (move_slot i j slot i) (from_empty h) (rw z at u)
        go n m a b u c (no x) (yes z) = free_same m (omega arith) ∙ h.low.before m (omega arith)
        go n m a b u c (no x) (no y) =
            let v = sym (slot_same h n x y) ∙ u in
            let d = before n a (omega arith) v y (dec_lt j n) in
            free_same m (omega arith) ∙ t.below n m a (omega arith) v c

pub packed_tight : (can : ℕ → Bool) (s : Packing) → Tight can (carried (pack_slot can) s 32).slot 32
packed_tight can s = turns can s (λ i x. Tight can x.slot i) (record { below = λ n m e b. absurd (omega arith) })
    (λ _ _ t f. tight_stays t f) (λ _ _ t _ _ _ h. tight_moves t h)

-- where none is left, no turn changes anything
pub tight_same : (can : ℕ → Bool) (s : Packing) → Tight can s.slot 32 → carried (pack_slot can) s 32 ≡ s
tight_same can s t = done_keeps (pack_slot can) s (λ _ x. x ≡ s) 32 refl (λ i x b z. ap (pack_slot can i) z ∙ turn can i s (λ y. y ≡ s) (λ _. refl)
    (λ j e h. absurd (false≢true (sym (t.below i j e b h.at h.low.below) ∙ h.low.holds))))

-- ── regions ──
-- a region that is renamed was loaded, and names where the entry goes
pub rename_from : (i j : ℕ) (x : Opt ℕ) (m : ℕ) → rename i j x ≡ some m → (n : ℕ) × (x ≡ some n) × Now i j n m
unfolding rename
rename_from i j none m u = not_none none refl u
rename_from i j (some n) m u = (n, refl, go (ℕ_discrete n i))
  where
    go : Dec (n ≡ i) → Now i j n m
    go (yes z) = moved z (some_inj (sym u ∙ ap (λ (b : Bool). some (cond b j n)) (eq-eqb n i z)))
    go (no z) = there z (some_inj (sym u ∙ ap (λ (b : Bool). some (cond b j n)) (ne_eqb n i z)))

pub rename_to : (i j n : ℕ) → (m : ℕ) × (rename i j (some n) ≡ some m) × Now i j n m
unfolding rename
rename_to i j n = go (ℕ_discrete n i)
  where
    go : Dec (n ≡ i) → (m : ℕ) × (some (cond (eqb n i) j n) ≡ some m) × Now i j n m
    go (yes z) = (j, ap (λ (b : Bool). some (cond b j n)) (eq-eqb n i z), moved z refl)
    go (no z) = (n, ap (λ (b : Bool). some (cond b j n)) (ne_eqb n i z), there z refl)

-- the slot that a region names has what it had
module _ {can : ℕ → Bool} {slot : ℕ → Opt Entry} {i j : ℕ} {e : Entry} (h : Moves can slot i j e) where
  named_same : (n m : ℕ) → Now i j n m → (slot n ≡ none → ⊥) → move_slot i j slot m ≡ slot n
  named_same n m (moved y z) f = rw (y, z) (to_holds h)
  named_same n m (there y z) f = rw z (slot_same h n y (λ w. f (rw w (to_empty h))))

-- whatever is so of each slot that a region names, and not of an empty one, stays so
pub packed_named : (can : ℕ → Bool) (s : Packing) (Q : Opt Entry → Type 0) → (Q none → ⊥) → ((r m : ℕ) → s.region r ≡ some m → Q (s.slot m))
    → (r m : ℕ) → (carried (pack_slot can) s 32).region r ≡ some m → Q ((carried (pack_slot can) s 32).slot m)
packed_named can s Q empty start =
    turns can s (λ _ x. (r m : ℕ) → x.region r ≡ some m → Q (x.slot m)) start (λ _ _ g _. g) (λ i x g _ j e h r m u.
    let (n, v, w) = rename_from i j (x.region r) m u in
    rw (named_same h n m w (λ z. empty (rw z at (g r n v)))) (g r n v))

-- no slot twice: the slot that an entry moves to was empty, so no region named it
pub packed_once : (can : ℕ → Bool) (s : Packing) → ((r m : ℕ) → s.region r ≡ some m → s.slot m ≡ none → ⊥)
    → ((r q m : ℕ) → s.region r ≡ some m → s.region q ≡ some m → r ≡ q)
    → (r q m : ℕ) → (carried (pack_slot can) s 32).region r ≡ some m → (carried (pack_slot can) s 32).region q ≡ some m → r ≡ q
packed_once can s full start =
    (turns can s (λ _ x. ((r m : ℕ) → x.region r ≡ some m → x.slot m ≡ none → ⊥) × ((r q m : ℕ) → x.region r ≡ some m → x.region q ≡ some m → r ≡ q)) (full, start)
    (λ _ _ g _. g) (λ i x g _ j e h. (
      λ r m u z.
          let (n, v, w) = rename_from i j (x.region r) m u in
          g.0 r n v (sym (named_same h n m w (g.0 r n v)) ∙ z),
      λ r q m u y.
          let (n, v, w) = rename_from i j (x.region r) m u in
          let (o, t, z) = rename_from i j (x.region q) m y in
          g.1 r q n v (rw (same h n o m (g.0 r n v) (g.0 q o t) w z) t),
    ))).1
  where
    same : {slot : ℕ → Opt Entry} {i j : ℕ} {e : Entry} → Moves can slot i j e → (n o m : ℕ) → (slot n ≡ none → ⊥) → (slot o ≡ none → ⊥) → Now i j n m → Now i j o m → n ≡ o
    same h n o m f g (there _ y) (there _ z) = sym y ∙ z
    same h n o m f g (there _ y) (moved _ z) = absurd (f (rw (sym y ∙ z) (to_empty h)))
    same h n o m f g (moved _ y) (there _ z) = absurd (g (rw (sym z ∙ y) (to_empty h)))
    same h n o m f g (moved y _) (moved z _) = y ∙ sym z

-- .. and none is loaded or emptied
pub packed_loaded : (can : ℕ → Bool) (s : Packing) (r : ℕ) → is_some ((carried (pack_slot can) s 32).region r) ≡ is_some (s.region r)
unfolding rename
packed_loaded can s r = turns can s (λ _ x. is_some (x.region r) ≡ is_some (s.region r)) refl (λ _ _ g _. g) (λ i x g _ j e h. at i j (x.region r) ∙ g)
  where
    at : (i j : ℕ) (x : Opt ℕ) → is_some (rename i j x) ≡ is_some x
    at i j none = refl
    at i j (some n) = refl

-- a region that named an entry names it still
pub packed_follows : (can : ℕ → Bool) (s : Packing) (r m : ℕ) (a : Entry) → s.region r ≡ some m → s.slot m ≡ some a
    → (n : ℕ) × ((carried (pack_slot can) s 32).region r ≡ some n) × ((carried (pack_slot can) s 32).slot n ≡ some a)
packed_follows can s r m a u v =
    turns can s (λ _ x. (n : ℕ) × (x.region r ≡ some n) × (x.slot n ≡ some a)) (m, u, v) (λ _ _ g _. g) (λ i x (n, y, z) _ j e h.
    let (o, q, w) = rename_to i j n in
    (o, ap (rename i j) y ∙ q, named_same h n o w (λ q. not_none (x.slot n) q z) ∙ z))

-- in a settled table each slot that a region of p names then is open
pub packed_open : {t : Table} → Settled t → (p r m : ℕ) → (packed t p).region r ≡ some m → open_bit t.k.area ((packed t p).slot m) ≡ true
unfolding packed open_bit open_at
packed_open {t} h p =
    packed_named (usable t.k p) (packing_of t p 0) (λ o. open_bit t.k.area o ≡ true) (λ z. false≢true z) (λ r m u. h.bits p m ∙ h.names p r m u)
