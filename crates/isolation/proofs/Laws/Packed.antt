-- Request 111's sentences, of the table that a pack leaves.
use Rattle.std.specs.Prelude.{◌≡◌, List, [], ◌∷◌}
use Rattle.std.proofs.Math.Path.{refl, ap, sym}
use Rattle.std.proofs.Common.{◌∙◌, arith}
use Rattle.std.proofs.Math.Bool.{false≢true}
use Prim.Native.Nat.{ℕ, zero, suc, ◌≤◌}
use Rattle.tables.specs.State.{Opt, none, some, Entry, K, Table}
use Rattle.tables.specs.Laws.State.{not_none, never_some}
use Rattle.tables.specs.Laws.Update.{upd1_same, row_other}
use Rattle.tables.specs.Write.{with_slot}
use Rattle.tables.specs.Search.{lowest, is_some, free, holds_at, looked_at, look_for}
use Rattle.tables.specs.Laws.Search.{lowest_some}
use Rattle.tables.specs.WayUp.{way_up}
use Rattle.tables.specs.Settle.{open_at}
use Rattle.sound.proofs.Laws.MeansEntries.{holds_means}
use Rattle.sound.specs.Core.{Core}
use Rattle.sound.specs.Whole.{Right}
use Rattle.sound.specs.Holders.{receiver, given_by, heir, deepest, trail, holders_of, sum_over, looks_of}
use Rattle.sound.proofs.Laws.Found.{in_table, line_found}
use Rattle.rules.specs.Pack.{usable, packing_of, packed}
use Rattle.rules.proofs.Laws.Pack.{Lowered, packed_follows, packed_loaded}
use Rattle.rules.specs.Rules.{done, pack_k, pack_region, pack}
use Rattle.isolation.specs.Laws.Checks.{free_means}
use Rattle.isolation.specs.Pack.{Packed}
use Rattle.isolation.specs.Laws.PackOrder.{packed_order}
use Rattle.isolation.proofs.Laws.Pack.{pack_lowered, pack_core, pack_settled, pack_done, pack_tight}

-- ── the search for a line ──
-- whom the entry of the slot that is found is given to is the heir
heir_found : (k : K) (q i l : ℕ) (e : Entry) → lowest 32 (holds_at k q l) ≡ some i → k.slot q i ≡ some e → heir k l q ≡ e.given
unfolding heir given_by receiver
heir_found k q i l e z u = rw (z, u) refl

sum_le : (f g : ℕ → ℕ) (xs : List ℕ) → ((x : ℕ) → f x ≤ g x) → sum_over f xs ≤ sum_over g xs
unfolding sum_over
sum_le f g [] h = omega arith
sum_le f g (x ∷ xs) h = omega (arith, h x, sum_le f g xs h)

-- ── entries that stand lower: the same holders, and no more slot words looked at ──
module _ {k : K} {new : ℕ → ℕ → Opt Entry} (h : Core k) (g : Core (with_slot k new)) (rows : (q : ℕ) → Lowered (k.slot q) (new q)) (l : ℕ) where
  abbrev later : K
  later = with_slot k new

  -- what one search finds and looks at, then and before
  pub record LooksNoMore (q : ℕ) : Type 0 where
    pub heir_is : heir later l q ≡ heir k l q
    pub count : (look_for later l q).count ≤ (look_for k l q).count

  nearer : (q : ℕ) → LooksNoMore q
  unfolding heir given_by receiver looked_at
  nearer q = go (lowest 32 (holds_at k q l)) refl
    where
      none_later : lowest 32 (holds_at k q l) ≡ none → (o : Opt ℕ) → lowest 32 (holds_at later q l) ≡ o → o ≡ none
      none_later z none y = refl
      none_later z (some m) y =
          let (e, u, x) = (holds_means l (new q m)).0 (lowest_some 32 (holds_at later q l) m y).holds in
          let (n, _, v) = (rows q).was m e u in
          not_none (lowest 32 (holds_at k q l)) z (line_found h q n l e v x)

      go : (o : Opt ℕ) → lowest 32 (holds_at k q l) ≡ o → LooksNoMore q
      go none z = let y = none_later z (lowest 32 (holds_at later q l)) refl in record { heir_is = rw (y, z) refl; count = rw (y, z) (omega arith) }
      go (some i) z =
          let (e, u, x) = (holds_means l (k.slot q i)).0 (lowest_some 32 (holds_at k q l) i z).holds in
          let (m, b, v) = (rows q).now i e u in
          let y = line_found g q m l e v x in
          record { heir_is = heir_found later q m l e y v ∙ sym (heir_found k q i l e z u); count = rw (y, z) (omega arith) }

  pub deepest_same : (p n : ℕ) → deepest later l p n ≡ deepest k l p n
  unfolding deepest
  deepest_same p zero = refl
  deepest_same p (suc n) = rw ((nearer p).heir_is, deepest_same (heir k l p) n) refl

  pub holders_same : holders_of later l ≡ holders_of k l
  unfolding holders_of trail
  holders_same = ap (way_up k.parent 15) (deepest_same 0 15)

  pub looks_fewer : looks_of later l ≤ looks_of k l
  unfolding looks_of
  looks_fewer = rw holders_same (sum_le (λ q. (look_for later l q).count) (λ q. (look_for k l q).count) (holders_of k l) (λ q. (nearer q).count))

-- ── what a pack leaves ──
module _ {t : Table} (h : Right t) (p : ℕ) where
  -- as it stands before the table is settled, which changes nothing
  leaves : Packed t (record { k = pack_k t p; opened = open_at (pack_k t p); region = pack_region t p }) p
  unfolding packed usable free
  leaves =
      let can = usable t.k p in
      let s = packing_of t p 0 in
      let slot = upd1_same t.k.slot p (packed t p).slot p refl in
      let region = upd1_same t.region p (packed t p).region p refl in
      record {
        order = rw slot (packed_order can s);
        lowest = λ i j e u b f. absurd (false≢true (sym ((pack_tight h p).below i j e (in_table (pack_core h p) p i e u).1 u b) ∙ (free_means (pack_k t p) p j).1 f));
        follow = λ r i e u v. rw (slot, region) (packed_follows can s r i e u v);
        unloaded = λ r u. rw region (never_some ((packed t p).region r) (λ a v. none_is r u a v));
        slots = λ q i n. row_other t.k.slot p (packed t p).slot q i n;
        regions = λ q r n. row_other t.region p (packed t p).region q r n;
        holders = λ l. holders_same h.core (pack_core h p) (pack_lowered h p) l;
        looks = λ l. looks_fewer h.core (pack_core h p) (pack_lowered h p) l;
      }
    where
      none_is : (r : ℕ) → t.region p r ≡ none → (m : ℕ) → (packed t p).region r ≡ some m → ⊥
      none_is r u m v = false≢true (ap is_some (sym u) ∙ sym (packed_loaded (usable t.k p) (packing_of t p 0) r) ∙ ap is_some v)

  pub pack_leaves : {v w : ℕ} {t' : Table} → pack t p ≡ done v w t' → Packed t t' p
  pack_leaves x = let (_, _, z) = pack_done h p x in rw (z ∙ pack_settled h p) leaves
