-- The pieces that the code counts are those of the table: of an entry, of a region, and of all that would be loaded after a load.
use Rattle.std.specs.Prelude.{◌≡◌, Bool, cond, List, ℕ, zero, suc, ◌<◌, eqb, length}
use Rattle.std.proofs.Math.Path.{refl, ap}
use Rattle.std.proofs.Common.{sym, ◌∙◌, arith, eq-eqb, ne_eqb}
use Rattle.std.proofs.Math.Bool.{true, false}
use Rattle.std.proofs.Math.Decide.{ℕ_discrete}
use Rattle.loops.specs.Laws.Count.{sum_ext}
use Rattle.words.specs.declared.regions_word.Region.{Region}
use Rattle.words.specs.declared.regions_word.RegionsFields.{RegionsFields}
use Rattle.words.specs.declared.slot_word.SlotFields.{SlotFields}
use Rattle.shapes.specs.declared.Board.{Board}
use Rattle.shapes.specs.Pieces.{pieces_for}
use Rattle.tables.specs.State.{Opt, some, Entry}
use Rattle.tables.specs.Update.{upd}
use Rattle.tables.specs.Laws.Update.{upd_same, upd_other}
use Rattle.tables.specs.View.{entry_in, nth_region, named, view}
use Rattle.tables.specs.Regions.{with_region}
use Rattle.tables.specs.Seen.{Seen, SeenRegions}
use Rattle.sound.specs.Limit.{entry_pieces, region_pieces, loaded_pieces}
use Rattle.loaded.specs.Limit.{CanCount, pieces_of}

-- ── slot i of p, which was read as f ──
module _ (b : Board) {l : List ℕ} {p i : ℕ} {f : SlotFields} (v : Seen l p i f) where
  pub entry_empty : f.present ≡ false → 0 ≡ entry_pieces b ((view l).k.slot p i)
  unfolding entry_pieces entry_in
  entry_empty q = rw (v.slot, q) refl

  pub entry_counted : {n : ℕ} → f.present ≡ true → n ≡ length (pieces_for b f.start.0 f.end.0) → n ≡ entry_pieces b ((view l).k.slot p i)
  unfolding entry_pieces entry_in
  entry_counted q e = rw (v.slot, q) e

-- ── a region ──
module _ (b : Board) (slot : ℕ → Opt Entry) (x : Region) where
  pub region_empty : x.loaded ≡ false → 0 ≡ region_pieces b slot (named x)
  unfolding region_pieces named
  region_empty q = rw q refl

  pub region_counted : {n : ℕ} → x.loaded ≡ true → n ≡ entry_pieces b (slot x.slot.0) → n ≡ region_pieces b slot (named x)
  unfolding region_pieces named
  region_counted q e = rw q e

-- ── all that is loaded ──
pub counted_small : {p : ℕ} {f : RegionsFields} {x : Region} → CanCount p f → (r : ℕ) → x ≡ nth_region f r → x.slot.0 < 32
counted_small h r is = rw is (h.slots r)

-- ── region r with another value ──
nth_with : (f : RegionsFields) (r : ℕ) (x : Region) (q : ℕ) → q < 8 → nth_region (with_region f r x) q ≡ cond (eqb r q) x (nth_region f q)
unfolding nth_region
nth_with f r x zero h = refl
nth_with f r x (suc zero) h = refl
nth_with f r x (suc (suc zero)) h = refl
nth_with f r x (suc (suc (suc zero))) h = refl
nth_with f r x (suc (suc (suc (suc zero)))) h = refl
nth_with f r x (suc (suc (suc (suc (suc zero))))) h = refl
nth_with f r x (suc (suc (suc (suc (suc (suc zero)))))) h = refl
nth_with f r x (suc (suc (suc (suc (suc (suc (suc zero))))))) h = refl
nth_with f r x (suc (suc (suc (suc (suc (suc (suc (suc q)))))))) h = absurd (omega arith)

abbrev pub loaded_with : ℕ → Region
loaded_with s = record { loaded = true; slot = record { 0 = s } }

module _ {l : List ℕ} {p : ℕ} {f : RegionsFields} (v : SeenRegions l p f) (r s : ℕ) where
  region_after : (q : ℕ) → q < 8 → named (nth_region (with_region f r (loaded_with s)) q) ≡ upd (view l).region p r (some s) p q
  unfolding named
  region_after q h = ap named (nth_with f r (loaded_with s) q h) ∙ go (ℕ_discrete q r)
    where
      go : Dec (q ≡ r) → named (cond (eqb r q) (loaded_with s) (nth_region f q)) ≡ upd (view l).region p r (some s) p q
      go (yes z) = rw (eq-eqb r q (sym z)) (sym (upd_same (view l).region p r (some s) p q (refl, z)))
      go (no z) = rw (ne_eqb r q (λ y. z (sym y))) (sym (upd_other (view l).region p r (some s) p q (λ w. z w.1) ∙ v.region q h))

  -- the pieces after a load
  pub pieces_after : (b : Board) → pieces_of b (view l) p (with_region f r (loaded_with s)) ≡ loaded_pieces b (view l).k.slot (upd (view l).region p r (some s)) p
  unfolding pieces_of loaded_pieces
  pieces_after b = sum_ext 8 _ _ (λ q h. ap (region_pieces b ((view l).k.slot p)) (region_after q h))

  pub can_count_after : p < 16 → s < 32 → CanCount p (with_region f r (loaded_with s))
  unfolding nth_region
  can_count_after h w = record { in_p = h; slots = small }
    where
      pick : (y : Bool) (x : Region) → x.slot.0 < 32 → (cond y (loaded_with s) x).slot.0 < 32
      pick true x u = w
      pick false x u = u

      small : (q : ℕ) → (nth_region (with_region f r (loaded_with s)) q).slot.0 < 32
      small zero = pick (eqb r 0) f.region0 (v.small 0)
      small (suc zero) = pick (eqb r 1) f.region1 (v.small 1)
      small (suc (suc zero)) = pick (eqb r 2) f.region2 (v.small 2)
      small (suc (suc (suc zero))) = pick (eqb r 3) f.region3 (v.small 3)
      small (suc (suc (suc (suc zero)))) = pick (eqb r 4) f.region4 (v.small 4)
      small (suc (suc (suc (suc (suc zero))))) = pick (eqb r 5) f.region5 (v.small 5)
      small (suc (suc (suc (suc (suc (suc zero)))))) = pick (eqb r 6) f.region6 (v.small 6)
      small (suc (suc (suc (suc (suc (suc (suc zero))))))) = pick (eqb r 7) f.region7 (v.small 7)
      small (suc (suc (suc (suc (suc (suc (suc (suc q)))))))) = v.small (suc (suc (suc (suc (suc (suc (suc (suc q))))))))
