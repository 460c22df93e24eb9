-- All lines of a piece have the same deepest holder, and a piece has a line and ends within the memory; and the exits of the descent that finds it.
use Rattle.std.specs.Prelude.{◌≡◌, List, Bool, eqb}
use Rattle.std.proofs.Math.Path.{refl, ap}
use Rattle.std.proofs.Common.{sym, ◌∙◌}
use Rattle.std.proofs.Math.Bool.{true, false, cond}
use Prim.Native.Nat.{ℕ, zero, suc, ◌-◌, ◌^◌, ◌≤◌, ◌<◌, min}
use Rattle.std.proofs.Math.Decide.{ℕ_discrete}
use native.Mathlib.Omega.{arith}
use borrow.Author.Tests.{eq-eqb, ne_eqb}
use Rattle.words.specs.declared.slot_word.SlotFields.{SlotFields}
use Rattle.tables.specs.State.{Opt, none, some, K}
use Rattle.tables.specs.View.{entry_of, view}
use Rattle.tables.specs.Laws.Seen.{see_first}
use Rattle.tables.specs.Lines.{Holds}
use Rattle.tables.specs.Search.{lowest, holds_at}
use Rattle.tables.specs.Laws.Search.{lowest_some}
use Rattle.sound.specs.Core.{Core}
use Rattle.sound.proofs.Laws.MeansEntries.{holds_means}
use Rattle.sound.specs.Holders.{receiver, given_by, heir, deepest}
use Rattle.sound.proofs.Laws.Holders.{deepest_here, deepest_last, deepest_down}
use Rattle.sound.proofs.Laws.Found.{in_table, line_found, heir_holds}
use Rattle.runs.specs.declared.pieces.Hop.{Hop}
use Rattle.runs.specs.Runs.{deepest_at}
use Rattle.runs.specs.Pieces.{end_of, end_by, end_at, nearest, piece_end, Hopped, Descent}

-- ── how far a piece goes ──
module _ (k : K) (l : ℕ) where
  pub end_after_law : (p : ℕ) → l < end_at k l p
  unfolding end_at end_by end_of
  end_after_law p = go (lowest 32 (holds_at k p l)) refl
    where
      go : (o : Opt ℕ) → lowest 32 (holds_at k p l) ≡ o → l < end_by k l p o
      go none q = omega arith
      go (some i) q =
          let (e, x, y) = (holds_means l (k.slot p i)).0 (lowest_some 32 (holds_at k p l) i q).holds in
          rw x y.to

  -- not above b ..
  nearest_le : (n p b : ℕ) → nearest k l p b n ≤ b
  unfolding nearest
  nearest_le zero p b = omega arith
  nearest_le (suc n) p b = go (eqb (heir k l p) 0) (nearest_le n (heir k l p) (min b (end_at k l p)))
    where
      go : (x : Bool) → nearest k l (heir k l p) (min b (end_at k l p)) n ≤ min b (end_at k l p)
          → cond x (min b (end_at k l p)) (nearest k l (heir k l p) (min b (end_at k l p)) n) ≤ b
      go true h = omega arith
      go false h = omega arith

  -- .. and past l, where b is
  nearest_after : (n p b : ℕ) → l < b → l < nearest k l p b n
  unfolding nearest
  nearest_after zero p b h = h
  nearest_after (suc n) p b h = go (eqb (heir k l p) 0) (nearest_after n (heir k l p) (min b (end_at k l p)) (omega (arith, end_after_law p)))
    where
      go : (x : Bool) → l < nearest k l (heir k l p) (min b (end_at k l p)) n → l < cond x (min b (end_at k l p)) (nearest k l (heir k l p) (min b (end_at k l p)) n)
      go true f = omega (arith, end_after_law p)
      go false f = f

-- ── the lines of a piece ──
module _ {k : K} (h : Core k) where
  -- p's slot that holds l holds every line m up to its end
  same_slot : (p l m : ℕ) → l ≤ m → m < end_at k l p → lowest 32 (holds_at k p m) ≡ lowest 32 (holds_at k p l)
  unfolding end_at end_by end_of
  same_slot p l m u v = go (lowest 32 (holds_at k p l)) refl v
    where
      go : (o : Opt ℕ) → lowest 32 (holds_at k p l) ≡ o → m < end_by k l p o → lowest 32 (holds_at k p m) ≡ o
      go none q w = let z : m ≡ l = omega arith in rw z q
      go (some i) q w =
          let f = lowest_some 32 (holds_at k p l) i q in
          let (e, x, y) = (holds_means l (k.slot p i)).0 f.holds in
          let z : m < e.stop = rw x at w in
          line_found h p i m e x (record { from = omega (arith, y.from); to = z })

  -- .. and ends where it ends
  pub same_end : (p l m : ℕ) → l ≤ m → m < end_at k l p → end_at k m p ≡ end_at k l p
  unfolding end_at end_by end_of
  same_end p l m u v = go (lowest 32 (holds_at k p l)) refl v (same_slot p l m u v)
    where
      go : (o : Opt ℕ) → lowest 32 (holds_at k p l) ≡ o → m < end_by k l p o → lowest 32 (holds_at k p m) ≡ lowest 32 (holds_at k p l) → end_by k m p (lowest 32 (holds_at k p m)) ≡ end_by k l p (lowest 32 (holds_at k p l))
      go none q w r = let z : m ≡ l = omega arith in rw (r, q, z) refl
      go (some i) q w r =
          let (e, x, _) = (holds_means l (k.slot p i)).0 (lowest_some 32 (holds_at k p l) i q).holds in
          rw (r, q, x) refl

  -- so the descents of l and of m go the same way
  pub same_heir : (p l m : ℕ) → l ≤ m → m < end_at k l p → heir k m p ≡ heir k l p
  unfolding heir
  same_heir p l m u v = ap (given_by k p) (same_slot p l m u v)

  same_deepest : (n p b l m : ℕ) → l ≤ m → m < nearest k l p b n → deepest k m p n ≡ deepest k l p n
  unfolding nearest deepest
  same_deepest zero p b l m u v = refl
  same_deepest (suc n) p b l m u v = go (ℕ_discrete (heir k l p) 0) (same_deepest n (heir k l p) (min b (end_at k l p)) l m u)
    where
      go : Dec (heir k l p ≡ 0) → (m < nearest k l (heir k l p) (min b (end_at k l p)) n → deepest k m (heir k l p) n ≡ deepest k l (heir k l p) n)
          → cond (eqb (heir k m p) 0) p (deepest k m (heir k m p) n) ≡ cond (eqb (heir k l p) 0) p (deepest k l (heir k l p) n)
      go (yes z) f =
          let w : m < min b (end_at k l p) = rw (eq-eqb (heir k l p) 0 z) at v in
          rw (same_heir p l m u (omega arith), eq-eqb (heir k l p) 0 z) refl
      go (no z) f =
          let w : m < nearest k l (heir k l p) (min b (end_at k l p)) n = rw (ne_eqb (heir k l p) 0 z) at v in
          let x = nearest_le k l n (heir k l p) (min b (end_at k l p)) in
          rw (same_heir p l m u (omega arith), ne_eqb (heir k l p) 0 z) (f w)

module _ {k : K} (h : Core k) (l : ℕ) where
  pub piece_same : (m : ℕ) → l ≤ m → m < piece_end k l → deepest_at k m ≡ deepest_at k l
  piece_same m u v = same_deepest h 15 0 k.stop l m u v

module _ (k : K) (l : ℕ) where
  pub piece_after : l < k.stop → l < piece_end k l
  piece_after b = nearest_after k l 15 0 k.stop b

  pub piece_within : piece_end k l ≤ k.stop
  piece_within = nearest_le k l 15 0 k.stop

-- ── the exits of the code ──
pub stop_small : (t : List ℕ) → (view t).k.stop < 2 ^ 27
stop_small t = let f = see_first t _ refl in omega (arith, f.stop, f.end_small)

pub holder_small : {k : K} {p l : ℕ} → Core k → Holds k.slot p l → p < 16
holder_small {k} {p} h u = (in_table h p u.i u.e u.at).0

-- every holder is one of the sixteen, and so is the deepest
pub deepest_small : {k : K} {l : ℕ} → Core k → k.base ≤ l → l < k.stop → deepest_at k l < 16
unfolding deepest
deepest_small {k} {l} h u v = go 15 0 ((h.s7_root_law l).1 (u, v))
  where
    go : (n p : ℕ) → Holds k.slot p l → deepest k l p n < 16
    go zero p w = holder_small h w
    go (suc n) p w = on (ℕ_discrete (heir k l p) 0) (go n (heir k l p))
      where
        on : Dec (heir k l p ≡ 0) → (Holds k.slot (heir k l p) l → deepest k l (heir k l p) n < 16) → cond (eqb (heir k l p) 0) p (deepest k l (heir k l p) n) < 16
        on (yes z) f = rw (eq-eqb (heir k l p) 0 z) (holder_small h w)
        on (no z) f = rw (ne_eqb (heir k l p) 0 z) (f (heir_holds h w z).0)

-- two results are equal
pub hopped_one : {k : K} {l p : ℕ} {r s : Hop} → Hopped k l p r → Hopped k l p s → r ≡ s
hopped_one x y = same (x.heir ∙ sym y.heir) (x.end ∙ sym y.end)
  where
    same : {h e h' e' : ℕ} → h ≡ h' → e ≡ e' → ◌≡◌ {A = Hop} (record { heir = record { 0 = h }; end = record { 0 = e } }) (record { heir = record { 0 = h' }; end = record { 0 = e' } })
    same p q = cc

pub hop_found : (k : K) (l p i : ℕ) (f : SlotFields) → lowest 32 (holds_at k p l) ≡ some i → k.slot p i ≡ some (entry_of f) → f.given.0 < 16
    → Hopped k l p (record { heir = f.given; end = f.end })
unfolding end_at end_by end_of heir given_by receiver
hop_found k l p i f q e b = record { heir = rw (q, e) refl; end = rw (q, e) refl; small = b }

pub piece_start : {k : K} {l : ℕ} → Core k → k.base ≤ l → l < k.stop → Descent k l 0 k.stop 15
piece_start {k} {l} h u v = record { holds = (h.s7_root_law l).1 (u, v); low = omega arith; comes = refl; ends = refl }

module _ {k : K} {l p b n : ℕ} (inv : Descent k l p b n) where
  nearest_here : heir k l p ≡ 0 → 0 < n → nearest k l p b n ≡ min b (end_at k l p)
  unfolding nearest
  nearest_here z h = go n h
    where
      go : (n : ℕ) → 0 < n → nearest k l p b n ≡ min b (end_at k l p)
      go zero h = absurd (omega arith)
      go (suc n) h = rw (eq-eqb (heir k l p) 0 z) refl

  nearest_last : n ≡ 0 → nearest k l p b n ≡ b
  unfolding nearest
  nearest_last z = rw z refl

  nearest_down : (heir k l p ≡ 0 → ⊥) → 0 < n → nearest k l p b n ≡ nearest k l (heir k l p) (min b (end_at k l p)) (n - 1)
  unfolding nearest
  nearest_down z h = go n h
    where
      go : (n : ℕ) → 0 < n → nearest k l p b n ≡ nearest k l (heir k l p) (min b (end_at k l p)) (n - 1)
      go zero h = absurd (omega arith)
      go (suc n) h = let e : suc n - 1 ≡ n = omega arith in rw (ne_eqb (heir k l p) 0 z, e) refl

  -- nobody was given p's entry; no step is left; the heir goes on
  pub descent_here : heir k l p ≡ 0 → 0 < n → (min b (end_at k l p) ≡ piece_end k l) × (p ≡ deepest_at k l)
  descent_here z h = (sym (nearest_here z h) ∙ inv.ends, deepest_here k l p n z ∙ inv.comes)

  pub descent_last : n ≡ 0 → (b ≡ piece_end k l) × (p ≡ deepest_at k l)
  descent_last z = (sym (nearest_last z) ∙ inv.ends, deepest_last k l p n z ∙ inv.comes)

  pub descent_down : Core k → (heir k l p ≡ 0 → ⊥) → 0 < n → Descent k l (heir k l p) (min b (end_at k l p)) (n - 1)
  descent_down c z h = record {
    holds = (heir_holds c inv.holds z).0;
    low = omega (arith, inv.low);
    comes = deepest_down k l p n (λ v. omega arith) z ∙ inv.comes;
    ends = sym (nearest_down z h) ∙ inv.ends;
  }
