-- What holders lists of a sound table: exactly the holders of the line, root first, each the parent of the next, each once.
use Rattle.std.specs.Prelude.{◌≡◌, refl, cond, ◌↔◌, eqb}
use Rattle.std.proofs.Math.Path.{ap, sym}
use Rattle.std.proofs.Common.{◌∙◌, arith, length-append, eq-eqb, ne_eqb}
use mathlib.Core.List.{List, [], ◌∷◌, ◌++◌}
use Prim.Native.Nat.{ℕ, zero, suc, ◌+◌, ◌-◌, ◌≤◌, ◌<◌}
use Rattle.std.proofs.Math.Decide.{ℕ_discrete}
use Rattle.std.proofs.Math.ListN.{length, get_or-append}
use Rattle.std.proofs.Math.Seq.{get_or-append_seam}
use Rattle.loops.specs.Laws.Climb.{climb_root, climb_suc, Steps, no_step, one_step, steps_one, reaches→steps}
use Rattle.tables.specs.State.{K}
use Rattle.tables.specs.Lines.{Holds}
use Rattle.sound.specs.Core.{Core}
use Rattle.sound.specs.Laws.Properties.{parent_holds, siblings_one, holder_present}
use Rattle.sound.specs.Holders.{heir, deepest, trail, holders_of}
use Rattle.sound.proofs.Laws.Found.{heir_is, heir_holds}
use Rattle.ledger.specs.Lists.{nth_name, Lists}

-- the list is a way down from the root, each the parent of the next, m steps to p
pub record WayDown (up : ℕ → ℕ) (m p : ℕ) (hs : List ℕ) : Type 0 where
  pub number : length hs ≡ m + 1
  pub depth : (i : ℕ) → i ≤ m → Steps up i (nth_name hs i)
  pub next : (i : ℕ) → i < m → up (nth_name hs (suc i)) ≡ nth_name hs i
  pub last : nth_name hs m ≡ p

module _ {up : ℕ → ℕ} where
  at_top : {p : ℕ} → Steps up 0 p → p ≡ 0
  at_top (no_step z) = z

  below_top : {m p : ℕ} → Steps up (suc m) p → p ≡ 0 → ⊥
  below_top (one_step z _) = z

  root_way : {p : ℕ} → p ≡ 0 → WayDown up 0 p (0 ∷ [])
  root_way z = record {
    number = refl;
    depth = λ i b. let y : i ≡ 0 = omega arith in rw y (no_step refl);
    next = λ i b. absurd (omega arith);
    last = sym z;
  }

  -- one step further down
  step_way : {m p : ℕ} {hs : List ℕ} → (p ≡ 0 → ⊥) → Steps up m (up p) → WayDown up m (up p) hs → WayDown up (suc m) p (hs ++ (p ∷ []))
  step_way {m} {p} {hs} n s w = record {
    number = length-append hs (p ∷ []) ∙ omega (arith, w.number);
    depth = λ i b. deep i b (ℕ_discrete i (suc m));
    next = λ i b. step i b (ℕ_discrete i m);
    last = here;
  }
    where
      here : nth_name (hs ++ (p ∷ [])) (suc m) ≡ p
      here = let z : suc m ≡ length hs = omega (arith, w.number) in rw z (get_or-append_seam hs p [] 0)

      old : (i : ℕ) → i ≤ m → nth_name (hs ++ (p ∷ [])) i ≡ nth_name hs i
      old i b = get_or-append hs (p ∷ []) 0 i (omega (arith, w.number))

      deep : (i : ℕ) → i ≤ suc m → Dec (i ≡ suc m) → Steps up i (nth_name (hs ++ (p ∷ [])) i)
      deep i b (yes z) = rw (z, here) (one_step n s)
      deep i b (no z) = rw (old i (omega arith)) (w.depth i (omega arith))

      step : (i : ℕ) → i < suc m → Dec (i ≡ m) → up (nth_name (hs ++ (p ∷ [])) (suc i)) ≡ nth_name (hs ++ (p ∷ [])) i
      step i b (yes z) = rw (z, here, old m (omega arith)) (sym w.last)
      step i b (no z) = rw (old (suc i) (omega arith), old i (omega arith)) (w.next i (omega arith))

-- the trail of who reaches the root is such a way
trail_way : (k : K) {m n p : ℕ} → m ≤ n → Steps k.parent m p → WayDown k.parent m p (trail k p n)
unfolding trail
trail_way k {n = n} b (no_step {p} z) = rw (← (climb_root k.parent (λ s. 0 ∷ []) [] (λ q r. r ++ (q ∷ [])) p n z)) (root_way z)
trail_way k {n = zero} b (one_step z s) = absurd (omega arith)
trail_way k {n = suc n} b (one_step {p = p} z s) =
    rw (climb_suc k.parent (λ s. 0 ∷ []) [] (λ q r. r ++ (q ∷ [])) p n z) (step_way z s (trail_way k (omega arith) s))

-- ── the descent ──
-- p holds the line and gave it to nobody
pub record Deepest (k : K) (l p : ℕ) : Type 0 where
  pub holds : Holds k.slot p l
  pub keeps : heir k l p ≡ 0

module _ {k : K} (h : Core k) (l : ℕ) where
  -- nobody holds a line more than 15 steps from the root
  shallow : {m p : ℕ} → Holds k.slot p l → Steps k.parent m p → m ≤ 15
  shallow {m} {p} u s = let (j, b, t) = reaches→steps (h.s2_climb p (holder_present h u)) in omega (arith, steps_one s t)

  -- the heir is one step further from the root
  heir_deeper : {m p : ℕ} → Holds k.slot p l → Steps k.parent m p → (heir k l p ≡ 0 → ⊥) → Steps k.parent (suc m) (heir k l p)
  heir_deeper {m} u s n = one_step {n = m} n (rw (heir_holds h u n).1 s)

  -- so the descent from p, m steps from the root, ends at who gave the line to nobody
  descent : (n m p : ℕ) → m + n ≡ 15 → Steps k.parent m p → Holds k.slot p l → Deepest k l (deepest k l p n)
  unfolding deepest
  descent zero m p b s u = go (ℕ_discrete (heir k l p) 0)
    where
      go : Dec (heir k l p ≡ 0) → Deepest k l p
      go (yes z) = record { holds = u; keeps = z }
      go (no z) = absurd (omega (arith, shallow (heir_holds h u z).0 (heir_deeper u s z)))
  descent (suc n) m p b s u = go (ℕ_discrete (heir k l p) 0) (descent n (suc m) (heir k l p) (omega arith))
    where
      go : Dec (heir k l p ≡ 0) → (Steps k.parent (suc m) (heir k l p) → Holds k.slot (heir k l p) l → Deepest k l (deepest k l (heir k l p) n))
          → Deepest k l (cond (eqb (heir k l p) 0) p (deepest k l (heir k l p) n))
      go (yes z) _ = rw (eq-eqb (heir k l p) 0 z) (record { holds = u; keeps = z })
      go (no z) f = rw (ne_eqb (heir k l p) 0 z) (f (heir_deeper u s z) (heir_holds h u z).0)

  -- all on the way to a holder hold the line
  way_up_law : {m d : ℕ} {hs : List ℕ} → WayDown k.parent m d hs → (i : ℕ) → i < m → Holds k.slot (nth_name hs (suc i)) l → Holds k.slot (nth_name hs i) l
  way_up_law w i b u = rw (w.next i b) at (parent_holds h (below_top (w.depth (suc i) (omega arith))) u)

  way_holds : {m d : ℕ} {hs : List ℕ} → Holds k.slot d l → WayDown k.parent m d hs → (j i : ℕ) → i + j ≡ m → Holds k.slot (nth_name hs i) l
  way_holds {m} {hs = hs} u w zero i b = let z : i ≡ m = omega arith in rw (z, w.last) u
  way_holds {m} u w (suc j) i b =
      let c : i < m = omega arith in
      let e : suc i + j ≡ m = omega arith in
      way_up_law w i c (way_holds u w j (suc i) e)

  -- every holder stands on the way to the deepest, at its depth
  on_way : {m d : ℕ} {hs : List ℕ} → Deepest k l d → WayDown k.parent m d hs → ((i : ℕ) → i ≤ m → Holds k.slot (nth_name hs i) l)
      → {a p : ℕ} → Steps k.parent a p → Holds k.slot p l → (a ≤ m) × (nth_name hs a ≡ p)
  on_way {hs = hs} x w held (no_step z) u = (omega arith, at_top (w.depth 0 (omega arith)) ∙ sym z)
  on_way {m} {d} {hs} x w held (one_step {n = a} {p} z s) u = go (on_way x w held s (parent_holds h z u)) (ℕ_discrete a m)
    where
      go : (a ≤ m) × (nth_name hs a ≡ k.parent p) → Dec (a ≡ m) → (suc a ≤ m) × (nth_name hs (suc a) ≡ p)
      go (b, q) (yes y) =
          let o = h.s7_in p u.i u.e u.at z in
          let r : k.parent p ≡ d = sym q ∙ ap (nth_name hs) y ∙ w.last in
          let v : Holds k.slot d l = record { i = o.i; e = o.f; at = rw (← r) o.at; holds = omega arith } in
          absurd (z (sym o.given ∙ sym (heir_is h v) ∙ x.keeps))
      go (b, q) (no y) =
          let r : k.parent (nth_name hs (suc a)) ≡ k.parent p = w.next a (omega arith) ∙ q in
          (omega arith, siblings_one h (below_top (w.depth (suc a) (omega arith))) z r (held (suc a) (omega arith)) u)

-- ── the list ──
module _ {k : K} (h : Core k) {l : ℕ} (b : (k.base ≤ l) × (l < k.stop)) where
  pub deepest_holds : Deepest k l (deepest k l 0 15)
  deepest_holds = descent h l 15 0 0 refl (no_step refl) ((h.s7_root_law l).1 b)

  -- how many steps from the root the deepest is
  holders_way : (m : ℕ) × (m ≤ 15) × WayDown k.parent m (deepest k l 0 15) (holders_of k l)
  unfolding holders_of
  holders_way =
      let (m, c, s) = reaches→steps (h.s2_climb (deepest k l 0 15) (holder_present h deepest_holds.holds)) in
      (m, c, trail_way k c s)

  pub holders_list : Lists (λ p. Holds k.slot p l) k.parent (holders_of k l)
  holders_list =
      let (m, c, w) = holders_way in
      let held : (i : ℕ) → i ≤ m → Holds k.slot (nth_name (holders_of k l) i) l = λ i x. way_holds h l deepest_holds.holds w (m - i) i (omega arith) in
      record {
        exactly = λ p. (
          λ (i, x, q). rw q at (held i (omega (arith, w.number))),
          λ u.
              let (a, _, s) = reaches→steps (h.s2_climb p (holder_present h u)) in
              let (x, q) = on_way h l deepest_holds w held s u in
              (a, omega (arith, w.number), q),
        );
        root = (omega (arith, w.number), at_top (w.depth 0 (omega arith)));
        next = λ i x. w.next i (omega (arith, w.number));
        once = λ i j x y q. steps_one (rw q at (w.depth i (omega (arith, w.number)))) (w.depth j (omega (arith, w.number)));
        few = omega (arith, w.number);
      }

-- lines have the same holders exactly if they have the same deepest
module _ {k : K} (h : Core k) {l m : ℕ} (b : (k.base ≤ l) × (l < k.stop)) (c : (k.base ≤ m) × (m < k.stop)) where
  pub same_holders : (holders_of k l ≡ holders_of k m) ↔ (deepest k l 0 15 ≡ deepest k m 0 15)
  unfolding holders_of
  same_holders = (
    λ q.
        let (i, _, u) = holders_way h b in
        let (j, _, v) = holders_way h c in
        let n : i ≡ j = omega (arith, u.number, v.number, ap length q) in
        sym u.last ∙ ap (λ (x : ℕ). nth_name (holders_of k l) x) n ∙ ap (λ (x : List ℕ). nth_name x j) q ∙ v.last,
    λ q. ap (λ (p : ℕ). trail k p 15) q,
  )
