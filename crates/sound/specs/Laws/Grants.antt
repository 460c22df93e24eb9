-- What S2, S5, S6 and S7 say of entries and the tree, without a word of areas: who has a line and gave it to nobody is the last of a chain.
use Rattle.std.specs.Prelude.{◌≡◌, refl, ◌⊎◌, ℕ, ◌≤◌, ◌<◌}
use Rattle.std.proofs.Common.{ap, sym, subst, ◌∙◌, inl, inr, arith}
use Rattle.std.proofs.Math.Decide.{ℕ_discrete}
use Rattle.loops.specs.Loops.{Reaches, at_root, by_step}
use Rattle.loops.specs.Laws.Climb.{Steps, no_step, one_step, steps_one, reaches→steps}
use Rattle.tables.specs.State.{some, Entry, K}
use Rattle.tables.specs.Laws.State.{same_at}
use Rattle.tables.specs.Lines.{In, Holds}
use Rattle.sound.specs.Sound.{Present, Granted}
use Rattle.sound.specs.Core.{Core}
use Rattle.sound.specs.Properties.{Above, itself, higher}

pub record Grants (k : K) : Type 0 where
  pub top : k.parent 0 ≡ 0
  pub climbs : (p : ℕ) → Present k p → Reaches k.parent 15 p
  pub owner : (p i : ℕ) (e : Entry) → k.slot p i ≡ some e → Present k p
  pub range : (p i : ℕ) (e : Entry) → k.slot p i ≡ some e → e.start < e.stop
  pub s6 : (p i j : ℕ) (e f : Entry) (l : ℕ) → k.slot p i ≡ some e → k.slot p j ≡ some f → In l e → In l f → i ≡ j
  pub given : (p i : ℕ) (e : Entry) → k.slot p i ≡ some e → (e.given ≡ 0 → ⊥) → Present k e.given × (k.parent e.given ≡ p)
  pub inside : (c i : ℕ) (e : Entry) → k.slot c i ≡ some e → (c ≡ 0 → ⊥) → (j : ℕ) × (f : Entry) × Granted k c e j f
  pub cover : (p i : ℕ) (f : Entry) (l : ℕ) → k.slot p i ≡ some f → (f.given ≡ 0 → ⊥) → In l f → Holds k.slot f.given l

pub core_grants : {k : K} → Core k → Grants k
core_grants h = record {
  top = h.s2_root_law.2;
  climbs = h.s2_climb;
  owner = λ p i e u. let (a, v) = h.s5 p i e u in h.s2_absent p _ a v;
  range = h.s5_range;
  s6 = h.s6;
  given = h.s7_given_law;
  inside = λ c i e u n. let o = h.s7_in c i e u n in (o.i, o.f, record { at = o.at; given = o.given; around = record { from = o.from; to = o.to } });
  cover = h.s7_cover_law;
}

pub root_above : {up : ℕ → ℕ} {n p : ℕ} → Reaches up n p → Above up 0 p
root_above (at_root z) = itself z
root_above (by_step r) = higher (root_above r)

module _ {k : K} (h : Grants k) where
  pub grants_holder_present : {p l : ℕ} → Holds k.slot p l → Present k p
  grants_holder_present {p} u = h.owner p u.i u.e u.at

  -- the line that an entry of c has, an entry around it has
  pub grants_parent_holds : {c l : ℕ} → (c ≡ 0 → ⊥) → Holds k.slot c l → Holds k.slot (k.parent c) l
  grants_parent_holds {c} n u =
      let (j, f, g) = h.inside c u.i u.e u.at n in
      record { i = j; e = f; at = g.at; holds = omega (arith, g.around.from, g.around.to) }

  -- two that have one parent and hold one line are one
  pub grants_siblings_one : {c d l : ℕ} → (c ≡ 0 → ⊥) → (d ≡ 0 → ⊥) → k.parent c ≡ k.parent d → Holds k.slot c l → Holds k.slot d l → c ≡ d
  grants_siblings_one {c} {d} {l} m n p u v =
      let (i, f, a) = h.inside c u.i u.e u.at m in
      let (j, g, b) = h.inside d v.i v.e v.at n in
      let w : k.slot (k.parent c) j ≡ some g = rw p b.at in
      let z : i ≡ j = h.s6 (k.parent c) i j f g l a.at w (omega (arith, a.around.from, a.around.to)) (omega (arith, b.around.from, b.around.to)) in
      sym a.given ∙ (same_at (k.slot (k.parent c) j) (rw z at a.at) w).given ∙ b.given

-- ── the chain of those that hold line l ──
module _ {k : K} (h : Grants k) {l : ℕ} where
  -- x is r, or the way from x up to r comes through a child of r that has the line
  on_way : {r x : ℕ} → Above k.parent r x → Holds k.slot x l
      → (x ≡ r) ⊎ ((y : ℕ) × Above k.parent y x × (k.parent y ≡ r) × (y ≡ 0 → ⊥) × Holds k.slot y l)
  on_way (itself z) u = inl z
  on_way {r} (higher {p = x} a) u = go (ℕ_discrete x 0) (on_way a)
    where
      go : Dec (x ≡ 0)
          → (Holds k.slot (k.parent x) l → (k.parent x ≡ r) ⊎ ((y : ℕ) × Above k.parent y (k.parent x) × (k.parent y ≡ r) × (y ≡ 0 → ⊥) × Holds k.slot y l))
          → (x ≡ r) ⊎ ((y : ℕ) × Above k.parent y x × (k.parent y ≡ r) × (y ≡ 0 → ⊥) × Holds k.slot y l)
      go (yes z) f =
          let e : k.parent x ≡ x = ap k.parent z ∙ h.top ∙ sym z in
          root e (f (rw e u))
        where
          root : k.parent x ≡ x → (k.parent x ≡ r) ⊎ ((y : ℕ) × Above k.parent y (k.parent x) × (k.parent y ≡ r) × (y ≡ 0 → ⊥) × Holds k.slot y l)
              → (x ≡ r) ⊎ ((y : ℕ) × Above k.parent y x × (k.parent y ≡ r) × (y ≡ 0 → ⊥) × Holds k.slot y l)
          root e (inl q) = inl (sym e ∙ q)
          root e (inr (y, b, q, n, v)) = inr (y, higher b, q, n, v)
      go (no n) f = step (f (grants_parent_holds h n u))
        where
          step : (k.parent x ≡ r) ⊎ ((y : ℕ) × Above k.parent y (k.parent x) × (k.parent y ≡ r) × (y ≡ 0 → ⊥) × Holds k.slot y l)
              → (x ≡ r) ⊎ ((y : ℕ) × Above k.parent y x × (k.parent y ≡ r) × (y ≡ 0 → ⊥) × Holds k.slot y l)
          step (inl q) = inr (x, itself refl, q, n, u)
          step (inr (y, b, q, m, v)) = inr (y, higher b, q, m, v)

  module _ {q j : ℕ} {f : Entry} (at : k.slot q j ≡ some f) (free : f.given ≡ 0) (has : In l f) where
    here : Holds k.slot q l
    here = record { i = j; e = f; at = at; holds = has }

    up : {m p : ℕ} → Steps k.parent m p → Holds k.slot p l → Above k.parent p q
    up (no_step {p} z) u = let (a, v) = grants_holder_present h here in rw z (root_above (h.climbs q (a, v)))
    up (one_step {p = p} n s) u = go (on_way (up s (grants_parent_holds h n u)) here)
      where
        -- the parent's entry around the line is given to p, and q's is not
        own : q ≡ k.parent p → ⊥
        own z =
            let (i, e, g) = h.inside p u.i u.e u.at n in
            let y : i ≡ j = h.s6 (k.parent p) i j e f l g.at (rw (← z) at) (omega (arith, g.around.from, g.around.to)) has in
            n (sym g.given ∙ (same_at {b = f} (k.slot (k.parent p) j) (rw y at g.at) (rw (← z) at)).given ∙ free)

        go : (q ≡ k.parent p) ⊎ ((y : ℕ) × Above k.parent y q × (k.parent y ≡ k.parent p) × (y ≡ 0 → ⊥) × Holds k.slot y l) → Above k.parent p q
        go (inl z) = absurd (own z)
        go (inr (y, b, e, m, v)) = subst (λ (x : ℕ). Above k.parent x q) (grants_siblings_one h m n e v u) b

    -- every holder of the line is at or above who has it not given
    pub grants_holder_above : {p : ℕ} → Holds k.slot p l → Above k.parent p q
    grants_holder_above {p} u = let (m, _, s) = reaches→steps (h.climbs p (grants_holder_present h u)) in up s u

above_depth : {up : ℕ → ℕ} → up 0 ≡ 0 → {p q m n : ℕ} → Above up p q → Steps up m p → Steps up n q → (m ≤ n) × (m ≡ n → p ≡ q)
above_depth {up} top {m = m} (itself z) s t = let e = steps_one (subst (Steps up m) (sym z) s) t in (omega arith, λ _. sym z)
above_depth {up} top (higher {p = q} a) s (no_step z) = let (b, f) = above_depth top a s (no_step (ap up z ∙ top)) in (b, λ e. f e ∙ ap up z ∙ top ∙ sym z)
above_depth top (higher a) s (one_step n t) = let (b, f) = above_depth top a s t in (omega arith, λ e. absurd (omega arith))

-- of all entries with a line one is not given
pub grants_free_one : {k : K} → Grants k → {p q i j l : ℕ} {e f : Entry} → k.slot p i ≡ some e → e.given ≡ 0 → In l e → k.slot q j ≡ some f → f.given ≡ 0 → In l f → p ≡ q
grants_free_one {k} h {p} {q} {i} {j} {l} {e} {f} u a x v b y =
    let at_p : Holds k.slot p l = record { i = i; e = e; at = u; holds = x } in
    let at-q : Holds k.slot q l = record { i = j; e = f; at = v; holds = y } in
    let (m, _, s) = reaches→steps (h.climbs p (grants_holder_present h at_p)) in
    let (n, _, t) = reaches→steps (h.climbs q (grants_holder_present h at-q)) in
    let (c, g) = above_depth h.top (grants_holder_above h v b y at_p) s t in
    let (d, _) = above_depth h.top (grants_holder_above h u a x at-q) t s in
    g (omega arith)
