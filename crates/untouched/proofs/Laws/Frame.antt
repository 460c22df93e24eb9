-- A change of the table that leaves all that is outside a branch: what stays of who is beside the branch, bit for bit, and of who is above it.
use Rattle.std.specs.Prelude.{◌≡◌, refl, ◌⊎◌, ℕ, ◌<◌}
use Rattle.std.proofs.Common.{ap, sym, subst, ◌∙◌, inl, inr, arith}
use Rattle.std.proofs.Math.Decide.{ℕ_discrete}
use Rattle.loops.specs.Laws.Every.{bool_ext}
use Rattle.loops.specs.Loops.{Reaches, at_root, by_step}
use Rattle.tables.specs.State.{Opt, none, some, Entry, Area, K, Table}
use Rattle.tables.specs.Laws.State.{not_none}
use Rattle.tables.specs.Lines.{InA, Holds, Clear}
use Rattle.sound.specs.Sound.{Present}
use Rattle.sound.specs.Core.{Core}
use Rattle.sound.specs.Properties.{Above, itself, higher}
use Rattle.sound.specs.Whole.{Right}
use Rattle.rules.specs.Branch.{Under, itself as is-top, below}
use Rattle.rules.specs.Laws.Branch.{under_parent, under_root}
use Rattle.sound.specs.Laws.Chain.{holder_above}
use Rattle.untouched.specs.Untouched.{Outside, Beside}

-- ── the tree ──
-- x is in the branch of b, or b, or above it
abbrev Near : (ℕ → ℕ) → ℕ → ℕ → Type 0
Near up b x = Under up b x ⊎ Above up x b

module _ {up : ℕ → ℕ} where
  -- whether q is in the branch of b
  under? : {n : ℕ} (b q : ℕ) → Reaches up n q → Dec (Under up b q)
  under? b q (at_root z) = go (ℕ_discrete q b)
    where
      go : Dec (q ≡ b) → Dec (Under up b q)
      go (yes e) = yes (is-top e)
      go (no e) = no (λ u. not e u)
        where
          not : (q ≡ b → ⊥) → Under up b q → ⊥
          not e (is-top y) = e y
          not e (below n u) = n z
  under? b q (by_step r) = go (ℕ_discrete q b) (ℕ_discrete q 0) (under? b (up q) r)
    where
      not : (q ≡ b → ⊥) → ((q ≡ 0 → ⊥) → Under up b (up q) → ⊥) → Under up b q → ⊥
      not e f (is-top y) = e y
      not e f (below n u) = f n u

      go : Dec (q ≡ b) → Dec (q ≡ 0) → Dec (Under up b (up q)) → Dec (Under up b q)
      go (yes e) _ _ = yes (is-top e)
      go (no e) (yes z) _ = no (not e (λ n _. n z))
      go (no e) (no n) (yes u) = yes (below n u)
      go (no e) (no n) (no u) = no (not e (λ _ v. u v))

  above_up : {x b : ℕ} → Above up x b → Above up (up x) b
  above_up (itself z) = higher (itself (ap up z))
  above_up (higher a) = higher (above_up a)

  near_up : {b x : ℕ} → Near up b x → Near up b (up x)
  near_up (inl (is-top z)) = inr (higher (itself (ap up (sym z))))
  near_up (inl (below n u)) = inl u
  near_up (inr a) = inr (above_up a)

  near_over : {b y x : ℕ} → Above up y x → Near up b x → Near up b y
  near_over {b} (itself z) n = subst (Near up b) z n
  near_over {b} {y} (higher {p} a) n = near_over {x = up p} a (near_up n)

  near_above : {b x y : ℕ} → Above up y x → Near up b x → Near up b y
  near_above a n = near_over a n

-- ── who is outside the branch of b ──
-- its parent, its areas and its entries are as they were
pub record Alike (k new : K) (p : ℕ) : Type 0 where
  pub parent : new.parent p ≡ k.parent p
  pub area : (j : ℕ) → new.area p j ≡ k.area p j
  pub slot : (i : ℕ) → new.slot p i ≡ k.slot p i

-- Of a change: who is outside is as before; b stays; and who is present was so, with the same parent, or is new in the branch.
pub record Frame (b : ℕ) (k new : K) : Type 0 where
  pub alike : (p : ℕ) → Outside k b p → Alike k new p
  pub stays : Present new b
  pub tree : (q : ℕ) → Present new q → (Present k q × (new.parent q ≡ k.parent q)) ⊎ ((k.area q 0 ≡ none) × Under new.parent b q)

-- who is above b is outside its branch
module _ {k : K} (h : Core k) {b : ℕ} (other : b ≡ 0 → ⊥) (home : Present k b) where
  out_up : {x : ℕ} → Outside k b x → Outside k b (k.parent x)
  out_up {x} o = record { present = h.s2_up x o.present; out = λ u. go (ℕ_discrete x 0) u }
    where
      go : Dec (x ≡ 0) → Under k.parent b (k.parent x) → ⊥
      go (yes z) u = o.out (rw (ap k.parent z ∙ h.s2_root_law.2 ∙ sym z) at u)
      go (no n) u = o.out (below n u)

  out_above : {p x : ℕ} → Above k.parent p x → Outside k b x → Outside k b p
  out_above (itself z) o = subst (Outside k b) z o
  out_above (higher a) o = out_above a (out_up o)

  pub above_outside : {p : ℕ} → Above k.parent p b → (p ≡ b → ⊥) → Outside k b p
  above_outside (itself z) n = absurd (n (sym z))
  above_outside (higher a) n = out_above a (record { present = h.s2_up b home; out = under_parent other (h.s2_climb b home) })

module _ {b : ℕ} {k new : K} (h : Core k) (other : b ≡ 0 → ⊥) (home : Present k b) (f : Frame b k new) where
  up_outside : {p : ℕ} → Outside k b p → Outside k b (k.parent p)
  up_outside = out_up h other home

  -- who is outside stays outside
  pub outside_stays : {p : ℕ} → Outside k b p → Outside new b p
  outside_stays {p} o = record {
    present = let (a, u) = o.present in (a, (f.alike p o).area 0 ∙ u);
    out = λ u. no u o;
  }
    where
      no : {q : ℕ} → Under new.parent b q → Outside k b q → ⊥
      no {q} (is-top z) o = o.out (is-top z)
      no {q} (below n u) o = no u (rw (f.alike q o).parent (up_outside o))

  home_same : new.parent b ≡ k.parent b
  home_same = go (f.tree b f.stays)
    where
      go : (Present k b × (new.parent b ≡ k.parent b)) ⊎ ((k.area b 0 ≡ none) × Under new.parent b b) → new.parent b ≡ k.parent b
      go (inl (_, e)) = e
      go (inr (z, _)) = not_none (k.area b 0) z home.1

  -- the parent of b is outside
  top_outside : Outside k b (k.parent b)
  top_outside = record { present = h.s2_up b home; out = under_parent other (h.s2_climb b home) }

  -- who is above b was above it
  above_was : {p : ℕ} → Above new.parent p b → Above k.parent p b
  above_was (itself z) = itself z
  above_was (higher a) = higher (rw home_same at (walk a (rw home_same top_outside)))
    where
      walk : {p x : ℕ} → Above new.parent p x → Outside k b x → Above k.parent p x
      walk (itself z) o = itself z
      walk (higher {p = x} a) o = let e = (f.alike x o).parent in higher (rw e at (walk a (rw e (up_outside o))))

  pub beside_stays : {p : ℕ} → Beside k b p → Beside new b p
  beside_stays s = record { outside = outside_stays s.outside; apart = λ a. s.apart (above_was a) }

  -- nobody else is outside then
  outside_was : Core new → {q : ℕ} → Outside new b q → Outside k b q
  outside_was g {q} o = go (f.tree q o.present)
    where
      still : {x : ℕ} → Under k.parent b x → Present new x → Under new.parent b x
      still (is-top z) v = is-top z
      still {x} (below n u) v = on (f.tree x v) (still u)
        where
          on : (Present k x × (new.parent x ≡ k.parent x)) ⊎ ((k.area x 0 ≡ none) × Under new.parent b x)
              → (Present new (k.parent x) → Under new.parent b (k.parent x)) → Under new.parent b x
          on (inl (_, e)) ih = below n (rw e (ih (rw e at (g.s2_up x v))))
          on (inr (_, w)) ih = w

      go : (Present k q × (new.parent q ≡ k.parent q)) ⊎ ((k.area q 0 ≡ none) × Under new.parent b q) → Outside k b q
      go (inl (v, e)) = record { present = v; out = λ u. o.out (still u o.present) }
      go (inr (_, u)) = absurd (o.out u)

-- ── lines of the areas of a branch ──
-- an area of the branch is a not-given entry of it, or of the parent of b: who has a line of it is near
area_near : {k : K} (h : Core k) {b : ℕ} → (b ≡ 0 → ⊥) → {q j : ℕ} {a : Area} {l p : ℕ} → k.area q j ≡ some a → Under k.parent b q → InA l a → Holds k.slot p l
    → Near k.parent b p
area_near {k} h {b} other {q} {j} {a} {l} {p} u w x v =
    let d = h.s8 q j a u (λ r. under_root k.parent b other r.0 w) in
    near_above (holder_above h d.at d.free (omega (arith, d.lo, d.hi)) v) (owner d.who)
  where
    owner : {r : ℕ} → (r ≡ k.parent q) ⊎ ((r ≡ q) × (0 < j)) → Near k.parent b r
    owner (inl z) = rw z (near_up (inl w))
    owner (inr z) = rw z.0 (inl w)

-- ── who is beside the branch has its open bits, too ──
module _ {b : ℕ} {t new : Table} (h : Right t) (g : Right new) (other : b ≡ 0 → ⊥) (home : Present t.k b) (f : Frame b t.k new.k) {p : ℕ} (s : Beside t.k b p) where
  alike : Alike t.k new.k p
  alike = f.alike p s.outside

  far : {k : K} → Beside k b p → Near k.parent b p → ⊥
  far s (inl u) = s.outside.out u
  far s (inr a) = s.apart a

  -- an area of one outside is as before; the areas in the branch are far from p
  clear_then : {i : ℕ} {e : Entry} → t.k.slot p i ≡ some e → Clear t.k.area e → Clear new.k.area e
  clear_then {i} {e} u c q j a l v x y = go (under? b q (g.core.s2_climb q (g.core.s2_absent q j a v)))
    where
      go : Dec (Under new.k.parent b q) → ⊥
      go (yes w) =
          far (beside_stays h.core other home f s)
          (area_near g.core other v w x (record { i = i; e = e; at = alike.slot i ∙ u; holds = y }))
      go (no w) =
          let o = outside_was h.core other home f g.core (record { present = g.core.s2_absent q j a v; out = w }) in
          c q j a l (sym ((f.alike q o).area j) ∙ v) x y

  clear_was : {i : ℕ} {e : Entry} → t.k.slot p i ≡ some e → Clear new.k.area e → Clear t.k.area e
  clear_was {i} {e} u c q j a l v x y = go (under? b q (h.core.s2_climb q (h.core.s2_absent q j a v)))
    where
      go : Dec (Under t.k.parent b q) → ⊥
      go (yes w) = far s (area_near h.core other v w x (record { i = i; e = e; at = u; holds = y }))
      go (no w) = c q j a l ((f.alike q (record { present = h.core.s2_absent q j a v; out = w })).area j ∙ v) x y

  pub opened_same : (i : ℕ) → new.opened p i ≡ t.opened p i
  opened_same i = go (t.k.slot p i) refl
    where
      go : (o : Opt Entry) → t.k.slot p i ≡ o → new.opened p i ≡ t.opened p i
      go none u = g.closed p i (alike.slot i ∙ u) ∙ sym (h.closed p i u)
      go (some e) u = bool_ext (new.opened p i) (t.opened p i)
          (λ q. (h.s9 p i e u).1 (clear_was u ((g.s9 p i e (alike.slot i ∙ u)).0 q)))
          (λ q. (g.s9 p i e (alike.slot i ∙ u)).1 (clear_then u ((h.s9 p i e u).0 q)))
