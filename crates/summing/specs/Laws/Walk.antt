-- The walk over the headers, from partition 0 on: each child joins the mask of its parent.
use Rattle.std.specs.Prelude.{◌≡◌, Bool, true, false, List, ℕ, suc, ◌+◌, ◌*◌, ◌^◌, ◌≤◌, ◌<◌, length, get_or, set, replicate}
use Rattle.std.proofs.Math.Path.{refl}
use Rattle.std.proofs.Common.{ap, sym, subst, ◌∙◌, pow-suc, arith, length-set, pow_mono, get_or-set_same, get_or-set_other}
use Rattle.std.proofs.Math.Decide.{ℕ_discrete}
use Rattle.std.proofs.lemmas.List.{length-replicate, get_or-replicate}
use borrow.Author.Tests.{eq-eqb, ne_eqb}
use Rattle.loops.specs.Loops.{bit_of, map_from, map_of}
use Rattle.loops.specs.Laws.Map.{map_lt, map_join}
use Rattle.words.specs.declared.header_word.HeaderFields.{HeaderFields}
use Rattle.tables.specs.State.{K}
use Rattle.tables.specs.View.{view}
use Rattle.tables.specs.Search.{present, child}
use Rattle.tables.specs.Laws.Search.{header_some}
use Rattle.tables.specs.Seen.{SeenHeader}
use Rattle.summing.specs.Sums.{ChildrenTo}

-- one bit more
map_more : (f : ℕ → Bool) (c : ℕ) → map_of (c + 1) f ≡ map_of c f + 2 ^ c * bit_of (f c)
unfolding map_from
map_more f c =
    let e : 0 + c ≡ c = omega arith in
    let z = map_join f 0 c 1 in
    omega (arith, rw e at z)

map_no : (f : ℕ → Bool) (c : ℕ) → f c ≡ false → map_of (c + 1) f ≡ map_of c f
map_no f c q = map_more f c ∙ rw q (omega arith)

map_yes : (f : ℕ → Bool) (c : ℕ) → f c ≡ true → map_of (c + 1) f ≡ map_of c f + 2 ^ c
map_yes f c q = map_more f c ∙ rw q (omega arith)

pub children_start : (k : K) {m : List ℕ} → m ≡ replicate 16 0 → ChildrenTo k 0 m
unfolding map_from
children_start k e = rw e (record { size = length-replicate {A = ℕ} 16 0; at = λ q h. get_or-replicate 16 q 0 0 h })

pub children_at : {k : K} (c d : ℕ) {m : List ℕ} → c ≡ d → ChildrenTo k c m → ChildrenTo k d m
children_at {k} c d {m} e x = subst (λ (n : ℕ). ChildrenTo k n m) e x

-- the bit of c, and of the next
pub bit_room : {c b : ℕ} → b ≡ 2 ^ c → c < 16 → 2 * b < 2 ^ 32
bit_room {c} q h = let most : 2 ^ c ≤ 2 ^ 16 = pow_mono {j = 16} (omega arith) in omega arith

pub bit_next : (c : ℕ) {b : ℕ} → b ≡ 2 ^ c → 2 * b ≡ 2 ^ (c + 1)
bit_next c q = let s : c + 1 ≡ suc c = omega arith in rw s (omega (arith, q, pow-suc 2 c))

module _ {l : List ℕ} {c : ℕ} {f : HeaderFields} (seen : SeenHeader l c f) {m : List ℕ} (inv : ChildrenTo (view l).k c m) where
  -- nobody's child
  none_joins : ((q : ℕ) → child (view l).k q c ≡ false) → ChildrenTo (view l).k (c + 1) m
  none_joins other = record { size = inv.size; at = λ q h. inv.at q h ∙ sym (map_no (child (view l).k q) c (other q)) }

  pub absent_joins : f.present ≡ false → ChildrenTo (view l).k (c + 1) m
  unfolding child present
  absent_joins p = none_joins (λ q. rw (seen.area, header_some, p) refl)

  pub root_joins : f.present ≡ true → c ≡ 0 → ChildrenTo (view l).k (c + 1) m
  unfolding child present
  root_joins p z = none_joins (λ q. rw (seen.area, header_some, p, eq-eqb c 0 z) refl)

  -- its parent's
  module _ (p : f.present ≡ true) (n : c ≡ 0 → ⊥) where
    is_child_law : (q : ℕ) → f.parent.0 ≡ q → child (view l).k q c ≡ true
    unfolding child present
    is_child_law q z = rw (seen.area, header_some, p, ne_eqb c 0 n, seen.parent, eq-eqb f.parent.0 q z) refl

    no_child : (q : ℕ) → (f.parent.0 ≡ q → ⊥) → child (view l).k q c ≡ false
    unfolding child present
    no_child q z = rw (seen.area, header_some, p, ne_eqb c 0 n, seen.parent, ne_eqb f.parent.0 q z) refl

    pub child_room : c < 16 → {u : ℕ} → u ≡ f.parent.0 → {b : ℕ} → b ≡ 2 ^ c → get_or m u 0 + b < 2 ^ 32
    child_room h {u} e {b} q =
        let small = map_lt (child (view l).k f.parent.0) 0 c in
        let most : 2 ^ c ≤ 2 ^ 16 = pow_mono {j = 16} (omega arith) in
        let at : get_or m u 0 ≡ map_of c (child (view l).k f.parent.0) = ap (λ (x : ℕ). get_or m x 0) e ∙ inv.at f.parent.0 seen.parent_small in
        omega (arith, at, q)

    pub child_joins : {u : ℕ} → u ≡ f.parent.0 → {b : ℕ} → b ≡ 2 ^ c → ChildrenTo (view l).k (c + 1) (set m u (get_or m u 0 + b))
    child_joins {u} e {b} d = record { size = length-set m u _ ∙ inv.size; at = λ q h. go q h (ℕ_discrete q u) }
      where
        go : (q : ℕ) → q < 16 → Dec (q ≡ u) → get_or (set m u (get_or m u 0 + b)) q 0 ≡ map_of (c + 1) (child (view l).k q)
        go q h (yes z) =
            let i : u < length m = omega (arith, inv.size) in
            ap (λ (x : ℕ). get_or (set m u (get_or m u 0 + b)) x 0) z
            ∙ get_or-set_same m u (get_or m u 0 + b) 0 i
            ∙ omega (arith, ap (λ (x : ℕ). get_or m x 0) (sym z), inv.at q h, d, map_yes (child (view l).k q) c (is_child_law q (sym e ∙ sym z)))
        go q h (no z) =
            get_or-set_other m u q (get_or m u 0 + b) 0 z
            ∙ inv.at q h
            ∙ sym (map_no (child (view l).k q) c (no_child q (λ y. z (sym y ∙ sym e))))
