-- The mask of who stands above a partition: the walk that makes it, whatever the parents are; and the number of the next child.
use Rattle.std.specs.Prelude.{◌≡◌, Bool, ◌||◌, ℕ, suc, ◌/◌, ◌%◌, ◌^◌, ◌<◌, eqb}
use Rattle.std.proofs.Math.Path.{refl, ap, sym}
use Rattle.std.proofs.Common.{◌∙◌, true≢false, arith, eq-eqb, ne_eqb}
use Rattle.std.proofs.Math.Bool.{true, false, cond}
use Rattle.std.proofs.Math.Decide.{ℕ_discrete}
use Rattle.std.specs.Int.Bits.{bit_or}
use Rattle.std.proofs.lemmas.Nat.{or_lt}
use Rattle.std.proofs.Math.Pow.{pow-lt}
use Rattle.loops.specs.Loops.{climb, bit_of, names}
use Rattle.loops.specs.Laws.Climb.{climb_root, climb_suc}
use Rattle.loops.specs.Laws.Map.{map_lt, map_bit}
use Rattle.loops.specs.Laws.Mask.{names_or, names_one}
use Rattle.loops.specs.Laws.Named.{names_map, map_is}
use Rattle.tables.specs.State.{Opt, none, some, K}
use Rattle.tables.specs.Search.{lowest, absent_child}
use Rattle.tables.specs.Laws.Search.{lowest_some}
use Rattle.rules.specs.Rules.{branch}
use Rattle.rules.specs.Changes.{above, up_from, down_from, next_in}

-- ── the mask ──
pub up_small : (k : K) (p : ℕ) → up_from k p < 0x1_0000
unfolding up_from
up_small k p = map_lt (above k p) 0 16

pub up_names : (k : K) (p q : ℕ) → q < 16 → names (up_from k p) q ≡ above k p q
unfolding up_from
up_names k p q h = names_map 16 (above k p) q h

-- bit x says whether x is above p
pub up_bit : (k : K) (p x : ℕ) → x < 16 → {m : ℕ} → m ≡ up_from k p → m / 2 ^ x % 2 ≡ bit_of (above k p x)
unfolding up_from
up_bit k p x h e = ap (λ (m : ℕ). m / 2 ^ x % 2) e ∙ map_bit 16 (above k p) x h

pub down_small : (k : K) (p : ℕ) → down_from k p < 0x1_0000
unfolding down_from
down_small k p = map_lt (λ q. above k q p) 0 16

-- who is not below p is not in its branch
pub down_not : (k : K) (p q : ℕ) → q < 16 → names (down_from k p) q ≡ false → branch k.parent p q ≡ false
unfolding down_from above
down_not k p q h x = go (eqb p 0) (sym (names_map 16 (λ q. above k q p) q h) ∙ x)
  where
    go : (y : Bool) → y || branch k.parent p q ≡ false → branch k.parent p q ≡ false
    go true z = absurd (true≢false z)
    go false z = z

-- ── the walk: at q, with so many steps left, who is above p stands in the mask or is met from q on ──
-- x is met on the way from q
abbrev met : (ℕ → ℕ) → ℕ → ℕ → ℕ → Bool
met up x q n = climb up (λ k. false) false (λ r above. eqb r x || above) q n

pub record MaskUp (k : K) (p q left m : ℕ) : Type 0 where
  pub small : q < 16
  pub few : m < 0x1_0000
  pub told : (x : ℕ) → names m x || met k.parent x q left ≡ above k p x

module _ {k : K} {p : ℕ} where
  -- the root is above everybody
  pub mask_up_start : p < 16 → MaskUp k p p 15 1
  unfolding above branch
  mask_up_start b = record { small = b; few = omega arith; told = λ x. ap (λ (y : Bool). y || branch k.parent x p) (names_one 0 x) }

  module _ {q left m : ℕ} (inv : MaskUp k p q left m) where
    ended : ((x : ℕ) → met k.parent x q left ≡ false) → m ≡ up_from k p
    unfolding up_from
    ended never = map_is 16 (above k p) inv.few (λ x _. sym (or_false (names m x)) ∙ ap (λ (y : Bool). names m x || y) (sym (never x)) ∙ inv.told x)
      where
        or_false : (y : Bool) → y || false ≡ y
        or_false true = refl
        or_false false = refl

    pub mask_up_root : q ≡ 0 → m ≡ up_from k p
    mask_up_root z = ended (λ x. sym (climb_root k.parent _ false _ q left z))

    pub mask_up_end : left ≡ 0 → m ≡ up_from k p
    unfolding climb
    mask_up_end z = ended (λ x. rw z (go (eqb q 0)))
      where
        go : (y : Bool) → cond y false false ≡ false
        go true = refl
        go false = refl

    pub mask_up_on : (q ≡ 0 → ⊥) → {n : ℕ} → left ≡ suc n → {r : ℕ} → k.parent q ≡ r → r < 16 → {w : ℕ} → w ≡ 2 ^ q → MaskUp k p r n (bit_or m w)
    mask_up_on z {n} d {r} e b {w} y = record {
      small = b;
      few = or_lt 16 m w inv.few (rw y (pow-lt inv.small));
      told = λ x. ap (λ (a : Bool). a || met k.parent x r n) (names_or m w x ∙ ap (λ (v : ℕ). names m x || names v x) y ∙ ap (λ (a : Bool). names m x || a) (names_one q x)) ∙ turn x ∙ inv.told x;
    }
      where
        both : (a b c : Bool) → (a || b) || c ≡ a || (b || c)
        both true b c = refl
        both false b c = refl

        flip : (x : ℕ) → eqb x q ≡ eqb q x
        flip x = go (ℕ_discrete x q)
          where
            go : Dec (x ≡ q) → eqb x q ≡ eqb q x
            go (yes s) = eq-eqb x q s ∙ sym (eq-eqb q x (sym s))
            go (no s) = ne_eqb x q s ∙ sym (ne_eqb q x (λ t. s (sym t)))

        turn : (x : ℕ) → (names m x || eqb x q) || met k.parent x r n ≡ names m x || met k.parent x q left
        turn x = both (names m x) (eqb x q) _ ∙ ap (λ (a : Bool). names m x || a) (ap (λ (a : Bool). a || met k.parent x r n) (flip x) ∙ ap (λ (s : ℕ). eqb q x || met k.parent x s n) (sym e) ∙ sym (rw d (climb_suc k.parent _ false _ q n z)))

-- ── the next child ──
pub next_small : (k : K) → next_in (lowest 16 (absent_child k)) < 16
unfolding next_in
next_small k = go (lowest 16 (absent_child k)) refl
  where
    go : (o : Opt ℕ) → lowest 16 (absent_child k) ≡ o → next_in o < 16
    go none u = omega arith
    go (some n) u = (lowest_some 16 (absent_child k) n u).below
