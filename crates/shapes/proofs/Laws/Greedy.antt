-- The pieces of a block: each is the largest at its place, and there is one such list.
use Rattle.std.specs.Prelude.{◌≡◌, Bool, cond, List, [], ◌∷◌}
use Rattle.std.proofs.Math.Path.{refl}
use Rattle.std.proofs.Common.{ap, ap₂, sym, subst, arith}
use Rattle.std.proofs.Math.Bool.{true, false}
use Prim.Native.Nat.{ℕ, zero, suc, ◌+◌, ◌-◌, ◌^◌, ◌≤◌, ◌<◌}
use Rattle.std.proofs.Math.Dec.{ltb}
use Rattle.std.proofs.Math.Pow.{pow_pos}
use borrow.Author.Tests.{ltb-true, ltb-false}
use Rattle.shapes.specs.Pieces.{Piece, piece, grown, widest, pieces_in, pieces}
use Rattle.shapes.proofs.Laws.Widest.{Widest, widest_is, widest_one}

-- the pieces from s on, each the largest at its place
pub data Greedy (b : ℕ) : ℕ → List Piece → Type 0 where
  ended : {s : ℕ} → s ≡ b → Greedy b s []
  next : {s j : ℕ} {ps : List Piece} → Widest s b j → Greedy b (s + 2 ^ j) ps → Greedy b s (piece s (2 ^ j) ∷ ps)

pub greedy_one : {b s t : ℕ} {ps qs : List Piece} → Greedy b s ps → Greedy b t qs → s ≡ t → ps ≡ qs
greedy_one (ended x) (ended y) e = refl
greedy_one (ended x) (next {j = j} w g) e = let p = pow_pos j in absurd (omega (arith, w.fits.within))
greedy_one (next {j = j} w g) (ended y) e = let p = pow_pos j in absurd (omega (arith, w.fits.within))
greedy_one {b} (next {j = i} w g) (next {j} v h) e =
    let z : i ≡ j = widest_one w (subst (λ (n : ℕ). Widest n b j) (sym e) v) in
    let m : 2 ^ i ≡ 2 ^ j = ap (λ (k : ℕ). 2 ^ k) z in
    ap₂ ◌∷◌ (ap₂ piece e m) (greedy_one g h (ap₂ ◌+◌ e m))

module _ {b : ℕ} (small : b < 2 ^ 27) where
  -- the definition lists the largest pieces, up to b
  greedy : (n s : ℕ) → s ≤ b → b ≤ s + n → Greedy b s (pieces_in n s b)
  unfolding pieces_in widest
  greedy zero s h g = ended {s = s} (omega arith)
  greedy (suc n) s h g = go (greedy n (s + 2 ^ grown 27 0 s b)) (ltb s b) refl
    where
      go : (s + 2 ^ grown 27 0 s b ≤ b → b ≤ s + 2 ^ grown 27 0 s b + n → Greedy b (s + 2 ^ grown 27 0 s b) (pieces_in n (s + 2 ^ grown 27 0 s b) b))
          → (x : Bool) → ltb s b ≡ x → Greedy b s (cond x (piece s (2 ^ grown 27 0 s b) ∷ pieces_in n (s + 2 ^ grown 27 0 s b) b) [])
      go on true q =
          let w = widest_is s b small (ltb-true s b q) in
          next w (on w.fits.within (omega (arith, pow_pos (grown 27 0 s b))))
      go on false q = ended {s = s} (omega (arith, ltb-false s b q))

  pub pieces_greedy : (s : ℕ) → s ≤ b → Greedy b s (pieces s b)
  unfolding pieces
  pieces_greedy s h = greedy (b - s) s h (omega arith)

  -- the first piece, and the pieces after it
  pub pieces_next : (s : ℕ) → s < b → pieces s b ≡ piece s (widest s b) ∷ pieces (s + widest s b) b
  unfolding widest
  pieces_next s h =
      let w = widest_is s b small h in
      greedy_one (pieces_greedy s (omega arith)) (next w (pieces_greedy (s + 2 ^ grown 27 0 s b) w.fits.within)) refl

  pub widest_ends : (s : ℕ) → s < b → s + widest s b ≤ b
  unfolding widest
  widest_ends s h = (widest_is s b small h).fits.within

  pub widest_some : (s : ℕ) → 0 < widest s b
  unfolding widest
  widest_some s = pow_pos (grown 27 0 s b)

-- where there is no line there is no piece
pub pieces_none : (s b : ℕ) → b ≤ s → pieces s b ≡ []
unfolding pieces pieces_in
pieces_none s b h = let z : b - s ≡ 0 = omega arith in rw z refl
