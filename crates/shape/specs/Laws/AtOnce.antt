-- The clauses in that order pass exactly where `sound` does; and what is known of a record whose shape passed.
use Rattle.std.specs.Prelude.{◌≡◌, Bool, not, ◌&&◌, ◌||◌, List, ℕ, ◌≤◌, ◌<◌, length, eqb}
use Rattle.std.proofs.Math.Bool.{true}
use Rattle.std.proofs.Common.{arith, eqb-true, eq-eqb}
use Rattle.loops.specs.Loops.{all}
use Rattle.loops.specs.Laws.Every.{bool_ext, all_at, all_of}
use Rattle.shapes.specs.declared.Board.{Board}
use Rattle.tables.specs.State.{K}
use Rattle.tables.specs.View.{view}
use Rattle.sound.specs.Clauses.{s1, s2, s3_first, s3, s4, s5, s6, s7, s8_backed, s8_apart, s8, s9, s10, s11, clause_at, sound}
use Rattle.sound.specs.Laws.Tests.{and_says, and_true, or_right}
use Rattle.sound.proofs.Laws.List.{each_clause, sound_passed, passed_sound}
use Rattle.shape.specs.AtOnce.{rest_at, shape_at, Shaped}

-- no two areas share a line
unfoldable pub areas_apart : K → Bool
areas_apart k = all 16 (λ p. all 5 (s8_apart k p))

unfoldable pub at_once : Board → List ℕ → Bool
at_once board l = eqb (length l) 641 && (s1 (view l).k && s3_first l) && all 16 (λ p. s2 l (view l).k p && rest_at board l p) && areas_apart (view l).k

-- what passes at p, clause by clause
pub record Passes (board : Board) (l : List ℕ) (p : ℕ) : Type 0 where
  pub s3 : s3 l p ≡ true
  pub s4 : s4 l (view l).k p ≡ true
  pub s5 : s5 l (view l).k p ≡ true
  pub s6 : s6 (view l).k p ≡ true
  pub s7 : s7 (view l) p ≡ true
  pub s11 : s11 (view l).k p ≡ true
  pub s8 : all 5 (s8_backed (view l).k p) ≡ true
  pub s9 : s9 (view l) p ≡ true
  pub s10 : s10 board (view l) p ≡ true

pub rest_true : (board : Board) (l : List ℕ) (p : ℕ) → Passes board l p → rest_at board l p ≡ true
unfolding rest_at
rest_true board l p h =
    and_true _ _
    (and_true _ _
    (and_true _ _
    (and_true _ _ (and_true _ _ (and_true _ _ (and_true _ _ h.s3 h.s4) h.s5) (and_true _ _ h.s6 h.s7)) h.s11)
    h.s8)
    h.s9)
    h.s10

pub rest_says : (board : Board) (l : List ℕ) (p : ℕ) → rest_at board l p ≡ true → Passes board l p
unfolding rest_at
rest_says board l p q =
    let (a, q10) = and_says _ _ q in
    let (b, q9) = and_says _ _ a in
    let (c, q8) = and_says _ _ b in
    let (d, q11) = and_says _ _ c in
    let (e, f) = and_says _ _ d in
    let (q6, q7) = and_says _ _ f in
    let (g, q5) = and_says _ _ e in
    let (q3, q4) = and_says _ _ g in
    record { s3 = q3; s4 = q4; s5 = q5; s6 = q6; s7 = q7; s11 = q11; s8 = q8; s9 = q9; s10 = q10 }

module _ (board : Board) (l : List ℕ) where
  to : sound board l ≡ true → at_once board l ≡ true
  unfolding at_once areas_apart clause_at s8
  to q =
      let (size, t) = sound_passed board l q in
      let at : (n : ℕ) → 1 ≤ n → n < 12 → (p : ℕ) → p < 16 → clause_at board l n p ≡ true = t in
      let at3 : (p : ℕ) → p < 16 → (not (eqb p 0) || s3_first l ≡ true) × (s3 l p ≡ true) = λ p b. and_says (not (eqb p 0) || s3_first l) (s3 l p) (at 3 (omega arith) (omega arith) p b) in
      let at8 : (p : ℕ) → p < 16 → (all 5 (s8_backed (view l).k p) ≡ true) × (all 5 (s8_apart (view l).k p) ≡ true) = λ p b. and_says (all 5 (s8_backed (view l).k p)) (all 5 (s8_apart (view l).k p)) (at 8 (omega arith) (omega arith) p b) in
      and_true _ _
      (and_true _ _ (and_true _ _ (eq-eqb (length l) 641 size) (and_true _ _ (at 1 (omega arith) (omega arith) 0 (omega arith)) (at3 0 (omega arith)).0))
      (all_of 16 (λ p. s2 l (view l).k p && rest_at board l p) (λ p b.
      and_true _ _ (at 2 (omega arith) (omega arith) p b)
      (rest_true board l p (record {
        s3 = (at3 p b).1;
        s4 = at 4 (omega arith) (omega arith) p b;
        s5 = at 5 (omega arith) (omega arith) p b;
        s6 = at 6 (omega arith) (omega arith) p b;
        s7 = at 7 (omega arith) (omega arith) p b;
        s11 = at 11 (omega arith) (omega arith) p b;
        s8 = (at8 p b).0;
        s9 = at 9 (omega arith) (omega arith) p b;
        s10 = at 10 (omega arith) (omega arith) p b;
      })))))
      (all_of 16 (λ p. all 5 (s8_apart (view l).k p)) (λ p b. (at8 p b).1))

  back : at_once board l ≡ true → sound board l ≡ true
  unfolding at_once areas_apart clause_at s8
  back q =
      let (r, a8) = and_says _ _ q in
      let (z, w) = and_says _ _ r in
      let (q0, z1) = and_says (eqb (length l) 641) (s1 (view l).k && s3_first l) z in
      let (q1, qf) = and_says (s1 (view l).k) (s3_first l) z1 in
      let at : (p : ℕ) → p < 16 → (s2 l (view l).k p ≡ true) × (rest_at board l p ≡ true) = λ p b. and_says (s2 l (view l).k p) (rest_at board l p) (all_at 16 (λ p. s2 l (view l).k p && rest_at board l p) w p b) in
      let on : (p : ℕ) → p < 16 → Passes board l p = λ p b. rest_says board l p (at p b).1 in
      passed_sound board l (eqb-true (length l) 641 q0)
      (each_clause (λ n. (p : ℕ) → p < 16 → clause_at board l n p ≡ true)
      (λ p b. or_right (not (eqb p 0)) (s1 (view l).k) q1)
      (λ p b. (at p b).0)
      (λ p b. and_true (not (eqb p 0) || s3_first l) (s3 l p) (or_right (not (eqb p 0)) (s3_first l) qf) (on p b).s3)
      (λ p b. (on p b).s4)
      (λ p b. (on p b).s5)
      (λ p b. (on p b).s6)
      (λ p b. (on p b).s7)
      (λ p b. and_true _ _ (on p b).s8 (all_at 16 (λ p. all 5 (s8_apart (view l).k p)) a8 p b))
      (λ p b. (on p b).s9)
      (λ p b. (on p b).s10)
      (λ p b. (on p b).s11))

  pub sound_at_once : at_once board l ≡ sound board l
  sound_at_once = bool_ext (at_once board l) (sound board l) back to

-- ── what a shape says ──
module _ {l : List ℕ} (h : Shaped l) (p : ℕ) (b : p < 16) where
  pub shaped_s2 : s2 l (view l).k p ≡ true
  unfolding shape_at
  shaped_s2 = (and_says (s2 l (view l).k p) _ (h.at p b)).0

  pub shaped_record : s3 l p && s4 l (view l).k p && s5 l (view l).k p ≡ true
  unfolding shape_at
  shaped_record = (and_says (s2 l (view l).k p) (s3 l p && s4 l (view l).k p && s5 l (view l).k p) (h.at p b)).1

  pub shaped_s5 : s5 l (view l).k p ≡ true
  shaped_s5 = (and_says (s3 l p && s4 l (view l).k p) (s5 l (view l).k p) shaped_record).1
