-- Exactly the sound tables pass: each exit of the decision, by the clause that fails there. The records from the top on need no look.
use Rattle.std.specs.Prelude.{◌≡◌, Bool, true, false, not, ◌&&◌, List, ℕ, ◌≤◌, ◌<◌, length, ltb, eqb}
use Rattle.std.proofs.Math.Path.{refl, sym}
use Rattle.std.proofs.Common.{◌∙◌, arith, ne_eqb}
use Rattle.std.proofs.lemmas.Bool.{false≢true, not-false}
use Rattle.std.proofs.Math.Decide.{dec_lt}
use Rattle.loops.specs.Loops.{all}
use Rattle.loops.specs.Laws.Every.{all_at, all_of}
use Rattle.shapes.specs.declared.Board.{Board}
use Rattle.tables.specs.View.{view}
use Rattle.tables.specs.Search.{present}
use Rattle.tables.specs.Top.{Top}
use Rattle.tables.specs.Laws.Top.{top_absent}
use Rattle.sound.specs.Clauses.{s1, s2, s3_first, s6, sound}
use Rattle.sound.specs.Laws.Tests.{and_says, and_true, not_says, never}
use Rattle.ordering.specs.Laws.Present.{absent_zero}
use Rattle.shape.specs.Laws.Absent.{absent_s3, absent_s4, absent_s5, absent_s6, absent_s7, absent_s8, absent_s9, absent_s10, absent_s11}
use Rattle.shape.specs.AtOnce.{rest_at, shape_at, Shaped, formed}
use Rattle.shape.specs.Laws.AtOnce.{areas_apart, at_once, Passes, rest_true, rest_says, sound_at_once}
use Rattle.ordering.specs.Laws.Order.{SameOrders, orders_one}
use Rattle.decide.specs.Decide.{Decided}
use Rattle.decide.specs.Local.{left_where}

-- a test b, whose result a was turned round: it failed, or it passed
pub failed : {a b : Bool} → a ≡ b → not a ≡ true → b ≡ true → ⊥
failed {a} e n q = not_says a n (e ∙ q)

pub passed : {a b : Bool} → a ≡ b → not a ≡ false → b ≡ true
passed {a} e n = sym e ∙ not-false a n

-- true && b is b
pub and_is : (a b : Bool) → a ≡ true → b ≡ a && b
and_is a b h = rw h refl

module _ (l : List ℕ) (p : ℕ) where
  -- who is absent has its shape
  pub absent_shape : p < 16 → s2 l (view l).k p ≡ true → present (view l).k p ≡ false → true ≡ shape_at l p
  unfolding shape_at
  absent_shape b q n =
      let (z, w) = absent_zero l p b q n in
      sym (and_true _ _ q (and_true _ _ (and_true _ _ (absent_s3 l p w) (absent_s4 l p w z)) (absent_s5 l p w)))

module _ (board : Board) (l : List ℕ) (p : ℕ) where
  -- who is absent has nothing left to test
  pub absent_rest : p < 16 → s2 l (view l).k p ≡ true → present (view l).k p ≡ false → rest_at board l p ≡ true
  absent_rest b q n =
      let (z, w) = absent_zero l p b q n in
      rest_true board l p (record {
        s3 = absent_s3 l p w;
        s4 = absent_s4 l p w z;
        s5 = absent_s5 l p w;
        s6 = absent_s6 l p w;
        s7 = absent_s7 l p w z;
        s11 = absent_s11 l p w z;
        s8 = absent_s8 l p w;
        s9 = absent_s9 l p w;
        s10 = absent_s10 l p w board;
      })

-- ── the records from the top on need no look ──
module _ {l : List ℕ} {m : ℕ} (h : Top l m) where
  -- S1 asks for a record, that of current
  pub top_first : s1 (view l).k && s3_first l ≡ true → 0 < m
  unfolding s1
  top_first q = go (dec_lt 0 m)
    where
      go : Dec (0 < m) → 0 < m
      go (yes b) = b
      go (no b) =
          let (x, y) = and_says (s1 (view l).k) (s3_first l) q in
          absurd (false≢true (sym (top_absent h (view l).k.current (omega arith)) ∙ (and_says (ltb (view l).k.base (view l).k.stop) (present (view l).k (view l).k.current) x).1))

  -- .. so the root's is looked at
  pub top_shape : 0 < m → (p : ℕ) → m ≤ p → p < 16 → shape_at l p ≡ true
  unfolding s2
  top_shape some p a b =
      let n = top_absent h p a in
      sym (absent_shape l p b (rw (ne_eqb p 0 (λ z. omega arith), n) (h.zero p a b)) n)

  pub top_left : (board : Board) (p : ℕ) → m ≤ p → left_where board (view l) p ≡ true
  unfolding left_where
  top_left board p a = rw (top_absent h p a) refl

-- ── the parts of the decision, in the order of the code ──
-- two results are equal; where they are true, so are the number and the order of the entries of each partition that is present
pub decided_one : {board : Board} {l : List ℕ} {r r' : Bool} {o c o' c' : List ℕ} → Decided board l r o c → Decided board l r' o' c' → (r ≡ r') × (r ≡ true → SameOrders (view l).k 16 o c o' c')
decided_one x y = let z = x.says ∙ sym y.says in (z, λ q. orders_one (x.orders q) (y.orders (sym z ∙ q)))

module _ (board : Board) (l : List ℕ) where
  -- the sound tables pass each part
  pub record PartsPassed : Type 0 where
    pub first : s1 (view l).k && s3_first l ≡ true
    pub shapes : all 16 (shape_at l) ≡ true
    pub s6 : all 16 (s6 (view l).k) ≡ true
    pub partitions : all 16 (λ p. s2 l (view l).k p && rest_at board l p) ≡ true

  pub parts : sound board l ≡ true → PartsPassed
  unfolding at_once shape_at
  parts q =
      let (r, _) = and_says _ (areas_apart (view l).k) (sound_at_once board l ∙ q) in
      let (z, u) = and_says (eqb (length l) 641 && (s1 (view l).k && s3_first l)) (all 16 (λ p. s2 l (view l).k p && rest_at board l p)) r in
      let at : (p : ℕ) → p < 16 → (s2 l (view l).k p ≡ true) × Passes board l p = λ p b.
      let (x, y) = and_says (s2 l (view l).k p) (rest_at board l p) (all_at 16 (λ p. s2 l (view l).k p && rest_at board l p) u p b) in
      (x, rest_says board l p y) in
      record {
        first = (and_says (eqb (length l) 641) (s1 (view l).k && s3_first l) z).1;
        shapes = all_of 16 (shape_at l) (λ p b. let (x, h) = at p b in and_true _ _ x (and_true _ _ (and_true _ _ h.s3 h.s4) h.s5));
        s6 = all_of 16 (s6 (view l).k) (λ p b. (at p b).1.s6);
        partitions = u;
      }

  pub parts_formed : PartsPassed → formed l ≡ true
  unfolding formed
  parts_formed h = and_true _ _ h.first h.shapes

  pub sound_formed : sound board l ≡ true → formed l ≡ true
  sound_formed q = parts_formed (parts q)

  -- a part that fails: nothing is left to do, and no order is promised
  pub not_sound_so : {o c : List ℕ} → (sound board l ≡ true → ⊥) → Decided board l false o c
  not_sound_so h = record { says = never (sound board l) h; orders = λ q. absurd (false≢true q) }

  pub not_sound : {o c : List ℕ} → (PartsPassed → ⊥) → Decided board l false o c
  not_sound h = not_sound_so (λ q. h (parts q))

-- what passes S1 to S5: word 0 does, and the records have their shape
module _ (l : List ℕ) (h : formed l ≡ true) where
  pub formed_first : s1 (view l).k && s3_first l ≡ true
  unfolding formed
  formed_first = (and_says (s1 (view l).k && s3_first l) (all 16 (shape_at l)) h).0

  pub formed_shaped : Shaped l
  unfolding formed
  formed_shaped = record { at = all_at 16 (shape_at l) (and_says (s1 (view l).k && s3_first l) (all 16 (shape_at l)) h).1 }
