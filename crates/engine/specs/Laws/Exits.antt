-- What the exits of the code cite.
use Rattle.std.specs.Prelude.{◌≡◌, refl, Bool, true, false, ◌&&◌, List, ℕ, ◌-◌, ◌*◌, ◌%◌, ◌^◌, ◌≤◌, leb, ltb, eqb, length}
use Rattle.std.proofs.Common.{ap, ◌∙◌, arith, shl_exact, leb-true, ltb-true, eqb-true, le-leb, lt-ltb, eq-eqb}
use Rattle.std.proofs.Math.Bool.{and-eq-true_iff}
use Rattle.engine.specs.Engine.{between, joined, mask_struck, give_masks, take_masks, memory_right, child_right, members_right, block_right, lines_right, strike_right, engine_refusal, Memory, Block, Members, Engine}
use Rattle.engine.specs.Laws.Masks.{names_child, names_even, names_low}

-- the first test fails, or it holds and the others tell
pub and_no : {a : Bool} (b : Bool) → a ≡ false → false ≡ a && b
and_no b q = rw q refl

pub and_on : {a b r : Bool} → a ≡ true → r ≡ b → r ≡ a && b
and_on q e = rw q e

-- refused: 21, and the masks stay
pub engine_refused : (right : Bool) (new before : List ℕ) → right ≡ false → Engine right new before 21 before
unfolding engine_refusal
engine_refused right new before q = record { answer = rw q refl; masks = rw q refl }

pub engine_done : (right : Bool) (new before : List ℕ) {after : List ℕ} → right ≡ true → after ≡ new → Engine right new before 0 after
unfolding engine_refusal
engine_done right new before q e = record { answer = rw q refl; masks = rw q e }

-- ── what the tests say ──
pub memory_says : (n base end : ℕ) → memory_right n base end ≡ true → Memory n base end
unfolding memory_right
memory_says n base end q =
    let (a, r) = (and-eq-true_iff (ltb base end) _).0 q in
    let (b, c) = (and-eq-true_iff (leb (end - base) 2048) _).0 r in
    record { some = ltb-true base end a; few = leb-true (end - base) 2048 b; room = leb-true (end - base) n c }

pub lines_say : (n base end child from to : ℕ) → lines_right n base end child from to ≡ true → Block n base end child from to
unfolding lines_right child_right block_right
lines_say n base end child from to q =
    let (m, r) = (and-eq-true_iff (memory_right n base end) _).0 q in
    let (c, b) = (and-eq-true_iff (leb 1 child && leb child 15) _).0 r in
    let (d, e) = (and-eq-true_iff (leb 1 child) _).0 c in
    let (f, g) = (and-eq-true_iff (leb base from) _).0 b in
    let (i, j) = (and-eq-true_iff (ltb from to) _).0 g in
    record {
      memory = memory_says n base end m;
      child_low = leb-true 1 child d;
      child_high = leb-true child 15 e;
      low = leb-true base from f;
      long = ltb-true from to i;
      high = leb-true to end j;
    }

pub strike_says : (n base end members : ℕ) → strike_right n base end members ≡ true → Members n base end members
unfolding strike_right members_right
strike_says n base end members q =
    let (m, r) = (and-eq-true_iff (memory_right n base end) _).0 q in
    let (a, b) = (and-eq-true_iff (eqb (members % 2) 0) _).0 r in
    record { memory = memory_says n base end m; each = λ p. names_child members p (eqb-true (members % 2) 0 a) (ltb-true members (2 ^ 16) b) }

-- .. and when they hold
pub memory_of : {n base end : ℕ} → Memory n base end → memory_right n base end ≡ true
unfolding memory_right
memory_of {n} {base} {end} m = rw (lt-ltb base end m.some, le-leb (end - base) 2048 m.few, le-leb (end - base) n m.room) refl

pub lines_right_law : {n base end child from to : ℕ} → Block n base end child from to → lines_right n base end child from to ≡ true
unfolding lines_right child_right block_right
lines_right_law {n} {base} {end} {child} {from} {to} b =
    rw (memory_of b.memory, le-leb 1 child b.child_low, le-leb child 15 b.child_high, le-leb base from b.low, lt-ltb from to b.long, le-leb to end b.high) refl

pub strike_of : {n base end members : ℕ} → Members n base end members → strike_right n base end members ≡ true
unfolding strike_right members_right
strike_of {members = w} m = rw (memory_of m.memory, eq-eqb (w % 2) 0 (names_even w m.each), lt-ltb w (2 ^ 16) (names_low w m.each)) refl

-- ── the bit of a child ──
-- the code's `1u16 << child`
shifted : (c : ℕ) → c ≤ 15 → 1 * 2 ^ c % 65536 ≡ 2 ^ c
shifted c h = shl_exact 1 c 16 (omega arith) (omega arith) ∙ omega arith

module _ (base end child from to : ℕ) (before : List ℕ) (q : lines_right (length before) base end child from to ≡ true) where
  high : child ≤ 15
  high = (lines_say (length before) base end child from to q).child_high

  pub give_masks_done : {after : List ℕ} → after ≡ between (from - base) (to - base) (joined (1 * 2 ^ child % 65536)) before
      → Engine (lines_right (length before) base end child from to) (give_masks before base child from to) before 0 after
  give_masks_done e = engine_done _ _ before q (e ∙ ap (λ (w : ℕ). between (from - base) (to - base) (joined w) before) (shifted child high))

  pub take_masks_done : {after : List ℕ} → after ≡ between (from - base) (to - base) (mask_struck (1 * 2 ^ child % 65536)) before
      → Engine (lines_right (length before) base end child from to) (take_masks before base child from to) before 0 after
  take_masks_done e = engine_done _ _ before q (e ∙ ap (λ (w : ℕ). between (from - base) (to - base) (mask_struck w) before) (shifted child high))
