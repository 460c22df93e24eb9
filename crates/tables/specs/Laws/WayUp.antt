-- The exits of the climb, and of the loop that writes a way out; the number of a way tells who stands on it; and two results are equal.
use Rattle.std.specs.Prelude.{◌≡◌, refl, Bool, true, cond, length, set, eqb}
use Rattle.std.proofs.Math.Path.{ap}
use Rattle.std.proofs.Common.{ap₂, sym, ◌∙◌, length-append, length-drop, length-set, drop-cons, eq-eqb, ne_eqb, add-one}
use Rattle.std.proofs.Math.Bool.{false}
use mathlib.Core.List.{List, [], ◌∷◌, ◌++◌, append_assoc, append-nil}
use Rattle.std.proofs.Math.Seq.{set-append_seam}
use Prim.Native.Nat.{ℕ, zero, suc, ◌+◌, ◌-◌, ◌*◌, ◌/◌, ◌%◌, ◌^◌, ◌≤◌, ◌<◌}
use Rattle.std.proofs.Math.Nat.{pow-le-pow_right}
use Rattle.std.proofs.Math.Decide.{ℕ_discrete}
use native.Mathlib.Omega.{arith}
use Rattle.loops.specs.Loops.{climb}
use Rattle.loops.specs.Laws.Climb.{climb_root, climb_lost, climb_step, climb_suc}
use Rattle.tables.specs.View.{view}
use Rattle.tables.specs.Laws.FitView.{parents_small}
use Rattle.tables.specs.WayUp.{way_up, digits, digits_of, way_in, names_over, HasRoom, WentUp, WayWritten}

-- ── what the climb asks and promises ──
-- two results are equal: the answer, and the word
pub went_up_one : {up : ℕ → ℕ} {p n w : ℕ} {r s : Bool} {v u : ℕ} → WentUp up p n w r v → WentUp up p n w s u → (r ≡ s) × (v ≡ u)
went_up_one x y = (x.rooted ∙ sym y.rooted, x.names ∙ sym y.names)

module _ {n w : ℕ} (h : HasRoom n w) where
  -- one more fits the machine's word
  pub room_fits : w < 2 ^ 60
  room_fits = let b : 16 ^ (15 - n) ≤ 16 ^ 15 = pow-le-pow_right {n = 16} (omega arith) {i = 15 - n} {j = 15} (omega arith) in omega (arith, h.small, b)

  pub room_step : {p : ℕ} → (n ≡ 0 → ⊥) → p < 16 → HasRoom (n - 1) (w * 16 + p)
  room_step {p} z b =
      let e : 15 - (n - 1) ≡ suc (15 - n) = omega (arith, h.few) in
      record { few = omega (arith, h.few); small = rw e (omega (arith, h.small)) }

digits_last : (xs : List ℕ) (p w : ℕ) → digits (xs ++ (p ∷ [])) w ≡ digits xs (w * 16 + p)
unfolding digits
digits_last [] p w = refl
digits_last (x ∷ xs) p w = ap (λ (d : ℕ). d * 16 + x) (digits_last xs p w)

module _ (up : ℕ → ℕ) (p n : ℕ) where
  way_root : p ≡ 0 → 0 ∷ [] ≡ way_up up n p
  way_root z = climb_root up (λ k. 0 ∷ []) [] (λ q r. r ++ (q ∷ [])) p n z

  way_lost : (p ≡ 0 → ⊥) → n ≡ 0 → [] ≡ way_up up n p
  way_lost z h = climb_lost up (λ k. 0 ∷ []) [] (λ q r. r ++ (q ∷ [])) p n z h

-- ── the exits of the climb ──
module _ {up : ℕ → ℕ} {p n w : ℕ} where
  pub up_root : p ≡ 0 → WentUp up p n w true (w * 16)
  unfolding digits
  up_root z = record {
    rooted = climb_root up (λ k. true) false (λ q r. r) p n z;
    names =
        let e : w * 16 ≡ w * 16 + 0 = omega arith in
        e ∙ ap (λ (hs : List ℕ). digits hs w) (way_root up p n z);
  }

  pub up_lost : (p ≡ 0 → ⊥) → n ≡ 0 → WentUp up p n w false w
  unfolding digits
  up_lost z h = record {
    rooted = climb_lost up (λ k. true) false (λ q r. r) p n z h;
    names = ap (λ (hs : List ℕ). digits hs w) (way_lost up p n z h);
  }

  pub up_step : {q v : ℕ} {r : Bool} → (p ≡ 0 → ⊥) → (n ≡ 0 → ⊥) → up p ≡ q → WentUp up q (n - 1) (w * 16 + p) r v → WentUp up p n w r v
  up_step {q} {v} {r} z h u g = record {
    rooted = climb_step up (λ k. true) false (λ q r. r) p n z h (sym u) g.rooted;
    names =
        g.names
        ∙ sym (digits_last (way_up up (n - 1) q) p w)
        ∙ ap (λ (hs : List ℕ). digits hs w) (climb_step up (λ k. 0 ∷ []) [] (λ q r. r ++ (q ∷ [])) p n z h (sym u) refl);
  }

-- ── the number, written out ──
-- two results are equal: the number, and every byte
pub way_written_one : {w : ℕ} {before : List ℕ} {r s : ℕ} {a b : List ℕ} → WayWritten w before r a → WayWritten w before s b → (r ≡ s) × (a ≡ b)
way_written_one x y = (x.number ∙ sym y.number, x.bytes ∙ sym y.bytes)

-- n names are written, and `left` tells the others
pub record WayWriting (w : ℕ) (before : List ℕ) (n left : ℕ) (list : List ℕ) : Type 0 where
  pub told : List ℕ
  pub number : length told ≡ n
  pub whole : way_in w ≡ told ++ digits_of (16 - n) left
  pub bytes : list ≡ names_over told before
  pub few : n < 16
  pub small : left < 16 ^ (16 - n)

-- one more name stored after hs
over_more : (hs bytes : List ℕ) (x : ℕ) → length hs < length bytes → set (names_over hs bytes) (length hs) x ≡ names_over (hs ++ (x ∷ [])) bytes
over_more hs bytes x h =
    rw (drop-cons bytes (length hs) 0 h, set-append_seam)
    (simp (length-append, append_assoc, add-one))

pub write_start : {w : ℕ} {list : List ℕ} → w < 2 ^ 64 → WayWriting w list 0 w list
write_start h = record { told = []; number = refl; whole = refl; bytes = refl; few = omega arith; small = omega arith }

module _ {w n left : ℕ} {before list : List ℕ} (h : WayWriting w before n left list) (room : 16 ≤ length before) where
  pub same_room : length list ≡ length before
  same_room = ap length h.bytes ∙ rw (length-append, length-drop) (omega (arith, h.number, h.few))

  pub set_room : (x : ℕ) → length (set list n x) ≡ length before
  set_room x = simp length-set same_room

  -- the lowest digit of `left` is written too: what stands in the list then, and what is still to be told
  wrote : set list n (left % 16) ≡ names_over (h.told ++ (left % 16 ∷ [])) before
  wrote = ap₂ (λ (x : List ℕ) (i : ℕ). set x i (left % 16)) h.bytes (sym h.number) ∙ over_more h.told before (left % 16) (omega (arith, h.number, h.few))

  split : way_in w ≡ (h.told ++ (left % 16 ∷ [])) ++ cond (eqb (left / 16) 0) [] (digits_of (16 - (n + 1)) (left / 16))
  unfolding digits_of
  split =
      let e : 16 - n ≡ suc (16 - (n + 1)) = omega (arith, h.few) in
      h.whole
      ∙ rw e (sym (append_assoc h.told (left % 16 ∷ []) (cond (eqb (left / 16) 0) [] (digits_of (16 - (n + 1)) (left / 16)))))

  longer : length (h.told ++ (left % 16 ∷ [])) ≡ n + 1
  longer = rw length-append (ap (λ (x : ℕ). x + 1) h.number)

  pub write_more : (left / 16 ≡ 0 → ⊥) → WayWriting w before (n + 1) (left / 16) (set list n (left % 16))
  write_more z = record {
    told = h.told ++ (left % 16 ∷ []);
    number = longer;
    whole = split ∙ rw (ne_eqb (left / 16) 0 z) refl;
    bytes = wrote;
    few = go (16 - (n + 1)) refl fits;
    small = fits;
  }
    where
      fits : left / 16 < 16 ^ (16 - (n + 1))
      fits =
          let e : 16 - n ≡ suc (16 - (n + 1)) = omega (arith, h.few) in
          let s : left < 16 ^ suc (16 - (n + 1)) = rw e at h.small in
          omega (arith, s)

      go : (m : ℕ) → 16 - (n + 1) ≡ m → left / 16 < 16 ^ m → n + 1 < 16
      go zero e b = absurd (z (omega (arith, b)))
      go (suc m) e b = omega arith

  pub write_end : left / 16 ≡ 0 → WayWritten w before (n + 1) (set list n (left % 16))
  write_end z =
      let e : h.told ++ (left % 16 ∷ []) ≡ way_in w = sym (split ∙ rw (eq-eqb (left / 16) 0 z) (append-nil (h.told ++ (left % 16 ∷ [])))) in
      record { number = sym longer ∙ ap length e; bytes = wrote ∙ ap (λ (hs : List ℕ). names_over hs before) e }

-- ── the number of a way tells who stands on it ──
-- numbers that are digits, and not 0
data Below : List ℕ → Type 0 where
  nobody : Below []
  one : {x : ℕ} {xs : List ℕ} → 0 < x → x < 16 → Below xs → Below (x ∷ xs)

below_last : {xs : List ℕ} {x : ℕ} → 0 < x → x < 16 → Below xs → Below (xs ++ (x ∷ []))
below_last a b nobody = one a b nobody
below_last a b (one c d h) = one c d (below_last a b h)

digits_low : (n v x : ℕ) → x < 16 → digits_of (suc n) (v * 16 + x) ≡ x ∷ cond (eqb v 0) [] (digits_of n v)
unfolding digits_of
digits_low n v x b =
    let m : (v * 16 + x) % 16 ≡ x = omega arith in
    let e : (v * 16 + x) / 16 ≡ v = omega arith in
    rw (m, e) refl

digits_back : {x : ℕ} {xs : List ℕ} (n : ℕ) → x < 16 → length xs < n → Below xs → digits_of n (digits (x ∷ xs) 0) ≡ x ∷ xs
unfolding digits
digits_back zero b h r = absurd (omega arith)
digits_back {x} (suc n) b h nobody = digits_low n 0 x b
digits_back {x} (suc n) b h (one {x = y} {xs = ys} c d r) =
    digits_low n (digits ys 0 * 16 + y) x b
    ∙ rw (ne_eqb (digits ys 0 * 16 + y) 0 (λ u. omega arith)) (ap (λ (l : List ℕ). x ∷ l) (digits_back n d (omega arith) r))

-- a topmost digit, and digits below it that are not 0
record Topped (hs : List ℕ) : Type 0 where
  top : ℕ
  rest : List ℕ
  whole : hs ≡ top ∷ rest
  small : top < 16
  others : Below rest

topped_last : {hs : List ℕ} {x : ℕ} → 0 < x → x < 16 → Topped hs → Topped (hs ++ (x ∷ []))
topped_last {hs} {x} a b t = record {
  top = t.top;
  rest = t.rest ++ (x ∷ []);
  whole = ap (λ (l : List ℕ). l ++ (x ∷ [])) t.whole;
  small = t.small;
  others = below_last a b t.others;
}

module _ {up : ℕ → ℕ} (small : (p : ℕ) → p < 16 → up p < 16) where
  root_topped : (n p : ℕ) → p ≡ 0 → Topped (way_up up n p)
  root_topped n p z = rw (← way_root up p n z) (record { top = 0; rest = []; whole = refl; small = omega arith; others = nobody })

  way_topped : (n p : ℕ) → p < 16 → (n ≡ 0 → p ≡ 0) → Topped (way_up up n p)
  way_topped zero p b h = root_topped 0 p (h refl)
  way_topped (suc n) p b h = go (ℕ_discrete p 0) (ℕ_discrete n 0) (ℕ_discrete (up p) 0) (way_topped n (up p) (small p b))
    where
      more : (p ≡ 0 → ⊥) → Topped (way_up up n (up p) ++ (p ∷ [])) → Topped (way_up up (suc n) p)
      more z t = rw (climb_suc up (λ k. 0 ∷ []) [] (λ q r. r ++ (q ∷ [])) p n z) t

      go : Dec (p ≡ 0) → Dec (n ≡ 0) → Dec (up p ≡ 0) → ((n ≡ 0 → up p ≡ 0) → Topped (way_up up n (up p))) → Topped (way_up up (suc n) p)
      go (yes z) _ _ above = root_topped (suc n) p z
      go (no z) (yes y) (no x) above =
          more z (rw (← way_lost up (up p) n x y) (record { top = p; rest = []; whole = refl; small = b; others = nobody }))
      go (no z) (yes y) (yes x) above = more z (topped_last (omega arith) b (above (λ _. x)))
      go (no z) (no y) _ above = more z (topped_last (omega arith) b (above (λ x. absurd (y x))))

-- on a way stands at most one more than it has steps
pub way_few : (up : ℕ → ℕ) (n p : ℕ) → length (way_up up n p) ≤ n + 1
unfolding climb
way_few up zero p = go (eqb p 0)
  where
    go : (b : Bool) → length {A = ℕ} (cond b (0 ∷ []) []) ≤ 1
    go true = omega arith
    go false = omega arith
way_few up (suc n) p = go (eqb p 0) (way_few up n (up p))
  where
    go : (b : Bool) → length (way_up up n (up p)) ≤ n + 1 → length (cond b (0 ∷ []) (way_up up n (up p) ++ (p ∷ []))) ≤ suc n + 1
    go true h = omega arith
    go false h = rw (length-append) (omega (arith, h))

way_back : {hs : List ℕ} → Topped hs → length hs ≤ 16 → way_in (digits hs 0) ≡ hs
way_back {hs} t h = rw t.whole (digits_back 16 t.small (omega (arith, ap length t.whole)) t.others)

-- the number of a way of at most 15 steps up a table
pub way_told : (l : List ℕ) (n p : ℕ) → p < 16 → 0 < n → n ≤ 15 → way_in (digits (way_up (view l).k.parent n p) 0) ≡ way_up (view l).k.parent n p
way_told l n p b z h = way_back (way_topped (λ q _. parents_small l q) n p b (λ y. absurd (omega arith))) (omega (arith, way_few (view l).k.parent n p))
