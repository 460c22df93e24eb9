-- A part of a list, rewritten.
use Rattle.std.specs.Prelude.{◌≡◌, Bool, ◌&&◌, List, ℕ, ◌+◌, ◌-◌, ◌≤◌, ◌<◌, leb, length, take, drop}
use Rattle.std.proofs.Math.Path.{refl}
use Rattle.std.proofs.Common.{ap, ◌∙◌, arith}
use Rattle.std.proofs.Math.Bool.{true, false, cond}
use Rattle.std.proofs.Math.Decide.{dec_lt}
use Rattle.std.proofs.Math.Dec.{ltb}
use Rattle.std.proofs.Math.ListN.{get_or}
use Rattle.std.proofs.lemmas.Grind.{common_steps}
use Rattle.std.proofs.lemmas.List.{length-take-le, length-drop, get_or-take, get_or-drop, get_or_append_left, get_or-append_right}
use borrow.Author.Tests.{lt-leb, le-leb, le-ltb, lt-ltb}
use borrow.Rule.Slice.PartMut.{put_mid}
use Rattle.loops.specs.Laws.Rewrite.{tab_is, tab_at, length_tab}
use Rattle.engine.specs.Engine.{between}

-- ── what stands where ──
module _ (a b : ℕ) (h : ℕ → ℕ) (l : List ℕ) where
  pub between_length : length (between a b h l) ≡ length l
  unfolding between
  between_length = length_tab (length l) _

  pub between_in : (k : ℕ) → k < length l → a ≤ k → k < b → get_or (between a b h l) k 0 ≡ h (get_or l k 0)
  unfolding between
  between_in k c x y = tab_at (length l) _ k c ∙ rw (le-leb a k x, lt-ltb k b y) refl

  pub between_below : (k : ℕ) → k < length l → k < a → get_or (between a b h l) k 0 ≡ get_or l k 0
  unfolding between
  between_below k c x = tab_at (length l) _ k c ∙ rw (lt-leb a k x) refl

  pub between_from : (k : ℕ) → k < length l → b ≤ k → get_or (between a b h l) k 0 ≡ get_or l k 0
  unfolding between
  between_from k c y = tab_at (length l) _ k c ∙ go (leb a k)
    where
      go : (x : Bool) → cond (x && ltb k b) (h (get_or l k 0)) (get_or l k 0) ≡ get_or l k 0
      go true = rw (le-ltb k b y) refl
      go false = refl

-- ── a part rewritten ──
-- l with its part from a to b - 1 written anew, each element of it by h
pub part_rewritten : (h : ℕ → ℕ) (a b : ℕ) (l part : List ℕ) → a ≤ b → b ≤ length l → let old : List ℕ = take (b - a) (drop a l) in
    length part ≡ length old → ((k : ℕ) → k < length old → get_or part k 0 ≡ h (get_or old k 0)) → put_mid a (b - a) l part ≡ between a b h l
unfolding between
part_rewritten h a b l part x y same each = tab_is (length l) _ _ long (λ k c. go k c (dec_lt k a) (dec_lt k b))
  where
    head : length (take a l) ≡ a
    head = length-take-le a l (omega arith)

    few : length (take (b - a) (drop a l)) ≡ b - a
    few = length-take-le (b - a) (drop a l) (omega (arith, length-drop a l))

    size : length part ≡ b - a
    size = same ∙ few

    long : length (put_mid a (b - a) l part) ≡ length l
    long = grind (arith, common_steps)

    go : (k : ℕ) → k < length l → Dec (k < a) → Dec (k < b) → get_or (put_mid a (b - a) l part) k 0 ≡ cond (leb a k && ltb k b) (h (get_or l k 0)) (get_or l k 0)
    go k c (yes p) _ = rw (lt-leb a k p) (get_or_append_left (take a l) _ 0 k (omega (arith, head)) ∙ get_or-take a l k 0 p)
    go k c (no p) (yes q) =
        let here : a + (k - a) ≡ k = omega arith in
        rw (le-leb a k (omega arith), lt-ltb k b q)
        (get_or-append_right (take a l) _ a k 0 head (omega arith)
        ∙ get_or_append_left part _ 0 (k - a) (omega (arith, size))
        ∙ each (k - a) (omega (arith, few))
        ∙ ap h (get_or-take (b - a) (drop a l) (k - a) 0 (omega arith) ∙ get_or-drop a l (k - a) 0 ∙ rw here refl))
    go k c (no p) (no q) =
        let here : a + (b - a + (k - a - (b - a))) ≡ k = omega arith in
        rw (le-leb a k (omega arith), le-ltb k b (omega arith))
        (get_or-append_right (take a l) _ a k 0 head (omega arith)
        ∙ get_or-append_right part _ (b - a) (k - a) 0 size (omega arith)
        ∙ get_or-drop (b - a) (drop a l) (k - a - (b - a)) 0
        ∙ get_or-drop a l (b - a + (k - a - (b - a))) 0
        ∙ rw here refl)
