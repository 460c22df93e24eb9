-- The way that is kept, up past the entries that have ended and down again, is the way of the line: the exits of both; and two results are equal.
use Rattle.std.specs.Prelude.{◌≡◌, List, ℕ, ◌+◌, ◌-◌, ◌^◌, ◌≤◌, ◌<◌, min, get_or, set, replicate, Result}
use Rattle.std.proofs.Common.{sym, ap, subst, ◌∙◌, arith, length-set, get_or-set_same, get_or-set_other}
use Rattle.std.proofs.Math.Decide.{ℕ_discrete}
use Rattle.std.proofs.lemmas.List.{length-replicate, get_or-replicate}
use Rattle.words.specs.Kind.{fields_in, word_of, writing}
use Rattle.words.specs.Laws.Kind.{write_done}
use Rattle.words.specs.Words.{mark}
use Rattle.words.specs.Laws.Kinds.{mark_range, mark_small, line_in_law, holder_in_law}
use Rattle.words.specs.Kinds.{line_in, holder_in, mark_for}
use Rattle.words.specs.declared.mark_word.MarkFields.{MarkFields}
use Rattle.tables.specs.State.{K}
use Rattle.sound.specs.Core.{Core}
use Rattle.runs.specs.declared.pieces.Hop.{Hop}
use Rattle.runs.specs.declared.pieces.PieceEnd.{PieceEnd}
use Rattle.runs.specs.Pieces.{end_at, Hopped, Descent}
use Rattle.runs.specs.Laws.Pieces.{holder_small, end_after_law, same_end, same_heir, piece_start, descent_here, descent_last, descent_down}
use Rattle.runs.specs.Places.{Passed}
use Rattle.runs.specs.Ways.{Short, word_written, low_at, who_at, Climbs, Climbing, Climbed, Way, Standing, Pieced}
use Rattle.words.specs.declared.Refusal.{Refusal}

-- of fields in range it is the mark
pub kept_mark : {w : Result ℕ Refusal} (f : MarkFields) → f.line.0 < 2 ^ 27 → f.holder.0 < 16 → w ≡ writing mark f → Short w × (word_written w ≡ word_of mark f)
kept_mark f a b e =
    let q = e ∙ write_done mark f (mark_range f a b) in
    (subst Short (sym q) (mark_small f a b), ap word_written q)

-- ── up ──
-- two results are equal
no_lower : {w : List ℕ} {d l r s : ℕ} → Climbed w d l r → Climbed w d l s → r < s → ⊥
no_lower {s = s} x y h = omega (arith, x.climbing.below s h y.climbing.within, y.low)

pub climbed_one : {w : List ℕ} {d l r s : ℕ} → Climbed w d l r → Climbed w d l s → r ≡ s
climbed_one x y = omega (arith, no_lower x y, no_lower y x)

pub climb_start : {w : List ℕ} {d l : ℕ} → Climbing w d l d
climb_start = record { within = omega arith; below = λ j a b. absurd (omega arith) }

module _ {w : List ℕ} {d l r : ℕ} (inv : Climbing w d l r) where
  pub climb_up : 0 < r → low_at w r ≤ l → Climbing w d l (r - 1)
  climb_up b q = record { within = omega (arith, inv.within); below = λ j x y. go j x y (ℕ_discrete j r) }
    where
      go : (j : ℕ) → r - 1 < j → j ≤ d → Dec (j ≡ r) → low_at w j ≤ l
      go j x y (yes z) = rw z q
      go j x y (no z) = inv.below j (omega arith) y

  pub climbed_root : Climbs w d l → r ≤ 0 → Climbed w d l r
  climbed_root h b = let z : r ≡ 0 = omega arith in record { climbing = inv; low = rw z h.root }

-- ── down ──
-- of two results the end and the deepest holder are equal
pub pieced_one : {k : K} {o : List ℕ} {l : ℕ} {r r' : PieceEnd} {s w s' w' : List ℕ} → Pieced k o l r s w → Pieced k o l r' s' w' → (r.end.0 ≡ r'.end.0) × (r.deepest.0 ≡ r'.deepest.0)
pieced_one x y = (x.end ∙ sym y.end, x.deepest ∙ sym y.deepest)

-- on the way down, at p, with the lowest end so far
pub record Walking (k : K) (o : List ℕ) (l p e d : ℕ) (s w : List ℕ) : Type 0 where
  pub who : who_at w d ≡ p
  pub end : low_at w d ≡ e
  pub after : l < e
  pub passed : Passed k o l s
  pub way : Way k l d w

pub way_start : {k : K} → Core k → k.stop < 2 ^ 27 → {b e m : ℕ} → b ≡ k.base → e ≡ k.stop → m ≡ mark_for e 0 → Way k b 0 (replicate 16 m)
way_start {k} h few {b} {e} {m} x y made =
    let q : get_or (replicate 16 m) 0 0 ≡ mark_for e 0 = get_or-replicate 16 0 m 0 (omega arith) ∙ made in
    let low : low_at (replicate 16 m) 0 ≡ k.stop = ap line_in q ∙ line_in_law e 0 (omega arith) (omega arith) ∙ y in
    let who : who_at (replicate 16 m) 0 ≡ 0 = ap holder_in q ∙ holder_in_law e 0 (omega arith) (omega arith) in
    record {
      size = length-replicate 16 m;
      deep = omega arith;
      root = low;
      steps = λ j n u v z.
          let i : j ≡ 0 = omega arith in
          rw (i, who, low) (piece_start h (omega arith) (omega (arith, ap (low_at (replicate 16 m)) i, low)));
    }

-- for a later line
pub way_later : {k : K} {l m d : ℕ} {w : List ℕ} → l ≤ m → Way k l d w → Way k m d w
way_later b h = record { size = h.size; deep = h.deep; root = h.root; steps = λ j n c u v. h.steps j n c (omega arith) v }

module _ {k : K} {o : List ℕ} where
  pub climbs : {l d : ℕ} {s w : List ℕ} → Standing k o l d s w → Climbs w d l
  climbs h = record { size = h.way.size; deep = h.way.deep; root = omega (arith, h.inside, h.way.root) }

  pub walk_from_mark : {l d r : ℕ} {s w : List ℕ} {f : MarkFields} → Standing k o l d s w → Climbed w d l r → f ≡ fields_in mark (get_or w r 0) → Walking k o l f.holder.0 f.line.0 r s w
  walk_from_mark h c q =
      let b = c.climbing.within in
      let e = ap (λ (g : MarkFields). g.line.0) q in
      record {
        who = sym (ap (λ (g : MarkFields). g.holder.0) q);
        end = sym e;
        after = omega (arith, c.low, e);
        passed = h.passed;
        way = record { size = h.way.size; deep = omega (arith, h.way.deep); root = h.way.root; steps = λ j m u v z. h.way.steps j m (omega arith) v z };
      }

  module _ (h : Core k) {l p e d : ℕ} {s w : List ℕ} (inv : Walking k o l p e d s w) where
    here : (m : ℕ) → l ≤ m → m < e → Descent k m p e (15 - d)
    here m u v = rw (inv.who, inv.end) at (inv.way.steps d m (omega arith) u (omega (arith, inv.end)))

    pub walk_holds : Descent k l p e (15 - d)
    walk_holds = here l (omega arith) inv.after

    pub walk_small : p < 16
    walk_small = holder_small h walk_holds.holds

    pub walk_last : 15 ≤ d → Pieced k o l (record { end = record { 0 = e }; deepest = record { 0 = p }; depth = d }) s w
    walk_last b =
        let (x, y) = descent_last walk_holds (omega arith) in
        record { end = x; deepest = y; small = walk_small; passed = inv.passed; way = inv.way }

    module _ {r : Hop} {c : ℕ} {s' : List ℕ} (hop : Hopped k l p r) (low : c ≡ min e r.end.0) (later : Passed k o l s') (b : d < 15) where
      min_is : c ≡ min e (end_at k l p)
      min_is = low ∙ ap (min e) hop.end

      pub walk_here : r.heir.0 ≡ 0 → Pieced k o l (record { end = record { 0 = c }; deepest = record { 0 = p }; depth = d }) s' w
      walk_here z =
          let (x, y) = descent_here walk_holds (sym hop.heir ∙ z) (omega arith) in
          record { end = min_is ∙ x; deepest = y; small = walk_small; passed = later; way = inv.way }

      pub low_small : k.stop < 2 ^ 27 → c < 2 ^ 27
      low_small few = omega (arith, low, walk_holds.low)

      pub walk_down : {word : ℕ} → k.stop < 2 ^ 27 → word ≡ mark_for c r.heir.0 → (r.heir.0 ≡ 0 → ⊥) → Walking k o l r.heir.0 c (d + 1) s' (set w (d + 1) word)
      walk_down {word} few made z = record {
        who = who;
        end = end;
        after = omega (arith, min_is, inv.after, end_after_law k l p);
        passed = later;
        way = record {
          size = length-set w (d + 1) word ∙ inv.way.size;
          deep = omega arith;
          root = ap line_in (get_or-set_other w (d + 1) 0 word 0 (λ x. omega arith)) ∙ inv.way.root;
          steps = λ j m u v x. go j m u v x (ℕ_discrete j (d + 1));
        };
      }
        where
          new : List ℕ
          new = set w (d + 1) word

          put : get_or new (d + 1) 0 ≡ mark_for c r.heir.0
          put = get_or-set_same w (d + 1) word 0 (omega (arith, inv.way.size)) ∙ made

          who : who_at new (d + 1) ≡ r.heir.0
          who = ap holder_in put ∙ holder_in_law c r.heir.0 (low_small few) hop.small

          end : low_at new (d + 1) ≡ c
          end = ap line_in put ∙ line_in_law c r.heir.0 (low_small few) hop.small

          -- the heir of l is the heir of every line up to the end
          down : (m : ℕ) → l ≤ m → m < c → Descent k m r.heir.0 c (15 - (d + 1))
          down m u v =
              let x : m < end_at k l p = omega (arith, min_is) in
              let q = same_heir h p l m u x in
              let e : 15 - (d + 1) ≡ 15 - d - 1 = omega arith in
              rw (hop.heir, ← q, min_is, ← (same_end h p l m u x), e)
              (descent_down (here m u (omega (arith, min_is))) h (λ y. z (hop.heir ∙ sym q ∙ y)) (omega arith))

          go : (j m : ℕ) → j ≤ d + 1 → l ≤ m → m < low_at new j → Dec (j ≡ d + 1) → Descent k m (who_at new j) (low_at new j) (15 - j)
          go j m u v x (yes y) = rw (y, who, end) (down m v (omega (arith, ap (low_at new) y, end)))
          go j m u v x (no y) =
              let q = get_or-set_other w (d + 1) j word 0 y in
              rw q (inv.way.steps j m (omega arith) v (omega (arith, ap line_in q)))
