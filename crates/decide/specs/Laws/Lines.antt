-- The walk along lines alone decides S7's cover: it is the walk of `Tiles` over entries that all have the same rights. The root's is that.
use Rattle.std.specs.Prelude.{◌≡◌, Bool, true, false, not, ◌&&◌, List, ℕ, ◌+◌, ◌≤◌, ◌<◌, eqb}
use Rattle.std.proofs.Math.Path.{refl}
use Rattle.std.proofs.Common.{sym, ◌∙◌, arith, ne_eqb}
use Rattle.std.proofs.Math.Bool.{and-true as and-unit}
use Rattle.std.proofs.Math.Decide.{dec_lt}
use Rattle.loops.specs.Loops.{all}
use Rattle.words.specs.declared.Rights.{Rights}
use Rattle.words.specs.declared.slot_word.SlotFields.{SlotFields}
use Rattle.tables.specs.State.{Entry, all_rights}
use Rattle.tables.specs.View.{view}
use Rattle.tables.specs.Seen.{Seen}
use Rattle.sound.specs.Clauses.{within, s11}
use Rattle.sound.specs.Laws.Tests.{and_says, never}
use Rattle.decide.specs.Entries.{exactly, full_slot}
use Rattle.decide.specs.Laws.Entries.{rights_root}
use Rattle.decide.specs.Local.{grants_open}
use Rattle.decide.specs.Laws.Local.{root_open}
use Rattle.decide.specs.Laws.Decide.{failed, passed}
use Rattle.ordering.specs.Order.{placed}
use Rattle.decide.specs.Tiles.{Tiling, GoesOn, Tiled, stuck, TiledAs, alike, row_of, unranked, plain_row, InOrder}
use Rattle.decide.specs.Walk.{Exact, Bits}
use Rattle.decide.specs.Laws.Tiles.{TwoRows, Lies, tile_on, RowsTell, rows_start, rows_end, rows_on, rows_stuck, row_seen, row_line, row_ends, whole, root_lies, lies_root}

-- ── rights apart ──
module _ {E : ℕ → Entry} {n : ℕ} {F : ℕ → Entry} {m p : ℕ} where
  pub exact_lies : Exact (λ a. unranked (E a)) n (λ b. unranked (F b)) m p → Lies E n F m p
  exact_lies h = record {
    inside = λ a b. let (c, d, g, u) = h.inside a b in (c, d, g, record { from = u.from; to = u.to });
    cover = λ b c g l v. let (a, d, u) = h.cover b c g l (record { from = v.from; to = v.to }) in (a, d, record { from = u.from; to = u.to });
  }

  pub lies_exact : Lies E n F m p → Exact (λ a. unranked (E a)) n (λ b. unranked (F b)) m p
  unfolding within
  lies_exact h = record {
    inside = λ a b. let (c, d, g, u) = h.inside a b in (c, d, g, record { from = u.from; to = u.to });
    cover = λ b c g l v. let (a, d, u) = h.cover b c g l (record { from = v.from; to = v.to }) in (a, d, record { from = u.from; to = u.to });
    rights = λ a b c d g u. refl;
    equal = λ a c b d e f g u v. refl;
  }

-- .. and open bits: all are set
pub no_bits : {E F : ℕ → Entry} {n m p : ℕ} → Bits E (λ _. true) n F (λ _. true) m p
no_bits = record { says = λ b c g. (λ _ a d u. refl, λ _. refl) }

pub lines_as : {E : ℕ → Entry} {n i lo hi x : ℕ} {r : Rights} → Tiled E n i lo hi r x → TiledAs E (λ _. true) n i lo hi r true x
lines_as t = alike t (λ _. (λ _ a b c. refl, λ _. refl))

-- ── the walk along one range, as the code reads the entries ──
module _ {l o : List ℕ} {p n i k lo hi at : ℕ} (h : InOrder l o p n) (inv : Tiling (plain_row l o p) i k lo hi at all_rights) where
  no_place : at < hi → (GoesOn (plain_row l o p) n i k hi at all_rights → ⊥) → Tiled (plain_row l o p) n i lo hi all_rights 33
  no_place c no_fit = stuck k at (omega (arith, h.rows.ordered.few)) refl c inv no_fit

  pub line_none : at < hi → n ≤ k → Tiled (plain_row l o p) n i lo hi all_rights 33
  line_none c b = no_place c (λ u. omega (arith, u.there))

  module _ {f : SlotFields} (c : at < hi) (b : k < n) (v : Seen l p (placed o p k) f) where
    pub line_elsewhere : (f.start.0 ≡ at → ⊥) → Tiled (plain_row l o p) n i lo hi all_rights 33
    line_elsewhere no_start = no_place c (λ u. no_start (sym (row_seen h b v).start ∙ u.start))

    pub line_over : hi < f.end.0 → Tiled (plain_row l o p) n i lo hi all_rights 33
    line_over d = no_place c (λ u. omega (arith, u.to, (row_seen h b v).stop))

    pub line_next : f.start.0 ≡ at → f.end.0 ≤ hi → Tiling (plain_row l o p) i (k + 1) lo hi f.end.0 all_rights
    unfolding within
    line_next start to =
        let e = row_seen h b v in
        let fits : GoesOn (plain_row l o p) n i k hi at all_rights = record { there = b; start = e.start ∙ start; to = omega (arith, e.stop); rights = refl; equal = refl } in
        rw (← e.stop) (tile_on inv (row_line h k b) fits)

-- ── the root's entries, and base to end as one that it was given ──
module _ {l o : List ℕ} {p n : ℕ} (h : InOrder l o p n) (root : p ≡ 0) where
  one_row : TwoRows (plain_row l o p) n (whole l p) 1
  one_row = record { line = row_line h; ends = row_ends h; grants = λ a b c d. absurd (omega arith) }

  root_tells : RowsTell (plain_row l o p) (λ _. true) n (whole l p) (λ _. true) 1 p (exactly (view l).k p)
  root_tells = record {
    rows = one_row;
    to = λ q. (lies_exact {E = row_of l o p} {F = whole l p} (root_lies h root q), no_bits);
    back = λ x _. lies_root h root (exact_lies {E = row_of l o p} {F = whole l p} x);
  }

  pub root_walk : {x : ℕ} → Tiled (plain_row l o p) n 0 (view l).k.base (view l).k.stop all_rights x → eqb x n ≡ exactly (view l).k p
  root_walk {x} t = go (dec_lt n x)
    where
      go : Dec (n < x) → eqb x n ≡ exactly (view l).k p
      go (yes c) = ne_eqb x n (λ z. omega arith) ∙ rows_stuck root_tells rows_start (omega arith) refl (lines_as t) c
      go (no c) = rows_end root_tells (rows_on root_tells rows_start (omega arith) refl (lines_as t) (omega arith)) (omega arith)

-- S11 asks for all rights of the root, and nobody gave it anything
module _ (l : List ℕ) {p : ℕ} (root : p ≡ 0) {r : Bool} (e : r ≡ all 32 (full_slot (view l).k p)) where
  pub root_lacks : not r ≡ true → false ≡ exactly (view l).k p && s11 (view l).k p && grants_open (view l) p
  root_lacks n = never _ (λ q.
      let (x, _) = and_says (exactly (view l).k p && s11 (view l).k p) (grants_open (view l) p) q in
      failed e n (sym (rights_root (view l).k p root) ∙ (and_says (exactly (view l).k p) (s11 (view l).k p) x).1))

  pub root_end : {x : Bool} → not r ≡ false → x ≡ exactly (view l).k p → x ≡ exactly (view l).k p && s11 (view l).k p && grants_open (view l) p
  root_end n q =
      let full : s11 (view l).k p ≡ true = rights_root (view l).k p root ∙ passed e n in
      q ∙ sym (rw (full, root_open l p root) (and-unit (exactly (view l).k p && true) ∙ and-unit (exactly (view l).k p)))
