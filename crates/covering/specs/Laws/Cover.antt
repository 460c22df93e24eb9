-- Either walk decides what it is for: the laws of a walk along two rows, of `decide`, over entries as they are, or as if they had all rights and were all open.
use Rattle.std.specs.Prelude.{◌≡◌, refl, Bool, cond, not, ◌||◌, List, ℕ, ◌+◌, ◌≤◌, ◌<◌, eqb}
use Rattle.std.proofs.Common.{sym, ◌∙◌}
use Rattle.std.proofs.Math.Bool.{true, false}
use Rattle.std.proofs.lemmas.Bool.{false≢true}
use Rattle.words.specs.declared.slot_word.SlotFields.{SlotFields}
use Rattle.tables.specs.State.{Entry, all_rights}
use Rattle.tables.specs.View.{view}
use Rattle.tables.specs.Seen.{Seen}
use Rattle.ordering.specs.Order.{placed}
use Rattle.decide.specs.Tiles.{Tiled, TiledAs, entry_or, row_of, opened_bit, Filled, TiledSlot, unranked, plain_row, InOrder, ChildOf}
use Rattle.decide.specs.Walk.{WalkedRows}
use Rattle.decide.specs.Laws.Tiles.{RowsTell, rows_start, rows_skip, rows_end, rows_on, rows_stuck, seen_at, row_at, row_seen, row_line, row_ends, tile_one, line_one, child_lies, lies_child, child_tells}
use Rattle.decide.specs.Laws.Lines.{exact_lies, lies_exact, no_bits, lines_as}
use Rattle.covering.specs.Cover.{TiledFor, covers_for}

-- ── one range ──
-- two results are equal
pub tiled_one : (ranked : Bool) {l o : List ℕ} {p n i q j x y : ℕ} → InOrder l o p n → TiledFor ranked l o p n i q j x → TiledFor ranked l o p n i q j y → x ≡ y
tiled_one true h s t = tile_one h (s.ranks refl) (t.ranks refl)
tiled_one false h s t = line_one h (s.lines refl) (t.lines refl)

module _ {ranked : Bool} {l o : List ℕ} {p n i q j x : ℕ} where
  pub ranks_tiled : ranked ≡ true → TiledSlot l o p n i q j x → TiledFor ranked l o p n i q j x
  ranks_tiled e t = record { ranks = λ _. t; lines = λ z. absurd (false≢true (sym z ∙ e)) }

  -- .. of the entry that was read there
  pub lines_tiled : {f : SlotFields} → ranked ≡ false → Filled l q j → Seen l q j f → Tiled (plain_row l o p) n i f.start.0 f.end.0 all_rights x → TiledFor ranked l o p n i q j x
  unfolding entry_or
  lines_tiled e (g, u) v t = record {
    ranks = λ z. absurd (false≢true (sym e ∙ z));
    lines = λ _. let s = seen_at u v in rw (u, s.start, s.stop) t;
  }

-- ── the walk along all that p was given ──
abbrev entry_for : Bool → Entry → Entry
entry_for ranked e = cond ranked e (unranked e)

abbrev row_for : Bool → List ℕ → List ℕ → ℕ → ℕ → Entry
row_for ranked l o p a = entry_for ranked (row_of l o p a)

abbrev bit_for : Bool → List ℕ → List ℕ → ℕ → ℕ → Bool
bit_for ranked l o p a = not ranked || opened_bit l o p a

pub record WalkedFor (ranked : Bool) (l o : List ℕ) (p q n m i j : ℕ) : Type 0 where
  pub rows : WalkedRows (row_for ranked l o p) (bit_for ranked l o p) n (row_for ranked l o q) (bit_for ranked l o q) m p i j

pub cover_start : {ranked : Bool} {l o : List ℕ} {p q n m : ℕ} → WalkedFor ranked l o p q n m 0 0
cover_start = record { rows = rows_start }

given_for : (ranked : Bool) (e : Entry) → (entry_for ranked e).given ≡ e.given
given_for true e = refl
given_for false e = refl

module _ {l o : List ℕ} {p q n m : ℕ} (h : ChildOf l o p q n m) where
  tells : (ranked : Bool) → RowsTell (row_for ranked l o p) (bit_for ranked l o p) n (row_for ranked l o q) (bit_for ranked l o q) m p (covers_for ranked (view l) p)
  unfolding covers_for
  tells true = child_tells h
  tells false = record {
    rows = record { line = row_line h.own; ends = row_ends h.own; grants = row_ends h.above };
    to = λ w. (lies_exact {E = row_of l o p} {F = row_of l o q} (child_lies h w), no_bits);
    back = λ x _. lies_child h (exact_lies {E = row_of l o p} {F = row_of l o q} x);
  }

  pub grant_filled : {j s : ℕ} → j < m → s ≡ placed o q j → Filled l q s
  grant_filled {j} b at = (row_of l o q j, rw at (row_at h.above j b))

  module _ {ranked : Bool} {i j : ℕ} (inv : WalkedFor ranked l o p q n m i j) where
    pub cover_end : m ≤ j → eqb i n ≡ covers_for ranked (view l) p
    cover_end = rows_end (tells ranked) inv.rows

    module _ {s : ℕ} {f : SlotFields} (next : j < m) (at : s ≡ placed o q j) (v : Seen l q s f) where
      to_whom : (row_for ranked l o q j).given ≡ f.given.0
      to_whom = given_for ranked (row_of l o q j) ∙ (row_seen h.above next (rw at at v)).given

      pub cover_skip : (f.given.0 ≡ p → ⊥) → WalkedFor ranked l o p q n m i (j + 1)
      cover_skip no-grant = record { rows = rows_skip inv.rows next (λ g. no-grant (sym to_whom ∙ g)) }

      module _ {x : ℕ} (given : f.given.0 ≡ p) (t : TiledFor ranked l o p n i q s x) where
        tiled : TiledAs (row_for ranked l o p) (bit_for ranked l o p) n i (row_for ranked l o q j).start (row_for ranked l o q j).stop (row_for ranked l o q j).rights (bit_for ranked l o q j) x
        tiled = go ranked (rw at at t)
          where
            go : (ranked : Bool) → TiledFor ranked l o p n i q (placed o q j) x
                → TiledAs (row_for ranked l o p) (bit_for ranked l o p) n i (row_for ranked l o q j).start (row_for ranked l o q j).stop (row_for ranked l o q j).rights (bit_for ranked l o q j) x
            go true t = t.ranks refl
            go false t = lines_as (t.lines refl)

        pub cover_on : x ≤ n → WalkedFor ranked l o p q n m x (j + 1)
        cover_on few = record { rows = rows_on (tells ranked) inv.rows next (to_whom ∙ given) tiled few }

        pub cover_stuck : n < x → false ≡ covers_for ranked (view l) p
        cover_stuck beyond = rows_stuck (tells ranked) inv.rows next (to_whom ∙ given) tiled beyond
