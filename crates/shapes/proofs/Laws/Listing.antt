-- The loop that writes the pieces, one a turn.
use Rattle.std.specs.Prelude.{◌≡◌, refl, List, [], ◌∷◌, ◌++◌, map, ℕ, ◌+◌, ◌-◌, ◌*◌, ◌^◌, ◌≤◌, ◌<◌, length, drop, set}
use Rattle.std.proofs.Common.{ap, sym, ◌∙◌, append_assoc, append-nil, add-one, arith, length-append, length-drop, drop-cons}
use Rattle.std.proofs.lemmas.List.{map-append, length-map}
use Rattle.std.proofs.Math.Seq.{set-append_seam}
use Rattle.shapes.specs.declared.Board.{Board}
use Rattle.shapes.specs.declared.Board.TheVariants.{V7, V8}
use Rattle.shapes.specs.Pieces.{Piece, piece, pieces, pieces_for, widest, piece_word, piece_words, CanList, ShapesListed}
use Rattle.shapes.proofs.Laws.Greedy.{pieces_next, pieces_none, widest_ends, widest_some}

-- the pieces up to line `at` are told, n of them, and stand in the list
pub record Listing (s e : ℕ) (before : List ℕ) (n at : ℕ) (list : List ℕ) : Type 0 where
  pub within : at ≤ e
  pub told : List Piece
  pub number : length told ≡ n
  pub whole : pieces s e ≡ told ++ pieces at e
  pub words : list ≡ piece_words told before

-- two results are equal
pub shapes_one : {ps : List Piece} {before : List ℕ} {r q : ℕ} {after later : List ℕ} → ShapesListed ps before r after → ShapesListed ps before q later → (r ≡ q) × (after ≡ later)
shapes_one x y = (x.number ∙ sym y.number, x.words ∙ sym y.words)

-- one more word stored after those of ps
words_more : (ps : List Piece) (p : Piece) (list : List ℕ) → length ps < length list → set (piece_words ps list) (length ps) (piece_word p) ≡ piece_words (ps ++ (p ∷ [])) list
words_more ps p list h =
    rw (drop-cons list (length ps) 0 h, ← (length-map ps piece_word), set-append_seam)
    (simp (length-append, map-append, append_assoc, add-one, length-map))

pub list_start : {s e : ℕ} {before : List ℕ} → s ≤ e → Listing s e before 0 s before
list_start h = record { within = h; told = []; number = refl; whole = refl; words = refl }

module _ {s e n at : ℕ} {before list : List ℕ} (l : Listing s e before n at list) (can : CanList V7 s e before) where
  -- how many there are
  parts : length (pieces s e) ≡ n + length (pieces at e)
  parts = ap length l.whole ∙ length-append l.told (pieces at e) ∙ ap (λ (k : ℕ). k + length (pieces at e)) l.number

  pub list_size : length list ≡ length before
  list_size =
      ap length l.words
      ∙ length-append (map piece_word l.told) (drop (length l.told) before)
      ∙ omega (arith, length-map l.told piece_word, length-drop (length l.told) before, l.number, parts, can.room)

  module _ (h : at < e) where
    next_is : pieces at e ≡ piece at (widest at e) ∷ pieces (at + widest at e) e
    next_is = pieces_next can.small at h

    pub list_room : n < length list
    list_room = omega (arith, list_size, parts, ap length next_is, can.room)

    module _ {lines : ℕ} (q : lines ≡ widest at e) where
      pub list_within : at + lines ≤ e
      list_within = omega (arith, q, widest_ends can.small at h)

      pub list_some : 0 < lines
      list_some = omega (arith, q, widest_some can.small at)

      pub list_on : {w : ℕ} → w ≡ at * 2 ^ 32 + lines → Listing s e before (n + 1) (at + lines) (set list n w)
      list_on {w} v = rw q record {
        within = widest_ends can.small at h;
        told = l.told ++ (piece at (widest at e) ∷ []);
        number = length-append l.told (piece at (widest at e) ∷ []) ∙ ap (λ (k : ℕ). k + 1) l.number;
        whole = l.whole ∙ ap (λ (ps : List Piece). l.told ++ ps) next_is ∙ sym (append_assoc l.told (piece at (widest at e) ∷ []) (pieces (at + widest at e) e));
        words =
            rw (v, q, l.words, ← l.number)
            (words_more l.told (piece at (widest at e)) before (omega (arith, l.number, parts, ap length next_is, can.room)));
      }

  pub list_end : e ≤ at → ShapesListed (pieces s e) before n list
  list_end h =
      let z : pieces s e ≡ l.told = l.whole ∙ ap (λ (ps : List Piece). l.told ++ ps) (pieces_none at e h) ∙ append-nil l.told in
      record { number = sym l.number ∙ ap length (sym z); words = l.words ∙ ap (λ (ps : List Piece). piece_words ps before) (sym z) }

-- ── the one piece of ARMv8-M ──
pub plain_listed : (s e : ℕ) {w : ℕ} (before : List ℕ) → CanList V8 s e before → w ≡ s * 2 ^ 32 + (e - s) → ShapesListed (pieces_for V8 s e) before 1 (set before 0 w)
plain_listed s e [] h q = absurd (omega (arith, h.room))
plain_listed s e (x ∷ rest) h q = record { number = refl; words = rw q refl }

-- ── on either board ──
module _ {board x : Board} (b : board ≡ x) (s e : ℕ) where
  pub can_list_on : {list : List ℕ} → CanList board s e list → CanList x s e list
  can_list_on h = rw (← b) h

  pub listed_on : {before : List ℕ} {r : ℕ} {after : List ℕ} → ShapesListed (pieces_for x s e) before r after → ShapesListed (pieces_for board s e) before r after
  listed_on h = rw b h
