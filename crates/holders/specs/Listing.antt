-- What the listing of an entry's pieces answers, and the words after it: 1; then 4, also of an absent partition or a number out of range; then 17.
use Rattle.std.specs.Prelude.{◌≡◌, cond, List, ℕ, length, leb, Ok, Err}
use Rattle.shapes.specs.declared.Board.{Board}
use Rattle.shapes.specs.Pieces.{Piece, pieces_for, piece_words}
use Rattle.tables.specs.State.{Opt, none, some, Entry}
use Rattle.tables.specs.View.{view}
use Rattle.sound.specs.Clauses.{sound}
use Rattle.tables.specs.Outcomes.{Outcome}
use Rattle.words.specs.declared.Refusal.TheVariants.{NotSound, NoEntry, ShortList}

-- ── these pieces, into a list of so many words ──
unfoldable pub list_outcome : List Piece → ℕ → Outcome
list_outcome ps size = cond (leb (length ps) size) (Ok (length ps, 0)) (Err ShortList)

unfoldable pub list_words : List Piece → List ℕ → List ℕ
list_words ps list = cond (leb (length ps) (length list)) (piece_words ps list) list

-- ── those of what a slot holds ──
unfoldable pub slot_outcome : Board → Opt Entry → ℕ → Outcome
slot_outcome b none size = Err NoEntry
slot_outcome b (some e) size = list_outcome (pieces_for b e.start e.stop) size

unfoldable pub slot_words : Board → Opt Entry → List ℕ → List ℕ
slot_words b none list = list
slot_words b (some e) list = list_words (pieces_for b e.start e.stop) list

-- ── slot s of p: an absent partition, and a number out of range, have no entry ──
unfoldable pub pieces_outcome : Board → List ℕ → ℕ → ℕ → ℕ → Outcome
pieces_outcome b t p s size = cond (sound b t) (slot_outcome b ((view t).k.slot p s) size) (Err NotSound)

unfoldable pub pieces_words : Board → List ℕ → ℕ → ℕ → List ℕ → List ℕ
pieces_words b t p s list = cond (sound b t) (slot_words b ((view t).k.slot p s) list) list

-- the pieces of what a slot holds, listed
pub record SlotListed (b : Board) (x : Opt Entry) (before : List ℕ) (r : Outcome) (after : List ℕ) : Type 0 where
  pub outcome : r ≡ slot_outcome b x (length before)
  pub words : after ≡ slot_words b x before

-- what the listing promises: its outcome, and every word of the list
pub record PiecesListed (b : Board) (t : List ℕ) (p s : ℕ) (before : List ℕ) (r : Outcome) (after : List ℕ) : Type 0 where
  pub outcome : r ≡ pieces_outcome b t p s (length before)
  pub words : after ≡ pieces_words b t p s before
