-- How many pieces the loaded entries of a partition need on a board: 02's limit is 8.
use Rattle.std.specs.Prelude.{ℕ, length}
use Rattle.loops.specs.Loops.{sum}
use Rattle.shapes.specs.declared.Board.{Board}
use Rattle.shapes.specs.Pieces.{pieces_for}
use Rattle.tables.specs.State.{Opt, none, some, Entry}

-- the pieces of what a slot holds
unfoldable pub entry_pieces : Board → Opt Entry → ℕ
entry_pieces b none = 0
entry_pieces b (some e) = length (pieces_for b e.start e.stop)

-- .. of what a region names, of these slots
unfoldable pub region_pieces : Board → (ℕ → Opt Entry) → Opt ℕ → ℕ
region_pieces b slot none = 0
region_pieces b slot (some i) = entry_pieces b (slot i)

-- .. of all that p has loaded
unfoldable pub loaded_pieces : Board → (ℕ → ℕ → Opt Entry) → (ℕ → ℕ → Opt ℕ) → ℕ → ℕ
loaded_pieces b slot region p = sum 8 (λ r. region_pieces b (slot p) (region p r))
