-- What C hands over and gets back where a sheet is kept beside the table.
use Rattle.std.specs.Prelude.{◌≡◌, Bool, true, List, ℕ}
use Rattle.shapes.specs.declared.Board.{Board}
use Rattle.tables.specs.View.{view}
use Rattle.sound.specs.Clauses.{sound}
use Rattle.rules.specs.Rules.{Effect}
use Rattle.rules.specs.Ran.{outcome_of}
use Rattle.rules.specs.Calls.{caller_of}
use Rattle.sheetrules.specs.Sheet.{matches, call_sheet_on, boot_sheet_on}
use Rattle.sheetrules.specs.Bytes.{handed_sheet, sheet_bytes_after}
use Rattle.face.specs.Face.{handed, second_after, Lent}

-- Whether the words l are sound is told; where they are, s says whether the bytes b are their sheet.
pub record SoundBeside (board : Board) (l b : List ℕ) (r s : Bool) : Type 0 where
  pub says : r ≡ sound board l
  pub same : r ≡ true → s ≡ matches (handed_sheet b) (view l)

-- what a function that writes the table and the sheet promises of its result and of every byte of both
pub record BothLent (caller : ℕ) (res : Effect) (b s : List ℕ) (r : ℕ) (c s' : List ℕ) : Type 0 where
  pub table : Lent caller res b r c
  pub sheet : s' ≡ sheet_bytes_after s res

-- boot with a sheet, lent the bytes b and s, answered r and left c and s'
abbrev pub BootSheetLent : List ℕ → List ℕ → ℕ → ℕ → ℕ → List ℕ → List ℕ → Type 0
BootSheetLent b s base end r c s' = BothLent 0 (boot_sheet_on (handed b) (handed_sheet s) base end) b s r c s'

-- a call with a sheet, handed the word w and lent v in *second beside them, answered r and left c, s' and v'
pub record CallSheetLent (board : Board) (b s : List ℕ) (w v r : ℕ) (c s' : List ℕ) (v' : ℕ) : Type 0 where
  pub both : BothLent (caller_of board (handed b)) (call_sheet_on board (handed b) (handed_sheet s) w) b s r c s'
  pub second : v' ≡ second_after v (outcome_of (call_sheet_on board (handed b) (handed_sheet s) w))
