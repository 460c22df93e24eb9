-- What a boot and a call beside a sheet come to: 1, then 20, then all as without a sheet.
use Rattle.std.specs.Prelude.{◌≡◌, refl, true, false, List, ℕ, length}
use Rattle.std.proofs.Common.{sym, eq-eqb, ne_eqb}
use Rattle.shapes.specs.declared.Board.{Board}
use Rattle.tables.specs.View.{view}
use Rattle.sound.specs.Clauses.{sound}
use Rattle.rules.specs.Rules.{refused, call_on, boot_on}
use Rattle.rules.specs.Laws.Ran.{pass, fail}
use Rattle.sheetrules.specs.Sheet.{matches, call_sheet_on, boot_sheet_on}
use Rattle.words.specs.declared.Refusal.TheVariants.{NotSound, WrongSheet}

module _ (b : Board) (l s : List ℕ) (w : ℕ) where
  pub call_1 : sound b l ≡ false → call_sheet_on b l s w ≡ refused NotSound
  unfolding call_sheet_on
  call_1 q = fail NotSound _ q

  pub call_20 : sound b l ≡ true → matches s (view l) ≡ false → call_sheet_on b l s w ≡ refused WrongSheet
  unfolding call_sheet_on
  call_20 q m = pass NotSound q (fail WrongSheet _ m)

  pub call_else : sound b l ≡ true → matches s (view l) ≡ true → call_sheet_on b l s w ≡ call_on b l w
  unfolding call_sheet_on call_on
  call_else q m = pass NotSound q (pass WrongSheet m (sym (rw q refl)))

module _ (l s : List ℕ) (base end : ℕ) where
  pub boot_1 : (length l ≡ 641 → ⊥) → boot_sheet_on l s base end ≡ refused NotSound
  unfolding boot_sheet_on
  boot_1 h = fail NotSound _ (ne_eqb (length l) 641 h)

  pub boot_20 : length l ≡ 641 → (length s ≡ 32 → ⊥) → boot_sheet_on l s base end ≡ refused WrongSheet
  unfolding boot_sheet_on
  boot_20 h k = pass NotSound (eq-eqb (length l) 641 h) (fail WrongSheet _ (ne_eqb (length s) 32 k))

  pub boot_else : length l ≡ 641 → length s ≡ 32 → boot_sheet_on l s base end ≡ boot_on l base end
  unfolding boot_sheet_on
  boot_else h k = pass NotSound (eq-eqb (length l) 641 h) (pass WrongSheet (eq-eqb (length s) 32 k) refl)
