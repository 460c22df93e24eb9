-- src/lib.rt, store_both: (table.new ≡ cond stands table.old (bytes_of t.now)) × (sheet.new ≡ cond stands sheet.old (sheet_kept x (view t.now) sheet.old))
use mathlib.Core.Path.{refl}
use borrow.Author.Rules.{rules}
use Rattle.facesheet.proofs.store_both.Goals as goal

pub returns-then-stands : goal.returns-then-stands
returns-then-stands c = (rw c.if-stands.true refl, rw c.if-stands.true refl)

pub store-requires : goal.store-requires
store-requires c = (c.requires.0, c.requires.2, c.requires.3, c.requires.4)

pub keep_sheet-requires : goal.keep_sheet-requires
keep_sheet-requires c = (c.requires.1, c.requires.5, c.requires.6)

pub returns : goal.returns
returns c = (rw c.if-stands.false c.store.ensures, rw c.if-stands.false c.keep_sheet.ensures)
