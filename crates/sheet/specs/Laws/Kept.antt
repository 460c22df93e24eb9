-- The two words of a partition whose record an accepted call leaves as it was are as they were.
use Rattle.std.specs.Prelude.{◌≡◌, List, ℕ, ◌+◌, ◌<◌}
use Rattle.std.proofs.Math.Path.{ap}
use Rattle.std.proofs.Common.{subst}
use Rattle.std.proofs.Math.Bool.{cond}
use Rattle.loops.specs.Loops.{sum, map_of}
use Rattle.words.specs.Kind.{fields_in, word_of}
use Rattle.words.specs.Words.{call, masks, lines}
use Rattle.shapes.specs.declared.Board.{Board}
use Rattle.tables.specs.State.{Table}
use Rattle.tables.specs.View.{record_word, view}
use Rattle.tables.specs.Encode.{encode}
use Rattle.tables.specs.Fitting.{Words}
use Rattle.tables.specs.Laws.Back.{view_encode}
use Rattle.tables.specs.Search.{is_some, present}
use Rattle.rules.specs.Rules.{done, call_on}
use Rattle.isolation.specs.Laws.Fits.{right_fit}
use Rattle.isolation.proofs.Whole.{served, call_right}
use Rattle.sheetrules.specs.Sheet.{number_of_lines, masks_word, lines_word}
use Rattle.tables.specs.Laws.Stays.{Stays, stays}
use Rattle.sheet.specs.Laws.Children.{SameChildren, same_mask, serve_children}

-- areas, who has an entry, its lines and whether it is open are as they were
pub record PairAlike (t new : Table) (p : ℕ) : Type 0 where
  pub area : (j : ℕ) → new.k.area p j ≡ t.k.area p j
  pub occupied : (i : ℕ) → is_some (new.k.slot p i) ≡ is_some (t.k.slot p i)
  pub held : (i : ℕ) → number_of_lines (new.k.slot p i) ≡ number_of_lines (t.k.slot p i)
  pub opened : (i : ℕ) → new.opened p i ≡ t.opened p i

pub stays_alike : {t new : Table} {p : ℕ} → Stays t new p → PairAlike t new p
stays_alike s = record { area = s.area; occupied = λ i. ap is_some (s.slot i); held = λ i. ap number_of_lines (s.slot i); opened = s.opened }

module _ {t new : Table} {p : ℕ} (s : PairAlike t new p) where
  here : present new.k p ≡ present t.k p
  unfolding present
  here = ap is_some (s.area 0)

  pub masks_same : SameChildren t.k new.k p → masks_word new p ≡ masks_word t p
  unfolding masks_word
  masks_same c = λ x. cond (here x) (word_of masks (record {
    children = map_of 16 (λ d. same_mask c d x);
    slots = map_of 32 (λ i. s.occupied i x);
    structures = map_of 4 (λ j. is_some (s.area (1 + j) x));
  })) 0

  pub lines_same : lines_word new p ≡ lines_word t p
  unfolding lines_word
  lines_same = λ x. cond (here x) (word_of lines (record {
    held = sum 32 (λ i. s.held i x);
    opened = sum 32 (λ i. cond (s.opened i x) (s.held i x) 0);
  })) 0

-- THE THEOREM, over words: of a call that is done
pub call_kept : (b : Board) (l : List ℕ) (w : ℕ) → Words l → {v y : ℕ} {new : Table} → call_on b l w ≡ done v y new → (p : ℕ) → ((o : ℕ) → o < 40 → record_word (encode new) p o ≡ record_word l p o)
    → (masks_word new p ≡ masks_word (view l) p) × (lines_word new p ≡ lines_word (view l) p)
call_kept b l w small {new = new} z p same =
    let (_, h, y) = served b l w small z in
    let back = view_encode new (right_fit (call_right b l w small z)) in
    let k = subst (λ (t : Table). Stays (view l) t p) back (stays l (encode new) p same) in
    (masks_same (stays_alike k) (serve_children b h (fields_in call w) y k), lines_same (stays_alike k))
