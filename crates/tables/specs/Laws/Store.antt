-- Fields in range are stored as their word.
use Rattle.std.specs.Prelude.{◌≡◌, List, ℕ, set}
use Rattle.std.proofs.Common.{ap, ◌∙◌}
use Rattle.words.specs.Kind.{Kind, word_of, writing, InRange}
use Rattle.words.specs.Laws.Kind.{write_done}
use Rattle.tables.specs.Store.{stored}

-- fields in range are stored
pub store_word : {A : Type 0} (k : Kind A) (l : List ℕ) (n : ℕ) {f g : A} → f ≡ g → InRange k f → stored l n (writing k f) ≡ set l n (word_of k g)
unfolding stored
store_word k l n {f} e h = ap (stored l n) (write_done k f h) ∙ ap (λ g. set l n (word_of k g)) e
