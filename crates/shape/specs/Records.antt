-- A record's words, each tested once for all that S3, S4 and S5 ask of it.
use Rattle.std.specs.Prelude.{◌≡◌, Bool, true, cond, ◌&&◌, List, ℕ, ◌+◌, ◌*◌}
use Rattle.loops.specs.Loops.{all}
use Rattle.words.specs.Kind.{zeroed}
use Rattle.words.specs.Words.{header, structure}
use Rattle.tables.specs.State.{Area, K}
use Rattle.tables.specs.View.{area_word_at, view}
use Rattle.tables.specs.Search.{is_some}
use Rattle.sound.specs.Clauses.{is_nowhere, long, rooted, s4_area, s4_absent, s5_slot}

-- ── tests ──
-- S4 of an area that is there
unfoldable pub area_test : ℕ → ℕ → Area → Bool
area_test p j a = cond (rooted p j) (is_nowhere a) (long a)

unfoldable pub header_test : List ℕ → K → ℕ → Bool
header_test l k p = zeroed header (area_word_at l p 0) && s4_area k p 0

unfoldable pub structure_test : List ℕ → K → ℕ → ℕ → Bool
structure_test l k p j = zeroed structure (area_word_at l p (1 + j)) && s4_area k p (1 + j) && s4_absent l k p j

-- S5 of the eight slots of structure j
unfoldable pub slots_test : List ℕ → K → ℕ → ℕ → Bool
slots_test l k p j = all 8 (λ o. s5_slot l k p (8 * j + o))

-- structure j of p is present
pub record HasStructure (l : List ℕ) (p j : ℕ) : Type 0 where
  pub there : is_some ((view l).k.area p (1 + j)) ≡ true
