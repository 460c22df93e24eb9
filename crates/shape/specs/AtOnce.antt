-- The clauses in the order in which one pass over the partitions decides them.
use Rattle.std.specs.Prelude.{◌≡◌, Bool, true, ◌&&◌, List, ℕ, ◌<◌}
use Rattle.loops.specs.Loops.{all}
use Rattle.shapes.specs.declared.Board.{Board}
use Rattle.tables.specs.View.{view}
use Rattle.sound.specs.Clauses.{s1, s2, s3_first, s3, s4, s5, s6, s7, s8_backed, s9, s10, s11}

-- S3 to S5, S6 and S7, S8's entries, S9 to S11, at partition p
unfoldable pub rest_at : Board → List ℕ → ℕ → Bool
rest_at b l p =
    (s3 l p && s4 l (view l).k p && s5 l (view l).k p)
    && (s6 (view l).k p && s7 (view l) p)
    && s11 (view l).k p
    && all 5 (s8_backed (view l).k p)
    && s9 (view l) p
    && s10 b (view l) p

-- S2 to S5 at partition p: the shape of its record
unfoldable pub shape_at : List ℕ → ℕ → Bool
shape_at l p = s2 l (view l).k p && (s3 l p && s4 l (view l).k p && s5 l (view l).k p)

-- every record has its shape: this is decided first
pub record Shaped (l : List ℕ) : Type 0 where
  pub at : (p : ℕ) → p < 16 → shape_at l p ≡ true

-- S1 to S5: word 0, and every record
unfoldable pub formed : List ℕ → Bool
formed l = (s1 (view l).k && s3_first l) && all 16 (shape_at l)
