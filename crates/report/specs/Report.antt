-- The line that tells a verdict, its end included.
use Rattle.std.specs.Prelude.{List, [], ◌∷◌, ◌++◌, ℕ, decimal}
use Rattle.verdict.specs.declared.Verdict.{Verdict}
use Rattle.verdict.specs.declared.Verdict.TheVariants.{Accepted, Fails, Length}

-- "sound", or "S" with the clause, a space and the partition, or "length"
unfoldable pub printed_line : Verdict → List ℕ
printed_line Accepted = 115 ∷ 111 ∷ 117 ∷ 110 ∷ 100 ∷ 10 ∷ []
printed_line (Fails n p) = 83 ∷ (decimal n ++ (32 ∷ (decimal p.0 ++ (10 ∷ []))))
printed_line Length = 108 ∷ 101 ∷ 110 ∷ 103 ∷ 116 ∷ 104 ∷ 10 ∷ []
