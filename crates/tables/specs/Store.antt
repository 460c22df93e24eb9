-- What a writer answered, stored at its place.
use Rattle.std.specs.Prelude.{List, ℕ, set, Result, Ok, Err}

-- a refusal stores nothing
unfoldable pub stored : {E : Type 0} → List ℕ → ℕ → Result ℕ E → List ℕ
stored l n (Ok w) = set l n w
stored l n (Err e) = l
