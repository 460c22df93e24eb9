-- 01's number and values for each case of an outcome: done, refusal number 0 and its two values; refused, its number, and both values 0.
use Rattle.std.specs.Prelude.{ℕ, Result, Ok, Err}
use Rattle.words.specs.declared.Refusal.{Refusal}
use Rattle.words.specs.Refusals.{number_of}

-- done with two values, or refused
abbrev pub Outcome : Type 0
Outcome = Result (ℕ × ℕ) Refusal

pub record Numbers : Type 0 where
  pub refusal : ℕ
  pub first : ℕ
  pub second : ℕ

abbrev pub answered : Outcome → Numbers
answered (Ok (v, w)) = record { refusal = 0; first = v; second = w }
answered (Err why) = record { refusal = number_of why; first = 0; second = 0 }
