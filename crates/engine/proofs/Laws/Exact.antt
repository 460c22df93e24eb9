-- 21 is given exactly where 02's condition is not so.
use Rattle.std.specs.Prelude.{◌≡◌, refl, Bool, true, false, ℕ}
use Rattle.std.proofs.lemmas.Bool.{false≢true}
use Rattle.std.proofs.Common.{arith}
use Rattle.engine.specs.Engine.{engine_refusal, Exactly, Gives21}
use Rattle.engine.specs.Laws.Exits.{memory_says, memory_of, lines_say, lines_right_law, strike_says, strike_of}

-- what the test tells both ways
exact : (right : Bool) {C : Type 0} {r : ℕ} → (right ≡ true → C) → (C → right ≡ true) → r ≡ engine_refusal right → Exactly C r
unfolding engine_refusal
exact true says of e = record { refused = (λ q. absurd (omega (arith, e, q)), λ n. absurd (n (says refl))); done = (λ q. says refl, λ c. e) }
exact false says of e = record { refused = (λ q c. false≢true (of c), λ n. e); done = (λ q. absurd (omega (arith, e, q)), λ c. absurd (false≢true (of c))) }

pub gives_21 : Gives21
gives_21 = record {
  start = λ base end s. exact _ (memory_says _ base end) memory_of s.answer;
  give = λ base end child from to s. exact _ (lines_say _ base end child from to) lines_right_law s.answer;
  take = λ base end child from to s. exact _ (lines_say _ base end child from to) lines_right_law s.answer;
  strike = λ base end members s. exact _ (strike_says _ base end members) strike_of s.answer;
}
