-- The services, and their numbers in call words.
use Rattle.std.specs.Prelude.{◌≡◌, ℕ, Result, MatchResult}
use Rattle.words.specs.declared.Refusal.{Refusal}
use Rattle.words.specs.declared.Refusal.TheVariants.{BadWord}
use Rattle.tables.specs.State.{none}
use Rattle.rules.specs.declared.Service.{Service}
use Rattle.rules.specs.declared.Service.TheVariants.{Create, Delete, Prepare, Collect, Give, Take, Cut, Merge, Region, ReadRegion, Find, Switch, ClearOut, Pack}
use Rattle.rules.specs.Rules.{uses}

abbrev pub code_of : Service → ℕ
code_of Create = 1
code_of Delete = 2
code_of Prepare = 3
code_of Collect = 4
code_of Give = 5
code_of Take = 6
code_of Cut = 7
code_of Merge = 8
code_of Region = 9
code_of ReadRegion = 11
code_of Find = 12
code_of Switch = 13
code_of ClearOut = 14
code_of Pack = 15

-- the service of number n, or the refusal where it is no service's
abbrev pub NamesService : ℕ → Result Service Refusal → Type 0
NamesService n r = MatchResult r (λ s. code_of s ≡ n) (λ why. (why ≡ BadWord) × (uses n ≡ none))
