-- A number names one service, or none: two results of reading it are equal.
use Rattle.std.specs.Prelude.{◌≡◌, refl, true, List, [], ◌∷◌, ℕ, zero, suc, Result, Ok, Err}
use Rattle.std.proofs.Common.{ap, sym, ◌∙◌}
use Rattle.std.proofs.lemmas.Bool.{false≢true}
use Rattle.words.specs.declared.Refusal.{Refusal}
use Rattle.tables.specs.State.{Opt, none}
use Rattle.tables.specs.Search.{is_some}
use Rattle.rules.specs.declared.Uses.{Uses}
use Rattle.rules.specs.declared.Service.{Service}
use Rattle.rules.specs.declared.Service.TheVariants.{Create, Delete, Prepare, Collect, Give, Take, Cut, Merge, Region, ReadRegion, Find, Switch, ClearOut, Pack}
use Rattle.rules.specs.Services.{code_of, NamesService}
use Rattle.rules.specs.Rules.{uses}

-- the service of a number, in the order of the numbers; of 0 and 10, which name none, whichever
by_number : ℕ → Service
by_number = nth (Pack ∷ Create ∷ Delete ∷ Prepare ∷ Collect ∷ Give ∷ Take ∷ Cut ∷ Merge ∷ Region ∷ Pack ∷ ReadRegion ∷ Find ∷ Switch ∷ ClearOut ∷ [])
  where
    nth : List Service → ℕ → Service
    nth [] n = Pack
    nth (s ∷ ss) zero = s
    nth (s ∷ ss) (suc n) = nth ss n

back : (s : Service) → by_number (code_of s) ≡ s
unfolding by_number
back Create = refl
back Delete = refl
back Prepare = refl
back Collect = refl
back Give = refl
back Take = refl
back Cut = refl
back Merge = refl
back Region = refl
back ReadRegion = refl
back Find = refl
back Switch = refl
back ClearOut = refl
back Pack = refl

-- the number of a service has a row
has_row : (s : Service) → is_some (uses (code_of s)) ≡ true
unfolding uses
has_row Create = refl
has_row Delete = refl
has_row Prepare = refl
has_row Collect = refl
has_row Give = refl
has_row Take = refl
has_row Cut = refl
has_row Merge = refl
has_row Region = refl
has_row ReadRegion = refl
has_row Find = refl
has_row Switch = refl
has_row ClearOut = refl
has_row Pack = refl

named_or_none : {n : ℕ} (s : Service) → code_of s ≡ n → uses n ≡ none → ⊥
named_or_none s e q = false≢true (sym (ap (λ (o : Opt Uses). is_some o) (ap uses e ∙ q)) ∙ has_row s)

pub named_one : (n : ℕ) (r q : Result Service Refusal) → NamesService n r → NamesService n q → r ≡ q
named_one n (Ok s) (Ok u) e f = ap Ok (sym (back s) ∙ ap by_number (e ∙ sym f) ∙ back u)
named_one n (Ok s) (Err why) e f = absurd (named_or_none s e f.1)
named_one n (Err why) (Ok u) e f = absurd (named_or_none u f e.1)
named_one n (Err why) (Err other) e f = ap Err (e.0 ∙ sym f.0)
