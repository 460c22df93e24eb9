-- The number of a refusal is below 23, and no two refusals have the same.
use Rattle.std.specs.Prelude.{◌≡◌, refl, List, [], ◌∷◌, ℕ, zero, suc, ◌<◌}
use Rattle.std.proofs.Common.{ap, sym, ◌∙◌, arith}
use Rattle.words.specs.declared.Refusal.{Refusal}
use Rattle.words.specs.declared.Refusal.TheVariants.{NotSound, BadWord, WrongPartition, NoEntry, NotOpen, Given, WrongLine, NoneFree, TooShort, MoreRights, Apart, TwoGrants, InPieces, InUse, WrongRegion, ShortList, LentWhole, ManyPieces, WrongSheet, WrongMasks, WrongPair}
use Rattle.words.specs.Refusals.{number_of}

pub number_low : (why : Refusal) → number_of why < 23
number_low NotSound = omega arith
number_low BadWord = omega arith
number_low WrongPartition = omega arith
number_low NoEntry = omega arith
number_low NotOpen = omega arith
number_low Given = omega arith
number_low WrongLine = omega arith
number_low NoneFree = omega arith
number_low TooShort = omega arith
number_low MoreRights = omega arith
number_low Apart = omega arith
number_low TwoGrants = omega arith
number_low InPieces = omega arith
number_low InUse = omega arith
number_low WrongRegion = omega arith
number_low ShortList = omega arith
number_low LentWhole = omega arith
number_low ManyPieces = omega arith
number_low WrongSheet = omega arith
number_low WrongMasks = omega arith
number_low WrongPair = omega arith

-- the refusal of a number, in the order of the numbers
by_number : ℕ → Refusal
by_number = nth (NotSound ∷ NotSound ∷ BadWord ∷ WrongPartition ∷ NoEntry ∷ NotOpen ∷ Given ∷ WrongLine ∷ NoneFree ∷ TooShort ∷ MoreRights ∷ Apart ∷ TwoGrants ∷ TwoGrants ∷ InPieces ∷ InUse ∷ WrongRegion ∷ ShortList ∷ LentWhole ∷ ManyPieces ∷ WrongSheet ∷ WrongMasks ∷ WrongPair ∷ [])
  where
    nth : List Refusal → ℕ → Refusal
    nth [] n = NotSound
    nth (r ∷ rs) zero = r
    nth (r ∷ rs) (suc n) = nth rs n

back : (why : Refusal) → by_number (number_of why) ≡ why
unfolding by_number
back NotSound = refl
back BadWord = refl
back WrongPartition = refl
back NoEntry = refl
back NotOpen = refl
back Given = refl
back WrongLine = refl
back NoneFree = refl
back TooShort = refl
back MoreRights = refl
back Apart = refl
back TwoGrants = refl
back InPieces = refl
back InUse = refl
back WrongRegion = refl
back ShortList = refl
back LentWhole = refl
back ManyPieces = refl
back WrongSheet = refl
back WrongMasks = refl
back WrongPair = refl

pub number_one : (a b : Refusal) → number_of a ≡ number_of b → a ≡ b
number_one a b e = sym (back a) ∙ ap by_number e ∙ back b
