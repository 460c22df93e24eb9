-- 01's and 02's refusal numbers.
use Rattle.std.specs.Prelude.{ℕ}
use Rattle.words.specs.declared.Refusal.{Refusal}
use Rattle.words.specs.declared.Refusal.TheVariants.{NotSound, BadWord, WrongPartition, NoEntry, NotOpen, Given, WrongLine, NoneFree, TooShort, MoreRights, Apart, TwoGrants, InPieces, InUse, WrongRegion, ShortList, LentWhole, ManyPieces, WrongSheet, WrongMasks, WrongPair}

abbrev pub number_of : Refusal → ℕ
number_of NotSound = 1
number_of BadWord = 2
number_of WrongPartition = 3
number_of NoEntry = 4
number_of NotOpen = 5
number_of Given = 6
number_of WrongLine = 7
number_of NoneFree = 8
number_of TooShort = 9
number_of MoreRights = 10
number_of Apart = 11
number_of TwoGrants = 12
number_of InPieces = 14
number_of InUse = 15
number_of WrongRegion = 16
number_of ShortList = 17
number_of LentWhole = 18
number_of ManyPieces = 19
number_of WrongSheet = 20
number_of WrongMasks = 21
number_of WrongPair = 22
