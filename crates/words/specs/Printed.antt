-- The words that 01 prints, and the fields that it says they have.
use Rattle.std.specs.Prelude.{◌≡◌, refl, true, false, [], ◌∷◌, map, Ok}
use Rattle.words.specs.Kind.{reading}
use Rattle.words.specs.Words.{slot, call, boot}

-- the root's slot 0 after the boot; its slot 3 and slot 0 of partition 1 after the session; the same lent whole
pub printed_slots : map (reading slot) (0xf800001000000800 ∷ 0xf880001200000400 ∷ 0xf000001200000400 ∷ 0xf000001200000401 ∷ []) ≡ Ok (record { present = true; opened = true; rights = record { read = true; write = true; execute = true }; given = record { 0 = 0 }; start = record { 0 = 256 }; end = record { 0 = 1024 }; whole = false }) ∷ Ok (record { present = true; opened = true; rights = record { read = true; write = true; execute = true }; given = record { 0 = 1 }; start = record { 0 = 288 }; end = record { 0 = 512 }; whole = false }) ∷ Ok (record { present = true; opened = true; rights = record { read = true; write = true; execute = false }; given = record { 0 = 0 }; start = record { 0 = 288 }; end = record { 0 = 512 }; whole = false }) ∷ Ok (record { present = true; opened = true; rights = record { read = true; write = true; execute = false }; given = record { 0 = 0 }; start = record { 0 = 288 }; end = record { 0 = 512 }; whole = true }) ∷ []
unfolding slot
printed_slots = refl

-- the session's call words: cut, cut, create, cut, prepare, give (twice); the give with W
pub printed_calls : map (reading call) (0x7000000002000000 ∷ 0x7000000001100000 ∷ 0x1000000000000000 ∷ 0x7010000001200000 ∷ 0x3110000000000000 ∷ 0x5118300000000000 ∷ 0x5118300000008000 ∷ []) ≡ Ok (record { service = 7; partition = record { 0 = 0 }; slot = record { 0 = 0 }; other = 0; rights = record { read = false; write = false; execute = false }; line = record { 0 = 512 }; whole = false }) ∷ Ok (record { service = 7; partition = record { 0 = 0 }; slot = record { 0 = 0 }; other = 0; rights = record { read = false; write = false; execute = false }; line = record { 0 = 272 }; whole = false }) ∷ Ok (record { service = 1; partition = record { 0 = 0 }; slot = record { 0 = 0 }; other = 0; rights = record { read = false; write = false; execute = false }; line = record { 0 = 0 }; whole = false }) ∷ Ok (record { service = 7; partition = record { 0 = 0 }; slot = record { 0 = 2 }; other = 0; rights = record { read = false; write = false; execute = false }; line = record { 0 = 288 }; whole = false }) ∷ Ok (record { service = 3; partition = record { 0 = 1 }; slot = record { 0 = 2 }; other = 0; rights = record { read = false; write = false; execute = false }; line = record { 0 = 0 }; whole = false }) ∷ Ok (record { service = 5; partition = record { 0 = 1 }; slot = record { 0 = 3 }; other = 0; rights = record { read = true; write = true; execute = false }; line = record { 0 = 0 }; whole = false }) ∷ Ok (record { service = 5; partition = record { 0 = 1 }; slot = record { 0 = 3 }; other = 0; rights = record { read = true; write = true; execute = false }; line = record { 0 = 0 }; whole = true }) ∷ []
unfolding call
printed_calls = refl

pub printed_boot : reading boot 0x0000200000100000 ≡ Ok (record { base = record { 0 = 256 }; end = record { 0 = 1024 } })
unfolding boot
printed_boot = refl
