-- The kind is lawful, so that both round trips hold by the one law of kinds.
use Rattle.std.specs.Prelude.{◌≡◌, refl, true, ℕ, ◌^◌, ◌<◌}
use Rattle.std.proofs.Common.{arith}
use Rattle.loops.specs.Laws.Bit.{flag_bit, bit_mod, bit_lt}
use Rattle.words.specs.Kind.{fields_in, word_of, InRange, Lawful, RoundTrips}
use Rattle.words.specs.Laws.Kind.{round_trips}
use Rattle.pairs.specs.Word.{pair}
use Rattle.pairs.specs.declared.pair_word.PairFields.{PairFields}

pub pair_range : (f : PairFields) → f.base.0 < 2 ^ 27 → f.access < 4 → f.limit.0 < 2 ^ 27 → InRange pair f
unfolding pair
pair_range f a b c = search bit_lt

pub pair_lawful : Lawful pair
unfolding pair
pair_lawful = record { whole = refl; of_list = λ f. simp flag_bit; list_of = λ w. simp bit_mod }

pub pair_trips : RoundTrips pair
pair_trips = round_trips pair_lawful

pub access_small : (w : ℕ) → (fields_in pair w).access < 4
unfolding pair
access_small w = omega arith

-- lines 288 to 512, read and write: RBAR 00002403, RLAR 00003fe1
pub printed_pair : word_of pair (record { base = record { 0 = 288 }; access = 1; never = true; limit = record { 0 = 511 }; enabled = true }) ≡ 0x0000240300003fe1
unfolding pair
printed_pair = refl
