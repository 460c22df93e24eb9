-- src/regions_word.rt, write: result ≡ writing kind self
use Rattle.std.specs.Prelude.{Ok}
use mathlib.Core.Path.{sym, ap, ◌∙◌}
use Rattle.words.specs.Laws.Kind.{write_done, write_refused}
use Rattle.words.specs.Laws.Kinds.{regions_range}
use Rattle.words.specs.Laws.Slots.{eight_slots}
use Rattle.words.specs.Words.{regions}
use native.Mathlib.Omega.{arith}
use Rattle.words.proofs.regions_word.RegionsFieldsPacked.write.Goals as goal

pub returns-then-wide-ne0 : goal.returns-then-wide-ne0
unfolding regions
returns-then-wide-ne0 c = sym (write_refused regions (c.args.self) (λ h. omega arith))

pub half-high-requires : goal.half-high-requires
unfolding regions
half-high-requires c = let s = eight_slots _ _ _ _ _ _ _ _ c.if-wide-ne0.false in (s.0, s.1, s.2, s.3)

pub half-low-requires : goal.half-low-requires
unfolding regions
half-low-requires c = let s = eight_slots _ _ _ _ _ _ _ _ c.if-wide-ne0.false in (s.4, s.5, s.6, s.7)

pub returns : goal.returns
unfolding regions
returns c = let f = (c.args.self) in let s = eight_slots _ _ _ _ _ _ _ _ c.if-wide-ne0.false in ap Ok (omega arith) ∙ sym (write_done regions f (regions_range f s.0 s.1 s.2 s.3 s.4 s.5 s.6 s.7))
