-- src/packed.rt, read: result ≡ reading kind w
use Rattle.std.specs.Prelude.{Ok}
use mathlib.Core.Path.{sym, ap, ◌∙◌}
use Rattle.words.specs.Laws.Kind.{read_done, read_refused}
use Rattle.words.proofs.packed.Packed.read.Goals as goal

pub returns-then-zero_bits-ne0 : goal.returns-then-zero_bits-ne0
returns-then-zero_bits-ne0 g c = sym (read_refused g.Self.Packed.kind c.args.w (λ z. c.if-zero_bits-ne0.true (c.zero_bits.ensures ∙ z)))

pub returns : goal.returns
returns g c = ap Ok c.fields.ensures ∙ sym (read_done g.Self.Packed.kind c.args.w (sym c.zero_bits.ensures ∙ c.if-zero_bits-ne0.false))
