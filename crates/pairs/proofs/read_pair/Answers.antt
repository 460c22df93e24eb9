-- src/lib.rt, read_pair: result ≡ reads rbar rlar
use mathlib.Core.Path.{sym, ◌∙◌}
use mathlib.Core.Bool.{true≢false}
use native.Mathlib.Omega.{arith}
use Rattle.pairs.proofs.Laws.Exits.{reads_set, reads_unfair, reads_is}
use borrow.Author.Tests.{not-true, not-false}
use Rattle.pairs.proofs.read_pair.Goals as goal

pub returns-then-not-is_clean : goal.returns-then-not-is_clean
returns-then-not-is_clean c = reads_set _ _ c.join-w.ensures (sym c.is_clean.ensures ∙ c.if-not-is_clean.true)

pub returns-then-not-f : goal.returns-then-not-f
returns-then-not-f c = reads_unfair _ _ c.join-w.ensures c.fields-f.ensures (λ h. true≢false (sym h.enabled ∙ not-true _ c.if-not-f.true))

pub returns-then-f-ne1 : goal.returns-then-f-ne1
returns-then-f-ne1 c = reads_unfair _ _ c.join-w.ensures c.fields-f.ensures (λ h. omega (arith, h.access, c.if-f-ne1.true))

pub returns-then-base-limit : goal.returns-then-base-limit
returns-then-base-limit c = reads_unfair _ _ c.join-w.ensures c.fields-f.ensures (λ h. omega (arith, h.rising, c.if-base-limit.true))

pub returns-then-limit-ge134217727 : goal.returns-then-limit-ge134217727
returns-then-limit-ge134217727 c = reads_unfair _ _ c.join-w.ensures c.fields-f.ensures (λ h. omega (arith, h.below, c.if-limit-ge134217727.true))

pub returns : goal.returns
returns c =
    reads_is _ _ c.join-w.ensures c.fields-f.ensures (sym c.is_clean.ensures ∙ c.if-not-is_clean.false)
    (record { enabled = not-false _ c.if-not-f.false; access = c.if-f-ne1.false; rising = omega (arith, c.if-base-limit.false); below = omega (arith, c.if-limit-ge134217727.false) })
    c.write.ensures
