-- src/lib.rt, parts: result ≡ parted word
use Rattle.std.specs.Prelude.{Ok}
use Rattle.std.proofs.lemmas.Result.{err_from_is_err_and}
use mathlib.Core.Path.{ap, sym, ◌∙◌}
use Rattle.pairs.specs.Pair.{parted}
use Rattle.pairs.proofs.parts.Goals as goal

pub returns-in_err-word : goal.returns-in_err-word
unfolding parted
returns-in_err-word c =
    let p = err_from_is_err_and c.from_residual.result c.from_residual.ensures.1 in
    rw (p.1, p.2) (ap parted (sym c.in_err-word.was))

pub returns : goal.returns
unfolding parted
returns c = ap Ok c.split.ensures ∙ ap parted (sym c.in_ok-word.was)
