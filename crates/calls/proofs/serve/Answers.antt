-- src/lib.rt, serve: Ran (serve board (view t.old) f) t.old result t.new
use mathlib.Core.Path.{sym, ◌∙◌}
use Rattle.std.proofs.lemmas.Result.{err_from_is_err_and}
use Rattle.rules.specs.Laws.Ran.{ran_refused, ran_as}
use Rattle.rules.specs.Laws.Each.{perform_at}
use Rattle.rules.specs.Laws.Calls.{serve_unknown, serve_known}
use Rattle.calls.proofs.serve.Goals as goal

pub returns-in_err-service : goal.returns-in_err-service
returns-in_err-service c =
    let p = err_from_is_err_and c.from_residual.result c.from_residual.ensures.1 in
    let q = rw c.in_err-service.was at c.named.ensures in
    rw (p.1, p.2, q.0) (ran_refused (serve_unknown _ _ _ q.1))

pub returns : goal.returns
returns c =
    let q = rw c.in_ok-service.was at c.named.ensures in
    ran_as (serve_known _ _ _ q.1 ∙ perform_at _ _ _ _ (sym q.0)) c.perform.ensures
