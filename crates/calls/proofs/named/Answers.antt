-- src/lib.rt, named: MatchResult result (λ s. (code_of s ≡ f.service) × (known f ≡ true)) (λ why. (why ≡ BadWord) × (known f ≡ false))
use mathlib.Core.Path.{refl, sym, ◌∙◌}
use mathlib.Core.Bool.{false≢true}
use Rattle.std.proofs.lemmas.Result.{err_from_is_err_and}
use Rattle.rules.specs.Laws.Calls.{named_not, known_none, known_region, known_unused, called_region, called_other, known_is}
use Rattle.calls.proofs.named.Goals as goal
use Rattle.calls.proofs.named.Goals.{in-Region, in_default, else-matches-via-then-matches+else-not-region_call, else-matches-via-else-matches}

pub returns-in_err-service : goal.returns-in_err-service
returns-in_err-service c =
    let p = err_from_is_err_and c.from_residual.result c.from_residual.ensures.1 in
    let q = named_not _ c.in_err-service.was c.try_from.ensures in
    rw (p.1, p.2) (q.0, known_none _ q.1)

pub returns-then-not-region_call : goal.returns-then-not-region_call
returns-then-not-region_call c = (
  refl,
  elim c.match-matches.branch [
    | in-Region w ↦ known_region _ _ c.in_ok-service.ensures w.in-Region.is (sym c.region_call.ensures ∙ c.if-not-region_call.true)
    | in_default w ↦ absurd (false≢true (sym w.matches-is ∙ c.if-matches.true))
  ],
)

pub returns-then-not-unused : goal.returns-then-not-unused
returns-then-not-unused c = (refl, known_unused _ _ c.in_ok-service.ensures c.uses.ensures (sym c.unused.ensures ∙ c.if-not-unused.true))

pub returns : goal.returns
returns c =
    let named = c.in_ok-service.ensures in (
      named,
      known_is _ _ named c.uses.ensures (elim c.else-matches.branch [
        | else-matches-via-then-matches+else-not-region_call w ↦ called_region _ _ named (sym w.region_call.ensures ∙ w.if-not-region_call.false)
        | else-matches-via-else-matches w ↦ elim c.match-matches.branch [
          | in-Region v ↦ absurd (false≢true (sym w.if-matches.false ∙ v.matches-is))
          | in_default v ↦ called_other _ _ named v.in_default.not-Region
        ]
      ]) (sym c.unused.ensures ∙ c.if-not-unused.false),
    )
