-- src/printing.rt, of_verdict: result.bytes ≡ printed_line v; ClauseNamed v → length result.bytes ≤ 8
-- A clause and a partition have at most two digits each.
use Rattle.std.proofs.Common.{◌≤◌, [], ◌∷◌, ◌++◌, length, refl, sym, subst, arith, rules, length-append, append_assoc}
use Rattle.std.proofs.lemmas.Fmt.{length-decimal-le}
use Rattle.std.specs.Prelude.{decimal}
use Rattle.verdict.specs.Verdict.{ClauseNamed}
use Rattle.verdict.specs.declared.Verdict.{Verdict}
use Rattle.verdict.specs.declared.Verdict.TheVariants.{Accepted, Fails, Length}
use Rattle.report.specs.Report.{printed_line}
use Rattle.report.proofs.printing.of_verdict.Goals.{in-Accepted, in-Fails, in-Length}
use Rattle.report.proofs.printing.of_verdict.Goals as goal

short : (v : Verdict) → ClauseNamed v → length (printed_line v) ≤ 8
unfolding printed_line
short Accepted named = omega arith
short (Fails n p) named =
    let both = named.fails n p refl in
    omega (
      arith,
      length-append (decimal n) (32 ∷ (decimal p.0 ++ (10 ∷ []))),
      length-append (decimal p.0) (10 ∷ []),
      length-decimal-le 2 n (omega arith) (omega (arith, both.0)) (omega (arith, both.0)),
      length-decimal-le 2 p.0 (omega arith) (omega (arith, both.1)) (omega (arith, both.1)),
    )
short Length named = omega arith

pub returns-clause-line : goal.returns-clause-line
unfolding printed_line
returns-clause-line c = elim c.match-v.branch [
  | in-Accepted w ↦ search rules
  | in-Fails w ↦ search (rules, append_assoc)
  | in-Length w ↦ search rules
]

pub returns-clause-within : goal.returns-clause-within
returns-clause-within c named = subst (λ l. length l ≤ 8) (sym (returns-clause-line c)) (short c.args.v named)
