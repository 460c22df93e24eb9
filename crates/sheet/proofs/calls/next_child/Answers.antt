-- src/calls.rt, next_child: (result.0 ≡ next_in (lowest 16 (absent_child (view t.now).k))) × (result.0 < 16)
use Rattle.std.specs.Option.{unwrap_or}
use Prim.Native.Nat.{ℕ}
use mathlib.Core.Path.{◌≡◌, refl, ap, ◌∙◌}
use Rattle.words.specs.declared.Partition.{Partition}
use Rattle.tables.specs.State.{Opt, none, some}
use Rattle.tables.specs.Answers.{which_of}
use Rattle.rules.specs.Changes.{next_in}
use Rattle.rules.specs.Laws.Changes.{next_small}
use Rattle.sheet.proofs.calls.next_child.Goals as goal

number : (o : Opt ℕ) → (unwrap_or (which_of o) (record { 0 = 0 })).0 ≡ next_in o
unfolding which_of next_in
number none = refl
number (some n) = refl

pub returns : goal.returns
returns c =
    let q = ap (λ (p : Partition). p.0) (c.unwrap_or.ensures ∙ ap (λ x. unwrap_or x (record { 0 = 0 })) c.absent_partition.ensures) ∙ number _ in
    (q, rw q (next_small _))
