-- src/lib.rt, changed_by: result ≡ changed_by f.service (view t.now).k f
use mathlib.Core.Path.{refl, ap, ap₂, sym, ◌∙◌}
use Rattle.std.proofs.Common.{⊎_elim}
use Prim.Native.Nat.{ℕ, ◌^◌}
use lib.Bits.{bit_or}
use Rattle.tables.specs.Search.{given_in}
use Rattle.tables.specs.View.{view}
use Rattle.rules.specs.declared.Service.TheVariants.{Create, Delete, Prepare, Collect, Give, Take, Cut, Merge, Region, ReadRegion, Find, Switch, ClearOut, Pack}
use Rattle.rules.specs.Changes.{changed_by}
use Rattle.rules.specs.Laws.Calls.{changed_at, changed_none}
use Rattle.calls.proofs.changed_by.Goals as goal

pub returns-in_default : goal.returns-in_default
returns-in_default c = changed_none _ _ c.in_default.ensures.1

pub returns-in-Give : goal.returns-in-Give
unfolding changed_by
returns-in-Give c =
    changed_at (view c.args.t.now).k c.args.f Give c.in-Ok.ensures c.in-Give.is
    (ap₂ bit_or (c.one_partition.ensures ∙ ap (λ (n : ℕ). 2 ^ n) (sym c.requires.0)) c.one_partition-in-Give.ensures)

pub returns-in-Take : goal.returns-in-Take
unfolding changed_by
returns-in-Take c =
    let own = sym c.requires.0 in
    let given = c.given_to-child.ensures.0 ∙ ap (λ (n : ℕ). given_in ((view c.args.t.now).k.slot n c.args.f.slot.0)) own in
    changed_at (view c.args.t.now).k c.args.f Take c.in-Ok.ensures c.in-Take.is
    (ap₂ bit_or (c.one_partition-in-Take.ensures ∙ ap (λ (n : ℕ). 2 ^ n) own) (c.one_partition-in-Take-2.ensures ∙ ap (λ (n : ℕ). 2 ^ n) given))

pub returns-in-Cut : goal.returns-in-Cut
unfolding changed_by
returns-in-Cut c =
    let named = c.in-Ok.ensures in
    let own = c.one_partition-in-Cut.ensures ∙ ap (λ (n : ℕ). 2 ^ n) (sym c.requires.0) in
    ⊎_elim (λ e. changed_at (view c.args.t.now).k c.args.f Cut named e own) (λ e. changed_at (view c.args.t.now).k c.args.f Merge named e own) c.in-Cut.is

pub returns-in-Region : goal.returns-in-Region
unfolding changed_by
returns-in-Region c =
    let named = c.in-Ok.ensures in
    let p = c.one_partition-in-Region.ensures in
    ⊎_elim (λ e. changed_at (view c.args.t.now).k c.args.f Region named e p) (λ e. changed_at (view c.args.t.now).k c.args.f Pack named e p) c.in-Region.is

pub returns-in-ReadRegion : goal.returns-in-ReadRegion
unfolding changed_by
returns-in-ReadRegion c =
    let named = c.in-Ok.ensures in
    let k = (view c.args.t.now).k in
    ⊎_elim (λ e. changed_at k c.args.f ReadRegion named e refl)
    (⊎_elim (λ e. changed_at k c.args.f Find named e refl) (λ e. changed_at k c.args.f Switch named e refl)) c.in-ReadRegion.is

pub returns-in-Create : goal.returns-in-Create
unfolding changed_by
returns-in-Create c =
    let named = c.in-Ok.ensures in
    let k = (view c.args.t.now).k in
    ⊎_elim (λ e. changed_at k c.args.f Create named e refl)
    (⊎_elim (λ e. changed_at k c.args.f Delete named e refl)
    (⊎_elim (λ e. changed_at k c.args.f Prepare named e refl)
    (⊎_elim (λ e. changed_at k c.args.f Collect named e refl) (λ e. changed_at k c.args.f ClearOut named e refl)))) c.in-Create.is
