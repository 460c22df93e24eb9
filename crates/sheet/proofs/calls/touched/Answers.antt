-- src/calls.rt, touched: (result ≡ touched (view t.now).k word) × Named result
use mathlib.Core.Path.{refl, ap, sym, ◌∙◌}
use Prim.Native.Nat.{ℕ}
use Rattle.std.proofs.Common.{arith, ⊎_elim}
use Rattle.tables.specs.Search.{given_in}
use Rattle.tables.specs.View.{view}
use Rattle.rules.specs.declared.Service.TheVariants.{Create, Delete, Prepare, Collect, Give, Take, Cut, Merge, Region, ReadRegion, Find, Switch, ClearOut, Pack}
use Rattle.sheet.specs.Touched.{touched_by, touched_of_caller}
use Rattle.sheet.specs.Laws.Touched.{told_slot, told_partition, told_none, told_at, up_of, one_of}
use Rattle.sheet.proofs.calls.touched.Goals as goal

pub returns-in_default : goal.returns-in_default
returns-in_default c = told_none _ c.fields-f.ensures _ c.in_default.ensures.1

pub given_to-requires : goal.given_to-requires
given_to-requires c = (c.first.ensures.current_small, told_slot _ c.fields-f.ensures)

pub returns-in-Create : goal.returns-in-Create
unfolding touched_by touched_of_caller
returns-in-Create c = told_at _ c.fields-f.ensures _ Create c.in-Ok.ensures c.in-Create.is (up_of c.next_child.ensures.0) c.next_child.ensures.1

pub returns-in-Take : goal.returns-in-Take
unfolding touched_by touched_of_caller
returns-in-Take c =
    let slots = (view c.args.t.now).k.slot in
    told_at _ c.fields-f.ensures _ Take c.in-Ok.ensures c.in-Take.is
    (one_of (c.given_to.ensures.0 ∙ ap (λ (n : ℕ). given_in (slots n c.fields-f.result.slot.0)) (sym c.first.ensures.current))) c.given_to.ensures.1

pub returns-in-Delete : goal.returns-in-Delete
unfolding touched_by touched_of_caller
returns-in-Delete c = ⊎_elim (λ e. told_at _ c.fields-f.ensures _ Delete c.in-Ok.ensures e refl (omega arith)) (λ e. told_at _ c.fields-f.ensures _ ClearOut c.in-Ok.ensures e refl (omega arith)) c.in-Delete.is

pub returns-in-Prepare : goal.returns-in-Prepare
unfolding touched_by touched_of_caller
returns-in-Prepare c = told_at _ c.fields-f.ensures _ Prepare c.in-Ok.ensures c.in-Prepare.is refl (told_partition _ c.fields-f.ensures)

pub returns-in-Collect : goal.returns-in-Collect
unfolding touched_by touched_of_caller
returns-in-Collect c = told_at _ c.fields-f.ensures _ Collect c.in-Ok.ensures c.in-Collect.is refl (told_partition _ c.fields-f.ensures)

pub returns-in-Give : goal.returns-in-Give
unfolding touched_by touched_of_caller
returns-in-Give c = ⊎_elim (λ e. told_at _ c.fields-f.ensures _ Give c.in-Ok.ensures e refl (told_partition _ c.fields-f.ensures)) (λ e. told_at _ c.fields-f.ensures _ Pack c.in-Ok.ensures e refl (told_partition _ c.fields-f.ensures)) c.in-Give.is

pub returns-in-Cut : goal.returns-in-Cut
unfolding touched_by touched_of_caller
returns-in-Cut c = ⊎_elim (λ e. told_at _ c.fields-f.ensures _ Cut c.in-Ok.ensures e (one_of (sym c.first.ensures.current)) c.first.ensures.current_small) (λ e. told_at _ c.fields-f.ensures _ Merge c.in-Ok.ensures e (one_of (sym c.first.ensures.current)) c.first.ensures.current_small) c.in-Cut.is

pub returns-in-Region : goal.returns-in-Region
unfolding touched_by touched_of_caller
returns-in-Region c = ⊎_elim (λ e. told_at _ c.fields-f.ensures _ Region c.in-Ok.ensures e refl (omega arith)) (⊎_elim (λ e. told_at _ c.fields-f.ensures _ ReadRegion c.in-Ok.ensures e refl (omega arith)) (⊎_elim (λ e. told_at _ c.fields-f.ensures _ Find c.in-Ok.ensures e refl (omega arith)) (λ e. told_at _ c.fields-f.ensures _ Switch c.in-Ok.ensures e refl (omega arith)))) c.in-Region.is
