-- src/lists.rt, runs_bytes: RunsLent board table.now records.old result records.new
use Prim.Native.Nat.{◌<◌}
use lib.ListN.{length}
use mathlib.Core.Path.{◌≡◌, ap, subst, ◌∙◌}
use native.Mathlib.Omega.{arith}
use Rattle.runs.specs.Laws.Stored.{stored_to_is}
use Rattle.runlist.specs.Laws.Listing.{plan_fits, marks_at, listed}
use Rattle.face.specs.declared.lists.Ready.{Ready}
use Rattle.face.specs.Face.{handed, result_of}
use Rattle.face.specs.Laws.Lists.{left_marks}
use Rattle.face.proofs.lists.runs_bytes.Goals as goal

pub run_at-requires : goal.run_at-requires
run_at-requires c =
    let t = c.args.table.now in
    let size = length c.args.records.now in
    let less = subst (λ (r : Ready). c.loop-i.i < r.number) c.plan_bytes-p.ensures.0 c.loop-i-test.true in
    rw c.plan_bytes-p.ensures.1 (marks_at c.args.board (handed t) size (left_marks c.args.board t) less)

pub offset_bounds-records-i : goal.offset_bounds-records-i
offset_bounds-records-i c =
    let few = plan_fits c.args.board (handed c.args.table.now) (length c.args.records.now) in
    let number = ap (λ (r : Ready). r.number) c.plan_bytes-p.ensures.0 in
    omega (arith, few.1, number)

pub bounds-records-i : goal.bounds-records-i
bounds-records-i c =
    let few = plan_fits c.args.board (handed c.args.table.now) (length c.args.records.now) in
    let number = ap (λ (r : Ready). r.number) c.plan_bytes-p.ensures.0 in
    omega (arith, few.0, number, c.loop-i.auto.records)

pub returns : goal.returns
returns c =
    let t = c.args.table.now in
    let before = c.args.records.now in
    let h = listed c.args.board (handed t) before (left_marks c.args.board t) in
    let number = ap (λ (r : Ready). r.number) c.plan_bytes-p.ensures.0 in
    let all : c.loop-i.i ≡ c.plan_bytes-p.result.number = omega arith in
    record {
      answer = ap (λ (r : Ready). r.answer) c.plan_bytes-p.ensures.0 ∙ ap (result_of 0) h.outcome;
      records =
          c.loop-i.invariant ∙ rw (all, number, c.plan_bytes-p.ensures.1) (stored_to_is _ _ before (plan_fits c.args.board (handed t) (length before)).0) ∙ h.records;
    }
