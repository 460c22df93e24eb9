-- src/lib.rt, perform: Ran (numbered board (code_of service) (view t.old) f) t.old result t.new
use Rattle.calls.proofs.perform.Goals as goal

pub create-requires : goal.create-requires
create-requires c = (c.requires.0, c.requires.1.slot, c.requires.2)

pub delete-requires : goal.delete-requires
delete-requires c = (c.requires.0, c.requires.1.partition, c.requires.2)

pub prepare-requires : goal.prepare-requires
prepare-requires c = (c.requires.0, c.requires.1.partition, c.requires.1.slot, c.requires.2)

pub collect-requires : goal.collect-requires
collect-requires c = (c.requires.0, c.requires.1.partition, c.requires.2)

pub give-requires : goal.give-requires
give-requires c = (c.requires.0, c.requires.1.partition, c.requires.1.slot, c.requires.2)

pub take-requires : goal.take-requires
take-requires c = (c.requires.0, c.requires.1.slot, c.requires.2)

pub cut-requires : goal.cut-requires
cut-requires c = (c.requires.0, c.requires.1.slot, c.requires.1.line, c.requires.2)

pub merge-requires : goal.merge-requires
merge-requires c = (c.requires.0, c.requires.1.slot, c.requires.1.other, c.requires.2)

pub region-requires : goal.region-requires
region-requires c = (c.requires.0, c.requires.1, c.requires.2)

pub read_region-requires : goal.read_region-requires
read_region-requires c = (c.requires.0, c.requires.1.partition, c.requires.2)

pub find-requires : goal.find-requires
find-requires c = (c.requires.0, c.requires.1.partition, c.requires.2)

pub switch-requires : goal.switch-requires
switch-requires c = (c.requires.0, c.requires.1.partition, c.requires.2)

pub clear_out-requires : goal.clear_out-requires
clear_out-requires c = (c.requires.0, c.requires.1.partition, c.requires.2)

pub pack-requires : goal.pack-requires
pack-requires c = (c.requires.0, c.requires.1.partition, c.requires.2)

pub returns-in-Create : goal.returns-in-Create
returns-in-Create c = rw c.in-Create.is c.create.ensures

pub returns-in-Delete : goal.returns-in-Delete
returns-in-Delete c = rw c.in-Delete.is c.delete.ensures

pub returns-in-Prepare : goal.returns-in-Prepare
returns-in-Prepare c = rw c.in-Prepare.is c.prepare.ensures

pub returns-in-Collect : goal.returns-in-Collect
returns-in-Collect c = rw c.in-Collect.is c.collect.ensures

pub returns-in-Give : goal.returns-in-Give
returns-in-Give c = rw c.in-Give.is c.give.ensures

pub returns-in-Take : goal.returns-in-Take
returns-in-Take c = rw c.in-Take.is c.take.ensures

pub returns-in-Cut : goal.returns-in-Cut
returns-in-Cut c = rw c.in-Cut.is c.cut.ensures

pub returns-in-Merge : goal.returns-in-Merge
returns-in-Merge c = rw c.in-Merge.is c.merge.ensures

pub returns-in-Region : goal.returns-in-Region
returns-in-Region c = rw c.in-Region.is c.region.ensures

pub returns-in-ReadRegion : goal.returns-in-ReadRegion
returns-in-ReadRegion c = rw c.in-ReadRegion.is c.read_region.ensures

pub returns-in-Find : goal.returns-in-Find
returns-in-Find c = rw c.in-Find.is c.find.ensures

pub returns-in-Switch : goal.returns-in-Switch
returns-in-Switch c = rw c.in-Switch.is c.switch.ensures

pub returns-in-ClearOut : goal.returns-in-ClearOut
returns-in-ClearOut c = rw c.in-ClearOut.is c.clear_out.ensures

pub returns-in-Pack : goal.returns-in-Pack
returns-in-Pack c = rw c.in-Pack.is c.pack.ensures
