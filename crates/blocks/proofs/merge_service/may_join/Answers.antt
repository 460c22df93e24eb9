-- src/merge_service.rt, may_join: result ≡ may_join (view t.now).k c.0 (entry_of e) (entry_of f)
use Rattle.blocks.specs.Laws.MergeExits.{joins_root, joins_granted}
use Rattle.blocks.proofs.merge_service.may_join.Goals as goal

pub returns-then-c-eq0 : goal.returns-then-c-eq0
returns-then-c-eq0 c = joins_root _ _ _ _ c.if-c-eq0.true

pub returns : goal.returns
returns c = joins_granted _ _ _ _ c.if-c-eq0.false c.header-h.ensures.parent c.one_grant.ensures
