-- src/came.rt, settle: t.new ≡ encode (settled (view t.old))
use Rattle.settling.specs.Laws.Settled.{fixed_all}
use Rattle.settling.proofs.came.settle.Goals as goal

pub settle_named-requires : goal.settle_named-requires
settle_named-requires c = (c.requires.0, c.requires.1, fixed_all c.args.t.now)
