-- src/lib.rt, write_holders: Writes (view t.now).k l.0 list.old result list.new
use Rattle.sound.proofs.Laws.Holders.{writes_from}
use Rattle.holders.proofs.write_holders.Goals as goal

pub descend-d-requires : goal.descend-d-requires
descend-d-requires c = c.requires.0

pub write_way-n-requires : goal.write_way-n-requires
write_way-n-requires c = c.requires.1

pub returns : goal.returns
returns c =
    let p = c.descend-d.ensures in
    writes_from _ p.0 p.1 c.climb.ensures.names c.write_way-n.ensures p.2
