-- src/lib.rt, is_present: result ≡ present (view t.now).k p.0
use mathlib.Core.Path.{refl}
use Rattle.tables.specs.Search.{present}
use Rattle.tables.specs.Laws.Search.{header_some}
use Rattle.searching.proofs.is_present.Goals as goal

pub returns : goal.returns
unfolding present
returns c = rw (c.header-h.ensures.area, header_some) refl
