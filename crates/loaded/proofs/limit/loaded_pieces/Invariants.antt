-- src/limit.rt, loaded_pieces: result ≡ pieces_of board (view t.now) p.0 f
use Rattle.loops.specs.Laws.Count.{Summing}
use Rattle.tables.specs.View.{nth_region, named, view}
use Rattle.sound.specs.Limit.{region_pieces}
use Rattle.loaded.proofs.limit.loaded_pieces.Given as goal

abbrev pub invariant-loop-r : goal.invariant-loop-r
invariant-loop-r l = Summing (λ q. region_pieces l.board ((view l.t).k.slot l.p.0) (named (nth_region l.f q))) 52 8 l.r l.n
