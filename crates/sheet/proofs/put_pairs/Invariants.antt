-- src/lib.rt, put_pairs: sheet.new ≡ sheet_bytes (sheet_of (view t.now))
use Prim.Native.Nat.{◌*◌}
use Rattle.loops.specs.Loops.{Filling}
use Rattle.tables.specs.View.{view}
use Rattle.memory.specs.Bytes.{byte_of}
use Rattle.sheetrules.specs.Sheet.{sheet_of}
use Rattle.sheet.proofs.put_pairs.Given as goal

abbrev pub invariant-loop-p : goal.invariant-loop-p
invariant-loop-p l = Filling (λ k x. byte_of (sheet_of (view l.t)) k) l.initial.sheet 256 (16 * l.p) l.sheet
