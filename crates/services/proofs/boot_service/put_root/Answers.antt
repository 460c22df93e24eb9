-- src/boot_service.rt, put_root: t.new ≡ encode (settle (boot_k base.0 end.0) (λ p r. none))
use mathlib.Core.Path.{refl}
use Rattle.tables.specs.Laws.Encode.{is_canon}
use Rattle.services.specs.Laws.Boot.{root_words}
use native.Mathlib.Omega.{arith}
use Rattle.services.proofs.boot_service.put_root.Goals as goal

pub put_header-requires : goal.put_header-requires
put_header-requires c = record { canon = is_canon c.empty_table.ensures; in_p = omega arith; present = refl; parent_small = omega arith; start_small = omega arith; end_small = omega arith }

pub put_structure-requires : goal.put_structure-requires
put_structure-requires c = record { canon = is_canon c.put_header.ensures; in_p = omega arith; in_j = omega arith; present = refl; start_small = omega arith; end_small = omega arith }

pub put_entry-requires : goal.put_entry-requires
put_entry-requires c = record { canon = is_canon c.put_structure.ensures; in_p = omega arith; in_i = omega arith; present = refl; given_small = omega arith; start_small = c.requires.0; end_small = c.requires.1 }

pub returns : goal.returns
returns c = root_words _ _ c.empty_table.ensures c.put_header.ensures c.put_structure.ensures c.put_entry.ensures
