-- The statement over 01's cases (specs/Cases): in every case what is computed is what 01 says.
use Rattle.std.specs.Prelude.{◌≡◌, refl, true}
use Rattle.std.proofs.Math.Bool.{and-eq-true_iff}
use Rattle.cases.specs.Cases.{Case, computed, expected, B, X, session, cases, equal, right, equal_says, right_says, computes, with_table}

base_right : right (with_table session) ≡ true
unfolding computes B session X
base_right = refl

parts_right : (equal session.1 X ≡ true) × (right cases ≡ true)
parts_right = (and-eq-true_iff (equal session.1 X) (right cases)).0 base_right

-- ── the statement: in every case, what is computed is what 01 says ──
pub every_case : computed cases ≡ expected cases
every_case = right_says cases parts_right.1

pub session_table : session.1 ≡ X
session_table = equal_says session.1 X parts_right.0
