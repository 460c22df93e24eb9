-- The table of a sound table's words is right; and canonical words of a right table that keeps the limit are sound.
use Rattle.std.specs.Prelude.{◌≡◌, true, List, ℕ, ◌+◌, ◌/◌, ◌<◌}
use Rattle.std.proofs.Common.{arith}
use Rattle.shapes.specs.declared.Board.{Board}
use Rattle.tables.specs.State.{none, Table}
use Rattle.tables.specs.Laws.State.{never_some, not_none}
use Rattle.tables.specs.View.{view}
use Rattle.tables.specs.Laws.View.{region_bounds}
use Rattle.tables.specs.Encode.{Canon}
use Rattle.tables.specs.Laws.Encode.{canon_length}
use Rattle.tables.specs.Laws.FitView.{zero_slot, zero_structure, fit_view}
use Rattle.tables.specs.Laws.Canonical.{first_clean, Nothing, nothing_zero}
use Rattle.sound.specs.Sound.{Clause, Sound}
use Rattle.sound.specs.Clauses.{sound}
use Rattle.sound.specs.Core.{Core}
use Rattle.sound.specs.Laws.Sound.{s9_all, loaded_all}
use Rattle.sound.proofs.Laws.List.{each_clause, sound_means}
use Rattle.sound.specs.Laws.Canonical.{canon_s3}
use Rattle.sound.specs.Laws.Core.{core_s7, core_sound, sound_core}
use Rattle.sound.specs.Properties.{Isolated}
use Rattle.sound.specs.Laws.Properties.{isolated}
use Rattle.sound.specs.Whole.{Right, Few}

-- a sound table is right ..
pub sound_right : {board : Board} {l : List ℕ} → Canon l → Sound board l → Right (view l)
sound_right {l = l} c h = record {
  core = sound_core l h;
  stop = (fit_view c).stop;
  closed = (fit_view c).closed;
  eight = λ p r i u. (region_bounds l p r i u).1;
  s9 = s9_all h;
  s10 = loaded_all h;
}

-- a right table is isolated
pub right_isolated : {t : Table} → Right t → Isolated t
right_isolated h = isolated h.core h.s9 h.s10

-- a table that passed the test
pub tested : (board : Board) (t : List ℕ) → sound board t ≡ true → Core (view t).k
tested board t q = sound_core t ((sound_means board t).0 q)

-- an absent partition has nothing
nothing : {t : Table} → Right t → (p : ℕ) → t.k.area p 0 ≡ none → Nothing t p
nothing {t} h p z =
    let area : (j : ℕ) → t.k.area p j ≡ none = λ j. never_some (t.k.area p j) (λ a u. not_none (t.k.area p 0) z (h.core.s2_absent p j a u).1) in
    let slot : (i : ℕ) → t.k.slot p i ≡ none = λ i. never_some (t.k.slot p i) (λ e u. let (a, v) = h.core.s5 p i e u in not_none (t.k.area p (1 + i / 8)) (area (1 + i / 8)) v) in
    record {
      area = area;
      slot = slot;
      region = λ r. never_some (t.region p r) (λ i u. let ((e, v), _) = (h.s10 p).names r i u in not_none (t.k.slot p i) (slot i) v);
    }

-- .. and canonical words whose table is right and keeps the limit are sound
pub right_sound : (board : Board) {l : List ℕ} → Canon l → Right (view l) → Few board (view l) → Sound board l
right_sound board {l} c h few =
    let g = core_sound h.core in
    record {
      size = canon_length c;
      clauses =
          each_clause (λ n. (p : ℕ) → p < 16 → Clause board l n p)
          (λ p b z. g.s1)
          (λ p b. record { absent = λ u. nothing_zero c p b (nothing h p u); root = g.s2_root_law p; parent = g.s2_parent p; area = g.s2_area p; walk = g.s2_walk p })
          (λ p b. (λ z. first_clean c, canon_s3 c p b))
          (λ p b. record { absent = λ j d. zero_structure c p (1 + j) b (omega arith) (omega arith); root = g.s4_root p; long = g.s4_long p })
          (λ p b. record { structure = g.s5_structure p; range = g.s5_range p; other = λ i d u. zero_slot c p i b d u })
          (λ p b. g.s6 p)
          (λ p b. core_s7 h.core p (h.s9 p))
          (λ p b. g.s8 p)
          (λ p b. h.s9 p)
          (λ p b. record { loaded = h.s10 p; few = few.at p })
          (λ p b. g.s11 p);
    }
