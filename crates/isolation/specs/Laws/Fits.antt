-- A right table fits its words: it is read back from them, and they are sound words of 64 bits.
use Rattle.std.specs.Prelude.{◌≡◌, List, ℕ, ◌-◌, ◌^◌, ◌<◌}
use Rattle.std.proofs.Common.{sym, ◌∙◌, arith}
use Rattle.std.proofs.Math.Decide.{ℕ_discrete}
use Rattle.shapes.specs.declared.Board.{Board}
use Rattle.tables.specs.State.{some, Entry, Area, nowhere, K, Table}
use Rattle.tables.specs.Laws.State.{some_inj, same_a}
use Rattle.tables.specs.View.{view}
use Rattle.tables.specs.Encode.{encode, Canon}
use Rattle.tables.specs.Laws.Back.{Fit, view_encode, fit_canon}
use Rattle.tables.specs.Fitting.{Words}
use Rattle.tables.specs.Laws.SmallWords.{encode_small}
use Rattle.sound.specs.Sound.{Rooted, Sound}
use Rattle.sound.specs.Core.{Core}
use Rattle.sound.specs.Laws.Canonical.{sound_canon}
use Rattle.sound.specs.Laws.Core.{parent_range}
use Rattle.sound.proofs.Laws.Found.{in_table}
use Rattle.sound.specs.Laws.Properties.{held_range}
use Rattle.sound.specs.Whole.{Right, Few}
use Rattle.sound.proofs.Laws.Whole.{right_sound, sound_right}

module _ {k : K} (h : Core k) (b : k.stop < 2 ^ 27) where
  -- the root holds the last line of each entry
  slot_fits : (p i : ℕ) (e : Entry) → k.slot p i ≡ some e → (p < 16) × (i < 32) × (e.given < 16) × (e.start < 2 ^ 27) × (e.stop < 2 ^ 27)
  slot_fits p i e u =
      let r = h.s5_range p i e u in
      let (x, y) = in_table h p i e u in
      let (m, n) = held_range h {p = p} {l = e.stop - 1} (record { i = i; e = e; at = u; holds = omega arith }) in
      (x, y, go (ℕ_discrete e.given 0), omega arith, omega arith)
    where
      go : Dec (e.given ≡ 0) → e.given < 16
      go (yes z) = omega arith
      go (no z) = let ((a, v), _) = h.s7_given_law p i e u z in (h.s2_range e.given 0 a v).0

  -- an area is an entry, or one of the root's two 0, 0
  area_fits : (p j : ℕ) (a : Area) → k.area p j ≡ some a → (p < 16) × (j < 5) × (a.lo < 2 ^ 27) × (a.hi < 2 ^ 27)
  area_fits p j a u =
      let (x, y) = h.s2_range p j a u in
      let (m, n) = go (ℕ_discrete p 0) (ℕ_discrete j 0) (ℕ_discrete j 1) in
      (x, y, m, n)
    where
      is : k.area p j ≡ some nowhere → (a.lo < 2 ^ 27) × (a.hi < 2 ^ 27)
      is v = let w = same_a (some_inj (sym u ∙ v)) in (omega arith, omega arith)

      by : (Rooted p j → ⊥) → (a.lo < 2 ^ 27) × (a.hi < 2 ^ 27)
      by n =
          let d = h.s8 p j a u n in
          let f = slot_fits d.q d.i d.e d.at in
          (omega (arith, f.3), omega (arith, f.4))

      go : Dec (p ≡ 0) → Dec (j ≡ 0) → Dec (j ≡ 1) → (a.lo < 2 ^ 27) × (a.hi < 2 ^ 27)
      go (no n) _ _ = by (λ r. n r.0)
      go (yes z) (yes y) _ = is (rw (z, y) h.s2_root_law.0)
      go (yes z) (no _) (yes y) = is (rw (z, y) h.s2_root_law.1)
      go (yes z) (no m) (no n) = by (λ r. let y = r.1 in n (omega arith))

pub right_fit : {t : Table} → Right t → Fit t
right_fit {t} h =
    let c = h.core in
    let b = h.stop in
    record {
      base = omega (arith, c.s1);
      stop = b;
      current = let (a, u) = c.s1_current in (c.s2_range t.k.current 0 a u).0;
      parent = parent_range c;
      orphan = c.s2_parent;
      area = area_fits c b;
      slot = slot_fits c b;
      closed = h.closed;
      region = λ p r i u.
          let ((e, v), _) = (h.s10 p).names r i u in
          let f = slot_fits c b p i e v in
          (f.0, h.eight p r i u, f.1);
    }

-- ── the words of a right table that keeps the limit ──
-- sound words, of 64 bits each
pub record Good (board : Board) (l : List ℕ) : Type 0 where
  pub small : Words l
  pub sound : Sound board l

pub right_good : (board : Board) {t : Table} → Right t → Few board t → Good board (encode t)
right_good board {t} h few =
    let f = right_fit h in
    record { small = encode_small f; sound = right_sound board (fit_canon f) (rw (view_encode t f) h) (rw (view_encode t f) few) }

-- .. are the words of the table that they are seen as, and it is right
pub good_canon : {board : Board} {l : List ℕ} → Good board l → Canon l
good_canon g = sound_canon g.small g.sound

pub good_right : {board : Board} {l : List ℕ} → Good board l → Right (view l)
good_right g = sound_right (good_canon g) g.sound
