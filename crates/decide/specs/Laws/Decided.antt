-- Where each area has marked an entry, exactly the sound tables pass the tests of `Local` at all partitions.
use Rattle.std.specs.Prelude.{◌≡◌, refl, Bool, true, false, ◌&&◌, ◌||◌, List, ℕ, ◌<◌, length}
use Rattle.std.proofs.Math.Path.{sym}
use Rattle.std.proofs.Common.{◌∙◌, eq-eqb}
use Rattle.std.proofs.Math.Bool.{not}
use Rattle.std.proofs.Math.Dec.{eqb}
use Rattle.std.proofs.lemmas.Bool.{not-true}
use Rattle.loops.specs.Loops.{all}
use Rattle.loops.specs.Laws.Every.{all_at, all_of, bool_ext}
use Rattle.shapes.specs.declared.Board.{Board}
use Rattle.tables.specs.State.{some, Entry, K}
use Rattle.tables.specs.View.{view}
use Rattle.tables.specs.Laws.View.{slot_bounds, area_bounds}
use Rattle.tables.specs.Search.{child, present}
use Rattle.sound.specs.Sound.{Present, S8, S9, Sound}
use Rattle.sound.specs.Clauses.{s1, s2, s3_first, s3, s4, s5, s6, s7_given, s7_whole, undivided, s8_backed, s8_apart, s8, sound}
use Rattle.sound.specs.Laws.Tests.{and_says, and_true, every_says, every_true}
use Rattle.sound.specs.Laws.Sound.{s7_of, s8_of, s9_of}
use Rattle.sound.proofs.Laws.List.{sound_means}
use Rattle.sound.specs.Laws.Core.{sound_core, backed_s8}
use Rattle.sound.specs.Laws.Grants.{core_grants}
use Rattle.sound.specs.Laws.Local.{MarkedOnce, LocalOpen, marked_apart, s9_local, local_s9}
use Rattle.sound.proofs.Laws.MeansEntries.{else_true, present_means, child_means}
use Rattle.sound.proofs.Laws.MeansAreas.{s8_means}
use Rattle.sound.proofs.Laws.MeansRegions.{s9_means}
use Rattle.shape.specs.AtOnce.{rest_at, Shaped}
use Rattle.shape.specs.Laws.AtOnce.{areas_apart, at_once, Passes, rest_true, rest_says, sound_at_once, shaped_s2, shaped_record}
use Rattle.decide.specs.Entries.{exactly}
use Rattle.decide.specs.Laws.Entries.{s7_parts}
use Rattle.marking.specs.Marking.{slot_marked, MarkedTo, MarkSays}
use Rattle.marking.specs.Laws.Marking.{all_marked}
use Rattle.decide.specs.Local.{local_where}
use Rattle.decide.specs.Laws.Granted.{five, owns, roots, here, SevenSays, given, shaped_grants, grants_open_law}
use Rattle.decide.specs.Laws.Local.{LocalSays, local_says, local_true, where_says, where_true, EntrySays, entry_says, entry_true, grants_open_means}
use Rattle.decide.specs.Decide.{CanDecide, Decided}
use Rattle.decide.specs.Laws.Decide.{absent_rest, parts, not_sound_so}

-- ── where the areas have marked ──
module _ (board : Board) {l m : List ℕ} (size : length l ≡ 641) (first : s1 (view l).k && s3_first l ≡ true) (shaped : Shaped l) (apart : all 16 (s6 (view l).k) ≡ true) (marked : MarkedTo (view l).k 80 m) where
  abbrev k : K
  k = (view l).k

  slot_few : (p i : ℕ) (e : Entry) → k.slot p i ≡ some e → i < 32
  slot_few p i e u = (slot_bounds l p i e u).1

  marks : MarkedOnce k (slot_marked m)
  marks = all_marked (area_bounds l) marked

  -- ── they pass: the table is sound ──
  module _ (pass : all 16 (local_where board (view l) m) ≡ true) where
    local : (p : ℕ) → Present k p → LocalSays board (view l) m p
    local p a = let (b, h) = here l p a in local_says board (view l) m p (where_says board (view l) m p (all_at 16 (local_where board (view l) m) pass p b) h)

    right_at : (p i : ℕ) (e : Entry) → k.slot p i ≡ some e → EntrySays (view l) m p i e
    right_at p i e u = entry_says (view l) m p (local p (owns shaped p i e u)).entries i e (slot_few p i e u) u

    given_each : (p : ℕ) → s7_given k p ≡ true
    unfolding s7_given
    given_each p = every_true 32 (λ i e. eqb e.given 0 || child k p e.given) (k.slot p) (λ i e b u. else_true (eqb e.given 0) (child k p e.given) (λ z.
        (right_at p i e u).given (λ w. z (eq-eqb e.given 0 w))))

    whole_each : (p : ℕ) → s7_whole (view l) p ≡ true
    unfolding s7_whole
    whole_each p = every_true 32 (λ i e. not e.whole || undivided k p ((view l).opened p i) e) (k.slot p) (λ i e b u. (right_at p i e u).whole)

    seven : (p : ℕ) → Present k p → SevenSays k p
    seven p a = record { children = given_each p; exact = (local p a).exact }

    opens : (p : ℕ) → LocalOpen (view l) (slot_marked m) p
    opens p = record {
      free = λ i e u g.
          let w = (right_at p i e u).free g in
          (λ q. not-true _ (sym w ∙ q), λ q. w ∙ rw q refl);
      given = λ i e u g.
          let (a, w) = given shaped apart seven p i e u g in
          let (to, back) = (grants_open_means l e.given g).0 (local e.given a).opens i e (rw w u) refl in
          (λ q. to (rw w q), λ h. rw w at (back h));
    }

    s8s : (p : ℕ) → S8 k p
    s8s = backed_s8 (λ p j a u n. (marks.equal p j a u n).backed) (marked_apart (shaped_grants shaped apart seven) (roots shaped) marks)

    s9s : (p : ℕ) → S9 (view l) p
    s9s = local_s9 (shaped_grants shaped apart seven) (roots shaped) slot_few marks opens

    eight : (p : ℕ) → (all 5 (s8_backed k p) ≡ true) × (all 5 (s8_apart k p) ≡ true)
    unfolding s8
    eight p = and_says (all 5 (s8_backed k p)) (all 5 (s8_apart k p)) ((s8_means l p).1 (s8s p))

    all_pass : (p : ℕ) → p < 16 → Present k p → Passes board l p
    all_pass p b a =
        let loc = local p a in
        let (x, y) = and_says (s3 l p && s4 l k p) (s5 l k p) (shaped_record shaped p b) in
        let (u, v) = and_says (s3 l p) (s4 l k p) x in
        record {
          s3 = u;
          s4 = v;
          s5 = y;
          s6 = all_at 16 (s6 k) apart p b;
          s7 = s7_parts (view l) p (here l p a).1 ∙ and_true _ _ (and_true _ _ (given_each p) (whole_each p)) loc.exact;
          s11 = loc.s11;
          s8 = (eight p).0;
          s9 = (s9_means l (five shaped) p b).1 (s9s p);
          s10 = loc.s10;
        }

    rest : (p : ℕ) → p < 16 → s2 l k p && rest_at board l p ≡ true
    rest p b = and_true _ _ (shaped_s2 shaped p b) (go (present k p) refl)
      where
        go : (x : Bool) → present k p ≡ x → rest_at board l p ≡ true
        go true q = rest_true board l p (all_pass p b ((present_means k p).0 q))
        go false q = absent_rest board l p b (shaped_s2 shaped p b) q

    pub local_sound : sound board l ≡ true
    unfolding at_once areas_apart
    local_sound =
        sym (sound_at_once board l)
        ∙ and_true _ _ (and_true _ _ (and_true _ _ (eq-eqb (length l) 641 size) first) (all_of 16 (λ p. s2 l k p && rest_at board l p) rest)) (all_of 16 (λ p. all 5 (s8_apart k p)) (λ p b. (eight p).1))

  -- ── the table is sound: they pass ──
  module _ (q : sound board l ≡ true) where
    is : Sound board l
    is = (sound_means board l).0 q

    passes : (p : ℕ) → p < 16 → Passes board l p
    passes p b = rest_says board l p (and_says (s2 l k p) (rest_at board l p) (all_at 16 (λ p. s2 l k p && rest_at board l p) (parts board l q).partitions p b)).1

    nine : (p : ℕ) → S9 (view l) p
    nine p i e u = s9_of is p (slot_bounds l p i e u).0 i e u

    told : (p : ℕ) → LocalOpen (view l) (slot_marked m) p
    told = s9_local (core_grants (sound_core l is)) (roots shaped) slot_few marks nine

    entry_passes : (p i : ℕ) (e : Entry) → p < 16 → s7_whole (view l) p ≡ true → k.slot p i ≡ some e → EntrySays (view l) m p i e
    unfolding s7_whole
    entry_passes p i e b w u = record {
      whole = every_says 32 (λ i e. not e.whole || undivided k p ((view l).opened p i) e) (k.slot p) w i e (slot_few p i e u) u;
      free = λ g.
          let (to, back) = (told p).free i e u g in
          bool_ext _ _ (λ z. rw (to z) refl) (λ z. back (not-true _ z));
      given = λ g.
          let (a, z) = (s7_of is p b).given i e u g in
          (child_means k p e.given).1 (a, g, z);
    }

    parts_at : (p : ℕ) → Present k p → (s7_given k p && s7_whole (view l) p ≡ true) × (exactly k p ≡ true)
    parts_at p a =
        let (b, h) = here l p a in
        and_says (s7_given k p && s7_whole (view l) p) (exactly k p) (sym (s7_parts (view l) p h) ∙ (passes p b).s7)

    passed_seven : (p : ℕ) → Present k p → SevenSays k p
    passed_seven p a = let (x, y) = parts_at p a in record { children = (and_says (s7_given k p) (s7_whole (view l) p) x).0; exact = y }

    pub sound_local : all 16 (local_where board (view l) m) ≡ true
    sound_local = all_of 16 (local_where board (view l) m) (λ p b. where_true board (view l) m p (λ there.
        let a = (present_means k p).0 there in
        let (x, y) = parts_at p a in
        local_true board (view l) m p (record {
          entries = entry_true (view l) m p (λ i e _ u. entry_passes p i e b (and_says (s7_given k p) (s7_whole (view l) p) x).1 u);
          exact = y;
          s11 = (passes p b).s11;
          opens = grants_open_law shaped apart passed_seven nine p;
          s10 = (passes p b).s10;
        })))

-- ── the decision ──
-- an area that finds no entry of its own fails S8
pub not_marked : (board : Board) {l o c m : List ℕ} {r : Bool} → MarkSays (view l).k 80 r m → not r ≡ true → Decided board l false o c
not_marked board {l} {r = r} h n = not_sound_so board l (λ q. h.off (not-true r n) (s8_of ((sound_means board l).0 q)))

pub decided : (board : Board) {l o c m : List ℕ} {r : Bool} → length l ≡ 641 → s1 (view l).k && s3_first l ≡ true → CanDecide l o c m → r ≡ all 16 (local_where board (view l) m) → Decided board l r o c
decided board {l} {m = m} size first can e = record {
  says = e ∙ bool_ext _ _ (local_sound board size first can.shaped can.s6 can.marked) (sound_local board size first can.shaped can.s6 can.marked);
  orders = λ _. can.orders;
}
