-- Writing gives 1, 4 and 22 by 02's conditions and no other, and reading back gives 22 exactly where no readable entry writes the pair.
use Rattle.std.specs.Prelude.{◌≡◌, Bool, List, ℕ, ◌/◌, ◌+◌, ◌^◌, ◌<◌, Result, Ok, Err}
use Rattle.std.proofs.Math.Path.{refl, ap, sym}
use Rattle.std.proofs.Common.{◌∙◌}
use Rattle.std.proofs.Math.Bool.{true, false, cond}
use native.Mathlib.Omega.{arith}
use Rattle.shapes.specs.declared.Board.TheVariants.{V8}
use Rattle.tables.specs.State.{Opt, none, some, Entry}
use Rattle.tables.specs.Laws.State.{same, some_inj, not_none, never_some}
use Rattle.tables.specs.View.{view, entry_in as slotEntry, slot_at}
use Rattle.tables.specs.Laws.View.{slot_bounds}
use Rattle.tables.specs.Laws.Seen.{see}
use Rattle.sound.specs.Clauses.{sound}
use Rattle.sound.specs.Sound.{Present}
use Rattle.sound.specs.Laws.Core.{sound_core}
use Rattle.sound.proofs.Laws.List.{sound_means}
use Rattle.face.specs.Face.{handed}
use Rattle.pairs.specs.Pair.{Readable, pair_of, entry_of_pair, one_word, halves, writes, open_word, reads}
use Rattle.pairs.specs.declared.Registers.{Registers}
use Rattle.pairs.specs.Exactly.{registers}
use Rattle.pairs.proofs.Laws.Exits.{writes_done, writes_unread}
use Rattle.pairs.proofs.Laws.Exactly.{pairs}
use Rattle.board8.specs.Regions.{entry_pair, pair_on, write_answer, rbar_after, rlar_after, WriteLent, read_answer, entry_after, ReadLent}
use Rattle.board8.specs.Exactly.{Reading, RegionPair}
use Rattle.words.specs.declared.Refusal.{Refusal}
use Rattle.words.specs.declared.Refusal.TheVariants.{WrongPair}

-- ── an entry of a sound table ──
module _ (l : List ℕ) (p s : ℕ) (ok : sound V8 l ≡ true) where
  -- an absent partition has none
  absent_none : (Present (view l).k p → ⊥) → (view l).k.slot p s ≡ none
  absent_none n =
      never_some ((view l).k.slot p s)
      (λ e at. let core = sound_core l ((sound_means V8 l).0 ok) in let (a, u) = core.s5 p s e at in n (core.s2_absent p (1 + s / 8) a u))

  module _ (e : Entry) (at : (view l).k.slot p s ≡ some e) where
    rising : e.start < e.stop
    rising = (sound_core l ((sound_means V8 l).0 ok)).s5_range p s e at

    below : e.stop < 2 ^ 27
    unfolding slotEntry
    below =
        let (hp, hs) = slot_bounds l p s e at in
        let f = slot_at l p s in
        let seen = see l p s f hp hs refl in
        go f.present (sym seen.slot ∙ at) seen.end_small
      where
        go : (b : Bool) → cond b (some (record { start = (slot_at l p s).start.0; stop = (slot_at l p s).end.0; given = (slot_at l p s).given.0; rights = (slot_at l p s).rights; whole = (slot_at l p s).whole })) none ≡ some e
            → (slot_at l p s).end.0 < 2 ^ 27 → e.stop < 2 ^ 27
        go true q small = let w = same (some_inj q) in omega arith
        go false q small = not_none none refl q

-- ── writing ──
answer_zero : (o : Result Registers Refusal) → (write_answer o ≡ 0 → ⊥) → (before : ℕ) → (rbar_after before o ≡ before) × (rlar_after before o ≡ before)
unfolding write_answer rbar_after rlar_after
answer_zero (Ok both) h before = absurd (h refl)
answer_zero (Err why) h before = (refl, refl)

module _ (bytes : List ℕ) (p s rbar rlar : ℕ) {r rbar' rlar' : ℕ} (lent : WriteLent bytes p s rbar rlar r rbar' rlar') where
  on_sound : sound V8 (handed bytes) ≡ true → pair_on bytes p s ≡ entry_pair ((view (handed bytes)).k.slot p s)
  unfolding pair_on
  on_sound ok = rw ok refl

  unsound : sound V8 (handed bytes) ≡ false → r ≡ 1
  unfolding pair_on write_answer
  unsound q = lent.answer ∙ rw q refl

  no_entry : sound V8 (handed bytes) ≡ true → (view (handed bytes)).k.slot p s ≡ none → r ≡ 4
  unfolding write_answer entry_pair
  no_entry ok q = lent.answer ∙ ap write_answer (on_sound ok ∙ ap entry_pair q)

  outside : sound V8 (handed bytes) ≡ true → (p < 16 → s < 32 → ⊥) → r ≡ 4
  outside ok n = no_entry ok (never_some ((view (handed bytes)).k.slot p s) (λ e u. let h = slot_bounds (handed bytes) p s e u in n h.0 h.1))

  absent : sound V8 (handed bytes) ≡ true → (Present (view (handed bytes)).k p → ⊥) → r ≡ 4
  absent ok n = no_entry ok (absent_none (handed bytes) p s ok n)

  module _ (ok : sound V8 (handed bytes) ≡ true) (e : Entry) (at : (view (handed bytes)).k.slot p s ≡ some e) where
    pair_is_law : pair_on bytes p s ≡ writes e
    unfolding entry_pair
    pair_is_law = on_sound ok ∙ ap entry_pair at

    unread : e.rights.read ≡ false → r ≡ 22
    unfolding write_answer
    unread q = lent.answer ∙ ap write_answer (pair_is_law ∙ sym (writes_unread e q))

    written : e.rights.read ≡ true → Readable e × (r ≡ 0) × (writes e ≡ Ok (registers rbar' rlar'))
    unfolding write_answer rbar_after rlar_after
    written q =
        let h : Readable e = record { read = q; rising = rising (handed bytes) p s ok e at; below = below (handed bytes) p s ok e at } in
        let w = writes_done e h in
        let a : rbar' ≡ (halves (pair_of e)).rbar = lent.base ∙ ap (rbar_after rbar) (pair_is_law ∙ w) in
        let b : rlar' ≡ (halves (pair_of e)).rlar = lent.limit ∙ ap (rlar_after rlar) (pair_is_law ∙ w) in
        (h, lent.answer ∙ ap write_answer (pair_is_law ∙ w), w ∙ λ i. Ok (record { rbar = sym a i; rlar = sym b i }))

  stays : (r ≡ 0 → ⊥) → (rbar' ≡ rbar) × (rlar' ≡ rlar)
  stays n =
      let h : (write_answer (pair_on bytes p s) ≡ 0 → ⊥) = λ z. n (lent.answer ∙ z) in
      (lent.base ∙ (answer_zero (pair_on bytes p s) h rbar).0, lent.limit ∙ (answer_zero (pair_on bytes p s) h rlar).1)

-- ── reading back ──
-- the one refusal
one_refusal : (o : Opt Entry) (why : Refusal) → open_word o ≡ Err why → why ≡ WrongPair
unfolding open_word
one_refusal none why q = cc
one_refusal (some e) why q = absurd (let z : ◌≡◌ {A = ℕ} 0 1 = cc in omega arith)

module _ (rbar rlar word : ℕ) {r word' : ℕ} (h : rbar < 2 ^ 32) (k : rlar < 2 ^ 32) (lent : ReadLent rbar rlar word r word') where
  either : (o : Result ℕ Refusal) → reads rbar rlar ≡ o → Reading rbar rlar word r word'
  unfolding read_answer entry_after
  either (Ok w) q =
      let z : r ≡ 0 = lent.answer ∙ ap read_answer q in
      let (e, y, g, o, x, v) = pairs.only rbar rlar w h k q in
      record {
        refused = (λ u. absurd (omega (arith, z, u)), λ n. absurd (n (e, y, v)));
        stays = λ u. absurd (omega (arith, z, u));
        told = λ n. (z, (e, y, g, o, lent.word ∙ ap (entry_after word) q ∙ x, v));
      }
  either (Err why) q =
      let u : reads rbar rlar ≡ Err WrongPair = q ∙ ap Err (one_refusal (entry_of_pair (one_word rbar rlar)) why q) in
      record {
        refused = (λ z. (pairs.unwritten rbar rlar h k).0 u, λ z. lent.answer ∙ ap read_answer u);
        stays = λ z. lent.word ∙ ap (entry_after word) u;
        told = λ z. absurd (z (lent.answer ∙ ap read_answer u));
      }

pub region_pair : RegionPair
region_pair = record {
  write = λ bytes p s rbar rlar lent. record {
    unsound = unsound bytes p s rbar rlar lent;
    no_entry = no_entry bytes p s rbar rlar lent;
    outside = outside bytes p s rbar rlar lent;
    absent = absent bytes p s rbar rlar lent;
    unread = unread bytes p s rbar rlar lent;
    written = written bytes p s rbar rlar lent;
    stays = stays bytes p s rbar rlar lent;
  };
  read = λ rbar rlar word h k lent. either rbar rlar word h k lent (reads rbar rlar) refl;
}
