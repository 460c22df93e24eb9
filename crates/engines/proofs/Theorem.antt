-- THE TWO ENGINES SAY THE SAME: the statement of Engines.antt, with its proof.
use Rattle.std.specs.Prelude.{◌≡◌, refl, Bool, true, cond, ◌↔◌, ℕ, ◌-◌, ◌≤◌, ◌<◌, length, get_or}
use Rattle.std.proofs.Math.Path.{ap, subst}
use Rattle.std.proofs.Common.{sym, ◌∙◌, arith}
use mathlib.Core.List.{List, [], ◌∷◌}
use Rattle.std.proofs.Math.ListN.{get_or-append}
use Rattle.shapes.specs.declared.Board.{Board}
use Rattle.tables.specs.View.{view}
use Rattle.sound.specs.Laws.Core.{sound_core}
use Rattle.sound.specs.Laws.Properties.{holder_present}
use Rattle.rules.specs.Rules.{call_on, words_after}
use Rattle.rules.specs.Ran.{outcome_of}
use Rattle.rules.specs.Calls.{caller_of}
use Rattle.isolation.specs.Laws.Fits.{Good}
use Rattle.isolation.specs.Whole.{after_all}
use Rattle.ledger.specs.Ledger.{Ledger, opening, Event, noted, lines_named, kept_on}
use Rattle.ledger.proofs.Laws.Kept.{Keeps, after_kept, from_boot_kept}
use Rattle.loops.specs.Loops.{names}
use Rattle.engine.specs.Engine.{start_masks, engine_refusal, Memory, StartLent}
use Rattle.engine.specs.Laws.Exits.{memory_of}
use Rattle.engine.specs.Laws.Marking.{between_length, between_from}
use Rattle.face.specs.Face.{handed, CallLent, ListLent}
use Rattle.demands.specs.Demands.{BootLent, Accepted, first_in, HoldersWritten, happened, entered, Called, no_call, one_call, Tells}
use Rattle.demands.proofs.Theorem.{demand_three, booted, start, start_good}
use Rattle.demands.specs.Laws.Calls.{call_done, call_event, call_noted, next}
use Rattle.engines.specs.Engines.{goes, makes, Drives, Both, no_turn, one_turn, SideBySide, LineEngine}
use Rattle.engines.specs.Laws.Mirrors.{Mirrors, start_mirrors}
use Rattle.engines.proofs.Laws.Follows.{makes_size, makes_past, Follows, call_follows, take_event}

-- what is not refused answers 0, and makes its masks
driven : (base end : ℕ) (e : Event) {ms : List ℕ} {q : ℕ} {ns : List ℕ} → goes (length ms) base end e ≡ true → Drives base end e ms q ns → (q ≡ 0) × (ns ≡ makes base end e ms)
unfolding engine_refusal
driven base end e {ms} y d = (d.answer ∙ ap engine_refusal y, d.masks ∙ ap (λ (x : Bool). cond x (makes base end e ms) ms) y)

-- ── any session ──
module _ (board : Board) {base end : ℕ} (first : List ℕ) (fit : Memory (length first) base end) where
  -- where a session has come to: the bytes of the table, its ledger, the masks
  record Come (b : List ℕ) (g : Ledger) (ms : List ℕ) : Type 0 where
    good : Good board (handed b)
    keeps : Keeps base end g (view (handed b)).k
    mirrors : Mirrors base end g ms
    size : length ms ≡ length first
    past : (k : ℕ) → end - base ≤ k → k < length first → get_or ms k 0 ≡ get_or first k 0

  module _ {b : List ℕ} {g : Ledger} {ms : List ℕ} (t : Come b g ms) {w s r : ℕ} {c : List ℕ} {s' : ℕ} (here : CallLent board b w s r c s') where
    follows : Follows base end g ms (happened board b w r g)
    follows =
        let e = call_event t.good.small here g in
        let room : Memory (length ms) base end = rw t.size fit in
        subst (λ (e : Event). Follows base end g ms e) (sym e) (call_follows t.good t.keeps room t.mirrors w)

    kept : Keeps base end (entered board b w r g) (view (handed c)).k
    unfolding kept_on after_all
    kept =
        let (_, q) = next t.good here in
        let k : Keeps base end (noted w (caller_of board (handed b)) (outcome_of (call_on board (handed b) w)) (lines_named board (handed b) w) g) (view (words_after (handed b) (call_on board (handed b) w))).k =
        after_kept t.good t.keeps (w ∷ []) in
        subst (λ (l : List ℕ). Keeps base end (entered board b w r g) (view l).k) (sym q)
        (subst (λ (x : Ledger). Keeps base end x (view (words_after (handed b) (call_on board (handed b) w))).k) (sym (call_noted t.good.small here g)) k)

    come_on : {q : ℕ} {ns : List ℕ} → Drives base end (happened board b w r g) ms q ns → Come c (entered board b w r g) ns
    come_on d =
        let e = happened board b w r g in
        let f = follows in
        let (_, z) = driven base end e f.right d in
        let (k, q) = next t.good here in
        record {
          good = subst (Good board) (sym q) k;
          keeps = kept;
          mirrors = subst (Mirrors base end (entered board b w r g)) (sym z) f.mirrors;
          size = ap length z ∙ makes_size base end e ms ∙ t.size;
          past = λ k x y. ap (λ (ns : List ℕ). get_or ns k 0) z ∙ makes_past base end e ms f.right k x (rw t.size y) ∙ t.past k x y;
        }

  comes : {b ws d ms last : List ℕ} {g h : Ledger} → Come b g ms → Both board base end b g ms ws d h last → Come d h last
  comes t no_turn = t
  comes t (one_turn here d more) = comes (come_on t here d) more

-- the table's part of a session
table_part : {board : Board} {base end : ℕ} {b ws d ms last : List ℕ} {g h : Ledger} → Both board base end b g ms ws d h last → Called board b g ws d h
table_part no_turn = no_call
table_part (one_turn here d more) = one_call here (table_part more)

-- ── what is so where it has come to ──
module _ (board : Board) {base end : ℕ} (first : List ℕ) (fit : Memory (length first) base end) {b : List ℕ} {g : Ledger} {ms : List ℕ} (t : Come board first fit b g ms) (tells : Tells board base end g b) where
  module _ {m : ℕ} {list : List ℕ} {s r : ℕ} {after : List ℕ} {s' : ℕ} (x : ListLent board b m list s r after s') (lo : base ≤ m) (hi : m < end) (long : 16 ≤ length list) where
    written : HoldersWritten (handed b) m (λ p. g.stands p m ≡ true) g.parent list (first_in r) s' after
    written = let (_, w, _) = tells.holders x lo hi long in w

    inside : (i : ℕ) → i < first_in r → i < length written.names
    inside i c = omega (arith, written.number_is)

    name : (i : ℕ) → i < length written.names → get_or after i 0 ≡ get_or written.names i 0
    name i c = ap (λ (bs : List ℕ). get_or bs i 0) written.bytes ∙ get_or-append written.names _ 0 i c

    mask_lists : (p : ℕ) → p < 16 → (names (get_or ms (m - base) 0) p ≡ true) ↔ ((i : ℕ) × (i < first_in r) × (get_or after i 0 ≡ p))
    mask_lists p c =
        let e = t.mirrors.line p m c lo hi in (
          λ y. let (i, d, q) = (written.listing.exactly p).1 (sym e ∙ y) in (i, omega (arith, written.number_is), name i d ∙ q),
          λ (i, d, q). let u = inside i d in e ∙ (written.listing.exactly p).0 (i, u, sym (name i u) ∙ q),
        )

    few : (i : ℕ) → i < first_in r → get_or after i 0 < 16
    few i d =
        let u = inside i d in
        let p = get_or written.names i 0 in
        let core = sound_core _ t.good.sound in
        let (a, v) = holder_present core ((t.keeps.holders p m).0 ((written.listing.exactly p).0 (i, u, refl))) in
        let n : p < 16 = (core.s2_range p 0 a v).0 in
        rw (name i u) n

  side_by_side : SideBySide board base end b g first ms
  side_by_side = record {
    holders = mask_lists;
    partitions = few;
    size = t.size;
    past = t.past;
    taken = λ {w} {r = r} here a six.
        let (_, _, z) = call_done t.good.small here a in
        let (e, at, y) = take_event t.good t.keeps w six z in
        (e, at, call_event t.good.small here g ∙ y);
    next = λ {r = r} here {q} d. (driven base end (happened board b _ r g) (follows board first fit t here).right d).0;
  }

-- ── from boot ──
module _ (board : Board) (base end : ℕ) {b : List ℕ} {r : ℕ} {c : List ℕ} (h : BootLent b base end r c) (a : Accepted r) where
  boot_keeps : Keeps base end (opening base end) (view (handed c)).k
  unfolding kept_on after_all
  boot_keeps = subst (λ (l : List ℕ). Keeps base end (opening base end) (view l).k) (sym (start base end h a)) (from_boot_kept board (handed b) (booted base end h a).1 [])

  module _ (few : end - base ≤ 2048) (first : List ℕ) (room : end - base ≤ length first) where
    memory : Memory (length first) base end
    memory =
        let s = (sound_core _ (start_good base end h a board).sound).s1 in
        record { some = omega (arith, s, boot_keeps.base_is, boot_keeps.end_is); few = few; room = room }

    module _ {q : ℕ} {begun : List ℕ} (s : StartLent base end first q begun) where
      start_answers : q ≡ 0
      unfolding engine_refusal
      start_answers = s.answer ∙ ap engine_refusal (memory_of memory)

      begins : begun ≡ start_masks first base end
      begins = s.masks ∙ ap (λ (x : Bool). cond x (start_masks first base end) first) (memory_of memory)

      begun_come : Come board first memory c (opening base end) begun
      begun_come = record {
        good = start_good base end h a board;
        keeps = boot_keeps;
        mirrors = subst (Mirrors base end (opening base end)) (sym begins) (start_mirrors first room);
        size = ap length begins ∙ between_length 0 (end - base) _ first;
        past = λ k x y. ap (λ (ns : List ℕ). get_or ns k 0) begins ∙ between_from 0 (end - base) _ first k y x;
      }

      boot_session : {ws d last : List ℕ} {g : Ledger} → Both board base end c (opening base end) begun ws d g last → SideBySide board base end d g first last
      boot_session both = side_by_side board first memory (comes board first memory begun_come both) ((demand_three board).ledger base end h a (table_part both))

pub line_engine : (board : Board) → LineEngine board
unfolding goes makes engine_refusal
line_engine board = record {
  start = λ base end h a few {first} room s. start_answers board base end h a few first room s;
  session = λ base end h a few {first} room s both. boot_session board base end h a few first room s both;
  gives = λ base end c r p. record { answer = p.answer; masks = p.masks };
  takes = λ base end c r p. record { answer = p.answer; masks = p.masks };
  strikes = λ base end m p. record { answer = p.answer; masks = p.masks };
  rests = λ base end c p ms. (record { answer = refl; masks = refl }, record { answer = refl; masks = refl });
}
