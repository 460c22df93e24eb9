-- What the event of an accepted call asks of the engine is done, and does to the masks what the event does to the ledger.
use Rattle.std.specs.Prelude.{◌≡◌, Bool, true, false, List, ℕ, ◌-◌, ◌≤◌, ◌<◌, length, get_or}
use Rattle.std.proofs.Math.Path.{refl}
use Rattle.std.proofs.Common.{sym, subst, ◌∙◌}
use native.Mathlib.Omega.{arith}
use Rattle.loops.specs.Loops.{map_of}
use Rattle.words.specs.Kind.{fields_in}
use Rattle.words.specs.Words.{call}
use Rattle.words.specs.declared.Rights.{Rights}
use Rattle.words.specs.declared.call_word.CallFields.{CallFields}
use Rattle.shapes.specs.declared.Board.{Board}
use Rattle.tables.specs.State.{Opt, none, some, Entry, Table}
use Rattle.tables.specs.View.{view}
use Rattle.tables.specs.Search.{lowest}
use Rattle.tables.specs.Laws.Search.{lowest_some}
use Rattle.tables.specs.Lines.{Holds}
use Rattle.sound.specs.Laws.Means.{eq_means, not_means}
use Rattle.sound.specs.Laws.Tests.{and_says}
use Rattle.sound.specs.Laws.Properties.{held_range}
use Rattle.sound.specs.Whole.{Right}
use Rattle.sound.proofs.Laws.List.{sound_means}
use Rattle.rules.specs.Rules.{Effect, done, refused, branch, give, take, clear_out, serve, call_on}
use Rattle.rules.specs.Laws.Each.{serve_done, done_each, perform_at}
use Rattle.rules.specs.Ran.{outcome_of}
use Rattle.rules.specs.Calls.{caller_of}
use Rattle.loops.specs.Laws.Named.{names_map}
use Rattle.isolation.specs.Laws.Fits.{Good}
use Rattle.isolation.proofs.Laws.Delete.{delete_done}
use Rattle.isolation.proofs.Laws.Give.{give_done}
use Rattle.isolation.proofs.Laws.Take.{take_done}
use Rattle.isolation.proofs.Laws.ClearOut.{branch_goes, clear_done}
use Rattle.isolation.proofs.Whole.{served}
use Rattle.ledger.specs.Ledger.{Ledger, Lines, Event, adopt, enter, strike, strike_all, nothing, apply, child_for, struck, accepted, event_of, lines_in, lines_named}
use Rattle.ledger.proofs.Laws.Kept.{Keeps, child_for_law}
use Rattle.engine.specs.Engine.{Memory, Block}
use Rattle.engine.specs.Laws.Exits.{lines_say, lines_right_law, strike_of}
use Rattle.engine.specs.Laws.Marking.{between_length, between_from}
use Rattle.engines.specs.Engines.{goes, makes}
use Rattle.engines.specs.Laws.Members.{map_members}
use Rattle.engines.specs.Laws.Mirrors.{Mirrors, give_mirrors, take_mirrors, strike_mirrors}

-- ── masks past the lines stay ──
pub makes_size : (base end : ℕ) (e : Event) (ms : List ℕ) → length (makes base end e ms) ≡ length ms
unfolding makes
makes_size base end (adopt c p) ms = refl
makes_size base end (enter c r) ms = between_length _ _ _ ms
makes_size base end (strike c r) ms = between_length _ _ _ ms
makes_size base end (strike_all m) ms = between_length _ _ _ ms
makes_size base end nothing ms = refl

pub makes_past : (base end : ℕ) (e : Event) (ms : List ℕ) → goes (length ms) base end e ≡ true
    → (k : ℕ) → end - base ≤ k → k < length ms → get_or (makes base end e ms) k 0 ≡ get_or ms k 0
unfolding makes goes
makes_past base end (adopt c p) ms q k x y = refl
makes_past base end (enter c r) ms q k x y =
    let l = lines_say (length ms) base end c r.start r.stop q in
    between_from _ _ _ ms k y (omega (arith, l.high))
makes_past base end (strike c r) ms q k x y =
    let l = lines_say (length ms) base end c r.start r.stop q in
    between_from _ _ _ ms k y (omega (arith, l.high))
makes_past base end (strike_all m) ms q k x y = between_from 0 (end - base) _ ms k y x
makes_past base end nothing ms q k x y = refl

-- ── one accepted call ──
pub record Follows (base end : ℕ) (g : Ledger) (ms : List ℕ) (e : Event) : Type 0 where
  pub right : goes (length ms) base end e ≡ true
  pub mirrors : Mirrors base end (apply e g) (makes base end e ms)

module _ {base end : ℕ} {g : Ledger} {ms : List ℕ} (fit : Memory (length ms) base end) (m : Mirrors base end g ms) where
  nothing_follows : Follows base end g ms nothing
  unfolding goes makes apply
  nothing_follows = record { right = refl; mirrors = m }

  adopt_follows : (c p : ℕ) → Follows base end g ms (adopt c p)
  unfolding goes makes apply
  adopt_follows c p = record { right = refl; mirrors = record { line = m.line } }

  enter_follows : (c : ℕ) (r : Lines) → Block (length ms) base end c r.start r.stop → Follows base end g ms (enter c r)
  unfolding goes makes
  enter_follows c r b = record { right = lines_right_law b; mirrors = give_mirrors ms fit.room m c r b.low }

  strike_follows : (c : ℕ) (r : Lines) → Block (length ms) base end c r.start r.stop → Follows base end g ms (strike c r)
  unfolding goes makes
  strike_follows c r b = record { right = lines_right_law b; mirrors = take_mirrors ms fit.room m c r b.low }

  all_follows : (f : ℕ → Bool) → f 0 ≡ false → Follows base end g ms (strike_all f)
  unfolding goes makes
  all_follows f q = record {
    right = strike_of (record { memory = fit; each = map_members f q });
    mirrors = strike_mirrors ms fit.room m (map_of 16 f) f (names_map 16 f);
  }

  module _ {t : Table} (h : Right t) (s : Keeps base end g t.k) where
    -- the lines of entry i of the caller
    abbrev lines : ℕ → Lines
    lines i = lines_in (t.k.slot t.k.current i)

    -- an entry's lines are a block of the memory
    block : (c i : ℕ) (e : Entry) → 1 ≤ c → c ≤ 15 → t.k.slot t.k.current i ≡ some e → Block (length ms) base end c (lines i).start (lines i).stop
    unfolding lines_in
    block c i e x y u =
        let r = h.core.s5_range t.k.current i e u in
        let first : Holds t.k.slot t.k.current e.start = record { i = i; e = e; at = u; holds = record { from = omega arith; to = r } } in
        let last : Holds t.k.slot t.k.current (e.stop - 1) = record { i = i; e = e; at = u; holds = record { from = omega arith; to = omega arith } } in
        rw u (record {
          memory = fit;
          child_low = x;
          child_high = y;
          low = omega (arith, (held_range h.core first).0, s.base_is);
          long = r;
          high = omega (arith, (held_range h.core last).1, s.end_is);
        })

    give_follows : (c i : ℕ) (r : Rights) (m : Bool) {v w : ℕ} {t' : Table} → give t c i r m ≡ done v w t' → Follows base end g ms (enter c (lines i))
    give_follows c i r m x =
        let (e, ok, _) = give_done h c i r m x in
        let (a, d) = ok.child.present in
        let n = ok.child.other in
        let b = (h.core.s2_range c 0 a d).0 in
        enter_follows c (lines i) (block c i e (omega arith) (omega arith) ok.entry.at)

    -- whoever the ledger takes for the child that has the lines is not the root
    child : (r : Lines) (c : ℕ) → child_for g t.k.current r c ≡ true → c ≡ 0 → ⊥
    unfolding child_for
    child r c q = let (x, _) = and_says _ _ q in let (y, _) = and_says _ _ x in (not_means (eq_means c 0)).0 y

    take_follows : (i : ℕ) {v w : ℕ} {t' : Table} → take t i ≡ done v w t' → Follows base end g ms (struck (lowest 16 (child_for g t.k.current (lines i))) (lines i))
    unfolding struck
    take_follows i x = let (_, e, _, ok, _) = take_done h i x in go e ok.at (lowest 16 (child_for g t.k.current (lines i))) refl
      where
        go : (e : Entry) → t.k.slot t.k.current i ≡ some e → (o : Opt ℕ) → lowest 16 (child_for g t.k.current (lines i)) ≡ o → Follows base end g ms (struck o (lines i))
        go e u none z = nothing_follows
        go e u (some c) z =
            let w = lowest_some 16 (child_for g t.k.current (lines i)) c z in
            let n = child (lines i) c w.holds in
            strike_follows c (lines i) (block c i e (omega arith) (omega (arith, w.below)) u)

    clear_follows : (c : ℕ) {v w : ℕ} {t' : Table} → clear_out t c ≡ done v w t' → Follows base end g ms (strike_all (branch g.parent c))
    clear_follows c x =
        let (ok, _, _) = clear_done h c x in
        subst (λ (up : ℕ → ℕ). Follows base end g ms (strike_all (branch up c))) (sym s.tree) (all_follows (branch t.k.parent c) (branch_goes h.core ok).root)

    serve_follows : (board : Board) (f : CallFields) {v w : ℕ} {t' : Table} → serve board t f ≡ done v w t' → Follows base end g ms (accepted g f t.k.current v (lines f.slot.0))
    unfolding accepted
    serve_follows board f {v} z =
        let p = f.partition.0 in
        let i = f.slot.0 in
        let same = nothing_follows in
        done_each board t f z (record {
          create = λ y _. rw y (adopt_follows v t.k.current);
          delete = λ y x. let (ok, _) = delete_done h p x in rw y (all_follows _ ok.root);
          prepare = λ y _. rw y same;
          collect = λ y _. rw y same;
          give = λ y x. rw y (give_follows p i f.rights f.whole x);
          take = λ y x. rw y (take_follows i x);
          cut = λ y _. rw y same;
          merge = λ y _. rw y same;
          load = λ y _ _. rw y same;
          unload = λ y _ _. rw y same;
          read_region = λ y _. rw y same;
          find = λ y _. rw y same;
          switch = λ y _. rw y same;
          clear_out = λ y x. rw y (clear_follows p x);
          pack = λ y _. rw y same;
        })

-- ── any call ──
module _ {board : Board} {base end : ℕ} {g : Ledger} {l ms : List ℕ} (h : Good board l) (s : Keeps base end g (view l).k) (fit : Memory (length ms) base end) (m : Mirrors base end g ms) where
  pub call_follows : (w : ℕ) → Follows base end g ms (event_of g (fields_in call w) (caller_of board l) (outcome_of (call_on board l w)) (lines_named board l w))
  unfolding event_of outcome_of caller_of
  call_follows w = one (call_on board l w) refl
    where
      one : (r : Effect) → call_on board l w ≡ r → Follows base end g ms (event_of g (fields_in call w) (caller_of board l) (outcome_of r) (lines_named board l w))
      one (done v x t') z =
          let (_, a, y) = served board l w h.small z in
          rw ((sound_means board l).1 h.sound) (serve_follows fit m a s board (fields_in call w) y)
      one (refused n) z = nothing_follows fit m

-- a take that is done strikes the child to whom the entry was given, for the entry's lines
module _ {board : Board} {base end : ℕ} {g : Ledger} {l : List ℕ} (h : Good board l) (s : Keeps base end g (view l).k) where
  pub take_event : (w : ℕ) → (fields_in call w).service ≡ 6 → {v x : ℕ} {t' : Table} → call_on board l w ≡ done v x t'
      → (e : Entry) × ((view l).k.slot (view l).k.current (fields_in call w).slot.0 ≡ some e)
      × (event_of g (fields_in call w) (caller_of board l) (outcome_of (call_on board l w)) (lines_named board l w) ≡ strike e.given (record { start = e.start; stop = e.stop }))
  unfolding event_of outcome_of caller_of accepted struck lines_in
  take_event w six z =
      let f = fields_in call w in
      let (_, a, y) = served board l w h.small z in
      let (_, e, _, ok, _) = take_done a f.slot.0 (sym (perform_at board 6 (view l) f six) ∙ (serve_done board (view l) f y).1) in
      (e, ok.at, rw (z, (sound_means board l).1 h.sound, six, child_for_law a s ok, ok.at) refl)
