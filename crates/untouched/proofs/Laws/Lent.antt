-- What is given with W comes back: a whole entry stays while its branch calls, its own calls refuse it, those below it don't reach it, and the giver's slot is outside.
use Rattle.std.specs.Prelude.{◌≡◌, refl, true, ℕ}
use Rattle.std.proofs.Common.{sym, ◌∙◌, arith}
use mathlib.Core.List.{List, [], ◌∷◌}
use Rattle.std.proofs.Math.Decide.{ℕ_discrete}
use Rattle.words.specs.Kind.{fields_in}
use Rattle.words.specs.Words.{call}
use Rattle.words.specs.declared.call_word.CallFields.{CallFields}
use Rattle.shapes.specs.declared.Board.{Board}
use Rattle.tables.specs.State.{some, Entry, Table, given_to, range_of}
use Rattle.tables.specs.View.{view}
use Rattle.tables.specs.Laws.Back.{view_encode}
use Rattle.tables.specs.Fitting.{Words}
use Rattle.tables.specs.Settle.{settle}
use Rattle.sound.specs.Clauses.{sound}
use Rattle.sound.proofs.Laws.List.{sound_means}
use Rattle.sound.specs.Properties.{Child}
use Rattle.sound.specs.Whole.{Right}
use Rattle.rules.specs.Branch.{Under, itself as is-top, below}
use Rattle.rules.specs.Laws.Branch.{under_parent}
use Rattle.rules.specs.Rules.{Effect, done, refused, call_on, words_after}
use Rattle.rules.specs.Laws.Calls.{call_as}
use Rattle.rules.specs.Laws.Each.{serve_done, perform_at}
use Rattle.rules.specs.Laws.Ran.{check_done}
use Rattle.isolation.specs.Lent.{LentWhole}
use Rattle.isolation.specs.Whole.{after_all}
use Rattle.isolation.proofs.Whole.{served, after_good, call_right, next_good}
use Rattle.isolation.specs.Laws.Fits.{Good, right_fit, good_right}
use Rattle.isolation.proofs.Laws.Give.{give_done}
use Rattle.isolation.specs.Laws.Keep.{given_child, Has}
use Rattle.isolation.proofs.Laws.Lent.{own_stays, take_whole_done}
use Rattle.isolation.proofs.Laws.Switch.{switch_done}
use Rattle.isolation.specs.Laws.Two.{two_second}
use Rattle.isolation.specs.Laws.Written.{first_at_law}
use Rattle.untouched.specs.Untouched.{Within, Outside}
use Rattle.untouched.specs.Lent.{LentBack}
use Rattle.untouched.proofs.Laws.Theorem.{up_present, call_left, after_left}
use Rattle.words.specs.declared.Refusal.TheVariants.{NotSound}

-- who is in the branch of c, and not c, is in that of a child of c
module _ {up : ℕ → ℕ} {c : ℕ} where
  by_child : {q : ℕ} → Under up c q → (q ≡ c → ⊥) → (d : ℕ) × (d ≡ 0 → ⊥) × (up d ≡ c) × Under up d q
  by_child (is-top z) n = absurd (n z)
  by_child {q} (below m u) n = go (ℕ_discrete (up q) c) (by_child u)
    where
      go : Dec (up q ≡ c) → ((up q ≡ c → ⊥) → (d : ℕ) × (d ≡ 0 → ⊥) × (up d ≡ c) × Under up d (up q)) → (d : ℕ) × (d ≡ 0 → ⊥) × (up d ≡ c) × Under up d q
      go (yes z) f = (q, m, z, is-top refl)
      go (no y) f = let (d, x, z, v) = f y in (d, x, z, below m v)

-- ── a whole entry of c stays while its branch calls ──
module _ (c : ℕ) (a : Entry) (whole : a.whole ≡ true) where
  abbrev Kept : List ℕ → Type 0
  Kept l = Has (view l).k.slot c a

  -- one call: c's own don't change it, and to who is below c it is above the branch
  call_kept : {board : Board} {l : List ℕ} → Good board l → (w : ℕ) → Under (view l).k.parent c (view l).k.current → Kept l → Kept (words_after l (call_on board l w))
  unfolding words_after
  call_kept {board} {l} g w u (i, at) = go (ℕ_discrete (view l).k.current c)
    where
      h : Right (view l)
      h = good_right g

      own : (view l).k.current ≡ c → (r : Effect) → call_on board l w ≡ r → Kept (words_after l r)
      own z (refused why) y = (i, at)
      own z (done v x new) y =
          let here : (view l).k.slot (view l).k.current i ≡ some a = rw z at in
          rw (view_encode new (right_fit (call_right board l w g.small y)), ← z) (own_stays h here whole board (fields_in call w) (served board l w g.small y).2)

      go : Dec ((view l).k.current ≡ c) → Kept (words_after l (call_on board l w))
      go (yes z) = own z (call_on board l w) refl
      go (no z) =
          let (d, n, e, v) = by_child u z in
          let home = up_present h.core h.core.s1_current v in
          let out : Outside (view l).k d c = record { present = rw (← e) (h.core.s2_up d home); out = λ x. under_parent n (h.core.s2_climb d home) (rw e x) } in
          (i, ((call_left g w v).outside c out).1.slot i ∙ at)

  calls_kept : {board : Board} {l : List ℕ} → Good board l → (ws : List ℕ) → Within board c l ws → Kept l → Kept (after_all board l ws)
  unfolding Within after_all
  calls_kept g [] _ k = k
  calls_kept {board = board} {l = l} g (w ∷ ws) (u, h) k = calls_kept {l = words_after l (call_on board l w)} (next_good g w) ws h (call_kept g w u k)

-- ── so does what is lent whole ──
-- the giver's slot is outside the branch
module _ {board : Board} {l : List ℕ} (g : Good board l) {p s c : ℕ} (b : LentWhole (view l).k p s c) where
  giver_outside : Outside (view l).k c p
  giver_outside =
      let h = (good_right g).core in
      let d : Child (view l).k p c = rw b.given at (given_child h p s b.e b.at (λ z. b.other (sym b.given ∙ z))) in
      record { present = rw (← d.parent) (h.s2_up c d.present); out = λ x. under_parent d.other (h.s2_climb c d.present) (rw d.parent x) }

  lent_kept : (ws : List ℕ) → Within board c l ws → LentWhole (view (after_all board l ws)).k p s c
  lent_kept ws w =
      let (i, u) = calls_kept c b.f b.whole g ws w (b.i, b.child) in
      record {
        e = b.e;
        at = ((after_left g ws w).outside p giver_outside).1.slot s ∙ b.at;
        given = b.given;
        other = b.other;
        i = i;
        f = b.f;
        child = u;
        whole = b.whole;
        line = b.line;
        mine = b.mine;
        its = b.its;
      }

-- a switch changes no slot
switch_kept : {board : Board} {l : List ℕ} → Good board l → (w : ℕ) → (fields_in call w).service ≡ 13 → {p s c : ℕ} → LentWhole (view l).k p s c → LentWhole (view (words_after l (call_on board l w))).k p s c
unfolding words_after settle
switch_kept {board} {l} g w e {p} {s} {c} b = go (call_on board l w) refl
  where
    f : CallFields
    f = fields_in call w

    go : (r : Effect) → call_on board l w ≡ r → LentWhole (view (words_after l r)).k p s c
    go (refused why) y = b
    go (done v x new) y =
        let (_, h, z) = served board l w g.small y in
        let (_, q) = switch_done h f.partition.0 (sym (perform_at board 13 (view l) f e) ∙ (serve_done board (view l) f z).1) in
        rw (view_encode new (right_fit (call_right board l w g.small y)), q)
        (record { e = b.e; at = b.at; given = b.given; other = b.other; i = b.i; f = b.f; child = b.child; whole = b.whole; line = b.line; mine = b.mine; its = b.its })

-- a give with W lends whole
give_lends : {board : Board} {l : List ℕ} → Good board l → (w : ℕ) → (fields_in call w).service ≡ 5 → (fields_in call w).whole ≡ true → {v x : ℕ} {t : Table} → call_on board l w ≡ done v x t
    → LentWhole (view (words_after l (call_on board l w))).k (view l).k.current (fields_in call w).slot.0 (fields_in call w).partition.0
unfolding words_after settle
give_lends {board} {l} g w five marked {v} {t = t} y =
    let f = fields_in call w in
    let (_, h, z) = served board l w g.small y in
    let (e, ok, q) = give_done h f.partition.0 f.slot.0 f.rights f.whole (sym (perform_at board 5 (view l) f five) ∙ (serve_done board (view l) f z).1) in
    let r = h.core.s5_range (view l).k.current f.slot.0 e ok.entry.at in
    rw (y, view_encode t (right_fit (call_right board l w g.small y)), q) (record {
      e = given_to e f.partition.0;
      at = first_at_law ok.entry ok.slot _ _;
      given = refl;
      other = ok.child.other;
      i = v;
      f = range_of e f.rights f.whole;
      child = two_second (view l).k.slot (view l).k.current f.slot.0 _ f.partition.0 v _;
      whole = marked;
      line = e.start;
      mine = omega arith;
      its = omega arith;
    })

-- THE STORY
pub lent_back : LentBack
lent_back = record {
  back = λ board l give switch take ws small five marked y turn within again z e.
      let g = good_of board l give small y in
      let b = give_lends g give five marked y in
      let one = next_good g give in
      let two = next_good one switch in
      let c = switch_kept one switch turn b in
      let d = lent_kept two c ws within in
      let good = after_good two ws in
      take_whole_done board _ take good.small {c = (fields_in call give).partition.0} good.sound z e (rw again d);
}
  where
    -- a call that is done was asked of a sound table
    good_of : (board : Board) (l : List ℕ) (w : ℕ) → Words l → {v x : ℕ} {t : Table} → call_on board l w ≡ done v x t → Good board l
    good_of board l w small y = record { small = small; sound = (sound_means board l).0 (check_done NotSound (sound board l) (sym (call_as board l w) ∙ y)).0 }
