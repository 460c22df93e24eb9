-- The walk over all entries: what each step keeps, where it stops, and what its end says.
use Rattle.std.specs.Prelude.{◌≡◌, Bool, false, not, ◌&&◌, List, ℕ, ◌+◌, ◌≤◌, ◌<◌, get_or, set, replicate}
use Rattle.std.proofs.Math.Path.{refl}
use Rattle.std.proofs.Common.{ap, sym, subst, ◌∙◌, arith, length-set, get_or-set_same, get_or-set_other}
use Rattle.std.proofs.Math.Bool.{true}
use Rattle.std.proofs.lemmas.Bool.{false≢true}
use Rattle.std.proofs.Math.Decide.{ℕ_discrete, dec_lt}
use Rattle.std.proofs.lemmas.List.{length-replicate}
use borrow.Author.Tests.{eq-eqb, ne_eqb, lt-ltb, le-ltb, not-true}
use Rattle.loops.specs.Loops.{all}
use Rattle.loops.specs.Laws.Every.{all_at, all_of, bool_ext}
use Rattle.words.specs.declared.slot_word.SlotFields.{SlotFields}
use Rattle.shapes.specs.declared.Board.{Board}
use Rattle.tables.specs.State.{some, K}
use Rattle.tables.specs.View.{view}
use Rattle.tables.specs.Top.{Top}
use Rattle.tables.specs.Laws.Top.{top_absent}
use Rattle.tables.specs.Search.{present}
use Rattle.tables.specs.Seen.{Seen}
use Rattle.sound.specs.Clauses.{s11}
use Rattle.sound.specs.Laws.Tests.{and_says, and_true, never}
use Rattle.sound.proofs.Laws.MeansEntries.{present_means, child_means}
use Rattle.sound.proofs.Laws.MeansWords.{s2_means}
use Rattle.shape.specs.Laws.AtOnce.{shaped_s2}
use Rattle.decide.specs.Entries.{exactly}
use Rattle.ordering.specs.Order.{placed}
use Rattle.decide.specs.Local.{entry_right, grants_open, local_where, left_where}
use Rattle.decide.specs.Tiles.{row_of, TiledSlot, InOrder, ChildOf}
use Rattle.decide.specs.Decide.{CanDecide}
use Rattle.decide.specs.Walk.{Walked, places_behind, WalkedTo, CanStep, EachRight, WalkSays, none_left, Ended}
use Rattle.decide.specs.Laws.Decide.{failed}
use Rattle.decide.specs.Laws.Granted.{here, roots}
use Rattle.decide.specs.Laws.Local.{local_says, local_true, where_says, where_true, left_says, left_true, one_says, entry_true}
use Rattle.marking.specs.Laws.Marking.{zeros}
use Rattle.decide.specs.Laws.Tiles.{row_at, row_seen, row_every_at, rows_start, rows_skip, rows_on, rows_stuck, rows_end, child_tells, in_order, child_of}

-- ── how much is behind it ──
module _ (c : List ℕ) (q j r : ℕ) where
  behind_before : r < q → places_behind c q j r ≡ get_or c r 0
  unfolding places_behind
  behind_before h = rw (lt-ltb r q h) refl

  behind_here : r ≡ q → places_behind c q j r ≡ j
  unfolding places_behind
  behind_here z = rw (le-ltb r q (omega arith), eq-eqb r q z) refl

  behind_after : q < r → places_behind c q j r ≡ 0
  unfolding places_behind
  behind_after h = rw (le-ltb r q (omega arith), ne_eqb r q (λ z. omega arith)) refl

module _ (c : List ℕ) (q j r : ℕ) where
  -- .. elsewhere it stays
  behind_other : (r ≡ q → ⊥) → places_behind c q (j + 1) r ≡ places_behind c q j r
  behind_other n = go (dec_lt r q)
    where
      go : Dec (r < q) → places_behind c q (j + 1) r ≡ places_behind c q j r
      go (yes h) = behind_before c q (j + 1) r h ∙ sym (behind_before c q j r h)
      go (no h) = behind_after c q (j + 1) r (omega arith) ∙ sym (behind_after c q j r (omega arith))

  -- the row of q is done, or q has none
  behind_next : (r ≡ q → j ≡ get_or c q 0) → places_behind c (q + 1) 0 r ≡ places_behind c q j r
  behind_next e = go (dec_lt r q) (ℕ_discrete r q)
    where
      after : q < r → Dec (r ≡ q + 1) → places_behind c (q + 1) 0 r ≡ 0
      after h (yes z) = behind_here c (q + 1) 0 r z
      after h (no z) = behind_after c (q + 1) 0 r (omega arith)

      go : Dec (r < q) → Dec (r ≡ q) → places_behind c (q + 1) 0 r ≡ places_behind c q j r
      go (yes h) _ = behind_before c (q + 1) 0 r (omega arith) ∙ sym (behind_before c q j r h)
      go (no h) (yes z) = behind_before c (q + 1) 0 r (omega arith) ∙ ap (λ (r : ℕ). get_or c r 0) z ∙ sym (e z) ∙ sym (behind_here c q j r z)
      go (no h) (no z) = after (omega arith) (ℕ_discrete r (q + 1)) ∙ sym (behind_after c q j r (omega arith))

module _ {l o c m : List ℕ} (can : CanDecide l o c m) where
  abbrev k : K
  k = (view l).k

  -- the parent of a partition that is present is so too, as S2 says
  up_here : (p r : ℕ) → p < 16 → present k p ≡ true → (p ≡ 0 → ⊥) → k.parent p ≡ r → (r < 16) × (present k r ≡ true)
  up_here p r b there n u =
      let a = ((s2_means l p b).0 (shaped_s2 can.shaped p b)).parent n ((present_means k p).0 there) in
      subst (λ (r : ℕ). (r < 16) × (present k r ≡ true)) u (here l (k.parent p) a)

  kin : (p r : ℕ) → p < 16 → present k p ≡ true → (p ≡ 0 → ⊥) → k.parent p ≡ r → ChildOf l o p r (get_or c p 0) (get_or c r 0)
  kin p r b there n u = child_of can.shaped can.orders b there n (up_here p r b there n u).0 u

  pub row_of_law : (q : ℕ) → q < 16 → present k q ≡ true → InOrder l o q (get_or c q 0)
  row_of_law q b there = in_order can.shaped can.orders b there

  -- ── it goes on ──
  moved : {q j q' j' : ℕ} {x : List ℕ} → ((r : ℕ) → r < 16 → present k r ≡ true → places_behind c q' j' r ≡ places_behind c q j r) → WalkedTo l o c m q j x → WalkedTo l o c m q' j' x
  moved e inv = record {
    size = inv.size;
    right = λ r b there a h. inv.right r b there a (subst (λ (n : ℕ). a < n) (e r b there) h);
    tiled = λ p r b there n u. let (d, t) = up_here p r b there n u in subst (Walked l o p r (get_or c p 0) (get_or c r 0) _) (sym (e r d t)) (inv.tiled p r b there n u);
  }

  pub walk_first : WalkedTo l o c m 0 0 (replicate 16 0)
  walk_first = record {
    size = length-replicate {A = ℕ} 16 0;
    right = λ r b there a h. absurd (omega (arith, nothing r (ℕ_discrete r 0)));
    tiled = λ p r b there n u. rw (zeros 16 p, nothing r (ℕ_discrete r 0)) rows_start;
  }
    where
      nothing : (r : ℕ) → Dec (r ≡ 0) → places_behind c 0 0 r ≡ 0
      nothing r (yes z) = behind_here c 0 0 r z
      nothing r (no z) = behind_after c 0 0 r (omega arith)

  pub row_absent : {q : ℕ} {x : List ℕ} → WalkedTo l o c m q 0 x → present k q ≡ false → WalkedTo l o c m (q + 1) 0 x
  row_absent {q} inv gone = moved (λ r b there. behind_next c q 0 r (λ z. absurd (false≢true (sym gone ∙ subst (λ (r : ℕ). present k r ≡ true) z there)))) inv

  pub row_done : {q j : ℕ} {x : List ℕ} → WalkedTo l o c m q j x → get_or c q 0 ≤ j → j ≤ get_or c q 0 → WalkedTo l o c m (q + 1) 0 x
  row_done {q} {j} inv far few = moved (λ r b there. behind_next c q j r (λ z. omega arith)) inv

  pub all_done : {top q : ℕ} {x : List ℕ} → Top l top → top ≤ q → WalkedTo l o c m q 0 x → WalkedTo l o c m 16 0 x
  all_done {top} {q} h far inv = moved (λ r b there. behind_before c 16 0 r b ∙ sym (behind_before c q 0 r (below r there (dec_lt r q)))) inv
    where
      below : (r : ℕ) → present k r ≡ true → Dec (r < q) → r < q
      below r there (yes b) = b
      below r there (no b) = absurd (false≢true (sym (top_absent h r (omega arith)) ∙ there))

  -- ── its end ──
  module _ {x : List ℕ} (inv : WalkedTo l o c m 16 0 x) where
    pub walk_ended : exactly k 0 && s11 k 0 && grants_open (view l) 0 ≡ true → Ended l c x
    unfolding none_left
    walk_ended root = record { size_c = can.orders.size_c; size_x = inv.size; says = λ p b there. go p b there (ℕ_discrete p 0) }
      where
        go : (p : ℕ) → p < 16 → present k p ≡ true → Dec (p ≡ 0) → none_left c x p ≡ exactly k p && s11 k p && grants_open (view l) p
        go p b there (yes z) = rw (z, root) refl
        go p b there (no n) =
            let (d, _) = up_here p (k.parent p) b there n refl in
            rw (ne_eqb p 0 n) (rows_end (child_tells (kin p (k.parent p) b there n refl)) (inv.tiled p (k.parent p) b there n refl) (omega (arith, behind_before c 16 0 (k.parent p) d)))

    rights_each : (p : ℕ) → p < 16 → present k p ≡ true → all 32 (entry_right (view l) m p) ≡ true
    rights_each p b there = entry_true (view l) m p (λ i e d u.
        let (a, h, w) = row_every_at (row_of_law p b there) i e u in
        one_says (view l) m p i e (subst (λ (i : ℕ). entry_right (view l) m p i ≡ true) w.1 (inv.right p b there a (omega (arith, behind_before c 16 0 p b)))) u)

    -- what is left decides the rest
    pub rest_local : (board : Board) {r : Bool} → r ≡ all 16 (left_where board (view l)) → r ≡ all 16 (local_where board (view l) m)
    rest_local board e = e ∙ bool_ext _ _
        (λ q. all_of 16 (local_where board (view l) m) (λ p b. where_true board (view l) m p (λ there.
        let (w, z) = left_says board (view l) p (all_at 16 (left_where board (view l)) q p b) there in
        let (d, o) = and_says (exactly k p && s11 k p) (grants_open (view l) p) w in
        let (a, s) = and_says (exactly k p) (s11 k p) d in
        local_true board (view l) m p (record { entries = rights_each p b there; exact = a; s11 = s; opens = o; s10 = z }))))
        (λ q. all_of 16 (left_where board (view l)) (λ p b. left_true board (view l) p (λ there.
        let h = local_says board (view l) m p (where_says board (view l) m p (all_at 16 (local_where board (view l) m) q p b) there) in
        (and_true _ _ (and_true _ _ h.exact h.s11) h.opens, h.s10))))

  -- ── where it does not pass ──
  each_right : (board : Board) → all 16 (local_where board (view l) m) ≡ true → EachRight (view l) m
  each_right board q p b there =
      let h = local_says board (view l) m p (where_says board (view l) m p (all_at 16 (local_where board (view l) m) q p b) there) in
      and_true _ _ h.entries (and_true _ _ (and_true _ _ h.exact h.s11) h.opens)

  pub not_walked : (board : Board) {q j : ℕ} {r : Bool} {x : List ℕ} → WalkSays l o c m q j r x → not r ≡ true → false ≡ all 16 (local_where board (view l) m)
  not_walked board {r = r} s n = never _ (λ q. s.off (not-true r n) (each_right board q))

  pub root_here : present k 0 ≡ true
  root_here = (present_means k 0).1 (_, (roots can.shaped).header)

  pub root_uncovered : (board : Board) {r : Bool} → r ≡ exactly k 0 && s11 k 0 && grants_open (view l) 0 → not r ≡ true → false ≡ all 16 (local_where board (view l) m)
  root_uncovered board e n = never _ (λ q. failed e n (and_says (all 32 (entry_right (view l) m 0)) (exactly k 0 && s11 k 0 && grants_open (view l) 0) (each_right board q 0 (omega arith) root_here)).1)

-- ── one entry: f, in slot i of q ──
module _ {l o c m : List ℕ} {q j : ℕ} {x : List ℕ} (h : CanStep l o c m q j x) where
  pub step_row : InOrder l o q (get_or c q 0)
  step_row = row_of_law h.can q h.in_q h.there

  pub step_entry : {i : ℕ} → i ≡ placed o q j → (view l).k.slot q i ≡ some (row_of l o q j)
  step_entry at = rw at (row_at step_row j h.next)

  pub step_slot : {i : ℕ} → i ≡ placed o q j → i < 32
  step_slot at = rw at (step_row.rows.ordered.under j h.next)

  module _ {i : ℕ} (at : i ≡ placed o q j) where
    -- it is not right by itself
    pub entry_wrong : {r : Bool} → r ≡ entry_right (view l) m q i → not r ≡ true → EachRight (view l) m → ⊥
    entry_wrong e n each =
        let (w, _) = and_says (all 32 (entry_right (view l) m q)) (exactly (view l).k q && s11 (view l).k q && grants_open (view l) q) (each q h.in_q h.there) in
        failed e n (all_at 32 (entry_right (view l) m q) w i (step_slot at))

    module _ {f : SlotFields} (v : Seen l q i f) (right : entry_right (view l) m q i ≡ true) where
      seen : Seen l q (placed o q j) f
      seen = subst (λ (i : ℕ). Seen l q i f) at v

      rights_on : (r : ℕ) → r < 16 → present (view l).k r ≡ true → (a : ℕ) → a < places_behind c q (j + 1) r → entry_right (view l) m r (placed o r a) ≡ true
      rights_on r d t a few = go (ℕ_discrete r q) (ℕ_discrete a j)
        where
          go : Dec (r ≡ q) → Dec (a ≡ j) → entry_right (view l) m r (placed o r a) ≡ true
          go (yes z) (yes y) = rw (z, y, ← at) right
          go (yes z) (no y) = h.walked.right r d t a (omega (arith, behind_here c q (j + 1) r z, behind_here c q j r z))
          go (no z) _ = h.walked.right r d t a (subst (λ (n : ℕ). a < n) (behind_other c q j r z) few)

      abbrev Reached : ℕ → ℕ → ℕ → Type 0
      Reached p r a = Walked l o p r (get_or c p 0) (get_or c r 0) (get_or x p 0) a

      -- who is not given it goes on as before
      keep : (p r : ℕ) → p < 16 → present (view l).k p ≡ true → (p ≡ 0 → ⊥) → (view l).k.parent p ≡ r → (f.given.0 ≡ p → ⊥) → Reached p r (places_behind c q (j + 1) r)
      keep p r d t n u no-grant = go (ℕ_discrete r q)
        where
          go : Dec (r ≡ q) → Reached p r (places_behind c q (j + 1) r)
          go (no z) = subst (Reached p r) (sym (behind_other c q j r z)) (h.walked.tiled p r d t n u)
          go (yes z) =
              let had : Reached p r j = subst (Reached p r) (behind_here c q j r z) (h.walked.tiled p r d t n u) in
              let less : j < get_or c r 0 = subst (λ (r : ℕ). j < get_or c r 0) (sym z) h.next in
              let there : Seen l r (placed o r j) f = subst (λ (r : ℕ). Seen l r (placed o r j) f) (sym z) seen in
              subst (Reached p r) (sym (behind_here c q (j + 1) r z)) (rows_skip had less (λ g. no-grant (sym (row_seen (kin h.can p r d t n u).above less there).given ∙ g)))

      pub entry_free : f.given.0 ≡ 0 → WalkedTo l o c m q (j + 1) x
      entry_free z = record { size = h.walked.size; right = rights_on; tiled = λ p r d t n u. keep p r d t n u (λ g. n (sym g ∙ z)) }

      -- it is given to a child of q, as S7 says
      module _ (given : f.given.0 ≡ 0 → ⊥) where
        abbrev d : ℕ
        d = f.given.0

        to_child : (row_of l o q j).given ≡ d
        to_child = (row_seen step_row h.next seen).given

        given_kin : (d < 16) × (present (view l).k d ≡ true) × ((view l).k.parent d ≡ q)
        given_kin =
            let (a, _, u) = (child_means (view l).k q (row_of l o q j).given).0 ((one_says (view l) m q i (row_of l o q j) right (step_entry at)).given (λ z. given (sym to_child ∙ z))) in
            let (b, t) = here l (row_of l o q j).given a in
            rw (← to_child) (b, t, u)

        kind : ChildOf l o d q (get_or c d 0) (get_or c q 0)
        kind = let (b, t, u) = given_kin in kin h.can d q b t given u

        pub given_row : InOrder l o d (get_or c d 0)
        given_row = kind.own

        given_walked : Walked l o d q (get_or c d 0) (get_or c q 0) (get_or x d 0) j
        given_walked = let (b, t, u) = given_kin in subst (Walked l o d q (get_or c d 0) (get_or c q 0) (get_or x d 0)) (behind_here c q j q refl) (h.walked.tiled d q b t given u)

        pub given_few : get_or x d 0 ≤ get_or c d 0
        given_few = given_walked.few

        module _ {y : ℕ} (s : TiledSlot l o d (get_or c d 0) (get_or x d 0) q i y) where
          tiled : TiledSlot l o d (get_or c d 0) (get_or x d 0) q (placed o q j) y
          tiled = subst (λ (i : ℕ). TiledSlot l o d (get_or c d 0) (get_or x d 0) q i y) at s

          pub entry_stuck : get_or c d 0 < y → EachRight (view l) m → ⊥
          entry_stuck beyond each =
              let (b, t, _) = given_kin in
              let (_, w) = and_says (all 32 (entry_right (view l) m d)) (exactly (view l).k d && s11 (view l).k d && grants_open (view l) d) (each d b t) in
              false≢true (rows_stuck (child_tells kind) given_walked h.next to_child tiled beyond ∙ w)

          pub entry_on : y ≤ get_or c d 0 → WalkedTo l o c m q (j + 1) (set x d y)
          entry_on few = record { size = length-set x d y ∙ h.walked.size; right = rights_on; tiled = λ p r b t n u. go p r b t n u (ℕ_discrete p d) }
            where
              go : (p r : ℕ) → p < 16 → present (view l).k p ≡ true → (p ≡ 0 → ⊥) → (view l).k.parent p ≡ r → Dec (p ≡ d)
                  → Walked l o p r (get_or c p 0) (get_or c r 0) (get_or (set x d y) p 0) (places_behind c q (j + 1) r)
              go p r b t n u (no z) = rw (get_or-set_other x d p y 0 z) (keep p r b t n u (λ g. z (sym g)))
              go p r b t n u (yes z) =
                  let (b', _, u') = given_kin in
                  let w : r ≡ q = sym u ∙ ap (view l).k.parent z ∙ u' in
                  rw (z, w, get_or-set_same x d y 0 (omega (arith, h.walked.size)), behind_here c q (j + 1) q refl) (rows_on (child_tells kind) given_walked h.next to_child tiled few)

-- ── what a step says ──
module _ {l o c m : List ℕ} {q j : ℕ} {x : List ℕ} where
  pub walk_says : WalkedTo l o c m q j x → WalkSays l o c m q j true x
  walk_says h = record { on = λ _. h; off = λ q. absurd (false≢true (sym q)) }

  pub walk_stops : (EachRight (view l) m → ⊥) → WalkSays l o c m q j false x
  walk_stops h = record { on = λ z. absurd (false≢true z); off = λ _. h }

  -- where one fails, no more is looked at
  pub walk_fails : {q' j' : ℕ} {r : Bool} → WalkSays l o c m q' j' r x → not r ≡ true → WalkSays l o c m q j false x
  walk_fails {r = r} h n = walk_stops (h.off (not-true r n))
