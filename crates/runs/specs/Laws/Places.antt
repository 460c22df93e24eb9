-- Past the entries that have ended stands the one that holds the line: the exits of the search for it; places stay right for later lines.
use Rattle.std.specs.Prelude.{◌≡◌, Bool, List, ℕ, ◌+◌, ◌/◌, ◌≤◌, ◌<◌, get_or, set, replicate}
use Rattle.std.proofs.Math.Path.{refl, ap}
use Rattle.std.proofs.Common.{◌∙◌, arith, length-set, get_or-set_same, get_or-set_other}
use Rattle.std.proofs.Math.Bool.{true, false, cond}
use Rattle.std.proofs.Math.Decide.{dec_lt, ℕ_discrete}
use Rattle.std.proofs.lemmas.List.{length-replicate, get_or-replicate}
use Rattle.words.specs.declared.slot_word.SlotFields.{SlotFields}
use Rattle.tables.specs.State.{none, some, Area, K}
use Rattle.tables.specs.Laws.State.{not_none}
use Rattle.tables.specs.View.{entry_of, entry_in}
use Rattle.tables.specs.Lines.{Holds}
use Rattle.tables.specs.Search.{present}
use Rattle.settling.specs.Rising.{low_of, high_of}
use Rattle.sound.specs.Core.{Core}
use Rattle.sound.proofs.Laws.Found.{in_table, line_found}
use Rattle.ordering.specs.Order.{lines_of, lines_at, placed, Rows}
use Rattle.ordering.specs.Laws.Order.{lines_of_law}
use Rattle.runs.specs.Laws.Pieces.{hop_found}
use Rattle.runs.specs.Pieces.{Hopped}
use Rattle.runs.specs.Places.{AllInOrder, EndsBy, Passed}

-- the search for p's place: the places are as they were
pub record Hopping (k : K) (o : List ℕ) (l p a : ℕ) (s : List ℕ) : Type 0 where
  pub passing : EndsBy k o p l a
  pub passed : Passed k o l s

-- ── places ──
module _ {k : K} {o : List ℕ} where
  -- at the start none is passed
  pub passed_none : {l : ℕ} → Passed k o l (replicate 16 0)
  passed_none {l} = record {
    size = length-replicate {A = ℕ} 16 0;
    at = λ p b. record { past = λ a c. absurd (omega (arith, get_or-replicate {A = ℕ} 16 p 0 0 b)) };
  }

  -- what ended by a line ended by a later one
  pub passed_later : {l m : ℕ} {s : List ℕ} → l ≤ m → Passed k o l s → Passed k o m s
  passed_later b h = record { size = h.size; at = λ p c. record { past = λ a d. omega (arith, (h.at p c).past a d) } }

  pub passed_set : {l p a : ℕ} {s : List ℕ} → Passed k o l s → EndsBy k o p l a → Passed k o l (set s p a)
  passed_set {l} {p} {a} {s} h w = record { size = length-set s p a ∙ h.size; at = λ q b. go q b (ℕ_discrete q p) }
    where
      go : (q : ℕ) → q < 16 → Dec (q ≡ p) → EndsBy k o q l (get_or (set s p a) q 0)
      go q b (yes z) = rw (z, get_or-set_same s p a 0 (omega (arith, h.size))) w
      go q b (no z) = rw (get_or-set_other s p q a 0 z) (h.at q b)

-- ── the exits of the code: p holds line l ──
module _ {k : K} {o : List ℕ} (h : Core k) (w : AllInOrder k o) {p l : ℕ} (u : Holds k.slot p l) where
  there : present k p ≡ true
  unfolding present
  there =
      let (a, v) = h.s5 p u.i u.e u.at in
      let (b, x) = h.s2_absent p (1 + u.i / 8) a v in
      rw x refl

  abbrev n : ℕ
  n = get_or w.counts p 0

  rows : Rows k p n o
  rows = w.orders.rows p (in_table h p u.i u.e u.at).0 there

  -- the entry that holds the line is not passed
  record Ahead (a : ℕ) : Type 0 where
    b : ℕ
    from : a ≤ b
    below : b < n
    start : low_of (lines_at k p (placed o p b)) ≤ l

  ahead : {a : ℕ} → EndsBy k o p l a → Ahead a
  unfolding low_of high_of
  ahead {a} inv =
      let v = lines_of_law k p u.i u.e u.at in
      let (b, c, q) = rows.ordered.every u.i (record { lo = u.e.start; hi = u.e.stop }) (in_table h p u.i u.e u.at).1 v in
      let e = ap (lines_at k p) q ∙ v in
      let x : low_of (lines_at k p (placed o p b)) ≡ u.e.start = ap low_of e in
      let y : high_of (lines_at k p (placed o p b)) ≡ u.e.stop = ap high_of e in
      go b c x y (dec_lt b a)
    where
      go : (b : ℕ) → b < n → low_of (lines_at k p (placed o p b)) ≡ u.e.start → high_of (lines_at k p (placed o p b)) ≡ u.e.stop → Dec (b < a) → Ahead a
      go b c x y (yes d) = absurd (omega (arith, inv.past b d, y, u.holds.to))
      go b c x y (no d) = record { b = b; from = omega arith; below = c; start = omega (arith, x, u.holds.from) }

  pub pass_in : {a : ℕ} → EndsBy k o p l a → (p < 16) × (a < 32) × (placed o p a < 32)
  pass_in {a} inv =
      let q = ahead inv in
      let c : a < n = omega (arith, q.from, q.below) in
      ((in_table h p u.i u.e u.at).0, omega (arith, rows.ordered.few), rows.ordered.under a c)

  module _ {a : ℕ} (inv : EndsBy k o p l a) (f : SlotFields) (seen : k.slot p (placed o p a) ≡ entry_in f) where
    -- what stands there is an entry
    is : k.slot p (placed o p a) ≡ some (entry_of f)
    unfolding entry_in lines_of
    is =
        let q = ahead inv in
        let (x, v) = rows.ordered.full a (omega (arith, q.from, q.below)) in
        go x v f.present (seen ∙ refl)
      where
        go : (x : Area) → lines_at k p (placed o p a) ≡ some x → (b : Bool) → k.slot p (placed o p a) ≡ cond b (some (entry_of f)) none → k.slot p (placed o p a) ≡ some (entry_of f)
        go x v true e = e
        go x v false e = not_none (lines_at k p (placed o p a)) (ap lines_of e) v

    low : low_of (lines_at k p (placed o p a)) ≡ f.start.0
    unfolding low_of
    low = ap low_of (lines_of_law k p (placed o p a) (entry_of f) is)

    high : high_of (lines_at k p (placed o p a)) ≡ f.end.0
    unfolding high_of
    high = ap high_of (lines_of_law k p (placed o p a) (entry_of f) is)

    -- it ends by the line
    pub pass_on : f.end.0 ≤ l → EndsBy k o p l (a + 1)
    pass_on b = record { past = λ c d. go c d (ℕ_discrete c a) }
      where
        go : (c : ℕ) → c < a + 1 → Dec (c ≡ a) → high_of (lines_at k p (placed o p c)) ≤ l
        go c d (yes z) = rw z (omega (arith, high))
        go c d (no z) = inv.past c (omega arith)

    -- it does not: then it holds the line, for it starts no later than the one that does
    pub pass_here : l < f.end.0 → f.given.0 < 16 → Hopped k l p (record { heir = f.given; end = f.end })
    pass_here b g = hop_found k l p (placed o p a) f (line_found h p (placed o p a) l (entry_of f) is (record { from = start; to = b })) is g
      where
        start : f.start.0 ≤ l
        start = let q = ahead inv in go q (dec_lt a q.b)
          where
            go : (q : Ahead a) → Dec (a < q.b) → f.start.0 ≤ l
            go q (yes c) = omega (arith, low, q.start, rows.ordered.rising a q.b c q.below)
            go q (no c) = let z : a ≡ q.b = omega (arith, q.from) in omega (arith, low, q.start, ap (λ (c : ℕ). low_of (lines_at k p (placed o p c))) z)
