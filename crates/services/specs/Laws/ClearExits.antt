-- Clear out, exit by exit: p's record and the branches of its children are the branch of p, with their number; each call has a present record fewer.
use Rattle.std.specs.Prelude.{◌≡◌, refl, Bool, true, false, cond, not, ◌&&◌, ◌||◌, ◌⊎◌, List, ℕ, ◌+◌, ◌≤◌, ◌<◌, eqb, Ok}
use Rattle.std.proofs.Math.Path.{ap}
use Rattle.std.proofs.Common.{sym, subst, ◌∙◌, inl, inr, ⊎_elim, arith, eq-eqb, ne_eqb, eqb-true}
use Rattle.std.proofs.Math.Bool.{and-true, and-false}
use Rattle.std.proofs.lemmas.Bool.{false≢true}
use Rattle.std.proofs.Math.Decide.{ℕ_discrete, dec_lt}
use Rattle.loops.specs.Laws.Every.{bool_ext}
use Rattle.loops.specs.Loops.{count}
use Rattle.loops.specs.Laws.Count.{count_le, count_ext, count_one, count_apart, count_fewer, without, count_without}
use Rattle.tables.specs.State.{Opt, none, some, Area, K, Table}
use Rattle.tables.specs.Laws.State.{not_none, never_some}
use Rattle.tables.specs.View.{view}
use Rattle.tables.specs.Encode.{Canon, Is, encode}
use Rattle.tables.specs.Laws.Encode.{is_one, is_canon}
use Rattle.tables.specs.Laws.Back.{Fit}
use Rattle.tables.specs.Laws.FitView.{fit_view}
use Rattle.tables.specs.Write.{clear_record}
use Rattle.writing.specs.Laws.Stored.{is_then}
use Rattle.tables.specs.Search.{is_some, present, child}
use Rattle.tables.specs.Settle.{settled}
use Rattle.sound.specs.Sound.{Present}
use Rattle.sound.specs.Laws.Tests.{and_says, or_says, or_left}
use Rattle.sound.proofs.Laws.MeansEntries.{present_means, child_means}
use Rattle.rules.specs.Rules.{remove, branch, done, clear_out}
use Rattle.rules.specs.Branch.{Under, itself, below}
use Rattle.rules.specs.Laws.Branch.{under_root, branch_of_law, branch_at, branch_cut, branch_self}
use Rattle.services.specs.Zeroed.{zero_records}
use Rattle.services.specs.Laws.Zeroed.{zero_one, zero_more, zero_same}
use Rattle.rules.specs.Laws.Ran.{pass, ran_done}
use Rattle.blocks.specs.Laws.GiveExits.{child_now}
use Rattle.services.specs.DeleteExits.{ungiven}
use Rattle.services.specs.ClearExits.{branch_of, Cleared, Zero}
use Rattle.settling.specs.Laws.Settled.{settled_is}
use Rattle.rules.specs.Ran.{Ran}
use Rattle.words.specs.declared.Refusal.TheVariants.{WrongPartition}

-- two results are equal: the number, and every word
pub cleared_one : {before : List ℕ} {p n m : ℕ} {a b : List ℕ} → Cleared before p n a → Cleared before p m b → (n ≡ m) × (a ≡ b)
cleared_one x y = (x.number ∙ sym y.number, is_one x.is y.is)

pub cleared_few : {l m : List ℕ} {p n : ℕ} → Cleared l p n m → n ≤ 16
cleared_few {l} {p = p} c = omega (arith, c.number, count_le 16 (branch_of (view l) p))

-- how many partitions are present: what falls
abbrev pub left : List ℕ → ℕ
left l = count 16 (present (view l).k)

-- ── what is left of a table where records are zero ──
present_left : (t : Table) (m : ℕ → Bool) (q : ℕ) → present (zero_records t m).k q ≡ present t.k q && not (m q)
unfolding present
present_left t m q = go (m q)
  where
    go : (b : Bool) → is_some (cond b (λ j. none) (t.k.area q) 0) ≡ is_some (t.k.area q 0) && not b
    go true = sym (and-false (is_some (t.k.area q 0)))
    go false = sym (and-true (is_some (t.k.area q 0)))

-- a number above 15 is no partition's
far : {t : Table} → Fit t → (q : ℕ) → 16 ≤ q → t.k.parent q ≡ 0
far {t} h q b = h.orphan q (never_some (t.k.area q 0) (λ a u. let z = (h.area q 0 a u).0 in omega arith))

-- ── the record of p ──
module _ (l : List ℕ) {m : List ℕ} (p : ℕ) (clear : Is m (clear_record (view l) p)) where
  abbrev self : ℕ → Bool
  self q = eqb q p

  gone : Is m (zero_records (view l) self)
  gone = subst (Is m) (zero_one (view l) p) clear

  pub zero_now : Zero m p
  zero_now = record { is = subst (Is m) (sym again) gone }
    where
      twice : (b : Bool) → b || b ≡ b
      twice true = refl
      twice false = refl

      again : zero_records (view m) self ≡ zero_records (view l) self
      again = ap (λ (t : Table). zero_records t self) gone.viewed ∙ zero_more (view l) self self ∙ zero_same (view l) (λ q. twice (self q))

  -- one record fewer is present
  pub left_falls : p < 16 → present (view l).k p ≡ true → left m + 1 ≡ left l
  left_falls b h =
      ap (λ (n : ℕ). n + 1)
      (count_ext 16 (present (view m).k) (without (present (view l).k) p) (λ q _. ap (λ (t : Table). present t.k q) gone.viewed ∙ present_left (view l) self q))
      ∙ sym (count_without (present (view l).k) p 16 b h)

  -- the record of p, and then the rest of its branch
  pub cleared_all : {n : ℕ} {o : List ℕ} → (p ≡ 0 → ⊥) → Cleared m p n o → Cleared l p n o
  cleared_all {o = o} other c = record {
    number = c.number ∙ count_ext 16 _ _ (λ q _. same q);
    is = subst (Is o) (zero_more (view l) self (branch_of (zero_records (view l) self) p) ∙ zero_same (view l) (λ q. joined q (ℕ_discrete q p))) (is_then (λ (t : Table). zero_records t (branch_of t p)) gone c.is);
  }
    where
      same : (q : ℕ) → branch_of (view m) p q ≡ branch_of (view l) p q
      same q = ap (λ (t : Table). branch_of t p q) gone.viewed ∙ branch_cut (view l).k.parent p q

      joined : (q : ℕ) → Dec (q ≡ p) → self q || branch_of (zero_records (view l) self) p q ≡ branch_of (view l) p q
      joined q (yes z) = rw (eq-eqb q p z) (sym (branch_self (view l).k.parent p other z))
      joined q (no z) = rw (ne_eqb q p z) (branch_cut (view l).k.parent p q)

-- ── the children of p, one by one ──
-- At c the records of m are zero: of p and of the branches of its children below c, x partitions without p.
pub record Emptying (t : Table) (p c x : ℕ) (l : List ℕ) : Type 0 where
  pub m : ℕ → Bool
  pub is : Is l (zero_records t m)
  pub counted : x + 1 ≡ count 16 m
  pub itself : m p ≡ true
  pub under : (q : ℕ) → m q ≡ true → Under t.k.parent p q
  pub closed : (q : ℕ) → (q ≡ 0 → ⊥) → m (t.k.parent q) ≡ true → (m q ≡ true) ⊎ ((t.k.parent q ≡ p) × (c ≤ q))

pub empty_start : {l : List ℕ} {p : ℕ} → p < 16 → Zero l p → Emptying (view l) p 0 0 l
empty_start {p = p} b z = record {
  m = λ q. eqb q p;
  is = z.is;
  counted = sym (count_one 16 p b);
  itself = eq-eqb p p refl;
  under = λ q h. itself (eqb-true q p h);
  closed = λ q n h. inr (eqb-true _ p h, omega arith);
}

-- a child that is left: what its own clearing asks
pub child_left : (k : K) (p c : ℕ) → child k p c ≡ true → (c ≡ 0 → ⊥) × (present k c ≡ true)
child_left k p c h = let (a, n, _) = (child_means k p c).0 h in (n, (present_means k c).1 a)

module _ {t : Table} {p c x : ℕ} {l : List ℕ} (inv : Emptying t p c x l) where
  pub empty_few : x < 16
  empty_few = omega (arith, inv.counted, count_le 16 inv.m)

  -- nobody is present who was not
  pub empty_left : left l ≤ count 16 (present t.k)
  empty_left =
      count_fewer 16 (present (view l).k) (present t.k)
      (λ q h. (and_says (present t.k q) (not (inv.m q)) (sym (ap (λ (t : Table). present t.k q) inv.is.viewed ∙ present_left t inv.m q) ∙ h)).0)

  -- ── the table as it stands: of who is left, the parent is the old one ──
  abbrev now : Table
  now = zero_records t inv.m

  fits : Fit now
  fits = subst Fit inv.is.viewed (fit_view (is_canon inv.is))

  up_left : (q : ℕ) → inv.m q ≡ false → now.k.parent q ≡ t.k.parent q
  up_left q n = rw n refl

  up_gone : (q : ℕ) → inv.m q ≡ true → now.k.parent q ≡ 0
  up_gone q n = rw n refl

  -- c is no child that is left
  pub empty_no : {s : List ℕ} {n : ℕ} → (p ≡ 0 → ⊥) → child (view l).k p c ≡ false → s ≡ l → n ≡ x → Emptying t p (c + 1) n s
  empty_no other h e f = record {
    m = inv.m;
    is = rw e inv.is;
    counted = rw f inv.counted;
    itself = inv.itself;
    under = inv.under;
    closed = λ q n z. next q n (inv.closed q n z);
  }
    where
      is_child_law : (q : ℕ) → (q ≡ 0 → ⊥) → now.k.parent q ≡ p → (o : Opt Area) → now.k.area q 0 ≡ o → child now.k p q ≡ true
      is_child_law q n u none z = absurd (other (sym u ∙ fits.orphan q z))
      is_child_law q n u (some a) z = (child_means now.k p q).1 ((a, z), n, u)

      gone : (q : ℕ) → (q ≡ 0 → ⊥) → t.k.parent q ≡ p → q ≡ c → (d : Bool) → inv.m q ≡ d → d ≡ true
      gone q n u e true z = refl
      gone q n u e false z =
          let no : child now.k p q ≡ false = ap (child now.k p) e ∙ sym (ap (λ (t : Table). child t.k p c) inv.is.viewed) ∙ h in
          sym no ∙ is_child_law q n (up_left q z ∙ u) (now.k.area q 0) refl

      next : (q : ℕ) → (q ≡ 0 → ⊥) → (inv.m q ≡ true) ⊎ ((t.k.parent q ≡ p) × (c ≤ q)) → (inv.m q ≡ true) ⊎ ((t.k.parent q ≡ p) × (c + 1 ≤ q))
      next q n (inl z) = inl z
      next q n (inr (u, d)) = go (ℕ_discrete q c)
        where
          go : Dec (q ≡ c) → (inv.m q ≡ true) ⊎ ((t.k.parent q ≡ p) × (c + 1 ≤ q))
          go (yes e) = inl (gone q n u e (inv.m q) refl)
          go (no e) = inr (u, omega arith)

  -- c is a child, and its branch is cleared
  module _ {y : ℕ} {o : List ℕ} (fit : Fit t) (h : child (view l).k p c ≡ true) (done : Cleared l c y o) where
    abbrev more : ℕ → Bool
    more = branch_of now c

    says : Present now.k c × (c ≡ 0 → ⊥) × (now.k.parent c ≡ p)
    says = (child_means now.k p c).0 (sym (ap (λ (t : Table). child t.k p c) inv.is.viewed) ∙ h)

    is_left : inv.m c ≡ false
    is_left = go (inv.m c) refl
      where
        go : (d : Bool) → inv.m c ≡ d → d ≡ false
        go true z = let (a, u) = says.0 in not_none none refl (rw z at u)
        go false z = refl

    in_more : (q : ℕ) → q < 16 → Under now.k.parent c q → more q ≡ true
    in_more q b u = branch_of_law now.k.parent c says.1 fits.parent b u

    -- who is gone is not in the branch of c
    apart : (q : ℕ) → inv.m q ≡ true → Under now.k.parent c q → ⊥
    apart q z (itself e) = false≢true (sym is_left ∙ ap inv.m (sym e) ∙ z)
    apart q z (below n u) = under_root now.k.parent c says.1 (up_gone q z) u

    apart_test : (q : ℕ) → inv.m q ≡ true → more q ≡ false
    apart_test q z = go (more q) refl
      where
        go : (d : Bool) → more q ≡ d → d ≡ false
        go true w = absurd (apart q z (branch_at now.k.parent c w))
        go false w = refl

    stays : (q : ℕ) → Under now.k.parent c q → now.k.parent q ≡ t.k.parent q
    stays q u = go (inv.m q) refl
      where
        go : (d : Bool) → inv.m q ≡ d → cond d 0 (t.k.parent q) ≡ t.k.parent q
        go true z = absurd (apart q z u)
        go false z = refl

    -- the branch of c is in that of p
    lift : {q : ℕ} → Under now.k.parent c q → Under t.k.parent p q
    lift {q} (itself z) = below (λ e. says.1 (sym z ∙ e)) (itself (ap t.k.parent z ∙ sym (up_left c is_left) ∙ says.2))
    lift {q} (below n u) = below n (subst (Under t.k.parent p) (stays q (below n u)) (lift u))

    -- who hangs on one of it is in it
    hangs : (q : ℕ) → (q ≡ 0 → ⊥) → inv.m q ≡ false → more (t.k.parent q) ≡ true → more q ≡ true
    hangs q n z w = go (dec_lt q 16)
      where
        u : Under now.k.parent c (t.k.parent q)
        u = branch_at now.k.parent c w

        go : Dec (q < 16) → more q ≡ true
        go (yes b) = in_more q b (below n (subst (Under now.k.parent c) (sym (up_left q z)) u))
        go (no b) = absurd (under_root now.k.parent c says.1 (far fit q (omega arith)) u)

    pub empty_yes : {s : List ℕ} {n : ℕ} → s ≡ o → n ≡ x + y → Emptying t p (c + 1) n s
    empty_yes e f = record {
      m = λ q. inv.m q || more q;
      is = rw e (subst (Is o) (zero_more t inv.m more) (is_then (λ (t : Table). zero_records t (branch_of t c)) inv.is done.is));
      counted =
          let n : y ≡ count 16 more = done.number ∙ ap (λ (t : Table). count 16 (branch_of t c)) inv.is.viewed in
          omega (arith, inv.counted, count_apart 16 inv.m more apart_test);
      itself = or_left _ _ inv.itself;
      under = λ q z. ⊎_elim (inv.under q) (λ w. lift (branch_at now.k.parent c w)) (or_says (inv.m q) (more q) z);
      closed = λ q n z. next q n (or_says (inv.m (t.k.parent q)) (more (t.k.parent q)) z) (inv.m q) refl;
    }
      where
        next : (q : ℕ) → (q ≡ 0 → ⊥) → (inv.m (t.k.parent q) ≡ true) ⊎ (more (t.k.parent q) ≡ true) → (d : Bool) → inv.m q ≡ d
            → (d || more q ≡ true) ⊎ ((t.k.parent q ≡ p) × (c + 1 ≤ q))
        next q n w true z = inl refl
        next q n (inr w) false z = inl (hangs q n z w)
        next q n (inl w) false z = go (inv.closed q n w) (ℕ_discrete q c)
          where
            go : (inv.m q ≡ true) ⊎ ((t.k.parent q ≡ p) × (c ≤ q)) → Dec (q ≡ c) → (more q ≡ true) ⊎ ((t.k.parent q ≡ p) × (c + 1 ≤ q))
            go (inl y) d = absurd (false≢true (sym z ∙ y))
            go (inr y) (yes e) = inl (branch_self now.k.parent c says.1 e)
            go (inr (y, l)) (no e) = inr (y, omega arith)

-- all children are cleared: the records that are zero are those of the branch
pub empty_end : {s : List ℕ} {p c x : ℕ} {l : List ℕ} → Emptying (view s) p c x l → Canon s → p < 16 → (p ≡ 0 → ⊥) → 16 ≤ c → Cleared s p (x + 1) l
empty_end {s} {p} {c} {x} {l} inv canon in_p other e = record {
  number = inv.counted ∙ count_ext 16 _ _ (λ q _. same q);
  is = subst (Is l) (zero_same (view s) same) inv.is;
}
  where
    up : ℕ → ℕ
    up = (view s).k.parent

    fit : Fit (view s)
    fit = fit_view canon

    no_child : (q : ℕ) → up q ≡ p → 16 ≤ q → ⊥
    no_child q u b = other (sym u ∙ far fit q b)

    member : {q : ℕ} → Under up p q → inv.m q ≡ true
    member (itself z) = ap inv.m z ∙ inv.itself
    member {q} (below n u) = go (inv.closed q n (member u))
      where
        go : (inv.m q ≡ true) ⊎ ((up q ≡ p) × (c ≤ q)) → inv.m q ≡ true
        go (inl z) = z
        go (inr (z, b)) = absurd (no_child q z (omega arith))

    small : (q : ℕ) → Under up p q → Dec (q < 16) → q < 16
    small q u (yes b) = b
    small q (itself z) (no b) = rw z in_p
    small q (below n u) (no b) = absurd (under_root up p other (far fit q (omega arith)) u)

    same : (q : ℕ) → inv.m q ≡ branch up p q
    same q =
        bool_ext (inv.m q) (branch up p q)
        (λ z. let u = inv.under q z in branch_of_law up p other fit.parent (small q u (dec_lt q 16)) u)
        (λ z. member (branch_at up p z))

-- ── clear out ──
module _ (l : List ℕ) {c : ℕ} (p : ℕ) (now : (view l).k.current ≡ c) (is : child (view l).k c p ≡ true) where
  -- the caller's grants are returned: the child is there as before
  pub ungiven_child : {m : List ℕ} → Is m (ungiven (view l) c p) → (p ≡ 0 → ⊥) × (present (view m).k p ≡ true)
  unfolding child present
  ungiven_child {m} put = child_left (view m).k c p (ap (λ (t : Table). child t.k c p) put.viewed ∙ is)

  module _ {m o : List ℕ} {n : ℕ} (was : Is m (ungiven (view l) c p)) (gone : Cleared m p n o) where
    put : Is m (ungiven (view l) (view l).k.current p)
    put = subst (λ (c : ℕ). Is m (ungiven (view l) c p)) (sym now) was

    pub clear_is : clear_out (view l) p ≡ done n 0 (settled (zero_records (ungiven (view l) (view l).k.current p) (branch_of (view l) p)))
    unfolding clear_out
    clear_is =
        let number : n ≡ count 16 (branch_of (view l) p) = gone.number ∙ ap (λ (t : Table). count 16 (branch_of t p)) put.viewed in
        pass WrongPartition (child_now _ _ now is) (ap (λ (v : ℕ). done v 0 (remove (view l) p (branch_of (view l) p))) (sym number))

    -- what the caller gave to p is given to nobody, and the records of its branch are zero
    pub cleared_out : Is o (zero_records (ungiven (view l) (view l).k.current p) (branch_of (view l) p))
    cleared_out = is_then (λ (t : Table). zero_records t (branch_of t p)) put gone.is

  -- .. and the table is settled
  pub clear_exit_done : {m o r : List ℕ} {n : ℕ} → Is m (ungiven (view l) c p) → Cleared m p n o → r ≡ encode (settled (view o))
      → Ran (clear_out (view l) p) l (Ok (n, 0)) r
  unfolding clear_out
  clear_exit_done {m} {o} {n = n} was gone e =
      let put : Is m (ungiven (view l) (view l).k.current p) = subst (λ (c : ℕ). Is m (ungiven (view l) c p)) (sym now) was in
      let number : n ≡ count 16 (branch_of (view l) p) = gone.number ∙ ap (λ (t : Table). count 16 (branch_of t p)) put.viewed in
      ran_done (pass WrongPartition (child_now _ _ now is) (ap (λ (v : ℕ). done v 0 (remove (view l) p (branch_of (view l) p))) (sym number)))
      (sym (settled_is (is_then (λ (t : Table). zero_records t (branch_of t p)) put gone.is) e).encoded)
