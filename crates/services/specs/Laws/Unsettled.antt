-- What is left to settle of a right table after each change of areas that a service makes.
use Rattle.std.specs.Prelude.{◌≡◌, refl, Bool, true, false, not, ◌&&◌, List, eqb, Ok}
use Rattle.std.proofs.Common.{ap, sym, ◌∙◌, ⊎_elim, arith, lt-ltb}
use Rattle.std.proofs.Math.Path.{subst}
use Rattle.std.proofs.Math.Bool.{cond, and-false}
use Prim.Native.Nat.{ℕ, ◌+◌, ◌*◌, ◌/◌, ◌%◌, ◌≤◌, ◌<◌}
use Rattle.std.proofs.Math.Decide.{ℕ_discrete}
use Rattle.loops.specs.Laws.Every.{all_at, bool_ext}
use Rattle.words.specs.declared.Line.{Line}
use Rattle.tables.specs.State.{Opt, none, some, Entry, Area, Table, given_to}
use Rattle.tables.specs.Laws.State.{not_none, some_inj, same_a}
use Rattle.tables.specs.Update.{both?, upd, upd1}
use Rattle.tables.specs.Laws.Update.{upd_same, upd_other, upd_from, row_same, row_other, upd_none}
use Rattle.tables.specs.View.{view}
use Rattle.tables.specs.Encode.{encode, Is}
use Rattle.tables.specs.Write.{with_area, put_header, put_structure, clear_record}
use Rattle.tables.specs.Search.{is_some, is_none, lowest, absent, absent_child, no_structure}
use Rattle.tables.specs.Laws.Search.{lowest_some, none_is}
use Rattle.tables.specs.Settle.{meets, clear, open_bit, open_at, settled}
use Rattle.writing.specs.Stored.{span}
use Rattle.settling.specs.Areas.{off}
use Rattle.settling.specs.Laws.Areas.{off_meets}
use Rattle.settling.specs.Settled.{off_entry, Came, Gone}
use Rattle.settling.specs.Laws.Settled.{settled_is}
use Rattle.sound.specs.Whole.{Right}
use Rattle.sound.specs.Laws.Tests.{and_says}
use Rattle.sound.specs.Laws.Meets.{meets_not, clear_means}
use Rattle.sound.specs.Laws.Settled.{entry_clear, right_settled}
use Rattle.rules.specs.Rules.{Effect, done, ungive, vacant}
use Rattle.rules.specs.Ran.{Ran}
use Rattle.rules.specs.Laws.Ran.{ran_done}
use Rattle.rules.specs.Laws.Removed.{records_was}
use Rattle.services.specs.DeleteExits.{ungiven}
use Rattle.services.specs.ClearExits.{branch_of, Cleared}
use Rattle.services.specs.Zeroed.{zero_records}
use Rattle.services.specs.Laws.Zeroed.{zero_one}

-- ── fewer areas ──
module _ (area new : ℕ → ℕ → Opt Area) (fewer : (p j : ℕ) (x : Area) → new p j ≡ some x → area p j ≡ some x) where
  clear_fewer : (a b : ℕ) → clear area a b ≡ true → clear new a b ≡ true
  clear_fewer a b q = (clear_means new a b).1 (λ n h x l u. (clear_means area a b).0 q n h x l (fewer (n / 5) (n % 5) x u))

  open_fewer : (o : Opt Entry) → open_bit area o ≡ true → open_bit new o ≡ true
  unfolding open_bit
  open_fewer none q = q
  open_fewer (some e) q = clear_fewer e.start e.stop q

-- ── one area more ──
module _ (area : ℕ → ℕ → Opt Area) (n j : ℕ) (x : Area) (hn : n < 16) (hj : j < 5) (free : area n j ≡ none) where
  abbrev more : ℕ → ℕ → Opt Area
  more = upd area n j (some x)

  was : (p i : ℕ) (y : Area) → area p i ≡ some y → more p i ≡ some y
  was p i y u = upd_other area n j (some x) p i (λ z. not_none {a = y} (area n j) free (rw (← z.0, ← z.1) u)) ∙ u

  clear_more : (a b : ℕ) → x.lo < x.hi → a < b → clear more a b ≡ clear area a b && off x.lo x.hi a b
  clear_more a b hx h = bool_ext _ _ to back
    where
      lines : off x.lo x.hi a b ≡ not (meets x.lo x.hi a b)
      lines = off_meets x.lo x.hi a b (lt-ltb _ _ hx) (lt-ltb _ _ h)

      here : more ((5 * n + j) / 5) ((5 * n + j) % 5) ≡ some x
      here =
          let h₁ : (5 * n + j) / 5 ≡ n = omega arith in
          let h₂ : (5 * n + j) % 5 ≡ j = omega arith in
          rw (h₁, h₂) (upd_same area n j (some x) n j (refl, refl))

      to : clear more a b ≡ true → clear area a b && off x.lo x.hi a b ≡ true
      to q =
          rw (clear_fewer more area was a b q, lines)
          ((meets_not x.lo x.hi a b).1 (λ l s t u v. (clear_means more a b).0 q (5 * n + j) (omega arith) x l here (record { from = s; to = t }) u v))

      back : clear area a b && off x.lo x.hi a b ≡ true → clear more a b ≡ true
      back q =
          let (c, o) = and_says (clear area a b) (off x.lo x.hi a b) q in
          (clear_means more a b).1 (λ m k y l u i v w.
          ⊎_elim
          (λ (s : (m / 5 ≡ n) × (m % 5 ≡ j) × (some x ≡ some y)).
          let e = same_a (some_inj s.2) in (meets_not x.lo x.hi a b).0 (sym lines ∙ o) l (omega (arith, e.lo, i.from)) (omega (arith, e.hi, i.to)) v w)
          (λ (s : ((m / 5 ≡ n) × (m % 5 ≡ j) → ⊥) × (area (m / 5) (m % 5) ≡ some y)). (clear_means area a b).0 c m k y l s.1 i v w)
          (upd_from area n j (some x) (m / 5) (m % 5) u))

module _ {t : Table} (h : Right t) (n j : ℕ) (x : Area) (hn : n < 16) (hj : j < 5) (free : t.k.area n j ≡ none) (hx : x.lo < x.hi) where
  came : (parent : ℕ → ℕ) → Came x.lo x.hi (record { k = with_area t.k parent (upd t.k.area n j (some x)); opened = t.opened; region = t.region })
  unfolding open_at open_bit off_entry
  came parent = record {
    housed = record { at = λ p i e u. house p i (h.core.s5 p i e u) (both? n j p (1 + i / 8)) };
    bits = λ p i. bit p i (t.k.slot p i) refl;
    named = record { at = (right_settled h).names };
  }
    where
      house : (p i : ℕ) → (a : Area) × (t.k.area p (1 + i / 8) ≡ some a) → Dec ((p ≡ n) × (1 + i / 8 ≡ j)) → (a : Area) × (upd t.k.area n j (some x) p (1 + i / 8) ≡ some a)
      house p i w (yes z) = (x, upd_same t.k.area n j (some x) p (1 + i / 8) z)
      house p i (a, w) (no z) = (a, upd_other t.k.area n j (some x) p (1 + i / 8) z ∙ w)

      bit : (p i : ℕ) (o : Opt Entry) → t.k.slot p i ≡ o → open_bit (upd t.k.area n j (some x)) o ≡ t.opened p i && off_entry x.lo x.hi o
      bit p i none u = sym (and-false (t.opened p i))
      bit p i (some e) u =
          clear_more t.k.area n j x hn hj free e.start e.stop hx (h.core.s5_range p i e u)
          ∙ ap (λ (b : Bool). b && off x.lo x.hi e.start e.stop) (entry_clear (right_settled h) u)

module _ (l : List ℕ) {m : List ℕ} {a b : Line} (h : Right (view l)) (long : a.0 + 16 ≤ b.0) where
  pub came_header : {n : ℕ} (c : ℕ) → lowest 16 (absent_child (view l).k) ≡ some n → Is m (put_header (view l) n c (some (span a b))) → Came a.0 b.0 (view m)
  unfolding absent_child absent
  came_header {n} c q is =
      let z = lowest_some 16 (absent_child (view l).k) n q in
      subst (Came a.0 b.0) (sym is.viewed)
      (came h n 0 (span a b) z.below (omega arith) (none_is _ (and_says (not (eqb n 0)) (is_none ((view l).k.area n 0)) z.holds).1) (omega arith) (upd1 (view l).k.parent n c))

  pub came_structure : {p j : ℕ} → p < 16 → lowest 4 (no_structure (view l).k p) ≡ some j → Is m (put_structure (view l) p j (some (span a b))) → Came a.0 b.0 (view m)
  unfolding no_structure
  came_structure {p} {j} hp q is =
      let z = lowest_some 4 (no_structure (view l).k p) j q in
      subst (Came a.0 b.0) (sym is.viewed)
      (came h p (1 + j) (span a b) hp (omega (arith, z.below)) (none_is _ z.holds) (omega arith) (view l).k.parent)

-- ── areas that go ──
pub right_gone : {t : Table} → Right t → Gone t
right_gone h = record { housed = record { at = h.core.s5 }; stays = λ p i q. (right_settled h).bits p i ∙ q; named = record { at = (right_settled h).names } }

-- the words of such a table
pub gone_words : {l : List ℕ} {t : Table} → Is l t → Gone t → Gone (view l)
gone_words was h = subst Gone (sym was.viewed) h

module _ {t : Table} (h : Gone t) where
  -- a structure without an entry
  pub gone_structure : (n j : ℕ) → vacant t.k n j ≡ true → Gone (put_structure t n j none)
  unfolding open_at vacant
  gone_structure n j empty = record {
    housed = record { at = λ p i e u. let (a, w) = h.housed.at p i e u in house p i e a u w (both? n (1 + j) p (1 + i / 8)) };
    stays = λ p i q. open_fewer t.k.area new old (t.k.slot p i) (h.stays p i q);
    named = record { at = h.named.at };
  }
    where
      new : ℕ → ℕ → Opt Area
      new = upd t.k.area n (1 + j) none

      old : (p i : ℕ) (x : Area) → new p i ≡ some x → t.k.area p i ≡ some x
      old p i x u = upd_none t.k.area n (1 + j) p i u

      house : (p i : ℕ) (e : Entry) (a : Area) → t.k.slot p i ≡ some e → t.k.area p (1 + i / 8) ≡ some a → Dec ((p ≡ n) × (1 + i / 8 ≡ 1 + j)) → (a : Area) × (new p (1 + i / 8) ≡ some a)
      house p i e a u w (yes z) =
          let s : 8 * j + i % 8 ≡ i = omega (arith, z.1) in
          not_none {a = e} (t.k.slot n i) (rw s at (none_is (t.k.slot n (8 * j + i % 8)) (all_at 8 (λ i. not (is_some (t.k.slot n (8 * j + i)))) empty (i % 8) (omega arith)))) (rw (← z.0) u)
      house p i e a u w (no z) = (a, upd_other t.k.area n (1 + j) none p (1 + i / 8) z ∙ w)

  -- what c gave to p is given to nobody
  pub gone_ungiven : (c p : ℕ) → Gone (ungiven t c p)
  unfolding open_at open_bit ungive
  gone_ungiven c p = record {
    housed = record { at = λ q i e u. let (f, w) = entry q i e u (ℕ_discrete q c) in h.housed.at q i f w };
    stays = λ q i u. bit q i (ℕ_discrete q c) ∙ h.stays q i u;
    named = record { at = h.named.at };
  }
    where
      new : ℕ → ℕ → Opt Entry
      new = upd1 t.k.slot c (λ i. ungive p (t.k.slot c i))

      some_was : (o : Opt Entry) (e : Entry) → ungive p o ≡ some e → (f : Entry) × (o ≡ some f)
      some_was none e u = not_none none refl u
      some_was (some f) e u = (f, refl)

      entry : (q i : ℕ) (e : Entry) → new q i ≡ some e → Dec (q ≡ c) → (f : Entry) × (t.k.slot q i ≡ some f)
      entry q i e u (yes z) = rw z (some_was (t.k.slot c i) e (sym (row_same t.k.slot c (λ i. ungive p (t.k.slot c i)) q i z) ∙ u))
      entry q i e u (no z) = (e, sym (row_other t.k.slot c (λ i. ungive p (t.k.slot c i)) q i z) ∙ u)

      same_lines : (o : Opt Entry) → open_bit t.k.area (ungive p o) ≡ open_bit t.k.area o
      same_lines none = refl
      same_lines (some e) = go (eqb e.given p)
        where
          go : (b : Bool) → clear t.k.area (cond b (given_to e 0) e).start (cond b (given_to e 0) e).stop ≡ clear t.k.area e.start e.stop
          go true = refl
          go false = refl

      bit : (q i : ℕ) → Dec (q ≡ c) → open_bit t.k.area (new q i) ≡ open_bit t.k.area (t.k.slot q i)
      bit q i (yes z) = ap (open_bit t.k.area) (row_same t.k.slot c (λ i. ungive p (t.k.slot c i)) q i z) ∙ rw z (same_lines (t.k.slot c i))
      bit q i (no z) = ap (open_bit t.k.area) (row_other t.k.slot c (λ i. ungive p (t.k.slot c i)) q i z)

  -- records that are zero
  pub gone_zeroed : (m : ℕ → Bool) → Gone (zero_records t m)
  unfolding open_at open_bit
  gone_zeroed m = record { housed = record { at = λ p i e. house p i e (m p) }; stays = λ p i. stay p i (m p); named = record { at = λ p r i. name p r i (m p) } }
    where
      new : ℕ → ℕ → Opt Area
      new p = cond (m p) (λ j. none) (t.k.area p)

      old : (p j : ℕ) (x : Area) → new p j ≡ some x → t.k.area p j ≡ some x
      old p j x u = (records_was m t.k.area p j u).0

      house : (p i : ℕ) (e : Entry) (b : Bool) → cond b (λ i. none) (t.k.slot p) i ≡ some e → (a : Area) × (cond b (λ j. none) (t.k.area p) (1 + i / 8) ≡ some a)
      house p i e true u = not_none none refl u
      house p i e false u = h.housed.at p i e u

      stay : (p i : ℕ) (b : Bool) → cond b (λ i. false) (t.opened p) i ≡ true → open_bit new (cond b (λ i. none) (t.k.slot p) i) ≡ true
      stay p i true u = u
      stay p i false u = open_fewer t.k.area new old (t.k.slot p i) (h.stays p i u)

      name : (p r i : ℕ) (b : Bool) → cond b (λ r. none) (t.region p) r ≡ some i → cond b (λ i. false) (t.opened p) i ≡ true
      name p r i true u = not_none none refl u
      name p r i false u = h.named.at p r i u

  pub gone_cleared : (p : ℕ) → Gone (clear_record t p)
  gone_cleared p = subst Gone (sym (zero_one t p)) (gone_zeroed (λ q. eqb q p))

-- the branch of a partition is cleared
pub gone_branch : {l o : List ℕ} {p n : ℕ} → Cleared l p n o → Gone (view l) → Gone (view o)
gone_branch {l} {p = p} gone h = gone_words gone.is (gone_zeroed h (branch_of (view l) p))

-- ── settled ──
-- what is done has the words of the table that the rule settles
pub ran_settled : {l m r : List ℕ} {x : Effect} {v w : ℕ} {t : Table} → x ≡ done v w (settled t) → Is m t → r ≡ encode (settled (view m)) → Ran x l (Ok (v, w)) r
ran_settled rule was e = ran_done rule (sym (settled_is was e).encoded)
