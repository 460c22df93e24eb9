-- Every service keeps the limit of pieces: it drops regions, or leaves the range of what is loaded as it was; load asks for the limit.
use Rattle.std.specs.Prelude.{◌≡◌, refl, Bool, cond, not, ◌&&◌, ◌||◌, List, ℕ, ◌≤◌, eqb, leb, ltb}
use Rattle.std.proofs.Common.{ap, sym, ◌∙◌, true≢false, eq-eqb, le-leb}
use Rattle.std.proofs.Math.Bool.{true, false}
use Rattle.std.proofs.Math.Decide.{ℕ_discrete}
use native.Mathlib.Omega.{arith}
use Rattle.words.specs.declared.Rights.{Rights}
use Rattle.shapes.specs.declared.Board.{Board}
use Rattle.shapes.specs.declared.Board.TheVariants.{V8}
use Rattle.tables.specs.State.{Opt, none, some, Entry, K, Table, given_to}
use Rattle.tables.specs.Laws.State.{not_none}
use Rattle.tables.specs.Update.{both?, upd, upd1}
use Rattle.tables.specs.Laws.Update.{row_same, row_other, upd_same, upd_other, upd_none}
use Rattle.tables.specs.Write.{put_region}
use Rattle.tables.specs.Settle.{open_at, keep, settle}
use Rattle.tables.specs.Laws.Kept.{keep_some}
use Rattle.loops.specs.Laws.Count.{sum_fewer}
use Rattle.sound.specs.Limit.{entry_pieces, region_pieces, loaded_pieces}
use Rattle.sound.specs.Laws.Limit.{pieces_from, few_from, none_loaded, plain_few}
use Rattle.sound.specs.Laws.Tests.{or_left}
use Rattle.sound.specs.Whole.{Right, Few}
use Rattle.rules.specs.Rules.{Effect, done, refused, check, need, own_or_child, elsewhere, ungive, remove_k, remove, create, delete, prepare, collect, give, take, cut, merge, load, unload, switch, branch, clear_out, pack, boot_on}
use Rattle.rules.specs.Laws.Unloaded.{unloaded_was}
use Rattle.rules.specs.Laws.Removed.{records_was}
use Rattle.isolation.specs.Laws.Two.{two}
use Rattle.isolation.specs.Ladder.{Ends}
use Rattle.isolation.specs.Laws.Ladder.{not_done, ends}
use Rattle.isolation.proofs.Laws.Create.{create_done}
use Rattle.isolation.proofs.Laws.Delete.{delete_done}
use Rattle.isolation.proofs.Laws.Prepare.{prepare_done}
use Rattle.isolation.proofs.Laws.Collect.{collect_done}
use Rattle.isolation.proofs.Laws.Give.{give_done}
use Rattle.isolation.proofs.Laws.Take.{take_done}
use Rattle.isolation.proofs.Laws.Cut.{cut_done}
use Rattle.isolation.proofs.Laws.Merge.{merge_done}
use Rattle.isolation.proofs.Laws.Regions.{load_done, unload_done}
use Rattle.isolation.proofs.Laws.Switch.{switch_done}
use Rattle.isolation.proofs.Laws.ClearOut.{clear_done}
use Rattle.isolation.specs.Pack.{Packed}
use Rattle.isolation.proofs.Laws.Packed.{pack_leaves}
use Rattle.isolation.proofs.Laws.Boot.{boot_exact}
use Rattle.words.specs.Refusals.{number_of}
use Rattle.words.specs.declared.Refusal.{Refusal}
use Rattle.words.specs.declared.Refusal.TheVariants.{NoEntry, NotOpen, WrongRegion, ManyPieces}

module _ (b : Board) where
  -- ── what a slot holds needs no more pieces ──
  -- two slots written
  two_pieces : (f : ℕ → ℕ → Opt Entry) (c s : ℕ) (x : Opt Entry) (q n : ℕ) (y : Opt Entry) (p i : ℕ)
      → (p ≡ c → i ≡ s → entry_pieces b x ≤ entry_pieces b (f p i)) → (p ≡ q → i ≡ n → entry_pieces b y ≤ entry_pieces b (f p i))
      → entry_pieces b (two f c s x q n y p i) ≤ entry_pieces b (f p i)
  two_pieces f c s x q n y p i first second = go (both? q n p i) (both? c s p i)
    where
      go : Dec ((p ≡ q) × (i ≡ n)) → Dec ((p ≡ c) × (i ≡ s)) → entry_pieces b (two f c s x q n y p i) ≤ entry_pieces b (f p i)
      go (yes z) _ = rw (upd_same (upd f c s x) q n y p i z) (second z.0 z.1)
      go (no w) (yes z) = rw (upd_other (upd f c s x) q n y p i w, upd_same f c s x p i z) (first z.0 z.1)
      go (no w) (no z) = rw (upd_other (upd f c s x) q n y p i w, upd_other f c s x p i z) (omega arith)

  none_needs : (x : Opt Entry) → entry_pieces b none ≤ entry_pieces b x
  unfolding entry_pieces
  none_needs x = omega arith

  -- given to another
  given_needs : (f : ℕ → ℕ → Opt Entry) {c s p i : ℕ} {e : Entry} (q : ℕ) → f c s ≡ some e → p ≡ c → i ≡ s → entry_pieces b (some (given_to e q)) ≤ entry_pieces b (f p i)
  unfolding entry_pieces
  given_needs f q u z y = rw (z, y, u) (omega arith)

  -- records zeroed
  ungive_needs : (c : ℕ) (x : Opt Entry) → entry_pieces b (ungive c x) ≤ entry_pieces b x
  unfolding entry_pieces ungive
  ungive_needs c none = omega arith
  ungive_needs c (some e) = go (eqb e.given c)
    where
      go : (y : Bool) → entry_pieces b (some (cond y (given_to e 0) e)) ≤ entry_pieces b (some e)
      go true = omega arith
      go false = omega arith

  remove_needs : (k : K) (c : ℕ) (m : ℕ → Bool) (p i : ℕ) → entry_pieces b ((remove_k k c m).slot p i) ≤ entry_pieces b (k.slot p i)
  remove_needs k c m p i = go (m p) (ℕ_discrete p k.current)
    where
      half : ℕ → ℕ → Opt Entry
      half = upd1 k.slot k.current (λ j. ungive c (k.slot k.current j))

      go : (y : Bool) → Dec (p ≡ k.current) → entry_pieces b (cond y (λ j. none) (half p) i) ≤ entry_pieces b (k.slot p i)
      go true d = none_needs (k.slot p i)
      go false (yes z) = rw (row_same k.slot k.current (λ j. ungive c (k.slot k.current j)) p i z, z) (ungive_needs c (k.slot k.current i))
      go false (no z) = rw (row_other k.slot k.current (λ j. ungive c (k.slot k.current j)) p i z) (omega arith)

  -- ── settle drops regions only ──
  settle_few : {t : Table} (k : K) (region : ℕ → ℕ → Opt ℕ) → Few b t
      → ((p r i : ℕ) → region p r ≡ some i → (t.region p r ≡ some i) × (entry_pieces b (k.slot p i) ≤ entry_pieces b (t.k.slot p i)))
      → Few b (settle k region)
  unfolding settle
  settle_few k region few h = few_from b (settle k region) few (λ p r i u. h p r i (keep_some (open_at k p) (region p r) i u).0)

  -- ── each service ──
  module _ {t : Table} (h : Right t) (few : Few b t) where
    -- slots and regions stay
    stays_few : (k : K) → ((p i : ℕ) → k.slot p i ≡ t.k.slot p i) → Few b (settle k t.region)
    stays_few k same = settle_few k t.region few (λ p r i u. (u, rw (same p i) (omega arith)))

    pub create_few : (s : ℕ) {v w : ℕ} {t' : Table} → create t s ≡ done v w t' → Few b t'
    create_few s x = let (_, _, z) = create_done h s x in rw z (stays_few _ (λ p i. refl))

    pub prepare_few : (p s : ℕ) {v w : ℕ} {t' : Table} → prepare t p s ≡ done v w t' → Few b t'
    prepare_few p s x = let (_, _, z) = prepare_done h p s x in rw z (stays_few _ (λ p i. refl))

    pub collect_few : (p j : ℕ) {v w : ℕ} {t' : Table} → collect t p j ≡ done v w t' → Few b t'
    collect_few p j x = let (_, z) = collect_done h p j x in rw z (stays_few _ (λ p i. refl))

    pub switch_few : (p : ℕ) {v w : ℕ} {t' : Table} → switch t p ≡ done v w t' → Few b t'
    switch_few p x = let (_, z) = switch_done h p x in rw z (stays_few _ (λ p i. refl))

    remove_few : (c : ℕ) (m : ℕ → Bool) → Few b (remove t c m)
    remove_few c m = settle_few (remove_k t.k c m) _ few (λ p r i u. ((records_was m t.region p r u).0, remove_needs t.k c m p i))

    pub delete_few : (p : ℕ) {v w : ℕ} {t' : Table} → delete t p ≡ done v w t' → Few b t'
    delete_few p x = let (_, z) = delete_done h p x in rw z (remove_few p (λ q. eqb q p))

    pub clear_few : (p : ℕ) {v w : ℕ} {t' : Table} → clear_out t p ≡ done v w t' → Few b t'
    clear_few p x = let (_, _, z) = clear_done h p x in rw z (remove_few p (branch t.k.parent p))

    -- a slot that was free is in no region
    unnamed : {A : Type 0} {p r i q n : ℕ} → t.region p r ≡ some i → t.k.slot q n ≡ none → p ≡ q → i ≡ n → A
    unnamed {p = p} {r} {i} {q} {n} u free z y = let ((e, v), _) = (h.s10 p).names r i u in not_none (t.k.slot p i) (rw (z, y) free) v

    pub give_few : (c s : ℕ) (r : Rights) (mark : Bool) {v w : ℕ} {t' : Table} → give t c s r mark ≡ done v w t' → Few b t'
    give_few c s r mark x =
        let (e, ok, z) = give_done h c s r mark x in
        rw z (settle_few _ t.region few (λ p m i u. (u, two_pieces t.k.slot t.k.current s _ c _ _ p i (given_needs t.k.slot c ok.entry.at) (unnamed u ok.slot.empty))))

    pub take_few : (s : ℕ) {v w : ℕ} {t' : Table} → take t s ≡ done v w t' → Few b t'
    take_few s x =
        let (j, e, f, ok, z) = take_done h s x in
        rw z (settle_few _ t.region few (λ p m i u. (u, two_pieces t.k.slot t.k.current s _ e.given j none p i (given_needs t.k.slot 0 ok.at) (λ _ _. none_needs (t.k.slot p i)))))

    -- slot s of the caller is unloaded
    named_not : {A : Type 0} {p i s : ℕ} {x : Bool} → (p ≡ t.k.current → x ≡ false) → (i ≡ s → x ≡ true) → p ≡ t.k.current → i ≡ s → A
    named_not off on z y = absurd (true≢false (sym (on y) ∙ off z))

    pub cut_few : (s l : ℕ) {v w : ℕ} {t' : Table} → cut t s l ≡ done v w t' → Few b t'
    cut_few s l x =
        let (e, ok, z) = cut_done h s l x in
        rw z (settle_few _ _ few (λ p m i u.
        let (was, off) = unloaded_was t.region t.k.current (λ j. eqb j s) p m i u in
        (was, two_pieces t.k.slot t.k.current s _ t.k.current _ _ p i (named_not off (eq-eqb i s)) (unnamed was ok.slot.empty))))

    pub merge_few : (s o : ℕ) {v w : ℕ} {t' : Table} → merge t s o ≡ done v w t' → Few b t'
    merge_few s o x =
        let (e, f, ok, z) = merge_done h s o x in
        rw z (settle_few _ _ few (λ p m i u.
        let (was, off) = unloaded_was t.region t.k.current (λ j. eqb j s || eqb j o) p m i u in
        (was, two_pieces t.k.slot t.k.current s _ t.k.current o none p i (named_not off (λ y. or_left (eqb i s) (eqb i o) (eq-eqb i s y))) (λ _ _. none_needs (t.k.slot p i)))))

    -- load asks for it; in other partitions nothing changes
    pub load_few : (p s r : ℕ) {v w : ℕ} {t' : Table} → load b t p s r ≡ done v w t' → Few b t'
    load_few p s r x =
        let (e, ok, z) = load_done b h p s r x in
        rw z (settle_few t.k _ (loaded_few ok.few) (λ q m i u. (u, omega arith)))
      where
        new : ℕ → ℕ → Opt ℕ
        new = upd t.region p r (some s)

        loaded_few : loaded_pieces b t.k.slot new p ≤ 8 → Few b (put_region t p r (some s))
        loaded_few most = record { at = λ q. go q (ℕ_discrete q p) }
          where
            go : (q : ℕ) → Dec (q ≡ p) → loaded_pieces b t.k.slot new q ≤ 8
            go q (yes z) = rw z most
            go q (no z) =
                let same = pieces_from b t.k.slot t.k.slot new t.region q (λ m i u. (sym (upd_other t.region p r (some s) q m (λ w. z w.0)) ∙ u, omega arith)) in
                omega (arith, same, few.at q)

    pub unload_few : (p r : ℕ) {v w : ℕ} {t' : Table} → unload t p r ≡ done v w t' → Few b t'
    unload_few p r x =
        let (_, _, z) = unload_done h p r x in
        rw z (settle_few t.k _ few (λ q m i u. (upd_none t.region p r q m u, omega arith)))

    -- regions follow their entries: what each names needs the same pieces
    pub pack_few : (p : ℕ) {v w : ℕ} {t' : Table} → pack t p ≡ done v w t' → Few b t'
    unfolding loaded_pieces region_pieces
    pack_few p {t' = t'} x = record { at = λ q. omega (arith, few.at q, sum_fewer 8 (λ r. region_pieces b (t'.k.slot q) (t'.region q r)) (λ r. region_pieces b (t.k.slot q) (t.region q r)) (λ r _. go q r (ℕ_discrete q p))) }
      where
        s : Packed t t' p
        s = pack_leaves h p x

        follows : (r : ℕ) (y : Opt ℕ) → t.region p r ≡ y → region_pieces b (t'.k.slot p) (t'.region p r) ≤ region_pieces b (t.k.slot p) y
        follows r none u = rw (s.unloaded r u) (omega arith)
        follows r (some i) u =
            let ((e, at), _) = (h.s10 p).names r i u in
            let (j, named, there) = s.follow r i e u at in
            rw (named, there, at) (omega arith)

        same : (q r : ℕ) → (q ≡ p → ⊥) → (y : Opt ℕ) → t.region q r ≡ y → region_pieces b (t'.k.slot q) y ≤ region_pieces b (t.k.slot q) y
        same q r n none u = omega arith
        same q r n (some i) u = rw (s.slots q i n) (omega arith)

        go : (q r : ℕ) → Dec (q ≡ p) → region_pieces b (t'.k.slot q) (t'.region q r) ≤ region_pieces b (t.k.slot q) (t.region q r)
        go q r (yes z) = rw z (follows r (t.region p r) refl)
        go q r (no n) = rw (s.regions q r n) (same q r n (t.region q r) refl)

  -- boot loads nothing
  pub boot_few : (l : List ℕ) (base end : ℕ) {v w : ℕ} {t' : Table} → boot_on l base end ≡ done v w t' → Few b t'
  unfolding Ends settle keep
  boot_few l base end = ends (λ _ _. Few b) (boot_exact l base end) (λ _ _. record { at = λ p. none_loaded b _ _ p (λ r _. refl) })

-- ── ARMv8-M ──
-- another refusal, or what follows
check_other : {why told : Refusal} (b : Bool) {x : Effect} → (why ≡ told → ⊥) → check why b x ≡ refused told → x ≡ refused told
unfolding check
check_other true h q = q
check_other {why} {told} false h q = absurd (h (let z : why ≡ told = cc in z))

apart : {why : Refusal} → (number_of why ≡ 19 → ⊥) → why ≡ ManyPieces → ⊥
apart n z = n (ap number_of z)

-- 19 is never given
pub never_19 : (t : Table) (p s r : ℕ) → load V8 t p s r ≡ refused ManyPieces → ⊥
unfolding load check need
never_19 t p s r q = go (t.k.slot p s) (check_other (own_or_child t.k p) (apart (λ z. omega arith)) q)
  where
    most : leb (loaded_pieces V8 t.k.slot (upd t.region p r (some s)) p) 8 ≡ true
    most = le-leb _ 8 (plain_few t.k.slot (upd t.region p r (some s)) p)

    from_19 : check ManyPieces (leb (loaded_pieces V8 t.k.slot (upd t.region p r (some s)) p) 8) (done 0 0 (settle t.k (upd t.region p r (some s)))) ≡ refused ManyPieces → ⊥
    from_19 q = not_done (sym (rw most at q))

    rest : Effect
    rest = check NotOpen (t.opened p s) (check WrongRegion (ltb r 8 && not (elsewhere t p s r))
        (check ManyPieces (leb (loaded_pieces V8 t.k.slot (upd t.region p r (some s)) p) 8) (done 0 0 (settle t.k (upd t.region p r (some s))))))

    go : (x : Opt Entry) → need NoEntry x (λ e. rest) ≡ refused ManyPieces → ⊥
    go none q = let z : ◌≡◌ {A = ℕ} 4 19 = cc in omega (arith, z)
    go (some e) q = from_19 (check_other (ltb r 8 && not (elsewhere t p s r)) (apart (λ z. omega arith)) (check_other (t.opened p s) (apart (λ z. omega arith)) q))
