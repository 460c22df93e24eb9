-- The words of those that a call does not touch are as they were, so the sheet that the code keeps is the one of the table after it.
use Rattle.std.proofs.Math.Path.{◌≡◌, refl, ap, sym}
use Rattle.std.proofs.Common.{subst, ◌∙◌, true≢false, inl, inr, arith}
use Rattle.std.specs.Prelude.{Bool, false, cond, ◌||◌, List, ℕ, ◌+◌, ◌*◌, ◌/◌, ◌%◌, ◌^◌, ◌<◌, eqb, get_or}
use Rattle.std.proofs.Math.Bool.{true, false≢true}
use Rattle.std.proofs.Math.Decide.{ℕ_discrete}
use borrow.Author.Tests.{eq-eqb}
use Rattle.loops.specs.Laws.Rewrite.{length_tab, tab_at, tab_is, tab_ext}
use Rattle.words.specs.Kind.{fields_in}
use Rattle.words.specs.Laws.Kind.{fields_back}
use Rattle.words.specs.Fields.{SmallCall}
use Rattle.words.specs.Laws.Fields.{masks_few, call_small}
use Rattle.words.specs.Words.{call, masks}
use Rattle.words.specs.Laws.Kinds.{masks_lawful}
use Rattle.words.specs.declared.Partition.{Partition}
use Rattle.words.specs.declared.call_word.CallFields.{CallFields}
use Rattle.words.specs.declared.masks_word.MasksFields.{MasksFields}
use Rattle.shapes.specs.declared.Board.{Board}
use Rattle.tables.specs.State.{Opt, none, some, Entry, given_to, Area, K, Table}
use Rattle.tables.specs.Update.{upd}
use Rattle.tables.specs.Laws.Update.{upd_same, upd_other, row_other}
use Rattle.tables.specs.View.{view}
use Rattle.tables.specs.Search.{is_some, is_none, present, absent, child, given_in}
use Rattle.tables.specs.Write.{with_slot, with_current}
use Rattle.tables.specs.Settle.{open_bit, open_at, settle}
use Rattle.tables.specs.Fitting.{Words}
use Rattle.tables.specs.Laws.Stays.{Stays}
use Rattle.memory.specs.Bytes.{byte_of, word_from, word_at}
use Rattle.sound.specs.Sound.{Present}
use Rattle.sound.specs.Core.{Core}
use Rattle.sound.specs.Laws.Settled.{right_settled}
use Rattle.sound.specs.Whole.{Right}
use Rattle.rules.specs.declared.Service.{Service}
use Rattle.rules.specs.Services.{code_of}
use Rattle.rules.specs.Rules.{done, create_k, remove_k, uses, serve, call_on}
use Rattle.rules.specs.Laws.Calls.{other_than}
use Rattle.rules.specs.Laws.Each.{done_each}
use Rattle.isolation.specs.Ladders.{OwnOrChild}
use Rattle.isolation.specs.Laws.Remove.{Goes}
use Rattle.isolation.proofs.Laws.Create.{CreateOk, create_done, create_number}
use Rattle.isolation.proofs.Laws.Delete.{delete_done}
use Rattle.isolation.proofs.Laws.Prepare.{prepare_done}
use Rattle.isolation.proofs.Laws.Collect.{collect_done}
use Rattle.isolation.proofs.Laws.Give.{give_done}
use Rattle.isolation.proofs.Laws.Take.{take_done}
use Rattle.isolation.proofs.Laws.Cut.{cut_done}
use Rattle.isolation.proofs.Laws.Merge.{merge_done}
use Rattle.isolation.proofs.Laws.Regions.{load_done, unload_done, read_region_same_law}
use Rattle.isolation.specs.Laws.Find.{find_same}
use Rattle.isolation.proofs.Laws.Switch.{switch_done}
use Rattle.isolation.proofs.Laws.ClearOut.{branch_goes, clear_done}
use Rattle.isolation.proofs.Laws.Pack.{pack_done}
use Rattle.isolation.proofs.Whole.{serve_right, served}
use Rattle.sheet.specs.Touched.{touched_of_caller, touched_by, touched, Named, touches, kept_pair, put_those, sheet_kept}
use Rattle.sheet.specs.declared.calls.Whose.{Whose}
use Rattle.sheet.specs.declared.calls.Whose.TheVariants.{Nobody, One, Up, Gone}
use Rattle.sheet.specs.Laws.Children.{SameChildren, heads_same, serve_children}
use Rattle.sheet.specs.Laws.Kept.{PairAlike, stays_alike, masks_same, lines_same}
use Rattle.sheet.specs.Laws.Those.{those_all, pair_size, pair_in, pair_out}
use Rattle.sheetrules.specs.Sheet.{number_of_lines, masks_of, masks_word, lines_word, sheet_word, sheet_of}
use Rattle.sheetrules.specs.Bytes.{sheet_bytes, pair_put}
use Rattle.summing.specs.Sums.{children_of, masks_with}
use Rattle.rules.specs.Changes.{above, next_in}
use Rattle.sheetrules.proofs.Laws.Words.{masks_in}
use Rattle.sheetrules.proofs.Laws.Reading.{sheet_masks_read, bytes_same}
use Rattle.isolation.specs.Laws.Above.{above_not}
use Rattle.isolation.proofs.Laws.Outside.{create_stays, prepare_stays, collect_stays, removal_stays}

-- the two words of q are as they were
abbrev SamePair : Table → Table → ℕ → Type 0
SamePair t new q = (masks_word new q ≡ masks_word t q) × (lines_word new q ≡ lines_word t q)

-- ── nobody: where all pairs are, the sheet is ──
all_same : (t new : Table) → ((q : ℕ) → SamePair t new q) → sheet_of new ≡ sheet_of t
unfolding sheet_of sheet_word
all_same t new same = tab_ext 32 _ _ (λ n _. λ x. cond (eqb (n % 2) 0) ((same (n / 2)).0 x) ((same (n / 2)).1 x))

-- ── some: the bytes of the other pairs are there ──
other_byte : (t new : Table) (k : ℕ) → k < 256 → SamePair t new (k / 16) → get_or (sheet_bytes (sheet_of t)) k 0 ≡ byte_of (sheet_of new) k
unfolding sheet_bytes
other_byte t new k h (x, y) =
    let e : 16 * (k / 16) + k % 16 ≡ k = omega arith in
    sym (rw e at (bytes_same t new (k / 16) (omega arith) x y (k % 16) (omega arith))) ∙ tab_at 256 (byte_of (sheet_of new)) k h

one_put : (t new : Table) (p : ℕ) → p < 16 → ((q : ℕ) → (q ≡ p → ⊥) → SamePair t new q) → {x y : ℕ} → x ≡ masks_word new p → y ≡ lines_word new p → pair_put (sheet_bytes (sheet_of t)) p x y ≡ sheet_bytes (sheet_of new)
unfolding sheet_bytes
one_put t new p b same {x} {y} q r =
    let s = sheet_bytes (sheet_of t) in
    let size = length_tab 256 (byte_of (sheet_of t)) in
    let put : pair_put s p x y ≡ pair_put s p (masks_word new p) (lines_word new p) = rw (q, r) refl in
    tab_is 256 (byte_of (sheet_of new)) _ (pair_size new p b s size put) (λ k h. go k h put (ℕ_discrete (k / 16) p))
  where
    go : (k : ℕ) → k < 256 → pair_put (sheet_bytes (sheet_of t)) p x y ≡ pair_put (sheet_bytes (sheet_of t)) p (masks_word new p) (lines_word new p) → Dec (k / 16 ≡ p) → get_or (pair_put (sheet_bytes (sheet_of t)) p x y) k 0 ≡ byte_of (sheet_of new) k
    go k h put (yes z) = pair_in new p b _ (length_tab 256 (byte_of (sheet_of t))) put k z
    go k h put (no z) = pair_out new p b _ (length_tab 256 (byte_of (sheet_of t))) put k z ∙ other_byte t new k h (same (k / 16) z)

-- ── two entries that say the same on the sheet ──
record Like (x y : Opt Entry) : Type 0 where
  some : is_some x ≡ is_some y
  lines : number_of_lines x ≡ number_of_lines y
  bit : (area : ℕ → ℕ → Opt Area) → open_bit area x ≡ open_bit area y

like_of : {x y : Opt Entry} → x ≡ y → Like x y
like_of e = record { some = ap is_some e; lines = ap number_of_lines e; bit = λ area. ap (open_bit area) e }

like_given : (e : Entry) (p : ℕ) {x y : Opt Entry} → x ≡ some (given_to e p) → y ≡ some e → Like x y
unfolding number_of_lines open_bit
like_given e p u v = rw (u, v) (record { some = refl; lines = refl; bit = λ area. refl })

module _ {t : Table} (h : Right t) where
  abbrev before : List ℕ
  before = sheet_bytes (sheet_of t)

  -- What is put brings the sheet up to the table: the others' pairs stay.
  record Follows (x : Whose) (new : Table) : Type 0 where
    others : (q : ℕ) → q < 16 → touches x new.k q ≡ false → SamePair t new q
    bytes : sheet_kept x new before ≡ sheet_bytes (sheet_of new)

  follows_nobody : {new : Table} → ((q : ℕ) → SamePair t new q) → Follows Nobody new
  unfolding sheet_kept
  follows_nobody {new} same = record { others = λ q _ _. same q; bytes = ap sheet_bytes (sym (all_same t new same)) }

  follows_one : {new : Table} (p : ℕ) → p < 16 → ((q : ℕ) → (q ≡ p → ⊥) → SamePair t new q) → masks_with (fields_in masks (word_at before (2 * p))).children new p ≡ masks_word new p → Follows (One (record { 0 = p })) new
  unfolding sheet_kept kept_pair touches
  follows_one {new} p b same own = record {
    others = λ q _ x. same q (λ z. false≢true (sym x ∙ eq-eqb q p z));
    bytes = one_put t new p b same own refl;
  }

  those_bytes : (new : Table) (m : ℕ → Bool) → ((q : ℕ) → q < 16 → m q ≡ false → SamePair t new q) → put_those m new before ≡ sheet_bytes (sheet_of new)
  those_bytes new m same = those_all new m before (λ n b x. other_byte t new n b (same (n / 16) (omega arith) x))

  follows_up : {new : Table} (p : Partition) → ((q : ℕ) → q < 16 → above new.k p.0 q ≡ false → SamePair t new q) → Follows (Up p) new
  unfolding sheet_kept touches
  follows_up {new} p same = record { others = same; bytes = those_bytes new (above new.k p.0) same }

  follows_gone : {new : Table} → ((q : ℕ) → q < 16 → absent new.k q || above new.k new.k.current q ≡ false → SamePair t new q) → Follows Gone new
  unfolding sheet_kept touches
  follows_gone {new} same = record { others = same; bytes = those_bytes new (λ q. absent new.k q || above new.k new.k.current q) same }

  -- ── entries of p change, and of others at most whom they are given to ──
  module _ (p : ℕ) (b : p < 16) (slot : ℕ → ℕ → Opt Entry) (region : ℕ → ℕ → Opt ℕ) (like : (q i : ℕ) → (q ≡ p → ⊥) → Like (slot q i) (t.k.slot q i)) where
    abbrev new : Table
    new = settle (with_slot t.k slot) region

    others : (q : ℕ) → (q ≡ p → ⊥) → PairAlike t new q
    unfolding settle open_at
    others q n = record {
      area = λ j. refl;
      occupied = λ i. (like q i n).some;
      held = λ i. (like q i n).lines;
      opened = λ i. (like q i n).bit t.k.area ∙ (right_settled h).bits q i;
    }

    -- its children are those that the sheet has
    own : masks_with (fields_in masks (word_at before (2 * p))).children new p ≡ masks_word new p
    unfolding settle masks_with masks_word present child
    own = go (present t.k p) refl
      where
        read : present t.k p ≡ true → (fields_in masks (word_at before (2 * p))).children ≡ children_of t.k p
        read q = ap (λ (w : ℕ). (fields_in masks w).children) (sheet_masks_read h p b ∙ rw q refl) ∙ ap (λ (f : MasksFields). f.children) (fields_back masks_lawful (masks_of t.k p) (masks_in h p))

        go : (x : Bool) → present t.k p ≡ x → masks_with (fields_in masks (word_at before (2 * p))).children new p ≡ masks_word new p
        go true q = rw (read q) refl
        go false q = rw q refl

    one_follows : Follows (One (record { 0 = p })) new
    unfolding settle
    one_follows = follows_one p b (λ q n. (masks_same (others q n) (same_heads q), lines_same (others q n))) own
      where
        same_heads : (q : ℕ) → SameChildren t.k new.k q
        same_heads = heads_same t.k new.k (λ _. refl) (λ _. refl)

  -- two slots of c
  two_slots : (c i j : ℕ) (x y : Opt Entry) (q k : ℕ) → (q ≡ c → ⊥) → Like (upd (upd t.k.slot c i x) c j y q k) (t.k.slot q k)
  two_slots c i j x y q k n = like_of (upd_other (upd t.k.slot c i x) c j y q k (λ z. n z.0) ∙ upd_other t.k.slot c i x q k (λ z. n z.0))

  -- the caller's entry is given to another, and a slot of p
  giving : (s : ℕ) (e : Entry) → t.k.slot t.k.current s ≡ some e → (g p j : ℕ) (y : Opt Entry) (q k : ℕ) → (q ≡ p → ⊥) → Like (upd (upd t.k.slot t.k.current s (some (given_to e g))) p j y q k) (t.k.slot q k)
  giving s e at g p j y q k n = go (ℕ_discrete q t.k.current) (ℕ_discrete k s)
    where
      outer : upd (upd t.k.slot t.k.current s (some (given_to e g))) p j y q k ≡ upd t.k.slot t.k.current s (some (given_to e g)) q k
      outer = upd_other (upd t.k.slot t.k.current s (some (given_to e g))) p j y q k (λ z. n z.0)

      go : Dec (q ≡ t.k.current) → Dec (k ≡ s) → Like (upd (upd t.k.slot t.k.current s (some (given_to e g))) p j y q k) (t.k.slot q k)
      go (yes u) (yes v) = like_given e g (outer ∙ upd_same t.k.slot t.k.current s (some (given_to e g)) q k (u, v)) (rw (u, v) at)
      go (yes u) (no v) = like_of (outer ∙ upd_other t.k.slot t.k.current s (some (given_to e g)) q k (λ z. v z.1))
      go (no u) v = like_of (outer ∙ upd_other t.k.slot t.k.current s (some (given_to e g)) q k (λ z. u z.0))

  -- regions are settled anew; another partition is current; nothing is otherwise
  stays_pair : {new : Table} → ((q : ℕ) → Stays t new q) → ((q : ℕ) → new.k.parent q ≡ t.k.parent q) → (q : ℕ) → SamePair t new q
  stays_pair {new} s parent q = (masks_same (stays_alike (s q)) (heads_same t.k new.k parent (λ q. (s q).area 0) q), lines_same (stays_alike (s q)))

  region_follows : (region : ℕ → ℕ → Opt ℕ) → Follows Nobody (settle t.k region)
  unfolding settle
  region_follows region = follows_nobody (stays_pair (λ p. record { area = λ j. refl; slot = λ i. refl; opened = (right_settled h).bits p }) (λ q. refl))

  current_follows : (c : ℕ) → Follows Nobody (settle (with_current t.k c) t.region)
  unfolding settle open_at
  current_follows c = follows_nobody (stays_pair (λ p. record { area = λ j. refl; slot = λ i. refl; opened = (right_settled h).bits p }) (λ q. refl))

  same_follows : {new : Table} → new ≡ t → Follows Nobody new
  same_follows z = rw z (follows_nobody (λ q. (refl, refl)))

  -- what follows a table follows an equal one
  moved : {new k : Table} (x : Whose) → new ≡ k → Follows x k → Follows x new
  moved x z e = rw z e

  module _ (b : Board) (f : CallFields) {new : Table} {v w : ℕ} (z : serve b t f ≡ done v w new) where
    abbrev right : Right new
    right = serve_right b h f z

    stayed : {q : ℕ} → Stays t new q → SamePair t new q
    stayed s = (masks_same (stays_alike s) (serve_children b h f z s), lines_same (stays_alike s))

    present_small : {k : K} → Core k → {p : ℕ} → Present k p → p < 16
    present_small g {p} (a, u) = (g.s2_range p 0 a u).0

    create_follows : {s n : ℕ} {e : Entry} → CreateOk t.k s n e → new.k ≡ create_k t.k n e → Follows (Up (record { 0 = n })) new
    create_follows ok is = follows_up _ (λ q b x. stayed (create_stays h right ok is (above_not right.core ok.number x)))

    own_small : {p : ℕ} → OwnOrChild t.k p → p < 16
    own_small (inl y) = rw y (present_small h.core h.core.s1_current)
    own_small (inr c) = present_small h.core c.present

    remove_follows : {c : ℕ} {m : ℕ → Bool} → Goes t.k c m → new.k ≡ remove_k t.k c m → Follows Gone new
    unfolding absent
    remove_follows ok is = follows_gone (λ q b x. go q x (new.k.area q 0) refl)
      where
        caller : new.k.current ≡ t.k.current
        caller = ap (λ (k : K). k.current) is

        go : (q : ℕ) → is_none (new.k.area q 0) || above new.k new.k.current q ≡ false → (o : Opt Area) → new.k.area q 0 ≡ o → SamePair t new q
        go q x none u = absurd (true≢false (rw u at x))
        go q x (some a) u =
            let far = above_not right.core (rw caller (present_small h.core h.core.s1_current)) (rw u at x) in
            stayed (removal_stays h right ok is (a, u) (rw caller at far))

    at : (n : ℕ) → f.service ≡ n → Follows (touched_by n t.k f) new → Follows (touched_by f.service t.k f) new
    at n q e = subst (λ (n : ℕ). Follows (touched_by n t.k f) new) (sym q) e

    serve_follows : Named (touched_by f.service t.k f) → Follows (touched_by f.service t.k f) new
    unfolding touched_by touched_of_caller given_in next_in settle
    serve_follows named =
        let p = f.partition.0 in
        let i = f.slot.0 in
        let u = f.other in
        let l = f.line.0 in
        let c = t.k.current in
        done_each b t f z (record {
          create = λ n x. let (e, ok, y) = create_done h i x in at 1 n (rw (create_number h i x) (create_follows ok (ap (λ (t : Table). t.k) y)));
          delete = λ n x. let (ok, y) = delete_done h p x in at 2 n (remove_follows ok (ap (λ (t : Table). t.k) y));
          prepare = λ n x. let (e, ok, y) = prepare_done h p i x in at 3 n (follows_up f.partition (λ q _ d. stayed (prepare_stays h right ok (ap (λ (t : Table). t.k) y) (above_not right.core (own_small ok.who) d))));
          collect = λ n x. let (ok, y) = collect_done h p u x in at 4 n (follows_up f.partition (λ q _ d. stayed (collect_stays h right ok (ap (λ (t : Table). t.k) y) (above_not right.core (own_small ok.who) d))));
          give = λ n x. let (e, ok, y) = give_done h p i f.rights f.whole x in at 5 n (moved (One f.partition) y (one_follows p (named.one f.partition (rw n refl)) _ _ (giving i e ok.entry.at _ p _ _)));
          take = λ n x. let (j, e, g, ok, y) = take_done h i x in at 6 n (moved (One (record { 0 = given_in (t.k.slot c i) })) y (rw ok.at (one_follows e.given (named.one (record { 0 = e.given }) (rw (n, ok.at) refl)) _ _ (giving i e ok.at _ e.given _ _))));
          cut = λ n x. let (e, ok, y) = cut_done h i l x in at 7 n (moved (One (record { 0 = c })) y (one_follows c (named.one (record { 0 = c }) (rw n refl)) _ _ (two_slots c _ _ _ _)));
          merge = λ n x. let (e, g, ok, y) = merge_done h i u x in at 8 n (moved (One (record { 0 = c })) y (one_follows c (named.one (record { 0 = c }) (rw n refl)) _ _ (two_slots c _ _ _ _)));
          load = λ n _ x. let (_, _, y) = load_done b h p i u x in at 9 n (moved Nobody y (region_follows _));
          unload = λ n _ x. let (_, _, y) = unload_done h p u x in at 9 n (moved Nobody y (region_follows _));
          read_region = λ n x. at 11 n (same_follows (read_region_same_law h p u x));
          find = λ n x. at 12 n (same_follows (find_same h p l x));
          switch = λ n x. let (_, y) = switch_done h p x in at 13 n (moved Nobody y (current_follows p));
          clear_out = λ n x. let (d, _, y) = clear_done h p x in at 14 n (remove_follows (branch_goes h.core d) (ap (λ (t : Table). t.k) y));
          pack = λ n x. let (_, _, y) = pack_done h p x in at 15 n (moved (One f.partition) y (one_follows p (named.one f.partition (rw n refl)) _ _ (λ q k m. like_of (row_other t.k.slot p _ q k m))));
        })

-- THE THEOREM, over words, of a call that is done: the words of those that it does not touch are as they were ..
module _ (b : Board) (l : List ℕ) (w : ℕ) (small : Words l) (named : Named (touched (view l).k w)) {v y : ℕ} {new : Table} (z : call_on b l w ≡ done v y new) where
  follows : Follows (served b l w small z).1 (touched (view l).k w) new
  follows = let (_, h, x) = served b l w small z in serve_follows h b (fields_in call w) x named

  pub call_touched : (q : ℕ) → q < 16 → touches (touched (view l).k w) new.k q ≡ false → (masks_word new q ≡ masks_word (view l) q) × (lines_word new q ≡ lines_word (view l) q)
  call_touched = follows.others

  -- .. so what the code puts makes the sheet of the table after it
  pub call_put : sheet_kept (touched (view l).k w) new (sheet_bytes (sheet_of (view l))) ≡ sheet_bytes (sheet_of new)
  call_put = follows.bytes

-- ── the exits of the code ──
abbrev pub number_in : Whose → ℕ
number_in Nobody = 0
number_in (One p) = p.0
number_in (Up p) = p.0
number_in Gone = 0

named_by : {x : Whose} → number_in x < 16 → Named x
named_by {x} h = record { one = λ q e. omega (arith, ap number_in e); up = λ q e. omega (arith, ap number_in e) }

-- touched: f are the fields of the word
module _ (w : ℕ) {f : CallFields} (is : f ≡ fields_in call w) where
  told_small : SmallCall f
  told_small = subst SmallCall (sym is) (call_small w)

  pub told_slot : f.slot.0 < 32
  told_slot = told_small.slot

  pub told_partition : f.partition.0 < 16
  told_partition = told_small.partition

  module _ (k : K) where
    told : {x : Whose} → x ≡ touched_by f.service k f → x ≡ touched k w
    told q = q ∙ ap (λ (f : CallFields). touched_by f.service k f) is

    -- the number is no service's
    pub told_none : uses f.service ≡ none → (Nobody ≡ touched k w) × Named Nobody
    unfolding touched_by touched_of_caller uses
    told_none q = (told (rw (no 1 refl, no 2 refl, no 3 refl, no 4 refl, no 5 refl, no 6 refl, no 7 refl, no 8 refl, no 14 refl, no 15 refl) refl), named_by (omega arith))
      where
        no : (i : ℕ) → is_some (uses i) ≡ true → eqb f.service i ≡ false
        no i = other_than f.service i q

    -- it is that of s, which is r
    pub told_at : {s : Service} (r : Service) → code_of s ≡ f.service → s ≡ r → {x : Whose} → x ≡ touched_by (code_of r) k f → number_in x < 16 → (x ≡ touched k w) × Named x
    told_at r q e z h = (told (z ∙ ap (λ (n : ℕ). touched_by n k f) (sym (ap code_of e) ∙ q)), named_by h)

-- p is so numbered
pub up_of : {p : Partition} {n : ℕ} → p.0 ≡ n → Up p ≡ Up (record { 0 = n })
up_of e = ap (λ (m : ℕ). Up (record { 0 = m })) e

pub one_of : {p : Partition} {n : ℕ} → p.0 ≡ n → One p ≡ One (record { 0 = n })
one_of e = ap (λ (m : ℕ). One (record { 0 = m })) e

-- the two words of p are put afresh
pub few_again : (w : ℕ) {f : MasksFields} → f ≡ fields_in masks w → f.children < 2 ^ 16
few_again w e = rw e (masks_few w)

pub pair_again : (t : Table) (p : ℕ) (s : List ℕ) {i x : ℕ} {f : MasksFields} {u : List ℕ} → i ≡ 16 * p → x ≡ word_from s i → f ≡ fields_in masks x → u ≡ pair_put s p (masks_with f.children t p) (lines_word t p) → u ≡ kept_pair t p s
unfolding kept_pair word_at
pair_again t p s {i} d q e z =
    let y : i ≡ 8 * (2 * p) = omega arith in
    z ∙ ap (λ (f : MasksFields). pair_put s p (masks_with f.children t p) (lines_word t p)) (e ∙ ap (fields_in masks) (q ∙ ap (word_from s) y))

-- whose words are put
module _ (t : Table) (s : List ℕ) {x : Whose} where
  pub kept_nobody : x ≡ Nobody → s ≡ sheet_kept x t s
  unfolding sheet_kept
  kept_nobody e = ap (λ (x : Whose). sheet_kept x t s) (sym e)

  pub kept_one : {p : Partition} {u : List ℕ} → x ≡ One p → u ≡ kept_pair t p.0 s → u ≡ sheet_kept x t s
  unfolding sheet_kept
  kept_one e z = z ∙ ap (λ (x : Whose). sheet_kept x t s) (sym e)

  pub kept_up : {p : Partition} {u : List ℕ} → x ≡ Up p → u ≡ put_those (above t.k p.0) t s → u ≡ sheet_kept x t s
  unfolding sheet_kept touches
  kept_up e z = z ∙ ap (λ (x : Whose). sheet_kept x t s) (sym e)

  pub kept_gone : {u : List ℕ} → x ≡ Gone → u ≡ put_those (touches Gone t.k) t s → u ≡ sheet_kept x t s
  unfolding sheet_kept
  kept_gone e z = z ∙ ap (λ (x : Whose). sheet_kept x t s) (sym e)
