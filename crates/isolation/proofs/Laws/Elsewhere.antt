-- A call that is done changes no word of a record but of those whose bit is set (`changed_by`).
use Rattle.std.specs.Prelude.{◌≡◌, Bool, true, false, List, ℕ, ◌^◌, ◌<◌}
use Rattle.std.proofs.Math.Path.{refl, ap}
use Rattle.std.proofs.Common.{sym, subst, ◌∙◌, eq-eqb}
use Rattle.std.proofs.lemmas.Bool.{false≢true}
use Rattle.std.specs.Int.Bits.{bit_or}
use Rattle.loops.specs.Loops.{rest, names}
use Rattle.loops.specs.Laws.Every.{all_at}
use Rattle.loops.specs.Laws.Mask.{names_or, names_one}
use Rattle.words.specs.Kind.{fields_in, zeroed}
use Rattle.words.specs.Words.{call}
use Rattle.words.specs.declared.call_word.CallFields.{CallFields}
use Rattle.shapes.specs.declared.Board.{Board}
use Rattle.tables.specs.State.{Opt, none, some, Entry, Table}
use Rattle.tables.specs.Update.{upd}
use Rattle.tables.specs.Laws.Update.{upd_other, row_other}
use Rattle.tables.specs.Search.{given_in}
use Rattle.tables.specs.View.{record_word, view}
use Rattle.tables.specs.Encode.{part_word, encode}
use Rattle.tables.specs.Laws.Encode.{part_ext}
use Rattle.tables.specs.Laws.Spelling.{encode_record, canon_record}
use Rattle.tables.specs.Write.{with_slot, with_current}
use Rattle.tables.specs.Settle.{open_bit, open_at, keep, settle}
use Rattle.tables.specs.Fitting.{Words}
use Rattle.sound.specs.Laws.Settled.{settled_same, right_settled}
use Rattle.sound.specs.Whole.{Right}
use Rattle.sound.specs.Clauses.{sound}
use Rattle.rules.specs.Rules.{done, serve, call_on}
use Rattle.rules.specs.Laws.Ran.{check_done}
use Rattle.rules.specs.Laws.Calls.{call_as, changed_as}
use Rattle.rules.specs.Changes.{changed_by, changed_after}
use Rattle.rules.specs.Laws.Each.{done_each}
use Rattle.isolation.proofs.Laws.Give.{give_done}
use Rattle.isolation.proofs.Laws.Take.{take_done}
use Rattle.isolation.proofs.Laws.Cut.{cut_done}
use Rattle.isolation.proofs.Laws.Merge.{merge_done}
use Rattle.isolation.proofs.Laws.Regions.{load_done, unload_done, read_region_same_law}
use Rattle.isolation.specs.Laws.Find.{find_same}
use Rattle.isolation.proofs.Laws.Switch.{switch_done}
use Rattle.isolation.proofs.Laws.Pack.{pack_done}
use Rattle.isolation.proofs.Whole.{served}
use Rattle.words.specs.declared.Refusal.TheVariants.{NotSound, BadWord}

-- the words of the record of q are as they were
abbrev SameWords : Table → Table → ℕ → Type 0
SameWords t new q = (o : ℕ) → part_word new q o ≡ part_word t q o

-- ── whose bit is not set ──
one_not : (c q : ℕ) → names (2 ^ c) q ≡ false → q ≡ c → ⊥
one_not c q x z = false≢true (sym x ∙ names_one c q ∙ eq-eqb q c z)

two_not : (c p q : ℕ) → names (bit_or (2 ^ c) (2 ^ p)) q ≡ false → (q ≡ c → ⊥) × (q ≡ p → ⊥)
two_not c p q x = go (names (2 ^ c) q) (names (2 ^ p) q) refl refl
  where
    go : (a b : Bool) → names (2 ^ c) q ≡ a → names (2 ^ p) q ≡ b → (q ≡ c → ⊥) × (q ≡ p → ⊥)
    go false false y z = (one_not c q y, one_not p q z)
    go false true y z = absurd (false≢true (sym x ∙ names_or (2 ^ c) (2 ^ p) q ∙ rw (y, z) refl))
    go true b y z = absurd (false≢true (sym x ∙ names_or (2 ^ c) (2 ^ p) q ∙ rw y refl))

all_set : (q : ℕ) → q < 16 → names 0xffff q ≡ true
unfolding names rest
all_set = all_at 16 (names 0xffff) refl

module _ {t : Table} (h : Right t) (q : ℕ) where
  -- ── what changes, and nothing of q ──
  slots_else : (slot : ℕ → ℕ → Opt Entry) (region : ℕ → ℕ → Opt ℕ) → ((i : ℕ) → slot q i ≡ t.k.slot q i) → ((r : ℕ) → region q r ≡ t.region q r) → SameWords t (settle (with_slot t.k slot) region) q
  unfolding settle open_at
  slots_else slot region s r o =
      part_ext t (settle (with_slot t.k slot) region) q o refl (λ j. refl)
      ((λ x n. keep (λ i. open_bit t.k.area (s i x)) (r n x)) ∙ ap (λ (t : Table). t.region q) (settled_same (right_settled h)))
      s
      (λ i. ap (open_bit t.k.area) (s i) ∙ (right_settled h).bits q i)

  current_else : (c : ℕ) → SameWords t (settle (with_current t.k c) t.region) q
  unfolding settle open_at
  current_else c o =
      part_ext t (settle (with_current t.k c) t.region) q o refl (λ j. refl)
      (ap (λ (t : Table). t.region q) (settled_same (right_settled h)))
      (λ i. refl)
      ((right_settled h).bits q)

  -- slot i of c, slot j of p, and regions of others than q
  two_else : (c i p j : ℕ) (x y : Opt Entry) (region : ℕ → ℕ → Opt ℕ) → (q ≡ c → ⊥) → (q ≡ p → ⊥) → ((r : ℕ) → region q r ≡ t.region q r) → SameWords t (settle (with_slot t.k (upd (upd t.k.slot c i x) p j y)) region) q
  two_else c i p j x y region a b r = slots_else _ region (λ k. upd_other (upd t.k.slot c i x) p j y q k (λ z. b z.0) ∙ upd_other t.k.slot c i x q k (λ z. a z.0)) r

  region_else : (region : ℕ → ℕ → Opt ℕ) → ((r : ℕ) → region q r ≡ t.region q r) → SameWords t (settle t.k region) q
  region_else region r = slots_else t.k.slot region (λ i. refl) r

  -- ── the services ──
  module _ (b : Board) (f : CallFields) {v w : ℕ} {new : Table} (z : serve b t f ≡ done v w new) (small : q < 16) where
    at : (n : ℕ) → f.service ≡ n → (names (changed_by n t.k f) q ≡ false → SameWords t new q) → names (changed_by f.service t.k f) q ≡ false → SameWords t new q
    at n e g x = g (subst (λ (m : ℕ). names (changed_by m t.k f) q ≡ false) e x)

    everybody : names 0xffff q ≡ false → SameWords t new q
    everybody x = absurd (false≢true (sym x ∙ all_set q small))

    is : {k : Table} → new ≡ k → SameWords t k q → SameWords t new q
    is y s = rw y s

    serve_else : names (changed_by f.service t.k f) q ≡ false → SameWords t new q
    unfolding changed_by given_in
    serve_else =
        let p = f.partition.0 in
        let i = f.slot.0 in
        let u = f.other in
        let l = f.line.0 in
        let c = t.k.current in
        done_each b t f z (record {
          create = λ n _. at 1 n everybody;
          delete = λ n _. at 2 n everybody;
          prepare = λ n _. at 3 n everybody;
          collect = λ n _. at 4 n everybody;
          give = λ n x. at 5 n (λ d. let (_, _, y) = give_done h p i f.rights f.whole x in let (a, o) = two_not c p q d in is y (two_else c i p _ _ _ _ a o (λ r. refl)));
          take = λ n x. at 6 n (λ d. let (_, e, _, ok, y) = take_done h i x in let (a, o) = two_not c e.given q (rw ok.at at d) in is y (two_else c i e.given _ _ _ _ a o (λ r. refl)));
          cut = λ n x. at 7 n (λ d. let (_, _, y) = cut_done h i l x in let a = one_not c q d in is y (two_else c i c _ _ _ _ a a (λ r. row_other t.region c _ q r a)));
          merge = λ n x. at 8 n (λ d. let (_, _, _, y) = merge_done h i u x in let a = one_not c q d in is y (two_else c i c _ _ _ _ a a (λ r. row_other t.region c _ q r a)));
          load = λ n _ x. at 9 n (λ d. let (_, _, y) = load_done b h p i u x in is y (region_else _ (λ r. upd_other t.region p u (some i) q r (λ m. one_not p q d m.0))));
          unload = λ n _ x. at 9 n (λ d. let (_, _, y) = unload_done h p u x in is y (region_else _ (λ r. upd_other t.region p u none q r (λ m. one_not p q d m.0))));
          read_region = λ n x. at 11 n (λ _. is (read_region_same_law h p u x) (λ o. refl));
          find = λ n x. at 12 n (λ _. is (find_same h p l x) (λ o. refl));
          switch = λ n x. at 13 n (λ _. let (_, y) = switch_done h p x in is y (current_else p));
          clear_out = λ n _. at 14 n everybody;
          pack = λ n x. at 15 n (λ d. let (_, _, y) = pack_done h p x in let a = one_not p q d in is y (slots_else _ _ (λ i. row_other t.k.slot p _ q i a) (λ r. row_other t.region p _ q r a)));
        })

-- THE THEOREM, over words, of a call that is done
module _ (b : Board) (l : List ℕ) (w : ℕ) (small : Words l) {v y : ℕ} {new : Table} (z : call_on b l w ≡ done v y new) where
  -- the table is sound, and the word in order
  told : changed_after b l w ≡ changed_by (fields_in call w).service (view l).k (fields_in call w)
  told =
      let (s, x) = check_done NotSound (sound b l) (sym (call_as b l w) ∙ z) in
      let (c, _) = check_done BadWord (zeroed call w) x in
      changed_as b l w ∙ rw (s, c) refl

  pub call_elsewhere : (q : ℕ) → q < 16 → names (changed_after b l w) q ≡ false → (o : ℕ) → o < 40 → record_word (encode new) q o ≡ record_word l q o
  call_elsewhere q a d o e =
      let (canon, h, x) = served b l w small z in
      encode_record new q o a e
      ∙ serve_else h q b (fields_in call w) x a (sym (ap (λ (m : ℕ). names m q) told) ∙ d) o
      ∙ sym (canon_record canon q o a e)
