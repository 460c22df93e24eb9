-- Delete, exit by exit: what was given to p is struck slot by slot; done, the words are those of the rule.
use Rattle.std.specs.Prelude.{◌≡◌, true, false, List, ℕ, ◌+◌, ◌≤◌, ◌<◌, eqb, Ok, Err}
use Rattle.std.proofs.Math.Path.{refl, subst}
use Rattle.std.proofs.Common.{ap, sym, ◌∙◌, arith}
use Rattle.std.proofs.Math.Bool.{not}
use borrow.Author.Tests.{eq-eqb, ne_eqb}
use Rattle.words.specs.declared.slot_word.SlotFields.{SlotFields}
use Rattle.tables.specs.State.{Opt, none, some, Entry, Table, given_to}
use Rattle.tables.specs.Laws.State.{never_some}
use Rattle.tables.specs.Update.{upd, upd1}
use Rattle.tables.specs.Laws.Update.{row_same, upd1_keep, upd_keep}
use Rattle.settling.specs.UpTo.{up_to}
use Rattle.settling.specs.Laws.UpTo.{up_above, up_start, up_more, up_end, upd_row_put}
use Rattle.tables.specs.View.{view, entry_of}
use Rattle.tables.specs.Encode.{Canon, Is, encode}
use Rattle.tables.specs.Laws.Encode.{canon_is}
use Rattle.tables.specs.Laws.Back.{Fit}
use Rattle.tables.specs.Seen.{Seen}
use Rattle.tables.specs.Laws.Seen.{entry_none, entry_there}
use Rattle.tables.specs.Write.{with_slot, put_slot, clear_record}
use Rattle.writing.specs.Laws.Stored.{is_then}
use Rattle.tables.specs.Search.{child, has_child}
use Rattle.tables.specs.Settle.{settled}
use Rattle.rules.specs.Rules.{done, ungive, delete}
use Rattle.services.specs.Zeroed.{zero_records}
use Rattle.services.specs.Laws.Zeroed.{zero_one}
use Rattle.rules.specs.Ran.{Ran}
use Rattle.rules.specs.Laws.Ran.{ran_refused, pass, fail, ran_done}
use Rattle.blocks.specs.Laws.GiveExits.{child_now}
use Rattle.services.specs.DeleteExits.{ungive_at, ungiven}
use Rattle.settling.specs.Laws.Settled.{settled_is}
use Rattle.words.specs.declared.Refusal.TheVariants.{WrongPartition, InUse}

-- ── one slot ──
-- the words stay where the entry does
slot_same : {l : List ℕ} (c p i : ℕ) → Canon l → (view l).k.slot c i ≡ ungive p ((view l).k.slot c i) → Is l (ungive_at (view l) c p i)
slot_same {l} c p i h e = subst (Is l) same (canon_is h)
  where
    same : view l ≡ ungive_at (view l) c p i
    same = λ x. record {
      k = with_slot (view l).k ((sym (upd_keep (view l).k.slot c i) ∙ ap (upd (view l).k.slot c i) e) x);
      opened = sym (upd_keep (view l).opened c i) x;
      region = (view l).region;
    }

module _ {l : List ℕ} {c i : ℕ} {f : SlotFields} (v : Seen l c i f) (p : ℕ) where
  pub ungive_empty : Canon l → f.present ≡ false → Is l (ungive_at (view l) c p i)
  unfolding ungive
  ungive_empty h q = slot_same c p i h (rw (entry_none v q) refl)

  pub ungive_others : Canon l → f.present ≡ true → (f.given.0 ≡ p → ⊥) → Is l (ungive_at (view l) c p i)
  unfolding ungive
  ungive_others h q z = slot_same c p i h (rw (entry_there v q, ne_eqb f.given.0 p z) refl)

  pub ungive_done : {m : List ℕ} → f.present ≡ true → f.given.0 ≡ p → Is m (put_slot (view l) c i (some (given_to (entry_of f) 0)) f.opened) → Is m (ungive_at (view l) c p i)
  unfolding ungive
  ungive_done {m} q z put = rw v.opened (subst (λ (e : Opt Entry). Is m (put_slot (view l) c i e f.opened)) same put)
    where
      same : some (given_to (entry_of f) 0) ≡ ungive p ((view l).k.slot c i)
      same = rw (entry_there v q, eq-eqb f.given.0 p z) refl

-- ── the slots of c ──
-- .. the first n of them
abbrev pub ungiven_to : Table → ℕ → ℕ → ℕ → Table
ungiven_to t c p n = record { k = with_slot t.k (upd1 t.k.slot c (up_to n (λ i. ungive p (t.k.slot c i)) (t.k.slot c))); opened = t.opened; region = t.region }

-- at n, the words are those of this table
pub record Ungiving (t : Table) (c p n : ℕ) (l : List ℕ) : Type 0 where
  pub within : n ≤ 32
  pub is : Is l (ungiven_to t c p n)

pub ungive_start : {l : List ℕ} {c p : ℕ} → Canon l → Ungiving (view l) c p 0 l
ungive_start {l} {c} {p} h = record { within = omega arith; is = subst (Is l) (sym none_yet) (canon_is h) }
  where
    none_yet : ungiven_to (view l) c p 0 ≡ view l
    none_yet = λ x. record {
      k = with_slot (view l).k ((ap (upd1 (view l).k.slot c) (up_start (λ i. ungive p ((view l).k.slot c i)) ((view l).k.slot c)) ∙ upd1_keep (view l).k.slot c) x);
      opened = (view l).opened;
      region = (view l).region;
    }

module _ {t : Table} {c p n : ℕ} {l : List ℕ} (inv : Ungiving t c p n l) where
  pub ungive_more : {m : List ℕ} → n < 32 → Is m (ungive_at (view l) c p n) → Ungiving t c p (n + 1) m
  ungive_more {m} b h = record { within = omega arith; is = subst (Is m) (ap (λ (x : Table). ungive_at x c p n) inv.is.viewed ∙ next) h }
    where
      new : ℕ → Opt Entry
      new i = ungive p (t.k.slot c i)

      row : ℕ → Opt Entry
      row = up_to n new (t.k.slot c)

      old : upd1 t.k.slot c row c n ≡ t.k.slot c n
      old = row_same t.k.slot c row c n refl ∙ up_above n new (t.k.slot c) n (omega arith)

      slots : upd (upd1 t.k.slot c row) c n (ungive p (upd1 t.k.slot c row c n)) ≡ upd1 t.k.slot c (up_to (n + 1) new (t.k.slot c))
      slots =
          ap (λ (e : Opt Entry). upd (upd1 t.k.slot c row) c n (ungive p e)) old
          ∙ upd_row_put t.k.slot c row n (new n)
          ∙ ap (upd1 t.k.slot c) (up_more n new (t.k.slot c))

      next : ungive_at (ungiven_to t c p n) c p n ≡ ungiven_to t c p (n + 1)
      next = λ x. record { k = with_slot t.k (slots x); opened = upd_keep t.opened c n x; region = t.region }

  pub ungive_end : Fit t → 32 ≤ n → Is l (ungiven t c p)
  unfolding ungive
  ungive_end h b =
      let z : n ≡ 32 = omega (arith, inv.within) in
      subst (Is l) (ap (λ (j : ℕ). ungiven_to t c p j) z ∙ all_done) inv.is
    where
      out : (i : ℕ) → 32 ≤ i → t.k.slot c i ≡ none
      out i o = never_some (t.k.slot c i) (λ e u. let b = (h.slot c i e u).1 in omega arith)

      all_done : ungiven_to t c p 32 ≡ ungiven t c p
      all_done = λ x. record {
        k = with_slot t.k (upd1 t.k.slot c (up_end 32 (λ i. ungive p (t.k.slot c i)) (t.k.slot c) (λ i o. rw (out i o) refl) x));
        opened = t.opened;
        region = t.region;
      }

-- ── delete ──
module _ {l : List ℕ} {c : ℕ} (p : ℕ) (now : (view l).k.current ≡ c) (is : child (view l).k c p ≡ true) where
  pub delete_parent : has_child (view l).k p ≡ true → Ran (delete (view l) p) l (Err InUse) l
  unfolding delete
  delete_parent q = ran_refused (pass WrongPartition (child_now _ _ now is) (fail InUse _ (ap not q)))

module _ (l : List ℕ) {c : ℕ} (p : ℕ) (now : (view l).k.current ≡ c) (is : child (view l).k c p ≡ true) where
  pub delete_is : has_child (view l).k p ≡ false → delete (view l) p ≡ done 0 0 (settled (zero_records (ungiven (view l) (view l).k.current p) (λ q. eqb q p)))
  unfolding delete
  delete_is q = pass WrongPartition (child_now _ _ now is) (pass InUse (ap not q) refl)

-- what the caller gave to p is given to nobody, and the record of p is zero
pub deleted : (l : List ℕ) {m o : List ℕ} {c : ℕ} (p : ℕ) → (view l).k.current ≡ c → Is m (ungiven (view l) c p) → Is o (clear_record (view m) p)
    → Is o (zero_records (ungiven (view l) (view l).k.current p) (λ q. eqb q p))
deleted l {m} {o} p now was clear =
    is_then (λ (t : Table). zero_records t (λ q. eqb q p))
    (subst (λ (c : ℕ). Is m (ungiven (view l) c p)) (sym now) was) (subst (Is o) (zero_one (view m) p) clear)

module _ {l : List ℕ} {c : ℕ} (p : ℕ) (now : (view l).k.current ≡ c) (is : child (view l).k c p ≡ true) where
  pub delete_exit_done : {m o r : List ℕ} → has_child (view l).k p ≡ false → Is m (ungiven (view l) c p) → Is o (clear_record (view m) p) → r ≡ encode (settled (view o))
      → Ran (delete (view l) p) l (Ok (0, 0)) r
  unfolding delete
  delete_exit_done {m} {o} q was clear e =
      let put : Is m (ungiven (view l) (view l).k.current p) = subst (λ (c : ℕ). Is m (ungiven (view l) c p)) (sym now) was in
      let gone : Is o (zero_records (view m) (λ q. eqb q p)) = subst (Is o) (zero_one (view m) p) clear in
      ran_done (pass WrongPartition (child_now _ _ now is) (pass InUse (ap not q) refl))
      (sym (settled_is (is_then (λ (t : Table). zero_records t (λ q. eqb q p)) put gone) e).encoded)
