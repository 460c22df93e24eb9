-- What the checks 4, 5, 6 of a slot of the caller find, exit by exit: the rule goes on or ends as they say, and two results are equal.
use Rattle.std.specs.Prelude.{◌≡◌, refl, true, false, List, ℕ, Result, Ok, Err}
use Rattle.std.proofs.Common.{ap, sym, subst, ◌∙◌, arith}
use borrow.Author.Tests.{eq-eqb, ne_eqb}
use Rattle.words.specs.declared.slot_word.SlotFields.{SlotFields}
use Rattle.tables.specs.State.{Entry, Table}
use Rattle.tables.specs.View.{view, entry_in}
use Rattle.tables.specs.Seen.{Seen}
use Rattle.tables.specs.Laws.Seen.{seen_one}
use Rattle.rules.specs.Rules.{Effect, done, refused, check, need, free_entry}
use Rattle.blocks.specs.Pick.{Free, Picks, found, ends}
use Rattle.words.specs.declared.Refusal.{Refusal}
use Rattle.words.specs.declared.Refusal.TheVariants.{NoEntry, NotOpen, Given}

goes_on : {why : Refusal} {t : Table} → done 0 0 t ≡ refused why → ⊥
goes_on q = absurd (let z : ◌≡◌ {A = ℕ} 0 1 = cc in omega arith)

one_why : {a b : Refusal} → refused a ≡ refused b → a ≡ b
one_why q = cc

-- what was read of the caller, whose number was read first
pub at_caller : {l : List ℕ} {c s : ℕ} {f : SlotFields} → (view l).k.current ≡ c → Seen l c s f → Seen l (view l).k.current s f
at_caller now v = rw now v

-- two results are equal
pub picks_one : {l : List ℕ} {s : ℕ} {r q : Result SlotFields Refusal} → Picks l s r → Picks l s q → r ≡ q
picks_one (found x) (found y) = ap Ok (seen_one x.seen y.seen)
picks_one {l} (found x) (ends h) = absurd (goes_on (sym (x.rule (λ _. done 0 0 (view l))) ∙ h (λ _. done 0 0 (view l))))
picks_one {l} (ends h) (found x) = absurd (goes_on (sym (x.rule (λ _. done 0 0 (view l))) ∙ h (λ _. done 0 0 (view l))))
picks_one (ends g) (ends h) = ap Err (one_why (sym (g (λ _. refused NoEntry)) ∙ h (λ _. refused NoEntry)))

module _ {l : List ℕ} {s c : ℕ} {f : SlotFields} (now : (view l).k.current ≡ c) (v : Seen l c s f) where
  here : Seen l (view l).k.current s f
  here = at_caller now v

  pub pick_none : f.present ≡ false → Picks l s (Err NoEntry)
  unfolding free_entry need entry_in
  pick_none q = ends {why = NoEntry} (λ next. rw (here.slot, q) refl)

  pub pick_closed : f.present ≡ true → f.opened ≡ false → Picks l s (Err NotOpen)
  unfolding free_entry need check entry_in
  pick_closed q o = ends {why = NotOpen} (λ next. rw (here.slot, q, here.opened, o) refl)

  pub pick_given : f.present ≡ true → f.opened ≡ true → (f.given.0 ≡ 0 → ⊥) → Picks l s (Err Given)
  unfolding free_entry need check entry_in
  pick_given q o g = ends {why = Given} (λ next. rw (here.slot, q, here.opened, o, ne_eqb f.given.0 0 g) refl)

  pub pick_free : f.present ≡ true → f.opened ≡ true → f.given.0 ≡ 0 → Picks l s (Ok f)
  unfolding free_entry need check entry_in
  pick_free q o g = found {f = f} (record {
    rule = λ next. rw (here.slot, q, here.opened, o, eq-eqb f.given.0 0 g) refl;
    seen = here;
    present = q;
    opened = o;
    not_given = g;
  })

-- what a match on the answer tells
pub picked_no : {l : List ℕ} {s : ℕ} {why : Refusal} {r : Result SlotFields Refusal} → r ≡ Err why → Picks l s r → (next : Entry → Effect) → free_entry (view l) s next ≡ refused why
picked_no {l} {s} e p = go (subst (Picks l s) e p)
  where
    go : {why : Refusal} → Picks l s (Err why) → (next : Entry → Effect) → free_entry (view l) s next ≡ refused why
    go (ends h) = h

pub picked_is : {l : List ℕ} {s : ℕ} {f : SlotFields} {r : Result SlotFields Refusal} → r ≡ Ok f → Picks l s r → Free l s f
picked_is {l} {s} e p = go (subst (Picks l s) e p)
  where
    go : {f : SlotFields} → Picks l s (Ok f) → Free l s f
    go (found h) = h
