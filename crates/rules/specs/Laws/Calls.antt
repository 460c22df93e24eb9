-- A call is a check of the table, a check of the word, and the service: the exits of each; and two results are equal.
use Rattle.std.specs.Prelude.{◌≡◌, Bool, not, ◌&&◌, ◌||◌, List, [], ◌∷◌, ℕ, ◌^◌, ◌<◌, Result, Ok, Err}
use Rattle.std.proofs.Math.Path.{refl}
use Rattle.std.proofs.Common.{ap, sym, subst, ◌∙◌, ⊎_elim, arith, eqb-true, ne_eqb}
use Rattle.std.proofs.Math.Bool.{true, false, cond}
use Rattle.std.proofs.lemmas.Bool.{false≢true}
use Rattle.std.proofs.Math.Dec.{eqb}
use Rattle.std.proofs.lemmas.Nat.{or_lt}
use Rattle.std.proofs.Math.Pow.{pow-lt}
use Rattle.words.specs.Kind.{fields_in, zeroed, reading}
use Rattle.words.specs.Words.{call}
use Rattle.words.specs.Fields.{SmallCall}
use Rattle.words.specs.Laws.Fields.{call_small, call_reading}
use Rattle.words.specs.declared.Partition.{Partition}
use Rattle.words.specs.declared.call_word.CallFields.{CallFields}
use Rattle.shapes.specs.declared.Board.{Board}
use Rattle.tables.specs.State.{Opt, none, some, K, Table}
use Rattle.tables.specs.Search.{is_some, given_in}
use Rattle.tables.specs.View.{slot_at, view}
use Rattle.tables.specs.Seen.{Seen}
use Rattle.tables.specs.Laws.Seen.{see_first, see, given_none, given_some}
use Rattle.sound.specs.Clauses.{sound, has}
use Rattle.sound.specs.Laws.Tests.{or_says}
use Rattle.rules.specs.declared.Answer.{Answer}
use Rattle.rules.specs.declared.Uses.{Uses}
use Rattle.rules.specs.declared.Service.{Service}
use Rattle.rules.specs.declared.Service.TheVariants.{Create, Delete, Prepare, Collect, Give, Take, Cut, Merge, Region, ReadRegion, Find, Switch, ClearOut, Pack}
use Rattle.rules.specs.Services.{code_of, NamesService}
use Rattle.rules.specs.Rules.{refused, check, uses, unused, region_call, known, perform, serve, serve_read, call_on}
use Rattle.rules.specs.Ran.{Ran}
use Rattle.rules.specs.Laws.Ran.{ran_one, ran_refused, ran_as, pass, fail}
use Rattle.rules.specs.Reads.{only_reads, stands_after}
use Rattle.rules.specs.Changes.{changed_by, changed_of, changed_after}
use Rattle.rules.specs.Calls.{caller_of, CallAnswers}
use Rattle.tables.specs.Outcomes.{Outcome}
use Rattle.words.specs.declared.Refusal.{Refusal}
use Rattle.words.specs.declared.Refusal.TheVariants.{NotSound, BadWord}

pub caller_small : (board : Board) (l : List ℕ) → caller_of board l < 16
unfolding caller_of
caller_small board l = go (sound board l)
  where
    go : (b : Bool) → cond b (view l).k.current 0 < 16
    go true = let f = see_first l _ refl in omega (arith, f.current, f.current_small)
    go false = omega arith

-- two results are equal: the answer, and every word
pub answers_one : {board : Board} {before : List ℕ} {w : ℕ} {r s : Answer} {a b : List ℕ} → CallAnswers board before w r a → CallAnswers board before w s b → (r ≡ s) × (a ≡ b)
answers_one x y =
    let (o, l) = ran_one x.ran y.ran in
    (same (x.caller ∙ sym y.caller) o (x.stands ∙ sym y.stands) (x.changed ∙ sym y.changed), l)
  where
    same : {c d : ℕ} {o q : Outcome} {a b : Bool} {m n : ℕ} → c ≡ d → o ≡ q → a ≡ b → m ≡ n
        → ◌≡◌ {A = Answer} (record { caller = record { 0 = c }; outcome = o; stands = a; changed = m }) (record { caller = record { 0 = d }; outcome = q; stands = b; changed = n })
    same e f g i = cc

-- ── a number that is no service's ──
-- the services' numbers, the last first
abbrev pub numbers : List ℕ
numbers = 15 ∷ 14 ∷ 13 ∷ 12 ∷ 11 ∷ 9 ∷ 8 ∷ 7 ∷ 6 ∷ 5 ∷ 4 ∷ 3 ∷ 2 ∷ 1 ∷ []

-- n is none of these, as a `match` on it says
abbrev pub NoneOf : ℕ → List ℕ → Type 0
NoneOf n [] = Unit {0}
NoneOf n (k ∷ ks) = NoneOf n ks × (n ≡ k → ⊥)

abbrev listed : ℕ → List ℕ → Bool
listed k [] = false
listed k (m ∷ ms) = eqb k m || listed k ms

none_of_at : (n k : ℕ) (ks : List ℕ) → NoneOf n ks → listed k ks ≡ true → eqb n k ≡ false
none_of_at n k [] h z = absurd (false≢true z)
none_of_at n k (m ∷ ms) h z = ⊎_elim (λ q. ne_eqb n k (λ e. h.1 (e ∙ eqb-true k m q))) (none_of_at n k ms h.0) (or_says (eqb k m) (listed k ms) z)

pub uses_none : (n : ℕ) → NoneOf n numbers → uses n ≡ none
unfolding uses
uses_none n h = rw (no 1 refl, no 2 refl, no 3 refl, no 4 refl, no 5 refl, no 6 refl, no 7 refl, no 8 refl, no 9 refl, no 11 refl, no 12 refl, no 13 refl, no 14 refl, no 15 refl) refl
  where
    no : (k : ℕ) → listed k numbers ≡ true → eqb n k ≡ false
    no k = none_of_at n k numbers h

-- .. is not the number of one
pub other_than : (n k : ℕ) → uses n ≡ none → is_some (uses k) ≡ true → eqb n k ≡ false
other_than n k q z = go (eqb n k) refl
  where
    go : (b : Bool) → eqb n k ≡ b → b ≡ false
    go true e = absurd (false≢true (sym (ap (λ (o : Opt Uses). is_some o) (ap uses (sym (eqb-true n k e)) ∙ q)) ∙ z))
    go false e = refl

-- .. of one that only reads
pub none_reads : (n : ℕ) → uses n ≡ none → false ≡ eqb n 11 || eqb n 12
unfolding uses
none_reads n q = rw (other_than n 11 q refl, other_than n 12 q refl) refl

-- a number was read, and is no service's
pub named_not : (n : ℕ) {r : Result Service Refusal} {why : Refusal} → r ≡ Err why → NamesService n r → (why ≡ BadWord) × (uses n ≡ none)
named_not n e h = rw e at h

other_region : (s : Service) → (s ≡ Region → ⊥) → eqb (code_of s) 9 ≡ false
other_region Create h = refl
other_region Delete h = refl
other_region Prepare h = refl
other_region Collect h = refl
other_region Give h = refl
other_region Take h = refl
other_region Cut h = refl
other_region Merge h = refl
other_region Region h = absurd (h refl)
other_region ReadRegion h = refl
other_region Find h = refl
other_region Switch h = refl
other_region ClearOut h = refl
other_region Pack h = refl

and_false : (b : Bool) → b && false ≡ false
and_false true = refl
and_false false = refl

or_true : (b : Bool) → b || true ≡ true
or_true true = refl
or_true false = refl

-- how service 9 is called
abbrev pub CalledService : CallFields → Type 0
CalledService f = not (eqb f.service 9) || region_call f ≡ true

module _ (f : CallFields) where
  pub known_none : uses f.service ≡ none → known f ≡ false
  unfolding known has
  known_none q = rw q (and_false (not (eqb f.service 9) || region_call f))

  -- the number is that of s
  module _ (s : Service) (q : code_of s ≡ f.service) where
    pub called_region : region_call f ≡ true → CalledService f
    called_region z = rw z (or_true (not (eqb f.service 9)))

    pub called_other : (s ≡ Region → ⊥) → CalledService f
    called_other h = rw (sym (ap (λ (n : ℕ). eqb n 9) q) ∙ other_region s h) refl

    pub known_region : s ≡ Region → region_call f ≡ false → known f ≡ false
    unfolding known
    known_region e z = ap (λ (n : ℕ). (not (eqb n 9) || region_call f) && has (λ x. unused x f) (uses n)) (sym q ∙ ap code_of e) ∙ rw z refl

    module _ {x : Uses} (u : uses (code_of s) ≡ some x) where
      pub known_unused : unused x f ≡ false → known f ≡ false
      unfolding known has
      known_unused z = rw (ap uses (sym q) ∙ u, z) (and_false (not (eqb f.service 9) || region_call f))

      pub known_is : CalledService f → unused x f ≡ true → known f ≡ true
      unfolding known has
      known_is y z = rw (y, ap uses (sym q) ∙ u, z) refl

pub known_not : (f : CallFields) → NoneOf f.service numbers → false ≡ known f
unfolding known uses has
known_not f h = rw (no 1 refl, no 2 refl, no 3 refl, no 4 refl, no 5 refl, no 6 refl, no 7 refl, no 8 refl, no 9 refl, no 11 refl, no 12 refl, no 13 refl, no 14 refl, no 15 refl) refl
  where
    no : (k : ℕ) → listed k numbers ≡ true → eqb f.service k ≡ false
    no k = none_of_at f.service k numbers h

module _ (board : Board) (t : Table) (f : CallFields) where
  pub serve_unknown : known f ≡ false → serve board t f ≡ refused BadWord
  unfolding serve
  serve_unknown h = fail BadWord (perform board t f) h

  pub serve_known : known f ≡ true → serve board t f ≡ perform board t f
  unfolding serve
  serve_known h = pass BadWord h refl

-- ── fields that were read ──
-- the fields of an answer; of a refusal, d
abbrev fields_else : CallFields → Result CallFields Refusal → CallFields
fields_else d (Ok f) = f
fields_else d (Err n) = d

pub read_small : (w : ℕ) {f : CallFields} → reading call w ≡ Ok f → SmallCall f
read_small w q = subst SmallCall (sym (same (zeroed call w)) ∙ ap (fields_else (fields_in call w)) (sym (call_reading w) ∙ q)) (call_small w)
  where
    same : (b : Bool) → fields_else (fields_in call w) (cond b (Ok (fields_in call w)) (Err BadWord)) ≡ fields_in call w
    same true = refl
    same false = refl

-- ── a call is a check of the table, a check of the word, and the service ──
module _ (board : Board) (l : List ℕ) (w : ℕ) where
  pub call_as : call_on board l w ≡ check NotSound (sound board l) (check BadWord (zeroed call w) (serve board (view l) (fields_in call w)))
  unfolding call_on serve_read check
  call_as = rw (call_reading w) (go (sound board l) (zeroed call w))
    where
      go : (a b : Bool) → cond a (serve_read board (view l) (cond b (Ok (fields_in call w)) (Err BadWord))) (refused NotSound) ≡ check NotSound a (check BadWord b (serve board (view l) (fields_in call w)))
      go true true = refl
      go true false = refl
      go false b = refl

  -- .. so it is with whose records it can change
  pub changed_as : changed_after board l w ≡ cond (sound board l) (cond (zeroed call w) (changed_by (fields_in call w).service (view l).k (fields_in call w)) 0) 0
  unfolding changed_after changed_of
  changed_as = rw (call_reading w) (go (zeroed call w))
    where
      go : (b : Bool) → cond (sound board l) (changed_of (view l).k (cond b (Ok (fields_in call w)) (Err BadWord))) 0 ≡ cond (sound board l) (cond b (changed_by (fields_in call w).service (view l).k (fields_in call w)) 0) 0
      go true = refl
      go false = refl

-- ── whose records a service can change ──
module _ (k : K) (f : CallFields) where
  pub changed_at : {s : Service} (r : Service) {x : ℕ} → code_of s ≡ f.service → s ≡ r → x ≡ changed_by (code_of r) k f → x ≡ changed_by f.service k f
  changed_at r q e z = z ∙ ap (λ (m : ℕ). changed_by m k f) (sym (ap code_of e) ∙ q)

  pub changed_none : uses f.service ≡ none → 0xffff ≡ changed_by f.service k f
  unfolding changed_by uses
  changed_none q = rw (no 5 refl, no 6 refl, no 7 refl, no 8 refl, no 9 refl, no 11 refl, no 12 refl, no 13 refl, no 15 refl) refl
    where
      no : (i : ℕ) → is_some (uses i) ≡ true → eqb f.service i ≡ false
      no i = other_than f.service i q

-- .. always of the sixteen partitions
either_small : (b : Bool) (x y : ℕ) → x < 0x1_0000 → y < 0x1_0000 → cond b x y < 0x1_0000
either_small true x y p q = p
either_small false x y p q = q

given_in_small : (l : List ℕ) (p i : ℕ) → p < 16 → i < 32 → given_in ((view l).k.slot p i) < 16
given_in_small l p i a b = go (slot_at l p i).present refl
  where
    s : Seen l p i (slot_at l p i)
    s = see l p i (slot_at l p i) a b refl

    go : (x : Bool) → (slot_at l p i).present ≡ x → given_in ((view l).k.slot p i) < 16
    go true q = subst (λ (n : ℕ). n < 16) (given_some s q) s.given_small
    go false q = subst (λ (n : ℕ). n < 16) (given_none s q) (omega arith)

changed_by_small : (l : List ℕ) (f : CallFields) (n : ℕ) → SmallCall f → changed_by n (view l).k f < 0x1_0000
unfolding changed_by
changed_by_small l f n s =
    let c = see_first l _ refl in
    let current : (view l).k.current < 16 = omega (arith, c.current, c.current_small) in
    let own : 2 ^ (view l).k.current < 0x1_0000 = pow-lt current in
    let named : 2 ^ f.partition.0 < 0x1_0000 = pow-lt s.partition in
    either_small (eqb n 5) _ _ (or_lt 16 _ _ own named)
    (either_small (eqb n 6) _ _ (or_lt 16 _ _ own (pow-lt (given_in_small l (view l).k.current f.slot.0 current s.slot)))
    (either_small (eqb n 7 || eqb n 8) _ _ own
    (either_small (eqb n 9 || eqb n 15) _ _ named
    (either_small (eqb n 11 || eqb n 12 || eqb n 13) 0 0xffff (omega arith) (omega arith)))))

pub changed_small : (board : Board) (l : List ℕ) (w : ℕ) → changed_after board l w < 0x1_0000
changed_small board l w =
    subst (λ (n : ℕ). n < 0x1_0000) (sym (changed_as board l w))
    (either_small (sound board l) _ _ (either_small (zeroed call w) _ _ (changed_by_small l (fields_in call w) (fields_in call w).service (call_small w)) (omega arith)) (omega arith))

-- ── the exits ──
module _ (board : Board) (l : List ℕ) (w : ℕ) where
  pub answers_unsound : sound board l ≡ false → CallAnswers board l w (record { caller = record { 0 = 0 }; outcome = Err NotSound; stands = true; changed = 0 }) l
  unfolding caller_of call_on stands_after changed_after
  answers_unsound h = record { caller = rw h refl; ran = ran_refused (rw h refl); stands = rw h refl; changed = rw h refl }

  module _ (h : sound board l ≡ true) {c : Partition} (q : (view l).k.current ≡ c.0) where
    pub answers_served : {f : CallFields} {r : Outcome} {b : Bool} {n : ℕ} {m : List ℕ} → reading call w ≡ Ok f → Ran (serve board (view l) f) l r m
        → b ≡ eqb f.service 11 || eqb f.service 12 → n ≡ changed_by f.service (view l).k f → CallAnswers board l w (record { caller = c; outcome = r; stands = b; changed = n }) m
    unfolding caller_of call_on serve_read stands_after only_reads changed_after changed_of
    answers_served z ran e d = record { caller = rw h (sym q); ran = ran_as (rw (h, z) refl) ran; stands = rw (h, z) e; changed = rw (h, z) d }

    pub answers_unread : {why : Refusal} → reading call w ≡ Err why → CallAnswers board l w (record { caller = c; outcome = Err why; stands = true; changed = 0 }) l
    unfolding caller_of call_on serve_read stands_after only_reads changed_after changed_of
    answers_unread z = record { caller = rw h (sym q); ran = ran_refused (rw (h, z) refl); stands = rw (h, z) refl; changed = rw (h, z) refl }
