-- The pair of a readable entry reads back, and a pair that reads is that of the entry which it tells.
use Rattle.std.specs.Prelude.{◌≡◌, refl, Bool, true, false, cond, ◌&&◌, ℕ, ◌+◌, ◌-◌, ◌%◌, ◌^◌, ◌<◌, eqb, ltb, leb}
use Rattle.std.proofs.Common.{ap, sym, subst, ◌∙◌, true≢false, arith, lt-ltb, ltb-true, le-leb, leb-true, eqb-true, eq-eqb}
use Rattle.std.proofs.Math.Bool.{and-eq-true_iff, not-not}
use Rattle.words.specs.Kind.{fields_in, word_of, zeroed, InRange, Zeroed}
use Rattle.words.specs.Laws.Kind.{zeroed_means, word_back, fields_back, word_zeroed}
use Rattle.tables.specs.State.{none, some, Entry, entry}
use Rattle.tables.specs.Laws.State.{some_inj, not_none}
use Rattle.pairs.specs.Word.{pair}
use Rattle.pairs.specs.Laws.Word.{pair_range, pair_lawful, access_small}
use Rattle.pairs.specs.declared.pair_word.PairFields.{PairFields}
use Rattle.pairs.specs.Pair.{Readable, readable, bare, fields_of, said_by, Fair, fair, pair_of, entry_of_pair}

-- ── tests as propositions ──
pub readable_says : (e : Entry) → readable e ≡ true → Readable e
unfolding readable
readable_says e q =
    let a = (and-eq-true_iff e.rights.read _).0 q in
    let b = (and-eq-true_iff (ltb e.start e.stop) _).0 a.1 in
    record { read = a.0; rising = ltb-true _ _ b.0; below = ltb-true _ _ b.1 }

pub readable_true : (e : Entry) → Readable e → readable e ≡ true
unfolding readable
readable_true e h = rw (h.read, lt-ltb e.start e.stop h.rising, lt-ltb e.stop (2 ^ 27) h.below) refl

fair_says : (f : PairFields) → fair f ≡ true → Fair f
unfolding fair
fair_says f q =
    let a = (and-eq-true_iff f.enabled _).0 q in
    let b = (and-eq-true_iff (eqb (f.access % 2) 1) _).0 a.1 in
    let c = (and-eq-true_iff (leb f.base.0 f.limit.0) _).0 b.1 in
    record { enabled = a.0; access = eqb-true _ _ b.0; rising = leb-true _ _ c.0; below = ltb-true _ _ c.1 }

fair_true : (f : PairFields) → Fair f → fair f ≡ true
unfolding fair
fair_true f h =
    rw (h.enabled, eq-eqb (f.access % 2) 1 h.access, le-leb f.base.0 f.limit.0 h.rising, lt-ltb f.limit.0 (2 ^ 27 - 1) h.below) refl

-- ── entry, fields, entry ──
access_of : (b : Bool) → (cond b 1 3 % 2 ≡ 1) × (eqb (cond b 1 3) 1 ≡ b) × (cond b 1 3 < 4)
access_of true = (refl, refl, omega arith)
access_of false = (refl, refl, omega arith)

module _ (e : Entry) (h : Readable e) where
  pub of_range : InRange pair (fields_of e)
  of_range = pair_range (fields_of e) (omega (arith, h.rising, h.below)) (access_of e.rights.write).2 (omega (arith, h.below))

  of_fair : Fair (fields_of e)
  of_fair = record {
    enabled = refl;
    access = (access_of e.rights.write).0;
    rising = omega (arith, h.rising);
    below = omega (arith, h.rising, h.below);
  }

  said_back : said_by (fields_of e) ≡ bare e
  said_back =
      let stop : e.stop - 1 + 1 ≡ e.stop = omega (arith, h.rising) in
      λ i. entry e.start (stop i) 0 (record { read = sym h.read i; write = (access_of e.rights.write).1 i; execute = not-not e.rights.execute i }) false

-- ── fields, entry, fields ──
access_back : (a : ℕ) → a < 4 → a % 2 ≡ 1 → cond (eqb a 1) 1 3 ≡ a
access_back a s h = go (eqb a 1) refl
  where
    go : (b : Bool) → eqb a 1 ≡ b → cond b 1 3 ≡ a
    go true q = sym (eqb-true a 1 q)
    go false q = let n : (a ≡ 1 → ⊥) = λ z. true≢false (sym (eq-eqb a 1 z) ∙ q) in omega (arith, n)

fields_only : (f : PairFields) → f.access < 4 → Fair f → fields_of (said_by f) ≡ f
fields_only f s h =
    let limit : f.limit.0 + 1 - 1 ≡ f.limit.0 = omega arith in
    λ i. record {
      base = f.base;
      access = access_back f.access s h.access i;
      never = not-not f.never i;
      limit = record { 0 = limit i };
      enabled = sym h.enabled i;
    }

said_readable : (f : PairFields) → Fair f → Readable (said_by f)
said_readable f h = record { read = refl; rising = omega (arith, h.rising); below = omega (arith, h.below) }

-- ── words that tell an entry ──
pub record GoodPair (w : ℕ) : Type 0 where
  pub zeroed : Zeroed pair w
  pub fair : Fair (fields_in pair w)

good_says : (w : ℕ) → zeroed pair w && fair (fields_in pair w) ≡ true → GoodPair w
good_says w q =
    let a = (and-eq-true_iff (zeroed pair w) _).0 q in
    record { zeroed = (zeroed_means pair w).0 a.0; fair = fair_says (fields_in pair w) a.1 }

pub pair_entry_done : (w : ℕ) → GoodPair w → entry_of_pair w ≡ some (said_by (fields_in pair w))
unfolding entry_of_pair
pair_entry_done w h = rw ((zeroed_means pair w).1 h.zeroed, fair_true (fields_in pair w) h.fair) refl

-- a word that is not, or one that is with the entry
entry_either : (w : ℕ) → (b : Bool) → zeroed pair w && fair (fields_in pair w) ≡ b → (x : Entry) → cond b (some (said_by (fields_in pair w))) none ≡ some x → GoodPair w × (said_by (fields_in pair w) ≡ x)
entry_either w true g x p = (good_says w g, some_inj p)
entry_either w false g x p = not_none none refl p

pub pair_entry_says : (w : ℕ) (x : Entry) → entry_of_pair w ≡ some x → GoodPair w × (said_by (fields_in pair w) ≡ x)
unfolding entry_of_pair
pair_entry_says w x q = entry_either w _ refl x q

pub pair_entry_none : (w : ℕ) → (GoodPair w → ⊥) → entry_of_pair w ≡ none
unfolding entry_of_pair
pair_entry_none w h = go (zeroed pair w && fair (fields_in pair w)) refl
  where
    go : (b : Bool) → zeroed pair w && fair (fields_in pair w) ≡ b → cond b (some (said_by (fields_in pair w))) none ≡ none
    go true q = absurd (h (good_says w q))
    go false q = refl

-- ── what is written reads back to the same range and rights ──
module _ (e : Entry) (h : Readable e) where
  good_pair : GoodPair (pair_of e)
  good_pair = record {
    zeroed = word_zeroed pair_lawful (fields_of e) (of_range e h);
    fair = subst Fair (sym (fields_back pair_lawful (fields_of e) (of_range e h))) (of_fair e h);
  }

  pub pair_back : entry_of_pair (pair_of e) ≡ some (bare e)
  pair_back =
      pair_entry_done (pair_of e) good_pair
      ∙ ap (λ (f : PairFields). some (said_by f)) (fields_back pair_lawful (fields_of e) (of_range e h))
      ∙ ap some (said_back e h)

-- ── a pair that is read was written ──
pub record Only (w : ℕ) (x : Entry) : Type 0 where
  pub written : w ≡ pair_of x
  pub readable : Readable x
  pub plain : x.given ≡ 0
  pub not_whole : x.whole ≡ false

pub pair_only : (w : ℕ) (x : Entry) → w < 2 ^ 64 → entry_of_pair w ≡ some x → Only w x
pair_only w x b q =
    let (g, s) = pair_entry_says w x q in
    subst (Only w) s (record {
      written = sym (ap (word_of pair) (fields_only (fields_in pair w) (access_small w) g.fair) ∙ word_back pair_lawful w b g.zeroed);
      readable = said_readable (fields_in pair w) g.fair;
      plain = refl;
      not_whole = refl;
    })
