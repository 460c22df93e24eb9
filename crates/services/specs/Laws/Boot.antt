-- What boot writes is settled: the root's entry is open, since areas of 0, 0 have no line.
use Rattle.std.specs.Prelude.{◌≡◌, Bool, false, ◌&&◌, List, ℕ, ◌/◌, ◌%◌, ◌^◌, ◌≤◌, ◌<◌, length}
use Rattle.std.proofs.Math.Path.{refl}
use Rattle.std.proofs.Common.{ap, sym, ◌∙◌, arith}
use Rattle.std.proofs.Math.Bool.{true}
use Rattle.std.proofs.Math.Decide.{ℕ_discrete}
use Rattle.std.proofs.Math.Dec.{ltb}
use borrow.Author.Tests.{eq-eqb, ne_eqb, lt-ltb, le-ltb}
use Rattle.loops.specs.Laws.Every.{all_of}
use Rattle.tables.specs.State.{none, some, nowhere, Table, root_entry}
use Rattle.tables.specs.Update.{both?, pick, upd, upd1}
use Rattle.tables.specs.Laws.Update.{upd_same, upd_other, upd1_same, upd1_other}
use Rattle.tables.specs.View.{view}
use Rattle.tables.specs.Encode.{encode, Is}
use Rattle.writing.specs.Laws.Stored.{is_then}
use Rattle.tables.specs.Settle.{meets, apart, clear, open_bit, open_at, keep, settle}
use Rattle.tables.specs.Write.{empty_table, put_header, put_structure, put_slot}
use Rattle.rules.specs.Rules.{boot_k, boot_on, done, refused}
use Rattle.rules.specs.Laws.Ran.{pass, fail}
use Rattle.words.specs.declared.Refusal.TheVariants.{NotSound, WrongLine}

module _ (base end : ℕ) where
  -- the four writes, one after the other
  abbrev written : Table
  written = put_slot (put_structure (put_header (empty_table base end) 0 0 (some nowhere)) 0 0 (some nowhere)) 0 0 (some (root_entry base end)) true

  -- nothing shares a line with a boot's areas
  no_line : (p j : ℕ) → apart ((boot_k base end).area p j) base end ≡ true
  unfolding apart meets upd pick
  no_line p j = go (both? 0 1 p j) (both? 0 0 p j)
    where
      go : {P Q : Type 0} (x : Dec P) (y : Dec Q) → apart (pick x (some nowhere) (pick y (some nowhere) none)) base end ≡ true
      go (yes _) y = refl
      go (no _) (yes _) = refl
      go (no _) (no _) = refl

  opens : (p i : ℕ) → upd (λ p i. false) 0 0 true p i ≡ open_at (boot_k base end) p i
  unfolding open_at open_bit clear
  opens p i = go (both? 0 0 p i)
    where
      go : Dec ((p ≡ 0) × (i ≡ 0)) → upd (λ p i. false) 0 0 true p i ≡ open_bit (boot_k base end).area ((boot_k base end).slot p i)
      go (yes z) =
          upd_same (λ p i. false) 0 0 true p i z
          ∙ rw (upd_same (λ p i. none) 0 0 (some (root_entry base end)) p i z) (sym (all_of 80 _ (λ n h. no_line (n / 5) (n % 5))))
      go (no z) =
          upd_other (λ p i. false) 0 0 true p i z
          ∙ rw (upd_other (λ p i. none) 0 0 (some (root_entry base end)) p i z) refl

  no_parents : (p : ℕ) → upd1 {A = ℕ} (λ q. 0) 0 0 p ≡ 0
  no_parents p = go (ℕ_discrete p 0)
    where
      go : Dec (p ≡ 0) → upd1 {A = ℕ} (λ q. 0) 0 0 p ≡ 0
      go (yes z) = upd1_same {A = ℕ} (λ q. 0) 0 0 p z
      go (no z) = upd1_other {A = ℕ} (λ q. 0) 0 0 p z

  written_settled : written ≡ settle (boot_k base end) (λ p r. none)
  unfolding settle keep
  written_settled = λ x. record {
    k = record {
      base = base;
      stop = end;
      current = 0;
      parent = λ p. no_parents p x;
      area = (boot_k base end).area;
      slot = (boot_k base end).slot;
    };
    opened = λ p i. opens p i x;
    region = λ p r. none;
  }

-- the words after the four writes
pub root_words : (base end : ℕ) {a b c d : List ℕ} → Is a (empty_table base end) → Is b (put_header (view a) 0 0 (some nowhere)) → Is c (put_structure (view b) 0 0 (some nowhere))
    → Is d (put_slot (view c) 0 0 (some (root_entry base end)) true) → d ≡ encode (settle (boot_k base end) (λ p r. none))
root_words base end w x y z =
    sym (is_then (λ t. put_slot t 0 0 (some (root_entry base end)) true)
    (is_then (λ t. put_structure t 0 0 (some nowhere)) (is_then (λ t. put_header t 0 0 (some nowhere)) w x) y) z).encoded
    ∙ ap encode (written_settled base end)

-- ── the exits ──
and_false : (b : Bool) → b && false ≡ false
and_false true = refl
and_false false = refl

module _ (l : List ℕ) (base end : ℕ) (size : length l ≡ 641) where
  pub boot_empty : end ≤ base → boot_on l base end ≡ refused WrongLine
  unfolding boot_on
  boot_empty h = pass NotSound (eq-eqb (length l) 641 size) (fail WrongLine _ (rw (le-ltb base end (omega arith)) refl))

  pub boot_high : 2 ^ 27 ≤ end → boot_on l base end ≡ refused WrongLine
  unfolding boot_on
  boot_high h = pass NotSound (eq-eqb (length l) 641 size) (fail WrongLine _ (rw (le-ltb end (2 ^ 27) (omega arith)) (and_false (ltb base end && ltb base (2 ^ 27)))))

  pub boot_done : base < end → end < 2 ^ 27 → boot_on l base end ≡ done 0 0 (settle (boot_k base end) (λ p r. none))
  unfolding boot_on
  boot_done h g = pass NotSound (eq-eqb (length l) 641 size) (pass WrongLine (rw (lt-ltb base end h, lt-ltb base (2 ^ 27) (omega arith), lt-ltb end (2 ^ 27) g) refl) refl)

-- of the words that it finds boot looks at their number only
pub boot_any : (a l : List ℕ) (base end : ℕ) → length a ≡ 641 → length l ≡ 641 → boot_on l base end ≡ boot_on a base end
unfolding boot_on
boot_any a l base end p q = rw (p, q) refl

pub boot_length : (l : List ℕ) (base end : ℕ) → (length l ≡ 641 → ⊥) → boot_on l base end ≡ refused NotSound
unfolding boot_on
boot_length l base end h = fail NotSound _ (ne_eqb (length l) 641 h)
