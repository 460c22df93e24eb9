-- The exits of the descent to the deepest holder, and of holders; there are at most 16; and two results are equal.
use Rattle.std.specs.Prelude.{◌≡◌, Bool, true, false, List, length, Ok, Err}
use Rattle.std.proofs.Math.Path.{refl}
use Rattle.std.proofs.Common.{ap, ap₂, sym, subst, ◌∙◌}
use borrow.Author.Tests.{eq-eqb, ne_eqb, lt-leb, le-leb, le-ltb, lt-ltb}
use Prim.Native.Nat.{ℕ, zero, suc, ◌-◌, ◌≤◌, ◌<◌}
use native.Mathlib.Omega.{arith}
use Rattle.shapes.specs.declared.Board.{Board}
use Rattle.tables.specs.State.{none, some, K}
use Rattle.words.specs.declared.slot_word.SlotFields.{SlotFields}
use Rattle.tables.specs.View.{view, entry_in}
use Rattle.tables.specs.Search.{lowest, holds_at}
use Rattle.tables.specs.WayUp.{way_up, digits, way_in, names_over, WayWritten}
use Rattle.tables.specs.Laws.WayUp.{way_few, way_told}
use Rattle.sound.specs.Clauses.{sound}
use Rattle.sound.proofs.Laws.List.{sound_means}
use Rattle.sound.specs.Holders.{receiver, given_by, heir, deepest, trail, holders_of, looks_of, in_memory, holders_outcome, holders_bytes, Writes, HoldersListed}
use Rattle.tables.specs.Outcomes.{Outcome}
use Rattle.words.specs.declared.Refusal.TheVariants.{NotSound, WrongLine, ShortList}

-- ── the exits of the descent ──
module _ (k : K) (l p n : ℕ) where
  pub deepest_here : heir k l p ≡ 0 → p ≡ deepest k l p n
  unfolding deepest
  deepest_here = go n
    where
      go : (n : ℕ) → heir k l p ≡ 0 → p ≡ deepest k l p n
      go zero h = refl
      go (suc n) h = rw (eq-eqb (heir k l p) 0 h) refl

  pub deepest_last : n ≡ 0 → p ≡ deepest k l p n
  unfolding deepest
  deepest_last = go n
    where
      go : (n : ℕ) → n ≡ 0 → p ≡ deepest k l p n
      go zero h = refl
      go (suc n) h = absurd (omega arith)

  pub deepest_down : (n ≡ 0 → ⊥) → (heir k l p ≡ 0 → ⊥) → deepest k l (heir k l p) (n - 1) ≡ deepest k l p n
  unfolding deepest
  deepest_down = go n
    where
      go : (n : ℕ) → (n ≡ 0 → ⊥) → (heir k l p ≡ 0 → ⊥) → deepest k l (heir k l p) (n - 1) ≡ deepest k l p n
      go zero z h = absurd (z refl)
      go (suc n) z h = let e : suc n - 1 ≡ n = omega arith in rw (ne_eqb (heir k l p) 0 h, e) refl

-- ── the exits of heir ──
module _ (k : K) (l p : ℕ) where
  pub heir_none : lowest 32 (holds_at k p l) ≡ none → 0 ≡ heir k l p
  unfolding heir given_by
  heir_none q = rw q refl

  pub heir_given : (i : ℕ) (f : SlotFields) → lowest 32 (holds_at k p l) ≡ some i → k.slot p i ≡ entry_in f → f.present ≡ true → f.given.0 ≡ heir k l p
  unfolding heir given_by receiver entry_in
  heir_given i f q e h = rw (q, e, h) refl

  pub heir_empty : (i : ℕ) (f : SlotFields) → lowest 32 (holds_at k p l) ≡ some i → k.slot p i ≡ entry_in f → f.present ≡ false → 0 ≡ heir k l p
  unfolding heir given_by receiver entry_in
  heir_empty i f q e h = rw (q, e, h) refl

-- there are at most 16
pub holders_few : (k : K) (l : ℕ) → length (holders_of k l) ≤ 16
unfolding holders_of trail
holders_few k l = way_few k.parent 15 (deepest k l 0 15)

pub writes_one : {k : K} {l : ℕ} {before : List ℕ} {r s : Outcome} {a b : List ℕ} → Writes k l before r a → Writes k l before s b → (r ≡ s) × (a ≡ b)
writes_one x y = (x.outcome ∙ sym y.outcome, x.bytes ∙ sym y.bytes)

-- .. from the climb of the deepest, which the word w tells, and the sum of the searches
pub writes_from : (t : List ℕ) {l p w r c : ℕ} {before after : List ℕ} → p ≡ deepest (view t).k l 0 15 → p < 16
    → w ≡ digits (way_up (view t).k.parent 15 p) 0 → WayWritten w before r after → c ≡ looks_of (view t).k l → Writes (view t).k l before (Ok (r, c)) after
unfolding holders_of trail
writes_from t {l} {p} {w} {r} {c} {before} q b u h s =
    let e : way_in w ≡ holders_of (view t).k l = ap way_in u ∙ way_told t 15 p b (omega arith) (omega arith) ∙ ap (λ (x : ℕ). trail (view t).k x 15) q in
    record {
      outcome = ap₂ (λ (x y : ℕ). Ok (x, y)) (h.number ∙ ap length e) s;
      bytes = h.bytes ∙ ap (λ (hs : List ℕ). names_over hs before) e;
    }

-- two results are equal: the outcome, and every byte of the list
pub holders_one : {board : Board} {t : List ℕ} {l : ℕ} {before : List ℕ} {r s : Outcome} {a b : List ℕ} → HoldersListed board t l before r a → HoldersListed board t l before s b → (r ≡ s) × (a ≡ b)
holders_one x y = (x.outcome ∙ sym y.outcome, x.bytes ∙ sym y.bytes)

-- ── the exits of holders ──
module _ {board : Board} {t : List ℕ} {l : ℕ} {before : List ℕ} where
  pub listed_unsound : sound board t ≡ false → HoldersListed board t l before (Err NotSound) before
  unfolding holders_outcome holders_bytes
  listed_unsound q = record { outcome = rw q refl; bytes = rw q refl }

  pub listed_outside : sound board t ≡ true → in_memory (view t).k l ≡ false → HoldersListed board t l before (Err WrongLine) before
  unfolding holders_outcome holders_bytes
  listed_outside q n = record { outcome = rw (q, n) refl; bytes = rw (q, n) refl }

  pub listed_short : sound board t ≡ true → in_memory (view t).k l ≡ true → length before < 16 → HoldersListed board t l before (Err ShortList) before
  unfolding holders_outcome holders_bytes
  listed_short q n h = record { outcome = rw (q, n, lt-leb 16 (length before) h) refl; bytes = rw (q, n, lt-leb 16 (length before) h) refl }

  pub listed_done : {r : Outcome} {after : List ℕ} → sound board t ≡ true → in_memory (view t).k l ≡ true → 16 ≤ length before → Writes (view t).k l before r after → HoldersListed board t l before r after
  unfolding holders_outcome holders_bytes
  listed_done q n h w = record {
    outcome = rw (q, n, le-leb 16 (length before) h) w.outcome;
    bytes = rw (q, n, le-leb 16 (length before) h) w.bytes;
  }

-- another length is not sound
pub wrong_length : (board : Board) (t : List ℕ) → (length t ≡ 641 → ⊥) → sound board t ≡ false
wrong_length board t h = go (sound board t) refl
  where
    go : (b : Bool) → sound board t ≡ b → b ≡ false
    go true q = absurd (h ((sound_means board t).0 q).size)
    go false q = refl

-- a line below base, a line from end on, a line between
module _ (k : K) (l : ℕ) where
  pub below_base : l < k.base → in_memory k l ≡ false
  unfolding in_memory
  below_base h = rw (lt-leb k.base l h) refl

  pub from_end : k.base ≤ l → k.stop ≤ l → in_memory k l ≡ false
  unfolding in_memory
  from_end h g = rw (le-leb k.base l h, le-ltb l k.stop g) refl

  pub in_memory_law : k.base ≤ l → l < k.stop → in_memory k l ≡ true
  unfolding in_memory
  in_memory_law h g = rw (le-leb k.base l h, lt-ltb l k.stop g) refl

-- .. of the copy that was made of the words
pub listed_copy : {board : Board} {m t : List ℕ} {l : ℕ} {before : List ℕ} {r : Outcome} {after : List ℕ} → m ≡ t → HoldersListed board m l before r after → HoldersListed board t l before r after
listed_copy {board} {l = l} {before} {r} {after} e h = subst (λ (x : List ℕ). HoldersListed board x l before r after) e h
