-- The masks mirror the ledger, and each operation does what its event does there.
use Rattle.std.specs.Prelude.{◌≡◌, Bool, ◌&&◌, List, ℕ, ◌-◌, ◌^◌, ◌≤◌, ◌<◌, leb, eqb, length, get_or}
use Rattle.std.proofs.Math.Path.{refl, ap₂}
use Rattle.std.proofs.Common.{ap, sym, ◌∙◌, arith}
use Rattle.std.proofs.Math.Bool.{not, ◌||◌, and-true, and-false, or-false}
use Rattle.std.proofs.Math.Decide.{dec_lt}
use Rattle.std.proofs.Math.Dec.{ltb}
use borrow.Author.Tests.{le-leb, lt-leb, le-ltb, lt-ltb}
use Rattle.loops.specs.Loops.{names}
use Rattle.engine.specs.Engine.{between, joined, mask_struck, start_masks, give_masks, take_masks, strike_masks}
use Rattle.loops.specs.Laws.Mask.{names_or, names_struck, names_one}
use Rattle.engine.specs.Laws.Marking.{between_in, between_below, between_from}
use Rattle.ledger.specs.Ledger.{Ledger, opening, Lines, among, enter, strike, strike_all, apply}

-- bit p of the mask of line l says whether p stands in the ledger for l
pub record Mirrors (base end : ℕ) (g : Ledger) (ms : List ℕ) : Type 0 where
  pub line : (p l : ℕ) → p < 16 → base ≤ l → l < end → names (get_or ms (l - base) 0) p ≡ g.stands p l

-- a part of the masks that h rewrites: what becomes of the bit of p in the mask of line l
module _ {base end : ℕ} (ms : List ℕ) (room : end - base ≤ length ms) (h : ℕ → ℕ) {l : ℕ} (x : base ≤ l) (y : l < end) where
  bit_in : (a b p : ℕ) → base ≤ a → a ≤ l → l < b → names (get_or (between (a - base) (b - base) h ms) (l - base) 0) p ≡ names (h (get_or ms (l - base) 0)) p
  bit_in a b p i j k = ap (λ (m : ℕ). names m p) (between_in (a - base) (b - base) h ms (l - base) (omega arith) (omega arith) (omega arith))

  bit_below : (a b p : ℕ) → l < a → names (get_or (between (a - base) (b - base) h ms) (l - base) 0) p ≡ names (get_or ms (l - base) 0) p
  bit_below a b p i = ap (λ (m : ℕ). names m p) (between_below (a - base) (b - base) h ms (l - base) (omega arith) (omega arith))

  bit_from : (a b p : ℕ) → b ≤ l → names (get_or (between (a - base) (b - base) h ms) (l - base) 0) p ≡ names (get_or ms (l - base) 0) p
  bit_from a b p i = ap (λ (m : ℕ). names m p) (between_from (a - base) (b - base) h ms (l - base) (omega arith) (omega arith))

  bit_all : (p : ℕ) → names (get_or (between 0 (end - base) h ms) (l - base) 0) p ≡ names (h (get_or ms (l - base) 0)) p
  bit_all p = ap (λ (m : ℕ). names m p) (between_in 0 (end - base) h ms (l - base) (omega arith) (omega arith) (omega arith))

module _ {base end : ℕ} (ms : List ℕ) (room : end - base ≤ length ms) where
  pub start_mirrors : Mirrors base end (opening base end) (start_masks ms base end)
  unfolding opening
  start_mirrors = record {
    line = λ p l b x y. bit_all ms room (λ m. 1) x y p ∙ names_one 0 p ∙ rw (le-leb base l x, lt-ltb l end y) (sym (and-true (eqb p 0)));
  }

  module _ {g : Ledger} (s : Mirrors base end g ms) where
    pub give_mirrors : (c : ℕ) (e : Lines) → base ≤ e.start → Mirrors base end (apply (enter c e) g) (give_masks ms base c e.start e.stop)
    unfolding apply among
    give_mirrors c e i = record { line = λ p l b x y. go p l b x y (dec_lt l e.start) (dec_lt l e.stop) }
      where
        go : (p l : ℕ) → p < 16 → base ≤ l → l < end → Dec (l < e.start) → Dec (l < e.stop)
            → names (get_or (give_masks ms base c e.start e.stop) (l - base) 0) p ≡ g.stands p l || (eqb p c && (leb e.start l && ltb l e.stop))
        go p l b x y (yes j) _ =
            bit_below ms room (joined (2 ^ c)) x y e.start e.stop p j ∙ s.line p l b x y
            ∙ rw (lt-leb e.start l j, and-false (eqb p c)) (sym (or-false (g.stands p l)))
        go p l b x y (no j) (yes k) =
            bit_in ms room (joined (2 ^ c)) x y e.start e.stop p i (omega arith) k ∙ names_or _ (2 ^ c) p ∙ ap₂ ◌||◌ (s.line p l b x y) (names_one c p)
            ∙ rw (le-leb e.start l (omega arith), lt-ltb l e.stop k, and-true (eqb p c)) refl
        go p l b x y (no j) (no k) =
            bit_from ms room (joined (2 ^ c)) x y e.start e.stop p (omega arith) ∙ s.line p l b x y
            ∙ rw (le-leb e.start l (omega arith), le-ltb l e.stop (omega arith), and-false (eqb p c)) (sym (or-false (g.stands p l)))

    pub take_mirrors : (c : ℕ) (e : Lines) → base ≤ e.start → Mirrors base end (apply (strike c e) g) (take_masks ms base c e.start e.stop)
    unfolding apply among
    take_mirrors c e i = record { line = λ p l b x y. go p l b x y (dec_lt l e.start) (dec_lt l e.stop) }
      where
        go : (p l : ℕ) → p < 16 → base ≤ l → l < end → Dec (l < e.start) → Dec (l < e.stop)
            → names (get_or (take_masks ms base c e.start e.stop) (l - base) 0) p ≡ g.stands p l && not (eqb p c && (leb e.start l && ltb l e.stop))
        go p l b x y (yes j) _ =
            bit_below ms room (mask_struck (2 ^ c)) x y e.start e.stop p j ∙ s.line p l b x y
            ∙ rw (lt-leb e.start l j, and-false (eqb p c)) (sym (and-true (g.stands p l)))
        go p l b x y (no j) (yes k) =
            bit_in ms room (mask_struck (2 ^ c)) x y e.start e.stop p i (omega arith) k ∙ names_struck _ (2 ^ c) p
            ∙ ap₂ (λ (u v : Bool). u && not v) (s.line p l b x y) (names_one c p)
            ∙ rw (le-leb e.start l (omega arith), lt-ltb l e.stop k, and-true (eqb p c)) refl
        go p l b x y (no j) (no k) =
            bit_from ms room (mask_struck (2 ^ c)) x y e.start e.stop p (omega arith) ∙ s.line p l b x y
            ∙ rw (le-leb e.start l (omega arith), le-ltb l e.stop (omega arith), and-false (eqb p c)) (sym (and-true (g.stands p l)))

    -- w is the mask of m
    pub strike_mirrors : (w : ℕ) (m : ℕ → Bool) → ((p : ℕ) → p < 16 → names w p ≡ m p) → Mirrors base end (apply (strike_all m) g) (strike_masks ms base end w)
    unfolding apply
    strike_mirrors w m q = record {
      line = λ p l b x y.
          bit_all ms room (mask_struck w) x y p ∙ names_struck _ w p ∙ ap₂ (λ (u v : Bool). u && not v) (s.line p l b x y) (q p b);
    }
