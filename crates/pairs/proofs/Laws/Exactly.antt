-- Both ways back, and 22 exactly.
use Rattle.std.proofs.Math.Path.{◌≡◌, refl, ap}
use Rattle.std.proofs.Common.{ap₂, sym, ◌∙◌}
use Rattle.std.specs.Prelude.{Bool, true, false, ◌↔◌, ℕ, ◌+◌, ◌*◌, ◌/◌, ◌%◌, ◌^◌, ◌<◌, Result, Ok, Err}
use native.Mathlib.Omega.{arith}
use Rattle.tables.specs.State.{Opt, none, some, Entry, entry}
use Rattle.tables.specs.Encode.{slot_word}
use Rattle.pairs.specs.Pair.{Readable, bare, pair_of, entry_of_pair, one_word, halves, writes, open_word, reads}
use Rattle.pairs.specs.Exactly.{registers, Pairs, WrittenByEntry}
use Rattle.pairs.specs.Laws.Word.{printed_pair}
use Rattle.pairs.proofs.Laws.Pair.{pair_back, pair_only}
use Rattle.pairs.proofs.Laws.Exits.{writes_done, writes_unread}
use Rattle.pairs.specs.declared.Registers.{Registers}
use Rattle.words.specs.declared.Refusal.{Refusal}
use Rattle.words.specs.declared.Refusal.TheVariants.{WrongPair}

-- ── two registers and one word ──
joined_halves : (w : ℕ) → one_word (halves w).rbar (halves w).rlar ≡ w
joined_halves w = omega arith

halves_joined : (a b : ℕ) → b < 2 ^ 32 → halves (one_word a b) ≡ registers a b
halves_joined a b h =
    let x : (a * 2 ^ 32 + b) / 2 ^ 32 ≡ a = omega arith in
    let y : (a * 2 ^ 32 + b) % 2 ^ 32 ≡ b = omega arith in
    λ i. record { rbar = x i; rlar = y i }

pair_part : {x y : Registers} → ◌≡◌ {A = Result Registers Refusal} (Ok x) (Ok y) → x ≡ y
pair_part u = cc

-- ── what was written reads back ──
module _ (e : Entry) (a b : ℕ) (h : Readable e) (q : writes e ≡ Ok (registers a b)) where
  joins : one_word a b ≡ pair_of e
  joins =
      let s : halves (pair_of e) ≡ registers a b = pair_part (sym (writes_done e h) ∙ q) in
      sym (ap (λ (x : Registers). one_word x.rbar x.rlar) s) ∙ joined_halves (pair_of e)

  back : reads a b ≡ Ok (slot_word (some (bare e)) true)
  unfolding open_word
  back = ap (λ (w : ℕ). open_word (entry_of_pair w)) joins ∙ ap open_word (pair_back e h)

  own : e.given ≡ 0 → e.whole ≡ false → reads a b ≡ Ok (slot_word (some e) true)
  own g w = back ∙ ap₂ (λ (n : ℕ) (x : Bool). Ok (slot_word (some (entry e.start e.stop n e.rights x)) true)) (sym g) (sym w)

-- ── what reads was written ──
module _ (a b : ℕ) (h : a < 2 ^ 32) (k : b < 2 ^ 32) where
  told : (x : Entry) → entry_of_pair (one_word a b) ≡ some x → Readable x × (x.given ≡ 0) × (x.whole ≡ false) × (writes x ≡ Ok (registers a b))
  told x q =
      let o = pair_only (one_word a b) x (omega arith) q in
      (o.readable, o.plain, o.not_whole, writes_done x o.readable ∙ ap (λ (w : ℕ). Ok (halves w)) (sym o.written) ∙ ap Ok (halves_joined a b k))

  only : (w : ℕ) → reads a b ≡ Ok w → (e : Entry) × Readable e × (e.given ≡ 0) × (e.whole ≡ false) × (w ≡ slot_word (some e) true) × (writes e ≡ Ok (registers a b))
  unfolding open_word
  only w q = go (entry_of_pair (one_word a b)) refl q
    where
      go : (o : Opt Entry) → entry_of_pair (one_word a b) ≡ o → open_word o ≡ Ok w → (e : Entry) × Readable e × (e.given ≡ 0) × (e.whole ≡ false) × (w ≡ slot_word (some e) true) × (writes e ≡ Ok (registers a b))
      go none p u = absurd (let z : ◌≡◌ {A = ℕ} 0 1 = cc in omega arith)
      go (some x) p u = let (r, g, v, y) = told x p in (x, r, g, v, (cc), y)

  unwritten : (reads a b ≡ Err WrongPair) ↔ (WrittenByEntry a b → ⊥)
  unfolding open_word
  unwritten = (λ q t. no_both t.0 t.1 t.2 q, λ n. go n (entry_of_pair (one_word a b)) refl)
    where
      no_both : (e : Entry) → Readable e → writes e ≡ Ok (registers a b) → open_word (entry_of_pair (one_word a b)) ≡ Err WrongPair → ⊥
      no_both e r p q = let u = back e a b r p in let z : ◌≡◌ {A = ℕ} 0 1 = cc in omega arith

      go : (WrittenByEntry a b → ⊥) → (o : Opt Entry) → entry_of_pair (one_word a b) ≡ o → open_word o ≡ Err WrongPair
      go n none p = refl
      go n (some x) p = let (r, g, v, y) = told x p in absurd (n (x, r, y))

-- ── writing: exactly without the read right ──
module _ (e : Entry) (h : e.start < e.stop) (k : e.stop < 2 ^ 27) where
  unread : (writes e ≡ Err WrongPair) ↔ (e.rights.read ≡ false)
  unread = (λ q. go e.rights.read refl q, λ q. sym (writes_unread e q))
    where
      go : (b : Bool) → e.rights.read ≡ b → writes e ≡ Err WrongPair → b ≡ false
      go true q u =
          let w = writes_done e (record { read = q; rising = h; below = k }) in
          absurd (let z : ◌≡◌ {A = ℕ} 0 1 = cc in omega arith)
      go false q u = refl

pub pairs : Pairs
pairs = record {
  back = back;
  own = λ e a b h g w q. own e a b h q g w;
  only = λ a b w h k q. only a b h k w q;
  unread = unread;
  unwritten = λ a b h k. unwritten a b h k;
  printed = writes_done _ (record { read = refl; rising = omega arith; below = omega arith }) ∙ ap (λ (w : ℕ). Ok (halves w)) printed_pair;
}
