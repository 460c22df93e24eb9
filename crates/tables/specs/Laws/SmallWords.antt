-- The words of a table that fits are below 2^64.
use Rattle.std.specs.Prelude.{◌≡◌, Bool, true, false, cond, ℕ, ◌-◌, ◌/◌, ◌%◌, ◌^◌, ◌<◌, get_or, eqb, ltb}
use Rattle.std.proofs.Math.Path.{refl}
use native.Mathlib.Omega.{arith}
use Rattle.std.proofs.Math.Decide.{dec_lt}
use Rattle.std.proofs.Math.ListN.{get_or-eq_default}
use Rattle.words.specs.Laws.Kind.{word_small}
use Rattle.words.specs.Laws.Kinds.{first_range, header_range, structure_range, slot_range, first_lawful, header_lawful, structure_lawful, regions_lawful, slot_lawful}
use Rattle.tables.specs.State.{Opt, none, some, Entry, Area, Table}
use Rattle.tables.specs.Encode.{slot_for, slot_word, header_for, header_word, structure_for, structure_word, regions_for, regions_word, first_for, part_word, word_for, encode}
use Rattle.tables.specs.Laws.Encode.{encode_length, encode_at}
use Rattle.tables.specs.Laws.Back.{Fit, regions_fit}
use Rattle.tables.specs.Fitting.{Words}

either_small : (b : Bool) {x y : ℕ} → x < 2 ^ 64 → y < 2 ^ 64 → cond b x y < 2 ^ 64
either_small true h g = h
either_small false h g = g

module _ {t : Table} (h : Fit t) where
  slot_small : (p i : ℕ) → slot_word (t.k.slot p i) (t.opened p i) < 2 ^ 64
  unfolding slot_word
  slot_small p i = go (t.k.slot p i) refl
    where
      go : (x : Opt Entry) → t.k.slot p i ≡ x → slot_word x (t.opened p i) < 2 ^ 64
      go none u = omega arith
      go (some e) u =
          let f = slot_for e (t.opened p i) in
          let b = h.slot p i e u in
          word_small slot_lawful f (slot_range f b.2 b.3 b.4)

  header_small : (p : ℕ) → header_word (t.k.parent p) (t.k.area p 0) < 2 ^ 64
  unfolding header_word
  header_small p = go (t.k.area p 0) refl
    where
      go : (x : Opt Area) → t.k.area p 0 ≡ x → header_word (t.k.parent p) x < 2 ^ 64
      go none u = omega arith
      go (some a) u =
          let f = header_for (t.k.parent p) a in
          let b = h.area p 0 a u in
          word_small header_lawful f (header_range f (h.parent p) b.2 b.3)

  structure_small : (p j : ℕ) → structure_word (t.k.area p j) < 2 ^ 64
  unfolding structure_word
  structure_small p j = go (t.k.area p j) refl
    where
      go : (x : Opt Area) → t.k.area p j ≡ x → structure_word x < 2 ^ 64
      go none u = omega arith
      go (some a) u =
          let f = structure_for a in
          let b = h.area p j a u in
          word_small structure_lawful f (structure_range f b.2 b.3)

  regions_word_small : (p : ℕ) → regions_word (t.region p) < 2 ^ 64
  unfolding regions_word
  regions_word_small p = word_small regions_lawful (regions_for (t.region p)) (regions_fit (t.region p) (λ r i u. (h.region p r i u).2))

  word_for_small : (n : ℕ) → word_for t n < 2 ^ 64
  unfolding word_for part_word
  word_for_small n =
      let p = (n - 1) / 40 in
      let o = (n - 1) % 40 in
      let f = first_for t.k in
      let zero : 0 < 2 ^ 64 = omega arith in
      either_small (eqb n 0) (word_small first_lawful f (first_range f h.base h.stop h.current))
      (either_small (ltb o 8)
      (either_small (eqb o 5) (regions_word_small p)
      (either_small (eqb o 0) (header_small p)
      (either_small (ltb o 5) (structure_small p o) zero)))
      (slot_small p (o - 8)))

  pub encode_small : Words (encode t)
  encode_small = record { small = λ n. go n (dec_lt n 641) }
    where
      go : (n : ℕ) → Dec (n < 641) → get_or (encode t) n 0 < 2 ^ 64
      go n (yes b) = rw (encode_at t n b) (word_for_small n)
      go n (no b) = rw (get_or-eq_default (encode t) 0 {n = n} (rw (encode_length t) (omega arith))) (omega arith)
