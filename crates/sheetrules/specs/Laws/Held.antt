-- The lines that a partition holds, added up entry by entry, are at most end less base, so the field of 27 bits has room; the root's are exactly that.
use Rattle.std.specs.Prelude.{◌≡◌, Bool, true, false, ◌&&◌, ◌||◌, leb, ltb}
use Rattle.std.proofs.Math.Path.{refl, sym}
use Prim.Native.Nat.{ℕ, zero, suc, ◌+◌, ◌-◌, ◌≤◌, ◌<◌, min}
use Rattle.std.proofs.Math.Decide.{dec_lt}
use native.Mathlib.Omega.{arith}
use Rattle.std.proofs.Common.{leb-true, le-leb, lt-ltb, le-ltb}
use Rattle.std.proofs.lemmas.Bool.{lt-leb}
use Rattle.loops.specs.Loops.{bit_of, any, rest, carried, sum, count}
use Rattle.loops.specs.Laws.Every.{any_at, any_of, any_more, bool_ext}
use Rattle.loops.specs.Laws.Count.{count_ext, count_apart, count_fewer}
use Rattle.tables.specs.State.{Opt, none, some, Entry, K}
use Rattle.tables.specs.Search.{holds}
use Rattle.sound.specs.Laws.Tests.{and_says}
use Rattle.sound.proofs.Laws.MeansEntries.{holds_means}
use Rattle.sound.specs.Core.{Core}
use Rattle.sound.proofs.Laws.Found.{in_table}
use Rattle.sound.specs.Laws.Properties.{held_range}
use Rattle.sheetrules.specs.Sheet.{number_of_lines, held_lines}

-- so many numbers below n lie in a to b
count_to : (n a b : ℕ) → count n (λ l. leb a l && ltb l b) ≡ min b n - a
unfolding sum carried
count_to zero a b = omega arith
count_to (suc n) a b = go (dec_lt n b) (dec_lt n a) (count_to n a b)
  where
    go : Dec (n < b) → Dec (n < a) → count n (λ l. leb a l && ltb l b) ≡ min b n - a → count n (λ l. leb a l && ltb l b) + bit_of (leb a n && ltb n b) ≡ min b (suc n) - a
    go (yes d) (yes e) ih = rw (lt-leb a n e) (omega (arith, ih))
    go (yes d) (no e) ih = rw (le-leb a n (omega arith), lt-ltb n b d) (omega (arith, ih))
    go (no d) (yes e) ih = rw (lt-leb a n e) (omega (arith, ih))
    go (no d) (no e) ih = rw (le-leb a n (omega arith), le-ltb n b (omega arith)) (omega (arith, ih))

none_held : (n : ℕ) → count n (λ l. false) ≡ 0
unfolding sum carried
none_held zero = refl
none_held (suc n) = omega (arith, none_held n)

module _ {k : K} (h : Core k) (p : ℕ) where
  -- line l lies in one of the first n slots
  abbrev in_first : ℕ → ℕ → Bool
  in_first n l = any n (λ i. holds l (k.slot p i))

  -- the lines of slot i, counted
  one : (i : ℕ) → count k.stop (λ l. holds l (k.slot p i)) ≡ number_of_lines (k.slot p i)
  unfolding number_of_lines holds
  one i = go (k.slot p i) refl
    where
      go : (o : Opt Entry) → k.slot p i ≡ o → count k.stop (λ l. holds l o) ≡ number_of_lines o
      go none u = none_held k.stop
      go (some e) u =
          let r = h.s5_range p i e u in
          let (a, b) = held_range h {p = p} {l = e.stop - 1} (record { i = i; e = e; at = u; holds = omega arith }) in
          omega (arith, count_to k.stop e.start e.stop)

  -- no line lies in two slots
  apart : (n l : ℕ) → in_first n l ≡ true → holds l (k.slot p n) ≡ false
  apart n l q = go (holds l (k.slot p n)) refl
    where
      go : (b : Bool) → holds l (k.slot p n) ≡ b → b ≡ false
      go false z = refl
      go true z =
          let (i, b, y) = any_at n (λ i. holds l (k.slot p i)) q in
          let (e, u, x) = (holds_means l (k.slot p i)).0 y in
          let (f, v, w) = (holds_means l (k.slot p n)).0 z in
          let c : i ≡ n = h.s6 p i n e f l u v x w in
          absurd (omega arith)

  -- so the lines add up to those that are held
  added : (n : ℕ) → sum n (λ i. number_of_lines (k.slot p i)) ≡ count k.stop (in_first n)
  unfolding sum carried rest
  added zero = sym (none_held k.stop)
  added (suc n) =
      let more = count_ext k.stop (in_first (n + 1)) (λ l. in_first n l || holds l (k.slot p n)) (λ l _. any_more n (λ i. holds l (k.slot p i))) in
      let parts = count_apart k.stop (in_first n) (λ l. holds l (k.slot p n)) (apart n) in
      let e : n + 1 ≡ suc n = omega arith in
      omega (arith, added n, one n, rw e at more, parts)

  in_range : (l : ℕ) → in_first 32 l ≡ true → leb k.base l && ltb l k.stop ≡ true
  in_range l q =
      let (i, _, y) = any_at 32 (λ i. holds l (k.slot p i)) q in
      let (e, u, x) = (holds_means l (k.slot p i)).0 y in
      let (a, b) = held_range h {p = p} {l = l} (record { i = i; e = e; at = u; holds = x }) in
      rw (le-leb k.base l a, lt-ltb l k.stop b) refl

  -- none lies outside
  pub held_le : held_lines k p ≤ k.stop - k.base
  held_le =
      omega (
        arith,
        added 32,
        h.s1,
        count_fewer k.stop (in_first 32) (λ l. leb k.base l && ltb l k.stop) in_range,
        count_to k.stop k.base k.stop,
      )

-- the root holds every line
pub root_lines : {k : K} → Core k → held_lines k 0 ≡ k.stop - k.base
root_lines {k} h =
    omega (
      arith,
      added h 0 32,
      h.s1,
      count_ext k.stop (in_first h 0 32) (λ l. leb k.base l && ltb l k.stop) same,
      count_to k.stop k.base k.stop,
    )
  where
    same : (l : ℕ) → l < k.stop → in_first h 0 32 l ≡ leb k.base l && ltb l k.stop
    same l b = bool_ext (in_first h 0 32 l) (leb k.base l && ltb l k.stop) (in_range h 0 l) (λ q.
        let (x, _) = and_says (leb k.base l) (ltb l k.stop) q in
        let u = (h.s7_root_law l).1 (leb-true k.base l x, b) in
        any_of 32 (λ i. holds l (k.slot 0 i)) u.i (in_table h 0 u.i u.e u.at).1 ((holds_means l (k.slot 0 u.i)).1 (u.e, u.at, u.holds)))
