-- Soundness after one more area: area j of p, which was absent, is the entry e in slot s of the caller.
use Rattle.std.specs.Prelude.{◌≡◌, refl, true, ◌⊎◌, ℕ, ◌+◌, ◌/◌, ◌≤◌, ◌<◌}
use Rattle.std.proofs.Math.Path.{sym}
use Rattle.std.proofs.Common.{◌∙◌, inl, inr, arith}
use Rattle.std.proofs.lemmas.Bool.{false≢true}
use Rattle.loops.specs.Loops.{Reaches}
use Rattle.tables.specs.State.{Opt, none, some, Entry, Area, nowhere, K}
use Rattle.tables.specs.Laws.State.{some_inj, not_none, never_some, same_a}
use Rattle.tables.specs.Update.{upd}
use Rattle.tables.specs.Laws.Update.{upd_other, upd_from}
use Rattle.tables.specs.Write.{with_area}
use Rattle.tables.specs.Lines.{In, InA, Clear}
use Rattle.sound.specs.Sound.{Present, Rooted}
use Rattle.sound.specs.Core.{Whole, Backed, Core}
use Rattle.sound.specs.Laws.Chain.{free_one}
use Rattle.rules.specs.Rules.{area_of}
use Rattle.isolation.specs.Laws.Checks.{FreeArea}
use Rattle.isolation.specs.Laws.Keep.{entry_present, itself, inside_at, whole_at, backed_at}
use Rattle.isolation.specs.Laws.Two.{same_place}

-- the areas after it
abbrev pub plus : K → ℕ → ℕ → Entry → ℕ → ℕ → Opt Area
plus k p j e = upd k.area p j (some (area_of e))

-- q is present, by these areas
abbrev pub AreaThere : (ℕ → ℕ → Opt Area) → ℕ → Type 0
AreaThere area q = (a : Area) × (area q 0 ≡ some a)

-- what a new area asks, where the parents may change too
pub record Joins (k : K) (p j : ℕ) (e : Entry) (up : ℕ → ℕ) : Type 0 where
  pub number : p < 16
  pub structure : j < 5
  pub same : (q : ℕ) → Present k q → up q ≡ k.parent q
  pub header : AreaThere (plus k p j e) p
  pub who : (k.current ≡ up p) ⊎ ((k.current ≡ p) × (0 < j))
  pub orphan : (q : ℕ) → plus k p j e q 0 ≡ none → up q ≡ 0
  pub parent : (q : ℕ) → AreaThere (plus k p j e) q → AreaThere (plus k p j e) (up q)
  pub walk : (q : ℕ) → AreaThere (plus k p j e) q → Reaches up 15 q

-- an area is the new one or an old one
data From (k : K) (p j : ℕ) (e : Entry) (q i : ℕ) (a : Area) : Type 0 where
  was : k.area q i ≡ some a → From k p j e q i a
  now : q ≡ p → i ≡ j → area_of e ≡ a → From k p j e q i a

from : (k : K) (p j : ℕ) (e : Entry) (q i : ℕ) (a : Area) → plus k p j e q i ≡ some a → From k p j e q i a
from k p j e q i a u = go (upd_from k.area p j (some (area_of e)) q i u)
  where
    go : ((q ≡ p) × (i ≡ j) × (some (area_of e) ≡ some a)) ⊎ (((q ≡ p) × (i ≡ j) → ⊥) × (k.area q i ≡ some a)) → From k p j e q i a
    go (inl (x, y, z)) = now x y (some_inj z)
    go (inr (_, v)) = was v

module _ {k : K} {s p j : ℕ} {e : Entry} (f : FreeArea k s p j e) where
  pub area_stays : (q i : ℕ) (a : Area) → k.area q i ≡ some a → plus k p j e q i ≡ some a
  area_stays q i a u = upd_other k.area p j (some (area_of e)) q i (λ z. not_none (k.area p j) f.absent (rw (z.0, z.1) at u)) ∙ u

  pub header_stays : (q : ℕ) → Present k q → AreaThere (plus k p j e) q
  header_stays q (a, u) = (a, area_stays q 0 a u)

  -- who is absent was absent
  pub was_absent : (q : ℕ) → plus k p j e q 0 ≡ none → k.area q 0 ≡ none
  was_absent q z = never_some (k.area q 0) (λ a u. not_none (plus k p j e q 0) z (area_stays q 0 a u))

  -- who is present was present, or is p with its header
  pub was_present : (q : ℕ) → AreaThere (plus k p j e) q → Present k q ⊎ ((q ≡ p) × (j ≡ 0))
  was_present q (a, u) = go (from k p j e q 0 a u)
    where
      go : From k p j e q 0 a → Present k q ⊎ ((q ≡ p) × (j ≡ 0))
      go (was v) = inl (a, v)
      go (now z y _) = inr (z, sym y)

  module _ (h : Core k) {up : ℕ → ℕ} (t : Joins k p j e up) where
    range : (q i : ℕ) (a : Area) → From k p j e q i a → (q < 16) × (i < 5)
    range q i a (was v) = h.s2_range q i a v
    range q i a (now z y _) = rw (z, y) (t.number, t.structure)

    owner : (q i : ℕ) (a : Area) → From k p j e q i a → AreaThere (plus k p j e) q
    owner q i a (was v) = header_stays q (h.s2_absent q i a v)
    owner q i a (now z _ _) = rw z t.header

    long : (q i : ℕ) (a : Area) → From k p j e q i a → (Rooted q i → ⊥) → a.lo + 16 ≤ a.hi
    long q i a (was v) n = h.s4 q i a v n
    long q i a (now _ _ w) n = rw (← w) f.long

    backed : (q i : ℕ) (a : Area) → From k p j e q i a → (Rooted q i → ⊥) → Backed k.slot up q i a
    backed q i a (was v) n = let b = h.s8 q i a v n in backed_at (t.same q (h.s2_absent q i a v)) b (b.i, b.at)
    backed q i a (now z y w) n =
        let x = same_a w in
        record { q = k.current; who = rw (z, y) t.who; i = s; e = e; at = f.entry.at; free = f.entry.free; lo = x.lo; hi = x.hi }

    -- a whole entry with a line of e would be e itself, which is not whole: of all entries with that line one is not given
    clear : (q i : ℕ) (a : Entry) → k.slot q i ≡ some a → (w : Whole k.area k.slot k.parent q a) → a.whole ≡ true → Clear (plus k p j e) a
    clear q i a u w z r m b l v x y = go (from k p j e r m b v)
      where
        here : In l e → ⊥
        here n =
            let o = free_one h u w.free y f.entry.at f.entry.free n in
            let g : k.slot k.current i ≡ some a = rw o at u in
            let d = same_place k.slot f.entry.at g (refl, h.s6 k.current i s a e l g f.entry.at y n) in
            false≢true (sym f.plain ∙ sym d.whole ∙ z)

        go : From k p j e r m b → ⊥
        go (was v) = w.clear r m b l v x y
        go (now _ _ t) = let d = same_a t in here (omega arith)

    apart : (q i r m : ℕ) (a b : Area) (l : ℕ) → From k p j e q i a → From k p j e r m b → InA l a → InA l b → (q ≡ r) × (i ≡ m)
    apart q i r m a b l (was u) (was v) x y = h.s8_apart_law q i r m a b l u v x y
    apart q i r m a b l (was u) (now _ _ w) x y = let z = same_a w in absurd (f.entry.clear q i a l u x (omega arith))
    apart q i r m a b l (now _ _ w) (was v) x y = let z = same_a w in absurd (f.entry.clear r m b l v y (omega arith))
    apart q i r m a b l (now z y _) (now w v _) _ _ = (z ∙ sym w, y ∙ sym v)

    pub area_core : Core (with_area k up (plus k p j e))
    unfolding inside_at
    area_core = record {
      s1 = h.s1;
      s1_current = header_stays k.current h.s1_current;
      s2_root_law = (
        area_stays 0 0 nowhere h.s2_root_law.0,
        area_stays 0 1 nowhere h.s2_root_law.1,
        t.same 0 (nowhere, h.s2_root_law.0) ∙ h.s2_root_law.2,
      );
      s2_range = λ q i a u. range q i a (from k p j e q i a u);
      s2_absent = λ q i a u. owner q i a (from k p j e q i a u);
      s2_parent = t.orphan;
      s2_up = t.parent;
      s2_climb = t.walk;
      s4 = λ q i a u. long q i a (from k p j e q i a u);
      s5 = λ q i a u. let (b, v) = h.s5 q i a u in (b, area_stays q (1 + i / 8) b v);
      s5_range = h.s5_range;
      s6 = h.s6;
      s7_root_law = h.s7_root_law;
      s7_given_law = λ q i a u n. let (b, v) = h.s7_given_law q i a u n in (header_stays a.given b, t.same a.given b ∙ v);
      s7_in = λ q i a u n. let o = h.s7_in q i a u n in inside_at (t.same q (entry_present h q i a u)) (itself a) o (o.i, o.at);
      s7_cover_law = h.s7_cover_law;
      s7_whole_law = λ q i a u z.
          let w = h.s7_whole_law q i a u z in
          whole_at (t.same q (entry_present h q i a u)) (λ _. clear q i a u w z) w (w.i, w.at);
      s8 = λ q i a u. backed q i a (from k p j e q i a u);
      s8_apart_law = λ q i r m a b l u v. apart q i r m a b l (from k p j e q i a u) (from k p j e r m b v);
      s11 = h.s11;
      s11_equal_law = λ q i m a b n u v o r.
          let before = sym (t.same q (entry_present h q i a u)) in
          h.s11_equal_law q i m a b n u v (inside_at before (itself a) o (o.i, o.at)) (inside_at before (itself b) r (r.i, r.at));
    }
