-- Of a sound table: the search for a line finds the one slot of a partition that holds it, and its entry says who the heir is.
use Rattle.std.specs.Prelude.{◌≡◌, ℕ, ◌+◌, ◌/◌, ◌<◌}
use Rattle.std.proofs.Math.Path.{refl}
use Rattle.std.proofs.Common.{ap, sym, ◌∙◌, arith}
use Rattle.std.proofs.lemmas.Bool.{false≢true}
use Rattle.tables.specs.State.{Opt, none, some, Entry, K}
use Rattle.tables.specs.Lines.{In, Holds}
use Rattle.tables.specs.Search.{lowest, holds_at}
use Rattle.tables.specs.Laws.Search.{lowest_some, lowest_none}
use Rattle.sound.specs.Core.{Core}
use Rattle.sound.specs.Holders.{receiver, given_by, heir}
use Rattle.sound.proofs.Laws.MeansEntries.{holds_means}

module _ {k : K} (h : Core k) where
  pub in_table : (p i : ℕ) (e : Entry) → k.slot p i ≡ some e → (p < 16) × (i < 32)
  in_table p i e u =
      let (a, v) = h.s5 p i e u in
      let r = h.s2_range p (1 + i / 8) a v in
      (r.0, omega (arith, r.1))

  -- the slot that holds line m is found: no other does
  pub line_found : (p i m : ℕ) (e : Entry) → k.slot p i ≡ some e → In m e → lowest 32 (holds_at k p m) ≡ some i
  line_found p i m e x y = go (lowest 32 (holds_at k p m)) refl
    where
      go : (o : Opt ℕ) → lowest 32 (holds_at k p m) ≡ o → o ≡ some i
      go none r = absurd (false≢true (sym (lowest_none 32 (holds_at k p m) r i (in_table p i e x).1) ∙ (holds_means m (k.slot p i)).1 (e, x, y)))
      go (some j) r =
          let (f, s, t) = (holds_means m (k.slot p j)).0 (lowest_some 32 (holds_at k p m) j r).holds in
          ap some (h.s6 p j i f e m s x t y)

  -- the heir is whom its entry is given to ..
  pub heir_is : {p l : ℕ} (u : Holds k.slot p l) → heir k l p ≡ u.e.given
  unfolding heir given_by receiver
  heir_is {p} {l} u = rw (line_found p u.i l u.e u.at u.holds, u.at) refl

  -- .. who holds the line, and p is its parent
  pub heir_holds : {p l : ℕ} → Holds k.slot p l → (heir k l p ≡ 0 → ⊥) → Holds k.slot (heir k l p) l × (k.parent (heir k l p) ≡ p)
  heir_holds {p} {l} u n =
      let q = heir_is u in
      let m : u.e.given ≡ 0 → ⊥ = λ z. n (q ∙ z) in
      rw q (h.s7_cover_law p u.i u.e l u.at m u.holds, (h.s7_given_law p u.i u.e u.at m).1)
