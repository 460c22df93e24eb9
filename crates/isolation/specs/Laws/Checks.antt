-- What is known of an entry that passed 4, 5, 6, 8, 9 and 18; and that tests which several services make mean their conditions.
use Rattle.std.specs.Prelude.{◌≡◌, refl, Bool, true, false, not, ◌↔◌, ℕ, ◌+◌, ◌/◌, ◌≤◌}
use Rattle.std.proofs.Common.{ap, sym}
use Rattle.std.proofs.lemmas.Bool.{false≢true, not-true}
use Rattle.tables.specs.State.{Opt, none, some, Entry, K, Table}
use Rattle.tables.specs.Laws.State.{not_none}
use Rattle.tables.specs.Search.{is_none, child, free}
use Rattle.tables.specs.Lines.{Clear}
use Rattle.sound.specs.Clauses.{long}
use Rattle.sound.specs.Laws.Tests.{and_says, and_true}
use Rattle.sound.specs.Laws.Means.{eq_means, le_means, or_means}
use Rattle.sound.proofs.Laws.MeansEntries.{is_some_means, child_means}
use Rattle.sound.specs.Properties.{Child}
use Rattle.sound.specs.Whole.{Right}
use Rattle.rules.specs.Rules.{Effect, own_or_child, free_entry, area_of}
use Rattle.isolation.specs.Ladder.{Ladder, Answers}
use Rattle.isolation.specs.Laws.Ladder.{check_answers, need_answers}
use Rattle.isolation.specs.Ladders.{OwnOrChild, FreeSlot, free_ladder}

-- 4, 5, 6: slot s of the caller holds entry e, which is open and not given
pub record FreeEntry (k : K) (s : ℕ) (e : Entry) : Type 0 where
  pub at : k.slot k.current s ≡ some e
  pub clear : Clear k.area e
  pub free : e.given ≡ 0

-- 4, 5, 6, 8, 9, 18: such an entry, of 16 lines or more and not whole, can become area j of p, which is absent
pub record FreeArea (k : K) (s p j : ℕ) (e : Entry) : Type 0 where
  pub entry : FreeEntry k s e
  pub absent : k.area p j ≡ none
  pub long : e.start + 16 ≤ e.stop
  pub plain : e.whole ≡ false

-- ── 4, 5, 6 as conditions ──
pub free_answers : {t : Table} {s : ℕ} {f : Entry → Effect} {c : Entry → Ladder}
    → Right t → ((e : Entry) → Answers (c e) (f e)) → Answers (free_ladder t.k s c) (free_entry t s f)
unfolding free_entry
free_answers {t} {s} h g =
    need_answers λ e u.
    check_answers (h.s9 t.k.current s e u) λ _.
    check_answers (eq_means e.given 0) λ _.
    g e

-- ── what the tests mean ──
pub unset_means : (a : Bool) → (not a ≡ true) ↔ (a ≡ false)
unset_means a = (not-true a, λ q. ap not q)

pub is_none_means : {A : Type 0} (o : Opt A) → (is_none o ≡ true) ↔ (o ≡ none)
is_none_means none = (λ _. refl, λ _. refl)
is_none_means (some a) = (λ q. absurd (false≢true q), λ u. not_none none refl (sym u))

module _ (k : K) where
  pub is_child_means : (p c : ℕ) → (child k p c ≡ true) ↔ Child k p c
  is_child_means p c =
      let m = child_means k p c in
      (λ q. let (a, n, u) = m.0 q in record { present = a; other = n; parent = u }, λ h. m.1 (h.present, h.other, h.parent))

  pub own_means : (p : ℕ) → (own_or_child k p ≡ true) ↔ OwnOrChild k p
  unfolding own_or_child
  own_means p = or_means (eq_means p k.current) (is_child_means k.current p)

  pub free_means : (p i : ℕ) → (free k p i ≡ true) ↔ FreeSlot k p i
  unfolding free
  free_means p i =
      let room = is_some_means (k.area p (1 + i / 8)) in
      let empty = is_none_means (k.slot p i) in (
        λ q. let (u, v) = and_says _ _ q in record { room = room.0 u; empty = empty.0 v },
        λ h. and_true _ _ (room.1 h.room) (empty.1 h.empty),
      )

pub long_means : (e : Entry) → (long (area_of e) ≡ true) ↔ (e.start + 16 ≤ e.stop)
unfolding long
long_means e = le_means (e.start + 16) e.stop
