-- S7's part on given and whole entries slot by slot; an empty slot passes it.
use Rattle.std.specs.Prelude.{◌≡◌, refl, Bool, true, not, ◌&&◌, ◌||◌, List, ℕ, ◌≤◌, ◌<◌, eqb}
use Rattle.std.proofs.Common.{◌∙◌}
use Rattle.loops.specs.Loops.{all}
use Rattle.loops.specs.Laws.Every.{bool_ext, all_ext}
use Rattle.tables.specs.State.{Opt, none, some, Entry, Table}
use Rattle.tables.specs.View.{view}
use Rattle.tables.specs.Search.{child}
use Rattle.sound.specs.Clauses.{when, s7_given, undivided, s7_whole}
use Rattle.sound.specs.Laws.Tests.{and_says, and_true, all_and}
use Rattle.ordering.specs.Used.{Bound}
use Rattle.covering.specs.Cover.{given_slot}

pub given_each_is : (t : Table) (p : ℕ) → all 32 (given_slot t p) ≡ s7_given t.k p && s7_whole t p
unfolding given_slot s7_given s7_whole when
given_each_is t p =
    all_ext 32 (given_slot t p) (λ i. when given (t.k.slot p i) && when (whole i) (t.k.slot p i)) (λ i _. both i (t.k.slot p i))
    ∙ all_and 32 (λ i. when given (t.k.slot p i)) (λ i. when (whole i) (t.k.slot p i))
  where
    given : Entry → Bool
    given e = eqb e.given 0 || child t.k p e.given

    whole : ℕ → Entry → Bool
    whole i e = not e.whole || undivided t.k p (t.opened p i) e

    both : (i : ℕ) (o : Opt Entry) → when (λ e. whole i e && given e) o ≡ when given o && when (whole i) o
    both i none = refl
    both i (some e) = turned (whole i e) (given e)
      where
        turned : (a b : Bool) → (a && b) ≡ (b && a)
        turned a b = bool_ext _ _ (λ q. let (x, y) = and_says a b q in and_true _ _ y x) (λ q. let (x, y) = and_says b a q in and_true _ _ y x)

-- an empty slot is given to nobody
pub given_empty : {l : List ℕ} {p m : ℕ} → Bound l p m → (i : ℕ) → m ≤ i → i < 32 → given_slot (view l) p i ≡ true
unfolding given_slot when
given_empty h i a b = rw (h.empty i a b) refl
