-- What the number of an answer of `can_write` says of its tests: open, write right, loaded, current, few pieces.
use Rattle.std.specs.Prelude.{◌≡◌, refl, Bool, true, false, cond}
use Rattle.std.proofs.Common.{sym, true≢false, arith}
use Rattle.who.specs.declared.facts.CanWrite.{CanWrite}
use Rattle.who.specs.declared.facts.CanWrite.TheVariants.{Closed, NoRight, ManyPieces, IfLoaded, IfCurrent, Now}
use Rattle.who.specs.Who.{can_number}

abbrev pub answer : Bool → Bool → Bool → Bool → Bool → CanWrite
answer o w x c f = cond o (cond w (cond x (cond c Now IfCurrent) (cond f IfLoaded ManyPieces)) NoRight) Closed

pub is_closed : (o w x c f : Bool) → can_number (answer o w x c f) ≡ 0 → o ≡ true → ⊥
is_closed true true true true f q _ = omega (arith, q)
is_closed true true true false f q _ = omega (arith, q)
is_closed true true false c true q _ = omega (arith, q)
is_closed true true false c false q _ = omega (arith, q)
is_closed true false x c f q _ = omega (arith, q)
is_closed false w x c f q z = true≢false (sym z)

pub is_many : (o w x c f : Bool) → can_number (answer o w x c f) ≡ 2 → f ≡ false
is_many o w x c false q = refl
is_many true true true true true q = absurd (omega (arith, q))
is_many true true true false true q = absurd (omega (arith, q))
is_many true true false c true q = absurd (omega (arith, q))
is_many true false x c true q = absurd (omega (arith, q))
is_many false w x c true q = absurd (omega (arith, q))

pub is_if_loaded : (o w x c f : Bool) → can_number (answer o w x c f) ≡ 3 → (o ≡ true) × (f ≡ true)
is_if_loaded true true false c true q = (refl, refl)
is_if_loaded true true true true f q = absurd (omega (arith, q))
is_if_loaded true true true false f q = absurd (omega (arith, q))
is_if_loaded true true false c false q = absurd (omega (arith, q))
is_if_loaded true false x c f q = absurd (omega (arith, q))
is_if_loaded false w x c f q = absurd (omega (arith, q))
