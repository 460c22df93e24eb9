-- On ARMv8-M no refusal of a call is above 18: the statement of Plain.antt, with its proof.
use Rattle.std.specs.Prelude.{refl, Bool, true, false, cond, List, ℕ, ◌≤◌}
use Rattle.std.proofs.Common.{arith, lit≤}
use Rattle.words.specs.Kind.{fields_in}
use Rattle.words.specs.Words.{call}
use Rattle.words.specs.declared.call_word.CallFields.{CallFields}
use Rattle.words.specs.declared.Refusal.{Refusal}
use Rattle.words.specs.Refusals.{number_of}
use Rattle.shapes.specs.declared.Board.TheVariants.{V8}
use Rattle.tables.specs.State.{Opt, some, Table}
use Rattle.tables.specs.Update.{upd}
use Rattle.tables.specs.View.{view}
use Rattle.sound.specs.Laws.Limit.{plain_few}
use Rattle.isolation.specs.Ladder.{Ladder, finish, must, there, least}
use Rattle.isolation.specs.Ladders.{load_ladder, numbered_ladder, call_ladder}
use Rattle.demands.specs.Demands.{Applies, fails, later, missing, of_entry, no_lowest, of_lowest}
use Rattle.demands.specs.Laws.Calls.{handed_small, call_answered}
use Rattle.demands.specs.Plain.{Plain}

-- each number of the ladder is at most 18, or its condition holds
data Low : Ladder → Type 1 where
  top : {v w : ℕ} {t : Table} → Low (finish v w t)
  rung : {why : Refusal} {P : Type 0} {c : Ladder} → number_of why ≤ 18 → Low c → Low (must why P c)
  passed : {why : Refusal} {P : Type 0} {c : Ladder} → P → Low c → Low (must why P c)
  value : {why : Refusal} {A : Type 0} {o : Opt A} {c : A → Ladder} → number_of why ≤ 18 → ((a : A) → Low (c a)) → Low (there why o c)
  number : {k : ℕ} {why : Refusal} {P : ℕ → Type 0} {c : ℕ → Ladder} → number_of why ≤ 18 → ((i : ℕ) → Low (c i)) → Low (least why k P c)

applies_low : {m : ℕ} {l : Ladder} → Low l → Applies l m → m ≤ 18
applies_low top x = elim x [ ]
applies_low (rung a u) (fails _) = a
applies_low (rung a u) (later x) = applies_low u x
applies_low (passed p u) (fails q) = absurd (q p)
applies_low (passed p u) (later x) = applies_low u x
applies_low (value a u) (missing _) = a
applies_low (value a u) (of_entry e _ x) = applies_low (u e) x
applies_low (number a u) (no_lowest _) = a
applies_low (number a u) (of_lowest i _ x) = applies_low (u i) x

-- 19 is load's alone, and its condition holds
load_low : (t : Table) (p s r : ℕ) → Low (load_ladder V8 t p s r)
load_low t p s r = let limit = plain_few t.k.slot (upd t.region p r (some s)) p in search (rung, passed, limit, value, top, lit≤) depth 20 fits 1000

-- a row of the services, or the rows after it
either : (b : Bool) {c d : Ladder} → Low c → Low d → Low (cond b c d)
either true x y = x
either false x y = y

numbered_low : (n : ℕ) (t : Table) (f : CallFields) → Low (numbered_ladder V8 n t f)
numbered_low n t f = search (either, load_low, top, rung, value, number, lit≤) depth 40 fits 4000

call_low : (l : List ℕ) (w : ℕ) → Low (call_ladder V8 l w)
call_low l w = let services = numbered_low (fields_in call w).service (view l) (fields_in call w) in search (rung, services, lit≤) depth 10

pub plain_board : Plain
plain_board = record {
  one = λ e. refl;
  limit = plain_few;
  never_19 = λ {b} {w} small h q. omega (arith, applies_low (call_low _ w) (((call_answered (handed_small b small) h).refuses 19 (omega arith)).0 q).applies);
}
