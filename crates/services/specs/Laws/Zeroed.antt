-- To clear one record is to clear a set of one; two sets after each other are one set; sets with the same members leave the same table.
use Rattle.std.specs.Prelude.{◌≡◌, refl, Bool, true, false, cond, ◌||◌, ℕ, eqb}
use Rattle.std.proofs.Common.{ap, ◌∙◌, eq-eqb, ne_eqb}
use Rattle.std.proofs.Math.Decide.{ℕ_discrete}
use Rattle.tables.specs.State.{none, Table}
use Rattle.tables.specs.Update.{upd1}
use Rattle.tables.specs.Laws.Update.{upd1_same, upd1_other}
use Rattle.tables.specs.Write.{clear_record}
use Rattle.rules.specs.Rules.{records_zero}
use Rattle.services.specs.Zeroed.{zero_records}

-- ── one record ──
one : {A : Type 0} (f : ℕ → A) (p : ℕ) (a : A) → upd1 f p a ≡ records_zero (λ q. eqb q p) a f
one f p a = λ x q. at q (ℕ_discrete q p) x
  where
    at : (q : ℕ) → Dec (q ≡ p) → upd1 f p a q ≡ cond (eqb q p) a (f q)
    at q (yes z) = upd1_same f p a q z ∙ rw (eq-eqb q p z) refl
    at q (no z) = upd1_other f p a q z ∙ rw (ne_eqb q p z) refl

pub zero_one : (t : Table) (p : ℕ) → clear_record t p ≡ zero_records t (λ q. eqb q p)
zero_one t p = λ x. record {
  k = record {
    base = t.k.base;
    stop = t.k.stop;
    current = t.k.current;
    parent = one t.k.parent p 0 x;
    area = one t.k.area p (λ j. none) x;
    slot = one t.k.slot p (λ i. none) x;
  };
  opened = one t.opened p (λ i. false) x;
  region = one t.region p (λ r. none) x;
}

-- ── those of n after those of m ──
more : {A : Type 0} (m n : ℕ → Bool) (a : A) (f : ℕ → A) → records_zero n a (records_zero m a f) ≡ records_zero (λ q. m q || n q) a f
more {A} m n a f = λ x q. at (m q) (n q) (f q) x
  where
    at : (b c : Bool) (o : A) → cond c a (cond b a o) ≡ cond (b || c) a o
    at true true o = refl
    at true false o = refl
    at false true o = refl
    at false false o = refl

pub zero_more : (t : Table) (m n : ℕ → Bool) → zero_records (zero_records t m) n ≡ zero_records t (λ q. m q || n q)
zero_more t m n = λ x. record {
  k = record {
    base = t.k.base;
    stop = t.k.stop;
    current = t.k.current;
    parent = more m n 0 t.k.parent x;
    area = more m n (λ j. none) t.k.area x;
    slot = more m n (λ i. none) t.k.slot x;
  };
  opened = more m n (λ i. false) t.opened x;
  region = more m n (λ r. none) t.region x;
}

-- two sets with the same members
pub zero_same : (t : Table) {m n : ℕ → Bool} → ((q : ℕ) → m q ≡ n q) → zero_records t m ≡ zero_records t n
zero_same t h = ap (zero_records t) (λ x q. h q x)
