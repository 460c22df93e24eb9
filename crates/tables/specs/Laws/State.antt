-- Equal things that are there have equal parts; and nothing is both there and absent.
use Rattle.std.specs.Prelude.{◌≡◌, ℕ}
use Rattle.std.proofs.Common.{ap, sym, ◌∙◌, arith}
use Rattle.tables.specs.State.{Opt, none, some, Entry, Area, Same, SameA}

-- ── equalities, as facts that omega reads ──
pub some_inj : {A : Type 0} {a b : A} → some a ≡ some b → a ≡ b
some_inj h = cc

pub not_none : {A B : Type 0} {a : A} (o : Opt A) → o ≡ none → o ≡ some a → B
not_none o p q = absurd (let z : ◌≡◌ {A = ℕ} 0 1 = cc in omega arith)

-- what is never some is none
pub never_some : {A : Type 0} (o : Opt A) → ((a : A) → o ≡ some a → ⊥) → o ≡ none
never_some none h = cc
never_some (some a) h = absurd (h a (cc))

pub same : {a b : Entry} → a ≡ b → Same a b
same h = record {
  start = ap (λ (x : Entry). x.start) h;
  stop = ap (λ (x : Entry). x.stop) h;
  given = ap (λ (x : Entry). x.given) h;
  rights = ap (λ (x : Entry). x.rights) h;
  whole = ap (λ (x : Entry). x.whole) h;
}

-- what a slot holds is one thing
pub same_at : {a b : Entry} (o : Opt Entry) → o ≡ some a → o ≡ some b → Same a b
same_at o p q = same (some_inj (sym p ∙ q))

pub same_a : {a b : Area} → a ≡ b → SameA a b
same_a h = record { lo = ap (λ (x : Area). x.lo) h; hi = ap (λ (x : Area). x.hi) h }
