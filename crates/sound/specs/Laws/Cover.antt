-- Exact cover without a walk: the first line is held, and so is each line at which an entry inside ends.
use Rattle.std.specs.Prelude.{◌≡◌, ℕ, zero, suc, ◌≤◌, ◌<◌}
use Rattle.std.proofs.Common.{subst, arith}
use Rattle.std.proofs.Math.Decide.{ℕ_discrete, dec_lt}
use Rattle.tables.specs.State.{Opt, some, Entry}
use Rattle.tables.specs.Lines.{Holds}

-- the entries of p hold every line of lo to hi
abbrev pub Covered : (ℕ → ℕ → Opt Entry) → ℕ → ℕ → ℕ → Type 0
Covered slot p lo hi = (l : ℕ) → lo ≤ l → l < hi → Holds slot p l

-- .. the line lo, and each line inside lo to hi at which an entry ends
pub record EndsHeld (slot : ℕ → ℕ → Opt Entry) (p lo hi : ℕ) : Type 0 where
  pub first : lo < hi → Holds slot p lo
  pub next : (i : ℕ) (e : Entry) → slot p i ≡ some e → lo < e.stop → e.stop < hi → Holds slot p e.stop

module _ (slot : ℕ → ℕ → Opt Entry) (p lo hi : ℕ) where
  pub ends_cover : EndsHeld slot p lo hi → Covered slot p lo hi
  ends_cover h zero a b = let z : lo ≡ 0 = omega arith in subst (Holds slot p) z (h.first (omega arith))
  ends_cover h (suc l) a b = go (ℕ_discrete lo (suc l)) (ends_cover h l)
    where
      -- the entry that holds l holds the next line too, or ends there
      on : lo ≤ l → (u : Holds slot p l) → Dec (suc l < u.e.stop) → Holds slot p (suc l)
      on c u (yes q) = record { i = u.i; e = u.e; at = u.at; holds = omega arith }
      on c u (no q) =
          let z : u.e.stop ≡ suc l = omega arith in
          subst (Holds slot p) z (h.next u.i u.e u.at (omega arith) (omega arith))

      go : Dec (lo ≡ suc l) → (lo ≤ l → l < hi → Holds slot p l) → Holds slot p (suc l)
      go (yes q) _ = subst (Holds slot p) q (h.first (omega arith))
      go (no q) before = let u = before (omega arith) (omega arith) in on (omega arith) u (dec_lt (suc l) u.e.stop)

  pub cover_ends : Covered slot p lo hi → EndsHeld slot p lo hi
  cover_ends c = record { first = λ h. c lo (omega arith) h; next = λ i e u a b. c e.stop (omega arith) b }
