-- settle makes a table right: each open bit by S9, and regions only of open entries. A right table is settled.
use Rattle.std.specs.Prelude.{◌≡◌, refl, Bool, true, ◌⊎◌, ℕ, ◌^◌, ◌<◌}
use Rattle.std.proofs.Common.{sym, ◌∙◌, inl, inr}
use Rattle.std.proofs.lemmas.Bool.{false≢true}
use Rattle.tables.specs.State.{Opt, none, some, Entry, Area, K, Table}
use Rattle.tables.specs.Update.{upd}
use Rattle.tables.specs.Laws.Update.{upd_from}
use Rattle.tables.specs.Settle.{open_bit, open_at, keep, settle}
use Rattle.tables.specs.Laws.Kept.{keep_some}
use Rattle.sound.specs.Laws.Meets.{open_clear}
use Rattle.sound.specs.Core.{Core}
use Rattle.rules.specs.Rules.{unloaded}
use Rattle.rules.specs.Laws.Unloaded.{unloaded_was}
use Rattle.sound.specs.Whole.{Right}
use Rattle.sound.specs.Laws.Settled.{settled_same as same, right_settled}

-- ── regions ──
-- eight regions, and no slot twice in a partition
pub record Loads (region : ℕ → ℕ → Opt ℕ) : Type 0 where
  pub eight : (p r i : ℕ) → region p r ≡ some i → r < 8
  pub once : (p r q i : ℕ) → region p r ≡ some i → region p q ≡ some i → r ≡ q

pub right_loads : {t : Table} → Right t → Loads t.region
right_loads h = record { eight = h.eight; once = λ p. (h.s10 p).once }

-- regions emptied
pub loads_fewer : {region new : ℕ → ℕ → Opt ℕ} → Loads region → ((p r i : ℕ) → new p r ≡ some i → region p r ≡ some i) → Loads new
loads_fewer h f = record { eight = λ p r i u. h.eight p r i (f p r i u); once = λ p r q i u v. h.once p r q i (f p r i u) (f p q i v) }

-- slots unloaded
pub loads_unloaded : {region : ℕ → ℕ → Opt ℕ} → Loads region → (c : ℕ) (m : ℕ → Bool) → Loads (unloaded region c m)
loads_unloaded {region} h c m = loads_fewer h (λ p r i u. (unloaded_was region c m p r i u).0)

-- region r of p loaded with slot s, which is in no other region
pub loads_more : {region : ℕ → ℕ → Opt ℕ} {p r s : ℕ} → Loads region → r < 8 → ((q : ℕ) → (q ≡ r → ⊥) → region p q ≡ some s → ⊥) → Loads (upd region p r (some s))
loads_more {region} {p} {r} {s} h b n = record {
  eight = λ q m i u. eight q m i (from q m i u);
  once = λ q m o i u v. once q m o i (from q m i u) (from q o i v);
}
  where
    From : ℕ → ℕ → ℕ → Type 0
    From q m i = ((q ≡ p) × (m ≡ r) × (some s ≡ some i)) ⊎ (((q ≡ p) × (m ≡ r) → ⊥) × (region q m ≡ some i))

    from : (q m i : ℕ) → upd region p r (some s) q m ≡ some i → From q m i
    from q m i = upd_from region p r (some s) q m

    -- slot s of p in an old region
    twice : (q m i : ℕ) → q ≡ p → ((q ≡ p) × (m ≡ r) → ⊥) → region q m ≡ some i → some s ≡ some i → ⊥
    twice q m i z f u e = n m (λ y. f (z, y)) (rw (← z) (u ∙ sym e))

    eight : (q m i : ℕ) → From q m i → m < 8
    eight q m i (inl (_, y, _)) = rw y b
    eight q m i (inr (_, u)) = h.eight q m i u

    once : (q m o i : ℕ) → From q m i → From q o i → m ≡ o
    once q m o i (inl (_, y, _)) (inl (_, z, _)) = y ∙ sym z
    once q m o i (inl (z, _, e)) (inr (f, u)) = absurd (twice q o i z f u e)
    once q m o i (inr (f, u)) (inl (z, _, e)) = absurd (twice q m i z f u e)
    once q m o i (inr (_, u)) (inr (_, v)) = h.once q m o i u v

-- ── settle ──
open_some : (area : ℕ → ℕ → Opt Area) (x : Opt Entry) → open_bit area x ≡ true → (e : Entry) × (x ≡ some e)
unfolding open_bit
open_some area none q = absurd (false≢true q)
open_some area (some e) q = (e, refl)

pub settle_right : {k : K} {region : ℕ → ℕ → Opt ℕ} → Core k → k.stop < 2 ^ 27 → Loads region → Right (settle k region)
unfolding settle open_at open_bit
settle_right {k} {region} h b g = record {
  core = h;
  stop = b;
  closed = λ p i u. rw u refl;
  eight = kept.eight;
  s9 = λ p i e u. rw u (open_clear k.area h.s2_range e);
  s10 = λ p. record {
    names = λ r i u. let o = (keep_some (open_at k p) (region p r) i u).1 in (open_some k.area (k.slot p i) o, o);
    once = kept.once p;
  };
}
  where
    kept : Loads (λ p r. keep (open_at k p) (region p r))
    kept = loads_fewer g (λ p r i u. (keep_some (open_at k p) (region p r) i u).0)

-- a right table is settled: a service that only reads changes no word
pub right_same : {t : Table} → Right t → settle t.k t.region ≡ t
right_same h = same (right_settled h)
