-- What the services' proofs share: of a sound table, and of what stays.
use Rattle.std.specs.Prelude.{◌≡◌, refl, ◌⊎◌, ℕ, ◌+◌, ◌/◌, ◌<◌, ◌≤◌}
use Rattle.std.proofs.Common.{sym, ◌∙◌, inl, inr, arith}
use Rattle.loops.specs.Laws.Climb.{no_self}
use Rattle.tables.specs.State.{Opt, some, Entry, Area, K, Same}
use Rattle.tables.specs.Lines.{Holds, Clear}
use Rattle.sound.specs.Sound.{Present}
use Rattle.sound.specs.Core.{Inside, Whole, Backed, Core}
use Rattle.sound.specs.Properties.{Child}

-- ── a sound table ──
module _ {k : K} (h : Core k) where
  -- who has an entry is present
  pub entry_present : (p i : ℕ) (e : Entry) → k.slot p i ≡ some e → Present k p
  entry_present p i e u = let (a, v) = h.s5 p i e u in h.s2_absent p (1 + i / 8) a v

  -- who is given an entry is a child of its giver
  pub given_child : (p i : ℕ) (e : Entry) → k.slot p i ≡ some e → (e.given ≡ 0 → ⊥) → Child k p e.given
  given_child p i e u n = let (a, z) = h.s7_given_law p i e u n in record { present = a; other = n; parent = z }

  -- nobody is its own child
  pub child_other : {p c : ℕ} → Child k p c → p ≡ c → ⊥
  child_other {c = c} d z = d.other (no_self (h.s2_climb c d.present) (d.parent ∙ z))

-- ── what stays ──
pub same_clear : {area : ℕ → ℕ → Opt Area} {a e : Entry} → Same a e → Clear area e → Clear area a
same_clear w c q j b l u x y = c q j b l u x (omega arith)

-- p has entry e, whatever its slot
abbrev pub Has : (ℕ → ℕ → Opt Entry) → ℕ → Entry → Type 0
Has slot p e = (i : ℕ) × (slot p i ≡ some e)

-- who holds a line holds it where the entry stays
pub still : {slot new : ℕ → ℕ → Opt Entry} {p l : ℕ} (u : Holds slot p l) → Has new p u.e → Holds new p l
still u (i, v) = record { i = i; e = u.e; at = v; holds = u.holds }

-- a is a part of e, with its rights
pub record PartOf (a e : Entry) : Type 0 where
  pub from : e.start ≤ a.start
  pub to : a.stop ≤ e.stop
  pub rights : a.rights ≡ e.rights

pub itself : (e : Entry) → PartOf e e
itself e = record { from = omega arith; to = omega arith; rights = refl }

module _ {slot new : ℕ → ℕ → Opt Entry} {up now : ℕ → ℕ} {p : ℕ} (q : now p ≡ up p) where
  -- around a part of e is what was around e
  unfoldable pub inside_at : {a e : Entry} → PartOf a e → (o : Inside slot up p e) → Has new (up p) o.f → Inside new now p a
  inside_at w o (i, u) = record { i = i; f = o.f; at = rw q u; given = o.given; from = omega arith; to = omega arith; sub = rw w.rights o.sub }

  -- a whole entry equals what it equalled
  pub whole_at : {area less : ℕ → ℕ → Opt Area} {e : Entry} → (Clear area e → Clear less e) → (w : Whole area slot up p e) → Has new (up p) w.f → Whole less new now p e
  whole_at c w (i, u) = record {
    clear = c w.clear;
    free = w.free;
    other = w.other;
    i = i;
    f = w.f;
    at = rw q u;
    given = w.given;
    start = w.start;
    stop = w.stop;
  }

  pub backed_at : {j : ℕ} {a : Area} (b : Backed slot up p j a) → Has new b.q b.e → Backed new now p j a
  backed_at {j} b (i, u) = record { q = b.q; who = go b.who; i = i; e = b.e; at = u; free = b.free; lo = b.lo; hi = b.hi }
    where
      go : (b.q ≡ up p) ⊎ ((b.q ≡ p) × (0 < j)) → (b.q ≡ now p) ⊎ ((b.q ≡ p) × (0 < j))
      go (inl z) = inl (z ∙ sym q)
      go (inr z) = inr z
