-- DEMAND 3 (specs/Theorem): a ledger kept by hand from an accepted boot always equals the listing of holders, for each line, after any list of calls.
use Rattle.std.specs.Prelude.{◌≡◌, refl, true, false, List, ℕ, ◌≤◌, ◌<◌, length, Ok}
use Rattle.std.proofs.Common.{ap, sym, arith}
use mathlib.Core.Logic.Iff
use Rattle.std.proofs.Math.Decide.{dec_lt}
use Rattle.loops.specs.Loops.{count}
use Rattle.shapes.specs.declared.Board.{Board}
use Rattle.tables.specs.State.{Table}
use Rattle.tables.specs.View.{view}
use Rattle.tables.specs.Encode.{encode}
use Rattle.sound.specs.Sound.{Sound}
use Rattle.sound.specs.Laws.Core.{sound_core}
use Rattle.sound.specs.Laws.Properties.{holder_present, held_range}
use Rattle.sound.proofs.Laws.List.{sound_means}
use Rattle.sound.specs.Holders.{holders_of, looks_of, in_memory}
use Rattle.sound.proofs.Laws.Holders.{below_base, from_end, in_memory_law, holders_one, listed_outside, listed_done}
use Rattle.rules.specs.Rules.{done, boot_on}
use Rattle.isolation.specs.Whole.{after_all}
use Rattle.isolation.proofs.Whole.{from_boot_sound}
use Rattle.ledger.specs.Ledger.{Ledger, opening, kept_on}
use Rattle.ledger.proofs.Laws.Kept.{Keeps, from_boot_kept}
use Rattle.ledger.specs.Lists.{Lists}
use Rattle.ledger.specs.Laws.Lists.{lists_same, names_counted}
use Rattle.ledger.specs.Laws.Listing.{holders_list}
use Rattle.ledger.specs.Theorem.{Demand3}

-- ── a sound table whose ledger is right ──
module _ {board : Board} {base end : ℕ} {g : Ledger} {t : List ℕ} (h : Sound board t) (s : Keeps base end g (view t).k) where
  lists : (m : ℕ) → base ≤ m → m < end → Lists (λ p. g.stands p m ≡ true) g.parent (holders_of (view t).k m)
  lists m a b = rw s.tree (lists_same (λ p. Iff.symm (s.holders p m)) (holders_list (sound_core t h) (rw s.base_is a, rw s.end_is b)))

  number : (m : ℕ) → base ≤ m → m < end → length (holders_of (view t).k m) ≡ count 16 (λ p. g.stands p m)
  number m a b =
      let c = sound_core t h in
      let w = lists m a b in
      names_counted 16 (λ p. g.stands p m) (holders_of (view t).k m) w.exactly
      (λ p x. let (a, u) = holder_present c ((s.holders p m).0 ((w.exactly p).0 x)) in (c.s2_range p 0 a u).0)
      w.once

  not_in_memory : (m : ℕ) → ((base ≤ m) × (m < end) → ⊥) → in_memory (view t).k m ≡ false
  not_in_memory m n = go (dec_lt m base) (dec_lt m end)
    where
      go : Dec (m < base) → Dec (m < end) → in_memory (view t).k m ≡ false
      go (yes a) _ = below_base (view t).k m (omega (arith, s.base_is))
      go (no a) (no b) = from_end (view t).k m (omega (arith, s.base_is)) (omega (arith, s.end_is))
      go (no a) (yes b) = absurd (n (omega arith, b))

  pub kept_demand_3 : Demand3 board base end g t
  kept_demand_3 = record {
    listing = lists;
    answer = λ {m} a b c x.
        let e = number m a b in
        let i = in_memory_law (view t).k m (rw s.base_is a) (rw s.end_is b) in
        holders_one x (listed_done ((sound_means board t).1 h) i c (record { outcome = ap (λ (n : ℕ). Ok (n, looks_of (view t).k m)) (sym e); bytes = refl }));
    nobody = λ p m q. rw (s.base_is, s.end_is) at (held_range (sound_core t h) ((s.holders p m).0 q));
    outside = λ {m} n x. holders_one x (listed_outside ((sound_means board t).1 h) (not_in_memory m n));
  }

-- from an accepted boot, after the calls of any words
pub demand_3 : (b : Board) (l : List ℕ) (base end : ℕ) {v x : ℕ} {t' : Table} → boot_on l base end ≡ done v x t' → (ws : List ℕ)
    → Demand3 b base end (kept_on b (encode t') (opening base end) ws) (after_all b (encode t') ws)
demand_3 b l base end z ws = kept_demand_3 (from_boot_sound b l ws base end z) (from_boot_kept b l z ws)
