-- The pieces of what is loaded: fewer regions, or shorter entries, need no more; on ARMv8-M the limit is no limit.
use Rattle.std.specs.Prelude.{◌≡◌, refl, ℕ, ◌≤◌, ◌<◌}
use Rattle.std.proofs.Common.{arith}
use Rattle.loops.specs.Laws.Count.{sum_le, sum_fewer}
use Rattle.shapes.specs.declared.Board.{Board}
use Rattle.shapes.specs.declared.Board.TheVariants.{V8}
use Rattle.tables.specs.State.{Opt, none, some, Entry, Table}
use Rattle.sound.specs.Limit.{entry_pieces, region_pieces, loaded_pieces}
use Rattle.sound.specs.Whole.{Few}

-- each region names what it named before, or nothing, and what it names needs no more pieces than before
pub pieces_from : (b : Board) (slot old : ℕ → ℕ → Opt Entry) (region was : ℕ → ℕ → Opt ℕ) (p : ℕ)
    → ((r i : ℕ) → region p r ≡ some i → (was p r ≡ some i) × (entry_pieces b (slot p i) ≤ entry_pieces b (old p i)))
    → loaded_pieces b slot region p ≤ loaded_pieces b old was p
unfolding loaded_pieces region_pieces
pieces_from b slot old region was p h = sum_fewer 8 _ _ (λ r _. one r (region p r) refl)
  where
    one : (r : ℕ) (x : Opt ℕ) → region p r ≡ x → region_pieces b (slot p) x ≤ region_pieces b (old p) (was p r)
    one r none u = omega arith
    one r (some i) u = let w = h r i u in rw w.0 w.1

-- so a table keeps the limit
pub few_from : (b : Board) {t : Table} (new : Table) → Few b t
    → ((p r i : ℕ) → new.region p r ≡ some i → (t.region p r ≡ some i) × (entry_pieces b (new.k.slot p i) ≤ entry_pieces b (t.k.slot p i)))
    → Few b new
few_from b {t} new few h = record { at = λ p. omega (arith, few.at p, pieces_from b new.k.slot t.k.slot new.region t.region p (h p)) }

-- nothing is loaded
pub none_loaded : (b : Board) (slot : ℕ → ℕ → Opt Entry) (region : ℕ → ℕ → Opt ℕ) (p : ℕ) → ((r : ℕ) → r < 8 → region p r ≡ none) → loaded_pieces b slot region p ≤ 8
unfolding loaded_pieces region_pieces
none_loaded b slot region p h = omega (arith, sum_le 8 (λ r. region_pieces b (slot p) (region p r)) 0 (λ r a. rw (h r a) (omega arith)))

-- on ARMv8-M an entry is one piece, and there are eight regions
pub plain_few : (slot : ℕ → ℕ → Opt Entry) (region : ℕ → ℕ → Opt ℕ) (p : ℕ) → loaded_pieces V8 slot region p ≤ 8
unfolding loaded_pieces region_pieces entry_pieces
plain_few slot region p = omega (arith, sum_le 8 (λ r. region_pieces V8 (slot p) (region p r)) 1 (λ r _. named (region p r)))
  where
    held : (x : Opt Entry) → entry_pieces V8 x ≤ 1
    held none = omega arith
    held (some e) = omega arith

    named : (x : Opt ℕ) → region_pieces V8 (slot p) x ≤ 1
    named none = omega arith
    named (some i) = held (slot p i)
