-- Delete in code: the table after each step.
use Rattle.std.specs.Prelude.{ℕ}
use Rattle.tables.specs.State.{Table}
use Rattle.tables.specs.Update.{upd1}
use Rattle.tables.specs.Write.{with_slot, put_slot}
use Rattle.rules.specs.Rules.{ungive}

-- ── one slot ──
-- slot i of c, given to nobody where it was given to p
abbrev pub ungive_at : Table → ℕ → ℕ → ℕ → Table
ungive_at t c p i = put_slot t c i (ungive p (t.k.slot c i)) (t.opened c i)

-- ── the slots of c ──
abbrev pub ungiven : Table → ℕ → ℕ → Table
ungiven t c p = record { k = with_slot t.k (upd1 t.k.slot c (λ i. ungive p (t.k.slot c i))); opened = t.opened; region = t.region }
