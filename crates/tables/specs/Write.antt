-- A written word, seen as a change of the table.
use Rattle.std.specs.Prelude.{Bool, false, ℕ, ◌+◌}
use Rattle.tables.specs.State.{Opt, none, Entry, Area, K, Table}
use Rattle.tables.specs.Update.{upd, upd1}

-- ── the table with ── other slots; other parents and areas
abbrev pub with_slot : K → (ℕ → ℕ → Opt Entry) → K
with_slot k g = record { base = k.base; stop = k.stop; current = k.current; parent = k.parent; area = k.area; slot = g }

abbrev pub with_area : K → (ℕ → ℕ) → (ℕ → ℕ → Opt Area) → K
with_area k g a = record { base = k.base; stop = k.stop; current = k.current; parent = g; area = a; slot = k.slot }

abbrev pub with_current : K → ℕ → K
with_current k c = record { base = k.base; stop = k.stop; current = c; parent = k.parent; area = k.area; slot = k.slot }

-- slot i of p holds x, open or not
abbrev pub put_slot : Table → ℕ → ℕ → Opt Entry → Bool → Table
put_slot t p i x o = record { k = with_slot t.k (upd t.k.slot p i x); opened = upd t.opened p i o; region = t.region }

-- the header of p names parent u and area x
abbrev pub put_header : Table → ℕ → ℕ → Opt Area → Table
put_header t p u x = record { k = with_area t.k (upd1 t.k.parent p u) (upd t.k.area p 0 x); opened = t.opened; region = t.region }

-- structure j of p has area x
abbrev pub put_structure : Table → ℕ → ℕ → Opt Area → Table
put_structure t p j x = record { k = with_area t.k t.k.parent (upd t.k.area p (1 + j) x); opened = t.opened; region = t.region }

-- region r of p names x
abbrev pub put_region : Table → ℕ → ℕ → Opt ℕ → Table
put_region t p r x = record { k = t.k; opened = t.opened; region = upd t.region p r x }

abbrev pub put_current : Table → ℕ → Table
put_current t c = record { k = with_current t.k c; opened = t.opened; region = t.region }

-- the 40 words of p are zero
abbrev pub clear_record : Table → ℕ → Table
clear_record t p = record {
  k = record {
    base = t.k.base;
    stop = t.k.stop;
    current = t.k.current;
    parent = upd1 t.k.parent p 0;
    area = upd1 t.k.area p (λ j. none);
    slot = upd1 t.k.slot p (λ i. none);
  };
  opened = upd1 t.opened p (λ i. false);
  region = upd1 t.region p (λ r. none);
}

-- base to end, and no partition
abbrev pub empty_table : ℕ → ℕ → Table
empty_table base end = record {
  k = record { base = base; stop = end; current = 0; parent = λ p. 0; area = λ p j. none; slot = λ p i. none };
  opened = λ p i. false;
  region = λ p r. none;
}
