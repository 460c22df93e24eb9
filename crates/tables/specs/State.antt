-- The table that 641 words mean. An absent thing is `none`. An entry has no open bit of its own: S9 derives it.
use Rattle.std.specs.Prelude.{◌≡◌, Bool, true, false, ℕ}
use Rattle.words.specs.declared.Rights.{Rights}

pub data Opt (A : Type 0) : Type 0 where
  none : Opt A
  some : A → Opt A

pub record Entry : Type 0 where
  pub start : ℕ
  pub stop : ℕ
  pub given : ℕ
  pub rights : Rights
  -- the whole mark: it was lent whole
  pub whole : Bool

-- ── makers of entries: no other place builds one ──
abbrev pub all_rights : Rights
all_rights = record { read = true; write = true; execute = true }

abbrev pub entry : ℕ → ℕ → ℕ → Rights → Bool → Entry
entry start stop given rights whole = record { start = start; stop = stop; given = given; rights = rights; whole = whole }

-- all that there is: what the root gets at boot
abbrev pub root_entry : ℕ → ℕ → Entry
root_entry base end = entry base end 0 all_rights false

abbrev pub ending_at : Entry → ℕ → Entry
ending_at e l = entry e.start l e.given e.rights e.whole

abbrev pub starting_at : Entry → ℕ → Entry
starting_at e l = entry l e.stop e.given e.rights e.whole

abbrev pub given_to : Entry → ℕ → Entry
given_to e p = entry e.start e.stop p e.rights e.whole

-- the range of an entry, with rights R, not given; whole or not
abbrev pub range_of : Entry → Rights → Bool → Entry
range_of e r w = entry e.start e.stop 0 r w

-- memory that serves the kernel
pub record Area : Type 0 where
  pub lo : ℕ
  pub hi : ℕ

-- 0, 0 counts as no area
abbrev pub nowhere : Area
nowhere = record { lo = 0; hi = 0 }

-- area p 0 is the header's, area p (1 + j) that of structure j: a partition is present where area p 0 is
pub record K : Type 0 where
  pub base : ℕ
  pub stop : ℕ
  pub current : ℕ
  pub parent : ℕ → ℕ
  pub area : ℕ → ℕ → Opt Area
  pub slot : ℕ → ℕ → Opt Entry

pub record Table : Type 0 where
  pub k : K
  pub opened : ℕ → ℕ → Bool
  pub region : ℕ → ℕ → Opt ℕ

-- ── equalities, as facts that omega reads ──
pub record Same (a b : Entry) : Type 0 where
  pub start : a.start ≡ b.start
  pub stop : a.stop ≡ b.stop
  pub given : a.given ≡ b.given
  pub rights : a.rights ≡ b.rights
  pub whole : a.whole ≡ b.whole

pub record SameA (a b : Area) : Type 0 where
  pub lo : a.lo ≡ b.lo
  pub hi : a.hi ≡ b.hi
