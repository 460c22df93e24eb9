-- What is searched for, as tests, and the lowest number that passes.
use Rattle.std.specs.Prelude.{◌≡◌, Bool, true, false, not, ◌&&◌, ℕ, ◌+◌, ◌/◌, ◌<◌, leb, ltb, eqb}
use Rattle.loops.specs.Loops.{seek, NoneBelow, any}
use Rattle.tables.specs.State.{Opt, none, some, Entry, K}

abbrev pub is_some : {A : Type 0} → Opt A → Bool
is_some none = false
is_some (some _) = true

abbrev pub is_none : {A : Type 0} → Opt A → Bool
is_none o = not (is_some o)

-- the lowest number below n that passes
unfoldable pub lowest : ℕ → (ℕ → Bool) → Opt ℕ
lowest n f = seek f some none n

pub record Lowest (n : ℕ) (f : ℕ → Bool) (k : ℕ) : Type 0 where
  pub below : k < n
  pub holds : f k ≡ true
  pub before : NoneBelow f k

-- ── tests ──
-- partition p is present
unfoldable pub present : K → ℕ → Bool
present k p = is_some (k.area p 0)

unfoldable pub absent : K → ℕ → Bool
absent k p = is_none (k.area p 0)

-- n can become a child: absent, and not the root
unfoldable pub absent_child : K → ℕ → Bool
absent_child k n = not (eqb n 0) && absent k n

-- c is a child of p: present, not the root, and its parent is p
unfoldable pub child : K → ℕ → ℕ → Bool
child k p c = present k c && not (eqb c 0) && eqb (k.parent c) p

unfoldable pub has_child : K → ℕ → Bool
has_child k p = any 16 (child k p)

-- structure j of p is absent
unfoldable pub no_structure : K → ℕ → ℕ → Bool
no_structure k p j = is_none (k.area p (1 + j))

-- slot i of p is free: its structure is present and its word is zero
unfoldable pub free : K → ℕ → ℕ → Bool
free k p i = is_some (k.area p (1 + i / 8)) && is_none (k.slot p i)

-- the entry holds line l
unfoldable pub holds : ℕ → Opt Entry → Bool
holds l none = false
holds l (some e) = leb e.start l && ltb l e.stop

-- the partition that what a slot holds is given to
unfoldable pub given_in : Opt Entry → ℕ
given_in none = 0
given_in (some e) = e.given

-- slot i of p holds line l
abbrev pub holds_at : K → ℕ → ℕ → ℕ → Bool
holds_at k p l i = holds l (k.slot p i)

-- ── the search of one record for a line ──
-- how many slot words it looked at: slots 0 up to the one found, empty ones counted, or 32 if none
unfoldable pub looked_at : Opt ℕ → ℕ
looked_at none = 32
looked_at (some i) = i + 1

-- what it answers: the slot that was found, and that count
pub record Looking : Type 0 where
  pub slot : Opt ℕ
  pub count : ℕ

-- the search of p for line l: the lowest slot that holds it
abbrev pub look_for : K → ℕ → ℕ → Looking
look_for k l p = record { slot = lowest 32 (holds_at k p l); count = looked_at (lowest 32 (holds_at k p l)) }
