-- One walk over the entries of each partition in order, for all its children at once: each child has a place among its own entries, up to which they tile what it was given so far.
use Rattle.std.specs.Prelude.{◌≡◌, Bool, true, false, cond, ◌&&◌, ◌||◌, List, ◌↔◌, ℕ, ◌≤◌, ◌<◌, length, get_or, ltb, eqb}
use Rattle.loops.specs.Loops.{all}
use Rattle.tables.specs.State.{Entry, Table}
use Rattle.tables.specs.View.{view}
use Rattle.tables.specs.Lines.{In}
use Rattle.tables.specs.Search.{present}
use Rattle.sound.specs.Sound.{Around}
use Rattle.sound.specs.Clauses.{within, s11}
use Rattle.decide.specs.Entries.{exactly}
use Rattle.ordering.specs.Order.{placed}
use Rattle.decide.specs.Local.{entry_right, grants_open}
use Rattle.decide.specs.Tiles.{row_of, opened_bit}
use Rattle.decide.specs.Decide.{CanDecide}

-- ── two rows: n entries E, and m entries F, some of them given to p ──
-- each of E lies inside one of F that is given to p, they cover those, with no right that it lacks, and with the rights of all that lie inside it
pub record Exact (E : ℕ → Entry) (n : ℕ) (F : ℕ → Entry) (m p : ℕ) : Type 0 where
  pub inside : (a : ℕ) → a < n → (b : ℕ) × (b < m) × ((F b).given ≡ p) × Around (E a) (F b)
  pub cover : (b : ℕ) → b < m → (F b).given ≡ p → (l : ℕ) → In l (F b) → (a : ℕ) × (a < n) × In l (E a)
  pub rights : (a b : ℕ) → a < n → b < m → (F b).given ≡ p → Around (E a) (F b) → within (E a).rights (F b).rights ≡ true
  pub equal : (a c b : ℕ) → a < n → c < n → b < m → (F b).given ≡ p → Around (E a) (F b) → Around (E c) (F b) → (E a).rights ≡ (E c).rights

-- and each of F that is given to p is open (P) exactly if all of E inside it are (O)
pub record Bits (E : ℕ → Entry) (O : ℕ → Bool) (n : ℕ) (F : ℕ → Entry) (P : ℕ → Bool) (m p : ℕ) : Type 0 where
  pub says : (b : ℕ) → b < m → (F b).given ≡ p → (P b ≡ true) ↔ ((a : ℕ) → a < n → Around (E a) (F b) → O a ≡ true)

-- so are the first i of them, and the first j
pub record WalkedRows (E : ℕ → Entry) (O : ℕ → Bool) (n : ℕ) (F : ℕ → Entry) (P : ℕ → Bool) (m p i j : ℕ) : Type 0 where
  pub few : i ≤ n
  pub far : j ≤ m
  pub exact : Exact E i F j p
  pub bits : Bits E O i F P j p

-- .. of the n entries of p, and of the m entries of q
abbrev pub Walked : List ℕ → List ℕ → ℕ → ℕ → ℕ → ℕ → ℕ → ℕ → Type 0
Walked l o p q n m i j = WalkedRows (row_of l o p) (opened_bit l o p) n (row_of l o q) (opened_bit l o q) m p i j

-- ── the walk, at place j of q ──
-- how many places of r are behind it; c has how many there are
unfoldable pub places_behind : List ℕ → ℕ → ℕ → ℕ → ℕ
places_behind c q j r = cond (ltb r q) (get_or c r 0) (cond (eqb r q) j 0)

-- the entries behind it are right by themselves; x has the place of each child
pub record WalkedTo (l o c m : List ℕ) (q j : ℕ) (x : List ℕ) : Type 0 where
  pub size : length x ≡ 16
  pub right : (r : ℕ) → r < 16 → present (view l).k r ≡ true → (a : ℕ) → a < places_behind c q j r → entry_right (view l) m r (placed o r a) ≡ true
  pub tiled : (p r : ℕ) → p < 16 → present (view l).k p ≡ true → (p ≡ 0 → ⊥) → (view l).k.parent p ≡ r → Walked l o p r (get_or c p 0) (get_or c r 0) (get_or x p 0) (places_behind c q j r)

-- place j of q is the next that it looks at
pub record CanStep (l o c m : List ℕ) (q j : ℕ) (x : List ℕ) : Type 0 where
  pub can : CanDecide l o c m
  pub walked : WalkedTo l o c m q j x
  pub in_q : q < 16
  pub there : present (view l).k q ≡ true
  pub next : j < get_or c q 0

-- all that it is to tell: S7, S11, and S9 by the marks m
abbrev pub EachRight : Table → List ℕ → Type 0
EachRight t m = (p : ℕ) → p < 16 → present t.k p ≡ true → all 32 (entry_right t m p) && (exactly t.k p && s11 t.k p && grants_open t p) ≡ true

-- it has come so far, or something of that fails
pub record WalkSays (l o c m : List ℕ) (q j : ℕ) (r : Bool) (x : List ℕ) : Type 0 where
  pub on : r ≡ true → WalkedTo l o c m q j x
  pub off : r ≡ false → EachRight (view l) m → ⊥

-- ── its end ──
-- no entry of p is left over
unfoldable pub none_left : List ℕ → List ℕ → ℕ → Bool
none_left c x p = eqb p 0 || eqb (get_or x p 0) (get_or c p 0)

pub record Ended (l c x : List ℕ) : Type 0 where
  pub size_c : length c ≡ 16
  pub size_x : length x ≡ 16
  pub says : (p : ℕ) → p < 16 → present (view l).k p ≡ true → none_left c x p ≡ exactly (view l).k p && s11 (view l).k p && grants_open (view l) p
