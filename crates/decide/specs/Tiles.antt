-- S7 and S11 by one walk: the entries of a partition by rising start, along those that its parent gave it.
use Rattle.std.specs.Prelude.{◌≡◌, Bool, true, false, cond, List, ◌↔◌, ℕ, ◌+◌, ◌*◌, ◌≤◌, ◌<◌}
use Rattle.loops.specs.Loops.{bit_of}
use Rattle.words.specs.declared.Rights.{Rights}
use Rattle.tables.specs.State.{Opt, none, some, Entry, entry, all_rights}
use Rattle.tables.specs.View.{view}
use Rattle.tables.specs.Lines.{In}
use Rattle.sound.specs.Clauses.{within, same_rights}
use Rattle.ordering.specs.Order.{Solid, placed, Rows}

-- ── one range lo to hi with rights r ──
-- e lies inside it, ends by line at, and has no right beyond r
pub record TilePiece (e : Entry) (lo hi at : ℕ) (r : Rights) : Type 0 where
  pub from : lo ≤ e.start
  pub to : e.stop ≤ hi
  pub before : e.stop ≤ at
  pub rights : within e.rights r ≡ true

-- so do E i to E (k - 1), they cover it up to line at, and all have the rights of the first
pub record Tiling (E : ℕ → Entry) (i k lo hi at : ℕ) (r : Rights) : Type 0 where
  pub up : i ≤ k
  pub on : lo ≤ at
  pub piece : (a : ℕ) → i ≤ a → a < k → TilePiece (E a) lo hi at r
  pub cover : (l : ℕ) → lo ≤ l → l < at → (a : ℕ) × (i ≤ a) × (a < k) × In l (E a)
  pub equal : (a : ℕ) → i ≤ a → a < k → (E a).rights ≡ (E i).rights

-- E k goes on from there
pub record GoesOn (E : ℕ → Entry) (n i k hi at : ℕ) (r : Rights) : Type 0 where
  pub there : k < n
  pub start : (E k).start ≡ at
  pub to : (E k).stop ≤ hi
  pub rights : within (E k).rights r ≡ true
  pub equal : (E k).rights ≡ (E i).rights

-- rights as a number, a bit each
unfoldable pub rights_number : Rights → ℕ
rights_number a = 4 * bit_of a.read + 2 * bit_of a.write + bit_of a.execute

-- The first of a range has no right beyond those of the range; a later one has those of the one before it.
unfoldable pub follows : Bool → Rights → Rights → Bool
follows first a b = cond first (within a b) (same_rights a b)

-- x is the place after those that tile it; where they do not, 33, which is beyond all places
pub data Tiled (E : ℕ → Entry) (n i lo hi : ℕ) (r : Rights) (x : ℕ) : Type 0 where
  fitted : (at : ℕ) → x ≤ n → hi ≤ at → Tiling E i x lo hi at r → Tiled E n i lo hi r x
  stuck : (k at : ℕ) → n < 33 → x ≡ 33 → at < hi → Tiling E i k lo hi at r → (GoesOn E n i k hi at r → ⊥) → Tiled E n i lo hi r x

-- the flags of places i to k - 1 are set
abbrev pub AllSet : (ℕ → Bool) → ℕ → ℕ → Type 0
AllSet O i k = (a : ℕ) → i ≤ a → a < k → O a ≡ true

-- .. and the flag of the range, o, is set exactly if theirs are; where it is not so, 33 again
pub data TiledAs (E : ℕ → Entry) (O : ℕ → Bool) (n i lo hi : ℕ) (r : Rights) (o : Bool) (x : ℕ) : Type 0 where
  alike : Tiled E n i lo hi r x → (x ≤ n → (o ≡ true) ↔ AllSet O i x) → TiledAs E O n i lo hi r o x
  unlike : (k at : ℕ) → n < 33 → x ≡ 33 → k ≤ n → hi ≤ at → Tiling E i k lo hi at r → ((o ≡ true) ↔ AllSet O i k → ⊥) → TiledAs E O n i lo hi r o x

-- ── the entries of a partition by place ──
unfoldable pub entry_or : Opt Entry → Entry
entry_or none = entry 0 0 0 all_rights false
entry_or (some e) = e

abbrev pub entry_at : List ℕ → ℕ → ℕ → Entry
entry_at l p j = entry_or ((view l).k.slot p j)

abbrev pub row_of : List ℕ → List ℕ → ℕ → ℕ → Entry
row_of l o p a = entry_at l p (placed o p a)

-- .. and their open bits
abbrev pub opened_bit : List ℕ → List ℕ → ℕ → ℕ → Bool
opened_bit l o p a = (view l).opened p (placed o p a)

-- slot j of q has an entry
abbrev pub Filled : List ℕ → ℕ → ℕ → Type 0
Filled l q j = (e : Entry) × ((view l).k.slot q j ≡ some e)

-- x is the place after the entries of p that tile it from place i on, as above
abbrev pub TiledSlot : List ℕ → List ℕ → ℕ → ℕ → ℕ → ℕ → ℕ → ℕ → Type 0
TiledSlot l o p n i q j x = TiledAs (row_of l o p) (opened_bit l o p) n i (entry_at l q j).start (entry_at l q j).stop (entry_at l q j).rights ((view l).opened q j) x

-- an entry as if it had all rights and no mark; those of p by place
abbrev pub unranked : Entry → Entry
unranked e = entry e.start e.stop e.given all_rights false

abbrev pub plain_row : List ℕ → List ℕ → ℕ → ℕ → Entry
plain_row l o p a = unranked (row_of l o p a)

-- the n entries of p, where each has a line, stand in o
pub record InOrder (l o : List ℕ) (p n : ℕ) : Type 0 where
  pub in_p : p < 16
  pub lines : Solid (view l).k p
  pub rows : Rows (view l).k p n o

-- .. of p, which is not the root, and of its parent q
pub record ChildOf (l o : List ℕ) (p q n m : ℕ) : Type 0 where
  pub other : p ≡ 0 → ⊥
  pub up : (view l).k.parent p ≡ q
  pub own : InOrder l o p n
  pub above : InOrder l o q m
