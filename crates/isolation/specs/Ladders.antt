-- The ladders of refusals: of boot and of each service the conditions in order, each with the refusal that is due where it fails, then
-- what is done; and that of a call.
use Rattle.std.specs.Prelude.{◌≡◌, ◌⊎◌, ℕ, ◌+◌, ◌/◌, ◌^◌, ◌<◌, ◌≤◌, ◌*◌, List, length, false, Bool, ◌||◌, true, cond, eqb}
use Rattle.tables.specs.State.{none, some, Entry, Area, K, Table}
use Rattle.tables.specs.Lines.{Clear, In}
use Rattle.sound.specs.Properties.{Child}
use Rattle.isolation.specs.Ladder.{Ladder, must, there, finish, least}
use Rattle.tables.specs.Settle.{settle}
use Rattle.rules.specs.declared.Uses.{Uses}
use Rattle.rules.specs.Rules.{boot_k, create_k, remove, prepare_k, collect_k, give_k, take_k, unloaded, cut_k, merge_k, region_word, branch, pack_k, pack_region, uses}
use Rattle.words.specs.declared.Rights.{Rights}
use Rattle.sound.specs.Sound.{Sub, OneGrant, Sound}
use Rattle.shapes.specs.declared.Board.{Board}
use Rattle.tables.specs.Update.{upd}
use Rattle.sound.specs.Limit.{loaded_pieces}
use Rattle.tables.specs.Encode.{slot_word}
use Rattle.tables.specs.Write.{with_current}
use Rattle.loops.specs.Loops.{count}
use Rattle.rules.specs.Pack.{packed}
use Rattle.words.specs.Kind.{fields_in, Zeroed}
use Rattle.words.specs.Words.{call}
use Rattle.words.specs.declared.call_word.CallFields.{CallFields}
use Rattle.tables.specs.View.{view}
use Rattle.words.specs.declared.Refusal.TheVariants.{NotSound, BadWord, WrongPartition, NoEntry, NotOpen, Given, WrongLine, NoneFree, TooShort, MoreRights, Apart, TwoGrants, InPieces, InUse, WrongRegion, LentWhole, ManyPieces}

-- ── what more than one service asks ──
-- 3: p is the caller or a child of it
abbrev pub OwnOrChild : K → ℕ → Type 0
OwnOrChild k p = (p ≡ k.current) ⊎ Child k k.current p

-- 8: slot n of p is free: its structure is present and it holds no entry
pub record FreeSlot (k : K) (p n : ℕ) : Type 0 where
  pub room : (a : Area) × (k.area p (1 + n / 8) ≡ some a)
  pub empty : k.slot p n ≡ none

-- 4, 5, 6: slot s of the caller has an entry, which is open (said as 'shares no line with an area': by S9 the same) and not given
abbrev pub free_ladder : K → ℕ → (Entry → Ladder) → Ladder
free_ladder k s c =
    there NoEntry (k.slot k.current s) λ e.
    must NotOpen (Clear k.area e)
    (must Given (e.given ≡ 0)
    (c e))

-- ── boot: the root is there alone, runs, and holds base to end ──
abbrev pub boot_ladder : List ℕ → ℕ → ℕ → Ladder
boot_ladder l base end =
    must NotSound (length l ≡ 641)
    (must WrongLine (((base < end) × (base < 2 ^ 27)) × (end < 2 ^ 27))
    (finish 0 0 (settle (boot_k base end) (λ p r. none))))

-- ── 1 create: the absent number n becomes a child of the caller, with the area of entry e in its slot s ──
-- n can become a child
abbrev pub Absent : K → ℕ → Type 0
Absent k n = (n ≡ 0 → ⊥) × (k.area n 0 ≡ none)

abbrev pub create_ladder : Table → ℕ → Ladder
create_ladder t s =
    free_ladder t.k s λ e.
    least NoneFree 16 (Absent t.k) λ n.
    must TooShort (e.start + 16 ≤ e.stop)
    (must LentWhole (e.whole ≡ false)
    (finish n 0 (settle (create_k t.k n e) t.region)))

-- ── 2 delete: the record of p, a child of the caller without children, is zero; what the caller gave it is given to nobody ──
abbrev pub delete_ladder : Table → ℕ → Ladder
delete_ladder t p =
    must WrongPartition (Child t.k t.k.current p)
    (must InUse ((q : ℕ) → Child t.k p q → ⊥)
    (finish 0 0 (remove t p (λ q. eqb q p))))

-- ── 3 prepare: structure j of p, which is the caller or its child, gets the area of entry e in slot s of the caller ──
abbrev pub prepare_ladder : Table → ℕ → ℕ → Ladder
prepare_ladder t p s =
    must WrongPartition (OwnOrChild t.k p)
    (free_ladder t.k s λ e.
    least NoneFree 4 (λ j. t.k.area p (1 + j) ≡ none) λ j.
    must TooShort (e.start + 16 ≤ e.stop)
    (must LentWhole (e.whole ≡ false)
    (finish j 0 (settle (prepare_k t.k p j e) t.region))))

-- ── 4 collect: structure j of p, which has no entry, is absent ──
-- structure j of p has no entry
abbrev pub Empty : K → ℕ → ℕ → Type 0
Empty k p j = (i : ℕ) → i < 8 → k.slot p (8 * j + i) ≡ none

abbrev pub collect_ladder : Table → ℕ → ℕ → Ladder
collect_ladder t p j =
    must WrongPartition (OwnOrChild t.k p)
    (must NoEntry ((j < 4) × ((a : Area) × (t.k.area p (1 + j) ≡ some a)))
    (must InUse (Empty t.k p j × ((p ≡ 0) × (j ≡ 0) → ⊥))
    (finish 0 0 (settle (collect_k t.k p j) t.region))))

-- ── 5 give: slot s of the caller is given to its child c, whose free slot n gets the range with rights r, whole if w is set ──
abbrev pub give_ladder : Table → ℕ → ℕ → Rights → Bool → Ladder
give_ladder t c s r w =
    must WrongPartition (Child t.k t.k.current c)
    (free_ladder t.k s λ e.
    least NoneFree 32 (FreeSlot t.k c) λ n.
    must MoreRights (Sub r e.rights)
    (must LentWhole (e.whole ≡ false)
    (finish n 0 (settle (give_k t.k c s n r w e) t.region))))

-- ── 6 take: slot s of the caller, given to a child, is given to nobody; slot i of the child, of exactly that range, is emptied ──
-- slot i of the child that e is given to: an open, not-given entry f of exactly that range
pub record Returned (k : K) (e : Entry) (i : ℕ) (f : Entry) : Type 0 where
  pub at : k.slot e.given i ≡ some f
  pub clear : Clear k.area f
  pub free : f.given ≡ 0
  pub start : f.start ≡ e.start
  pub stop : f.stop ≡ e.stop

abbrev pub take_ladder : Table → ℕ → Ladder
take_ladder t s =
    there NoEntry (t.k.slot t.k.current s) λ e.
    must Given (e.given ≡ 0 → ⊥)
    (least InPieces 32 (λ i. (f : Entry) × Returned t.k e i f) λ i.
    finish 0 0 (settle (take_k t.k s i e) t.region))

-- ── 7 cut: slot s of the caller ends at l, its free slot n gets the rest ──
abbrev pub cut_ladder : Table → ℕ → ℕ → Ladder
cut_ladder t s l =
    free_ladder t.k s λ e.
    must WrongLine ((e.start < l) × (l < e.stop))
    (least NoneFree 32 (FreeSlot t.k t.k.current) λ n.
    must LentWhole (e.whole ≡ false)
    (finish n 0 (settle (cut_k t.k s n l e) (unloaded t.region t.k.current (λ i. eqb i s)))))

-- ── 8 merge: slot s of the caller ends where its slot u ended, slot u is emptied ──
-- 12: the caller is the root, or one entry that its parent gave it contains both
abbrev pub MayJoin : K → Entry → Entry → Type 0
MayJoin k e f = (k.current ≡ 0 → ⊥) → OneGrant k k.current e f

abbrev pub merge_ladder : Table → ℕ → ℕ → Ladder
merge_ladder t s u =
    there NoEntry (t.k.slot t.k.current s) λ e.
    there NoEntry (t.k.slot t.k.current u) λ f.
    must NotOpen (Clear t.k.area e × Clear t.k.area f)
    (must Given ((e.given ≡ 0) × (f.given ≡ 0))
    (must Apart (e.stop ≡ f.start)
    (must TwoGrants (MayJoin t.k e f)
    (finish 0 0 (settle (merge_k t.k s u e f) (unloaded t.region t.k.current (λ i. eqb i s || eqb i u)))))))

-- ── 9 load: region r of p, which is the caller or its child, names its slot s ──
-- 16: no other region of p names slot s
abbrev pub NoOtherRegion : Table → ℕ → ℕ → ℕ → Type 0
NoOtherRegion t p s r = (q : ℕ) → (q ≡ r → ⊥) → t.region p q ≡ some s → ⊥

abbrev pub load_ladder : Board → Table → ℕ → ℕ → ℕ → Ladder
load_ladder b t p s r =
    must WrongPartition (OwnOrChild t.k p)
    (there NoEntry (t.k.slot p s) λ e.
    must NotOpen (Clear t.k.area e)
    (must WrongRegion ((r < 8) × NoOtherRegion t p s r)
    (must ManyPieces (loaded_pieces b t.k.slot (upd t.region p r (some s)) p ≤ 8)
    (finish 0 0 (settle t.k (upd t.region p r (some s)))))))

-- ── 9 unload: region r of p is emptied ──
abbrev pub unload_ladder : Table → ℕ → ℕ → Ladder
unload_ladder t p r =
    must WrongPartition (OwnOrChild t.k p)
    (must WrongRegion (r < 8)
    (finish 0 0 (settle t.k (upd t.region p r none))))

-- ── 11 read region: the word of the entry that region r of p names ──
abbrev pub read_region_ladder : Table → ℕ → ℕ → Ladder
read_region_ladder t p r =
    must WrongPartition (OwnOrChild t.k p)
    (must WrongRegion (r < 8)
    (finish 0 (region_word t p (t.region p r)) t))

-- ── 12 find: the slot of p that holds line l, and its word ──
abbrev pub find_ladder : Table → ℕ → ℕ → Ladder
find_ladder t p l =
    must WrongPartition (OwnOrChild t.k p)
    (least WrongLine 32 (λ i. (e : Entry) × (t.k.slot p i ≡ some e) × In l e) λ i.
    finish i (slot_word (t.k.slot p i) (t.opened p i)) t)

-- ── 13 switch: the caller's parent or a child of it runs ──
-- 3: p is the caller's parent (the root has none) or a child of it
abbrev pub ParentOrChild : K → ℕ → Type 0
ParentOrChild k p = ((k.current ≡ 0 → ⊥) × (p ≡ k.parent k.current)) ⊎ Child k k.current p

abbrev pub switch_ladder : Table → ℕ → Ladder
switch_ladder t p =
    must WrongPartition (ParentOrChild t.k p)
    (finish 0 0 (settle (with_current t.k p) t.region))

-- ── 14 clear out: the records of p, a child of the caller, and of every descendant of it are zero; what the caller gave to p is given to nobody ──
abbrev pub clear_ladder : Table → ℕ → Ladder
clear_ladder t p =
    must WrongPartition (Child t.k t.k.current p)
    (finish (count 16 (branch t.k.parent p)) 0 (remove t p (branch t.k.parent p)))

-- ── 15 pack: the entries of p move to the lowest usable slots in unchanged slot order, and its regions follow them ──
abbrev pub pack_ladder : Table → ℕ → Ladder
pack_ladder t p =
    must WrongPartition (OwnOrChild t.k p)
    (finish (packed t p).moved 0 (settle (pack_k t p) (pack_region t p)))

-- ── a call ──
-- 2: fields that a service doesn't use are zero
abbrev pub Rightless : Rights → Type 0
Rightless r = ((r.read ≡ false) × (r.write ≡ false)) × (r.execute ≡ false)

abbrev pub Unused : Uses → CallFields → Type 0
Unused x f =
    (((((x.p ≡ false → f.partition.0 ≡ 0)
    × (x.s ≡ false → f.slot.0 ≡ 0))
    × (x.u ≡ false → f.other ≡ 0))
    × (x.r ≡ false → Rightless f.rights))
    × (x.l ≡ false → f.line.0 ≡ 0))
    × (x.w ≡ false → f.whole ≡ false)

-- service 9: R is not above 1, and where it is 1, S is 0
abbrev pub RegionCall : CallFields → Type 0
RegionCall f = ((f.rights.read ≡ false) × (f.rights.write ≡ false)) × (f.rights.execute ≡ true → f.slot.0 ≡ 0)

-- .. and there is a service of that number
abbrev pub Known : CallFields → Type 0
Known f = (f.service ≡ 9 → RegionCall f) × ((x : Uses) × (uses f.service ≡ some x) × Unused x f)

-- the conditions of the service of number n
abbrev pub numbered_ladder : Board → ℕ → Table → CallFields → Ladder
numbered_ladder b n t f =
    let p = f.partition.0 in
    let s = f.slot.0 in
    let u = f.other in
    let l = f.line.0 in
    cond (eqb n 1) (create_ladder t s)
    (cond (eqb n 2) (delete_ladder t p)
    (cond (eqb n 3) (prepare_ladder t p s)
    (cond (eqb n 4) (collect_ladder t p u)
    (cond (eqb n 5) (give_ladder t p s f.rights f.whole)
    (cond (eqb n 6) (take_ladder t s)
    (cond (eqb n 7) (cut_ladder t s l)
    (cond (eqb n 8) (merge_ladder t s u)
    (cond (eqb n 9) (cond f.rights.execute (unload_ladder t p u) (load_ladder b t p s u))
    (cond (eqb n 11) (read_region_ladder t p u)
    (cond (eqb n 12) (find_ladder t p l)
    (cond (eqb n 13) (switch_ladder t p)
    (cond (eqb n 14) (clear_ladder t p)
    (cond (eqb n 15) (pack_ladder t p)
    (must BadWord ⊥ (finish 0 0 t)))))))))))))))

abbrev pub serve_ladder : Board → Table → CallFields → Ladder
serve_ladder b t f = must BadWord (Known f) (numbered_ladder b f.service t f)

-- 1: a sound table; 2: zero bits that are zero, a service's number, unused fields that are zero; then the service's own
abbrev pub call_ladder : Board → List ℕ → ℕ → Ladder
call_ladder b l w = must NotSound (Sound b l) (must BadWord (Zeroed call w) (serve_ladder b (view l) (fields_in call w)))
