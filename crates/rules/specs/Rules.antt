-- The rules of boot and of the fourteen services, in 01's order and words: the checks with their numbers, then the effect and the values.
use Rattle.std.specs.Prelude.{Bool, true, false, cond, not, ◌&&◌, ◌||◌, List, ℕ, ◌+◌, ◌*◌, ◌^◌, length, leb, ltb, eqb, Result, Ok, Err}
use Rattle.loops.specs.Loops.{any, all, count, climb}
use Rattle.words.specs.Kind.{reading}
use Rattle.words.specs.Words.{call}
use Rattle.words.specs.declared.Rights.{Rights}
use Rattle.words.specs.declared.call_word.CallFields.{CallFields}
use Rattle.shapes.specs.declared.Board.{Board}
use Rattle.tables.specs.State.{Opt, none, some, Entry, root_entry, given_to, ending_at, starting_at, range_of, Area, nowhere, K, Table}
use Rattle.tables.specs.Update.{upd, upd1}
use Rattle.tables.specs.View.{view}
use Rattle.tables.specs.Encode.{encode, slot_word}
use Rattle.tables.specs.Write.{with_slot, with_area, with_current}
use Rattle.tables.specs.Search.{lowest, is_some, child, has_child, absent_child, no_structure, free, look_for}
use Rattle.tables.specs.Settle.{keep, settle}
use Rattle.sound.specs.Limit.{loaded_pieces}
use Rattle.sound.specs.Clauses.{sound, has, long, within, one_grant}
use Rattle.rules.specs.Pack.{packed}
use Rattle.rules.specs.declared.Uses.{Uses}
use Rattle.words.specs.declared.Refusal.{Refusal}
use Rattle.words.specs.declared.Refusal.TheVariants.{NotSound, BadWord, WrongPartition, NoEntry, NotOpen, Given, WrongLine, NoneFree, TooShort, MoreRights, Apart, TwoGrants, InPieces, InUse, WrongRegion, LentWhole, ManyPieces}

-- how a call ends: done with its two values and the table after it, or refused
pub data Effect : Type 0 where
  done : ℕ → ℕ → Table → Effect
  refused : Refusal → Effect

-- the next check, and why it refuses
unfoldable pub check : Refusal → Bool → Effect → Effect
check why true r = r
check why false r = refused why

-- the next check, that there is a value
unfoldable pub need : {A : Type 0} → Refusal → Opt A → (A → Effect) → Effect
need why none f = refused why
need why (some a) f = f a

-- ── words of 01 ──
-- P is the caller or a child of it
unfoldable pub own_or_child : K → ℕ → Bool
own_or_child k p = eqb p k.current || child k k.current p

-- P is the caller's parent (the root has none) or a child of it
unfoldable pub parent_or_child : K → ℕ → Bool
parent_or_child k p = (not (eqb k.current 0) && eqb p (k.parent k.current)) || child k k.current p

-- slot S of the caller: 4 no entry, 5 not open, 6 given
unfoldable pub free_entry : Table → ℕ → (Entry → Effect) → Effect
free_entry t s f =
    need NoEntry (t.k.slot t.k.current s) λ e.
    check NotOpen (t.opened t.k.current s)
    (check Given (eqb e.given 0)
    (f e))

abbrev pub area_of : Entry → Area
area_of e = record { lo = e.start; hi = e.stop }

abbrev pub set_slot : K → ℕ → ℕ → Opt Entry → K
set_slot k p i x = with_slot k (upd k.slot p i x)

-- ── 1 create: S; 4 5 6 8 9 18; lowest absent number becomes a child with area = entry S; child, 0 ──
abbrev pub create_k : K → ℕ → Entry → K
create_k k n e = with_area k (upd1 k.parent n k.current) (upd k.area n 0 (some (area_of e)))

unfoldable pub create : Table → ℕ → Effect
create t s =
    free_entry t s λ e.
    need NoneFree (lowest 16 (absent_child t.k)) λ n.
    check TooShort (long (area_of e))
    (check LentWhole (not e.whole)
    (done n 0 (settle (create_k t.k n e) t.region)))

-- ── 2 delete: P a child; 3 15; caller's given = P become 0, record P zero; 0, 0 ──
unfoldable pub ungive : ℕ → Opt Entry → Opt Entry
ungive p none = none
ungive p (some e) = some (cond (eqb e.given p) (given_to e 0) e)

-- the records of m are zero
abbrev pub records_zero : {A : Type 0} → (ℕ → Bool) → A → (ℕ → A) → ℕ → A
records_zero m zero f q = cond (m q) zero (f q)

-- .. and what the caller gave to p is given to nobody
abbrev pub remove_k : K → ℕ → (ℕ → Bool) → K
remove_k k p m = record {
  base = k.base;
  stop = k.stop;
  current = k.current;
  parent = records_zero m 0 k.parent;
  area = records_zero m (λ j. none) k.area;
  slot = records_zero m (λ i. none) (upd1 k.slot k.current (λ i. ungive p (k.slot k.current i)));
}

abbrev pub remove : Table → ℕ → (ℕ → Bool) → Table
remove t p m = settle (remove_k t.k p m) (records_zero m (λ r. none) t.region)

unfoldable pub delete : Table → ℕ → Effect
delete t p =
    check WrongPartition (child t.k t.k.current p)
    (check InUse (not (has_child t.k p))
    (done 0 0 (remove t p (λ q. eqb q p))))

-- ── 3 prepare: P own or child, S; 3 4 5 6 8 9 18; lowest absent structure of P gets area = entry S; its number, 0 ──
abbrev pub prepare_k : K → ℕ → ℕ → Entry → K
prepare_k k p j e = with_area k k.parent (upd k.area p (1 + j) (some (area_of e)))

unfoldable pub prepare : Table → ℕ → ℕ → Effect
prepare t p s =
    check WrongPartition (own_or_child t.k p)
    (free_entry t s λ e.
    need NoneFree (lowest 4 (no_structure t.k p)) λ j.
    check TooShort (long (area_of e))
    (check LentWhole (not e.whole)
    (done j 0 (settle (prepare_k t.k p j e) t.region))))

-- ── 4 collect: P own or child, T structure; 3 4 15; structure word zero; 0, 0 ──
abbrev pub collect_k : K → ℕ → ℕ → K
collect_k k p j = with_area k k.parent (upd k.area p (1 + j) none)

-- no slot of structure j of p is present
unfoldable pub vacant : K → ℕ → ℕ → Bool
vacant k p j = all 8 (λ i. not (is_some (k.slot p (8 * j + i))))

unfoldable pub collect : Table → ℕ → ℕ → Effect
collect t p j =
    check WrongPartition (own_or_child t.k p)
    (check NoEntry (ltb j 4 && is_some (t.k.area p (1 + j)))
    (check InUse (vacant t.k p j && not (eqb p 0 && eqb j 0))
    (done 0 0 (settle (collect_k t.k p j) t.region))))

-- ── 5 give: P a child, S, R, W; 3 4 5 6 8 10 18; S given = P; lowest free slot of P gets the range with rights R, whole if W is set; that slot, 0 ──
abbrev pub give_k : K → ℕ → ℕ → ℕ → Rights → Bool → Entry → K
give_k k p s n r w e = set_slot (set_slot k k.current s (some (given_to e p))) p n (some (range_of e r w))

unfoldable pub give : Table → ℕ → ℕ → Rights → Bool → Effect
give t p s r w =
    check WrongPartition (child t.k t.k.current p)
    (free_entry t s λ e.
    need NoneFree (lowest 32 (free t.k p)) λ n.
    check MoreRights (within r e.rights)
    (check LentWhole (not e.whole)
    (done n 0 (settle (give_k t.k p s n r w e) t.region))))

-- ── 6 take: S; 4 6 14; child's entry zero, S given = 0; 0, 0 ──
-- slot i of the child that e is given to: an open, not-given entry of exactly that range
unfoldable pub returned : Table → Entry → ℕ → Bool
returned t e i = has (λ f. eqb f.given 0 && eqb f.start e.start && eqb f.stop e.stop) (t.k.slot e.given i) && t.opened e.given i

abbrev pub take_k : K → ℕ → ℕ → Entry → K
take_k k s i e = set_slot (set_slot k k.current s (some (given_to e 0))) e.given i none

unfoldable pub take : Table → ℕ → Effect
take t s =
    need NoEntry (t.k.slot t.k.current s) λ e.
    check Given (not (eqb e.given 0))
    (need InPieces (lowest 32 (returned t e)) λ i.
    done 0 0 (settle (take_k t.k s i e) t.region))

-- no region of c names a slot of m: cut and merge unload the slots that they name, since their pieces change
abbrev pub unloaded : (ℕ → ℕ → Opt ℕ) → ℕ → (ℕ → Bool) → ℕ → ℕ → Opt ℕ
unloaded region c m = upd1 region c (λ r. keep (λ i. not (m i)) (region c r))

-- ── 7 cut: S, L; 4 5 6 7 8 18; S ends at L; lowest free slot gets L to old end, same rights; S unloaded; that slot, 0 ──
abbrev pub cut_k : K → ℕ → ℕ → ℕ → Entry → K
cut_k k s n l e = set_slot (set_slot k k.current s (some (ending_at e l))) k.current n (some (starting_at e l))

unfoldable pub cut : Table → ℕ → ℕ → Effect
cut t s l =
    free_entry t s λ e.
    check WrongLine (ltb e.start l && ltb l e.stop)
    (need NoneFree (lowest 32 (free t.k t.k.current)) λ n.
    check LentWhole (not e.whole)
    (done n 0 (settle (cut_k t.k s n l e) (unloaded t.region t.k.current (λ i. eqb i s)))))

-- ── 8 merge: S, T; 4 5 6 11 12; S ends where T ended, T zero; S and T unloaded; 0, 0 ──
abbrev pub merge_k : K → ℕ → ℕ → Entry → Entry → K
merge_k k s u e f = set_slot (set_slot k k.current s (some (ending_at e f.stop))) k.current u none

unfoldable pub merge : Table → ℕ → ℕ → Effect
merge t s u =
    need NoEntry (t.k.slot t.k.current s) λ e.
    need NoEntry (t.k.slot t.k.current u) λ f.
    check NotOpen (t.opened t.k.current s && t.opened t.k.current u)
    (check Given (eqb e.given 0 && eqb f.given 0)
    (check Apart (eqb e.stop f.start)
    (check TwoGrants (eqb t.k.current 0 || one_grant t.k t.k.current e f)
    (done 0 0 (settle (merge_k t.k s u e f) (unloaded t.region t.k.current (λ i. eqb i s || eqb i u)))))))

-- ── 9 with R = 0, load: P own or child, S of P, T region; 3 4 5 16 19; region T names S; 0, 0 ──
-- S is already in another region
unfoldable pub elsewhere : Table → ℕ → ℕ → ℕ → Bool
elsewhere t p s r = any 8 (λ q. not (eqb q r) && has (λ i. eqb i s) (t.region p q))

unfoldable pub load : Board → Table → ℕ → ℕ → ℕ → Effect
load b t p s r =
    check WrongPartition (own_or_child t.k p)
    (need NoEntry (t.k.slot p s) λ e.
    check NotOpen (t.opened p s)
    (check WrongRegion (ltb r 8 && not (elsewhere t p s r))
    (check ManyPieces (leb (loaded_pieces b t.k.slot (upd t.region p r (some s)) p) 8)
    (done 0 0 (settle t.k (upd t.region p r (some s)))))))

-- ── 9 with R = 1, unload: P own or child, T; 3 16; region T zero; 0, 0 ──
unfoldable pub unload : Table → ℕ → ℕ → Effect
unload t p r =
    check WrongPartition (own_or_child t.k p)
    (check WrongRegion (ltb r 8)
    (done 0 0 (settle t.k (upd t.region p r none))))

-- ── 11 read region: P own or child, T; 3 16; 0, entry word or 0 ──
unfoldable pub region_word : Table → ℕ → Opt ℕ → ℕ
region_word t p none = 0
region_word t p (some i) = slot_word (t.k.slot p i) (t.opened p i)

unfoldable pub read_region : Table → ℕ → ℕ → Effect
read_region t p r =
    check WrongPartition (own_or_child t.k p)
    (check WrongRegion (ltb r 8)
    (done 0 (region_word t p (t.region p r)) (settle t.k t.region)))

-- ── 12 find: P own or child, L; 3 7; slot, entry word ──
unfoldable pub find : Table → ℕ → ℕ → Effect
find t p l =
    check WrongPartition (own_or_child t.k p)
    (need WrongLine (look_for t.k l p).slot λ i.
    done i (slot_word (t.k.slot p i) (t.opened p i)) (settle t.k t.region))

-- ── 13 switch: P parent or child; 3; current = P; 0, 0 ──
unfoldable pub switch : Table → ℕ → Effect
switch t p =
    check WrongPartition (parent_or_child t.k p)
    (done 0 0 (settle (with_current t.k p) t.region))

-- ── 14 clear out: P a child; 3; caller's given = P become 0, records of P and of every descendant zero; their number, 0 ──
-- q is p or a descendant of it: the walk from q up to the root meets p
unfoldable pub branch : (ℕ → ℕ) → ℕ → ℕ → Bool
branch parent p q = climb parent (λ n. false) false (λ r above. eqb r p || above) q 15

unfoldable pub clear_out : Table → ℕ → Effect
clear_out t p =
    check WrongPartition (child t.k t.k.current p)
    (done (count 16 (branch t.k.parent p)) 0 (remove t p (branch t.k.parent p)))

-- ── 15 pack: P own or child; 3; entries to the lowest usable slots in unchanged slot order, regions follow them; entries moved, 0 ──
abbrev pub pack_k : Table → ℕ → K
pack_k t p = with_slot t.k (upd1 t.k.slot p (packed t p).slot)

abbrev pub pack_region : Table → ℕ → ℕ → ℕ → Opt ℕ
pack_region t p = upd1 t.region p (packed t p).region

unfoldable pub pack : Table → ℕ → Effect
pack t p =
    check WrongPartition (own_or_child t.k p)
    (done (packed t p).moved 0 (settle (pack_k t p) (pack_region t p)))

-- ── a call word ──
unfoldable pub no_rights : Rights → Bool
no_rights r = not r.read && not r.write && not r.execute

-- the fields that the service of number n uses; another number is no service's
unfoldable pub uses : ℕ → Opt Uses
uses n =
    cond (eqb n 1) (some (record { p = false; s = true; u = false; r = false; l = false; w = false }))
    (cond (eqb n 2) (some (record { p = true; s = false; u = false; r = false; l = false; w = false }))
    (cond (eqb n 3) (some (record { p = true; s = true; u = false; r = false; l = false; w = false }))
    (cond (eqb n 4) (some (record { p = true; s = false; u = true; r = false; l = false; w = false }))
    (cond (eqb n 5) (some (record { p = true; s = true; u = false; r = true; l = false; w = true }))
    (cond (eqb n 6) (some (record { p = false; s = true; u = false; r = false; l = false; w = false }))
    (cond (eqb n 7) (some (record { p = false; s = true; u = false; r = false; l = true; w = false }))
    (cond (eqb n 8) (some (record { p = false; s = true; u = true; r = false; l = false; w = false }))
    (cond (eqb n 9) (some (record { p = true; s = true; u = true; r = true; l = false; w = false }))
    (cond (eqb n 11) (some (record { p = true; s = false; u = true; r = false; l = false; w = false }))
    (cond (eqb n 12) (some (record { p = true; s = false; u = false; r = false; l = true; w = false }))
    (cond (eqb n 13) (some (record { p = true; s = false; u = false; r = false; l = false; w = false }))
    (cond (eqb n 14) (some (record { p = true; s = false; u = false; r = false; l = false; w = false }))
    (cond (eqb n 15) (some (record { p = true; s = false; u = false; r = false; l = false; w = false }))
    none)))))))))))))

-- a field that the service doesn't use is 0
unfoldable pub unused : Uses → CallFields → Bool
unused x f =
    (x.p || eqb f.partition.0 0) && (x.s || eqb f.slot.0 0) && (x.u || eqb f.other 0) && (x.r || no_rights f.rights) && (x.l || eqb f.line.0 0)
    && (x.w || not f.whole)

-- service 9: R is not above 1, and where it is 1, S is 0
unfoldable pub region_call : CallFields → Bool
region_call f = not f.rights.read && not f.rights.write && (not f.rights.execute || eqb f.slot.0 0)

-- 2: there is a service of that number, each field that it doesn't use is 0, and service 9 is so called
unfoldable pub known : CallFields → Bool
known f = (not (eqb f.service 9) || region_call f) && has (λ x. unused x f) (uses f.service)

-- the service of number n, of such fields
abbrev pub numbered : Board → ℕ → Table → CallFields → Effect
numbered b n t f =
    let p = f.partition.0 in
    let s = f.slot.0 in
    let u = f.other in
    let l = f.line.0 in
    cond (eqb n 1) (create t s)
    (cond (eqb n 2) (delete t p)
    (cond (eqb n 3) (prepare t p s)
    (cond (eqb n 4) (collect t p u)
    (cond (eqb n 5) (give t p s f.rights f.whole)
    (cond (eqb n 6) (take t s)
    (cond (eqb n 7) (cut t s l)
    (cond (eqb n 8) (merge t s u)
    (cond (eqb n 9) (cond f.rights.execute (unload t p u) (load b t p s u))
    (cond (eqb n 11) (read_region t p u)
    (cond (eqb n 12) (find t p l)
    (cond (eqb n 13) (switch t p)
    (cond (eqb n 14) (clear_out t p)
    (cond (eqb n 15) (pack t p)
    (refused BadWord))))))))))))))

unfoldable pub perform : Board → Table → CallFields → Effect
perform b t f = numbered b f.service t f

unfoldable pub serve : Board → Table → CallFields → Effect
serve b t f = check BadWord (known f) (perform b t f)

unfoldable pub serve_read : Board → Table → Result CallFields Refusal → Effect
serve_read b t (Ok f) = serve b t f
serve_read b t (Err why) = refused why

-- the call of a word on the words of a table: 1 first, then 2, then the service
unfoldable pub call_on : Board → List ℕ → ℕ → Effect
call_on b l w = cond (sound b l) (serve_read b (view l) (reading call w)) (refused NotSound)

-- ── boot: base and end; 1 7; whole table rewritten ──
abbrev pub boot_k : ℕ → ℕ → K
boot_k base end = record {
  base = base;
  stop = end;
  current = 0;
  parent = λ p. 0;
  area = upd (upd (λ p j. none) 0 0 (some nowhere)) 0 1 (some nowhere);
  slot = upd (λ p i. none) 0 0 (some (root_entry base end));
}

unfoldable pub boot_on : List ℕ → ℕ → ℕ → Effect
boot_on l base end =
    check NotSound (eqb (length l) 641)
    (check WrongLine (ltb base end && ltb base (2 ^ 27) && ltb end (2 ^ 27))
    (done 0 0 (settle (boot_k base end) (λ p r. none))))

-- the words after it: those of the table after it, or, refused, as they were
unfoldable pub words_after : List ℕ → Effect → List ℕ
words_after l (done v w t) = encode t
words_after l (refused why) = l
