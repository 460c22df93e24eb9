-- 01's clauses as tests, one partition at a time: what the code computes.
use Rattle.std.specs.Prelude.{Bool, true, false, cond, not, ◌&&◌, ◌||◌, List, ℕ, ◌+◌, ◌*◌, ◌/◌, ◌%◌, length, leb, ltb, eqb}
use Rattle.std.specs.Bool.{beq}
use Rattle.loops.specs.Loops.{all, any, reaches}
use Rattle.words.specs.Kind.{zeroed}
use Rattle.words.specs.Words.{first, header, structure, regions}
use Rattle.words.specs.declared.Rights.{Rights}
use Rattle.words.specs.declared.regions_word.Region.{Region}
use Rattle.shapes.specs.declared.Board.{Board}
use Rattle.tables.specs.State.{Opt, none, some, Entry, Area, K, Table}
use Rattle.tables.specs.View.{first_word, area_word_at, regions_word_at, slot_word_at, nth_region, regions_at, view}
use Rattle.tables.specs.Search.{is_some, present, child, holds}
use Rattle.tables.specs.Settle.{meets, apart, open_at}
use Rattle.tables.specs.ZeroRecord.{zero_blanks, zero_record}
use Rattle.sound.specs.Limit.{loaded_pieces}

-- a test of what is there; nothing passes
unfoldable pub when : {A : Type 0} → (A → Bool) → Opt A → Bool
when f none = true
when f (some a) = f a

-- .. of something that has to be there
unfoldable pub has : {A : Type 0} → (A → Bool) → Opt A → Bool
has f none = false
has f (some a) = f a

unfoldable pub is_nowhere : Area → Bool
is_nowhere a = eqb a.lo 0 && eqb a.hi 0

-- 16 lines or more
unfoldable pub long : Area → Bool
long a = leb (a.lo + 16) a.hi

-- ── S1 ──
unfoldable pub s1 : K → Bool
s1 k = ltb k.base k.stop && present k k.current

-- ── S2 ──
unfoldable pub s2_root : K → ℕ → Bool
s2_root k p = has is_nowhere (k.area p 0) && eqb (k.parent p) 0

unfoldable pub s2_other : K → ℕ → Bool
s2_other k p = present k (k.parent p) && when (λ a. not (is_nowhere a)) (k.area p 0) && reaches k.parent 15 p

unfoldable pub s2 : List ℕ → K → ℕ → Bool
s2 l k p = cond (eqb p 0) (s2_root k p) (cond (present k p) (s2_other k p) (zero_record l p))

-- ── S3 ──
-- a region that is not loaded names slot 0
unfoldable pub blank_region : Region → Bool
blank_region r = r.loaded || eqb r.slot.0 0

unfoldable pub s3_regions : List ℕ → ℕ → Bool
s3_regions l p = zeroed regions (regions_word_at l p) && all 8 (λ r. blank_region (nth_region (regions_at l p) r))

unfoldable pub s3_first : List ℕ → Bool
s3_first l = zeroed first (first_word l)

unfoldable pub s3 : List ℕ → ℕ → Bool
s3 l p =
    zeroed header (area_word_at l p 0)
    && all 4 (λ j. zeroed structure (area_word_at l p (1 + j)))
    && s3_regions l p
    && zero_blanks l p

-- ── S4 ──
-- the two areas 0, 0 of the root
unfoldable pub rooted : ℕ → ℕ → Bool
rooted p j = eqb p 0 && ltb j 2

-- area j of p, where it is there: 0, 0 at the root, elsewhere long
unfoldable pub s4_area : K → ℕ → ℕ → Bool
s4_area k p j = when (λ a. cond (rooted p j) (is_nowhere a) (long a)) (k.area p j)

-- structure j of p, where it is absent: a zero word, and not the root's structure 0
unfoldable pub s4_absent : List ℕ → K → ℕ → ℕ → Bool
s4_absent l k p j = is_some (k.area p (1 + j)) || (eqb (area_word_at l p (1 + j)) 0 && not (rooted p (1 + j)))

unfoldable pub s4 : List ℕ → K → ℕ → Bool
s4 l k p = all 5 (s4_area k p) && all 4 (s4_absent l k p)

-- ── S5 ──
unfoldable pub s5_slot : List ℕ → K → ℕ → ℕ → Bool
s5_slot l k p i = cond (is_some (k.slot p i)) (is_some (k.area p (1 + i / 8)) && when (λ e. ltb e.start e.stop) (k.slot p i)) (eqb (slot_word_at l p i) 0)

unfoldable pub s5 : List ℕ → K → ℕ → Bool
s5 l k p = all 32 (s5_slot l k p)

-- ── S6 ──
unfoldable pub apart_e : Opt Entry → Opt Entry → Bool
apart_e x y = when (λ e. when (λ f. not (meets e.start e.stop f.start f.stop)) y) x

unfoldable pub s6 : K → ℕ → Bool
s6 k p = all 32 (λ i. all i (λ j. apart_e (k.slot p i) (k.slot p j)))

-- ── S7 ──
unfoldable pub held : K → ℕ → ℕ → Bool
held k p l = any 32 (λ i. holds l (k.slot p i))

-- lo is held; wherever an entry of p ends before hi, the next line is held too: so is all of lo to hi
unfoldable pub covered : K → ℕ → ℕ → ℕ → Bool
covered k p lo hi = not (ltb lo hi) || (held k p lo && all 32 (λ i. when (λ e. not (ltb lo e.stop) || not (ltb e.stop hi) || held k p e.stop) (k.slot p i)))

unfoldable pub s7_root : K → ℕ → Bool
s7_root k p = covered k p k.base k.stop && all 32 (λ i. when (λ e. leb k.base e.start && leb e.stop k.stop) (k.slot p i))

unfoldable pub s7_given : K → ℕ → Bool
s7_given k p = all 32 (λ i. when (λ e. eqb e.given 0 || child k p e.given) (k.slot p i))

-- the entry f is given to p and contains e
unfoldable pub grants : ℕ → Entry → Entry → Bool
grants p e f = eqb f.given p && leb f.start e.start && leb e.stop f.stop

unfoldable pub s7_inside : K → ℕ → Bool
s7_inside k p = all 32 (λ i. when (λ e. any 32 (λ j. has (grants p e) (k.slot (k.parent p) j))) (k.slot p i))

unfoldable pub s7_cover : K → ℕ → Bool
s7_cover k p = all 32 (λ j. when (λ f. not (eqb f.given p) || covered k p f.start f.stop) (k.slot (k.parent p) j))

-- the entry f is given to p and equals e
unfoldable pub lends : ℕ → Entry → Entry → Bool
lends p e f = eqb f.given p && eqb f.start e.start && eqb f.stop e.stop

-- e of p, whose open bit is o, is open, not given, and equal to an entry that p's parent gave it
unfoldable pub undivided : K → ℕ → Bool → Entry → Bool
undivided k p o e = o && eqb e.given 0 && not (eqb p 0) && any 32 (λ j. has (lends p e) (k.slot (k.parent p) j))

unfoldable pub s7_whole : Table → ℕ → Bool
s7_whole t p = all 32 (λ i. when (λ e. not e.whole || undivided t.k p (t.opened p i) e) (t.k.slot p i))

unfoldable pub s7 : Table → ℕ → Bool
s7 t p = s7_given t.k p && s7_whole t p && cond (eqb p 0) (s7_root t.k p) (not (present t.k p) || (s7_inside t.k p && s7_cover t.k p))

-- ── S8 ──
-- a not-given entry of q equals the area
unfoldable pub equals : K → ℕ → Area → Bool
equals k q a = any 32 (λ i. has (λ e. eqb e.given 0 && eqb e.start a.lo && eqb e.stop a.hi) (k.slot q i))

-- area j of p is an entry of the parent, or a structure's of p itself
unfoldable pub s8_backed : K → ℕ → ℕ → Bool
s8_backed k p j = rooted p j || when (λ a. equals k (k.parent p) a || (not (eqb j 0) && equals k p a)) (k.area p j)

-- area j of p shares no line with an area after it
unfoldable pub s8_apart : K → ℕ → ℕ → Bool
s8_apart k p j = when (λ a. all 80 (λ n. not (ltb (5 * p + j) n) || apart (k.area (n / 5) (n % 5)) a.lo a.hi)) (k.area p j)

unfoldable pub s8 : K → ℕ → Bool
s8 k p = all 5 (s8_backed k p) && all 5 (s8_apart k p)

-- ── S9 ──
unfoldable pub s9 : Table → ℕ → Bool
s9 t p = all 32 (λ i. beq (t.opened p i) (open_at t.k p i))

-- ── S10 ──
unfoldable pub s10_names : Table → ℕ → ℕ → Bool
s10_names t p r = when (λ i. is_some (t.k.slot p i) && t.opened p i) (t.region p r)

unfoldable pub s10_once : Table → ℕ → ℕ → ℕ → Bool
s10_once t p r q = when (λ i. when (λ j. not (eqb i j)) (t.region p q)) (t.region p r)

unfoldable pub s10 : Board → Table → ℕ → Bool
s10 b t p = all 8 (s10_names t p) && all 8 (λ r. all r (s10_once t p r)) && leb (loaded_pieces b t.k.slot t.region p) 8

-- ── S11 ──
unfoldable pub full : Rights → Bool
full r = r.read && r.write && r.execute

unfoldable pub within : Rights → Rights → Bool
within a b = (not a.read || b.read) && (not a.write || b.write) && (not a.execute || b.execute)

-- no entry has a right that the parent's entry around it lacks
unfoldable pub s11_within : K → ℕ → Bool
s11_within k p = all 32 (λ i. when (λ e. all 32 (λ j. when (λ f. not (grants p e f) || within e.rights f.rights) (k.slot (k.parent p) j))) (k.slot p i))

-- an entry given to p that contains e and f
unfoldable pub contains_both : ℕ → Entry → Entry → Opt Entry → Bool
contains_both p e f = has (λ g. grants p e g && grants p f g)

-- .. of p's parent
unfoldable pub one_grant : K → ℕ → Entry → Entry → Bool
one_grant k p e f = any 32 (λ j. contains_both p e f (k.slot (k.parent p) j))

unfoldable pub same_rights : Rights → Rights → Bool
same_rights a b = beq a.read b.read && beq a.write b.write && beq a.execute b.execute

-- each entry and those in slots before it: inside one grant they have equal rights
unfoldable pub s11_equal : K → ℕ → Bool
s11_equal k p = all 32 (λ i. when (λ e. all i (λ m. when (λ f. not (one_grant k p e f) || same_rights e.rights f.rights) (k.slot p m))) (k.slot p i))

unfoldable pub s11 : K → ℕ → Bool
s11 k p = cond (eqb p 0) (all 32 (λ i. when (λ e. full e.rights) (k.slot p i))) (s11_within k p && s11_equal k p)

-- ── all clauses at all partitions ──
-- the test of clause n, from 1 to 11, at partition p; S1, and S3 of word 0, are looked at with partition 0
unfoldable pub clause_at : Board → List ℕ → ℕ → ℕ → Bool
clause_at b l n p =
    cond (eqb n 1) (not (eqb p 0) || s1 (view l).k)
    (cond (eqb n 2) (s2 l (view l).k p)
    (cond (eqb n 3) ((not (eqb p 0) || s3_first l) && s3 l p)
    (cond (eqb n 4) (s4 l (view l).k p)
    (cond (eqb n 5) (s5 l (view l).k p)
    (cond (eqb n 6) (s6 (view l).k p)
    (cond (eqb n 7) (s7 (view l) p)
    (cond (eqb n 8) (s8 (view l).k p)
    (cond (eqb n 9) (s9 (view l) p)
    (cond (eqb n 10) (s10 b (view l) p)
    (s11 (view l).k p))))))))))

unfoldable pub sound : Board → List ℕ → Bool
sound b l = eqb (length l) 641 && all 11 (λ m. all 16 (clause_at b l (1 + m)))
