-- The walk over the regions decides S10: what each of them weighs, and their sum; and that those that it leaves out weigh nothing.
use Rattle.std.specs.Prelude.{◌≡◌, Bool, ◌&&◌, ◌||◌, List, Option, Some, None, unwrap_or, ℕ, ◌+◌, ◌^◌, ◌≤◌, ◌<◌, leb, eqb, zero, suc}
use Rattle.std.proofs.Math.Path.{refl, ap}
use Rattle.std.proofs.Common.{ap₂, sym, subst, ◌∙◌, add-zero, arith, leb-true, le-leb}
use Rattle.std.proofs.Math.Bool.{true, false, cond, not, or-false, not-not, or-true}
use Rattle.std.specs.Int.Bits.{bit_or}
use Rattle.loops.specs.Loops.{sum, all, names}
use Rattle.loops.specs.Laws.Mask.{names_none, names_or, names_one}
use Rattle.loops.specs.Laws.Count.{Summing, sum_start, sum_on, sum_end, sum_ext, sum_at}
use Rattle.loops.specs.Laws.Every.{all_at, fail_at, all_ext, all_true, all_zero, all_more, all_of}
use Rattle.words.specs.Kind.{fields_in}
use Rattle.words.specs.Words.{regions}
use Rattle.words.specs.Fields.{no_region}
use Rattle.words.specs.declared.regions_word.Region.{Region}
use Rattle.words.specs.declared.regions_word.RegionsFields.{RegionsFields}
use Rattle.words.specs.Later.{later_regions}
use Rattle.shapes.specs.declared.Board.{Board}
use Rattle.tables.specs.State.{Table}
use Rattle.tables.specs.View.{nth_region, named, regions_word_at, view}
use Rattle.tables.specs.Seen.{SeenRegions}
use Rattle.tables.specs.Laws.Seen.{see_regions, see_region}
use Rattle.tables.specs.Laws.Walk.{WalkingRegions, walk_start, walk_in, walk_at, walk_on, walk_end}
use Rattle.sound.specs.Clauses.{when, s10_names, s10_once, s10}
use Rattle.sound.specs.Limit.{entry_pieces, region_pieces, loaded_pieces}
use Rattle.sound.specs.Laws.Tests.{all_and, never, and_true, not_of}
use Rattle.loaded.specs.Laws.Limit.{region_empty, region_counted}
use Rattle.loaded.specs.Opening.{is_open, slot_noted, weight, some_loaded}
use Rattle.std.proofs.lemmas.Bool.{false≢true, not-true}
use Rattle.std.proofs.lemmas.Option.{none-some, same_Some}
use Rattle.loops.specs.Laws.Every.{Passing}
use Rattle.loops.specs.Laws.Scan.{seek_start, seek_hit, seek_on, seek_end}
use Rattle.sound.specs.Laws.Limit.{none_loaded}

-- ── a region ──
-- one that is loaded names another slot than i; so do those before region r
unfoldable pub other : ℕ → Region → Bool
other i x = when (λ j. not (eqb i j)) (named x)

unfoldable pub others : RegionsFields → ℕ → ℕ → Bool
others f r i = all r (λ q. other i (nth_region f q))

-- the exits of `noted` of the code
module _ (m : ℕ) (x : Region) where
  pub noted_none : x.loaded ≡ false → m ≡ slot_noted m x
  unfolding slot_noted
  noted_none q = rw q refl

  pub noted_loaded : {r : ℕ} → x.loaded ≡ true → r ≡ bit_or m (2 ^ x.slot.0) → r ≡ slot_noted m x
  unfolding slot_noted
  noted_loaded q e = rw q e

names_noted : (m : ℕ) (x : Region) (i : ℕ) → names (slot_noted m x) i ≡ names m i || not (other i x)
unfolding slot_noted other when named
names_noted m x i = go x.loaded refl
  where
    go : (y : Bool) → x.loaded ≡ y → names (slot_noted m x) i ≡ names m i || not (other i x)
    go true q = rw q (names_or m (2 ^ x.slot.0) i ∙ ap (λ (y : Bool). names m i || y) (names_one x.slot.0 i ∙ sym (not-not _)))
    go false q = rw q (sym (or-false (names m i)))

-- what S10 says of region r and those before it
unfoldable pub region_right : Table → ℕ → ℕ → Bool
region_right t p r = s10_names t p r && all r (s10_once t p r)

-- region r, which the code read as x
module _ {l : List ℕ} {p r : ℕ} {f : RegionsFields} {x : Region} (v : SeenRegions l p f) (h : r < 8) (e : x ≡ nth_region f r) where
  region_none : x.loaded ≡ false → true ≡ region_right (view l) p r
  unfolding region_right s10_names s10_once when named
  region_none q = rw (see_region v h e, q) (sym (all_true r))

  module _ (q : x.loaded ≡ true) where
    region_closed : is_open (view l) p x.slot.0 ≡ false → false ≡ region_right (view l) p r
    unfolding region_right s10_names when named is_open
    region_closed o = rw (see_region v h e, q, o) refl

    region_open : is_open (view l) p x.slot.0 ≡ true → others f r x.slot.0 ≡ region_right (view l) p r
    unfolding region_right s10_names s10_once when named is_open other others
    region_open o = rw (see_region v h e, q, o) (all_ext r _ _ (λ j b. ap (when (λ i. not (eqb x.slot.0 i))) (sym (v.region j (omega arith)))))

-- what it weighs then
abbrev pub pieces_at : Board → Table → ℕ → ℕ → ℕ
pieces_at b t p r = region_pieces b (t.k.slot p) (t.region p r)

unfoldable pub weight_at : Board → Table → ℕ → ℕ → Option ℕ
weight_at b t p r = cond (region_right t p r) (Some (pieces_at b t p r)) None

-- the answer tells both
weighed : (y : Bool) {n k : ℕ} → Some n ≡ cond y (Some k) None → (y ≡ true) × (n ≡ k)
weighed true e = (refl, same_Some _ _ e)
weighed false e = absurd (none-some _ (sym e))

unweighed : (y : Bool) (k : ℕ) → None ≡ cond y (Some k) None → y ≡ false
unweighed true k e = absurd (none-some _ e)
unweighed false k e = refl

-- the exits of region_weight
module _ (b : Board) (t : Table) (p m : ℕ) (x : Region) where
  pub weight_none : x.loaded ≡ false → Some 0 ≡ weight b t p m x
  unfolding weight
  weight_none q = rw q refl

  module _ (q : x.loaded ≡ true) where
    pub weight_closed : is_open t p x.slot.0 ≡ false → None ≡ weight b t p m x
    unfolding weight
    weight_closed o = rw (q, o) refl

    module _ (o : is_open t p x.slot.0 ≡ true) where
      pub weight_again : names m x.slot.0 ≡ true → None ≡ weight b t p m x
      unfolding weight
      weight_again a = rw (q, o, a) refl

      pub weight_pieces : {n : ℕ} → names m x.slot.0 ≡ false → n ≡ entry_pieces b (t.k.slot p x.slot.0) → Some n ≡ weight b t p m x
      unfolding weight
      weight_pieces a e = rw (q, o, a) (ap Some e)

-- .. with the slots of those before it in the mask
module _ (b : Board) {l : List ℕ} {p r : ℕ} {f : RegionsFields} {x : Region} (v : SeenRegions l p f) (h : r < 8) (e : x ≡ nth_region f r) (m : ℕ) (marks : (i : ℕ) → names m i ≡ not (others f r i)) where
  weighs : weight b (view l) p m x ≡ weight_at b (view l) p r
  unfolding weight weight_at
  weighs = go x.loaded refl
    where
      both : (y : Bool) {n k : ℕ} → n ≡ k → cond (not (not y)) (Some n) None ≡ cond y (Some k) None
      both true z = ap Some z
      both false z = refl

      loaded : x.loaded ≡ true → (o : Bool) → is_open (view l) p x.slot.0 ≡ o → weight b (view l) p m x ≡ weight_at b (view l) p r
      loaded q false o = rw (q, o, ← (region_closed v h e q o)) refl
      loaded q true o = rw (q, o, marks x.slot.0, ← (region_open v h e q o), see_region v h e) (both (others f r x.slot.0) (region_counted b _ x q refl))

      go : (y : Bool) → x.loaded ≡ y → weight b (view l) p m x ≡ weight_at b (view l) p r
      go true q = loaded q (is_open (view l) p x.slot.0) refl
      go false q = rw (q, ← (region_none v h e q), see_region v h e) (ap Some (region_empty b _ x q))

-- ── all of them ──
s10_each : (board : Board) (t : Table) (p : ℕ) → all 8 (region_right t p) && leb (loaded_pieces board t.k.slot t.region p) 8 ≡ s10 board t p
unfolding s10 region_right
s10_each board t p = ap (λ (x : Bool). x && leb (loaded_pieces board t.k.slot t.region p) 8) (all_and 8 (s10_names t p) (λ r. all r (s10_once t p r)))

-- they weigh at most 8 exactly if S10 holds, where one that is not right counts as 9
s10_weighed : (b : Board) (t : Table) (p : ℕ) → leb (sum 8 (λ r. unwrap_or (weight_at b t p r) 9)) 8 ≡ s10 b t p
unfolding weight_at loaded_pieces
s10_weighed b t p = go (all 8 (region_right t p)) refl
  where
    heavy : ℕ → ℕ
    heavy r = unwrap_or (weight_at b t p r) 9

    go : (y : Bool) → all 8 (region_right t p) ≡ y → leb (sum 8 heavy) 8 ≡ s10 b t p
    go true q =
        let same : sum 8 heavy ≡ loaded_pieces b t.k.slot t.region p = sum_ext 8 _ _ (λ r h. rw (all_at 8 (region_right t p) q r h) refl) in
        rw (← (s10_each b t p), q, same) refl
    go false q =
        let (k, h, w) = fail_at 8 (region_right t p) q in
        let nine : heavy k ≡ 9 = rw w refl in
        sym (never (leb (sum 8 heavy) 8) (λ u. omega (arith, leb-true (sum 8 heavy) 8 u, sum_at 8 heavy k h))) ∙ rw (← (s10_each b t p), q) refl

-- the loop: the regions before r are right, n is what they weigh, and the mask has the slots that they name
pub record Weighing (b : Board) (t : Table) (p : ℕ) (f : RegionsFields) (m n r : ℕ) : Type 0 where
  pub right : Passing (region_right t p) 8 r
  pub sums : Summing (pieces_at b t p) 52 8 r n
  pub marks : (i : ℕ) → names m i ≡ not (others f r i)

pub weigh_start : {b : Board} {t : Table} {p : ℕ} {f : RegionsFields} → Weighing b t p f 0 0 0
unfolding others
weigh_start {f = f} = record { right = seek_start; sums = sum_start; marks = λ i. names_none i ∙ sym (ap not (all_zero (λ q. other i (nth_region f q)))) }

pub weigh_on : {b : Board} {l : List ℕ} {p : ℕ} {f : RegionsFields} {m n r : ℕ} {x : Region} {y m' : ℕ} → Weighing b (view l) p f m n r → SeenRegions l p f → r < 8 → x ≡ nth_region f r → Some y ≡ weight b (view l) p m x → y ≤ 52 → m' ≡ slot_noted m x → Weighing b (view l) p f m' (n + y) (r + 1)
unfolding others weight_at
weigh_on {b} {l} {p} {f} {m} {r = r} {x} inv v h e w few z = record {
  right = seek_on inv.right h (ap not (weighed (region_right (view l) p r) (w ∙ weighs b v h e m inv.marks)).0);
  sums = sum_on inv.sums h (weighed (region_right (view l) p r) (w ∙ weighs b v h e m inv.marks)).1 few;
  marks = λ i. ap (λ (k : ℕ). names k i) z ∙ names_noted m x i ∙ ap₂ ◌||◌ (inv.marks i) (ap (λ (y : Region). not (other i y)) e) ∙ either (others f r i) (other i (nth_region f r)) ∙ sym (ap not (all_more r (λ q. other i (nth_region f q))));
}
  where
    either : (a c : Bool) → not a || not c ≡ not (a && c)
    either true c = refl
    either false c = refl

-- one of which S10 says something else
pub weigh_fails : {b : Board} {l : List ℕ} {p : ℕ} {f : RegionsFields} {m n r : ℕ} {x : Region} → Weighing b (view l) p f m n r → SeenRegions l p f → r < 8 → x ≡ nth_region f r → None ≡ weight b (view l) p m x → false ≡ s10 b (view l) p
unfolding weight_at
weigh_fails {b} {l} {p} {m = m} {r = r} inv v h e w =
    let wrong = unweighed (region_right (view l) p r) _ (w ∙ weighs b v h e m inv.marks) in
    rw (← (s10_each b (view l) p), ← (seek_hit inv.right h (ap not wrong))) refl

pub weigh_end : {b : Board} {t : Table} {p : ℕ} {f : RegionsFields} {m n r : ℕ} → Weighing b t p f m n r → 8 ≤ r → leb n 8 ≡ s10 b t p
unfolding loaded_pieces
weigh_end {b} {t} {p} inv h = rw (← (s10_each b t p), ← (seek_end inv.right h)) (ap (λ (k : ℕ). leb k 8) (sum_end inv.sums h))

-- a region that is not loaded weighs nothing, and names no slot
weigh_blank : {b : Board} {l : List ℕ} {p : ℕ} {f : RegionsFields} {m n : ℕ} → SeenRegions l p f → (r : ℕ) → r < 8 → nth_region f r ≡ no_region → Weighing b (view l) p f m n r → Weighing b (view l) p f m n (r + 1)
weigh_blank {b} {l} {p} {f} {m} {n} v r h e inv =
    subst (λ (k : ℕ). Weighing b (view l) p f m k (r + 1)) (add-zero n)
    (weigh_on inv v h (sym e) (weight_none b (view l) p m no_region refl) (omega arith) (noted_none m no_region refl))

-- .. of which w is left
pub record WeighingLeft (b : Board) (l : List ℕ) (p v m n w : ℕ) : Type 0 where
  pub walk : WalkingRegions (Weighing b (view l) p (fields_in regions v) m n) v w

pub left_start : {b : Board} {l : List ℕ} {p v : ℕ} → WeighingLeft b l p v 0 0 v
left_start = record { walk = walk_start weigh_start }

module _ {b : Board} {l : List ℕ} {p v m n w : ℕ} (k : WeighingLeft b l p v m n w) where
  -- what was added up leaves room for one region more
  pub left_few : 0 < w → n ≤ 364
  left_few h = omega (arith, k.walk.kept.sums.few, walk_in k.walk h)

  module _ (hp : p < 16) (is : v ≡ regions_word_at l p) where
    seen : SeenRegions l p (fields_in regions v)
    seen = see_regions l p (fields_in regions v) hp (ap (fields_in regions) is)

    pub left_on : {x : Region} {y m' w' : ℕ} → 0 < w → x ≡ (fields_in regions w).region0 → Some y ≡ weight b (view l) p m x → y ≤ 52 → m' ≡ slot_noted m x → w' ≡ later_regions w → WeighingLeft b l p v m' (n + y) w'
    left_on h e q few z moved =
        record { walk = subst (WalkingRegions _ v) (sym moved) (walk_on k.walk h (weigh_on k.walk.kept seen (walk_in k.walk h) (e ∙ walk_at k.walk h) q few z)) }

    pub left_fails : {x : Region} → 0 < w → x ≡ (fields_in regions w).region0 → None ≡ weight b (view l) p m x → false ≡ s10 b (view l) p
    left_fails h e q = weigh_fails k.walk.kept seen (walk_in k.walk h) (e ∙ walk_at k.walk h) q

    pub left_end : w ≡ 0 → leb n 8 ≡ s10 b (view l) p
    left_end z = weigh_end (walk_end k.walk z (weigh_blank seen)) (omega arith)

-- ── no region is loaded ──
loaded_at : (f : RegionsFields) (r : ℕ) → (nth_region f r).loaded ≡ true → some_loaded f ≡ true
unfolding nth_region
loaded_at f zero q = rw q refl
loaded_at f (suc zero) q = rw (q, or-true) refl
loaded_at f (suc (suc zero)) q = rw (q, or-true) refl
loaded_at f (suc (suc (suc zero))) q = rw (q, or-true) refl
loaded_at f (suc (suc (suc (suc zero)))) q = rw (q, or-true) refl
loaded_at f (suc (suc (suc (suc (suc zero))))) q = rw (q, or-true) refl
loaded_at f (suc (suc (suc (suc (suc (suc zero)))))) q = rw (q, or-true) refl
loaded_at f (suc (suc (suc (suc (suc (suc (suc zero))))))) q = rw (q, or-true) refl
loaded_at f (suc (suc (suc (suc (suc (suc (suc (suc r)))))))) q = absurd (false≢true q)

pub s10_none : (board : Board) {l : List ℕ} {p : ℕ} {f : RegionsFields} → SeenRegions l p f → some_loaded f ≡ false → true ≡ s10 board (view l) p
unfolding named
s10_none board {l} {p} {f} v q =
    sym (sym (s10_each board (view l) p) ∙ and_true _ _
    (all_of 8 _ (λ r h. sym (region_none v h refl (unloaded r))))
    (le-leb _ 8 (none_loaded board (view l).k.slot (view l).region p (λ r h. v.region r h ∙ rw (unloaded r) refl))))
  where
    unloaded : (r : ℕ) → (nth_region f r).loaded ≡ false
    unloaded r = not-true _ (not_of (nth_region f r).loaded (λ x. false≢true (sym q ∙ loaded_at f r x)))
