-- WHAT A BRANCH CAN'T TOUCH (02, 112): after any list of calls, each made while b or a descendant of it is current, the records of those who were present and are
-- neither in the branch of b nor above b are bit for bit the same, and those above b differ at most in open bits and region bytes.
use Rattle.std.specs.Prelude.{◌≡◌, ℕ, ◌+◌, ◌<◌}
use Rattle.std.proofs.Math.Path.{refl}
use Rattle.std.proofs.Common.{ap, sym, subst, ◌∙◌, arith}
use mathlib.Core.List.{List, [], ◌∷◌}
use Rattle.std.proofs.Math.Decide.{ℕ_discrete}
use Rattle.loops.specs.Loops.{Reaches, at_root, by_step}
use Rattle.words.specs.Kind.{fields_in}
use Rattle.words.specs.Words.{call}
use Rattle.shapes.specs.declared.Board.{Board}
use Rattle.tables.specs.State.{Opt, Entry, K, Table}
use Rattle.tables.specs.View.{record_word, view}
use Rattle.tables.specs.Encode.{slot_word, part_word}
use Rattle.tables.specs.Laws.Encode.{part_ext, part_low}
use Rattle.tables.specs.Laws.Spelling.{area_word, blank_word, slot_word_law, canon_record, canon_slot}
use Rattle.tables.specs.Laws.Back.{view_encode}
use Rattle.tables.specs.Laws.Kept.{keep_same}
use Rattle.sound.specs.Sound.{Present}
use Rattle.sound.specs.Core.{Core}
use Rattle.sound.specs.Properties.{Above, itself, higher}
use Rattle.sound.specs.Whole.{Right}
use Rattle.rules.specs.Branch.{Under, itself as is-top, below}
use Rattle.rules.specs.Rules.{Effect, done, refused, call_on, words_after}
use Rattle.isolation.specs.Laws.Fits.{Good, right_fit, good_canon, good_right}
use Rattle.isolation.specs.Whole.{after_all}
use Rattle.isolation.proofs.Whole.{served, after_good, call_right, next_good}
use Rattle.untouched.specs.Untouched.{Within, Outside, Beside, Higher, Untouched}
use Rattle.untouched.proofs.Laws.Frame.{Alike, above_outside, outside_stays, beside_stays, opened_same}
use Rattle.untouched.proofs.Laws.Served.{Step, serve_step}

-- the record of p is as it was
pub record SameRecord (t new : Table) (p : ℕ) : Type 0 where
  pub alike : Alike t.k new.k p
  pub opened : (i : ℕ) → new.opened p i ≡ t.opened p i
  pub region : (r : ℕ) → new.region p r ≡ t.region p r

-- what calls in the branch of b leave: who is outside it keeps parent, areas and entries, who is beside it the whole record
pub record Left (b : ℕ) (t new : Table) : Type 0 where
  pub outside : (p : ℕ) → Outside t.k b p → Outside new.k b p × Alike t.k new.k p
  pub beside : (p : ℕ) → Beside t.k b p → Beside new.k b p × SameRecord t new p

-- ── one call ──
step_left : {b : ℕ} {t new : Table} → Right t → Right new → (b ≡ 0 → ⊥) → Present t.k b → Step b t new → Left b t new
step_left {b} {t} {new} h g other home s = record {
  outside = λ p o. (outside_stays h.core other home s.frame o, s.frame.alike p o);
  beside = λ p q. (
    beside_stays h.core other home s.frame q,
    record {
      alike = s.frame.alike p q.outside;
      opened = bits p q;
      region = λ r. s.regions p r q.outside ∙ keep_same (new.opened p) (t.region p r) (λ i u. bits p q i ∙ ((h.s10 p).names r i u).1);
    },
  );
}
  where
    bits : (p : ℕ) → Beside t.k b p → (i : ℕ) → new.opened p i ≡ t.opened p i
    bits p q = opened_same h g other home s.frame q

-- ── calls one after another ──
left_same : {b : ℕ} {t : Table} → Left b t t
left_same = record {
  outside = λ p o. (o, record { parent = refl; area = λ j. refl; slot = λ i. refl });
  beside = λ p q. (q, record { alike = record { parent = refl; area = λ j. refl; slot = λ i. refl }; opened = λ i. refl; region = λ r. refl });
}

alike_on : {k mid new : K} {p : ℕ} → Alike k mid p → Alike mid new p → Alike k new p
alike_on a c = record { parent = c.parent ∙ a.parent; area = λ j. c.area j ∙ a.area j; slot = λ i. c.slot i ∙ a.slot i }

left_on : {b : ℕ} {t mid new : Table} → Left b t mid → Left b mid new → Left b t new
left_on a c = record {
  outside = λ p o. let (u, x) = a.outside p o in let (v, y) = c.outside p u in (v, alike_on x y);
  beside = λ p q.
      let (u, x) = a.beside p q in
      let (v, y) = c.beside p u in
      (v, record { alike = alike_on x.alike y.alike; opened = λ i. y.opened i ∙ x.opened i; region = λ r. y.region r ∙ x.region r });
}

-- the way up comes to b, who is present
pub up_present : {k : K} (h : Core k) {b x : ℕ} → Present k x → Under k.parent b x → Present k b
up_present {k} h v (is-top z) = subst (Present k) z v
up_present h {x = x} v (below n u) = up_present h (h.s2_up x v) u

-- nobody is above the root
top_only : {up : ℕ → ℕ} → up 0 ≡ 0 → {p x : ℕ} → x ≡ 0 → Above up p x → p ≡ 0
top_only r z (itself e) = sym e ∙ z
top_only {up} r z (higher a) = top_only r (ap up z ∙ r) a

-- of the root's branch nobody is outside
none_outside : {up : ℕ → ℕ} {n p : ℕ} → Reaches up n p → Under up 0 p
none_outside (at_root z) = is-top z
none_outside {up} {p = p} (by_step r) = go (ℕ_discrete p 0) (none_outside r)
  where
    go : Dec (p ≡ 0) → Under up 0 (up p) → Under up 0 p
    go (yes z) u = is-top z
    go (no z) u = below z u

module _ {b : ℕ} where
  root_left : {t new : Table} → Right t → b ≡ 0 → Left b t new
  root_left {t} h z = record { outside = λ p o. absurd (no p o); beside = λ p q. absurd (no p q.outside) }
    where
      no : (p : ℕ) → Outside t.k b p → ⊥
      no p o = o.out (rw z (none_outside (h.core.s2_climb p o.present)))

  pub call_left : {board : Board} {l : List ℕ} → Good board l → (w : ℕ) → Under (view l).k.parent b (view l).k.current → Left b (view l) (view (words_after l (call_on board l w)))
  unfolding words_after
  call_left {board} {l} g w u = one (call_on board l w) refl (ℕ_discrete b 0)
    where
      right : Right (view l)
      right = good_right g

      one : (r : Effect) → call_on board l w ≡ r → Dec (b ≡ 0) → Left b (view l) (view (words_after l r))
      one (refused why) z d = left_same
      one (done v x new) z (yes e) = root_left right e
      one (done v x new) z (no e) =
          let q = call_right board l w g.small z in
          let home = up_present right.core right.core.s1_current u in
          rw (view_encode new (right_fit q)) (step_left right q e home (serve_step right home u board (fields_in call w) (served board l w g.small z).2))

  -- THE THEOREM, of the tables
  pub after_left : {board : Board} {l : List ℕ} → Good board l → (ws : List ℕ) → Within board b l ws → Left b (view l) (view (after_all board l ws))
  unfolding Within after_all
  after_left g [] h = left_same
  after_left {board = board} {l = l} g (w ∷ ws) (u, h) = left_on (call_left g w u) (after_left {l = words_after l (call_on board l w)} (next_good g w) ws h)

-- ── of the words ──
-- a record that is the same has the same words
same_words : {t new : Table} (p o : ℕ) → SameRecord t new p → part_word new p o ≡ part_word t p o
same_words {t} {new} p o s = part_ext t new p o s.alike.parent s.alike.area (λ x r. s.region r x) s.alike.slot s.opened

module _ {board : Board} (l ws : List ℕ) (b : ℕ) (g : Good board l) (calls : Within board b l ws) where
  good_after : Good board (after_all board l ws)
  good_after = after_good g ws

  left : Left b (view l) (view (after_all board l ws))
  left = after_left g ws calls

  -- the whole record of who is beside the branch, of the table
  pub beside_same : (p : ℕ) → Beside (view l).k b p → SameRecord (view l) (view (after_all board l ws)) p
  beside_same p q = (left.beside p q).1

  higher_alike : (p : ℕ) → Higher (view l).k b p → Alike (view l).k (view (after_all board l ws)).k p
  unfolding Within after_all
  higher_alike p q = go ws calls left
    where
      right : Right (view l)
      right = good_right g

      outside : Under (view l).k.parent b (view l).k.current → Dec (b ≡ 0) → Outside (view l).k b p
      outside u (yes z) = absurd (q.other (top_only right.core.s2_root_law.2 z q.above ∙ sym z))
      outside u (no n) = above_outside right.core n (up_present right.core right.core.s1_current u) q.above q.other

      go : (ws : List ℕ) → Within board b l ws → Left b (view l) (view (after_all board l ws)) → Alike (view l).k (view (after_all board l ws)).k p
      go [] _ _ = record { parent = refl; area = λ j. refl; slot = λ i. refl }
      go (w ∷ ws) (u, _) f = (f.outside p (outside u (ℕ_discrete b 0))).1

  -- a word of who is above k, below the slots and not that of the regions
  low : (p o : ℕ) → p < 16 → o < 8 → (o ≡ 5 → ⊥) → Higher (view l).k b p → {v w : ℕ} → record_word (after_all board l ws) p o ≡ v → record_word l p o ≡ w → v ≡ w
  low p o hp ho n q x y =
      sym x
      ∙ canon_record (good_canon good_after) p o hp (omega arith)
      ∙ part_low (view l) (view (after_all board l ws)) p o (higher_alike p q).parent (higher_alike p q).area ho n
      ∙ sym (canon_record (good_canon g) p o hp (omega arith))
      ∙ y

  -- THE THEOREM, of the words
  pub untouched : Untouched b l (after_all board l ws)
  untouched = record {
    beside = λ p o hp ho q. canon_record (good_canon good_after) p o hp ho ∙ same_words p o (beside_same p q) ∙ sym (canon_record (good_canon g) p o hp ho);
    higher_areas = λ p j hp hj q. low p j hp (omega arith) (λ z. omega arith) q (area_word (after_all board l ws) p j) (area_word l p j);
    higher_blanks = λ p o hp ho q. low p (6 + o) hp (omega arith) (λ z. omega arith) q (blank_word (after_all board l ws) p o) (blank_word l p o);
    higher_slots = λ p i hp hi q. record {
      entry = (view l).k.slot p i;
      was = (view l).opened p i;
      is = (view (after_all board l ws)).opened p i;
      before_is = sym (slot_word_law l p i) ∙ canon_slot (good_canon g) p i hp hi;
      after_is = sym (slot_word_law (after_all board l ws) p i) ∙ canon_slot (good_canon good_after) p i hp hi ∙ ap (λ (x : Opt Entry). slot_word x ((view (after_all board l ws)).opened p i)) ((higher_alike p q).slot i);
    };
  }
