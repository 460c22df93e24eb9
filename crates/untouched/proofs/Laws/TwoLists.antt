-- So after either of two such lists from one table, with a partition beside the branch current then, find and read region on itself answer it the same.
use Rattle.std.specs.Prelude.{◌≡◌, Bool, false, List, ℕ, ltb, Ok}
use Rattle.std.proofs.Math.Path.{refl, ap}
use Rattle.std.proofs.Common.{sym, ◌∙◌, inl, inr, eq-eqb}
use Rattle.std.proofs.Math.Bool.{true}
use Rattle.words.specs.Kind.{fields_in, zeroed}
use Rattle.words.specs.Words.{call}
use Rattle.words.specs.declared.call_word.CallFields.{CallFields}
use Rattle.shapes.specs.declared.Board.{Board}
use Rattle.tables.specs.State.{Opt, none, some, Entry, K, Table}
use Rattle.tables.specs.View.{view}
use Rattle.tables.specs.Encode.{slot_word}
use Rattle.tables.specs.Laws.Back.{view_encode}
use Rattle.tables.specs.Write.{with_current, put_current}
use Rattle.tables.specs.Search.{lowest, holds, holds_at}
use Rattle.sound.specs.Sound.{Present}
use Rattle.sound.specs.Whole.{Right}
use Rattle.sound.proofs.Laws.List.{sound_means}
use Rattle.rules.specs.Rules.{Effect, check, need, own_or_child, region_word, read_region, find, known, perform, serve, call_on}
use Rattle.rules.specs.Ran.{outcome_of}
use Rattle.rules.specs.Calls.{caller_of}
use Rattle.rules.specs.Laws.Calls.{call_as}
use Rattle.rules.specs.Laws.Each.{perform_at}
use Rattle.sound.specs.Laws.Sound.{few_all}
use Rattle.isolation.specs.Laws.Fits.{Good, right_fit, right_good, good_right}
use Rattle.isolation.specs.Whole.{Reads, after_all}
use Rattle.isolation.proofs.Whole.{after_good}
use Rattle.untouched.specs.Untouched.{Within, Beside, turned_to, SameAnswers, BranchWords}
use Rattle.untouched.proofs.Laws.Theorem.{untouched, beside_same}
use Rattle.tables.specs.Outcomes.{Outcome}
use Rattle.words.specs.declared.Refusal.{Refusal}
use Rattle.words.specs.declared.Refusal.TheVariants.{BadWord, WrongPartition, WrongLine, WrongRegion}

-- ── a table stays right where another that is present becomes current ──
turned_right : {t : Table} {p : ℕ} → Right t → Present t.k p → Right (put_current t p)
turned_right {t} h v =
    let c = h.core in
    record {
      core = record {
        s1 = c.s1;
        s1_current = v;
        s2_root_law = c.s2_root_law;
        s2_range = c.s2_range;
        s2_absent = c.s2_absent;
        s2_parent = c.s2_parent;
        s2_up = c.s2_up;
        s2_climb = c.s2_climb;
        s4 = c.s4;
        s5 = c.s5;
        s5_range = c.s5_range;
        s6 = c.s6;
        s7_root_law = c.s7_root_law;
        s7_given_law = c.s7_given_law;
        s7_in = c.s7_in;
        s7_cover_law = c.s7_cover_law;
        s7_whole_law = c.s7_whole_law;
        s8 = c.s8;
        s8_apart_law = c.s8_apart_law;
        s11 = c.s11;
        s11_equal_law = c.s11_equal_law;
      };
      stop = h.stop;
      closed = h.closed;
      eight = h.eight;
      s9 = h.s9;
      s10 = λ p. record { names = (h.s10 p).names; once = (h.s10 p).once };
    }

-- ── find and read region on itself read its own record ──
-- what p sees of itself in two tables
record Sees (t u : Table) (p : ℕ) : Type 0 where
  slot : (i : ℕ) → t.k.slot p i ≡ u.k.slot p i
  opened : (i : ℕ) → t.opened p i ≡ u.opened p i
  region : (r : ℕ) → t.region p r ≡ u.region p r

need_alike : (why : Refusal) {o q : Opt ℕ} (f g : ℕ → Effect) → o ≡ q → ((i : ℕ) → outcome_of (f i) ≡ outcome_of (g i)) → outcome_of (need why o f) ≡ outcome_of (need why q g)
unfolding need
need_alike why {o} {q} f g e h = rw e (go q)
  where
    go : (q : Opt ℕ) → outcome_of (need why q f) ≡ outcome_of (need why q g)
    go none = refl
    go (some i) = h i

check_alike : (why : Refusal) (b : Bool) (r s : Effect) → outcome_of r ≡ outcome_of s → outcome_of (check why b r) ≡ outcome_of (check why b s)
unfolding check
check_alike why true r s h = h
check_alike why false r s h = refl

-- done with these values
answer : ℕ → ℕ → Outcome
answer v w = Ok (v, w)

module _ {t u : Table} {p : ℕ} (s : Sees t u p) where
  own : (k : K) → own_or_child (with_current k p) p ≡ true
  unfolding own_or_child
  own k = rw (eq-eqb p p refl) refl

  entry_same : (i : ℕ) → slot_word (t.k.slot p i) (t.opened p i) ≡ slot_word (u.k.slot p i) (u.opened p i)
  entry_same i = rw (s.slot i, s.opened i) refl

  found_same : (l : ℕ) → lowest 32 (holds_at t.k p l) ≡ lowest 32 (holds_at u.k p l)
  found_same l = let slots : t.k.slot p ≡ u.k.slot p = λ x i. s.slot i x in ap (λ (g : ℕ → Opt Entry). lowest 32 (λ i. holds l (g i))) slots

  find_alike : (l : ℕ) → outcome_of (find (put_current t p) p l) ≡ outcome_of (find (put_current u p) p l)
  unfolding find outcome_of answer
  find_alike l = rw (own t.k, own u.k) (check_alike WrongPartition true _ _ (need_alike WrongLine _ _ (found_same l) (λ i. ap (answer i) (entry_same i))))

  region_same : (r : ℕ) → region_word (put_current t p) p (t.region p r) ≡ region_word (put_current u p) p (u.region p r)
  unfolding region_word
  region_same r = rw (s.region r) (go (u.region p r))
    where
      go : (o : Opt ℕ) → region_word (put_current t p) p o ≡ region_word (put_current u p) p o
      go none = refl
      go (some i) = entry_same i

  read_alike : (r : ℕ) → outcome_of (read_region (put_current t p) p r) ≡ outcome_of (read_region (put_current u p) p r)
  unfolding read_region outcome_of answer
  read_alike r = rw (own t.k, own u.k) (check_alike WrongPartition true _ _ (check_alike WrongRegion (ltb r 8) _ _ (ap (answer 0) (region_same r))))

  -- a call word of service 11 or 12 whose P is p
  serve_alike : (board : Board) (f : CallFields) → Reads f → f.partition.0 ≡ p → outcome_of (serve board (put_current t p) f) ≡ outcome_of (serve board (put_current u p) f)
  unfolding serve
  serve_alike board f e z = check_alike BadWord (known f) _ _ (go e)
    where
      go : Reads f → outcome_of (perform board (put_current t p) f) ≡ outcome_of (perform board (put_current u p) f)
      go (inl e) = rw (perform_at board 11 (put_current t p) f e, perform_at board 11 (put_current u p) f e, z) (read_alike f.other)
      go (inr e) = rw (perform_at board 12 (put_current t p) f e, perform_at board 12 (put_current u p) f e, z) (find_alike f.line.0)

-- so are the words of a table in which p is made current, and p is their caller
module _ {board : Board} {l : List ℕ} (p : ℕ) (g : Good board l) (v : Present (view l).k p) where
  pub put_current_right : Right (put_current (view l) p)
  put_current_right = turned_right (good_right g) v

  -- .. which keeps the limit of pieces: neither slots nor regions change
  pub turned_good : Good board (turned_to p l)
  turned_good = right_good board put_current_right (record { at = (few_all g.sound).at })

  pub turned_caller : caller_of board (turned_to p l) ≡ p
  unfolding caller_of
  turned_caller = rw ((sound_means board (turned_to p l)).1 turned_good.sound, view_encode (put_current (view l) p) (right_fit put_current_right)) refl

-- a call on words with p current is its service on that table
turned_serves : {board : Board} {l : List ℕ} (p : ℕ) → Good board l → Present (view l).k p → (w : ℕ)
    → call_on board (turned_to p l) w ≡ check BadWord (zeroed call w) (serve board (put_current (view l) p) (fields_in call w))
unfolding check
turned_serves {board} {l} p g v w =
    call_as board (turned_to p l) w ∙ rw ((sound_means board (turned_to p l)).1 (turned_good p g v).sound, view_encode (put_current (view l) p) (right_fit (put_current_right p g v))) refl

module _ {board : Board} (l ws vs : List ℕ) (b : ℕ) (g : Good board l) (one : Within board b l ws) (two : Within board b l vs) (p : ℕ) (s : Beside (view l).k b p) where
  sees : Sees (view (after_all board l ws)) (view (after_all board l vs)) p
  sees =
      let x = beside_same l ws b g one p s in
      let y = beside_same l vs b g two p s in
      record {
        slot = λ i. x.alike.slot i ∙ sym (y.alike.slot i);
        opened = λ i. x.opened i ∙ sym (y.opened i);
        region = λ r. x.region r ∙ sym (y.region r);
      }

  pub still_present : (ws : List ℕ) → Within board b l ws → Present (view (after_all board l ws)).k p
  still_present ws h = let (a, u) = s.outside.present in (a, (beside_same l ws b g h p s).alike.area 0 ∙ u)

  -- THE THEOREM, of two lists: after either, with p current, find and read region on itself have the same outcome
  pub same_answers : SameAnswers board p (after_all board l ws) (after_all board l vs)
  same_answers w e z =
      rw (turned_serves p (after_good g ws) (still_present ws one) w, turned_serves p (after_good g vs) (still_present vs two) w)
      (check_alike BadWord (zeroed call w) _ _ (serve_alike sees board (fields_in call w) e z))

-- REQUEST 112, over words
pub branch_words : (board : Board) → BranchWords board
branch_words board = record {
  untouched = λ {k} l ws a h w. untouched l ws k (record { small = a; sound = h }) w;
  answers = λ {k} {p} l ws vs a h w v q. same_answers l ws vs k (record { small = a; sound = h }) w v p q;
}
