-- What a branch can't touch, over bytes: from the theorems over words, and that the bytes of a table are those of its words.
use Rattle.std.specs.Prelude.{◌≡◌, refl, List, [], ◌∷◌, ℕ, ◌/◌, ◌%◌, ◌<◌, length}
use Rattle.std.proofs.Common.{ap, sym, subst, ◌∙◌, arith}
use Rattle.std.proofs.lemmas.Bool.{false≢true}
use Rattle.std.proofs.Math.Decide.{ℕ_discrete}
use Rattle.shapes.specs.declared.Board.{Board}
use Rattle.tables.specs.View.{record_word, view}
use Rattle.tables.specs.Write.{put_current}
use Rattle.memory.specs.Bytes.{byte_at, bytes_of, record_byte}
use Rattle.memory.specs.Laws.ByteTrips.{bytes_words, record_byte_law}
use Rattle.sound.specs.Sound.{Present, Sound}
use Rattle.sound.specs.Whole.{Right}
use Rattle.sound.proofs.Laws.List.{sound_means}
use Rattle.rules.specs.Rules.{Effect, done, refused, call_on, words_after}
use Rattle.rules.specs.Ran.{outcome_of}
use Rattle.rules.specs.Calls.{caller_of}
use Rattle.isolation.specs.Laws.Fits.{Good}
use Rattle.isolation.specs.Whole.{after_all}
use Rattle.isolation.proofs.Whole.{after_good}
use Rattle.untouched.specs.Untouched.{Within, Beside, Untouched, turned_to}
use Rattle.untouched.proofs.Laws.Theorem.{untouched}
use Rattle.untouched.proofs.Laws.TwoLists.{still_present, put_current_right, turned_caller, same_answers}
use Rattle.face.specs.Face.{handed, result_of, second_after, bytes_after, CallLent}
use Rattle.face.specs.Laws.Face.{handed_is, handed_unsound}
use Rattle.demands.specs.Demands.{Bytes}
use Rattle.demands.specs.Laws.Calls.{handed_small, handed_of, next}
use Rattle.demands.specs.Branch.{CalledWithin, no_call, one_call, BytesUntouched, BytesAnswer, BranchDemand}

-- ── the calls, as call words ──
-- they are a list of calls within the branch, and the bytes at its end are read as the words at its end
within_words : {board : Board} {k : ℕ} {b d : List ℕ} → Good board (handed b) → CalledWithin board k b d → (ws : List ℕ) × Within board k (handed b) ws × (handed d ≡ after_all board (handed b) ws)
unfolding Within after_all
within_words good no_call = ([], tt, refl)
within_words {board} {k} good (one_call {w = w} u h more) =
    let (g, q) = next good h in
    let (ws, inside, e) = within_words (subst (Good board) (sym q) g) more in
    (w ∷ ws, (u, subst (λ (l : List ℕ). Within board k l ws) q inside), e ∙ ap (λ (l : List ℕ). after_all board l ws) q)

-- ── the bytes of a sound table are those of its words ──
whole : {board : Board} {b : List ℕ} → Bytes b → Sound board (handed b) → b ≡ bytes_of (handed b)
whole {board} {b} small s = go (ℕ_discrete (length b) 5128)
  where
    go : Dec (length b ≡ 5128) → b ≡ bytes_of (handed b)
    go (yes h) = sym (ap bytes_of (sym (handed_is b h)) ∙ bytes_words b h (λ i _. small i))
    go (no h) = absurd (false≢true (sym (handed_unsound b h board) ∙ (sound_means board (handed b)).1 s))

-- .. and stay so
call_whole : {board : Board} {b c : List ℕ} {w s r s' : ℕ} → Good board (handed b) → b ≡ bytes_of (handed b) → CallLent board b w s r c s' → c ≡ bytes_of (handed c)
unfolding bytes_after words_after
call_whole {board} {b} {c} {w} good e h = go (call_on board (handed b) w) h.table.bytes (next good h).1
  where
    go : (x : Effect) → c ≡ bytes_after b x → handed c ≡ words_after (handed b) x → c ≡ bytes_of (handed c)
    go (done v y t) q z = q ∙ ap bytes_of (sym z)
    go (refused n) q z = q ∙ e ∙ ap bytes_of (sym z)

calls_whole : {board : Board} {k : ℕ} {b d : List ℕ} → Good board (handed b) → b ≡ bytes_of (handed b) → CalledWithin board k b d → d ≡ bytes_of (handed d)
calls_whole good e no_call = e
calls_whole {board} good e (one_call u here more) =
    let (g, q) = next good here in
    calls_whole (subst (Good board) (sym q) g) (call_whole good e here) more

bytes_of_law : {b : List ℕ} → b ≡ bytes_of (handed b) → (p n : ℕ) → p < 16 → n < 320 → record_byte b p n ≡ byte_at (record_word (handed b) p (n / 8)) (n % 8)
bytes_of_law {b} e p n hp hn = ap (λ (x : List ℕ). record_byte x p n) e ∙ record_byte_law (handed b) p n hp hn

-- ── two lists ──
-- with p current, a result and a second value are those of the outcome
module _ {board : Board} (l : List ℕ) {p : ℕ} (t : Right (put_current (view l) p)) (caller : caller_of board (turned_to p l) ≡ p) {w s r s' : ℕ} {c : List ℕ} (h : CallLent board (bytes_of (turned_to p l)) w s r c s') where
  result_is : r ≡ result_of p (outcome_of (call_on board (turned_to p l) w))
  result_is = rw (handed_of t, caller) at h.table.result

  second_is : s' ≡ second_after s (outcome_of (call_on board (turned_to p l) w))
  second_is = rw (handed_of t) at h.second

good_of : {board : Board} (b : List ℕ) → Bytes b → Sound board (handed b) → Good board (handed b)
good_of b small sound = record { small = handed_small b small; sound = sound }

module _ {board : Board} (b : List ℕ) (small : Bytes b) (sound : Sound board (handed b)) where
  abbrev good : Good board (handed b)
  good = good_of b small sound

  module _ {k : ℕ} {d : List ℕ} (h : CalledWithin board k b d) where
    left : Untouched k (handed b) (handed d)
    left =
        let (ws, inside, e) = within_words good h in
        subst (Untouched k (handed b)) (sym e) (untouched (handed b) ws k good inside)

    bytes_left_law : BytesUntouched k b d
    bytes_left_law =
        let e = whole small sound in
        let f = calls_whole good e h in
        record {
          beside = λ p n hp hn q.
              bytes_of_law f p n hp hn
              ∙ ap (λ (w : ℕ). byte_at w (n % 8)) (left.beside p (n / 8) hp (omega arith) q)
              ∙ sym (bytes_of_law e p n hp hn);
          words = left;
        }

  module _ {k p : ℕ} (q : Beside (view (handed b)).k k p) (ws vs : List ℕ) (one : Within board k (handed b) ws) (two : Within board k (handed b) vs) where
    -- after a list of calls p is present still, and can be made current
    module _ (us : List ℕ) (inside : Within board k (handed b) us) where
      present : Present (view (after_all board (handed b) us)).k p
      present = still_present (handed b) ws vs k good one two p q us inside

      right : Right (put_current (view (after_all board (handed b) us)) p)
      right = put_current_right p (after_good good us) present

      caller : caller_of board (turned_to p (after_all board (handed b) us)) ≡ p
      caller = turned_caller p (after_good good us) present

    words_answer : {d e : List ℕ} → handed d ≡ after_all board (handed b) ws → handed e ≡ after_all board (handed b) vs → BytesAnswer board p d e
    words_answer x y = record {
      same = λ {w} {s} reads own u v.
          let same = same_answers (handed b) ws vs k good one two p q w reads own in
          let u' = rw x at u in
          let v' = rw y at v in (
            result_is (after_all board (handed b) ws) (right ws one) (caller ws one) u' ∙ ap (result_of p) same ∙ sym (result_is (after_all board (handed b) vs) (right vs two) (caller vs two) v'),
            second_is (after_all board (handed b) ws) (right ws one) (caller ws one) u' ∙ ap (second_after s) same ∙ sym (second_is (after_all board (handed b) vs) (right vs two) (caller vs two) v'),
          );
    }

  bytes_answer : {k p : ℕ} {d e : List ℕ} → CalledWithin board k b d → CalledWithin board k b e → Beside (view (handed b)).k k p → BytesAnswer board p d e
  bytes_answer x y q =
      let (ws, one, i) = within_words good x in
      let (vs, two, j) = within_words good y in
      words_answer q ws vs one two i j

-- REQUEST 112, over bytes
pub branch_demand : (board : Board) → BranchDemand board
branch_demand board = record { untouched = λ {b = b} a s h. bytes_left_law b a s h; answers = λ {b = b} a s x y q. bytes_answer b a s x y q }
