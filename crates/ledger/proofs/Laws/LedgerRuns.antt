-- DEMAND 3, of runs (specs/Laws/LedgerRuns), holds of a sound table whose ledger is right, and so from an accepted boot after any calls.
use Rattle.std.specs.Prelude.{◌≡◌, refl, Bool, true, false, List, [], ◌∷◌, ◌↔◌, ℕ, zero, suc, ◌-◌, ◌≤◌, ◌<◌, length}
use Rattle.std.proofs.Common.{ap, sym, ◌∙◌, arith}
use mathlib.Core.Logic.Iff
use Rattle.shapes.specs.declared.Board.{Board}
use Rattle.tables.specs.State.{Table, K}
use Rattle.tables.specs.View.{view}
use Rattle.tables.specs.Encode.{encode}
use Rattle.sound.specs.Sound.{Sound}
use Rattle.sound.specs.Laws.Core.{sound_core}
use Rattle.sound.proofs.Laws.List.{sound_means}
use Rattle.sound.specs.Holders.{holders_of}
use Rattle.rules.specs.Rules.{done, boot_on}
use Rattle.isolation.specs.Whole.{after_all}
use Rattle.isolation.proofs.Whole.{from_boot_sound}
use Rattle.runs.specs.declared.Run.{Run}
use Rattle.runs.specs.Runs.{deepest_at, run_of, runs_of, nth_run, On, Chain, Longest}
use Rattle.runs.specs.Laws.RunLaws.{runs_longest, same_trail, line_within}
use Rattle.runs.specs.Laws.OneList.{longest_one}
use Rattle.runs.specs.Laws.Meaning.{done_told, short_told}
use Rattle.ledger.specs.Ledger.{Ledger, opening, kept_on}
use Rattle.ledger.proofs.Laws.Kept.{Keeps, from_boot_kept}
use Rattle.ledger.specs.Lists.{Lists}
use Rattle.ledger.specs.Laws.Lists.{lists_same, one_list}
use Rattle.ledger.specs.Laws.Listing.{holders_list}
use Rattle.ledger.specs.Laws.LedgerRuns.{SameNames, LedgerRuns, RunsDemand}

same_bool : (a b : Bool) → (a ≡ true) ↔ (b ≡ true) → a ≡ b
same_bool true b f = sym (f.0 refl)
same_bool false true f = f.1 refl
same_bool false false f = refl

-- the runs with their deepest holders written in
named : K → List Run → List Run
named k [] = []
named k (r ∷ rs) = run_of r.start.0 r.end.0 (deepest_at k r.start.0) ∷ named k rs

named_length : (k : K) (rs : List Run) → length (named k rs) ≡ length rs
unfolding named
named_length k [] = refl
named_length k (r ∷ rs) = ap suc (named_length k rs)

named_at : (k : K) (rs : List Run) (i : ℕ) → i < length rs → nth_run (named k rs) i ≡ run_of (nth_run rs i).start.0 (nth_run rs i).end.0 (deepest_at k (nth_run rs i).start.0)
unfolding named
named_at k [] i b = absurd (omega arith)
named_at k (r ∷ rs) zero b = refl
named_at k (r ∷ rs) (suc i) b = named_at k rs i (omega arith)

-- ── a sound table whose ledger is right ──
module _ {board : Board} {base end : ℕ} {g : Ledger} {t : List ℕ} (h : Sound board t) (s : Keeps base end g (view t).k) where
  abbrev k : K
  k = (view t).k

  lists : (l : ℕ) → base ≤ l → l < end → Lists (λ p. g.stands p l ≡ true) k.parent (holders_of k l)
  lists l a b = lists_same (λ p. Iff.symm (s.holders p l)) (holders_list (sound_core t h) (rw s.base_is a, rw s.end_is b))

  -- two lines have the same names exactly if they have the same holders
  module _ (l m : ℕ) (a : (base ≤ l) × (l < end)) (b : (base ≤ m) × (m < end)) where
    same_names : holders_of k l ≡ holders_of k m → SameNames g l m
    same_names q p =
        let v = (lists l a.0 a.1).exactly p in
        let w = (lists m b.0 b.1).exactly p in
        same_bool (g.stands p l) (g.stands p m) (Iff.trans (rw q at (Iff.symm v)) w)

    same_holders : SameNames g l m → holders_of k l ≡ holders_of k m
    same_holders q = one_list (lists_same (λ p. (λ x. sym (q p) ∙ x, λ x. q p ∙ x)) (lists l a.0 a.1)) (lists m b.0 b.1)

  ledger_runs : LedgerRuns base end g (runs_of k)
  ledger_runs =
      let w = runs_longest k (sound_core t h).s1 in
      let c : Chain base end (runs_of k) = rw (s.base_is, s.end_is) at w.chain in
      record {
        chain = c;
        same = λ i l m b o p. same_names l m (line_within c i l b o) (line_within c i m b p) (w.same i l b o ∙ sym (w.same i m b p));
        differ = λ i l m b o p q. w.differ i l m b o p (same_holders l m (line_within c i l (omega arith) o) (line_within c (suc i) m b p) q);
      }

  -- the deepest holders written in, the runs of the ledger are the longest runs of the table
  module _ {rs : List Run} (w : LedgerRuns base end g rs) where
    low : (i : ℕ) → i < length (named k rs) → i < length rs
    low i b = rw (named_length k rs) at b

    named_on : (i l : ℕ) → i < length (named k rs) → On (nth_run (named k rs) i) l → On (nth_run rs i) l
    named_on i l b o = rw (named_at k rs i (low i b)) at o

    start_on : (i : ℕ) → i < length rs → On (nth_run rs i) (nth_run rs i).start.0
    start_on i b = (omega arith, w.chain.long i b)

    named_chain : Chain k.base k.stop (named k rs)
    named_chain = record {
      some = rw (named_length k rs) w.chain.some;
      from = ap (λ (r : Run). r.start.0) (named_at k rs 0 w.chain.some) ∙ w.chain.from ∙ sym s.base_is;
      to = rw (named_length k rs) (ap (λ (r : Run). r.end.0) (named_at k rs (length rs - 1) (omega (arith, w.chain.some))) ∙ w.chain.to ∙ sym s.end_is);
      next = λ i b. rw (named_at k rs (suc i) (low (suc i) b), named_at k rs i (omega (arith, low (suc i) b))) (w.chain.next i (low (suc i) b));
      long = λ i b. rw (named_at k rs i (low i b)) (w.chain.long i (low i b));
    }

    named_longest : Longest k (named k rs)
    named_longest = record {
      chain = named_chain;
      same = λ i l b o.
          let c = low i b in
          let p = named_on i l b o in
          let q = start_on i c in
          let e = w.same i l (nth_run rs i).start.0 c p q in
          rw (named_at k rs i c)
          (same_holders l (nth_run rs i).start.0 (line_within w.chain i l c p) (line_within w.chain i (nth_run rs i).start.0 c q) e ∙ same_trail k (nth_run rs i).start.0 _ refl);
      differ = λ i l m b o p q.
          let c = low (suc i) b in
          let x = named_on i l (omega arith) o in
          let y = named_on (suc i) m b p in
          w.differ i l m c x y (same_names l m (line_within w.chain i l (omega arith) x) (line_within w.chain (suc i) m c y) q);
    }

    ledger_number : length rs ≡ length (runs_of k)
    ledger_number = sym (named_length k rs) ∙ ap length (longest_one (sound_core t h).s1 named_longest)

  pub kept_runs : RunsDemand board base end g t
  kept_runs = record {
    runs = ledger_runs;
    deepest = λ i l b o. (runs_longest k (sound_core t h).s1).same i l b o;
    number = λ rs w. ledger_number w;
    answer = λ x b. done_told x ((sound_means board t).1 h) b;
    short = λ x b. short_told x ((sound_means board t).1 h) b;
  }

-- from an accepted boot, after the calls of any words
pub runs_demand : (board : Board) (l : List ℕ) (base end : ℕ) {v x : ℕ} {t' : Table} → boot_on l base end ≡ done v x t' → (ws : List ℕ)
    → RunsDemand board base end (kept_on board (encode t') (opening base end) ws) (after_all board (encode t') ws)
runs_demand board l base end z ws = kept_runs (from_boot_sound board l ws base end z) (from_boot_kept board l z ws)
