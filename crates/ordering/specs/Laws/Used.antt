-- Behind the last structure no slot has an entry or an open bit.
use Rattle.std.specs.Prelude.{◌≡◌, Bool, false, List, ℕ, zero, suc, ◌+◌, ◌-◌, ◌/◌, ◌≤◌, ◌<◌}
use Rattle.std.proofs.Common.{arith}
use Rattle.loops.specs.Loops.{seek}
use Rattle.loops.specs.Laws.Scan.{Seeking, seek_on, seek_end}
use Rattle.tables.specs.State.{none}
use Rattle.tables.specs.Laws.State.{not_none, never_some}
use Rattle.tables.specs.View.{view}
use Rattle.tables.specs.Laws.ZeroWord.{not_open}
use Rattle.settling.specs.Settled.{UsedEnd}
use Rattle.settling.specs.Laws.Settled.{ends_one}
use Rattle.sound.specs.Sound.{S5}
use Rattle.sound.proofs.Laws.MeansWords.{s5_means}
use Rattle.shape.specs.AtOnce.{Shaped}
use Rattle.shape.specs.Laws.AtOnce.{shaped_s5}
use Rattle.ordering.specs.Used.{Used}

-- two results are equal
pub used_one : {l : List ℕ} {q r s : ℕ} → Used l q r → Used l q s → r ≡ s
used_one x y = ends_one x.end y.end

module _ {l : List ℕ} {q : ℕ} (shaped : Shaped l) (in16 : q < 16) where
  s5 : S5 l (view l).k q
  s5 = (s5_means l q in16).0 (shaped_s5 shaped q in16)

  -- an empty slot is a zero word
  pub empty_closed : (i : ℕ) → i < 32 → (view l).k.slot q i ≡ none → (view l).opened q i ≡ false
  empty_closed i b n = not_open l q i (λ _ _. s5.other i b n)

  -- .. so the slots behind the last structure are
  pub used_so : {r : ℕ} → UsedEnd (view l).k q r → Used l q r
  used_so {r} h = record {
    end = h;
    bound = record { within = omega (arith, h.is, h.within); empty = empty; closed = λ i a b. empty_closed i b (empty i a b) };
  }
    where
      empty : (i : ℕ) → r ≤ i → i < 32 → (view l).k.slot q i ≡ none
      empty i a b = never_some ((view l).k.slot q i) (λ e u.
          let (x, v) = s5.structure i e u in
          not_none ((view l).k.area q (1 + i / 8)) (h.gone (i / 8) (omega (arith, h.is)) (omega arith)) v)

-- a search that stops at m, where nothing behind is a hit
pub seek_bound : {A : Type 0} {f : ℕ → Bool} {hit : ℕ → A} {e : A} {n i : ℕ} → Seeking f hit e n i → ((j : ℕ) → i ≤ j → j < n → f j ≡ false) → e ≡ seek f hit e n
seek_bound {A} {f} {hit} {e} {n} {i} inv q = go (n - i) i (omega (arith, inv.within)) inv q
  where
    go : (c i : ℕ) → n ≡ i + c → Seeking f hit e n i → ((j : ℕ) → i ≤ j → j < n → f j ≡ false) → e ≡ seek f hit e n
    go zero i z inv q = seek_end inv (omega arith)
    go (suc c) i z inv q = go c (i + 1) (omega arith) (seek_on inv (omega arith) (q i (omega arith) (omega arith))) (λ j a b. q j (omega arith) b)
