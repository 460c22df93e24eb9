-- THE THEOREMS: a verdict names exactly the lowest clause that fails and the lowest partition where it fails; accepted are exactly the sound tables,
-- whoever made them, and every table that calls lead to.
use Rattle.std.specs.Prelude.{◌≡◌, refl, cond, ◌⊎◌, ◌↔◌, List, ℕ, ◌+◌, ◌/◌, ◌%◌, eqb, length}
use Rattle.std.proofs.Common.{sym, ◌∙◌, eq-eqb, ne_eqb}
use Rattle.std.proofs.Math.Logic.{inl, inr}
use Rattle.std.proofs.Math.Decide.{ℕ_discrete}
use Rattle.loops.specs.Laws.Scan.{Sought, seek_law}
use Rattle.shapes.specs.declared.Board.{Board}
use Rattle.tables.specs.State.{Table}
use Rattle.tables.specs.Encode.{encode}
use Rattle.tables.specs.Fitting.{Words}
use Rattle.memory.specs.Bytes.{words_of}
use Rattle.memory.specs.Laws.ByteTrips.{length_words_of_law}
use Rattle.sound.specs.Sound.{Sound}
use Rattle.rules.specs.Rules.{done, boot_on}
use Rattle.isolation.specs.Whole.{after_all}
use Rattle.isolation.proofs.Whole.{after_sound, from_boot_sound}
use Rattle.verdict.specs.declared.Verdict.TheVariants.{Accepted, Fails, Length}
use Rattle.verdict.specs.Verdict.{fails_at, failing, verdict, image_verdict, Names, ClauseNamed}
use Rattle.verdict.proofs.Laws.Names.{accepted_not, length_not, length_names, fails_same, verdict_names, accepted_lower, lower_accepted}

module _ (b : Board) (l : List ℕ) where
  -- Fails n p exactly where clause n is the lowest that fails, and p the lowest partition where it fails: as propositions
  pub verdict_means : {n p : ℕ} → (verdict b l ≡ Fails n (record { 0 = p })) ↔ Names b l n p
  verdict_means = verdict_names b l

  -- no two clauses or partitions can be named
  pub names_unique : {n p m q : ℕ} → Names b l n p → Names b l m q → (n ≡ m) × (p ≡ q)
  names_unique x y = fails_same (sym (verdict_means.1 x) ∙ verdict_means.1 y)

  -- accepted exactly if sound
  pub verdict_sound : length l ≡ 641 → (verdict b l ≡ Accepted) ↔ Sound b l
  verdict_sound size = (λ e. record { size = size; clauses = accepted_lower b l e }, λ h. lower_accepted b l h.clauses)

  -- one of the two, and never both
  pub verdict_either : (verdict b l ≡ Accepted) ⊎ ((n : ℕ) × (p : ℕ) × Names b l n p)
  unfolding verdict failing
  verdict_either = go (seek_law (fails_at b l) failing Accepted 176)
    where
      go : Sought (fails_at b l) failing Accepted 176 (verdict b l) → (verdict b l ≡ Accepted) ⊎ ((n : ℕ) × (p : ℕ) × Names b l n p)
      go (inl (m, r)) = inr (1 + m / 16, m % 16, verdict_means.0 r.is)
      go (inr r) = inl r.is

  pub never_both : {n p : ℕ} → Names b l n p → Sound b l → ⊥
  never_both x h = accepted_not (sym ((verdict_sound h.size).1 h) ∙ verdict_means.1 x)

-- ── of an image's bytes ──
pub image_sound : (b : Board) (i : List ℕ) → (image_verdict b i ≡ Accepted) ↔ ((length i ≡ 5128) × Sound b (words_of i))
unfolding image_verdict
image_sound b i = (
  λ e. go (ℕ_discrete (length i) 5128) e,
  λ h. rw (eq-eqb (length i) 5128 h.0) ((verdict_sound b (words_of i) (length_words_of_law i)).1 h.1),
)
  where
    go : Dec (length i ≡ 5128) → cond (eqb (length i) 5128) (verdict b (words_of i)) Length ≡ Accepted → (length i ≡ 5128) × Sound b (words_of i)
    go (yes z) e = (z, (verdict_sound b (words_of i) (length_words_of_law i)).0 (rw (eq-eqb (length i) 5128 z) at e))
    go (no z) e = absurd (length_not (rw (ne_eqb (length i) 5128 z) at e))

-- what it names, it names of a table
pub image_names : (b : Board) (i : List ℕ) {n p : ℕ} → (image_verdict b i ≡ Fails n (record { 0 = p })) ↔ ((length i ≡ 5128) × Names b (words_of i) n p)
unfolding image_verdict
image_names b i {n} {p} = (
  λ e. go (ℕ_discrete (length i) 5128) e,
  λ h. rw (eq-eqb (length i) 5128 h.0) ((verdict_means b (words_of i)).1 h.1),
)
  where
    go : Dec (length i ≡ 5128) → cond (eqb (length i) 5128) (verdict b (words_of i)) Length ≡ Fails n (record { 0 = p }) → (length i ≡ 5128) × Names b (words_of i) n p
    go (yes z) e = (z, (verdict_means b (words_of i)).0 (rw (eq-eqb (length i) 5128 z) at e))
    go (no z) e = absurd (length_names (rw (ne_eqb (length i) 5128 z) at e))

pub image_few : (b : Board) (i : List ℕ) → ClauseNamed (image_verdict b i)
image_few b i = record { fails = λ n p e. let (_, h) = (image_names b i).0 e in (h.to, h.partition) }

-- another length, and nothing else, is said to be one
pub image_length : (b : Board) (i : List ℕ) → (image_verdict b i ≡ Length) ↔ (length i ≡ 5128 → ⊥)
unfolding image_verdict
image_length b i = (
  λ e z. table (verdict_either b (words_of i)) (rw (eq-eqb (length i) 5128 z) at e),
  λ n. rw (ne_eqb (length i) 5128 n) refl,
)
  where
    table : (verdict b (words_of i) ≡ Accepted) ⊎ ((n : ℕ) × (p : ℕ) × Names b (words_of i) n p) → verdict b (words_of i) ≡ Length → ⊥
    table (inl a) e = length_not (sym e ∙ a)
    table (inr (n, p, h)) e = length_names (sym e ∙ (verdict_means b (words_of i)).1 h)

-- ── calls ──
-- every table that calls lead to from an accepted one, whoever made it, is accepted ..
pub after_accepted : (b : Board) (l ws : List ℕ) → Words l → length l ≡ 641 → verdict b l ≡ Accepted → verdict b (after_all b l ws) ≡ Accepted
after_accepted b l ws small size e =
    let s = after_sound l ws small ((verdict_sound b l size).0 e) in
    (verdict_sound b (after_all b l ws) s.size).1 s

-- .. and so is every table that calls lead to from an accepted boot
pub from_boot_accepted : (b : Board) (l ws : List ℕ) (base end : ℕ) {v x : ℕ} {t' : Table} → boot_on l base end ≡ done v x t' → verdict b (after_all b (encode t') ws) ≡ Accepted
from_boot_accepted b l ws base end {t' = t'} z =
    let s = from_boot_sound b l ws base end z in
    (verdict_sound b (after_all b (encode t') ws) s.size).1 s
