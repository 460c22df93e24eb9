-- Boot gives a right table in which the root holds base to end; its answer is that of its conditions.
use Rattle.std.specs.Prelude.{◌≡◌, List, ◌⊎◌, ◌↔◌, ℕ, ◌^◌, ◌≤◌, ◌<◌, length}
use Rattle.std.proofs.Math.Path.{refl}
use Rattle.std.proofs.Common.{sym, ◌∙◌, inl, inr, arith}
use Rattle.std.proofs.lemmas.Bool.{false≢true}
use Rattle.loops.specs.Loops.{at_root}
use Rattle.tables.specs.State.{none, some, Entry, Area, nowhere, Table, Same, root_entry}
use Rattle.tables.specs.Laws.State.{same, some_inj, not_none, same_a}
use Rattle.tables.specs.Update.{upd}
use Rattle.tables.specs.Laws.Update.{upd_same, upd_other, upd_from}
use Rattle.tables.specs.Lines.{Holds}
use Rattle.sound.specs.Sound.{Rooted}
use Rattle.sound.specs.Laws.Means.{eq_means, lt_means, and_means}
use Rattle.sound.specs.Core.{Core}
use Rattle.sound.specs.Whole.{Right}
use Rattle.rules.specs.Rules.{done, boot_k, boot_on}
use Rattle.isolation.specs.Laws.Settled.{settle_right}
use Rattle.isolation.specs.Ladder.{Answers, finished, Ends}
use Rattle.isolation.specs.Laws.Ladder.{ends, check_answers}
use Rattle.isolation.specs.Ladders.{boot_ladder}

module _ (base end : ℕ) where
  slot_from : (p i : ℕ) (e : Entry) → (boot_k base end).slot p i ≡ some e → (p ≡ 0) × (i ≡ 0) × Same e (root_entry base end)
  slot_from p i e u = go (upd_from (λ p i. none) 0 0 (some (root_entry base end)) p i u)
    where
      go : ((p ≡ 0) × (i ≡ 0) × (some (root_entry base end) ≡ some e)) ⊎ (((p ≡ 0) × (i ≡ 0) → ⊥) × (none ≡ some e)) → (p ≡ 0) × (i ≡ 0) × Same e (root_entry base end)
      go (inl (y, z, v)) = (y, z, same (sym (some_inj v)))
      go (inr (_, v)) = not_none none refl v

  area_from : (p j : ℕ) (a : Area) → (boot_k base end).area p j ≡ some a → Rooted p j × (a ≡ nowhere)
  area_from p j a u = go (upd_from (upd (λ p j. none) 0 0 (some nowhere)) 0 1 (some nowhere) p j u)
    where
      first : ((p ≡ 0) × (j ≡ 0) × (some nowhere ≡ some a)) ⊎ (((p ≡ 0) × (j ≡ 0) → ⊥) × (none ≡ some a)) → Rooted p j × (a ≡ nowhere)
      first (inl (y, z, v)) = ((y, omega arith), sym (some_inj v))
      first (inr (_, v)) = not_none none refl v

      go : ((p ≡ 0) × (j ≡ 1) × (some nowhere ≡ some a)) ⊎ (((p ≡ 0) × (j ≡ 1) → ⊥) × (upd (λ p j. none) 0 0 (some nowhere) p j ≡ some a)) → Rooted p j × (a ≡ nowhere)
      go (inl (y, z, v)) = ((y, omega arith), sym (some_inj v))
      go (inr (_, v)) = first (upd_from (λ p j. none) 0 0 (some nowhere) p j v)

  entry : (boot_k base end).slot 0 0 ≡ some (root_entry base end)
  entry = upd_same (λ p i. none) 0 0 (some (root_entry base end)) 0 0 (refl, refl)

  header : (boot_k base end).area 0 0 ≡ some nowhere
  header =
      upd_other (upd (λ p j. none) 0 0 (some nowhere)) 0 1 (some nowhere) 0 0 (λ z. omega (arith, z.1))
      ∙ upd_same (λ p j. none) 0 0 (some nowhere) 0 0 (refl, refl)

  structure : (boot_k base end).area 0 1 ≡ some nowhere
  structure = upd_same (upd (λ p j. none) 0 0 (some nowhere)) 0 1 (some nowhere) 0 1 (refl, refl)

  -- the ledger's first line: the root holds base to end
  pub boot_holds : (p l : ℕ) → Holds (boot_k base end).slot p l ↔ ((p ≡ 0) × ((base ≤ l) × (l < end)))
  boot_holds p l = (
    λ u. let (z, _, w) = slot_from p u.i u.e u.at in (z, (omega arith, omega arith)),
    λ (z, (x, y)). record { i = 0; e = root_entry base end; at = rw z entry; holds = omega arith },
  )

  pub boot_core : base < end → Core (boot_k base end)
  boot_core h = record {
    s1 = h;
    s1_current = (nowhere, header);
    s2_root_law = (header, structure, refl);
    s2_range = λ p j a u. let ((y, z), _) = area_from p j a u in (omega arith, omega arith);
    s2_absent = λ p j a u. rw (area_from p j a u).0.0 (nowhere, header);
    s2_parent = λ p u. refl;
    s2_up = λ p u. (nowhere, header);
    s2_climb = λ p u. at_root (area_from p 0 u.0 u.1).0.0;
    s4 = λ p j a u n. absurd (n (area_from p j a u).0);
    s5 = λ p i e u. let (y, z, _) = slot_from p i e u in rw (y, z) (nowhere, structure);
    s5_range = λ p i e u. let (_, _, w) = slot_from p i e u in omega arith;
    s6 = λ p i j e f l u v x y. (slot_from p i e u).1 ∙ sym (slot_from p j f v).1;
    s7_root_law = λ l. (λ u. ((boot_holds 0 l).0 u).1, λ u. (boot_holds 0 l).1 (refl, u));
    s7_given_law = λ p i e u n. absurd (n (slot_from p i e u).2.given);
    s7_in = λ p i e u n. absurd (n (slot_from p i e u).0);
    s7_cover_law = λ p i e l u n x. absurd (n (slot_from p i e u).2.given);
    s7_whole_law = λ p i e u z. absurd (false≢true (sym (slot_from p i e u).2.whole ∙ z));
    s8 = λ p j a u n. absurd (n (area_from p j a u).0);
    s8_apart_law = λ p j q i a b l u v x y. let w = same_a (area_from p j a u).1 in absurd (omega arith);
    s11 = λ i e u. (slot_from 0 i e u).2.rights;
    s11_equal_law = λ c i m e f n u. absurd (n (slot_from c i e u).0);
  }

-- ── the call ──
module _ (l : List ℕ) (base end : ℕ) where
  pub boot_exact : Answers (boot_ladder l base end) (boot_on l base end)
  unfolding boot_on
  boot_exact =
      check_answers (eq_means (length l) 641) λ _.
      check_answers (and_means (and_means (lt_means base end) (lt_means base (2 ^ 27))) (lt_means end (2 ^ 27))) λ _.
      finished

  pub boot_right : {v w : ℕ} {t' : Table} → boot_on l base end ≡ done v w t' → Right t'
  unfolding Ends
  boot_right = ends (λ _ _. Right) boot_exact (λ _ ((a, _), b). settle_right (boot_core base end a) b (record {
    eight = λ p r i u. not_none none refl u;
    once = λ p r q i u. not_none none refl u;
  }))
