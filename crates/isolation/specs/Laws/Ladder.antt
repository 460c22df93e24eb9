-- A ladder of conditions has one answer, what is done has passed all of them, and the rules' checks are such conditions.
use Rattle.std.specs.Prelude.{◌≡◌, refl, Bool, true, false, ◌↔◌, ℕ, ◌<◌}
use Rattle.std.proofs.Common.{sym, subst, ◌∙◌, arith}
use Rattle.std.proofs.lemmas.Bool.{false≢true}
use Rattle.std.proofs.Math.Decide.{dec_lt}
use Rattle.words.specs.declared.Refusal.{Refusal}
use Rattle.tables.specs.State.{Opt, none, some, Table}
use Rattle.tables.specs.Laws.State.{some_inj, not_none}
use Rattle.tables.specs.Search.{lowest}
use Rattle.tables.specs.Laws.Search.{lowest_some, lowest_none}
use Rattle.rules.specs.Rules.{Effect, done, refused, check, need}
use Rattle.isolation.specs.Ladder.{Least, Ladder, must, there, least, Answers, finished, holds, fails, found, missing, lowest_is, no_lowest, Ends}

-- ── there is one answer ──
pub least_one : {m : ℕ} {P : ℕ → Type 0} {i j : ℕ} → Least m P i → Least m P j → i ≡ j
least_one {i = i} {j} a b = go (dec_lt i j) (dec_lt j i)
  where
    go : Dec (i < j) → Dec (j < i) → i ≡ j
    go (yes l) _ = absurd (b.before i l a.here)
    go (no _) (yes l) = absurd (a.before j l b.here)
    go (no x) (no y) = omega arith

pub answer_one : {c : Ladder} {r s : Effect} → Answers c r → Answers c s → r ≡ s
answer_one finished finished = refl
answer_one (holds p a) (holds q b) = answer_one a b
answer_one (holds p a) (fails n) = absurd (n p)
answer_one (fails n) (holds p b) = absurd (n p)
answer_one (fails n) (fails m) = refl
answer_one {s = s} (found {o = o} {c = c} x u a) (found y v b) = answer_one a (subst (λ z. Answers (c z) s) (some_inj (sym v ∙ u)) b)
answer_one (found {o = o} x u a) (missing v) = not_none o v u
answer_one (missing {o = o} v) (found x u b) = not_none o v u
answer_one (missing _) (missing _) = refl
answer_one {s = s} (lowest_is {c = c} i p a) (lowest_is j q b) = answer_one a (subst (λ z. Answers (c z) s) (least_one q p) b)
answer_one (lowest_is i p a) (no_lowest n) = absurd (n i p.below p.here)
answer_one (no_lowest n) (lowest_is i p b) = absurd (n i p.below p.here)
answer_one (no_lowest _) (no_lowest _) = refl

-- ── what is done has passed all conditions ──
pub not_done : {A : Type 0} {why : Refusal} {v w : ℕ} {t : Table} → refused why ≡ done v w t → A
not_done x = absurd (let z : ◌≡◌ {A = ℕ} 0 1 = cc in omega arith)

-- .. so it holds of what is done
pub ends : (Q : ℕ → ℕ → Table → Type 0) {c : Ladder} {r : Effect} {v w : ℕ} {t : Table} → Answers c r → Ends Q c → r ≡ done v w t → Q v w t
unfolding Ends
ends Q {v = v} {w} {t} (finished {v = a} {w = b} {t = u}) h x =
    let i : a ≡ v = cc in
    let j : b ≡ w = cc in
    let k : u ≡ t = cc in
    rw (← i, ← j, ← k) h
ends Q (holds p s) h x = ends Q s (h p) x
ends Q (found a u s) h x = ends Q s (h a u) x
ends Q (lowest_is i p s) h x = ends Q s (h i p) x
ends Q (fails _) h x = not_done x
ends Q (missing _) h x = not_done x
ends Q (no_lowest _) h x = not_done x

-- ── the rules' checks are such conditions ──
pub check_answers : {why : Refusal} {b : Bool} {r : Effect} {P : Type 0} {c : Ladder} → (b ≡ true) ↔ P → (P → Answers c r) → Answers (must why P c) (check why b r)
unfolding check
check_answers {b = true} m f = let p = m.0 refl in holds p (f p)
check_answers {b = false} m f = fails (λ p. false≢true (m.1 p))

pub need_answers : {A : Type 0} {why : Refusal} {o : Opt A} {f : A → Effect} {c : A → Ladder}
    → ((a : A) → o ≡ some a → Answers (c a) (f a)) → Answers (there why o c) (need why o f)
unfolding need
need_answers {o = none} g = missing refl
need_answers {o = some a} g = found a refl (g a refl)

pub lowest_answers : {why : Refusal} {m : ℕ} {f : ℕ → Bool} {P : ℕ → Type 0} {g : ℕ → Effect} {c : ℕ → Ladder}
    → ((i : ℕ) → (f i ≡ true) ↔ P i) → ((i : ℕ) → Least m P i → Answers (c i) (g i)) → Answers (least why m P c) (need why (lowest m f) g)
unfolding need
lowest_answers {why} {m} {f} {P} {g} {c} means k = go (lowest m f) refl
  where
    go : (o : Opt ℕ) → lowest m f ≡ o → Answers (least why m P c) (need why o g)
    go none q = no_lowest (λ i b p. false≢true (sym (lowest_none m f q i b) ∙ (means i).1 p))
    go (some i) q =
        let h = lowest_some m f i q in
        let p : Least m P i = record { below = h.below; here = (means i).0 h.holds; before = λ j b u. false≢true (sym (h.before j b) ∙ (means j).1 u) } in
        lowest_is i p (k i p)
