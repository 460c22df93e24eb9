-- There is one such list, two children of one parent never stand in it together, and its length is the number of those that it names.
use Rattle.std.specs.Prelude.{◌≡◌, refl, Bool, true, not, List, [], ◌∷◌, ◌↔◌, ℕ, zero, suc, ◌<◌, length}
use Rattle.std.proofs.Common.{ap, sym, ◌∙◌, arith, ext_get_or, eqb-true}
use Rattle.std.proofs.lemmas.Bool.{false≢true}
use mathlib.Core.Logic.Iff
use Rattle.std.proofs.Math.Decide.{dec_lt}
use Rattle.loops.specs.Laws.Every.{all_of}
use Rattle.loops.specs.Loops.{count}
use Rattle.loops.specs.Laws.Count.{count_none, without, without_same, without_other, count_without}
use Rattle.sound.specs.Laws.Tests.{not_of}
use Rattle.ledger.specs.Lists.{nth_name, Stands, Once, Lists}

-- of a test that says the same
pub lists_same : {P Q : ℕ → Type 0} {up : ℕ → ℕ} {hs : List ℕ} → ((p : ℕ) → P p ↔ Q p) → Lists P up hs → Lists Q up hs
lists_same f w = record { exactly = λ p. Iff.trans (w.exactly p) (f p); root = w.root; next = w.next; once = w.once; few = w.few }

module _ {P : ℕ → Type 0} {up : ℕ → ℕ} {hs : List ℕ} (w : Lists P up hs) where
  -- who stands in it and is not the root stands after its parent
  after_parent : (c : ℕ) → (c ≡ 0 → ⊥) → Stands c hs → (i : ℕ) × (suc i < length hs) × (nth_name hs (suc i) ≡ c) × (nth_name hs i ≡ up c)
  after_parent c n (zero, _, y) = absurd (n (sym y ∙ w.root.1))
  after_parent c n (suc i, b, y) = (i, b, y, sym (w.next i b) ∙ ap up y)

  -- two children of one parent that stand in it are one
  pub no_siblings : (c d : ℕ) → (c ≡ 0 → ⊥) → (d ≡ 0 → ⊥) → up c ≡ up d → Stands c hs → Stands d hs → c ≡ d
  no_siblings c d m n q x y =
      let (i, a, u, v) = after_parent c m x in
      let (j, b, s, t) = after_parent d n y in
      let e = w.once i j (omega arith) (omega arith) (v ∙ q ∙ sym t) in
      sym u ∙ ap (λ (k : ℕ). nth_name hs (suc k)) e ∙ s

-- ── there is one such list ──
module _ {P : ℕ → Type 0} {up : ℕ → ℕ} where
  along : {hs ks : List ℕ} → Lists P up hs → Lists P up ks → (i : ℕ) → i < length hs → (i < length ks) × (nth_name hs i ≡ nth_name ks i)
  along v w zero b = (w.root.0, v.root.1 ∙ sym w.root.1)
  along {hs} {ks} v w (suc i) b =
      let (a, q) = along v w i (omega arith) in
      let n : nth_name hs (suc i) ≡ 0 → ⊥ = λ z. let y = v.once (suc i) 0 b v.root.0 (z ∙ sym v.root.1) in omega arith in
      let (j, c, r, s) = after_parent w (nth_name hs (suc i)) n ((w.exactly _).1 ((v.exactly _).0 (suc i, b, refl))) in
      let e : j ≡ i = w.once j i (omega arith) a (s ∙ v.next i b ∙ q) in
      (omega arith, sym r ∙ ap (λ (k : ℕ). nth_name ks (suc k)) e)

  pub one_list : {hs ks : List ℕ} → Lists P up hs → Lists P up ks → hs ≡ ks
  one_list {hs} {ks} v w = ext_get_or 0 hs ks (go (dec_lt (length hs) (length ks)) (dec_lt (length ks) (length hs))) (λ i b. (along v w i b).1)
    where
      go : Dec (length hs < length ks) → Dec (length ks < length hs) → length hs ≡ length ks
      go (yes b) _ = absurd (omega (arith, (along w v (length hs) b).0))
      go (no _) (yes b) = absurd (omega (arith, (along v w (length ks) b).0))
      go (no a) (no b) = omega arith

-- ── its length ──
module _ (f : ℕ → Bool) (x : ℕ) (xs : List ℕ) (e : (p : ℕ) → Stands p (x ∷ xs) ↔ (f p ≡ true)) (o : Once (x ∷ xs)) where
  rest_once : Once xs
  rest_once i j a b q = let z : suc i ≡ suc j = o (suc i) (suc j) (omega arith) (omega arith) q in omega arith

  -- the rest of the list names the others
  rest : (p : ℕ) → Stands p xs ↔ (without f x p ≡ true)
  rest p = (
    λ (i, a, q).
        let n : p ≡ x → ⊥ = λ z. let y = o (suc i) 0 (omega arith) (omega arith) (q ∙ z) in omega arith in
        without_other f x p n ∙ (e p).0 (suc i, omega arith, q),
    λ y.
        let n : p ≡ x → ⊥ = λ z. false≢true (sym (without_same f x) ∙ rw z at y) in
        go n ((e p).1 (sym (without_other f x p n) ∙ y)),
  )
    where
      go : {p : ℕ} → (p ≡ x → ⊥) → Stands p (x ∷ xs) → Stands p xs
      go n (zero, _, q) = absurd (n (sym q))
      go n (suc i, a, q) = (i, omega arith, q)

pub names_counted : (n : ℕ) (f : ℕ → Bool) (hs : List ℕ) → ((p : ℕ) → Stands p hs ↔ (f p ≡ true)) → ((p : ℕ) → Stands p hs → p < n) → Once hs → length hs ≡ count n f
names_counted n f [] e b o = sym (eqb-true _ 0 (count_none n f ∙ all_of n (λ k. not (f k)) (λ k _. not_of (f k) (λ q. let (i, a, _) = (e k).1 q in omega arith))))
names_counted n f (x ∷ xs) e b o =
    let here : Stands x (x ∷ xs) = (0, omega arith, refl) in
    let c = names_counted n (without f x) xs (rest f x xs e o) (λ p (i, a, q). b p (suc i, omega arith, q)) (rest_once f x xs e o) in
    omega (arith, c, count_without f x n (b x here) ((e x).0 here))
