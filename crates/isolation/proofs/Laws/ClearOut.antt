-- Clear out keeps a table sound, the caller has back what it gave to p, and as many partitions fewer are present as it answers; its answer is that of its conditions.
use Rattle.std.specs.Prelude.{◌≡◌, ◌⊎◌, ◌↔◌, true, false, cond, ◌||◌}
use Rattle.std.proofs.Math.Path.{refl}
use Rattle.std.proofs.Common.{sym, subst, ◌∙◌, inl, inr}
use Rattle.std.proofs.Math.Bool.{Bool, or-false}
use Rattle.std.proofs.lemmas.Bool.{false≢true}
use Prim.Native.Nat.{ℕ, ◌+◌, ◌<◌}
use Rattle.loops.specs.Loops.{count}
use Rattle.loops.specs.Laws.Count.{count_ext, count_apart}
use Rattle.tables.specs.State.{Opt, none, some, Entry, Area, K, Table, given_to}
use Rattle.tables.specs.Search.{is_some, present}
use Rattle.tables.specs.Settle.{settle}
use Rattle.sound.specs.Sound.{Present}
use Rattle.sound.proofs.Laws.MeansEntries.{present_means}
use Rattle.sound.specs.Core.{Core}
use Rattle.sound.specs.Laws.Core.{parent_range}
use Rattle.sound.specs.Properties.{Child}
use Rattle.sound.specs.Whole.{Right}
use Rattle.rules.specs.Rules.{remove_k, remove, done, branch, clear_out}
use Rattle.rules.specs.Branch.{Under, itself, below}
use Rattle.rules.specs.Laws.Branch.{under_root, branch_of_law, branch_at, under_parent}
use Rattle.isolation.specs.Ladder.{Answers, finished, Ends}
use Rattle.isolation.specs.Laws.Ladder.{ends, check_answers}
use Rattle.isolation.specs.Laws.Checks.{is_child_means}
use Rattle.isolation.specs.Laws.Remove.{Goes}
use Rattle.isolation.proofs.Laws.Remove.{freed_at, remove_right}
use Rattle.isolation.specs.Ladders.{clear_ladder}

-- ── the branch of a child of the caller goes ──
module _ {k : K} (h : Core k) where
  module _ {p : ℕ} (c : Child k k.current p) where
    in_branch : (q : ℕ) → q < 16 → Under k.parent p q → branch k.parent p q ≡ true
    in_branch q b u = branch_of_law k.parent p c.other (parent_range h) b u

    -- the branch of p is p and every descendant of it
    pub branch_means : (q : ℕ) → q < 16 → (branch k.parent p q ≡ true) ↔ Under k.parent p q
    branch_means q b = (branch_at k.parent p, in_branch q b)

    -- who is in it is present: the parent of an absent partition is 0
    in_present : (q : ℕ) → Under k.parent p q → Present k q
    in_present q (itself z) = rw z c.present
    in_present q (below n u) = go (k.area q 0) refl
      where
        go : (o : Opt Area) → k.area q 0 ≡ o → Present k q
        go none z = absurd (under_root k.parent p c.other (h.s2_parent q z) u)
        go (some a) z = (a, z)

    not_in : (q : ℕ) → (Under k.parent p q → ⊥) → branch k.parent p q ≡ false
    not_in q n = go (branch k.parent p q) refl
      where
        go : (b : Bool) → branch k.parent p q ≡ b → b ≡ false
        go true z = absurd (n (branch_at k.parent p z))
        go false z = refl

    pub branch_goes : Goes k p (branch k.parent p)
    branch_goes = record {
      child = c;
      itself = let (a, u) = c.present in in_branch p (h.s2_range p 0 a u).0 (itself refl);
      root = not_in 0 (under_root k.parent p c.other refl);
      caller = not_in k.current (λ u. under_parent c.other (h.s2_climb p c.present) (subst (Under k.parent p) (sym c.parent) u));
      up = λ q z. above q (branch_at k.parent p z);
      down = λ r q d z.
          let (a, u) = d.present in
          in_branch q (h.s2_range q 0 a u).0 (below d.other (subst (Under k.parent p) (sym d.parent) (branch_at k.parent p z)));
    }
      where
        above : (q : ℕ) → Under k.parent p q → (q ≡ p) ⊎ (branch k.parent p (k.parent q) ≡ true)
        above q (itself z) = inl z
        above q (below n u) = inr (in_branch (k.parent q) (parent_range h q) u)

-- ── the service ──
abbrev pub ClearDone : Table → ℕ → ℕ → ℕ → Table → Type 0
ClearDone t p v w t' = Child t.k t.k.current p × (v ≡ count 16 (branch t.k.parent p)) × (t' ≡ remove t p (branch t.k.parent p))

module _ {t : Table} (h : Right t) (p : ℕ) where
  pub clear_exact : Answers (clear_ladder t p) (clear_out t p)
  unfolding clear_out
  clear_exact = check_answers (is_child_means t.k t.k.current p) λ _. finished

  pub clear_done : {v w : ℕ} {t' : Table} → clear_out t p ≡ done v w t' → ClearDone t p v w t'
  unfolding Ends
  clear_done = ends (ClearDone t p) clear_exact (λ c. (c, refl, refl))

  pub clear_right : {v w : ℕ} {t' : Table} → clear_out t p ≡ done v w t' → Right t'
  clear_right x = let (c, _, z) = clear_done x in rw z (remove_right h (branch_goes h.core c))

  -- the caller has back what it gave
  pub clear_returns : {v w : ℕ} {t' : Table} → clear_out t p ≡ done v w t' → (i : ℕ) (e : Entry)
      → t.k.slot t.k.current i ≡ some e → e.given ≡ p → t'.k.slot t.k.current i ≡ some (given_to e 0)
  unfolding settle
  clear_returns x i e u g = let (c, _, z) = clear_done x in rw z (freed_at h.core (branch_goes h.core c) i e u g)

  -- the first value is the number of partitions removed: so many fewer are present
  pub clear_number : {v w : ℕ} {t' : Table} → clear_out t p ≡ done v w t' → count 16 (present t.k) ≡ count 16 (present t'.k) + v
  unfolding settle present
  clear_number x = let (c, n, z) = clear_done x in rw (z, n) (counts c)
    where
      m : ℕ → Bool
      m = branch t.k.parent p

      kept : (b : Bool) (q : ℕ) → is_some (cond b (λ j. none) (t.k.area q) 0) ≡ true → b ≡ false
      kept true q u = absurd (false≢true u)
      kept false q u = refl

      both : (b : Bool) (q : ℕ) → (b ≡ true → present t.k q ≡ true) → present t.k q ≡ is_some (cond b (λ j. none) (t.k.area q) 0) || b
      both true q u = u refl
      both false q u = sym (or-false (present t.k q))

      counts : Child t.k t.k.current p → count 16 (present t.k) ≡ count 16 (present (remove_k t.k p m)) + count 16 m
      counts c =
          count_ext 16 _ _ (λ q _. both (m q) q (λ z. (present_means t.k q).1 (in_present h.core c q (branch_at t.k.parent p z))))
          ∙ count_apart 16 (present (remove_k t.k p m)) m (λ q. kept (m q) q)
