-- Create and prepare, done: the table that the rule settles; and create as a whole.
use Rattle.std.specs.Prelude.{◌≡◌, refl, true, false, List, ℕ, ◌+◌, ◌≤◌, Ok}
use Rattle.std.proofs.Common.{ap, ◌∙◌, le-leb, sym}
use Rattle.std.proofs.Math.Path.{subst}
use Rattle.std.proofs.Math.Bool.{not}
use Rattle.words.specs.declared.slot_word.SlotFields.{SlotFields}
use Rattle.tables.specs.State.{some}
use Rattle.tables.specs.View.{view}
use Rattle.tables.specs.Write.{put_header, put_structure}
use Rattle.writing.specs.Stored.{span}
use Rattle.tables.specs.Search.{lowest, absent_child, no_structure}
use Rattle.tables.specs.Settle.{settled}
use Rattle.sound.specs.Clauses.{long}
use Rattle.rules.specs.Rules.{done, own_or_child, create, prepare}
use Rattle.rules.specs.Laws.Ran.{pass, there, ran_done}
use Rattle.blocks.specs.Pick.{Free}
use Rattle.tables.specs.Encode.{encode, Is}
use Rattle.settling.specs.Laws.Settled.{settled_is}
use Rattle.rules.specs.Ran.{Ran}
use Rattle.words.specs.declared.Refusal.TheVariants.{WrongPartition, NoneFree, TooShort, LentWhole}

module _ {l : List ℕ} {s : ℕ} {f : SlotFields} (free : Free l s f) (h : f.start.0 + 16 ≤ f.end.0) (y : f.whole ≡ false) where
  -- the parent that was written is the caller
  pub create_is : {n c : ℕ} → lowest 16 (absent_child (view l).k) ≡ some n → (view l).k.current ≡ c
      → create (view l) s ≡ done n 0 (settled (put_header (view l) n c (some (span f.start f.end))))
  unfolding create long
  create_is {n} q now =
      subst (λ (u : ℕ). create (view l) s ≡ done n 0 (settled (put_header (view l) n u (some (span f.start f.end))))) now
      (free.rule _ ∙ there NoneFree _ n q (pass TooShort (le-leb _ _ h) (pass LentWhole (ap not y) refl)))

  pub prepare_is : (p : ℕ) {j : ℕ} → own_or_child (view l).k p ≡ true → lowest 4 (no_structure (view l).k p) ≡ some j
      → prepare (view l) p s ≡ done j 0 (settled (put_structure (view l) p j (some (span f.start f.end))))
  unfolding prepare long
  prepare_is p {j} own q = pass WrongPartition own (free.rule _ ∙ there NoneFree _ j q (pass TooShort (le-leb _ _ h) (pass LentWhole (ap not y) refl)))

-- the parent that was written is the caller
pub created : {l m r : List ℕ} {s n c : ℕ} {f : SlotFields} → Free l s f → lowest 16 (absent_child (view l).k) ≡ some n → f.start.0 + 16 ≤ f.end.0
    → f.whole ≡ false → (view l).k.current ≡ c → Is m (put_header (view l) n c (some (span f.start f.end))) → r ≡ encode (settled (view m)) → Ran (create (view l) s) l (Ok (n, 0)) r
unfolding create long
created {l} {m} {n = n} {f = f} free q h y now was e =
    let put : Is m (put_header (view l) n (view l).k.current (some (span f.start f.end)))
    = subst (λ (u : ℕ). Is m (put_header (view l) n u (some (span f.start f.end)))) (sym now) was
    in
    ran_done (free.rule _ ∙ there NoneFree _ n q (pass TooShort (le-leb _ _ h) (pass LentWhole (ap not y) refl))) (sym (settled_is put e).encoded)
