-- What the `can` number of an entry says, by the rule of load: 0 and 2 are never loaded, 3 can be.
use Rattle.std.specs.Prelude.{◌≡◌, Bool, true, false, ℕ, ◌<◌, length, eqb, leb}
use Rattle.std.proofs.Math.Path.{refl}
use Rattle.std.proofs.Common.{arith}
use borrow.Author.Tests.{leb-true, leb-false}
use Rattle.loops.specs.Loops.{any}
use Rattle.loops.specs.Laws.Count.{sum_at}
use Rattle.shapes.specs.declared.Board.{Board}
use Rattle.shapes.specs.Pieces.{pieces_for}
use Rattle.tables.specs.State.{none, some, Entry, Table}
use Rattle.tables.specs.Laws.State.{not_none}
use Rattle.tables.specs.Update.{upd}
use Rattle.tables.specs.Laws.Update.{upd_same, upd_other}
use Rattle.tables.specs.Settle.{settle}
use Rattle.sound.specs.Limit.{entry_pieces, region_pieces, loaded_pieces}
use Rattle.sound.specs.Whole.{Right}
use Rattle.rules.specs.Rules.{done, load}
use Rattle.isolation.specs.Ladders.{OwnOrChild}
use Rattle.isolation.specs.Ladder.{finished, holds, found}
use Rattle.isolation.specs.Laws.Ladder.{answer_one}
use Rattle.isolation.proofs.Laws.Regions.{load_exact, load_done}
use Rattle.who.specs.Who.{names_it, can_number, can_write}
use Rattle.who.specs.Laws.Pieces.{sum_only}
use Rattle.who.proofs.Laws.Numbers.{answer, is_closed, is_many, is_if_loaded}

-- of the entry e in slot s of p, in a right table, as every sound one is (`sound_right`)
module _ (b : Board) {t : Table} (h : Right t) (p s : ℕ) {e : Entry} (at : t.k.slot p s ≡ some e) where
  -- what a number says of the first test, open, and of the last, few pieces
  tested : (A : Bool → Bool → Type 0) {n : ℕ} → ((o w x c f : Bool) → can_number (answer o w x c f) ≡ n → A o f) → can_number (can_write b t p s e (t.opened p s)) ≡ n
      → A (t.opened p s) (leb (length (pieces_for b e.start e.stop)) 8)
  unfolding can_write
  tested A law q = law (t.opened p s) e.rights.write (any 8 (names_it t p s)) (eqb t.k.current p) (leb (length (pieces_for b e.start e.stop)) 8) q

  -- what region r needs once it names the slot
  needed : (r : ℕ) → region_pieces b (t.k.slot p) (upd t.region p r (some s) p r) ≡ length (pieces_for b e.start e.stop)
  unfolding region_pieces entry_pieces
  needed r = rw (upd_same t.region p r (some s) p r (refl, refl), at) refl

  -- .. and any other region, where nothing is loaded
  others : ((m : ℕ) → t.region p m ≡ none) → (r m : ℕ) → (m ≡ r → ⊥) → region_pieces b (t.k.slot p) (upd t.region p r (some s) p m) ≡ 0
  unfolding region_pieces
  others empty r m z = rw (upd_other t.region p r (some s) p m (λ w. z w.1), empty m) refl

  -- closed: no call loads it, into whatever region
  pub closed_never : can_number (can_write b t p s e (t.opened p s)) ≡ 0 → (r : ℕ) {v w : ℕ} {t' : Table} → load b t p s r ≡ done v w t' → ⊥
  closed_never q r x = let (f, ok, _) = load_done b h p s r x in tested (λ o _. o ≡ true → ⊥) is_closed q ((h.s9 p s f ok.at).1 ok.clear)

  -- many pieces: likewise
  pub large_never : can_number (can_write b t p s e (t.opened p s)) ≡ 2 → (r : ℕ) {v w : ℕ} {t' : Table} → load b t p s r ≡ done v w t' → ⊥
  unfolding loaded_pieces
  large_never q r x =
      let (f, ok, _) = load_done b h p s r x in
      let most = sum_at 8 (λ m. region_pieces b (t.k.slot p) (upd t.region p r (some s) p m)) r ok.region in
      omega (arith, most, ok.few, needed r, leb-false (length (pieces_for b e.start e.stop)) 8 (tested (λ _ f. f ≡ false) is_many q))

  -- if loaded: a call of p or of its parent loads it, where p has nothing else loaded
  pub loads : can_number (can_write b t p s e (t.opened p s)) ≡ 3 → OwnOrChild t.k p → ((r : ℕ) → t.region p r ≡ none) → (r : ℕ) → r < 8
      → load b t p s r ≡ done 0 0 (settle t.k (upd t.region p r (some s)))
  unfolding loaded_pieces
  loads q who empty r below =
      let (o, f) = tested (λ o f. (o ≡ true) × (f ≡ true)) is_if_loaded q in
      let only = sum_only 8 (λ m. region_pieces b (t.k.slot p) (upd t.region p r (some s) p m)) r (others empty r) in
      answer_one (load_exact b h p s r)
      (holds who
      (found e at
      (holds ((h.s9 p s e at).0 o)
      (holds (below, λ m z u. not_none (t.region p m) (empty m) u)
      (holds (omega (arith, only, needed r, leb-true (length (pieces_for b e.start e.stop)) 8 f))
      finished)))))
