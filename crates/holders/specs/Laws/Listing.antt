-- The listing of pieces, exit by exit; two results are equal; and who is refused 4.
use Rattle.std.specs.Prelude.{◌≡◌, Bool, true, false, List, ℕ, ◌≤◌, ◌<◌, ◌^◌, length, Ok, Err}
use Rattle.std.proofs.Math.Path.{refl}
use Rattle.std.proofs.Common.{ap, sym, subst, ◌∙◌, arith, le-leb}
use Rattle.std.proofs.lemmas.Bool.{lt-leb}
use Rattle.words.specs.declared.slot_word.SlotFields.{SlotFields}
use Rattle.shapes.specs.declared.Board.{Board}
use Rattle.shapes.specs.declared.Board.TheVariants.{V7, V8}
use Rattle.shapes.proofs.Laws.Halves.{pieces_few}
use Rattle.shapes.specs.Pieces.{pieces_for, CanList, ShapesListed}
use Rattle.tables.specs.State.{some, Entry}
use Rattle.tables.specs.Laws.State.{never_some, not_none, same_at}
use Rattle.tables.specs.View.{entry_of, entry_in, slot_at, view}
use Rattle.tables.specs.Laws.View.{slot_bounds}
use Rattle.tables.specs.Seen.{Seen}
use Rattle.tables.specs.Laws.Seen.{see, entry_there, entry_none}
use Rattle.sound.specs.Core.{Core}
use Rattle.sound.specs.Clauses.{sound}
use Rattle.holders.specs.Listing.{list_outcome, list_words, slot_outcome, slot_words, pieces_outcome, pieces_words, SlotListed, PiecesListed}
use Rattle.tables.specs.Outcomes.{Outcome}
use Rattle.words.specs.declared.Refusal.TheVariants.{NotSound, NoEntry, ShortList}

-- two results are equal
pub pieces_one : {b : Board} {t : List ℕ} {p s : ℕ} {before : List ℕ} {r q : Outcome} {a c : List ℕ} → PiecesListed b t p s before r a → PiecesListed b t p s before q c → (r ≡ q) × (a ≡ c)
pieces_one x y = (x.outcome ∙ sym y.outcome, x.words ∙ sym y.words)

-- ── slot i of p, which was read as f ──
module _ (b : Board) {l : List ℕ} {p i : ℕ} {f : SlotFields} (v : Seen l p i f) where
  pub slot_none : {list : List ℕ} → f.present ≡ false → SlotListed b ((view l).k.slot p i) list (Err NoEntry) list
  unfolding slot_outcome slot_words entry_in
  slot_none q = rw (v.slot, q) (record { outcome = refl; words = refl })

  module _ (q : f.present ≡ true) where
    pub can_list : {list : List ℕ} → Core (view l).k → length (pieces_for b f.start.0 f.end.0) ≤ length list → CanList b f.start.0 f.end.0 list
    can_list h room = record { block = omega (arith, h.s5_range p i (entry_of f) (entry_there v q)); small = v.end_small; room = room }

    pub slot_short : {list : List ℕ} → length list < length (pieces_for b f.start.0 f.end.0) → SlotListed b ((view l).k.slot p i) list (Err ShortList) list
    unfolding slot_outcome slot_words list_outcome list_words
    slot_short h = rw (entry_there v q) (record { outcome = rw (lt-leb _ _ h) refl; words = rw (lt-leb _ _ h) refl })

    pub slot_listed : {list : List ℕ} {n : ℕ} {after : List ℕ} → length (pieces_for b f.start.0 f.end.0) ≤ length list → ShapesListed (pieces_for b f.start.0 f.end.0) list n after
        → SlotListed b ((view l).k.slot p i) list (Ok (n, 0)) after
    unfolding slot_outcome slot_words list_outcome list_words
    slot_listed room made = rw (entry_there v q) (record { outcome = rw (le-leb _ _ room) (ap (λ (n : ℕ). Ok (n, 0)) made.number); words = rw (le-leb _ _ room) made.words })

-- ── the exits ──
module _ (b : Board) {t : List ℕ} {p s : ℕ} {list : List ℕ} where
  pub pieces_unsound : sound b t ≡ false → PiecesListed b t p s list (Err NotSound) list
  unfolding pieces_outcome pieces_words
  pieces_unsound q = record { outcome = rw q refl; words = rw q refl }

  pub pieces_nowhere : sound b t ≡ true → (p < 16 → s < 32 → ⊥) → PiecesListed b t p s list (Err NoEntry) list
  unfolding pieces_outcome pieces_words slot_outcome slot_words
  pieces_nowhere q n =
      let z = never_some ((view t).k.slot p s) (λ e u. let h = slot_bounds t p s e u in n h.0 h.1) in
      record { outcome = rw (q, z) refl; words = rw (q, z) refl }

  pub pieces_listed : {r : Outcome} {after : List ℕ} → sound b t ≡ true → SlotListed b ((view t).k.slot p s) list r after → PiecesListed b t p s list r after
  unfolding pieces_outcome pieces_words
  pieces_listed q h = record { outcome = rw q h.outcome; words = rw q h.words }

-- of a copy
pub pieces_copy : {b : Board} {t a : List ℕ} {p s : ℕ} {list : List ℕ} {r : Outcome} {after : List ℕ} → a ≡ t → PiecesListed b a p s list r after → PiecesListed b t p s list r after
pieces_copy {b} {p = p} {s} {list} {r} {after} e h = subst (λ (x : List ℕ). PiecesListed b x p s list r after) e h

-- ── no entry has more than 52 pieces ──
stop_small : (t : List ℕ) (p s : ℕ) (e : Entry) → (view t).k.slot p s ≡ some e → e.stop < 2 ^ 27
stop_small t p s e u = go (slot_at t p s).present refl
  where
    v : Seen t p s (slot_at t p s)
    v = let (a, c) = slot_bounds t p s e u in see t p s (slot_at t p s) a c refl

    go : (x : Bool) → (slot_at t p s).present ≡ x → e.stop < 2 ^ 27
    go true q =
        let w = same_at ((view t).k.slot p s) u (entry_there v q) in
        omega (arith, w.stop, v.end_small)
    go false q = not_none ((view t).k.slot p s) (entry_none v q) u

pub entry_few : (b : Board) (t : List ℕ) (p s : ℕ) (e : Entry) → (view t).k.slot p s ≡ some e → length (pieces_for b e.start e.stop) ≤ 52
entry_few V7 t p s e u = pieces_few e.start e.stop (stop_small t p s e u)
entry_few V8 t p s e u = omega arith
