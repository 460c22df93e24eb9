-- Both engines side by side, over the functions that C calls: ulavrepit_call on the table's bytes, and beside it what each accepted call drives of the line engine.
-- This file only states what is so; Theorem.antt has the proof. The promises of the calls are those of face/specs, the engine's are those of engine/specs.
use Rattle.std.specs.Prelude.{◌≡◌, Bool, true, List, [], ◌∷◌, ◌↔◌, ℕ, ◌-◌, ◌≤◌, ◌<◌, length, get_or}
use Rattle.loops.specs.Loops.{map_of, names}
use Rattle.words.specs.Kind.{fields_in}
use Rattle.words.specs.Words.{call}
use Rattle.shapes.specs.declared.Board.{Board}
use Rattle.tables.specs.State.{some, Entry}
use Rattle.tables.specs.View.{view}
use Rattle.engine.specs.Engine.{give_masks, take_masks, strike_masks, lines_right, strike_right, Engine, StartLent, GiveLent, TakeLent, StrikeLent}
use Rattle.ledger.specs.Ledger.{Ledger, opening, Lines, Event, adopt, enter, strike, strike_all, nothing}
use Rattle.face.specs.Face.{handed, CallLent, ListLent}
use Rattle.demands.specs.Demands.{BootLent, Accepted, first_in, happened, entered}

-- ── what the event of an accepted call asks of the engine ──
-- enter is a give of the child's lines, strike a take, strike_all a strike of all members, bit p for partition p; who is adopted holds nothing yet
-- whether that is done, with so many masks; where nothing is asked nothing is refused
unfoldable pub goes : ℕ → ℕ → ℕ → Event → Bool
goes n base end (adopt c p) = true
goes n base end (enter c r) = lines_right n base end c r.start r.stop
goes n base end (strike c r) = lines_right n base end c r.start r.stop
goes n base end (strike_all m) = strike_right n base end (map_of 16 m)
goes n base end nothing = true

-- the masks after it, done
unfoldable pub makes : ℕ → ℕ → Event → List ℕ → List ℕ
makes base end (adopt c p) ms = ms
makes base end (enter c r) ms = give_masks ms base c r.start r.stop
makes base end (strike c r) ms = take_masks ms base c r.start r.stop
makes base end (strike_all m) ms = strike_masks ms base end (map_of 16 m)
makes base end nothing ms = ms

-- the event e drove the engine: it answered q and left `after`
abbrev pub Drives : ℕ → ℕ → Event → List ℕ → ℕ → List ℕ → Type 0
Drives base end e before q after = Engine (goes (length before) base end e) (makes base end e before) before q after

-- ── a session ──
-- Calls of the words ws, each handed the bytes that the one before it left, take the table from b to d and a ledger from g to h; and what each of them drives takes
-- the masks from ms to last.
pub data Both (board : Board) (base end : ℕ) : List ℕ → Ledger → List ℕ → List ℕ → List ℕ → Ledger → List ℕ → Type 0 where
  no_turn : {b ms : List ℕ} {g : Ledger} → Both board base end b g ms [] b g ms
  one_turn : {b c d ws ms ns last : List ℕ} {w s r s' q : ℕ} {g h : Ledger} → CallLent board b w s r c s' → Drives base end (happened board b w r g) ms q ns
      → Both board base end c (entered board b w r g) ns ws d h last → Both board base end b g ms (w ∷ ws) d h last

-- What is so of the table's bytes d with the ledger g, and of the masks `last`, which were `first` before start.
pub record SideBySide (board : Board) (base end : ℕ) (d : List ℕ) (g : Ledger) (first last : List ℕ) : Type 0 where
  -- the mask of a line names exactly the partitions that ulavrepit_holders lists
  pub holders : {m : ℕ} {list : List ℕ} {s r : ℕ} {after : List ℕ} {s' : ℕ} → ListLent board d m list s r after s' → base ≤ m → m < end → 16 ≤ length list
      → (p : ℕ) → p < 16 → (names (get_or last (m - base) 0) p ≡ true) ↔ ((i : ℕ) × (i < first_in r) × (get_or after i 0 ≡ p))
  -- and it lists no number above 15
  pub partitions : {m : ℕ} {list : List ℕ} {s r : ℕ} {after : List ℕ} {s' : ℕ} → ListLent board d m list s r after s' → base ≤ m → m < end → 16 ≤ length list
      → (i : ℕ) → i < first_in r → get_or after i 0 < 16
  -- masks past the lines stay
  pub size : length last ≡ length first
  pub past : (k : ℕ) → end - base ≤ k → k < length first → get_or last k 0 ≡ get_or first k 0
  -- an accepted take of entry e of the caller drives the strike of whom e was given to when the call came, for the lines of e
  pub taken : {w s r : ℕ} {c : List ℕ} {s' : ℕ} → CallLent board d w s r c s' → Accepted r → (fields_in call w).service ≡ 6
      → (e : Entry) × ((view (handed d)).k.slot (view (handed d)).k.current (fields_in call w).slot.0 ≡ some e) × (happened board d w r g ≡ strike e.given (record { start = e.start; stop = e.stop }))
  -- whatever is called next: what it drives is not refused
  pub next : {w s r : ℕ} {c : List ℕ} {s' : ℕ} → CallLent board d w s r c s' → {q : ℕ} {ns : List ℕ} → Drives base end (happened board d w r g) last q ns → q ≡ 0

-- From an accepted boot of at most 2,048 lines, with no fewer masks than lines: start is done, and after any session both engines say the same.
pub record LineEngine (board : Board) : Type 0 where
  pub start : (base end : ℕ) {b : List ℕ} {r : ℕ} {c : List ℕ} → BootLent b base end r c → Accepted r → end - base ≤ 2048
      → {first : List ℕ} {q : ℕ} {begun : List ℕ} → end - base ≤ length first → StartLent base end first q begun → q ≡ 0
  pub session : (base end : ℕ) {b : List ℕ} {r : ℕ} {c : List ℕ} → BootLent b base end r c → Accepted r → end - base ≤ 2048
      → {first : List ℕ} {q : ℕ} {begun : List ℕ} → end - base ≤ length first → StartLent base end first q begun
      → {ws d last : List ℕ} {g : Ledger} → Both board base end c (opening base end) begun ws d g last → SideBySide board base end d g first last
  -- what C calls for an event is what the event drives: ulavrepit_engine_give, _take, _strike, or nothing
  pub gives : (base end c : ℕ) (r : Lines) {before : List ℕ} {q : ℕ} {after : List ℕ} → GiveLent base end c r.start r.stop before q after → Drives base end (enter c r) before q after
  pub takes : (base end c : ℕ) (r : Lines) {before : List ℕ} {q : ℕ} {after : List ℕ} → TakeLent base end c r.start r.stop before q after → Drives base end (strike c r) before q after
  pub strikes : (base end : ℕ) (m : ℕ → Bool) {before : List ℕ} {q : ℕ} {after : List ℕ} → StrikeLent base end (map_of 16 m) before q after → Drives base end (strike_all m) before q after
  pub rests : (base end c p : ℕ) (ms : List ℕ) → Drives base end (adopt c p) ms 0 ms × Drives base end nothing ms 0 ms
