-- THE DEMANDS ARE MET: each statement of Demands.antt, with its proof.
use Rattle.std.specs.Prelude.{◌≡◌, refl, List, ℕ}
use Rattle.std.proofs.Math.Path.{ap}
use Rattle.std.proofs.Common.{sym, subst, ◌∙◌, arith}
use Rattle.words.proofs.Trips.{first_trips, header_trips, structure_trips, regions_trips, slot_trips, call_trips, boot_trips}
use Rattle.shapes.specs.declared.Board.{Board}
use Rattle.tables.specs.State.{Table}
use Rattle.tables.specs.View.{view}
use Rattle.tables.specs.Encode.{encode}
use Rattle.memory.specs.Bytes.{bytes_of}
use Rattle.sound.specs.Sound.{Sound}
use Rattle.sound.specs.Properties.{Isolated}
use Rattle.rules.specs.Rules.{done, boot_on}
use Rattle.isolation.specs.Ladders.{boot_ladder}
use Rattle.isolation.proofs.Laws.Boot.{boot_exact, boot_right}
use Rattle.isolation.specs.Laws.Fits.{Good}
use Rattle.isolation.specs.Ladder.{Answers, Ends}
use Rattle.isolation.specs.Laws.Ladder.{ends}
use Rattle.isolation.specs.Whole.{after_all}
use Rattle.isolation.proofs.Whole.{boot_good, from_boot_sound, from_boot_isolated}
use Rattle.ledger.specs.Ledger.{Ledger, opening, kept_on}
use Rattle.ledger.proofs.Theorem.{demand_3}
use Rattle.ledger.proofs.Laws.LedgerRuns.{runs_demand}
use Rattle.face.specs.Face.{handed, bytes_after}
use Rattle.demands.specs.Demands.{BootLent, first_in, Accepted, Answered, Changed, Called, Tells, DemandOne, DemandTwo, DemandThree}
use Rattle.demands.specs.Laws.Rising.{boot_rises}
use Rattle.demands.specs.Laws.Results.{reads_back, result_answered, accepted_done}
use Rattle.demands.specs.Laws.Calls.{handed_small, handed_of, changed, call_answered, call_caller, call_changed, called}
use Rattle.demands.proofs.Laws.Written.{holders_answered, holders_written, runs_answered, runs_written, tells}

-- ── boot ──
module _ (base end : ℕ) {b : List ℕ} {r : ℕ} {c : List ℕ} (h : BootLent b base end r c) where
  pub boot_answered : Answered (boot_ladder (handed b) base end) r (c ≡ b)
  unfolding bytes_after
  boot_answered =
      result_answered (boot_rises (handed b) base end) (omega arith) (boot_on (handed b) base end) (boot_exact (handed b) base end) h.result
      (λ n z. h.bytes ∙ ap (bytes_after b) z)

  -- an accepted one
  module _ (q : Accepted r) where
    pub booted : (t : Table) × (boot_on (handed b) base end ≡ done (first_in r) 0 t)
    unfolding Ends
    booted =
        let (w, t, z) = accepted_done (boot_rises (handed b) base end) (omega arith) (boot_on (handed b) base end) (boot_exact (handed b) base end) h.result q in
        (t, z ∙ ap (λ (x : ℕ). done (first_in r) x t) (ends (λ _ x _. x ≡ 0) (boot_exact (handed b) base end) (λ _ _. refl) z))

    bytes_booted : c ≡ bytes_of (encode booted.0)
    unfolding bytes_after
    bytes_booted = h.bytes ∙ ap (bytes_after b) booted.1

    pub start : handed c ≡ encode booted.0
    start = ap handed bytes_booted ∙ handed_of (boot_right (handed b) base end booted.1)

    boot_changed : Changed (boot_ladder (handed b) base end) (first_in r) 0 c
    boot_changed = changed (subst (Answers (boot_ladder (handed b) base end)) booted.1 (boot_exact (handed b) base end)) (boot_right (handed b) base end booted.1) bytes_booted

    pub start_good : (board : Board) → Good board (handed c)
    start_good board = subst (Good board) (sym start) (boot_good board (handed b) base end booted.1)

    -- and any list of calls after it: the words are the rules', and so is a ledger kept beside them
    module _ {board : Board} {g h' : Ledger} {ws d : List ℕ} (calls : Called board c g ws d h') where
      both : (handed d ≡ after_all board (encode booted.0) ws) × (h' ≡ kept_on board (encode booted.0) g ws)
      both = rw start at (called (start_good board) calls)

      pub calls_sound : Sound board (handed d)
      calls_sound = rw both.0 (from_boot_sound board (handed b) ws base end booted.1)

      calls_isolated : Isolated (view (handed d))
      calls_isolated = subst (λ (l : List ℕ). Isolated (view l)) (sym both.0) (from_boot_isolated board (handed b) ws base end booted.1)

    boot_tells : {board : Board} {ws d : List ℕ} {g : Ledger} → Called board c (opening base end) ws d g → Tells board base end g d
    boot_tells {board} {ws} {d} {g} calls =
        let (u, v) = both calls in
        let z = booted.1 in
        tells d
        (calls_sound calls)
        (rw (u, v) (demand_3 board (handed b) base end z ws))
        (rw (u, v) (runs_demand board (handed b) base end z ws))

pub demand_one : (board : Board) → DemandOne board
demand_one board = record {
  boot_answers = λ base end b. (_, _, record { result = refl; bytes = refl });
  call_answers = λ b w s. (_, _, _, record { table = record { result = refl; bytes = refl }; second = refl });
  holders_answers = λ b m list s. (_, _, _, record { result = refl; bytes = refl; second = refl });
  runs_answers = λ b list. (_, _, record { answer = refl; records = refl });
  boot = boot_answered;
  call = λ {b} small h. call_answered (handed_small b small) h;
  holders = holders_answered;
  runs = runs_answered;
  caller = λ {b} small h. call_caller (handed_small b small) h;
  reads = reads_back;
}

pub demand_two : (board : Board) → DemandTwo board
demand_two board = record {
  boot = boot_changed;
  call = λ {b} small h. call_changed (handed_small b small) h;
  calls = λ base end h q. calls_isolated base end h q;
  holders = holders_written;
  runs = runs_written;
  packed_words = record {
    first = first_trips;
    header = header_trips;
    structure = structure_trips;
    regions = regions_trips;
    slot = slot_trips;
    call = call_trips;
    boot = boot_trips;
  };
}

pub demand_three : (board : Board) → DemandThree board
demand_three board = record { ledger = λ base end h q. boot_tells base end h q }
