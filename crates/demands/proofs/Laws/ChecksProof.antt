-- The verdict of C is met: the statement of Checks.antt, with its proof.
use Rattle.std.specs.Prelude.{◌≡◌, List, ◌↔◌, ℕ, length}
use Rattle.std.proofs.Common.{sym, ◌∙◌}
use Rattle.std.proofs.lemmas.Bool.{false≢true}
use Rattle.std.proofs.Math.Decide.{ℕ_discrete}
use Rattle.shapes.specs.declared.Board.{Board}
use Rattle.memory.specs.Bytes.{words_of}
use Rattle.sound.specs.Sound.{Sound}
use Rattle.sound.proofs.Laws.List.{sound_means}
use Rattle.face.specs.Face.{handed}
use Rattle.face.specs.Laws.Face.{handed_is, handed_unsound}
use Rattle.face.specs.Laws.Check.{check_says}
use Rattle.demands.specs.Laws.Calls.{handed_small, one_unsound}
use Rattle.demands.specs.Checks.{CheckLent, CheckDemand}
use Rattle.demands.proofs.Theorem.{calls_sound}

-- a check finds nothing exactly where the bytes that are handed over are a sound table
nothing : (board : Board) (b : List ℕ) {q : ℕ} → CheckLent board b q → (q ≡ 0) ↔ Sound board (handed b)
nothing board b {q} e = (
  λ z. let (size, s) = (check_says board b e).sound.0 z in rw (← handed_is b size) s,
  λ s. (check_says board b e).sound.1 (go s (ℕ_discrete (length b) 5128)),
)
  where
    go : Sound board (handed b) → Dec (length b ≡ 5128) → (length b ≡ 5128) × Sound board (words_of b)
    go s (yes z) = (z, rw (handed_is b z) s)
    go s (no z) = absurd (false≢true (sym (handed_unsound b z board) ∙ (sound_means board (handed b)).1 s))

pub check_demand : (board : Board) → CheckDemand board
check_demand board = record {
  says = λ b e. check_says board b e;
  agrees = λ {b} small h e. (
    λ x z. (one_unsound (handed_small b small) h).0 x ((nothing board b e).0 z),
    λ n. (one_unsound (handed_small b small) h).1 (λ s. n ((nothing board b e).1 s)),
  );
  calls = λ base end h a {d = d} called e. (nothing board d e).1 (calls_sound base end h a called);
}
