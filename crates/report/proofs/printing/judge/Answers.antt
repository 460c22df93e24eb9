-- src/printing.rt, judge: OnOk result (IfSome (R.remaining input.old) (λ image. Appends (W.contents out.old) (W.contents out.new) (printed_line (image_verdict board image))))
-- What is printed of the bytes that came is what the whole input is told: the input was read to its end, or is too long in any case.
use Rattle.std.proofs.Common.{◌≡◌, Option, Bool, true, false, ltb, ℕ, ◌+◌, ◌≤◌, ◌<◌, List, [], ◌++◌, length, take, refl, sym, ap, ◌∙◌, subst, arith, append-nil, length-append, length-take-le, Result, Ok, Err, None, Some, IfSome, OnOk}
use borrow.Author.Rules.{rules}
use borrow.Author.Tests.{ltb-true, ltb-false}
use Rattle.std.specs.Io.KnownBytes.{Appends, Consumes, IsAtEnd}
use Rattle.shapes.specs.declared.Board.{Board}
use Rattle.verdict.specs.Verdict.{image_verdict}
use Rattle.verdict.proofs.Theorem.{image_length}
use Rattle.report.specs.Report.{printed_line}
use Rattle.report.proofs.printing.judge.Goals as goal

module _ (board : Board) (image : List ℕ) (n : ℕ) (room : 5128 < length image) (within : n ≤ length image) where
  too_long : (xs rest : List ℕ) → n ≡ length image → xs ≡ take n image ++ rest → image_verdict board (take n image) ≡ image_verdict board xs
  too_long xs rest full e =
      let came : length (take n image) ≡ n = length-take-le n image within in
      let all : length xs ≡ length (take n image) + length rest = ap length e ∙ length-append (take n image) rest in
      (image_length board (take n image)).1 (λ h. omega arith) ∙ sym ((image_length board xs).1 (λ h. omega arith))

  whole : (xs rest : List ℕ) → (n < length image → rest ≡ []) → xs ≡ take n image ++ rest → image_verdict board (take n image) ≡ image_verdict board xs
  whole xs rest ended e = go (ltb n (length image)) refl
    where
      go : (b : Bool) → ltb n (length image) ≡ b → image_verdict board (take n image) ≡ image_verdict board xs
      go true q =
          let short : n < length image = ltb-true n (length image) q in
          ap (image_verdict board) (sym (e ∙ ap (λ r. take n image ++ r) (ended short) ∙ append-nil (take n image)))
      go false q = too_long xs rest (omega (arith, ltb-false n (length image) q)) e

  -- of what a writer took: at Ok a line, the one of the bytes that came
  judged : {A E : Type 0} (r : Result A E) (a b w v : Option (List ℕ)) (line : List ℕ) → Consumes a b (take n image) → (n < length image → IsAtEnd b)
      → line ≡ printed_line (image_verdict board (take n image)) → OnOk r (Appends w v line)
      → OnOk r (IfSome a (λ xs. Appends w v (printed_line (image_verdict board xs))))
  judged (Err e) a b w v line taken ended same said = tt
  judged (Ok x) None b w v line taken ended same said = tt
  judged (Ok x) (Some xs) None w v line taken ended same said = absurd taken
  judged (Ok x) (Some xs) (Some rest) w v line taken ended same said =
      subst (Appends w v) (same ∙ ap printed_line (whole xs rest ended taken)) said

pub returns : goal.returns
returns g c =
    judged c.args.board c.read_full.new.buffer c.in_ok-len.len (search rules) c.in_ok-len.ensures.within.0 c.print.result
    (g.R.Read.remaining c.args.input.now) (g.R.Read.remaining c.read_full.new.input)
    (g.W.Write.contents c.args.out.now) (g.W.Write.contents c.print.new.out)
    (printed_line c.of_image.result)
    c.in_ok-len.ensures.bytes c.in_ok-len.ensures.end
    (ap printed_line c.of_image.ensures) c.print.ensures
