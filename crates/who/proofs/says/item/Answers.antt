-- src/says.rt, item: OnOk result (Appends (W.contents out.old) (W.contents out.new) (item_line kind.now numbers.now))
-- What is written of an item is its word, and number by number its line.
use Rattle.std.proofs.Common.{◌≡◌, ℕ, ◌+◌, ◌<◌, ◌≤◌, List, [], ◌∷◌, ◌++◌, length, take, get_or, decimal, Option, Result, Ok, Err, OnOk, sym, ap, ◌∙◌, subst, append_assoc, append-nil, take_all}
use Rattle.std.proofs.lemmas.List.{take_more}
use Rattle.std.specs.Io.KnownBytes.{Appends}
use Rattle.std.proofs.KnownBytes.{Appends-trans}
use Rattle.who.specs.Items.{numbers_text, item_line}
use Rattle.who.proofs.says.item.Goals as goal

-- the numbers of a list, and one more
numbers_text-append : (xs : List ℕ) (n : ℕ) → numbers_text (xs ++ n ∷ []) ≡ numbers_text xs ++ (32 ∷ decimal n)
unfolding numbers_text
numbers_text-append [] n = ap (λ t. 32 ∷ t) (append-nil (decimal n))
numbers_text-append (x ∷ xs) n =
    ap (λ t. 32 ∷ (decimal x ++ t)) (numbers_text-append xs n) ∙ ap (λ t. 32 ∷ t) (sym (append_assoc (decimal x) (numbers_text xs) (32 ∷ decimal n)))

module _ (kind numbers : List ℕ) where
  one_more : (i : ℕ) → i < length numbers
      → (kind ++ numbers_text (take i numbers)) ++ (32 ∷ decimal (get_or numbers i 0)) ≡ kind ++ numbers_text (take (i + 1) numbers)
  one_more i h =
      append_assoc kind (numbers_text (take i numbers)) (32 ∷ decimal (get_or numbers i 0))
      ∙ ap (λ t. kind ++ t) (sym (ap numbers_text (take_more numbers i 0 h) ∙ numbers_text-append (take i numbers) (get_or numbers i 0)))

  ended : (i : ℕ) → length numbers ≤ i → (kind ++ numbers_text (take i numbers)) ++ (10 ∷ []) ≡ item_line kind numbers
  unfolding item_line
  ended i h = append_assoc kind (numbers_text (take i numbers)) (10 ∷ []) ∙ ap (λ t. kind ++ (numbers_text t ++ (10 ∷ []))) (take_all i numbers h)

  line_ended : {A E : Type 0} (r : Result A E) (a b c : Option (List ℕ)) (i : ℕ) → length numbers ≤ i → Appends a b (kind ++ numbers_text (take i numbers))
      → OnOk r (Appends b c (10 ∷ [])) → OnOk r (Appends a c (item_line kind numbers))
  line_ended (Err e) a b c i h before last = tt
  line_ended (Ok x) a b c i h before last = subst (Appends a c) (ended i h) (Appends-trans a b c _ _ before last)

pub loop-n-init : goal.loop-n-init
unfolding numbers_text
loop-n-init g c = subst (Appends _ _) (sym (append-nil c.args.kind.now)) c.in_ok-write_all.ensures.bytes

pub loop-n-preserved : goal.loop-n-preserved
loop-n-preserved g c =
    subst (Appends _ _) (one_more c.args.kind.now c.args.numbers.now c.loop-n.n-index c.loop-n-test.true)
    (Appends-trans _ _ _ _ _ c.loop-n.invariant c.in_ok-write.ensures.bytes)

pub returns : goal.returns
returns g c =
    line_ended c.args.kind.now c.args.numbers.now c.writeln.result
    (g.W.Write.contents c.args.out.now) (g.W.Write.contents c.loop-n.out) (g.W.Write.contents c.writeln.new.self)
    c.loop-n.n-index c.loop-n-test.false c.loop-n.invariant c.writeln.ensures.bytes
