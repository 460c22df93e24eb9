-- src/pairs.rt, words_from: WordsIfRight (view t.now) p.0 children result
use Rattle.summing.specs.Laws.Written.{masks_written, lines_written}
use Rattle.summing.proofs.pairs.words_from.Goals as goal

pub structures-requires : goal.structures-requires
structures-requires c = c.requires.0

pub returns : goal.returns
returns c =
    let asked = c.requires in
    record {
      masks = λ right. masks_written right _ asked.2 asked.3 asked.1 c.structures.ensures c.write-masks.ensures c.word_in.ensures;
      lines = λ right. lines_written right _ asked.2 asked.3 c.write-lines.ensures c.word_in-2.ensures;
    }
