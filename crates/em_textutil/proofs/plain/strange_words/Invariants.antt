use Rattle.std.proofs.Common.{◌≡◌, drop}
use Rattle.em_textutil.specs.Plain.{strange_words}
use Rattle.em_textutil.proofs.plain.strange_words.Given as goal

abbrev pub invariant-loop-word : goal.invariant-loop-word
invariant-loop-word l = strange_words (drop l.word-index l.words) l.done ≡ strange_words l.words l.fn.done
