use Rattle.std.proofs.Common.{◌-◌, length}
use Rattle.em_wordlist.proofs.Spelling.{WordsTo}
use Rattle.em_wordlist.proofs.word.words.Given as goal

abbrev pub invariant-loop-word : goal.invariant-loop-word
invariant-loop-word l = WordsTo l.text l.at l.words.items

abbrev pub decreases-loop-word : goal.decreases-loop-word
decreases-loop-word l = length l.text - l.at
