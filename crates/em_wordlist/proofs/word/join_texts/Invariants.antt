use Rattle.std.proofs.Common.{◌≡◌, take}
use Rattle.em_wordlist.specs.Words.{joined}
use Rattle.em_wordlist.proofs.word.join_texts.Given as goal

abbrev pub invariant-loop-i : goal.invariant-loop-i
invariant-loop-i l = l.text ≡ joined (take l.i l.texts)
