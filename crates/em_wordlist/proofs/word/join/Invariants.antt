use Rattle.std.proofs.Common.{◌≡◌, map, take}
use Rattle.em_wordlist.specs.Words.{joined}
use Rattle.em_wordlist.proofs.word.join.Given as goal

abbrev pub invariant-loop-i : goal.invariant-loop-i
invariant-loop-i l = l.text ≡ joined (take l.i (map (λ w. w.now) l.words))
