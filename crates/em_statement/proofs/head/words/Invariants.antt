use Rattle.std.proofs.Common.{◌≡◌, take, map}
use Rattle.em_statement.proofs.head.words.Given as goal

abbrev pub invariant-loop-word : goal.invariant-loop-word
invariant-loop-word l = l.words ≡ map (λ w. w.now) (take l.word-index l.word-items)
