use Rattle.std.proofs.Common.{◌≡◌, ◌≤◌, drop}
use Rattle.em_utility.specs.Options.{options_of, gathered}
use Rattle.em_utility.proofs.options.options_of.Given as goal

-- with the words left it is what all words come to
abbrev pub invariant-loop-word : goal.invariant-loop-word
invariant-loop-word l = (gathered l.listed l.valued l.so_far (drop l.word-index l.words) ≡ options_of l.listed l.valued l.words) × (l.so_far.taken ≤ l.word-index)
