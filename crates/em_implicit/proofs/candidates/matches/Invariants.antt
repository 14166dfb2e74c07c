use Rattle.std.proofs.Common.{◌≡◌, ◌++◌, [], false, drop, map}
use Rattle.std.specs.List.{list_any}
use Rattle.em_implicit.specs.Matches.{is_matched}
use Rattle.em_implicit.specs.Seeking.{matches, matches_from, seen}
use Rattle.em_implicit.proofs.candidates.matches.Given as goal

-- the matches so far, with those of the rules that are left; there are none while no rule matches
abbrev pub invariant-loop-number : goal.invariant-loop-number
invariant-loop-number l = record {
  all : map seen l.all.items ++ matches_from l.number (drop l.number l.patterns) l.target ≡ matches l.patterns l.target;
  unmatched : list_any (λ r. is_matched r l.target) l.patterns ≡ false → l.all.items ≡ [];
}
