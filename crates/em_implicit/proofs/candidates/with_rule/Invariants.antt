use Rattle.std.proofs.Common.{◌≡◌, ◌++◌, false, drop, map}
use Rattle.em_implicit.specs.Matches.{is_matched}
use Rattle.em_implicit.specs.Seeking.{matches_of, seen}
use Rattle.em_implicit.proofs.candidates.with_rule.Given as goal

-- the matches so far, with those of the patterns that are left; they stay while none matches
abbrev pub invariant-loop-i : goal.invariant-loop-i
invariant-loop-i l = record {
  more : map seen l.all.items ++ matches_of l.i l.target l.numbered.number l.numbered.rule.now (drop l.i l.numbered.rule.now.targets)
      ≡ map seen l.initial.all.items ++ matches_of 0 l.target l.numbered.number l.numbered.rule.now l.numbered.rule.now.targets;
  unmatched : is_matched l.numbered.rule.now l.target ≡ false → l.all ≡ l.initial.all;
}
