use Rattle.std.proofs.Common.{◌≡◌, ◌≤◌, ◌-◌, ◌++◌, map, length}
use Rattle.em_expand.specs.Calls.{split}
use Rattle.em_expand.proofs.calls.split.Given as goal

-- the arguments so far and those of the rest are those of the text
abbrev pub invariant-loop-n : goal.invariant-loop-n
invariant-loop-n l = record {
  within : length l.rest ≤ length l.text;
  goes_on : map (λ t. t.now) l.texts.items ++ split l.bracket (l.commas - l._n) l.rest ≡ split l.bracket l.commas l.text;
}
