use Rattle.std.proofs.Common.{◌≡◌, ◌≤◌, drop}
use Rattle.em_expand.specs.Calls.{comma}
use Rattle.em_expand.proofs.calls.comma.Given as goal

-- no byte so far is such a comma
abbrev pub invariant-loop-at : goal.invariant-loop-at
invariant-loop-at l = record {
  few : l.deep ≤ l.at;
  goes_on : comma l.bracket 0 0 l.text ≡ comma l.bracket l.deep l.at (drop l.at l.text);
}
