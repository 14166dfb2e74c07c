use Rattle.std.proofs.Common.{◌≡◌, ◌≤◌, ◌+◌, ℕ, drop}
use Rattle.em_refs.specs.Parts.{inside, parts_from}
use Rattle.em_refs.proofs.read.closing.Given as goal

-- the bytes so far only open and close pairs inside
abbrev pub invariant-loop-at : goal.invariant-loop-at
invariant-loop-at l = record {
  few : l.deep ≤ l.at;
  goes_on : (from : ℕ) → parts_from (inside from l.bracket 0) (from + 2) l.rest ≡ parts_from (inside from l.bracket l.deep) (from + 2 + l.at) (drop l.at l.rest);
}
