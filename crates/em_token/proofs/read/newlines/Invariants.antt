use Rattle.std.proofs.Common.{ℕ, ◌≤◌, length}
use Rattle.em_grammar.specs.Gives.{Turns}
use Rattle.em_token.specs.Kinds.{whats}
use Rattle.em_token.specs.Shell.{shell, newlines}
use Rattle.em_token.proofs.read.newlines.Given as goal

abbrev pub invariant-loop-rest : goal.invariant-loop-rest
invariant-loop-rest l = record {
  within : length l.rest ≤ length l.fn.tokens;
  turns : (left : ℕ) → Turns shell left newlines (whats l.fn.tokens) newlines newlines (whats l.rest);
}

abbrev pub decreases-loop-rest : goal.decreases-loop-rest
decreases-loop-rest l = length l.rest
