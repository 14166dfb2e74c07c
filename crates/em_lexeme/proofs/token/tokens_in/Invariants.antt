use Rattle.std.proofs.Common.{◌≡◌, ◌≤◌, ◌++◌, drop}
use Rattle.em_lexeme.specs.Outer.{tokens_from}
use Rattle.em_lexeme.proofs.token.tokens_in.Given as goal

-- the tokens so far, and those of the rest
abbrev pub invariant-loop-lexeme : goal.invariant-loop-lexeme
invariant-loop-lexeme l = record {
  all : tokens_from 0 0 l.items ≡ l.tokens.items ++ tokens_from l.deep l.from (drop l.lexeme-index l.items);
  few : l.deep ≤ l.lexeme-index;
}
