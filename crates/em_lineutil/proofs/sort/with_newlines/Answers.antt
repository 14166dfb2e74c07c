use Rattle.std.proofs.Common.{◌≡◌, ◌∙◌, ◌++◌, ◌∷◌, [], ap, sym, Bor, List, ℕ, arith}
use Rattle.em_lineutil.proofs.Passing.{joined_all}
use Rattle.em_lineutil.proofs.sort.with_newlines.Goals as goal

pub returns : goal.returns
returns c = c.loop-line.invariant ∙ joined_all (λ l. l ++ 10 ∷ []) c.args.lines.now c.loop-line.line-index c.loop-line-test.false
