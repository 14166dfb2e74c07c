use Rattle.std.proofs.Common.{◌∙◌, sym, arith}
use Rattle.em_grammar.proofs.Giving.{no_level}
use Rattle.em_token.specs.Kinds.{kinds, whats}
use Rattle.em_token.specs.Shell.{shell}
use Rattle.em_token.proofs.Tokens.{descends, deep_at}
use Rattle.em_token.proofs.read.descend.Goals as goal

pub returns-then-not-opens-clause-err : goal.returns-then-not-opens-clause-err
returns-then-not-opens-clause-err c = λ e. no_level shell c.args.left (kinds c.args.kinds.now) e (whats c.args.tokens.now) (sym c.opens.ensures ∙ c.if-not-opens.true)

pub returns-then-left-eq0-clause-err : goal.returns-then-left-eq0-clause-err
returns-then-left-eq0-clause-err c = λ e. deep_at c.args.left c.if-left-eq0.true c.args.tokens.now (kinds c.args.kinds.now) e (sym c.opens.ensures ∙ c.if-not-opens.false)

pub returns-clause-turns : goal.returns-clause-turns
returns-clause-turns c = λ e. descends c.args.left (omega arith) c.args.tokens.now (kinds c.args.kinds.now) e (sym c.opens.ensures ∙ c.if-not-opens.false)
