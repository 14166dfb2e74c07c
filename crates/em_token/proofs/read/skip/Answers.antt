use Rattle.std.proofs.Common.{◌∙◌, sym}
use Rattle.em_grammar.proofs.Giving.{no_one}
use Rattle.em_token.specs.Kinds.{kinds, whats}
use Rattle.em_token.specs.Shell.{shell}
use Rattle.em_token.proofs.Tokens.{keyed}
use Rattle.em_token.proofs.read.skip.Goals as goal

pub returns-then-not-opens-clause-reads : goal.returns-then-not-opens-clause-reads
returns-then-not-opens-clause-reads c = λ left. no_one shell left (kinds c.args.kinds.now) (whats c.args.tokens.now) (sym c.opens.ensures ∙ c.if-not-opens.true)

pub returns-clause-reads : goal.returns-clause-reads
returns-clause-reads c = λ left. keyed left c.args.tokens.now (kinds c.args.kinds.now) (sym c.opens.ensures ∙ c.if-not-opens.false)

pub returns-then-not-opens-clause-wrong : goal.returns-then-not-opens-clause-wrong
returns-then-not-opens-clause-wrong c = sym c.opens.ensures ∙ c.if-not-opens.true
