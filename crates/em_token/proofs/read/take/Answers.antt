use Rattle.std.proofs.Common.{◌∙◌, sym}
use Rattle.em_grammar.proofs.Giving.{no_one}
use Rattle.em_token.specs.Kinds.{kinds, whats}
use Rattle.em_token.specs.Shell.{shell}
use Rattle.em_token.proofs.Tokens.{taken, among_first, split_first}
use Rattle.em_token.proofs.read.take.Goals as goal

pub returns-then-not-opens-clause-reads : goal.returns-then-not-opens-clause-reads
returns-then-not-opens-clause-reads c = λ left. no_one shell left (kinds c.args.kinds.now) (whats c.args.tokens.now) (sym c.opens.ensures ∙ c.if-not-opens.true)

pub returns-clause-reads : goal.returns-clause-reads
returns-clause-reads c = λ left. taken left c.args.tokens.now (kinds c.args.kinds.now) c.index-tokens-0.result c.index-tokens-0.is (sym c.opens.ensures ∙ c.if-not-opens.false)

pub returns-clause-among : goal.returns-clause-among
returns-clause-among c = among_first c.args.tokens.now (kinds c.args.kinds.now) c.index-tokens-0.result c.index-tokens-0.is (sym c.opens.ensures ∙ c.if-not-opens.false)

pub returns-clause-split : goal.returns-clause-split
returns-clause-split c = split_first c.args.tokens.now (kinds c.args.kinds.now) c.index-tokens-0.result c.index-tokens-0.is (sym c.opens.ensures ∙ c.if-not-opens.false)

pub returns-then-not-opens-clause-wrong : goal.returns-then-not-opens-clause-wrong
returns-then-not-opens-clause-wrong c = sym c.opens.ensures ∙ c.if-not-opens.true
