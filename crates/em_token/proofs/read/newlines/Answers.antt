use Rattle.std.proofs.Common.{◌∙◌, sym, refl, arith}
use Rattle.em_grammar.proofs.Giving.{end_many}
use Rattle.em_token.specs.Shell.{shell}
use Rattle.em_token.proofs.Tokens.{newline_more, shorter_rest}
use Rattle.em_token.proofs.read.newlines.Goals as goal

pub loop-rest-init : goal.loop-rest-init
loop-rest-init c = record { within = omega arith; turns = λ left. record { spells = (0, refl); goes = λ S. refl } }

pub loop-rest-preserved : goal.loop-rest-preserved
loop-rest-preserved c = record { within = shorter_rest c.loop-rest.rest.now c.args.tokens.now c.loop-rest.invariant.within; turns = λ left. newline_more left _ c.loop-rest.rest.now (c.loop-rest.invariant.turns left) (sym c.opens.ensures ∙ c.loop-rest-test.true) }

pub returns-clause-reads : goal.returns-clause-reads
returns-clause-reads c = λ left. end_many shell (c.loop-rest.invariant.turns left) (sym c.opens.ensures ∙ c.loop-rest-test.false)
