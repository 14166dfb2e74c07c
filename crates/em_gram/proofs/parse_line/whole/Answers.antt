use Rattle.std.proofs.Common.{◌∙◌, sym}
use Rattle.em_gram.proofs.Whole.{not_empty, fault_at_rest, script_is, goes_on_whole}
use Rattle.em_gram.proofs.parse_line.whole.Goals as goal

pub returns-then-not-is_empty-clause-fault : goal.returns-then-not-is_empty-clause-fault
returns-then-not-is_empty-clause-fault c = c.fault_at.ensures c.args.stop (λ e. absurd (not_empty c.args.rest.now (sym c.is_empty.ensures ∙ c.if-not-is_empty.true) e)) (fault_at_rest c.args.tokens.now c.args.rest.now _ (sym c.is_empty.ensures ∙ c.if-not-is_empty.true) c.requires)

pub returns-in-Some-clause-fault : goal.returns-in-Some-clause-fault
returns-in-Some-clause-fault c = rw c.in-Some.is (c.stopped.ensures c.args.tokens.now c.args.length (goes_on_whole c.args.tokens.now c.args.rest.now _ (sym c.is_empty.ensures ∙ c.if-not-is_empty.false) c.requires))

pub returns-in-None-clause-tree : goal.returns-in-None-clause-tree
returns-in-None-clause-tree c = script_is c.args.tokens.now c.args.rest.now c.args.stop c.args.script c.in-None.is (sym c.is_empty.ensures ∙ c.if-not-is_empty.false) c.requires
