use Rattle.std.proofs.Common.{◌∙◌, refl, sym, None}
use Rattle.em_gram.proofs.Whole.{not_empty, goes_on_fault}
use Rattle.em_gram.proofs.parse_line.fault_or_stop.Goals as goal

pub returns-then-not-is_empty : goal.returns-then-not-is_empty
returns-then-not-is_empty c = c.fault_at.ensures c.args.stop (λ e. absurd (not_empty c.args.rest.now (sym c.is_empty.ensures ∙ c.if-not-is_empty.true) e)) c.requires

pub returns-in-Some : goal.returns-in-Some
returns-in-Some c = rw c.in-Some.is (c.stopped.ensures c.args.tokens.now c.args.length (goes_on_fault c.args.tokens.now c.args.rest.now _ (sym c.is_empty.ensures ∙ c.if-not-is_empty.false) c.requires))

pub returns-in-None : goal.returns-in-None
returns-in-None c = rw c.in-None.is (c.fault_at-in-None.ensures None (λ e. refl) c.requires)
