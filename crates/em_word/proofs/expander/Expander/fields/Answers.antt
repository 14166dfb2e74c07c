use Rattle.em_word.proofs.expander.Expander.fields.Goals as goal

pub returns-clause-turn : goal.returns-clause-turn
returns-clause-turn g c = c.in_ok-take_output.ensures.goes.leads.goes _ _ (rw c.in_ok-take_output.ensures.same.1 at c.go.ensures.turn)
