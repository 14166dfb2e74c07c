use Rattle.std.proofs.Common.{◌∙◌, sym}
use Rattle.em_chain.proofs.Pairs.{last_is, last_nothing}
use Rattle.em_chain.proofs.chain.Chain.last.Goals as goal

pub returns-in-Some-clause-last : goal.returns-in-Some-clause-last
returns-in-Some-clause-last c = last_is c.args.job c.args.self.now c.search-spot.result.at c.in-Some.before c.index.result.now c.search-spot.ensures.at (sym c.search-spot.ensures.before ∙ c.in-Some.is) (rw (← c.self.view_is) c.index.ensures)

pub returns-in-None-clause-last : goal.returns-in-None-clause-last
returns-in-None-clause-last c = last_nothing c.args.job c.args.self.now c.search-spot.result.at c.search-spot.ensures.at (sym c.search-spot.ensures.before ∙ c.in-None.is)
