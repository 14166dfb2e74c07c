use Rattle.std.proofs.Common.{◌≡◌, ◌∙◌, sym}
use Rattle.em_submake.proofs.Turning.{ended_where_none}
use Rattle.em_submake.proofs.climbing.up.Goals as goal

pub returns-then-is_empty-clause-goes : goal.returns-then-is_empty-clause-goes
returns-then-is_empty-clause-goes g c = ended_where_none (g.M.Maker.job_of c.args.maker.now) g.J.Steps.plot g.J.Steps.back c.args.levels.now c.args.outcome (sym c.is_empty.ensures ∙ c.if-is_empty.true)

pub returns-clause-goes : goal.returns-clause-goes
returns-clause-goes g c = c.up_within.ensures.goes

pub returns-clause-less : goal.returns-clause-less
returns-clause-less g c = c.up_within.ensures.less
