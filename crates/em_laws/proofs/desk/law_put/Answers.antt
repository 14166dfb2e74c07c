use Rattle.em_laws.proofs.Allowing.{put_cost, put_kept, put_new, put_ok, put_over}
use Rattle.em_laws.proofs.desk.law_put.Goals as goal

pub returns-clause-ok : goal.returns-clause-ok
returns-clause-ok c = put_ok

pub returns-clause-new : goal.returns-clause-new
returns-clause-new c = put_new

pub returns-clause-over : goal.returns-clause-over
returns-clause-over c = put_over

pub returns-clause-kept : goal.returns-clause-kept
returns-clause-kept c = put_kept

pub returns-clause-cost : goal.returns-clause-cost
returns-clause-cost c = put_cost
