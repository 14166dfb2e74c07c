use Rattle.std.proofs.Common.{refl}
use Rattle.em_view.proofs.Performing.{then, leave, finish, ran_out}
use Rattle.em_textutil.specs.Utilities.{carried}
use Rattle.em_textutil.proofs.command.carried.Goals as goal

pub returns-in_err-wrong_done-in-Wrong : goal.returns-in_err-wrong_done-in-Wrong
returns-in_err-wrong_done-in-Wrong g c = ran_out _ refl c.from_residual.ensures.1

pub returns-in_ok-wrong_done-in-Wrong : goal.returns-in_ok-wrong_done-in-Wrong
unfolding carried
returns-in_ok-wrong_done-in-Wrong g c = rw (c.in-Wrong.is, c.in_ok-wrong_done-in-Wrong.ensures) finish

pub returns-in_err-sources-in-Read : goal.returns-in_err-sources-in-Read
unfolding carried
returns-in_err-sources-in-Read g c = rw c.in-Read.is (leave _ c.from_residual-in_err-sources-in-Read.ensures.1 (rw (c.is_dashed.ensures, c.files_of-files.ensures) at c.in_err-sources-in-Read.ensures))

pub returns-in_err-job_done-in-Read : goal.returns-in_err-job_done-in-Read
unfolding carried
returns-in_err-job_done-in-Read g c = rw c.in-Read.is (then _ (rw (c.is_dashed.ensures, c.files_of-files.ensures) at c.in_ok-sources-in-Read.ensures) (ran_out _ refl c.from_residual-in_err-job_done-in-Read.ensures.1))

pub returns-in_ok-job_done-in-Read : goal.returns-in_ok-job_done-in-Read
unfolding carried
returns-in_ok-job_done-in-Read g c = rw c.in-Read.is (then _ (rw (c.is_dashed.ensures, c.files_of-files.ensures) at c.in_ok-sources-in-Read.ensures) (rw (c.in_ok-job_done-in-Read.ensures, c.name_of.ensures, c.items.ensures) finish))
