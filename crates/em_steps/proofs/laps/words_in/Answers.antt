use Rattle.em_view.proofs.Doing.{within_ok, within_err}
use Rattle.em_exec.specs.Subs.{words_if}
use Rattle.em_script.specs.Strands.{sub_of}
use Rattle.em_job.specs.Carrying.{session_of, said_in}
use Rattle.em_steps.specs.Laps.{with_shell, words_in}
use Rattle.em_job.specs.Stops as stops
use Rattle.em_job.proofs.Stopping.{line_free}
use Rattle.em_steps.proofs.Shells.{with_shell_s, no_shell_s}
use Rattle.em_steps.proofs.laps.words_in.Goals as goal

pub returns-in-Ok-clause-does : goal.returns-in-Ok-clause-does
unfolding words_in
returns-in-Ok-clause-does g c = within_ok (session_of c.args.shell) said_in (stops.of_line c.args.place.now) (with_shell (words_if (sub_of c.args.line.now))) _ (with_shell_s c.in-Ok.ensures.does)

pub returns-in-Err-clause-does : goal.returns-in-Err-clause-does
unfolding words_in
returns-in-Err-clause-does g c = within_err (session_of c.args.shell) said_in (stops.of_line c.args.place.now) (with_shell (words_if (sub_of c.args.line.now))) _ (line_free c.args.place.now) c.of_line.ensures (no_shell_s c.in-Err.ensures.does)
