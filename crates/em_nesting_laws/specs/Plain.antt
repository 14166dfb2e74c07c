-- What the laws of jobs with makes within them speak of.
--     BeginsNoMake text     whatever the text is by the shell's grammar begins no make
--     IsPlain j s           no line of the job's recipe begins one, as its lines are on this state
use Rattle.std.specs.Prelude.{◌≡◌, ℕ, List, All, None}
use Rattle.em_tree.specs.declared.state.State.{State}
use Rattle.em_script.specs.declared.line.ShellLine.{ShellLine}
use Rattle.em_script.specs.Lines.{IsRead}
use Rattle.em_script.specs.Strands.{sub_of}
use Rattle.em_task.specs.declared.job.Job.{Job}
use Rattle.em_job.specs.declared.prepare.Placed.{Placed}
use Rattle.em_job.specs.Effects.{lines_on}

abbrev pub BeginsNoMake : List ℕ → Type 0
BeginsNoMake text = (line : ShellLine) → IsRead text line → sub_of line ≡ None

abbrev pub IsPlain : Job → State → Type 0
IsPlain j s = All (λ (p : Placed). BeginsNoMake p.command.text) (lines_on j s)
