-- Why a job goes no further, with what is then said and how it ends.
--     Acts A              what is done over a desk by a job, which says something
--     of_desk ..          a desk's refusal, where no operation on a file is refused
--     of_expand p e       a text at this place can't be expanded
--     of_line p e         a line at this place can't be run
--     stop_text, end_of   what is said, and how the job ends
use Rattle.std.specs.Prelude.{ℕ, Bool, true, false, List, []}
use Rattle.em_base.specs.declared.construct.Construct.TheVariants as construct
use Rattle.em_base.specs.declared.place.Place.{Place}
use Rattle.em_tree.specs.declared.outcome.Outcome.{Outcome}
use Rattle.em_tree.specs.declared.outcome.Outcome.TheVariants as outcome
use Rattle.em_view.specs.declared.done.ExecNo.{ExecNo}
use Rattle.em_view.specs.declared.done.ExecNo.TheVariants as exec
use Rattle.em_view.specs.declared.no.DeskNo.{DeskNo}
use Rattle.em_view.specs.declared.no.DeskNo.TheVariants as desk
use Rattle.em_view.specs.Steps.{Steps}
use Rattle.em_expand.specs.declared.no.ExpandNo.{ExpandNo}
use Rattle.em_expand.specs.declared.no.ExpandNo.TheVariants as no
use Rattle.em_expand.specs.declared.spoken.Spoken.{Spoken}
use Rattle.em_recipe.specs.Messages as messages
use Rattle.em_job.specs.declared.stop.JobStop.{JobStop}
use Rattle.em_job.specs.declared.stop.JobStop.TheVariants.{Early, Spent, Refused, Halted, NoMemory}

-- the one that may come freely
abbrev pub is_free : JobStop → Bool
is_free NoMemory = true
is_free _ = false

abbrev pub Acts : Type 0 → Type 0
Acts A = Steps Spoken JobStop A

-- before a line is begun, and at a line
abbrev pub early : DeskNo → JobStop
early desk.NoMemory = NoMemory
early desk.Spent = Early
early (desk.File f) = Early

abbrev pub of_desk : Place → DeskNo → JobStop
of_desk p desk.NoMemory = NoMemory
of_desk p desk.Spent = Spent p
of_desk p (desk.File f) = Spent p

abbrev pub of_expand : Place → ExpandNo → JobStop
of_expand p no.NoMemory = NoMemory
of_expand p no.Spent = Spent p
of_expand p (no.Refused name) = Refused (construct.MakeName name) p
of_expand p e = Halted (messages.fault_text e) p

abbrev pub of_line : Place → ExecNo → JobStop
of_line p exec.NoMemory = NoMemory
of_line p exec.Spent = Spent p
of_line p (exec.Refused c) = Refused c p

abbrev pub stop_text : List ℕ → JobStop → List ℕ
stop_text target Early = messages.spent_early target
stop_text target (Spent p) = messages.spent p target
stop_text target (Refused c p) = messages.refused p target c
stop_text target (Halted t p) = messages.halted p t
stop_text target NoMemory = []

abbrev pub end_of : JobStop → Outcome
end_of (Refused c p) = outcome.Refused c p
end_of (Halted t p) = outcome.Halted t p
end_of _ = outcome.Spent
