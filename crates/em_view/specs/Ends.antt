-- A command that has no end, as callers see it.
use Rattle.std.specs.Prelude.{Bool, true, false}
use Rattle.em_view.specs.declared.no.DeskNo.{DeskNo}
use Rattle.em_view.specs.declared.no.DeskNo.TheVariants as no
use Rattle.em_view.specs.declared.done.ExecNo.{ExecNo}
use Rattle.em_view.specs.declared.done.ExecNo.TheVariants as exec

-- want of memory, which may come freely
abbrev pub is_want : ExecNo → Bool
is_want exec.NoMemory = true
is_want _ = false

-- a desk's refusal, where no operation on a file is refused
abbrev pub of_desk : DeskNo → ExecNo
of_desk no.NoMemory = exec.NoMemory
of_desk no.Spent = exec.Spent
of_desk (no.File _) = exec.Spent
