-- The faults of words, as callers see them.
use Rattle.std.specs.Prelude.{Bool, true, false}
use Rattle.em_view.specs.declared.no.DeskNo.{DeskNo}
use Rattle.em_view.specs.declared.no.DeskNo.TheVariants as no
use Rattle.em_word.specs.declared.fault.WordFault.{WordFault}
use Rattle.em_word.specs.declared.fault.WordFault.TheVariants as fault

-- want of memory, which may come freely
abbrev pub is_want : WordFault → Bool
is_want fault.NoMemory = true
is_want _ = false

-- a desk's refusal, where no operation on a file is refused
abbrev pub of_desk : DeskNo → WordFault
of_desk no.NoMemory = fault.NoMemory
of_desk no.Spent = fault.Spent
of_desk (no.File _) = fault.Spent
