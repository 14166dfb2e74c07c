-- Why the commands that follow aren't run, as callers see it.
use Rattle.std.specs.Prelude.{Bool, false, Result, Ok, Err}
use Rattle.em_view.specs.declared.no.DeskNo.{DeskNo}
use Rattle.em_view.specs.Ends as ends
use Rattle.em_view.specs.Actions.{Action}
use Rattle.em_view.specs.Steps.{Steps}
use Rattle.em_utility.specs.declared.operand.OperandNo.{OperandNo}
use Rattle.em_command.specs.declared.jump.Flow.{Flow}
use Rattle.em_command.specs.declared.jump.Flow.TheVariants as flow
use Rattle.em_command.specs.declared.jump.Jump.{Jump}
use Rattle.em_command.specs.declared.jump.Jump.TheVariants.{Exit, Break, Continue, End}
use Rattle.em_command.specs.declared.here.Here.{Here}

-- want of memory, which may come freely
abbrev pub is_free : Jump → Bool
is_free (End e) = ends.is_want e
is_free _ = false

-- a desk's refusal, where no operation on a file is refused
abbrev pub of_desk : DeskNo → Jump
of_desk e = End (ends.of_desk e)

abbrev pub jump_of : Flow → Result (Unit {0}) Jump
jump_of flow.On = Ok tt
jump_of flow.Exit = Err Exit
jump_of flow.Break = Err Break
jump_of flow.Continue = Err Continue

-- what is done by a shell on its way
abbrev pub Acts : Type 0 → Type 0
Acts A = Steps Here Jump A

-- what is done to it without a desk
abbrev pub Change : Type 0 → Type 0
Change A = Here → Result (A × Here) (Jump × Here)

-- what is done for a word, and then by how that ended
unfoldable pub looked : {A B : Type 0} → (Here → Action OperandNo A) → (Result A OperandNo → Change B) → Acts B
looked m k = λ h o w. (k (m h o w).0 h, (m h o w).1)
