use Rattle.std.proofs.Common.{◌≡◌, ℕ, List, Result, refl}
use Rattle.em_view.specs.Performs.{DeskState, Told, Performs}
use Rattle.em_utility.specs.declared.operand.OperandNo.{OperandNo}
use Rattle.em_utility.specs.Operands.{is_free}
use Rattle.em_syntax.specs.declared.tree.RedirectKind.{RedirectKind}
use Rattle.em_syntax.specs.declared.tree.RedirectKind.TheVariants.{Write, Append, Read, Duplicate}
use Rattle.em_command.specs.declared.streams.Streams.{Streams}
use Rattle.em_command.specs.Streams.{at_path, connect}
use Rattle.em_command.proofs.Settling.{gave_any}
use Rattle.em_command.proofs.streams.connect.Goals as goal

others : {V : Type 0} {tells : V → Told} {old new : DeskState V} {r : Result Streams OperandNo} (cwd : List ℕ) (fd : ℕ) (k : RedirectKind) (word : List ℕ) (s : Streams)
    → (k ≡ Duplicate → ⊥) → Performs is_free tells old new r (at_path cwd fd k word s) → Performs is_free tells old new r (connect cwd fd k word s)
others cwd fd Write word s isnt p = p
others cwd fd Append word s isnt p = p
others cwd fd Read word s isnt p = p
others cwd fd Duplicate word s isnt p = absurd (isnt refl)

pub returns-in-Duplicate : goal.returns-in-Duplicate
returns-in-Duplicate g c = rw c.in-Duplicate.is (gave_any _ _ (λ h. c.duplicated.ensures))

pub returns-in_default : goal.returns-in_default
returns-in_default g c = others _ _ _ _ _ c.in_default.not-Duplicate c.at_path.ensures
