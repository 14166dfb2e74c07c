use Rattle.std.proofs.Common.{◌≡◌, ℕ, suc, true, false, List, [], ◌∷◌, length, Result, sym, arith}
use Rattle.std.specs.Prelude.{◌==◌}
use Rattle.std.proofs.lemmas.Bool.{eqb-true}
use Rattle.em_view.specs.Performs.{DeskState, Told, Performs}
use Rattle.em_view.specs.Actions.{done}
use Rattle.em_view.proofs.Performing.{finish}
use Rattle.em_utility.specs.declared.operand.OperandNo.{OperandNo}
use Rattle.em_utility.specs.Operands.{is_free}
use Rattle.em_command.specs.declared.streams.OpenedFile.{OpenedFile}
use Rattle.em_command.specs.Delivering.{append_some, append}
use Rattle.em_command.proofs.delivery.append.Goals as goal

module _ {V : Type 0} {tells : V → Told} {old new : DeskState V} {r : Result (Unit {0}) OperandNo} where
  none : (f : OpenedFile) (text : List ℕ) → true ≡ (length text == 0) → Performs is_free tells old new r (done tt) → Performs is_free tells old new r (append f text)
  none f [] e p = p
  none f (b ∷ bs) e p = absurd (let zero = eqb-true (suc (length bs)) 0 (sym e) in omega arith)

  some : (f : OpenedFile) (text : List ℕ) → false ≡ (length text == 0) → Performs is_free tells old new r (append_some f.word f.path text) → Performs is_free tells old new r (append f text)
  some f [] e p = absurd cc
  some f (b ∷ bs) e p = p

pub returns-then-is_empty : goal.returns-then-is_empty
returns-then-is_empty g c = none c.args.file.now c.args.text.now c.if-is_empty.ensures finish

pub returns : goal.returns
returns g c = some c.args.file.now c.args.text.now c.if-is_empty.ensures c.append_some.ensures
