-- A level further down.
use Rattle.std.proofs.Common.{◌≡◌, ◌<◌, ◌-◌, ℕ, zero, suc, List, Result, subst, arith}
use Rattle.em_path.specs.Paths.{parent_text}
use Rattle.em_view.specs.declared.done.Done.{Done}
use Rattle.em_view.specs.Performs.{DeskState, Told}
use Rattle.em_view.specs.Steps.{Does}
use Rattle.em_utility.specs.declared.operand.OperandNo.{OperandNo}
use Rattle.em_utility.specs.Operands.{is_free}
use Rattle.em_fileutil.specs.declared.operand.Operand.{Operand}
use Rattle.em_fileutil.specs.declared.remove.Removal.{Removal}
use Rattle.em_fileutil.specs.declared.copy.Manner.{Manner}
use Rattle.em_fileutil.specs.Making.{make_under, make_all}
use Rattle.em_fileutil.specs.Removing.{remove_node, remove_beneath}
use Rattle.em_fileutil.specs.Copying.{copy_linked, copy_beneath}

module _ {V : Type 0} {tells : V → Told} {old new : DeskState V} {s t : Done} {r : Result (Unit {0}) OperandNo} where
  pub make_level : (name p : List ℕ) (left : ℕ) → 0 < left → Does is_free tells old new s t r (make_under (parent_text p) (make_all (left - 1) name) name p) → Does is_free tells old new s t r (make_all left name p)
  make_level name p zero h d = absurd (omega arith)
  make_level name p (suc n) h d = let e : suc n - 1 ≡ n = omega arith in subst (λ k. Does is_free tells old new s t r (make_under (parent_text p) (make_all k name) name p)) e d

  pub remove_level : (how : Removal) (o : Operand) (left : ℕ) → 0 < left → Does is_free tells old new s t r (remove_node (remove_beneath how (left - 1)) how o) → Does is_free tells old new s t r (remove_beneath how left o)
  remove_level how o zero h d = absurd (omega arith)
  remove_level how o (suc n) h d = let e : suc n - 1 ≡ n = omega arith in subst (λ k. Does is_free tells old new s t r (remove_node (remove_beneath how k) how o)) e d

  pub copy_level : (utility : List ℕ) (manner : Manner) (a b : Operand) (left : ℕ) → 0 < left → Does is_free tells old new s t r (copy_linked utility (copy_beneath utility manner (left - 1)) manner a b) → Does is_free tells old new s t r (copy_beneath utility manner left a b)
  copy_level utility manner a b zero h d = absurd (omega arith)
  copy_level utility manner a b (suc n) h d = let e : suc n - 1 ≡ n = omega arith in subst (λ k. Does is_free tells old new s t r (copy_linked utility (copy_beneath utility manner k) manner a b)) e d
