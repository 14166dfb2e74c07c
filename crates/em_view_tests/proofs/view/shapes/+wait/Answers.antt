use Rattle.std.proofs.Common.{◌≡◌, ℕ, zero, suc, ◌-◌, ◌<◌, Bool, List, Result, refl, subst, arith}
use Rattle.em_view.specs.declared.no.DeskNo.{DeskNo}
use Rattle.em_view.specs.Actions.{◌>>=◌}
use Rattle.em_view.specs.Performs.{DeskState, Told, Performs}
use Rattle.em_view.specs.Rows.{is_memory, kind_at}
use Rattle.em_view.specs.Examples.{wait, wait_by}
use Rattle.em_view.proofs.Performing.{then, leave, finish}
use Rattle.em_view_tests.proofs.view.shapes.+wait.Goals as goal

-- with a turn left, a question and then what its answer leads to
a_turn : {V : Type 0} {tells : V → Told} (d e : DeskState V) (r : Result Bool DeskNo) (p : List ℕ) (n : ℕ) → 0 < n
    → Performs is_memory tells d e r (kind_at p >>= wait_by (wait (n - 1) p)) → Performs is_memory tells d e r (wait n p)
unfolding wait
a_turn d e r p zero left h = absurd (omega arith)
a_turn {tells = tells} d e r p (suc n) left h = let same : suc n - 1 ≡ n = omega arith in subst (λ k. Performs is_memory tells d e r (kind_at p >>= wait_by (wait k p))) same h

pub returns-then-turns-eq0 : goal.returns-then-turns-eq0
unfolding wait
returns-then-turns-eq0 g t c = rw c.if-turns-eq0.true finish

pub returns-in_err-kind : goal.returns-in_err-kind
returns-in_err-kind g t c = a_turn _ _ _ c.args.p.now c.args.turns (omega arith) (leave _ c.from_residual.ensures.1 c.in_err-kind.ensures.performs)

pub returns-in-Absent : goal.returns-in-Absent
returns-in-Absent g t c = a_turn _ _ _ c.args.p.now c.args.turns (omega arith) (then _ c.in_ok-kind.ensures.performs (rw c.in-Absent.is c.wait.ensures))

pub returns-in-File : goal.returns-in-File
returns-in-File g t c = a_turn _ _ _ c.args.p.now c.args.turns (omega arith) (then _ c.in_ok-kind.ensures.performs (rw c.in-File.is finish))

pub returns-in-Dir : goal.returns-in-Dir
returns-in-Dir g t c = a_turn _ _ _ c.args.p.now c.args.turns (omega arith) (then _ c.in_ok-kind.ensures.performs (rw c.in-Dir.is finish))

pub returns-in-Link : goal.returns-in-Link
returns-in-Link g t c = a_turn _ _ _ c.args.p.now c.args.turns (omega arith) (then _ c.in_ok-kind.ensures.performs (rw c.in-Link.is finish))
