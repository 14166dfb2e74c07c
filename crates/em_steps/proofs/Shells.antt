-- Steps in a shell.
--     with_shell_s, no_shell_s     a value with the shell behind it; an error
use Rattle.std.proofs.Common.{Ok, Err}
use Rattle.em_view.specs.declared.done.ExecNo.{ExecNo}
use Rattle.em_view.specs.Performs.{DeskState, Told}
use Rattle.em_view.specs.Steps.{Steps, Does, done}
use Rattle.em_view.specs.Ends.{is_want}
use Rattle.em_view.proofs.Doing.{then_s, exit_s, finish_s}
use Rattle.em_exec.specs.Exec.{Session}
use Rattle.em_steps.specs.Laps.{with_shell}

module _ {V A : Type 0} {tells : V → Told} {old new : DeskState V} {s t : Session} {m : Steps Session ExecNo A} where
  pub with_shell_s : {a : A} → Does is_want tells old new s t (Ok a) m → Does is_want tells old new s t (Ok (a, t.shell)) (with_shell m)
  with_shell_s {a} p = then_s (λ (x : A) (u : Session). done (x, u.shell) u) p (record { performs = (finish_s {free = is_want} {tells = tells} {d = new} {s = t} {a = (a, t.shell)}).performs })

  pub no_shell_s : {e : ExecNo} → Does is_want tells old new s t (Err e) m → Does is_want tells old new s t (Err e) (with_shell m)
  no_shell_s p = exit_s (λ (x : A) (u : Session). done (x, u.shell) u) p
