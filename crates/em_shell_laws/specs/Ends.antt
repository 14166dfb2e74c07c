-- How what a shell does comes out, where o answers what is asked.
--     Ends o m h w a t v      from the shell h and the workspace w it comes to its end: a value, the shell and the workspace behind it
--     Leaves o m h w j t v    what follows is left out, for this reason
--     Comes o m h w r t v     either of the two
--     HasEnd r                it came to its end, or left by `exit`, `break` or `continue`
use Rattle.std.specs.Prelude.{◌≡◌, ◌≢◌, Result, Ok, Err}
use Rattle.em_view.specs.declared.done.ExecNo.{ExecNo}
use Rattle.em_view.specs.Actions.{Oracle, Workspace}
use Rattle.em_view.specs.Steps.{with_state}
use Rattle.em_command.specs.declared.jump.Jump.{Jump}
use Rattle.em_command.specs.declared.jump.Jump.TheVariants.{End}
use Rattle.em_command.specs.declared.here.Here.{Here}
use Rattle.em_command.specs.Jumps.{Acts}

abbrev pub Ends : {A : Type 0} → Oracle → Acts A → Here → Workspace → A → Here → Workspace → Type 0
Ends o m h w a t v = m h o w ≡ (Ok (a, t), v)

abbrev pub Leaves : {A : Type 0} → Oracle → Acts A → Here → Workspace → Jump → Here → Workspace → Type 0
Leaves o m h w j t v = m h o w ≡ (Err (j, t), v)

abbrev pub Comes : {A : Type 0} → Oracle → Acts A → Here → Workspace → Result A Jump → Here → Workspace → Type 0
Comes o m h w r t v = m h o w ≡ (with_state r t, v)

abbrev pub HasEnd : Result (Unit {0}) Jump → Type 0
HasEnd r = (e : ExecNo) → r ≢ Err (End e)
