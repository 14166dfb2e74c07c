-- The turns of `while`.
use Rattle.std.proofs.Common.{suc}
use Rattle.em_view.specs.Performs.{DeskState, Told}
use Rattle.em_view.specs.Steps.{Does}
use Rattle.std.specs.Prelude.{Result}
use Rattle.em_syntax.specs.declared.tree.Loop.{Loop, out-Loop}
use Rattle.em_command.specs.declared.jump.Jump.{Jump}
use Rattle.em_command.specs.declared.here.Here.{Here}
use Rattle.em_command.specs.declared.here.Scene.{Scene}
use Rattle.em_command.specs.Jumps.{is_free}
use Rattle.em_exec.specs.Words.{Deeper}
use Rattle.em_exec.specs.Running.{in_loop, turns, loop_of}

-- by any number above the fuel, from its own
pub from_fuel : {V : Type 0} {tells : V → Told} {old new : DeskState V} {h u : Here} {r : Result (Unit {0}) Jump} (deeper : Deeper) (scene : Scene) (c : Loop)
    → Does is_free tells old new h u r (turns (suc old.work.fuel) (out-Loop c).until (deeper (out-Loop c).test (in_loop scene)) (deeper (out-Loop c).body (in_loop scene)) 0)
    → Does is_free tells old new h u r (loop_of deeper scene c)
unfolding loop_of
from_fuel deeper scene c p = record { performs = record { grows = p.performs.grows; plain = p.performs.plain } }
