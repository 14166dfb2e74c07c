-- Loops, turn by turn.
--     going_on deeper scene c last      the loop from its next turn on, where its last body ended with this status
--     Lets until n                      a test with status n lets the loop go on
use Rattle.std.specs.Prelude.{◌≡◌, ◌≢◌, ◌≤◌, ℕ, suc, ◌-◌, Bool, true, false}
use Rattle.em_view.specs.Actions.{Oracle, Workspace}
use Rattle.em_syntax.specs.declared.tree.Loop.{Loop, out-Loop}
use Rattle.em_command.specs.declared.here.Here.{Here}
use Rattle.em_command.specs.declared.here.Scene.{Scene}
use Rattle.em_command.specs.Jumps.{Acts}
use Rattle.em_exec.specs.Words.{Deeper}
use Rattle.em_exec.specs.Running.{turns}

-- a loop is around
abbrev pub looping : Scene → Scene
looping scene = record scene { in_loop = true }

module _ (deeper : Deeper) (scene : Scene) (c : Loop) where
  abbrev pub test_of : Acts (Unit {0})
  test_of = deeper (out-Loop c).test (looping scene)

  abbrev pub body_of : Acts (Unit {0})
  body_of = deeper (out-Loop c).body (looping scene)

  -- at most so many turns
  abbrev pub turns_of : ℕ → ℕ → Acts (Unit {0})
  turns_of n last = turns n (out-Loop c).until test_of body_of last

  abbrev pub going_on : ℕ → Acts (Unit {0})
  going_on last = λ h o w. turns_of (suc w.fuel) last h o w

-- `while` goes on behind a status 0, `until` behind another
abbrev pub Lets : Bool → ℕ → Type 0
Lets false n = n ≡ 0
Lets true n = n ≢ 0

-- the unit of a turn is taken
abbrev pub turn_taken : Workspace → Workspace
turn_taken w = record w { fuel = w.fuel - 1 }

-- what is done makes no fuel
abbrev pub MakesNoFuel : Acts (Unit {0}) → Type 0
MakesNoFuel m = (h : Here) (o : Oracle) (w : Workspace) → (m h o w).1.fuel ≤ w.fuel
