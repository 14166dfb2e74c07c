-- A step of an expander: how it goes on with the plan.
use Rattle.std.specs.Prelude.{◌≡◌, Result, Ok, Err}
use Rattle.em_view.specs.Performs.{DeskState, Told, Performs}
use Rattle.em_word.specs.declared.shell.Shell.{Shell}
use Rattle.em_word.specs.declared.fault.WordFault.{WordFault}
use Rattle.em_word.specs.declared.turn.WordTurn.{WordTurn}
use Rattle.em_word.specs.declared.expander.Expander.{Expander}
use Rattle.em_word.specs.declared.step.ExpansionStep.{ExpansionStep}
use Rattle.em_word.specs.declared.step.ExpansionStep.TheVariants as step
use Rattle.em_word.specs.Talk.{Ends}
use Rattle.em_word.specs.Ends.{is_want}
use Rattle.em_word.specs.Turns.{Stop, turn}
use Rattle.em_word.specs.declared.turn.Mode.{Mode}
use Rattle.em_syntax.specs.declared.tree.Script.{Script}
use Rattle.em_word.specs.Values.{Plan, close}
use Rattle.em_word.specs.declared.step.Closed.{Closed}
use Rattle.em_word.specs.Held.{plan_of, mode_of, word_of, seen_turn, StandsAfter, IsSteady}

-- whoever goes on from here with what is left has gone on from there with the whole
pub record Leads {V : Type 0} (tells : V → Told) (mode : Mode) (shell : Shell) (first here : DeskState V) (whole rest : Plan Script) : Type 0 where
  pub goes : (new : DeskState V) (r : Result Stop WordFault) → Performs is_want tells here new r (turn mode rest shell) → Performs is_want tells first new r (turn mode whole shell)

-- nothing but the place in the plan was changed
abbrev pub IsSame : Expander → Expander → Type 0
IsSame old new = (word_of new ≡ word_of old) × (mode_of new ≡ mode_of old)

-- the plan `whole` was followed up to what is left now
pub record GoesOn {V : Type 0} (tells : V → Told) (mode : Mode) (shell : Shell) (first here : DeskState V) (whole : Plan Script) (new : Expander) : Type 0 where
  pub leads : Leads tells mode shell first here whole (plan_of new)
  pub steady : IsSteady new

-- nothing is left
pub record Ended {V : Type 0} (tells : V → Told) (mode : Mode) (shell : Shell) (first here : DeskState V) (whole : Plan Script) (new : Expander) : Type 0 where
  pub leads : Leads tells mode shell first here whole (Ends new.parts)

-- a turn came
pub record Turned {V : Type 0} (tells : V → Told) (mode : Mode) (shell : Shell) (first here : DeskState V) (whole : Plan Script) (new : Expander) (t : WordTurn) : Type 0 where
  pub turned : Performs is_want tells first here (Ok (seen_turn new t)) (turn mode whole shell)
  pub stands : StandsAfter new t

abbrev pub Stepped : {V : Type 0} → (V → Told) → Mode → Shell → DeskState V → DeskState V → Plan Script → Expander → ExpansionStep → Type 0
Stepped tells mode shell first here whole new step.Goes = GoesOn tells mode shell first here whole new
Stepped tells mode shell first here whole new (step.Turn t) = Turned tells mode shell first here whole new t
Stepped tells mode shell first here whole new step.Ended = Ended tells mode shell first here whole new

-- the fault that the plan comes to
pub record Failed {V : Type 0} (tells : V → Told) (mode : Mode) (shell : Shell) (first here : DeskState V) (whole : Plan Script) (f : WordFault) : Type 0 where
  pub performs : Performs is_want tells first here (Err f) (turn mode whole shell)

-- the plan of a value whose argument has been expanded
abbrev pub closed : Closed → Plan Script
closed v = close v.late v.quoted v.name.now v.argument
