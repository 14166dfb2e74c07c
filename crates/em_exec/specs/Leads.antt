-- A turn of a word's expansion, and how what is left goes on.
--     Turned ..      what a turn has done: the expansion, why there is none, or nothing but a part of it
use Rattle.std.specs.Prelude.{◌≡◌, Option, Some, None, Result, Ok, Err}
use Rattle.em_view.specs.Performs.{DeskState, Told}
use Rattle.em_view.specs.Steps.{Does}
use Rattle.em_word.specs.declared.expander.Expander.{Expander}
use Rattle.em_word.specs.Held.{plan_of, mode_of, IsReady}
use Rattle.em_word.specs.Leads.{IsSame}
use Rattle.em_command.specs.declared.jump.Jump.{Jump}
use Rattle.em_command.specs.declared.here.Here.{Here}
use Rattle.em_command.specs.declared.here.Scene.{Scene}
use Rattle.em_command.specs.Jumps.{is_free, Acts}
use Rattle.em_exec.specs.declared.expand.Expansion.{Expansion}
use Rattle.em_exec.specs.Words.{Deeper, hold}

-- what an expander stands for
abbrev pub rest_of : Deeper → Scene → Expander → Acts Expansion
rest_of deeper scene e = hold deeper scene (mode_of e) (plan_of e)

-- whoever goes on from here with what is left has gone on from there with the whole
pub record GoesOn {V : Type 0} (tells : V → Told) (deeper : Deeper) (scene : Scene) (first here : DeskState V) (h t : Here) (old new : Expander) : Type 0 where
  pub goes : (end : DeskState V) (u : Here) (r : Result Expansion Jump) → Does is_free tells here end t u r (rest_of deeper scene new) → Does is_free tells first end h u r (rest_of deeper scene old)
  pub ready : IsReady new
  pub same : IsSame old new

-- the whole has come to this
pub record Comes {V : Type 0} (tells : V → Told) (deeper : Deeper) (scene : Scene) (first here : DeskState V) (h t : Here) (old : Expander) (r : Result Expansion Jump) : Type 0 where
  pub does : Does is_free tells first here h t r (rest_of deeper scene old)

abbrev pub Turned : {V : Type 0} → (V → Told) → Deeper → Scene → DeskState V → DeskState V → Here → Here → Expander → Expander → Result (Option Expansion) Jump → Type 0
Turned tells deeper scene first here h t old new (Ok None) = GoesOn tells deeper scene first here h t old new
Turned tells deeper scene first here h t old new (Ok (Some x)) = Comes tells deeper scene first here h t old (Ok x)
Turned tells deeper scene first here h t old new (Err j) = Comes tells deeper scene first here h t old (Err j)
