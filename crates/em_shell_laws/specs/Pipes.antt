-- Stages of a pipeline.
--     said_on n pieces        what was written on stream n, one text behind another
--     beside n pieces         what was written on other streams
--     AreStages ..            from an input and a workspace, stages one behind another
use Rattle.std.specs.Prelude.{ℕ, ◌==◌, Bool, false, not, List, [], ◌∷◌, Result}
use Rattle.std.specs.List.{filter, flat_map}
use Rattle.em_view.specs.declared.done.Piece.{Piece}
use Rattle.em_view.specs.Actions.{Oracle, Workspace}
use Rattle.em_syntax.specs.declared.tree.Command.{Command}
use Rattle.em_word.specs.declared.shell.Shell.{Shell}
use Rattle.em_command.specs.declared.jump.Jump.{Jump}
use Rattle.em_command.specs.declared.here.Here.{Here}
use Rattle.em_command.specs.declared.here.Scene.{Scene}
use Rattle.em_command.specs.Heres.{begun}
use Rattle.em_exec.specs.Words.{Deeper}
use Rattle.em_exec.specs.Running.{command_of}
use Rattle.em_shell_laws.specs.Ends.{Comes, HasEnd}

abbrev pub said : List Piece → List ℕ
said ps = flat_map (λ p. p.text) ps

abbrev pub is_on : ℕ → Piece → Bool
is_on n p = p.stream == n

abbrev pub said_on : ℕ → List Piece → List ℕ
said_on n ps = said (filter (is_on n) ps)

abbrev pub beside : ℕ → List Piece → List Piece
beside n ps = filter (λ p. not (is_on n p)) ps

-- a stage that has run: how it ended, the copy of the shell in which it ran, and the workspace
-- behind it
pub record Stage : Type 0 where
  pub command : Command
  pub ended : Result (Unit {0}) Jump
  pub copy : Here
  pub after : Workspace

abbrev pub written_by : Stage → List Piece
written_by s = s.copy.pieces

-- this input is read, and no loop is around
abbrev pub reading : List ℕ → Scene
reading input = record { input = input; in_loop = false }

-- it begins with the shell as it is, having written nothing
pub record Runs (deeper : Deeper) (o : Oracle) (shell : Shell) (input : List ℕ) (w : Workspace) (s : Stage) : Type 0 where
  pub comes : Comes o (command_of deeper (reading input) s.command) (begun shell) w s.ended s.copy s.after
  pub ends : HasEnd s.ended

-- each reads what the one before it wrote on stream 1
abbrev pub AreStages : Deeper → Oracle → Shell → List ℕ → Workspace → List Stage → Type 0
AreStages deeper o shell input w [] = Unit {0}
AreStages deeper o shell input w (s ∷ ss) = Runs deeper o shell input w s × AreStages deeper o shell (said_on 1 (written_by s)) s.after ss
