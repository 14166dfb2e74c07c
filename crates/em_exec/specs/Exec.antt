-- A script as a whole: a line of a recipe.
--     run script      from a shell and a text a status, or why there is no end; what was written stands behind the text in any case
use Rattle.std.specs.Prelude.{ℕ, false, List, [], ◌∷◌, ◌++◌, Result, Ok, Err}
use Rattle.em_view.specs.declared.done.Piece.{Piece}
use Rattle.em_view.specs.declared.done.ExecNo.{ExecNo}
use Rattle.em_view.specs.Steps.{Steps}
use Rattle.em_syntax.specs.declared.tree.Script.{Script}
use Rattle.em_word.specs.declared.shell.Shell.{Shell}
use Rattle.em_command.specs.declared.jump.Jump.{Jump}
use Rattle.em_command.specs.declared.jump.Jump.TheVariants.{End}
use Rattle.em_command.specs.declared.here.Here.{Here}
use Rattle.em_command.specs.Heres.{begun}
use Rattle.em_exec.specs.Copies.{Ended}
use Rattle.em_exec.specs.Words.{in_copy}
use Rattle.em_exec.specs.Running.{script_at}

pub record Session : Type 0 where
  pub shell : Shell
  pub output : List ℕ

abbrev pub said : List Piece → List ℕ
said [] = []
said (p ∷ ps) = p.text ++ said ps

abbrev pub left_by : Here → Session → Session
left_by h s = record { shell = h.shell; output = s.output ++ said h.pieces }

abbrev pub closed : Session → Ended → Result (ℕ × Session) (ExecNo × Session)
closed s (Ok (u, h)) = Ok (h.shell.status, left_by h s)
closed s (Err (End e, h)) = Err (e, left_by h s)
closed s (Err (j, h)) = Ok (h.shell.status, left_by h s)

-- 64 compound commands and substitutions may stand in one another
unfoldable pub run : Script → Steps Session ExecNo ℕ
run script = λ s o w. (closed s (script_at 65 script (in_copy []) (begun s.shell) o w).0, (script_at 65 script (in_copy []) (begun s.shell) o w).1)
