-- What a simple command does once its words and redirections are known.
--     perform words streams input in_loop
-- The first word is its name. The blocks of what it wrote are taken before anything goes where it
-- is written to.
use Rattle.std.specs.Prelude.{ℕ, ◌+◌, Bool, List, [], ◌∷◌, length, Result, Ok, Err}
use Rattle.em_view.specs.declared.done.Piece.{Piece}
use Rattle.em_view.specs.Actions.{spend}
use Rattle.em_view.specs.Rows.{blocks}
use Rattle.em_view.specs.Steps.{done, refuse, below, within}
use Rattle.em_view.specs.Do.{◌>>=◌}
use Rattle.em_word.specs.declared.shell.Shell.{Shell}
use Rattle.em_command.specs.declared.jump.Jump.{Jump}
use Rattle.em_command.specs.declared.jump.Jump.TheVariants.{End}
use Rattle.em_command.specs.declared.here.Here.{Here}
use Rattle.em_command.specs.declared.builtin.Ran.{Ran}
use Rattle.em_command.specs.declared.streams.Streams.{Streams}
use Rattle.em_command.specs.Jumps.{Acts, of_desk, jump_of}
use Rattle.em_command.specs.Commands.{run_command}
use Rattle.em_command.specs.Streams.{input_of}
use Rattle.em_command.specs.Delivering.{delivered}

abbrev pub total : List Piece → ℕ
total [] = 0
total (p ∷ ps) = length p.text + total ps

abbrev pub with_shell : Here → Shell → Here
with_shell h s = record h { shell = s }

abbrev pub jumped : Result (Unit {0}) Jump → Acts (Unit {0})
jumped (Ok u) = done tt
jumped (Err j) = refuse j

unfoldable pub charge : List Piece → Acts (Unit {0})
charge ps = below of_desk (spend (blocks (total ps)))

unfoldable pub left_over : Streams → Ran → Acts (Unit {0})
left_over streams r = do
  u ← charge r.done.pieces
  v ← delivered streams r.done.pieces
  jumped (jump_of r.flow)

unfoldable pub perform : List (List ℕ) → Streams → List ℕ → Bool → Acts (Unit {0})
perform words streams input in_loop = do
  r ← within (λ (h : Here). h.shell) with_shell End (run_command words (input_of streams input) in_loop)
  left_over streams r
