-- `true` changes nothing but the status.
use Rattle.std.proofs.Common.{◌≡◌, ℕ, Bool, List, [], ◌∷◌, Ok, refl}
use Rattle.std.specs.Prelude.{codes}
use Rattle.em_view.specs.Actions as action
use Rattle.em_view.specs.Actions.{Oracle, Workspace}
use Rattle.em_view.specs.Steps.{own, below, and_then}
use Rattle.em_utility.specs.Writing.{nothing}
use Rattle.em_fileutil.specs.Table as files
use Rattle.em_textutil.specs.Utilities as texts
use Rattle.em_textutil.specs.Plain.{plain_done}
use Rattle.em_word.specs.declared.shell.Shell.{Shell}
use Rattle.em_command.specs.Builtins.{plain}
use Rattle.em_command.specs.Commands.{run_command, run, utility, text_utility}

pub truth : (input : List ℕ) (in_loop : Bool) (s : Shell) (o : Oracle) (w : Workspace)
    → run_command (codes "true" ∷ []) input in_loop s o w ≡ (Ok (plain nothing, record s { status = 0 }), w)
unfolding run_command run utility text_utility files.utility_of texts.utility plain_done and_then own below action.◌>>=◌ action.done
truth input in_loop s o w = refl
