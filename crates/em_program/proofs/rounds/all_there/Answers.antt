use Rattle.std.proofs.Common.{sym, ap, ◌∙◌}
use Rattle.std.specs.Prelude.{option_copied}
use Rattle.em_program.proofs.Following.{finish}
use Rattle.em_program.proofs.Rounding.{all_here}
use Rattle.em_program.proofs.rounds.all_there.Goals as goal

pub returns-in-None-clause-told : goal.returns-in-None-clause-told
returns-in-None-clause-told g c = rw (all_here c.args.tree.now c.args.cwd.now c.args.missing.now (sym c.in_ok-first_lacking.ensures ∙ ap option_copied c.in-None.is)) finish
