use Rattle.std.proofs.Common.{drop, []}
use Rattle.em_view.proofs.Performing.{Continues}
use Rattle.em_word.specs.Ends.{is_want}
use Rattle.em_word.specs.Turns.{names_of_each}
use Rattle.em_word.proofs.names.names_of_each.Given as goal

abbrev pub invariant-loop-field : goal.invariant-loop-field
invariant-loop-field g l = Continues is_want g.V.View.tells l.initial.desk l.desk
    (names_of_each l.cwd [] l.fields) (names_of_each l.cwd l.all (drop l.field-index l.fields))
