use Rattle.std.proofs.Common.{drop, []}
use Rattle.em_view.specs.Ends.{is_want}
use Rattle.em_view.proofs.Performing.{Continues}
use Rattle.em_textutil.specs.Sources.{sources}
use Rattle.em_textutil.proofs.gather.sources.Given as goal

abbrev pub invariant-loop-name : goal.invariant-loop-name
invariant-loop-name g l = Continues is_want g.V.View.tells l.initial.desk l.desk (sources l.cwd l.dashed l.input [] l.names) (sources l.cwd l.dashed l.input l.all (drop l.name-index l.names))
