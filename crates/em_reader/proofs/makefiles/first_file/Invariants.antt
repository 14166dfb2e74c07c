use Rattle.std.proofs.Common.{drop, map}
use Rattle.em_view.proofs.Doing.{Goes}
use Rattle.em_reading.specs.Faults.{is_free}
use Rattle.em_reader.specs.Makefiles.{first_file}
use Rattle.em_reader.proofs.makefiles.first_file.Given as goal

abbrev pub invariant-loop-name : goal.invariant-loop-name
invariant-loop-name g l = Goes is_free g.V.View.tells l.initial.desk l.desk l.initial.reading l.reading (first_file (map (λ n. n.now) l.names)) (first_file (map (λ n. n.now) (drop l.name-index l.names)))
