use Rattle.std.proofs.Common.{[], drop}
use Rattle.em_view.proofs.Doing.{Goes}
use Rattle.em_reading.specs.Faults.{is_free}
use Rattle.em_reader.specs.Acting.{matched}
use Rattle.em_reader.proofs.act.matched.Given as goal

abbrev pub invariant-loop-word : goal.invariant-loop-word
invariant-loop-word g l = Goes is_free g.V.View.tells l.initial.desk l.desk l.initial.reading l.reading (matched l.place [] l.words) (matched l.place l.all (drop l.word-index l.words))
