use Rattle.std.proofs.Common.{◌≡◌, drop}
use Rattle.em_utility.specs.Writing.{nothing}
use Rattle.em_textutil.specs.Jobs.{faults_done}
use Rattle.em_textutil.proofs.texts.faults_done.Given as goal

abbrev pub invariant-loop-source : goal.invariant-loop-source
invariant-loop-source l = faults_done l.utility (drop l.source-index l.sources) l.done ≡ faults_done l.utility l.sources nothing
