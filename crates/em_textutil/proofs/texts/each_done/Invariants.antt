use Rattle.std.proofs.Common.{◌≡◌, drop}
use Rattle.em_utility.specs.Writing.{nothing}
use Rattle.em_textutil.specs.Jobs.{each_done}
use Rattle.em_textutil.proofs.texts.each_done.Given as goal

abbrev pub invariant-loop-source : goal.invariant-loop-source
invariant-loop-source l = each_done l.utility l.filter (drop l.source-index l.sources) l.done ≡ each_done l.utility l.filter l.sources nothing
