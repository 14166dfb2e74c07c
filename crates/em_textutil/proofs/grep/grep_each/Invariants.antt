use Rattle.std.proofs.Common.{◌≡◌, ◌||◌, drop}
use Rattle.em_textutil.specs.Jobs.{grep_each, some_line}
use Rattle.em_textutil.proofs.grep.grep_each.Given as goal

abbrev pub invariant-loop-source : goal.invariant-loop-source
invariant-loop-source l =
    (grep_each l.grep (drop l.source-index l.sources) l.done ≡ grep_each l.grep l.sources l.fn.done)
    × ((l.some || some_line l.grep (drop l.source-index l.sources)) ≡ some_line l.grep l.sources)
