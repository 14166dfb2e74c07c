use Rattle.std.proofs.Common.{◌≡◌, ◌++◌, ◌+◌, ◌<◌, ◌^◌, length}
use Rattle.std.specs.List.{flat_map}
use Rattle.bstr.specs.Text.{lines_of}
use Rattle.em_lineutil.specs.Runs.{shown_run, runs_from, runs}
use Rattle.em_lineutil.proofs.uniq.uniq_text.Given as goal

-- what is written with what the present run and the lines behind it give is the whole
abbrev pub invariant-loop-line : goal.invariant-loop-line
invariant-loop-line l =
    (l.out ++ flat_map (shown_run l.counted) (runs_from l.first l.count l.line-iterator) ≡ flat_map (shown_run l.counted) (runs (lines_of l.fn.text)))
    × (l.count + length l.line-iterator < 2 ^ 64)
