use Rattle.std.proofs.Common.{◌≡◌, ◌≤◌, length, option_copied}
use Rattle.em_lines.specs.Joining.{grouped, joined_text}
use Rattle.em_lines.specs.Lines.{lines_from, lines_by}
use Rattle.em_lines.specs.First.{rows_in}
use Rattle.em_lines.proofs.Numbered.{after}
use Rattle.em_lines.proofs.read.joined.Given as goal

-- the lines so far, and those of the rest behind them
abbrev pub invariant-loop-rest : goal.invariant-loop-rest
invariant-loop-rest l = record {
  all : lines_by joined_text l.file l.bytes ≡ after l.lines (lines_from joined_text l.file l.number (grouped (rows_in (option_copied l.rest))));
  few : l.number ≤ 4294967295;
}

abbrev pub decreases-loop-rest : goal.decreases-loop-rest
decreases-loop-rest l = length (rows_in (option_copied l.rest))
