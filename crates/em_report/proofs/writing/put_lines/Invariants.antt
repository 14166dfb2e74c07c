use Rattle.std.proofs.Common.{◌≡◌, ◌++◌, drop}
use Rattle.std.specs.List.{flat_map}
use Rattle.em_report.specs.Reports.{line_text}
use Rattle.em_report.proofs.writing.put_lines.Given as goal

-- what is written and what is left make the whole
abbrev pub invariant-loop-line : goal.invariant-loop-line
invariant-loop-line l = l.out ++ flat_map line_text (drop l.line-index l.lines) ≡ l.fn.out ++ flat_map line_text l.lines
