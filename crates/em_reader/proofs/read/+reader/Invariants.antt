use Rattle.std.proofs.Common.{◌+◌, ◌-◌, ◌*◌, drop}
use Rattle.em_view.proofs.Doing.{Goes}
use Rattle.em_reading.specs.Faults.{is_free}
use Rattle.em_reader.specs.Reading.{read_text, read_lines, read_evals, include_all}
use Rattle.em_reader.proofs.read.+reader.Given as goal

abbrev pub decreases-read_text : goal.decreases-read_text
decreases-read_text g l = 16 * l.left

abbrev pub decreases-read_line : goal.decreases-read_line
decreases-read_line g l = 16 * l.left + 12

abbrev pub decreases-in_body : goal.decreases-in_body
decreases-in_body g l = 16 * l.left + 11

abbrev pub decreases-by_statement : goal.decreases-by_statement
decreases-by_statement g l = 16 * l.left + 11

abbrev pub decreases-if_line : goal.decreases-if_line
decreases-if_line g l = 16 * l.left + 10

abbrev pub decreases-else_if_line : goal.decreases-else_if_line
decreases-else_if_line g l = 16 * l.left + 10

abbrev pub decreases-active_line : goal.decreases-active_line
decreases-active_line g l = 16 * l.left + 10

abbrev pub decreases-statement_line : goal.decreases-statement_line
decreases-statement_line g l = 16 * l.left + 9

abbrev pub decreases-evaluated : goal.decreases-evaluated
decreases-evaluated g l = 16 * l.left + 4

abbrev pub decreases-read_evals : goal.decreases-read_evals
decreases-read_evals g l = 16 * l.left + 3

abbrev pub decreases-include_heard : goal.decreases-include_heard
decreases-include_heard g l = 16 * l.left + 4

abbrev pub decreases-include_all : goal.decreases-include_all
decreases-include_all g l = 16 * l.left + 3

abbrev pub decreases-include_one : goal.decreases-include_one
decreases-include_one g l = 16 * l.left + 2

abbrev pub invariant-read_text-loop-line : goal.invariant-read_text-loop-line
invariant-read_text-loop-line g l = Goes is_free g.V.View.tells l.initial.desk l.desk l.initial.reading l.reading
    (read_lines (read_text (l.left - 1)) l.lines.too_long l.lines.lines) (read_lines (read_text (l.left - 1)) l.lines.too_long (drop l.line-index l.line-items))

abbrev pub invariant-read_evals-loop-text : goal.invariant-read_evals-loop-text
invariant-read_evals-loop-text g l = Goes is_free g.V.View.tells l.initial.desk l.desk l.initial.reading l.reading
    (read_evals (read_text l.left) l.place l.texts) (read_evals (read_text l.left) l.place (drop l.text-index l.texts))

abbrev pub invariant-include_all-loop-name : goal.invariant-include_all-loop-name
invariant-include_all-loop-name g l = Goes is_free g.V.View.tells l.initial.desk l.desk l.initial.reading l.reading
    (include_all (read_text l.left) l.required l.place l.names) (include_all (read_text l.left) l.required l.place (drop l.name-index l.names))
