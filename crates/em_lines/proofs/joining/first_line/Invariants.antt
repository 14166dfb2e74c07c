use Rattle.std.proofs.Common.{◌≡◌, ◌+◌, ◌≤◌, min, length, option_copied}
use Rattle.em_lines.specs.Joining.{rows, joined_text}
use Rattle.em_lines.specs.First.{rows_in, joined_to, left_by, first_group, behind_first}
use Rattle.em_lines.proofs.Rows.{continued}
use Rattle.em_lines.proofs.joining.first_line.Given as goal

-- what the rest adds to what is done is the whole
abbrev pub invariant-loop-rest : goal.invariant-loop-rest
invariant-loop-rest l = record {
  text : joined_text (first_group (rows l.bytes)) ≡ continued l.tab l.text.items (joined_to l.text.items (rows_in (option_copied l.rest)));
  rest : behind_first (rows l.bytes) ≡ left_by l.text.items (rows_in (option_copied l.rest));
  count : min (length (first_group (rows l.bytes))) 4294967295 ≡ min (l.rows + length (joined_to l.text.items (rows_in (option_copied l.rest)))) 4294967295;
  few : l.rows ≤ 4294967295;
}

abbrev pub decreases-loop-rest : goal.decreases-loop-rest
decreases-loop-rest l = length (rows_in (option_copied l.rest))
