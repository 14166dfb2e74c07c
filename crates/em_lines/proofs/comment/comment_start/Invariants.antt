use Rattle.std.proofs.Common.{◌≡◌, ◌+◌, drop}
use Rattle.em_lines.specs.Comments.{comment_start, comment_behind}
use Rattle.em_lines.proofs.comment.comment_start.Given as goal

abbrev pub invariant-loop-at : goal.invariant-loop-at
invariant-loop-at l = comment_start l.plain ≡ l.at + comment_behind l.backslash (drop l.at l.plain)
