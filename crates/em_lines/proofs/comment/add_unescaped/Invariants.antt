use Rattle.std.proofs.Common.{◌≡◌, ◌++◌, drop}
use Rattle.em_lines.specs.Comments.{unescaped}
use Rattle.em_lines.proofs.comment.add_unescaped.Given as goal

-- what comes of the rest put behind what is done is the whole
abbrev pub invariant-loop-at : goal.invariant-loop-at
invariant-loop-at l = l.initial.text ++ unescaped l.plain ≡ l.text ++ unescaped (drop l.at l.plain)
