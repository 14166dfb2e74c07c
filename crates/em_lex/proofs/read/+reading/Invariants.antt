use Rattle.std.proofs.Common.{◌≡◌, ◌+◌, ◌*◌, drop}
use Rattle.em_lex.specs.Lexing.{run, lexed_in}
use Rattle.em_lex.proofs.read.+reading.Given as goal

-- what the rest makes of what is read is the whole
abbrev pub invariant-read_bytes-loop-at : goal.invariant-read_bytes-loop-at
invariant-read_bytes-loop-at l = run (lexed_in l.left) l.initial.lexer 0 l.text ≡ run (lexed_in l.left) l.lexer l.at (drop l.at l.text)

abbrev pub decreases-read : goal.decreases-read
decreases-read l = 2 * l.left

abbrev pub decreases-read_bytes : goal.decreases-read_bytes
decreases-read_bytes l = 2 * l.left + 1
