use Rattle.std.proofs.Common.{◌≡◌, length}
use Rattle.em_lexeme.specs.Frames.{without_cases}
use Rattle.em_lex.proofs.state.Lexer.drop_cases.Given as goal

-- only the frames change, and what they are without each `case` stays
abbrev pub invariant-loop-self : goal.invariant-loop-self
invariant-loop-self l = record l.initial.self { frames = without_cases l.initial.self.frames } ≡ record l.self { frames = without_cases l.self.frames }

abbrev pub decreases-loop-self : goal.decreases-loop-self
decreases-loop-self l = length l.self.frames
