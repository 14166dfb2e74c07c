-- Operators and brackets, as they are put.
use Rattle.std.specs.Prelude.{ℕ, ◌-◌, length, slice_get, Option, Some, None, if◌then◌else◌}
use Rattle.em_base.specs.declared.construct.Construct.TheVariants.{Descriptor}
use Rattle.em_lex.specs.Steps.{emitted, refused, top, pushed, popped, spent}
use Rattle.em_lex.specs.declared.state.Byte.{Byte}
use Rattle.em_lex.specs.declared.state.Lexer.{Lexer}
use Rattle.em_lexeme.specs.Frames.{without_cases}
use Rattle.em_lexeme.specs.declared.frame.Frame.TheVariants.{Round, Substitution}
use Rattle.em_lexeme.specs.declared.frame.Frame.{Frame}
use Rattle.em_lexeme.specs.declared.lexeme.What.TheVariants.{LeftParen, RightParen, GreatAnd, SubstitutionEnd}
use Rattle.em_lexeme.specs.declared.lexeme.What.{What}
use Rattle.em_lexeme.specs.declared.spot.Spot.TheVariants.{Command, Closed, Pattern}
use Rattle.em_lexeme.specs.Operators.{zero_at}
use Rattle.em_lexeme.specs.Spots.{is_item, is_pattern, spot_behind}

abbrev pub refused_zero : Option ℕ → Lexer → Lexer
refused_zero None s = s
refused_zero (Some at) s = refused s Descriptor at

-- `0>&` is refused: the last lexeme is the descriptor
abbrev pub without_zero : What → Lexer → Lexer
without_zero GreatAnd s = refused_zero (zero_at (slice_get s.items (length s.items - 1))) s
without_zero _ s = s

-- an operator, which began where the state says and ends at `to`
unfoldable pub operated : Lexer → What → ℕ → Lexer
operated s what to = let t = without_zero what s in
    spent (record (emitted t t.start to what) { spot = spot_behind what (top t) t.spot t.start })

-- `(`, which before patterns opens nothing
unfoldable pub round_opened : Lexer → Byte → Lexer
round_opened s b =
    if is_item s.spot then record (emitted s b.at b.end LeftParen) { spot = Pattern }
    else record (pushed Round (emitted s b.at b.end LeftParen)) { spot = Command }

-- the innermost bracket is closed: that of a substitution, that of commands, or none
abbrev pub closed_by : Option Frame → Lexer → Byte → Lexer
closed_by (Some (Substitution at spot)) s b = record (popped (emitted s b.at b.end SubstitutionEnd)) { spot = spot }
closed_by (Some Round) s b = record (popped (emitted s b.at b.end RightParen)) { spot = Closed }
closed_by _ s b = record (emitted s b.at b.end RightParen) { spot = Command }

-- `)`, which ends the patterns of an item, or else the list in the innermost bracket with what of
-- it is still open
unfoldable pub round_closed : Lexer → Byte → Lexer
round_closed s b =
    if is_pattern s.spot then record (emitted s b.at b.end RightParen) { spot = Command }
    else let t = record s { frames = without_cases s.frames } in closed_by (top t) t b
