-- The small changes of which reading consists.
use Rattle.std.specs.Prelude.{ℕ, [], ◌∷◌, ◌++◌, drop, slice_get, Option, Some, None}
use Rattle.em_base.specs.declared.construct.Construct.{Construct}
use Rattle.em_lexeme.specs.declared.lexeme.Lexeme.{Lexeme}
use Rattle.em_lexeme.specs.declared.lexeme.What.{What}
use Rattle.em_lexeme.specs.declared.no.LexNo.{LexNo}
use Rattle.em_lexeme.specs.declared.no.LexNo.TheVariants.{Refused}
use Rattle.em_lexeme.specs.declared.frame.Frame.{Frame}
use Rattle.em_lex.specs.declared.state.Mode.{Mode}
use Rattle.em_lex.specs.declared.state.Mode.TheVariants.{Ready}
use Rattle.em_lex.specs.declared.state.Lexer.{Lexer}

-- a lexeme of the bytes from one place up to another
abbrev pub lexeme : ℕ → ℕ → What → Lexeme
lexeme from to what = record { span = record { start = from; end = to }; what = what }

abbrev pub emitted : Lexer → ℕ → ℕ → What → Lexer
emitted s from to what = record s { items = s.items ++ lexeme from to what ∷ [] }

-- the first fault counts
abbrev pub first_fault : Option LexNo → LexNo → Option LexNo
first_fault None fault = Some fault
first_fault (Some fault) later = Some fault

abbrev pub refused : Lexer → Construct → ℕ → Lexer
refused s construct at = record s { fault = first_fault s.fault (Refused construct at) }

-- the innermost of what is open
abbrev pub top : Lexer → Option Frame
top s = slice_get s.frames 0

abbrev pub pushed : Frame → Lexer → Lexer
pushed f s = record s { frames = f ∷ s.frames }

abbrev pub popped : Lexer → Lexer
popped s = record s { frames = drop 1 s.frames; mode = Ready }

abbrev pub begun : Mode → ℕ → Lexer → Lexer
begun mode at s = record s { mode = mode; start = at; text = [] }

abbrev pub turned : Mode → Lexer → Lexer
turned mode s = record s { mode = mode }

abbrev pub gathered : Lexer → ℕ → Lexer
gathered s b = record s { text = s.text ++ b ∷ [] }

-- what was gathered became a lexeme
abbrev pub spent : Lexer → Lexer
spent s = record s { mode = Ready; text = [] }
