-- Values: what begins with `$`.
use Rattle.std.specs.Prelude.{ℕ, Bool, false, List}
use Rattle.em_base.specs.declared.construct.Construct.TheVariants.{Positional}
use Rattle.em_lexeme.specs.declared.lexeme.What.TheVariants.{Value, ArgumentStart, BadValue, SubstitutionStart}
use Rattle.em_lexeme.specs.declared.frame.Frame.TheVariants.{Argument, Substitution}
use Rattle.em_lex.specs.declared.state.Lexer.{Lexer}
use Rattle.em_lex.specs.declared.state.Mode.TheVariants.{Opened}
use Rattle.em_lexeme.specs.declared.spot.Spot.TheVariants.{Command}
use Rattle.em_lexeme.specs.Frames.{is_quoted, is_quoting}
use Rattle.em_lex.specs.Steps.{emitted, refused, top, pushed, spent}

-- the value of the name that was gathered, with this form
unfoldable pub valued : Lexer → List ℕ → ℕ → Lexer
valued s form to = spent (emitted s s.start to (Value (is_quoted (top s)) s.text form))

-- the argument of a value that began where the state says; it is read as in double quotes or not
abbrev pub in_argument : Bool → Lexer → Lexer
in_argument quoted s = pushed (Argument s.start quoted) (spent s)

-- a value with an argument, up to it
abbrev pub with_start : Lexer → List ℕ → ℕ → Lexer
with_start s form to = spent (emitted s s.start to (ArgumentStart (is_quoted (top s)) s.text form))

-- `${name-`: in double quotes the word is read as there
unfoldable pub with_word : Lexer → List ℕ → ℕ → Lexer
with_word s form to = in_argument (is_quoting (top s)) (with_start s form to)

-- `${name%`: the pattern is read as outside quotes
unfoldable pub with_pattern : Lexer → List ℕ → ℕ → Lexer
with_pattern s form to = in_argument false (with_start s form to)

-- `${` that no value begins with; the rest up to its `}` is read like an argument
unfoldable pub spoiled : Lexer → ℕ → Lexer
spoiled s to = in_argument (is_quoting (top s)) (emitted s s.start to BadValue)

-- `${` and a parameter that isn't supported
unfoldable pub positional : Lexer → Lexer
positional s = in_argument (is_quoting (top s)) (refused s Positional s.start)

-- `$(`: a list, in which a command may begin
unfoldable pub substituted : Lexer → ℕ → Lexer
substituted s to =
    record (pushed (Substitution s.start s.spot) (emitted s s.start to (SubstitutionStart (is_quoted (top s))))) { mode = Opened; spot = Command }
