-- What each byte does, by what the bytes before it have begun.
use Rattle.std.specs.Prelude.{ℕ, ◌==◌, ◌&&◌, ◌||◌, Bool, List, [], ◌∷◌, length, Option, Some, None, if◌then◌else◌}
use Rattle.em_base.specs.Blanks.{is_blank}
use Rattle.em_base.specs.declared.construct.Construct.{Construct}
use Rattle.em_base.specs.declared.construct.Construct.TheVariants.{Arithmetic, Positional}
use Rattle.em_lexeme.specs.declared.lexeme.What.{What}
use Rattle.em_lexeme.specs.declared.lexeme.What.TheVariants.{Newline, Bytes, ArgumentEnd, WordEnd}
use Rattle.em_lex.specs.declared.state.Byte.{Byte}
use Rattle.em_lexeme.specs.declared.frame.Frame.{Frame}
use Rattle.em_lexeme.specs.declared.frame.Frame.TheVariants.{Single, Double, Backquotes}
use Rattle.em_lex.specs.declared.state.Lexer.{Lexer}
use Rattle.em_lexeme.specs.declared.spot.Spot.TheVariants.{Operand}
use Rattle.em_lex.specs.declared.state.Mode.{Mode}
use Rattle.em_lex.specs.declared.state.Mode.TheVariants.{Ready, Comment, Operating, Head, Gathering, Dollar, Naming, Opened, Brace, Status, Length, Parameter, Colon, Trim}
use Rattle.em_lexeme.specs.Bytes.{acts, begins_name, is_in_name, begins_operator, ends_word, is_special, takes_word}
use Rattle.em_lexeme.specs.Frames.{is_list, is_quoting, is_word, is_quoted, is_single, is_double, is_ordinary}
use Rattle.em_lex.specs.Steps.{emitted, refused, top, pushed, popped, begun, turned, gathered, spent}
use Rattle.em_lexeme.specs.Operators.{pair, refused_pair, single}
use Rattle.em_lexeme.specs.Spots.{spot_behind}
use Rattle.em_lex.specs.Brackets.{operated, round_opened, round_closed}
use Rattle.em_lex.specs.Heads.{told, fronted, entered}
use Rattle.em_lex.specs.Values.{valued, with_word, with_pattern, spoiled, positional, substituted}

-- a newline outside of words
abbrev pub broken : Lexer → Byte → Lexer
broken s b = record (emitted s b.at b.end Newline) { spot = spot_behind Newline (top s) s.spot b.at }

-- in a list, outside of words. The quotes, `$` and the backquote that begin a word come to
-- `special`.
unfoldable pub between : Lexer → Byte → Lexer
between s b =
    if is_blank b.code then s
    else if b.code == 10 then broken s b
    else if b.code == 35 then turned Comment s
    else if b.code == 40 then round_opened s b
    else if b.code == 41 then round_closed s b
    else if begins_operator b.code then begun (Operating b.code) b.at s
    else gathered (begun Head b.at s) b.code

-- a quote or a backquote opens
abbrev pub quote_opened : Frame → Byte → Lexer → Lexer
quote_opened f b s = pushed f (begun Gathering b.at s)

-- within a word, a byte that doesn't stand for itself: a quote, `$`, a backquote, or the `}` of an
-- argument
unfoldable pub special : Lexer → Byte → Lexer
special s b =
    if b.code == 39 then (if is_single (top s) then popped s else quote_opened (Single b.at) b s)
    else if b.code == 34 then (if is_double (top s) then popped s else quote_opened (Double b.at) b s)
    else if b.code == 36 then begun Dollar b.at s
    else if b.code == 96 then quote_opened (Backquotes b.at (is_quoting (top s))) b s
    else popped (emitted s b.at b.end ArgumentEnd)

-- the word ends at `at`
abbrev pub left : Lexer → ℕ → Lexer
left s at = popped (emitted s at at WordEnd)

-- where nothing is begun
abbrev pub listed : Lexer → Byte → Lexer
listed s b = if acts b.code then special (entered s b.at) b else between s b

unfoldable pub ready : Lexer → Byte → Lexer
ready s b =
    if is_list (top s) then listed s b
    else if is_ordinary (top s) b.code then gathered (begun Gathering b.at s) b.code
    else if is_word (top s) && ends_word b.code then between (left s b.at) b
    else special s b

-- bytes that stand for themselves
abbrev pub pieced : Lexer → List ℕ → ℕ → Lexer
pieced s text to = spent (emitted s s.start to (Bytes (is_quoted (top s)) text))

abbrev pub settled_length : Lexer → ℕ → Lexer
settled_length s at = if length s.text == 0 then positional s else spoiled s at

-- what is begun ends at `at`. At the end of the text a word does as before a newline.
abbrev pub settled_in : Mode → Lexer → ℕ → Lexer
settled_in Ready s at = s
settled_in Comment s at = turned Ready s
settled_in (Operating a) s at = operated s (single a) at
settled_in Head s at = told s 10 at
settled_in Gathering s at = pieced s s.text at
settled_in Dollar s at = pieced s (36 ∷ []) at
settled_in Naming s at = valued s [] at
settled_in Opened s at = turned Ready s
settled_in Length s at = settled_length s at
settled_in (Trim a) s at = with_pattern s (a ∷ []) at
settled_in _ s at = spoiled s at

unfoldable pub settled : Lexer → ℕ → Lexer
settled s at = settled_in s.mode s at

-- behind the first byte a of an operator. One that is refused stands as its first byte would.
abbrev pub refused_or : Option Construct → ℕ → Lexer → Byte → Lexer
refused_or (Some construct) a s b = record (spent (emitted (refused s construct s.start) s.start b.end (single a))) { spot = Operand }
refused_or None a s b = ready (operated s (single a) b.at) b

abbrev pub paired_or : Option What → ℕ → Lexer → Byte → Lexer
paired_or (Some what) a s b = operated s what b.end
paired_or None a s b = refused_or (refused_pair a b.code) a s b

unfoldable pub operating : ℕ → Lexer → Byte → Lexer
operating a s b = paired_or (pair a b.code) a s b

-- unquoted bytes at a word's begin
unfoldable pub heading : Lexer → Byte → Lexer
heading s b =
    if ends_word b.code then between (told s b.code b.at) b
    else if acts b.code then special (fronted s b.at) b
    else gathered s b.code

-- no bytes are a piece only between quotes
abbrev pub is_none_yet : Lexer → ℕ → Bool
is_none_yet s b = (length s.text == 0) && ((b == 36) || (b == 96))

abbrev pub pieced_before : Lexer → Byte → Lexer
pieced_before s b = if is_none_yet s b.code then turned Ready s else pieced s s.text b.at

-- bytes that stand for themselves, within a word
unfoldable pub gathering : Lexer → Byte → Lexer
gathering s b =
    if is_ordinary (top s) b.code then gathered s b.code
    else ready (pieced_before s b) b

-- behind `$`: before any other byte it stands for itself
unfoldable pub dollar : Lexer → Byte → Lexer
dollar s b =
    if b.code == 40 then substituted s b.end
    else if b.code == 123 then turned Brace s
    else if begins_name b.code then gathered (turned Naming s) b.code
    else if b.code == 63 then valued s (63 ∷ []) b.end
    else if is_special b.code then spent (refused s Positional s.start)
    else gathering (gathered (turned Gathering s) 36) b

-- in `$name`, whose name is as long as can be
unfoldable pub naming : Lexer → Byte → Lexer
naming s b = if is_in_name b.code then gathered s b.code else ready (valued s [] b.at) b

-- behind `$(`
unfoldable pub behind_opened : Lexer → Byte → Lexer
behind_opened s b = ready (turned Ready (if b.code == 40 then refused s Arithmetic s.start else s)) b

-- a byte that can't stand in the `${` before it
abbrev pub spoiled_at : Lexer → Byte → Lexer
spoiled_at s b = ready (spoiled s b.at) b

-- behind `${`
unfoldable pub brace : Lexer → Byte → Lexer
brace s b =
    if begins_name b.code then gathered (turned Parameter s) b.code
    else if b.code == 35 then turned Length s
    else if b.code == 63 then turned Status s
    else if is_special b.code then positional s
    else spoiled_at s b

-- behind `${?`
unfoldable pub status : Lexer → Byte → Lexer
status s b = if b.code == 125 then valued s (63 ∷ []) b.end else spoiled_at s b

-- behind `${#`, and a name where some of it is read
abbrev pub first_of_length : Lexer → Byte → Lexer
first_of_length s b = if begins_name b.code then gathered s b.code else ready (positional s) b

abbrev pub more_of_length : Lexer → Byte → Lexer
more_of_length s b =
    if is_in_name b.code then gathered s b.code
    else if b.code == 125 then valued s (35 ∷ []) b.end
    else spoiled_at s b

unfoldable pub in_length : Lexer → Byte → Lexer
in_length s b = if length s.text == 0 then first_of_length s b else more_of_length s b

-- in `${name`
unfoldable pub parameter : Lexer → Byte → Lexer
parameter s b =
    if is_in_name b.code then gathered s b.code
    else if b.code == 125 then valued s [] b.end
    else if takes_word b.code then with_word s (b.code ∷ []) b.end
    else if b.code == 58 then turned Colon s
    else if (b.code == 37) || (b.code == 35) then turned (Trim b.code) s
    else spoiled_at s b

-- behind `${name:`
unfoldable pub colon : Lexer → Byte → Lexer
colon s b = if takes_word b.code then with_word s (58 ∷ b.code ∷ []) b.end else spoiled_at s b

-- behind `${name%` or `${name#`
unfoldable pub trim : ℕ → Lexer → Byte → Lexer
trim a s b = if b.code == a then with_pattern s (a ∷ a ∷ []) b.end else ready (with_pattern s (a ∷ []) b.at) b

-- in a comment, which goes to the newline
unfoldable pub comment : Lexer → Byte → Lexer
comment s b = if b.code == 10 then ready (turned Ready s) b else s

abbrev pub by_mode : Mode → Lexer → Byte → Lexer
by_mode Ready s b = ready s b
by_mode Comment s b = comment s b
by_mode (Operating a) s b = operating a s b
by_mode Head s b = heading s b
by_mode Gathering s b = gathering s b
by_mode Dollar s b = dollar s b
by_mode Naming s b = naming s b
by_mode Opened s b = behind_opened s b
by_mode Brace s b = brace s b
by_mode Status s b = status s b
by_mode Length s b = in_length s b
by_mode Parameter s b = parameter s b
by_mode Colon s b = colon s b
by_mode (Trim a) s b = trim a s b
