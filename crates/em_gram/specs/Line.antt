-- A whole line: which tree it has, and what its fault is.
use Rattle.std.specs.Prelude.{◌≡◌, ◌⊎◌, ℕ, suc, ◌-◌, ◌==◌, Bool, true, false, cond, ◌&&◌, List, [], ◌∷◌, ◌++◌, length, slice_get, Option, Some, None}
use Rattle.em_base.specs.declared.construct.Construct.{Construct}
use Rattle.em_base.specs.declared.construct.Construct.TheVariants.{Background, Function, Positional, Depth}
use Rattle.em_grammar.specs.Production.{Is, IsWith, Ending, opens, depth, ◌⨾◌}
use Rattle.em_grammar.specs.Faults.{IsFirstFault}
use Rattle.em_grammar.specs.Gives.{Spells}
use Rattle.em_lexeme.specs.declared.lexeme.Lexeme.{Lexeme}
use Rattle.em_lexeme.specs.declared.lexeme.Lexed.{Lexed}
use Rattle.em_lexeme.specs.declared.lexeme.What.{What}
use Rattle.em_lexeme.specs.declared.no.LexNo.{LexNo}
use Rattle.em_token.specs.Kinds.{class_of, kinds, whats}
use Rattle.em_token.specs.Shell.{shell, list, line, newlines, background, function, positional}
use Rattle.em_gram.specs.Patterns.{body_pattern}
use Rattle.em_token.specs.declared.kind.Kind.TheVariants.{RightParen}
use Rattle.em_syntax.specs.declared.tree.Script.{Script}
use Rattle.em_gram.specs.declared.no.GramNo.{GramNo}

-- the lines of the grammar, in which 64 compound commands and substitutions may be open at once
abbrev pub IsLine : List What → Type 0
IsLine whats = Is class_of list 64 line whats

-- the tree is that of the lexemes: they are a line, and spell it
pub record IsScript (lexed : Lexed) (script : Script) : Type 0 where
  pub read : lexed.stop ≡ None
  pub line_is : IsLine (whats lexed.items)
  pub spells : Spells shell (newlines ⨾ body_pattern script) (whats lexed.items) []

-- A line that is a line of the grammar but for a construct with which it ends. `name (` is a
-- function where `)` follows.
abbrev pub is_function : List What → Bool
is_function [] = false
is_function (t ∷ ts) = opens class_of ts (kinds (RightParen ∷ []))

abbrev pub may_be : ℕ → List What → Bool
may_be c ts = cond (c == function) (is_function ts) true

abbrev pub ends_with : ℕ → Ending What
ends_with construct c ts = (c == construct) && may_be c ts

abbrev pub IsUpTo : ℕ → List What → Type 0
IsUpTo construct whats = IsWith class_of (ends_with construct) list 64 line whats

-- a function's name is one word of three lexemes before its `(`, and `for` two words before what
-- stands in place of `in`
abbrev pub steps_back : ℕ → ℕ
steps_back c = cond (c == function) 3 (cond (c == positional) 6 0)

-- where the lexeme of this number begins, or the line's length
abbrev pub place_at : List Lexeme → ℕ → ℕ → ℕ
place_at items n len = start_of (slice_get items n)
  where
    start_of : Option Lexeme → ℕ
    start_of None = len
    start_of (Some l) = l.span.start

-- the grammar's first fault stands at `at`, but for so many lexemes
pub record FirstFault (lexed : Lexed) (len back at : ℕ) : Type 0 where
  pub rest : List What
  pub first : IsFirstFault IsLine (whats lexed.items) rest
  -- a fault of the lexer comes before an end that comes too soon
  pub counts : rest ≡ [] → lexed.stop ≡ None
  pub place : at ≡ place_at lexed.items (length first.before - back) len

-- some line goes on from these lexemes
abbrev pub GoesOn : List Lexeme → Type 0
GoesOn items = (more : List What) × IsLine (whats items ++ more)

abbrev pub lexed_of : List Lexeme → Option LexNo → Lexed
lexed_of items stop = record { items = items; stop = stop }

-- the lexemes can go on, and the lexer's fault is this one
pub record StopIs (lexed : Lexed) (no : LexNo) : Type 0 where
  pub goes_on : GoesOn lexed.items
  pub stop : lexed.stop ≡ Some no

-- the number of a construct that the grammar refuses
abbrev pub number_of : Construct → Option ℕ
number_of Depth = Some depth
number_of Background = Some background
number_of Function = Some function
number_of Positional = Some positional
number_of _ = None

pub record RefusedHere (lexed : Lexed) (len c at : ℕ) : Type 0 where
  pub first : FirstFault lexed len (steps_back c) at
  pub up_to : IsUpTo c (whats lexed.items)

abbrev pub RefusedBy : Lexed → ℕ → Option ℕ → ℕ → Type 0
RefusedBy lexed len None at = ⊥
RefusedBy lexed len (Some c) at = RefusedHere lexed len c at

pub record UnexpectedAt (lexed : Lexed) (len at : ℕ) : Type 0 where
  pub first : FirstFault lexed len 0 at
  -- it is none of the constructs
  pub none : (c : ℕ) → IsUpTo (suc c) (whats lexed.items) → ⊥

-- the leftmost fault of a line of this length
abbrev pub IsFault : Lexed → ℕ → GramNo → Type 0
IsFault lexed len (GramNo.Unexpected at) = UnexpectedAt lexed len at
IsFault lexed len (GramNo.Unclosed at) = StopIs lexed (LexNo.Unclosed at)
IsFault lexed len (GramNo.Refused construct at) = StopIs lexed (LexNo.Refused construct at) ⊎ RefusedBy lexed len (number_of construct) at
IsFault lexed len GramNo.NoMemory = Unit {0}
