-- Operators, and places between lexemes.
--     IsBetween s             a place of a list, outside of words: nothing is begun there, and no backslash stands before it
--     from_there within s at rest      what a line comes to whose rest, which begins at this place, is read from there
--     spelling what           the bytes of an operator; `)` may be more than one, and isn't told of here
--     IsLongest op rest       no operator that stands there, also of those that are refused, is longer
--     Reads ..                the lexeme is read, and the rest from behind it, where again nothing is begun
use Rattle.std.specs.Prelude.{◌≡◌, ◌≤◌, ℕ, ◌+◌, All, false, true, List, [], ◌∷◌, ◌++◌, length, codes, Option, Some, None}
use Rattle.em_lexeme.specs.declared.lexeme.Lexed.{Lexed}
use Rattle.em_lexeme.specs.declared.lexeme.What.{What}
use Rattle.em_lexeme.specs.declared.lexeme.What.TheVariants.{Semicolon, CaseEnd, Ampersand, AndIf, OrIf, Pipe, LeftParen, Less, Great, DoubleGreat, GreatAnd}
use Rattle.em_lexeme.specs.Frames.{is_list}
use Rattle.em_lex.specs.Steps.{lexeme, top}
use Rattle.em_lex.specs.Lexing.{run, at_first, finished, outcome}

abbrev TypeOf : {X : Type 0} → X → Type 0
TypeOf {X} x = X

-- how far a line is read
abbrev pub State : Type 0
State = TypeOf at_first

abbrev pub IsBetween : State → Type 0
IsBetween s = (s.mode ≡ at_first.mode) × (s.backslash ≡ false) × (is_list (top s) ≡ true)

-- `within` is how what stands in backquotes is read
abbrev pub from_there : (List ℕ → Lexed) → State → ℕ → List ℕ → Lexed
from_there within s at rest = outcome (finished (run within s at rest) (at + length rest))

abbrev pub spelling : What → Option (List ℕ)
spelling Semicolon = Some (codes ";")
spelling CaseEnd = Some (codes ";;")
spelling Ampersand = Some (codes "&")
spelling AndIf = Some (codes "&&")
spelling Pipe = Some (codes "|")
spelling OrIf = Some (codes "||")
spelling LeftParen = Some (codes "(")
spelling Less = Some (codes "<")
spelling Great = Some (codes ">")
spelling DoubleGreat = Some (codes ">>")
spelling GreatAnd = Some (codes ">&")
spelling _ = None

-- the operators of more than one byte; the last four are refused
abbrev pub longer : List (List ℕ)
longer = codes ";;" ∷ codes "&&" ∷ codes "||" ∷ codes ">>" ∷ codes ">&" ∷ codes "<<" ∷ codes "<&" ∷ codes "<>" ∷ codes ">|" ∷ []

abbrev pub Starts : List ℕ → List ℕ → Type 0
Starts op text = (rest : List ℕ) × (text ≡ op ++ rest)

abbrev pub IsLongest : List ℕ → List ℕ → Type 0
IsLongest op rest = All (λ other. Starts other (op ++ rest) → length other ≤ length op) longer

pub record Reads (within : List ℕ → Lexed) (s : State) (at : ℕ) (what : What) (size : ℕ) (text rest : List ℕ) : Type 0 where
  pub behind : State
  pub between : IsBetween behind
  pub items : behind.items ≡ s.items ++ lexeme at (at + size) what ∷ []
  pub goes_on : from_there within s at text ≡ from_there within behind (at + size) rest
