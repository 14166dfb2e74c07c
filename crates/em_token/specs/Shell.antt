-- The grammar of the shell.
use Rattle.std.specs.Prelude.{ℕ, List, [], ◌∷◌}
use Rattle.em_grammar.specs.Production.{Production, empty, one, ◌⨾◌, ◌∣◌, many, more, nested, inner, last, balanced, refused}
use Rattle.em_grammar.specs.Machine.{Grammar}
use Rattle.em_lexeme.specs.declared.lexeme.What.{What}
use Rattle.em_token.specs.declared.kind.Kind.{Kind}
use Rattle.em_token.specs.declared.kind.Kind.TheVariants.{Plain, Name, Assignment, Bang, If, Then, Elif, Else, Fi, While, Until, Do, Done, For, In, Case, Esac, LeftBrace, RightBrace, WordEnd, Bytes, Assigning, Value, ArgumentStart, ArgumentEnd, SubstitutionStart, SubstitutionEnd, Newline, Semicolon, CaseEnd, Ampersand, AndIf, OrIf, Pipe, LeftParen, RightParen, Number, Less, Great, DoubleGreat, GreatAnd}
use Rattle.em_token.specs.Kinds.{kinds, words, words_but_esac, command_words, names, class_of}

abbrev pub Expr : Type 0
Expr = Production What

-- the constructs that a grammar's token may be refused as; 1 is the depth
abbrev pub background : ℕ
background = 2

abbrev pub function : ℕ
function = 3

abbrev pub positional : ℕ
positional = 4

abbrev pub key : Kind → Expr
key k = one (kinds (k ∷ []))

-- newlines without a meaning
abbrev pub newlines : Expr
newlines = many (key Newline)

-- Words. A reserved word, or a name alone, is its begin, its bytes and its end.
abbrev pub bare : Expr
bare = key Bytes ⨾ key WordEnd

abbrev pub reserved : Kind → Expr
reserved k = key k ⨾ bare

-- the commands of a substitution, which may be none
abbrev pub body : Expr
body = inner ∣ empty

abbrev pub output_rest : Expr
output_rest = newlines ⨾ body ⨾ key SubstitutionEnd

abbrev pub output : Expr
output = nested (kinds (SubstitutionStart ∷ [])) output_rest

abbrev pub any_bytes : Expr
any_bytes = one (kinds (Bytes ∷ Assigning ∷ []))

abbrev pub simple_piece : Expr
simple_piece = any_bytes ∣ key Value

abbrev pub piece : Expr
piece = simple_piece ∣ output

-- pieces, with arguments of values among them
abbrev pub pieces : ℕ → Expr
pieces open_arguments = balanced open_arguments (kinds (ArgumentStart ∷ [])) piece (kinds (ArgumentEnd ∷ []))

abbrev pub word_rest : Expr
word_rest = pieces 0 ⨾ key WordEnd

abbrev pub word_of : List ℕ → Expr
word_of begins = one begins ⨾ word_rest

abbrev pub word : Expr
word = word_of words

-- Redirections
abbrev pub number : Expr
number = key Number ∣ empty

abbrev pub file_operator : Expr
file_operator = key Less ∣ key Great ∣ key DoubleGreat

abbrev pub file : Expr
file = file_operator ⨾ word

abbrev pub duplicate : Expr
duplicate = key GreatAnd ⨾ key Number

abbrev pub target : Expr
target = file ∣ duplicate

abbrev pub redirect : Expr
redirect = number ⨾ target

-- Simple commands: assignments and redirections, then words and redirections. The first word is no
-- reserved word where the command begins with it.
abbrev pub assigned : Expr
assigned = key Assignment ⨾ key Assigning ⨾ word_rest

abbrev pub argument : Expr
argument = word ∣ redirect

-- up to the last word: a reserved word there is one of the words
abbrev pub arguments : Expr
arguments = many argument ⨾ last words

abbrev pub prefix : Expr
prefix = assigned ∣ redirect

abbrev pub command_word : Expr
command_word = word_of command_words

abbrev pub words_behind : Expr
words_behind = command_word ⨾ arguments ∣ last words

-- `name (` is the begin of a function
abbrev pub named : Expr
named = word_of (kinds (Name ∷ [])) ⨾ (refused (kinds (LeftParen ∷ [])) function ∣ arguments)

abbrev pub plain : Expr
plain = word_of (kinds (Plain ∷ [])) ⨾ arguments

abbrev pub prefixed : Expr
prefixed = prefix ⨾ many prefix ⨾ words_behind

abbrev pub simple : Expr
simple = named ∣ plain ∣ prefixed

-- Compound commands. What opens one takes a level, and a list in it stands one level deeper.
abbrev pub block : Expr
block = newlines ⨾ inner

-- `;` or a newline; and where `&` might stand too
abbrev pub sequential : Expr
sequential = one (kinds (Semicolon ∷ Newline ∷ [])) ⨾ newlines

abbrev pub separator : Expr
separator = sequential ∣ refused (kinds (Ampersand ∷ [])) background

abbrev pub do_block : Expr
do_block = reserved Do ⨾ block ⨾ reserved Done

abbrev pub subshell : Expr
subshell = nested (kinds (LeftParen ∷ [])) (block ⨾ key RightParen)

abbrev pub group : Expr
group = nested (kinds (LeftBrace ∷ [])) (bare ⨾ block ⨾ reserved RightBrace)

abbrev pub branch : Expr
branch = block ⨾ reserved Then ⨾ block

abbrev pub elif_branch : Expr
elif_branch = reserved Elif ⨾ branch

abbrev pub branches : Expr
branches = branch ⨾ many elif_branch

abbrev pub other : Expr
other = reserved Else ⨾ block ∣ empty

abbrev pub conditional : Expr
conditional = nested (kinds (If ∷ [])) (bare ⨾ branches ⨾ other ⨾ reserved Fi)

abbrev pub loop : Kind → Expr
loop begin = nested (kinds (begin ∷ [])) (bare ⨾ block ⨾ do_block)

-- a `for` without `in` goes over the positional parameters
abbrev pub in_word : Expr
in_word = reserved In ∣ refused (kinds (Semicolon ∷ Newline ∷ [])) positional

abbrev pub name : Expr
name = one names ⨾ bare

abbrev pub for_rest : Expr
for_rest = bare ⨾ name ⨾ in_word ⨾ many word ⨾ sequential ⨾ do_block

abbrev pub for : Expr
for = nested (kinds (For ∷ [])) for_rest

abbrev pub pattern_more : Expr
pattern_more = (key Pipe ⨾ newlines) ⨾ word

abbrev pub first_pattern : Expr
first_pattern = key LeftParen ⨾ word ∣ word_of words_but_esac

abbrev pub patterns : Expr
patterns = first_pattern ⨾ many pattern_more

abbrev pub item : Expr
item = patterns ⨾ key RightParen ⨾ newlines ⨾ body

abbrev pub item_end : Expr
item_end = key CaseEnd ⨾ newlines

abbrev pub items : Expr
items = item ⨾ more item item_end ∣ empty

abbrev pub choice_rest : Expr
choice_rest = bare ⨾ word ⨾ reserved In ⨾ newlines ⨾ items ⨾ reserved Esac

abbrev pub choice : Expr
choice = nested (kinds (Case ∷ [])) choice_rest

abbrev pub compound : Expr
compound = subshell ∣ group ∣ conditional ∣ loop While ∣ loop Until ∣ for ∣ choice

abbrev pub command : Expr
command = simple ∣ compound ⨾ many redirect

-- Pipelines and lists
abbrev pub stage : Expr
stage = (key Pipe ⨾ newlines) ⨾ command

abbrev pub stages : Expr
stages = command ⨾ many stage

abbrev pub bang : Expr
bang = reserved Bang ∣ empty

abbrev pub pipeline : Expr
pipeline = bang ⨾ stages

abbrev pub operator : Expr
operator = key AndIf ∣ key OrIf

abbrev pub joined : Expr
joined = operator ⨾ newlines ⨾ pipeline

abbrev pub and_or : Expr
and_or = pipeline ⨾ many joined

abbrev pub list : Expr
list = and_or ⨾ more and_or separator

-- a whole line may hold no list
abbrev pub line : Expr
line = newlines ⨾ (list ∣ empty)

abbrev pub list_begins : List Kind
list_begins = Bang ∷ Name ∷ Plain ∷ Assignment ∷ Number ∷ Less ∷ Great ∷ DoubleGreat ∷ GreatAnd ∷ LeftParen ∷ LeftBrace ∷ If ∷ While ∷ Until ∷ For ∷ Case ∷ []

abbrev pub shell : Grammar What
shell = record {
  class = class_of;
  list = list;
  list_first = kinds list_begins;
  list_follow = kinds (RightParen ∷ RightBrace ∷ Then ∷ Elif ∷ Else ∷ Fi ∷ Do ∷ Done ∷ CaseEnd ∷ Esac ∷ SubstitutionEnd ∷ []);
}
