-- The classes of lexemes.
use Rattle.std.specs.Prelude.{ℕ, ◌-◌, ◌==◌, nat_le, Bool, true, false, cond, List, [], ◌∷◌, map, length, slice_get, Option, Some, None}
use Rattle.em_lexeme.specs.declared.lexeme.Lexeme.{Lexeme}
use Rattle.em_lexeme.specs.declared.lexeme.What.{What}
use Rattle.em_lexeme.specs.declared.lexeme.Start.{Start}
use Rattle.em_token.specs.declared.kind.Kind.{Kind}
use Rattle.em_token.specs.declared.kind.Kind.TheVariants.{Plain, Name, Assignment, Bang, If, Then, Elif, Else, Fi, While, Until, Do, Done, For, In, Case, Esac, LeftBrace, RightBrace, WordEnd, Bytes, Assigning, Value, ArgumentStart, ArgumentEnd, BadValue, SubstitutionStart, SubstitutionEnd, Newline, Semicolon, CaseEnd, Ampersand, AndIf, OrIf, Pipe, LeftParen, RightParen, Number, Less, Great, DoubleGreat, GreatAnd}

abbrev pub code_of : Kind → ℕ
code_of Plain = 0
code_of Name = 1
code_of Assignment = 2
code_of Bang = 3
code_of If = 4
code_of Then = 5
code_of Elif = 6
code_of Else = 7
code_of Fi = 8
code_of While = 9
code_of Until = 10
code_of Do = 11
code_of Done = 12
code_of For = 13
code_of In = 14
code_of Case = 15
code_of Esac = 16
code_of LeftBrace = 17
code_of RightBrace = 18
code_of WordEnd = 19
code_of Bytes = 20
code_of Assigning = 21
code_of Value = 22
code_of ArgumentStart = 23
code_of ArgumentEnd = 24
code_of BadValue = 25
code_of SubstitutionStart = 26
code_of SubstitutionEnd = 27
code_of Newline = 28
code_of Semicolon = 29
code_of CaseEnd = 30
code_of Ampersand = 31
code_of AndIf = 32
code_of OrIf = 33
code_of Pipe = 34
code_of LeftParen = 35
code_of RightParen = 36
code_of Number = 37
code_of Less = 38
code_of Great = 39
code_of DoubleGreat = 40
code_of GreatAnd = 41

abbrev pub kinds : List Kind → List ℕ
kinds ks = map code_of ks

abbrev pub kind_of_start : Start → Kind
kind_of_start Start.Plain = Plain
kind_of_start Start.Name = Name
kind_of_start Start.Assignment = Assignment
kind_of_start Start.Bang = Bang
kind_of_start Start.If = If
kind_of_start Start.Then = Then
kind_of_start Start.Elif = Elif
kind_of_start Start.Else = Else
kind_of_start Start.Fi = Fi
kind_of_start Start.While = While
kind_of_start Start.Until = Until
kind_of_start Start.Do = Do
kind_of_start Start.Done = Done
kind_of_start Start.For = For
kind_of_start Start.In = In
kind_of_start Start.Case = Case
kind_of_start Start.Esac = Esac
kind_of_start Start.LeftBrace = LeftBrace
kind_of_start Start.RightBrace = RightBrace

-- the `=` at the end of an assignment's name
abbrev pub is_equals : Option ℕ → Bool
is_equals None = false
is_equals (Some b) = b == 61

abbrev pub ends_with_equals : List ℕ → Bool
ends_with_equals text = is_equals (slice_get text (length text - 1))

abbrev pub kind_of_bytes : Bool → List ℕ → Kind
kind_of_bytes true text = Bytes
kind_of_bytes false text = cond (ends_with_equals text) Assigning Bytes

-- a number is a digit
abbrev pub kind_of : What → Kind
kind_of (What.WordStart start) = kind_of_start start
kind_of (What.Bytes quoted text) = kind_of_bytes quoted text
kind_of (What.Value quoted name form) = Value
kind_of (What.ArgumentStart quoted name form) = ArgumentStart
kind_of (What.SubstitutionStart quoted) = SubstitutionStart
kind_of (What.Number n) = cond (nat_le n 9) Number BadValue
kind_of What.WordEnd = WordEnd
kind_of What.ArgumentEnd = ArgumentEnd
kind_of What.BadValue = BadValue
kind_of What.SubstitutionEnd = SubstitutionEnd
kind_of What.Newline = Newline
kind_of What.Semicolon = Semicolon
kind_of What.CaseEnd = CaseEnd
kind_of What.Ampersand = Ampersand
kind_of What.AndIf = AndIf
kind_of What.OrIf = OrIf
kind_of What.Pipe = Pipe
kind_of What.LeftParen = LeftParen
kind_of What.RightParen = RightParen
kind_of What.Less = Less
kind_of What.Great = Great
kind_of What.DoubleGreat = DoubleGreat
kind_of What.GreatAnd = GreatAnd

abbrev pub class_of : What → ℕ
class_of what = code_of (kind_of what)

-- the lexemes without their places
abbrev pub whats : List Lexeme → List What
whats ls = map (λ l. l.what) ls

-- what begins a reserved word, a name, a command's word, any word but `esac`, and any word
abbrev pub reserved_names : List Kind
reserved_names = If ∷ Then ∷ Elif ∷ Else ∷ Fi ∷ While ∷ Until ∷ Do ∷ Done ∷ For ∷ In ∷ Case ∷ []

abbrev pub reserved_words : List ℕ
reserved_words = kinds (Bang ∷ LeftBrace ∷ RightBrace ∷ Esac ∷ reserved_names)

abbrev pub names : List ℕ
names = kinds (Name ∷ Esac ∷ reserved_names)

abbrev pub command_words : List ℕ
command_words = kinds (Plain ∷ Name ∷ Bang ∷ LeftBrace ∷ RightBrace ∷ Esac ∷ reserved_names)

abbrev pub words_but_esac : List ℕ
words_but_esac = kinds (Plain ∷ Name ∷ Assignment ∷ Bang ∷ LeftBrace ∷ RightBrace ∷ reserved_names)

abbrev pub words : List ℕ
words = kinds (Plain ∷ Name ∷ Assignment ∷ Bang ∷ LeftBrace ∷ RightBrace ∷ Esac ∷ reserved_names)
