-- The tokens of which lexemes are: what stands outside of all words, and whole words.
use Rattle.std.specs.Prelude.{ℕ, ◌-◌, ◌==◌, List, ◌∷◌, if◌then◌else◌, ◌+◌, [], ◌++◌}
use Rattle.em_lexeme.specs.Kinds.{kind_of}
use Rattle.em_lexeme.specs.declared.lexeme.Lexeme.{Lexeme}
use Rattle.em_lexeme.specs.declared.lexeme.Token.{Token}
use Rattle.em_lexeme.specs.declared.lexeme.TokenKind.TheVariants.{Word}
use Rattle.em_lexeme.specs.declared.lexeme.TokenKind.{TokenKind}
use Rattle.em_lexeme.specs.declared.lexeme.What.TheVariants.{WordStart, WordEnd}
use Rattle.em_lexeme.specs.declared.lexeme.What.{What}

abbrev pub token : ℕ → ℕ → TokenKind → Token
token from to kind = record { span = record { start = from; end = to }; kind = kind }

-- the words that are open behind a lexeme, one in another
abbrev pub open_behind : What → ℕ → ℕ
open_behind (WordStart start) n = n + 1
open_behind WordEnd n = n - 1
open_behind _ n = n

-- where the outermost word began, behind a lexeme
abbrev pub began : What → ℕ → ℕ → ℕ → ℕ
began (WordStart start) n at from = if n == 0 then at else from
began _ n at from = from

-- what a lexeme is as a token, where so many words are open before it and the outermost began at
-- `from`
abbrev pub token_at : What → ℕ → ℕ → Lexeme → List Token
token_at (WordStart start) n from l = []
token_at WordEnd n from l = if n == 1 then token from l.span.end Word ∷ [] else []
token_at what n from l = if n == 0 then token l.span.start l.span.end (kind_of what) ∷ [] else []

abbrev pub tokens_from : ℕ → ℕ → List Lexeme → List Token
tokens_from n from [] = []
tokens_from n from (l ∷ ls) = token_at l.what n from l ++ tokens_from (open_behind l.what n) (began l.what n l.span.start from) ls
