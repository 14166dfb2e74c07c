-- What some whole lines are.
use Rattle.std.specs.Prelude.{ℕ, ◌+◌, true, false, List, [], ◌∷◌, length, None}
use Rattle.em_lexeme.specs.declared.lexeme.Lexed.{Lexed}
use Rattle.em_lexeme.specs.declared.lexeme.Start.{Start}
use Rattle.em_lexeme.specs.declared.lexeme.Start.TheVariants.{Plain}
use Rattle.em_lexeme.specs.declared.lexeme.What.TheVariants.{WordStart, WordEnd, Bytes}
use Rattle.em_lex.specs.Steps.{lexeme}

-- one word of these bytes, between single quotes
abbrev pub quoted_word : List ℕ → Lexed
quoted_word bytes =
    record {
      items = lexeme 0 0 (WordStart Plain) ∷ lexeme 0 (length bytes + 1) (Bytes true bytes) ∷ lexeme (length bytes + 2) (length bytes + 2) WordEnd ∷ [];
      stop = None;
    }

-- one word of these bytes, without quotes
abbrev pub bare_word : Start → List ℕ → Lexed
bare_word start bytes =
    record {
      items = lexeme 0 0 (WordStart start) ∷ lexeme 0 (length bytes) (Bytes false bytes) ∷ lexeme (length bytes) (length bytes) WordEnd ∷ [];
      stop = None;
    }
