-- What stands between double quotes, in POSIX's words: parts, each with how it is written and the
-- bytes for which it stands.
use Rattle.std.specs.Prelude.{◌≡◌, ◌≢◌, ◌⊎◌, ◌+◌, ℕ, List, [], ◌∷◌, map, true, None}
use Rattle.std.specs.List.{flat_map}
use Rattle.em_lexeme.specs.declared.lexeme.Lexed.{Lexed}
use Rattle.em_lexeme.specs.declared.lexeme.Start.TheVariants as start
use Rattle.em_lexeme.specs.declared.lexeme.What.{What}
use Rattle.em_lexeme.specs.declared.lexeme.What.TheVariants.{WordStart, WordEnd, Bytes}
use Rattle.em_lex.specs.Steps.{lexeme}
use Rattle.em_lex.specs.Lexing.{lexed}

pub data Inside : Type 0 where
  -- a byte that stands for itself
  Itself : ℕ → Inside
  -- a byte behind a backslash that is dropped; behind one that stays
  Escaped : ℕ → Inside
  Kept : ℕ → Inside
  -- a backslash and a newline, which stand for nothing
  Joined : Inside

abbrev pub written : Inside → List ℕ
written (Itself b) = b ∷ []
written (Escaped b) = 92 ∷ b ∷ []
written (Kept b) = 92 ∷ b ∷ []
written Joined = 92 ∷ 10 ∷ []

abbrev pub meant : Inside → List ℕ
meant (Itself b) = b ∷ []
meant (Escaped b) = b ∷ []
meant (Kept b) = 92 ∷ b ∷ []
meant Joined = []

-- `"`, `$`, the backquote and the backslash
abbrev pub Acts : ℕ → Type 0
Acts b = (b ≡ 34) ⊎ ((b ≡ 36) ⊎ ((b ≡ 96) ⊎ (b ≡ 92)))

abbrev pub MayStand : Inside → Type 0
MayStand (Itself b) = ¬ Acts b
MayStand (Escaped b) = Acts b
MayStand (Kept b) = (¬ Acts b) × (b ≢ 10)
MayStand Joined = Unit {0}

abbrev pub all_written : List Inside → List ℕ
all_written parts = flat_map written parts

abbrev pub all_meant : List Inside → List ℕ
all_meant parts = flat_map meant parts

-- a word of these bytes, quoted, whose quotes have so many between them
abbrev pub one_word : ℕ → List ℕ → Lexed
one_word n bytes =
    record {
      items = lexeme 0 0 (WordStart start.Plain) ∷ lexeme 0 (n + 1) (Bytes true bytes) ∷ lexeme (n + 2) (n + 2) WordEnd ∷ [];
      stop = None;
    }

-- what the lexemes of a text are
abbrev pub kinds : List ℕ → List What
kinds text = map (λ l. l.what) (lexed text).items
