-- Whether texts are what words come to in any shell.
use Rattle.std.specs.Prelude.{ℕ, ◌==◌, ◌&&◌, Bool, false, List, length, Option, Some, None, zip}
use Rattle.std.specs.List.{list_all}
use Rattle.std.specs.Str.{bytes_eq}
use Rattle.em_syntax.specs.declared.tree.Word.{Word}
use Rattle.em_word.specs.Literal.{literal_of}

abbrev pub is_text : List ℕ → Option (List ℕ) → Bool
is_text text None = false
is_text text (Some bytes) = bytes_eq bytes text

abbrev pub is_said : List ℕ → Word → Bool
is_said text w = is_text text (literal_of w)

abbrev pub are_said : List (List ℕ) → List Word → Bool
are_said texts ws = (length texts == length ws) && list_all (λ p. is_said p.0 p.1) (zip texts ws)
