-- Words in parts: where one goes on, and how bytes or a name alone are spelled, quoted or not.
use Rattle.std.specs.Prelude.{ℕ, Bool, true, false, ◌||◌, ◌&&◌, List, [], ◌∷◌}
use Rattle.em_grammar.specs.Production.{one, this, ◌⨾◌, ◌∣◌}
use Rattle.em_grammar.specs.Gives.{begins_with}
use Rattle.em_lexeme.specs.declared.lexeme.What.{What}
use Rattle.em_token.specs.Kinds.{kinds, names}
use Rattle.em_token.specs.Shell.{Expr, shell, key}
use Rattle.em_token.specs.declared.kind.Kind.TheVariants.{ArgumentStart, ArgumentEnd, Bytes, Assigning, Value, SubstitutionStart, WordEnd}

abbrev pub bytes_spelled : List ℕ → Expr
bytes_spelled text = this (kinds (Bytes ∷ [])) (What.Bytes false text) ∣ this (kinds (Bytes ∷ [])) (What.Bytes true text)

abbrev pub name_spelled : List ℕ → Expr
name_spelled name = one names ⨾ bytes_spelled name ⨾ key WordEnd

-- a piece or an argument follows, or the end of an argument that is open
abbrev pub word_goes_on : Bool → List What → Bool
word_goes_on is_open ts = begins_with shell ts (kinds (ArgumentStart ∷ Bytes ∷ Assigning ∷ Value ∷ SubstitutionStart ∷ [])) || (is_open && begins_with shell ts (kinds (ArgumentEnd ∷ [])))
