-- The lines for the shell that come of one line of a recipe, once it is expanded.
--     split text                      its lines: they end at newlines without a backslash in front
--     commands_of written expanded    each without its marks; those in front of the line as it was written hold for all. Empty ones are left out
use Rattle.std.specs.Prelude.{ℕ, ◌==◌, ◌&&◌, Bool, false, not, List, [], ◌∷◌, ◌++◌, length, map, nat_lt, if◌then◌else◌}
use Rattle.std.specs.List.{filter}
use Rattle.em_recipe.specs.declared.command.RecipeCommand.{RecipeCommand}
use Rattle.em_recipe.specs.declared.mark.Marks.{Marks}
use Rattle.em_recipe.specs.Marks.{marks, bare, either}

-- the lines of what is left, where this stands of the first one, and whether a backslash is its
-- last byte
abbrev pub lines_from : List ℕ → Bool → List ℕ → List (List ℕ)
lines_from line quoted [] = line ∷ []
lines_from line quoted (b ∷ bs) = if (b == 10) && not quoted then line ∷ lines_from [] false bs else lines_from (line ++ b ∷ []) (b == 92) bs

unfoldable pub split : List ℕ → List (List ℕ)
split text = lines_from [] false text

abbrev pub command : Marks → List ℕ → RecipeCommand
command front line = record { text = bare line; marks = either front (marks line) }

-- what comes of the lines, without empty ones
abbrev pub kept : Marks → List (List ℕ) → List RecipeCommand
kept front lines = filter (λ c. nat_lt 0 (length c.text)) (map (command front) lines)

unfoldable pub commands_of : List ℕ → List ℕ → List RecipeCommand
commands_of written expanded = kept (marks written) (split expanded)
