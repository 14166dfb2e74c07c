-- The variables with which a text is expanded: shared ones, and over them some of the text's own,
-- as a job's automatic ones.
--     automatic t             a variable of a text's own
--     with_own vars own       the shared variables, with those of the text's own set
use Rattle.std.specs.Prelude.{ℕ, false, List, [], ◌∷◌, Option, option_map}
use Rattle.std.specs.List.{find}
use Rattle.std.specs.Str.{bytes_eq}
use Rattle.em_vars.specs.declared.var.Var.{Var}
use Rattle.em_vars.specs.declared.var.Flavour.TheVariants as flavour
use Rattle.em_vars.specs.declared.var.Origin.TheVariants as origin
use Rattle.em_vars.specs.Entries.{Entries, with_value}
use Rattle.em_expand.specs.declared.layers.Layers.{Layers}
use Rattle.em_expand.specs.declared.layers.LayeredVar.{LayeredVar}
use Rattle.em_expand.specs.declared.layers.LayeredVar.TheVariants.{Own, Shared}

abbrev pub automatic : List ℕ → Var
automatic text = record { flavour = flavour.Simple; origin = origin.Automatic; text = text; exported = false }

-- pairs of a name and a text. Where a name stands twice, its first pair is set last
abbrev pub with_own : Entries → List (List ℕ × List ℕ) → Entries
with_own vars [] = vars
with_own vars (p ∷ own) = with_value (with_own vars own) p.0 (automatic p.1)

abbrev pub own_text : List (List ℕ × List ℕ) → List ℕ → Option (List ℕ)
own_text own name = option_map (λ p. p.1) (find (λ p. bytes_eq name p.0) own)

-- what the code holds
abbrev pub entries_of : Layers → Entries
entries_of vars = with_own vars.shared.now vars.own.now

abbrev pub var_of : LayeredVar → Var
var_of (Own t) = automatic t.now
var_of (Shared v) = v.now
