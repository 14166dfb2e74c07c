-- Which variables a job's shell gets, and where they stand.
--     is_handed v            it gets this one: a variable of the command line, or an exported one
--     handed_places es       the places of those, counted from 0, in order
use Rattle.std.specs.Prelude.{ℕ, Bool, true, false, ◌||◌, List, map}
use Rattle.std.specs.List.{filter, enumerate_from}
use Rattle.em_vars.specs.declared.var.Var.{Var}
use Rattle.em_vars.specs.declared.var.Origin.{Origin}
use Rattle.em_vars.specs.declared.var.Origin.TheVariants as origin
use Rattle.em_vars.specs.Entries.{Entries}

abbrev pub is_of_order : Origin → Bool
is_of_order origin.CommandLine = true
is_of_order _ = false

abbrev pub is_handed : Var → Bool
is_handed v = v.exported || is_of_order v.origin

abbrev pub handed_places : Entries → List ℕ
handed_places es = map (λ p. p.0) (filter (λ p. is_handed p.1.1) (enumerate_from 0 es))
