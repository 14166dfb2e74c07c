-- What is known of a variable, where a text stands.
--     meaning_of vars frames name     what it stands for: a text as it is, or one that is expanded
--     text_of, origin_of, flavour_of  what `value`, `origin` and `flavor` give
--     warned place t                  what `warning` says
use Rattle.std.specs.Prelude.{ℕ, List, [], ◌∷◌, ◌++◌, Option, Some, None, codes, decimal}
use Rattle.em_base.specs.declared.place.Place.{Place}
use Rattle.em_vars.specs.declared.var.Var.{Var}
use Rattle.em_vars.specs.declared.var.Flavour.{Flavour}
use Rattle.em_vars.specs.declared.var.Flavour.TheVariants as flavour
use Rattle.em_vars.specs.declared.var.Origin.{Origin}
use Rattle.em_vars.specs.declared.var.Origin.TheVariants as origin
use Rattle.em_vars.specs.Entries.{Entries, value_of}
use Rattle.em_expand.specs.declared.values.Meaning.{Meaning}
use Rattle.em_expand.specs.declared.values.Meaning.TheVariants.{Bound, Simple, Recursive}
use Rattle.em_expand.specs.Scopes.{Frame, bound}

pub data Stands : Type 0 where
  -- a text as it is
  plain : List ℕ → Stands
  -- a text that is expanded
  recursive : List ℕ → Stands

abbrev pub by_flavour : Flavour → List ℕ → Stands
by_flavour flavour.Simple t = plain t
by_flavour flavour.Recursive t = recursive t

-- what is bound hides the variable, and an undefined name is empty
abbrev pub meaning_by : Option (List ℕ) → Option Var → Stands
meaning_by (Some t) v = plain t
meaning_by None (Some v) = by_flavour v.flavour v.text
meaning_by None None = plain []

abbrev pub meaning_of : Entries → List Frame → List ℕ → Stands
meaning_of vars frames name = meaning_by (bound frames name) (value_of vars name)

abbrev pub text_in : Stands → List ℕ
text_in (plain t) = t
text_in (recursive t) = t

abbrev pub text_of : Entries → List Frame → List ℕ → List ℕ
text_of vars frames name = text_in (meaning_of vars frames name)

abbrev pub origin_name : Origin → List ℕ
origin_name origin.Default = codes "default"
origin_name origin.File = codes "file"
origin_name origin.CommandLine = codes "command line"
origin_name origin.Override = codes "override"
origin_name origin.Automatic = codes "automatic"

abbrev pub origin_by : Option (List ℕ) → Option Var → List ℕ
origin_by (Some t) v = codes "automatic"
origin_by None (Some v) = origin_name v.origin
origin_by None None = codes "undefined"

abbrev pub origin_of : Entries → List Frame → List ℕ → List ℕ
origin_of vars frames name = origin_by (bound frames name) (value_of vars name)

abbrev pub flavour_name : Flavour → List ℕ
flavour_name flavour.Simple = codes "simple"
flavour_name flavour.Recursive = codes "recursive"

abbrev pub flavour_by : Option (List ℕ) → Option Var → List ℕ
flavour_by (Some t) v = codes "simple"
flavour_by None (Some v) = flavour_name v.flavour
flavour_by None None = codes "undefined"

abbrev pub flavour_of : Entries → List Frame → List ℕ → List ℕ
flavour_of vars frames name = flavour_by (bound frames name) (value_of vars name)

-- FILE:LINE: t
abbrev pub warned : Place → List ℕ → List ℕ
warned place t = place.file ++ 58 ∷ decimal place.line ++ codes ": " ++ t ++ 10 ∷ []

-- what the code tells of a name
abbrev pub stands : Meaning → Stands
stands (Bound t) = plain t.now
stands (Simple t) = plain t.now
stands (Recursive t) = recursive t.now
