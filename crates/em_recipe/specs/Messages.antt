-- What is said of a job. `[FILE:LINE: T]` is the line of the recipe, with the target.
use Rattle.std.specs.Prelude.{ℕ, Bool, true, false, List, [], ◌∷◌, ◌++◌, Option, Some, None, codes, decimal}
use Rattle.em_base.specs.declared.construct.Construct.{Construct}
use Rattle.em_base.specs.declared.construct.Construct.TheVariants as construct
use Rattle.em_base.specs.declared.place.Place.{Place}
use Rattle.em_expand.specs.declared.no.ExpandNo.{ExpandNo}
use Rattle.em_expand.specs.declared.no.ExpandNo.TheVariants as no

abbrev pub quoted : List ℕ → List ℕ
quoted name = codes "'" ++ name ++ codes "'"

abbrev pub place_text : Place → List ℕ
place_text p = p.file ++ codes ":" ++ decimal p.line

abbrev pub line_text : Place → List ℕ → List ℕ
line_text p target = codes "[" ++ place_text p ++ codes ": " ++ target ++ codes "]"

-- the name under which a construct is refused
abbrev pub construct_name : Construct → List ℕ
construct_name construct.Background = codes "&"
construct_name construct.Function = codes "function"
construct_name construct.HereDocument = codes "<<"
construct_name construct.Arithmetic = codes "$(("
construct_name construct.Positional = codes "positional parameter"
construct_name construct.Descriptor = codes "descriptor"
construct_name construct.Redirection = codes "redirection"
construct_name construct.Depth = codes "depth"
construct_name construct.Eval = codes "eval"
construct_name construct.Submake = codes "emake"
construct_name (construct.Command name) = name
construct_name (construct.Letter utility letter) = utility ++ codes " -" ++ letter ∷ []
construct_name (construct.Format (Some b)) = codes "printf %" ++ b ∷ []
construct_name (construct.Format None) = codes "printf %"
construct_name (construct.MakeName name) = name

-- why a text can't be expanded. A function that is refused, spent fuel and want of memory are told
-- in other ways
abbrev pub fault_text : ExpandNo → List ℕ
fault_text (no.SelfReference name) = codes "Recursive variable " ++ quoted name ++ codes " references itself (eventually)"
fault_text (no.UserError text) = text
fault_text (no.BadArgument name) = codes "bad argument of " ++ quoted name
fault_text no.Unclosed = codes "unterminated reference"
fault_text (no.Refused name) = name
fault_text no.Spent = codes "fuel spent"
fault_text no.TooDeep = codes "too deep"
fault_text no.NoMemory = []

abbrev pub error_line : List ℕ → ℕ → List ℕ
error_line place status = place ++ codes " Error " ++ decimal status

abbrev pub failed : Place → List ℕ → ℕ → List ℕ
failed p target status = codes "emake: *** " ++ error_line (line_text p target) status ++ codes "\n"

abbrev pub ignored : Place → List ℕ → ℕ → List ℕ
ignored p target status = codes "emake: " ++ error_line (line_text p target) status ++ codes " (ignored)\n"

abbrev pub deleted : List ℕ → List ℕ
deleted target = codes "emake: *** Deleting file " ++ quoted target ++ codes "\n"

abbrev pub needed : Option (List ℕ) → List ℕ
needed None = []
needed (Some name) = codes ", needed by " ++ quoted name

-- with `-k` the build goes on
abbrev pub stop_text : Bool → List ℕ
stop_text true = codes ".\n"
stop_text false = codes ".  Stop.\n"

abbrev pub no_rule : List ℕ → Option (List ℕ) → Bool → List ℕ
no_rule target by keep_going = codes "emake: *** No rule to make target " ++ quoted target ++ needed by ++ stop_text keep_going

abbrev pub refused : Place → List ℕ → Construct → List ℕ
refused p target c = codes "emake: *** " ++ line_text p target ++ codes " Refused: " ++ construct_name c ++ codes ".  Stop.\n"

abbrev pub spent : Place → List ℕ → List ℕ
spent p target = codes "emake: *** " ++ line_text p target ++ codes " Fuel spent.  Stop.\n"

-- before a line was begun
abbrev pub spent_early : List ℕ → List ℕ
spent_early target = codes "emake: *** [" ++ target ++ codes "] Fuel spent.  Stop.\n"

abbrev pub halted : Place → List ℕ → List ℕ
halted p text = place_text p ++ codes ": *** " ++ text ++ codes ".  Stop.\n"
