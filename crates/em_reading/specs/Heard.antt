-- What a statement does when its texts are expanded: conditionals, and those that change the
-- variables alone.
--     refused_in h                 the first function in its texts that was refused
--     holds vars c h               whether a condition holds; none where it isn't of the form
--     if_heard, else_if_heard      the branch that a condition begins
--     assign, undefine, export, unexport
use Rattle.std.specs.Prelude.{ℕ, not, Bool, List, [], ◌∷◌, Option, Some, None, option_map, codes, if◌then◌else◌}
use Rattle.std.specs.Option.{option_or}
use Rattle.std.specs.Str.{bytes_eq}
use Rattle.em_base.specs.declared.place.Place.{Place}
use Rattle.em_wordlist.specs.Words.{words_of}
use Rattle.em_vars.specs.Entries.{Entries}
use Rattle.em_statement.specs.declared.assignment.Assignment.{Assignment}
use Rattle.em_statement.specs.declared.assignment.Operator.{Operator}
use Rattle.em_statement.specs.declared.assignment.Operator.TheVariants as operator
use Rattle.em_statement.specs.declared.condition.Condition.{Condition}
use Rattle.em_statement.specs.declared.condition.Condition.TheVariants.{Same, Different, Defined, Undefined, Malformed}
use Rattle.em_statement.specs.declared.statement.Undefine.{Undefine}
use Rattle.em_reading.specs.declared.no.MakefileFault.TheVariants as fault
use Rattle.em_reading.specs.declared.heard.Heard.{Heard}
use Rattle.em_reading.specs.Variables.{has_text, assigned, undefined, all_marked, all_unmarked}
use Rattle.em_reading.specs.Changes.{Change, good, bad, with_vars, enter, other}

-- the first refusal in what was expanded
abbrev pub refused_in : Heard → Option (List ℕ)
refused_in h = option_or h.first.refused h.second.refused

-- a change, unless something in its texts was refused
abbrev pub unless : Option (List ℕ) → Place → Change → Change
unless None p f r = f r
unless (Some name) p f r = bad p (fault.Refused name) r

-- ---- conditions

-- exactly one name
abbrev pub one_has_text : Entries → List (List ℕ) → Option Bool
one_has_text vars (name ∷ []) = Some (has_text vars name)
one_has_text vars _ = None

abbrev pub holds : Entries → Condition → Heard → Option Bool
holds vars (Same s) h = Some (bytes_eq h.first.text h.second.text)
holds vars (Different s) h = Some (not (bytes_eq h.first.text h.second.text))
holds vars (Defined t) h = one_has_text vars (words_of h.first.text)
holds vars (Undefined t) h = option_map not (one_has_text vars (words_of h.first.text))
holds vars Malformed h = None

abbrev pub enter_by : Place → Option Bool → Change
enter_by p None r = bad p fault.Separator r
enter_by p (Some b) r = enter p b r

abbrev pub other_by : Place → Option Bool → Change
other_by p None r = bad p fault.Separator r
other_by p (Some b) r = other p (Some b) r

abbrev pub if_heard : Place → Condition → Heard → Change
if_heard p c h r = unless (refused_in h) p (enter_by p (holds r.book.vars c h)) r

abbrev pub else_if_heard : Place → Condition → Heard → Change
else_if_heard p c h r = unless (refused_in h) p (other_by p (holds r.book.vars c h)) r

-- ---- assignments and names

-- `VPATH` and `.RECIPEPREFIX` can't be assigned
abbrev pub name_refusal : List ℕ → Option (List ℕ)
name_refusal name =
    if bytes_eq name (codes "VPATH") then Some name
    else if bytes_eq name (codes ".RECIPEPREFIX") then Some name
    else None

abbrev pub operator_refusal : Operator → Option (List ℕ)
operator_refusal operator.Shell = Some (codes "!=")
operator_refusal operator.Posix = Some (codes ":::=")
operator_refusal _ = None

-- from the left: in the name, the name, the operator, in the value
abbrev pub assignment_refusal : Operator → Heard → Option (List ℕ)
assignment_refusal o h =
    option_or h.first.refused (option_or (name_refusal h.first.text) (option_or (operator_refusal o) h.second.refused))

abbrev pub assign_vars : Assignment → Heard → Change
assign_vars a h r = good (with_vars r (assigned r.book.vars a.modifiers a.operator h.first.text h.second.text))

abbrev pub assign : Place → Assignment → Heard → Change
assign p a h r = unless (assignment_refusal a.operator h) p (assign_vars a h) r

abbrev pub undefine_vars : Undefine → Heard → Change
undefine_vars u h r = good (with_vars r (undefined u.overriding r.book.vars h.first.text))

abbrev pub undefine : Place → Undefine → Heard → Change
undefine p u h r = unless (refused_in h) p (undefine_vars u h) r

abbrev pub export_vars : Heard → Change
export_vars h r = good (with_vars r (all_marked r.book.vars (words_of h.first.text)))

abbrev pub export : Place → Heard → Change
export p h r = unless (refused_in h) p (export_vars h) r

abbrev pub unexport_vars : Heard → Change
unexport_vars h r = good (with_vars r (all_unmarked r.book.vars (words_of h.first.text)))

abbrev pub unexport : Place → Heard → Change
unexport p h r = unless (refused_in h) p (unexport_vars h) r
