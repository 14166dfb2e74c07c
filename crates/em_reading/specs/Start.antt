-- How a reading begins, and the default goal at its end.
--     start_vars goals assigned cwd defaults    the variables at the start
--     start cwd vars said                       nothing is read yet
--     goal_of book text                         the default goal, where `.DEFAULT_GOAL` has this text
use Rattle.std.specs.Prelude.{ℕ, ◌==◌, ◌&&◌, ◌||◌, not, Bool, true, false, List, [], ◌∷◌, fold, find, Option, Some, None, codes, if◌then◌else◌}
use Rattle.std.specs.List.{list_any}
use Rattle.std.specs.Option.{option_or}
use Rattle.em_base.specs.Blanks.{trimmed}
use Rattle.em_rules.specs.declared.rule.Rule.{Rule}
use Rattle.em_rules.specs.declared.book.Book.{Book}
use Rattle.em_rules.specs.Books.{new_book}
use Rattle.em_vars.specs.Entries.{Entries, value_of}
use Rattle.em_vars.specs.declared.var.Var.{Var}
use Rattle.em_vars.specs.declared.var.Flavour.TheVariants as flavour
use Rattle.em_vars.specs.declared.var.Origin.{Origin}
use Rattle.em_vars.specs.declared.var.Origin.TheVariants as origin
use Rattle.em_wordlist.specs.Words as words
use Rattle.em_statement.specs.Split.{is_empty}
use Rattle.em_reading.specs.declared.reading.Reading.{Reading}
use Rattle.em_reading.specs.Variables.{set, var, was_exported}
use Rattle.em_reading.specs.Changes.{Change, good}

-- ---- the variables at the start

abbrev pub is_of_order : Origin → Bool
is_of_order origin.CommandLine = true
is_of_order _ = false

-- those that a make hands to a shell, the exported ones and those of its command line, are
-- exported defaults
abbrev pub given_one : Entries → List ℕ × Var → Entries
given_one vars e = if e.1.exported || is_of_order e.1.origin then set vars e.0 (record e.1 { origin = origin.Default; exported = true }) else vars

abbrev pub given_at : Entries → Option (List ℕ × Var) → Entries
given_at vars None = vars
given_at vars (Some e) = given_one vars e

abbrev pub given : Entries → Entries
given defaults = fold given_one [] defaults

abbrev pub default : List ℕ → Var
default text = var origin.Default flavour.Simple false text

-- `MAKE`, the working directory, the goals
abbrev pub with_defaults : Entries → List ℕ → List (List ℕ) → Entries
with_defaults vars cwd goals =
    set (set (set vars (codes "MAKE") (default (codes "emake"))) (codes "CURDIR") (default cwd)) (codes "MAKECMDGOALS") (default (words.joined goals))

-- the assignments of the command line; what is exported stays so
abbrev pub with_assigned : Entries → List ℕ × List ℕ → Entries
with_assigned vars a = set vars a.0 (var origin.CommandLine flavour.Simple (was_exported (value_of vars a.0)) a.1)

abbrev pub start_vars : List (List ℕ) → List (List ℕ × List ℕ) → List ℕ → Entries → Entries
start_vars goals assigned cwd defaults = fold with_assigned (with_defaults (given defaults) cwd goals) assigned

abbrev pub start : List ℕ → Entries → List ℕ → Reading
start cwd vars said = record {
  cwd = cwd;
  book = record new_book { vars = vars };
  nest = [];
  opened = [];
  begun = None;
  around = 0;
  define = None;
  spoken = record { said = said; evals = [] };
  noted = None;
}

-- ---- the default goal

-- a target that begins with a dot is one only where it holds a slash, and one with a `%` is none
abbrev pub begins_with_dot : List ℕ → Bool
begins_with_dot [] = false
begins_with_dot (b ∷ bs) = b == 46

abbrev pub is_goal : List ℕ → Bool
is_goal target = (not (begins_with_dot target) || list_any (λ b. b == 47) target) && not (list_any (λ b. b == 37) target)

abbrev pub first_goal : List Rule → Option (List ℕ)
first_goal [] = None
first_goal (r ∷ rules) = option_or (find is_goal r.targets) (first_goal rules)

-- the text of `.DEFAULT_GOAL`, or the first target
abbrev pub goal_of : Book → List ℕ → Option (List ℕ)
goal_of b text = if is_empty text then first_goal b.rules else Some (trimmed text)

abbrev pub set_goal : List ℕ → Change
set_goal text r = good (record r { book = record r.book { default_goal = goal_of r.book text } })
