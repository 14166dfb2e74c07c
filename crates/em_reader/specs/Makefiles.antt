-- The makefile of an order.
--     start_vars order cwd defaults    the variables at the start
--     makefile_of name                 the makefile's name and bytes: the one that is asked for, or the first of the three names
--     reading order cwd defaults       the book that it makes and what was said, or the first fault and what was said before it
--     round order cwd defaults         the same, where an absent file of `include` is noted instead of refused
use Rattle.std.specs.Prelude.{ℕ, ◌==◌, ◌||◌, not, Bool, true, false, List, [], ◌∷◌, ◌++◌, length, fold, find, map, Option, Some, None, unwrap_or, Result, Ok, Err, codes, if◌then◌else◌}
use Rattle.std.specs.List.{list_any, flat_map}
use Rattle.std.specs.FinMap.{empty}
use Rattle.em_base.specs.declared.place.Place.{Place}
use Rattle.em_base.specs.Blanks.{trimmed}
use Rattle.em_cmdline.specs.declared.order.Order.{Order}
use Rattle.em_lines.specs.Lines.{joined}
use Rattle.em_rules.specs.declared.rule.Rule.{Rule}
use Rattle.em_rules.specs.declared.book.Book.{Book}
use Rattle.em_rules.specs.Books.{new_book}
use Rattle.em_vars.specs.Entries.{Entries, value_of}
use Rattle.em_vars.specs.declared.var.Var.{Var}
use Rattle.em_vars.specs.declared.var.Flavour.{Flavour}
use Rattle.em_vars.specs.declared.var.Flavour.TheVariants as flavour
use Rattle.em_vars.specs.declared.var.Origin.TheVariants as origin
use Rattle.em_view.specs.Actions.{Workspace}
use Rattle.em_view.specs.Steps.{Steps, done, refuse, own}
use Rattle.em_view.specs.Do.{◌>>=◌}
use Rattle.em_wordlist.specs.Words as words
use Rattle.em_statement.specs.Split.{is_empty}
use Rattle.em_reading.specs.declared.no.ReadNo.{ReadNo}
use Rattle.em_reading.specs.declared.no.MakefileFault.TheVariants as fault
use Rattle.em_reading.specs.declared.heard.Expanded.{Expanded}
use Rattle.em_reader.specs.declared.files.Makefile.{Makefile}
use Rattle.em_reader.specs.declared.makefiles.Round.{Round}
use Rattle.em_reading.specs.declared.reading.Reading.{Reading}
use Rattle.em_reading.specs.declared.noted.Noted.{Noted}
use Rattle.em_reading.specs.Faults.{at_place}
use Rattle.em_reading.specs.Start.{start, start_vars, set_goal}
use Rattle.em_reading.specs.Changes.{Change, good, opens, nothing_noted, end_rule, end_conditionals}
use Rattle.em_reader.specs.Hearing.{Reads, heard}
use Rattle.em_reader.specs.Acting.{unless_refused}
use Rattle.em_reader.specs.Reading.{read_text, content_of}

-- ---- the makefile

abbrev pub line_one : List ℕ → Place
line_one name = record { file = name; line = 1 }

abbrev pub made_of : List ℕ → List ℕ → Makefile
made_of name bytes = record { name = name; bytes = bytes }

abbrev pub the_file : List ℕ → Option (List ℕ) → Reads (Option Makefile)
the_file name None = refuse (at_place (line_one name) (fault.Include name))
the_file name (Some bytes) = done (Some (made_of name bytes))

unfoldable pub asked_for : List ℕ → Reads (Option Makefile)
asked_for name = do
  bytes ← content_of (line_one name) name
  the_file name bytes

abbrev pub first_or : List ℕ → Reads (Option Makefile) → Option (List ℕ) → Reads (Option Makefile)
first_or name more None = more
first_or name more (Some bytes) = done (Some (made_of name bytes))

abbrev pub first_file : List (List ℕ) → Reads (Option Makefile)
first_file [] = done None
first_file (name ∷ names) = do
  bytes ← content_of (line_one name) name
  first_or name (first_file names) bytes

abbrev pub usual_names : List (List ℕ)
usual_names = codes "GNUmakefile" ∷ codes "makefile" ∷ codes "Makefile" ∷ []

abbrev pub makefile_of : Option (List ℕ) → Reads (Option Makefile)
makefile_of (Some name) = asked_for name
makefile_of None = first_file usual_names

abbrev pub place_of : Option Makefile → Place
place_of None = line_one []
place_of (Some m) = line_one m.name

abbrev pub found : Change
found r = good (record r { book = record r.book { found = true } })

-- texts that a line puts in are at most 64 deep
abbrev pub levels : ℕ
levels = 65

unfoldable pub read_file : Makefile → Reads (Unit {0})
read_file m = do
  u ← own found
  v ← own (opens m.name)
  read_text levels (line_one m.name) (joined m.name m.bytes)

abbrev pub read_makefile : Option Makefile → Reads (Unit {0})
read_makefile None = done tt
read_makefile (Some m) = read_file m

-- ---- the default goal

abbrev pub goal_heard : Place → Expanded → Reads (Unit {0})
goal_heard p e = unless_refused e.refused p (own (set_goal e.text))

unfoldable pub expanded_goal : Place → List ℕ → Reads (Unit {0})
expanded_goal p text = do
  e ← heard p text
  goal_heard p e

abbrev pub goal_in : Place → Flavour → List ℕ → Reads (Unit {0})
goal_in p flavour.Simple text = own (set_goal text)
goal_in p flavour.Recursive text = expanded_goal p text

abbrev pub goal_by : Place → Option Var → Reads (Unit {0})
goal_by p None = own (set_goal [])
goal_by p (Some v) = goal_in p v.flavour v.text

unfoldable pub default_goal : Place → Reads (Unit {0})
default_goal p = λ r. goal_by p (value_of r.book.vars (codes ".DEFAULT_GOAL")) r

-- ---- the whole

unfoldable pub read_all : Option (List ℕ) → Reads (Unit {0})
read_all name = do
  m ← makefile_of name
  u ← read_makefile m
  v ← own end_rule
  w ← own end_conditionals
  default_goal (place_of m)

abbrev pub made : Result (Unit {0} × Reading) (ReadNo × Reading) → Result (Book × List ℕ) (ReadNo × List ℕ)
made (Ok p) = Ok (p.1.book, p.1.spoken.said)
made (Err p) = Err (p.0, p.1.spoken.said)

unfoldable pub read_from : Option (List ℕ) → List ℕ → Entries → Steps (List ℕ) ReadNo Book
read_from name cwd vars = λ said o w. (made (read_all name (start cwd vars said) o w).0, (read_all name (start cwd vars said) o w).1)

abbrev pub reading : Order → List ℕ → Entries → Steps (List ℕ) ReadNo Book
reading order cwd defaults = read_from order.makefile cwd (start_vars order.goals order.assigned cwd defaults)

-- ---- a round: where files are noted

-- the start, where files are noted behind these
abbrev pub start_noting : Option Noted → List ℕ → Entries → List ℕ → Reading
start_noting noted cwd vars said = record (start cwd vars said) { noted = noted }

abbrev pub round_with : Book → Noted → Round
round_with b n = record { book = b; files = n.files; missing = n.missing }

abbrev pub round_of : Book → Option Noted → Round
round_of b noted = round_with b (unwrap_or noted nothing_noted)

abbrev pub made_round : Result (Unit {0} × Reading) (ReadNo × Reading) → Result (Round × List ℕ) (ReadNo × List ℕ)
made_round (Ok p) = Ok (round_of p.1.book p.1.noted, p.1.spoken.said)
made_round (Err p) = Err (p.0, p.1.spoken.said)

unfoldable pub round_from : Option Noted → Option (List ℕ) → List ℕ → Entries → Steps (List ℕ) ReadNo Round
round_from noted name cwd vars = λ said o w. (made_round (read_all name (start_noting noted cwd vars said) o w).0, (read_all name (start_noting noted cwd vars said) o w).1)

abbrev pub noting : Option Noted → Order → List ℕ → Entries → Steps (List ℕ) ReadNo Round
noting noted order cwd defaults = round_from noted order.makefile cwd (start_vars order.goals order.assigned cwd defaults)

-- an absent file of `include` is noted instead of refused
abbrev pub round : Order → List ℕ → Entries → Steps (List ℕ) ReadNo Round
round order cwd defaults = noting (Some nothing_noted) order cwd defaults

-- the desk of a reading that has asked nothing
abbrev pub fresh : Workspace
fresh = record { base = 0; job = 0; given = 10000000; fuel = 10000000; count = 0; changes = empty; asked = [] }
