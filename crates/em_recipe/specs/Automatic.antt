-- The automatic variables of a job, as GNU make's manual names them.
--     texts job newer             their names and texts, in order. `newer` are the names that make remaking due
--     with_automatic vars ..      the variables with them
use Rattle.std.specs.Prelude.{ℕ, ◌-◌, ◌==◌, not, List, [], ◌∷◌, ◌++◌, length, map, take, get_or, codes, if◌then◌else◌}
use Rattle.std.specs.List.{filter}
use Rattle.std.specs.Str.{bytes_eq}
use Rattle.em_wordlist.specs.Words.{words_of, joined}
use Rattle.em_namefn.specs.Names.{file_of}
use Rattle.em_vars.specs.Entries.{Entries}
use Rattle.em_expand.specs.Layered.{with_own}
use Rattle.em_plan.specs.declared.planned.Pre.{Pre}
use Rattle.em_plan.specs.declared.planned.PlanJob.{PlanJob}

-- each where it first stands
abbrev pub once : List (List ℕ) → List (List ℕ)
once [] = []
once (x ∷ xs) = x ∷ filter (λ y. not (bytes_eq y x)) (once xs)

abbrev pub names_of : List Pre → List (List ℕ)
names_of pres = map (λ p. p.name) pres

-- the directory of a word, without the slash behind it
abbrev pub dir_part : List ℕ → List ℕ
dir_part w = if length (file_of w) == length w then codes "." else take (length w - length (file_of w) - 1) w

-- a variable, and those of the directories and of the files of its words
abbrev pub with_parts : ℕ → List ℕ → List (List ℕ × List ℕ)
with_parts name text =
    (name ∷ [], text)
    ∷ (name ∷ codes "D", joined (map dir_part (words_of text)))
    ∷ (name ∷ codes "F", joined (map file_of (words_of text)))
    ∷ []

-- `$<`, `$^`, `$+`
abbrev pub normal_texts : List (List ℕ) → List (List ℕ × List ℕ)
normal_texts names = with_parts 60 (get_or names 0 []) ++ with_parts 94 (joined (once names)) ++ with_parts 43 (joined names)

-- `$@`, those, `$?`, `$*`, `$|`
unfoldable pub texts : PlanJob → List (List ℕ) → List (List ℕ × List ℕ)
texts job newer =
    with_parts 64 job.target
    ++ normal_texts (names_of job.normal)
    ++ with_parts 63 (joined (once newer))
    ++ with_parts 42 job.stem
    ++ (codes "|", joined (names_of job.order)) ∷ []

unfoldable pub with_automatic : Entries → PlanJob → List (List ℕ) → Entries
with_automatic vars job newer = with_own vars (texts job newer)
