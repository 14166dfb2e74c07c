-- How a name is read against a working directory.
--     resolve cwd name        the components that the name comes to
--     resolved_text cwd name      their text
--     read_fault cwd name     why the name is no path: the first of PathNo that applies; none where it is one
use Rattle.std.specs.Prelude.{ℕ, ◌-◌, ◌==◌, ◌||◌, if◌then◌else◌, List, [], ◌∷◌, ◌++◌, length, take, codes, slice_index, nat_lt, Option, Some, None}
use Rattle.std.specs.List.{slice_split, list_any}
use Rattle.std.specs.Str.{bytes_eq}
use Rattle.em_path.specs.declared.path.PathNo.{PathNo}
use Rattle.em_path.specs.declared.path.PathNo.TheVariants.{Empty, Nul, Newline, TooLong, TooDeep}
use Rattle.em_path.specs.Paths.{components, path_text}

-- nothing and `.` stay, `..` goes to the parent, and at the root stays
abbrev pub step : List (List ℕ) → List ℕ → List (List ℕ)
step cs part = if bytes_eq part [] || bytes_eq part (codes ".") then cs else (if bytes_eq part (codes "..") then take (length cs - 1) cs else cs ++ part ∷ [])

abbrev pub walk : List (List ℕ) → List (List ℕ) → List (List ℕ)
walk cs [] = cs
walk cs (part ∷ more) = walk (step cs part) more

-- a name that begins with a slash starts at the root
abbrev pub start_of : List ℕ → List ℕ → List (List ℕ)
start_of cwd name = if slice_index name 0 == 47 then [] else components cwd

abbrev pub resolve : List ℕ → List ℕ → List (List ℕ)
resolve cwd name = walk (start_of cwd name) (slice_split (λ b. b == 47) name)

abbrev pub resolved_text : List ℕ → List ℕ → List ℕ
resolved_text cwd name = path_text (resolve cwd name)

abbrev pub name_fault_of : List ℕ → Option PathNo
name_fault_of name = if length name == 0 then Some Empty else (if list_any (λ b. b == 0) name then Some Nul else (if list_any (λ b. b == 10) name then Some Newline else None))

abbrev pub limit_fault : List ℕ → Option PathNo
limit_fault text = if nat_lt 1024 (length text) then Some TooLong else (if nat_lt 64 (length (components text)) then Some TooDeep else None)

abbrev pub first_of : Option PathNo → Option PathNo → Option PathNo
first_of None other = other
first_of (Some fault) other = Some fault

abbrev pub read_fault : List ℕ → List ℕ → Option PathNo
read_fault cwd name = first_of (name_fault_of name) (limit_fault (resolved_text cwd name))
