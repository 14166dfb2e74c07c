-- Words of the laws on pathname expansion: what a job sees on a state, under its own changes.
use Rattle.std.specs.Prelude.{◌≡◌, ◌≢◌, ◌⊎◌, Contains, ℕ, Bool, true, false, List, [], ◌∷◌, Option, Some, None, option_map, unwrap_or, if◌then◌else◌}
use Rattle.std.specs.FinMap.{get}
use Rattle.em_path.specs.Paths.{root_text}
use Rattle.em_path.specs.Reading.{read_fault, resolved_text}
use Rattle.em_tree.specs.declared.node.Kind.TheVariants as kind
use Rattle.em_tree.specs.declared.node.Node.{Node}
use Rattle.em_tree.specs.declared.state.State.{State}
use Rattle.em_tree.specs.Trees.{Changes, kind_of, laid_over}
use Rattle.em_tree.specs.Names.{names_of}
use Rattle.em_view.specs.Names.{with_own}
use Rattle.em_view.specs.Rows.{is_dir}
use Rattle.em_glob.specs.declared.glyph.Glyph.{Glyph}
use Rattle.em_glob.specs.Patterns.{Matches, pieces, is_pattern, bytes_of}
use Rattle.em_pathname.specs.Walking.{name_below}
use Rattle.em_laws.specs.Joined.{BeginsOtherwise}

-- the names in a directory: a directory that the job made has those that are told of its path, or
-- none, and then its own
abbrev pub names_by : Option (Option Node) → State → Changes → List ℕ → Option (List (List ℕ))
names_by (Some n) s d p = if is_dir n then Some (with_own d p (unwrap_or (names_of s.tree p) [])) else None
names_by None s d p = option_map (with_own d p) (names_of s.tree p)

abbrev pub names_seen : State → Changes → List ℕ → Option (List (List ℕ))
names_seen s d p = names_by (get d p) s d p

abbrev pub IsNamed : State → Changes → List ℕ → List ℕ → Type 0
IsNamed s d p n = (ns : List (List ℕ)) × (names_seen s d p ≡ Some ns) × Contains ns n

abbrev pub IsThere : State → Changes → List ℕ → Type 0
IsThere s d p = kind_of (get (laid_over d s.tree) p) ≢ kind.Absent

-- a name that begins with a dot is matched only by a component that begins with one
abbrev pub IsShown : List Glyph → List ℕ → Type 0
IsShown c n = BeginsOtherwise 46 n ⊎ ((g : Glyph) × (gs : List Glyph) × (c ≡ g ∷ gs) × (g.byte ≡ 46))

-- what a component stands for in the directory at a path: where it is a pattern, a name in it that
-- matches, else its own bytes, where something is there
abbrev pub Suits : Bool → State → Changes → List ℕ → List Glyph → List ℕ → List ℕ → Type 0
Suits true s d dir c n path = IsNamed s d dir n × IsShown c n × Matches (pieces c) n
Suits false s d dir c n path = (n ≡ bytes_of c) × IsThere s d path

-- from a name and its path the components lead to another name, each by a name below the one
-- before, which is a path
abbrev pub Leads : State → Changes → List ℕ → List ℕ → List ℕ → List (List Glyph) → List ℕ → Type 0
Leads s d cwd name path [] end = end ≡ name
Leads s d cwd name path (c ∷ cs) end =
    (n : List ℕ) × (read_fault cwd (name_below name n) ≡ None)
    × Suits (is_pattern c) s d path c n (resolved_text cwd (name_below name n))
    × Leads s d cwd (name_below name n) (resolved_text cwd (name_below name n)) cs end

-- where a pattern begins: at the root, or in the working directory, whose name is empty
abbrev pub Begins : List ℕ → List Glyph → List ℕ → List ℕ → Type 0
Begins cwd [] name path = ⊥
Begins cwd (g ∷ gs) name path =
    ((g.byte ≡ 47) × (name ≡ 47 ∷ []) × (path ≡ root_text)) ⊎ ((g.byte ≢ 47) × (name ≡ []) × (path ≡ cwd))
