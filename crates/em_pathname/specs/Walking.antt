-- Pathname expansion: the names in a tree that match a pattern. It goes from component to
-- component, and keeps the names so far. Slashes that are repeated or trailing leave no trace in
-- them, and `.` and `..` are given only where the pattern has them.
--     components gs              what stands between the slashes of the pattern, without what is empty
--     start cwd gs               where it begins: at the root, or in the working directory, whose name is empty
--     search ..                  a component that is a pattern: the directory's names are asked, and those that match are given
--     look_up ..                 another component: its kind is asked, and the name is given where something is there
--     matching_names cwd gs      the names in the end, in byte order
use Rattle.std.specs.Prelude.{ℕ, ◌==◌, ◌&&◌, ◌||◌, nat_lt, Bool, false, not, List, [], ◌∷◌, ◌++◌, length, map, Option, Some, None, if◌then◌else◌}
use Rattle.std.specs.List.{filter, filter_map, slice_split}
use Rattle.std.specs.Str.{bytes_eq}
use Rattle.std.specs.Ordering.{nat_cmp}
use Rattle.std.specs.Cmp.Lexicographic.{slice_cmp}
use Rattle.std.specs.FinMap as map_of
use Rattle.em_path.specs.declared.path.PathNo.{PathNo}
use Rattle.em_path.specs.Paths.{root_text}
use Rattle.em_path.specs.Reading.{read_fault, resolved_text}
use Rattle.em_tree.specs.declared.node.Kind.{Kind}
use Rattle.em_tree.specs.declared.node.Kind.TheVariants as kind
use Rattle.em_view.specs.declared.no.DeskNo.{DeskNo}
use Rattle.em_view.specs.Actions.{Action, ◌>>=◌, done}
use Rattle.em_view.specs.Rows.{kind_at, names}
use Rattle.em_glob.specs.declared.glyph.Glyph.{Glyph}
use Rattle.em_glob.specs.Patterns.{pieces, fits, is_pattern, bytes_of}
use Rattle.em_pathname.specs.declared.found.PathMatch.{PathMatch}

abbrev pub is_slash : Glyph → Bool
is_slash g = g.byte == 47

abbrev pub components : List Glyph → List (List Glyph)
components gs = filter (λ c. nat_lt 0 (length c)) (slice_split is_slash gs)

-- the first glyph is this byte, quoted or not
abbrev pub begins_with : ℕ → List Glyph → Bool
begins_with b [] = false
begins_with b (g ∷ gs) = g.byte == b

-- the empty pattern has no name to give
abbrev pub start : List ℕ → List Glyph → List PathMatch
start cwd [] = []
start cwd (g ∷ gs) = (if is_slash g then record { name = 47 ∷ []; path = root_text } else record { name = []; path = cwd }) ∷ []

-- the name of what stands in a directory of this name
abbrev pub name_below : List ℕ → List ℕ → List ℕ
name_below [] c = c
name_below (b ∷ bs) c = if bytes_eq (b ∷ bs) (47 ∷ []) then 47 ∷ c else (b ∷ bs) ++ 47 ∷ c

-- a name with its path; none where it is no path
abbrev pub found_by : Option PathNo → List ℕ → List ℕ → Option PathMatch
found_by None cwd name = Some (record { name = name; path = resolved_text cwd name })
found_by (Some fault) cwd name = None

abbrev pub found : List ℕ → List ℕ → Option PathMatch
found cwd name = found_by (read_fault cwd name) cwd name

-- a name that begins with a dot matches only a component that begins with one
abbrev pub is_hidden : List ℕ → Bool
is_hidden [] = false
is_hidden (b ∷ bs) = b == 46

abbrev pub shows : List Glyph → List ℕ → Bool
shows c name = (not (is_hidden name) || begins_with 46 c) && fits (pieces c) name

abbrev pub those_that_match : List ℕ → PathMatch → List Glyph → List (List ℕ) → List PathMatch
those_that_match cwd dir c ns = filter_map (λ n. found cwd (name_below dir.name n)) (filter (shows c) ns)

abbrev pub listed : List ℕ → PathMatch → List Glyph → Option (List (List ℕ)) → List PathMatch
listed cwd dir c None = []
listed cwd dir c (Some ns) = those_that_match cwd dir c ns

unfoldable pub search : List ℕ → List Glyph → PathMatch → Action DeskNo (List PathMatch)
search cwd c dir = do
  ns ← names dir.path
  done (listed cwd dir c ns)

abbrev pub present : Kind → PathMatch → List PathMatch
present kind.Absent f = []
present _ f = f ∷ []

abbrev pub look_up_by : Option PathMatch → Action DeskNo (List PathMatch)
look_up_by None = done []
look_up_by (Some f) = do
  k ← kind_at f.path
  done (present k f)

unfoldable pub look_up : List ℕ → List Glyph → PathMatch → Action DeskNo (List PathMatch)
look_up cwd c dir = look_up_by (found cwd (name_below dir.name (bytes_of c)))

abbrev pub in_dir : List ℕ → List Glyph → PathMatch → Action DeskNo (List PathMatch)
in_dir cwd c dir = if is_pattern c then search cwd c dir else look_up cwd c dir

-- one component, in each directory so far, in order
abbrev pub in_each : List ℕ → List Glyph → List PathMatch → List PathMatch → Action DeskNo (List PathMatch)
in_each cwd c so_far [] = done so_far
in_each cwd c so_far (dir ∷ dirs) = do
  more ← in_dir cwd c dir
  in_each cwd c (so_far ++ more) dirs

abbrev pub walk : List ℕ → List (List Glyph) → List PathMatch → Action DeskNo (List PathMatch)
walk cwd [] dirs = done dirs
walk cwd (c ∷ cs) dirs = do
  next ← in_each cwd c [] dirs
  walk cwd cs next

-- the names in byte order, once each: the keys of the finite map that has them
abbrev pub sorted : List (List ℕ) → List (List ℕ)
sorted ns = map_of.keys (map_of.from_entries {X = Unit {0}} {R = slice_cmp nat_cmp} (map (λ n. (n, tt)) ns))

unfoldable pub matching_names : List ℕ → List Glyph → Action DeskNo (List (List ℕ))
matching_names cwd gs = do
  end ← walk cwd (components gs) (start cwd gs)
  done (sorted (map (λ f. f.name) end))
