-- Where a path leads in a table. The first link on the way is followed: its text is read against
-- the directory in which it stands, what stands behind it in the path is put to that, and the way
-- begins again at the root. `..` in a text is resolved before any link.
--     first_link ls levels p    the first link among the path and the directories above it, from the top
--     on_way ls last p          the same; without `last` the path itself isn't looked at
--     onward p m                the path that the link on the way of p leads to; none where it isn't one
--     led ls last p             where p leads, and how many links were followed, at most 40
--     way_in t p                the path behind the links of a table; none where there are more, or no path
--     node_behind t p           what stands there
use Rattle.std.specs.Prelude.{ℕ, zero, suc, ◌==◌, Bool, true, false, List, [], ◌++◌, length, drop, Option, Some, None, is_some, if◌then◌else◌}
use Rattle.std.specs.Option.{option_or}
use Rattle.std.specs.Str.{bytes_eq}
use Rattle.std.specs.FinMap.{get}
use Rattle.em_path.specs.Paths.{is_path, parent_text}
use Rattle.em_path.specs.Reading.{read_fault, resolved_text}
use Rattle.em_tree.specs.declared.node.Node.{Node}
use Rattle.em_tree.specs.declared.way.Met.{Met}
use Rattle.em_tree.specs.declared.way.Way.{Way}
use Rattle.em_tree.specs.declared.way.Way.TheVariants.{To, TooMany, Bad}
use Rattle.em_tree.specs.declared.way.Led.{Led}
use Rattle.em_tree.specs.Trees.{Table, link_of}

-- the text of the link at a path
abbrev pub Links : Type 0
Links = List ℕ → Option (List ℕ)

-- so many links are followed
abbrev pub most : ℕ
most = 40

-- one more than a path has components
abbrev pub levels : ℕ
levels = 65

abbrev pub met_by : List ℕ → List ℕ → Option (List ℕ) → Option Met
met_by dir p None = None
met_by dir p (Some text) = Some (record { dir = dir; link = p; text = text })

-- the root is no link
abbrev pub first_under : Links → (List ℕ → Option Met) → List ℕ → Option (List ℕ) → Option Met
first_under ls above p None = None
first_under ls above p (Some dir) = option_or (above dir) (met_by dir p (ls p))

abbrev pub first_link : Links → ℕ → List ℕ → Option Met
first_link ls zero p = None
first_link ls (suc left) p = first_under ls (first_link ls left) p (parent_text p)

abbrev pub above_only : (List ℕ → Option Met) → Option (List ℕ) → Option Met
above_only above None = None
above_only above (Some dir) = above dir

abbrev pub on_way : Links → Bool → List ℕ → Option Met
on_way ls true p = first_link ls levels p
on_way ls false p = above_only (first_link ls levels) (parent_text p)

-- nothing before the slash of what stands right under the root
abbrev pub front_of : List ℕ → List ℕ
front_of text = if length text == 1 then [] else text

abbrev pub path_or_none : List ℕ → Option (List ℕ)
path_or_none text = if is_path text then Some text else None

-- `base` in place of the link at the front of the path
abbrev pub moved : List ℕ → List ℕ → List ℕ → Option (List ℕ)
moved base link p = if bytes_eq p link then Some base else path_or_none (front_of base ++ drop (length link) p)

abbrev pub read_or_none : List ℕ → List ℕ → Option (List ℕ)
read_or_none cwd name = if is_some (read_fault cwd name) then None else Some (resolved_text cwd name)

abbrev pub onward_by : List ℕ → Met → Option (List ℕ) → Option (List ℕ)
onward_by p m None = None
onward_by p m (Some base) = moved base m.link p

abbrev pub onward : List ℕ → Met → Option (List ℕ)
onward p m = onward_by p m (read_or_none m.dir m.text)

abbrev pub led_by : (Met → Led) → ℕ → List ℕ → Option Met → Led
led_by follow n p None = record { way = To p; followed = n }
led_by follow n p (Some m) = follow m

-- a link that leads to no path isn't counted
abbrev pub led_on : (List ℕ → Led) → ℕ → Option (List ℕ) → Led
led_on next n None = record { way = Bad; followed = n }
led_on next n (Some q) = next q

abbrev pub led_from : Links → Bool → ℕ → ℕ → List ℕ → Led
led_from ls last zero n p = led_by (λ m. record { way = TooMany; followed = n }) n p (on_way ls last p)
led_from ls last (suc left) n p = led_by (λ m. led_on (led_from ls last left (suc n)) n (onward p m)) n p (on_way ls last p)

unfoldable pub led : Links → Bool → List ℕ → Led
led ls last p = led_from ls last most 0 p

abbrev pub links_in : Table → Links
links_in t p = link_of (get t p)

abbrev pub path_of : Way → Option (List ℕ)
path_of (To p) = Some p
path_of _ = None

abbrev pub way_in : Table → List ℕ → Option (List ℕ)
way_in t p = path_of (led (links_in t) true p).way

abbrev pub node_at : Table → Option (List ℕ) → Option Node
node_at t None = None
node_at t (Some q) = get t q

abbrev pub node_behind : Table → List ℕ → Option Node
node_behind t p = node_at t (way_in t p)
