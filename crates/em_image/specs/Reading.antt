-- An image read from the left: the tree whose text it is, or the first fault with its place.
--     header_at        the line of a node behind its letter
--     root_at          the first node, which is the directory `/`
--     node_at          a further node: its path is greater than the one before and its parent is a directory read before
--     body_at          the bytes of a file, the text of a link
--     nodes_at left    up to so many further nodes, and the `.` of the end, where no link is due
--     reading l bytes  the whole input, under the limits l
use Rattle.std.specs.Prelude.{ℕ, zero, suc, ◌+◌, ◌-◌, Bool, true, false, not, ◌||◌, ◌&&◌, List, length, take, Option, Some, None, Result, Ok, Err, nat_lt, ◌==◌, if◌then◌else◌}
use Rattle.std.specs.Ordering.{nat_cmp, is_lt}
use Rattle.std.specs.Cmp.Lexicographic.{slice_cmp}
use Rattle.std.specs.Str.{bytes_eq}
use Rattle.std.specs.List.{position_or_len}
use Rattle.std.specs.FinMap as map
use Rattle.em_path.specs.Paths.{root_text, parent_text}
use Rattle.em_tree.specs.declared.node.Node.{Node}
use Rattle.em_tree.specs.declared.node.Node.TheVariants.{File, Dir, Link}
use Rattle.em_tree.specs.Trees.{Table}
use Rattle.em_image.specs.declared.no.Which.TheVariants as which
use Rattle.em_image.specs.declared.no.ImageNo.{ImageNo}
use Rattle.em_image.specs.declared.no.ImageNo.TheVariants as no
use Rattle.em_image.specs.declared.cursor.Mark.{Mark}
use Rattle.em_image.specs.declared.cursor.Mark.TheVariants as mark
use Rattle.em_image.specs.declared.header.Sort.{Sort}
use Rattle.em_image.specs.declared.header.Sort.TheVariants as sort
use Rattle.em_image.specs.Image.{Limits, is_link}
use Rattle.em_image.specs.Parts.{◌>>=◌, Here, end_of, skip, fixed_at, head_at, mark_at, stamp_at, sort_at, path_at}

-- what the line of a node says, and where its path stands
pub record Header : Type 0 where
  pub stamp : ℕ
  pub sort : Sort
  pub path : List ℕ
  pub place : ℕ

unfoldable pub header_at : Limits → Mark → Here → Result (Header × Here) ImageNo
header_at l mark here = do
  stamp ← stamp_at l here
  sort ← sort_at l mark stamp.1
  path ← path_at sort.1
  Ok (record { stamp = stamp.0; sort = sort.0; path = path.0; place = sort.1.at }, path.1)

-- NUL and newline, which no link has in its text
abbrev pub is_unfit : ℕ → Bool
is_unfit b = b == 0 || b == 10

-- so many bytes and a newline
abbrev pub bytes_at : ℕ → (List ℕ → Node) → Here → Result (Node × Here) ImageNo
bytes_at n made here = fixed_at 10 (skip n here) >>= λ after. Ok (made (take n here.rest), after)

-- the text of a link, of which `unfit` bytes stand before the first unfit one, if there is any
abbrev pub link_by : ℕ → ℕ → ℕ → Here → Result (Node × Here) ImageNo
link_by unfit stamp n here = if nat_lt unfit n then Err (no.Form (here.at + unfit)) else bytes_at n (λ text. Link text stamp) here

-- of a file its bytes and a newline, of a link its text and a newline, of a directory nothing
unfoldable pub body_at : ℕ → Sort → Here → Result (Node × Here) ImageNo
body_at stamp sort.Dir here = Ok (Dir stamp, here)
body_at stamp (sort.File n) here =
    if nat_lt (length here.rest) n then Err (no.Short (end_of here)) else bytes_at n (λ body. File body stamp) here
body_at stamp (sort.Link n) here =
    if nat_lt (length here.rest) n then Err (no.Short (end_of here)) else link_by (position_or_len is_unfit (take n here.rest)) stamp n here

abbrev pub is_end : Mark → Bool
is_end mark.Dir = false
is_end mark.File = false
is_end mark.Link = false
is_end mark.End = true

abbrev pub has_bytes : Sort → Bool
has_bytes sort.Dir = false
has_bytes (sort.File n) = true
has_bytes (sort.Link n) = true

abbrev pub is_dir : Option Node → Bool
is_dir None = false
is_dir (Some (File body stamp)) = false
is_dir (Some (Dir stamp)) = true
is_dir (Some (Link text stamp)) = false

-- whether a directory stands there
abbrev pub has_dir : Table → Option (List ℕ) → Bool
has_dir t None = false
has_dir t (Some path) = is_dir (map.get t path)

abbrev pub root_of : Header × Here → Result (ℕ × Here) ImageNo
root_of h = if has_bytes h.0.sort || not (bytes_eq h.0.path root_text) then Err (no.Parent h.0.place) else Ok (h.0.stamp, h.1)

-- the stamp of the root
unfoldable pub root_at : Limits → Bool → Here → Result (ℕ × Here) ImageNo
root_at l links here = do
  m ← mark_at links here
  if is_end m.0 then Err (no.Form here.at) else header_at l m.0 m.1 >>= root_of

abbrev pub is_after : List ℕ → List ℕ → Bool
is_after last path = is_lt (slice_cmp nat_cmp last path)

-- a node behind the path last, in a tree of which t was read
unfoldable pub node_at : Limits → Mark → List ℕ → Table → Here → Result ((List ℕ × Node) × Here) ImageNo
node_at l mark last t here = do
  h ← header_at l mark here
  if not (is_after last h.0.path) then Err (no.Order h.0.place)
      else if not (has_dir t (parent_text h.0.path)) then Err (no.Parent h.0.place)
      else body_at h.0.stamp h.0.sort h.1 >>= λ n. Ok ((h.0.path, n.0), n.1)

-- the end at a place, unless a link is due
abbrev pub closed : Bool → ℕ → Table → Here → Result (Table × Here) ImageNo
closed due at t after = if due then Err (no.Form at) else Ok (t, after)

-- a link is due where the head says that there are links, and none was read
abbrev pub still_due : Bool → List ℕ × Node → Bool
still_due due e = due && not (is_link e)

unfoldable pub nodes_at : Limits → Bool → Bool → ℕ → List ℕ → Table → Here → Result (Table × Here) ImageNo
nodes_at l links due zero last t here = do
  m ← mark_at links here
  if is_end m.0 then closed due here.at t m.1 else Err (no.Limit which.Nodes here.at)
nodes_at l links due (suc left) last t here = do
  m ← mark_at links here
  if is_end m.0 then closed due here.at t m.1
      else node_at l m.0 last t m.1 >>= λ n. nodes_at l links (still_due due n.0) left n.0.0 (map.insert t n.0.0 n.0.1) n.1

-- the end line behind its `.`, and nothing after it
abbrev pub ended : Table × Here → Result Table ImageNo
ended x = fixed_at 10 x.1 >>= λ end. if length end.rest == 0 then Ok x.0 else Err (no.Rest end.at)

unfoldable pub reading : Limits → List ℕ → Result Table ImageNo
reading l bytes = if nat_lt l.image (length bytes) then Err (no.Limit which.Image l.image) else do
  head ← head_at (record { at = 0; rest = bytes })
  root ← root_at l head.0 head.1
  all ← nodes_at l head.0 head.0 (l.nodes - 1) root_text (map.insert map.empty root_text (Dir root.0)) root.1
  ended all
