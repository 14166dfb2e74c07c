-- The one text of a tree, and what may be written and read.
--     node_text e          the text of a path and its node: `d STAMP PATH\n`, or `f STAMP LENGTH PATH\n`, the bytes and `\n`, or with `l` the text of a link
--     head_of links        `EMTREE 2\n` where there is a link, `EMTREE 1\n` where there is none
--     image_text t         the text of a tree: the head, each node in byte order of the paths, `.\n`
--     AreLinks t           each link of the tree says what a link may say
--     IsImage bytes t      the bytes are the text of the tree t
--     HasOneTree bytes     the bytes are the text of at most one tree
--     Limits, limits       how big an image, a file and a stamp may be, and how many nodes there may be
--     broken l t           the first limit that the tree breaks, in the order image, nodes, file, stamp
--     writing l t          what writing the tree gives
use Rattle.std.specs.Prelude.{◌≡◌, ◌^◌, ◌<◌, ℕ, Bool, true, false, List, [], ◌++◌, length, Option, Some, None, is_some, Result, Ok, Err, nat_lt, if◌then◌else◌, codes, decimal}
use Rattle.std.specs.List.{flat_map, list_any, AllByRecursion}
use Rattle.std.specs.FinMap.{entries, get}
use Rattle.em_tree.specs.declared.node.Node.{Node}
use Rattle.em_tree.specs.declared.node.Node.TheVariants.{File, Dir, Link}
use Rattle.em_tree.specs.LinkTexts.{IsLinkText}
use Rattle.em_tree.specs.Trees.{Table, IsTree, stamp_in, link_of}
use Rattle.em_image.specs.declared.no.Which.{Which}
use Rattle.em_image.specs.declared.no.Which.TheVariants as which
use Rattle.em_image.specs.declared.no.ImageNo.{ImageNo}
use Rattle.em_image.specs.declared.no.ImageNo.TheVariants.{Limit}

-- the bytes of a file, the text of a link; none of a directory
abbrev pub body_of : Node → List ℕ
body_of (File body stamp) = body
body_of (Dir stamp) = []
body_of (Link text stamp) = text

abbrev pub node_text : List ℕ × Node → List ℕ
node_text (path, File body stamp) = codes "f " ++ decimal stamp ++ codes " " ++ decimal (length body) ++ codes " " ++ path ++ codes "\n" ++ body ++ codes "\n"
node_text (path, Dir stamp) = codes "d " ++ decimal stamp ++ codes " " ++ path ++ codes "\n"
node_text (path, Link text stamp) = codes "l " ++ decimal stamp ++ codes " " ++ decimal (length text) ++ codes " " ++ path ++ codes "\n" ++ text ++ codes "\n"

abbrev pub is_link : List ℕ × Node → Bool
is_link e = is_some (link_of (Some e.1))

abbrev pub head_of : Bool → List ℕ
head_of false = codes "EMTREE 1\n"
head_of true = codes "EMTREE 2\n"

abbrev pub entries_text : List (List ℕ × Node) → List ℕ
entries_text es = head_of (list_any is_link es) ++ flat_map node_text es ++ codes ".\n"

abbrev pub image_text : Table → List ℕ
image_text t = entries_text (entries t)

-- 1 to 1,024 bytes without NUL and newline
abbrev pub AreLinks : Table → Type 0
AreLinks t = (p text : List ℕ) (stamp : ℕ) → get t p ≡ Some (Link text stamp) → IsLinkText text

pub record IsImage (bytes : List ℕ) (t : Table) : Type 0 where
  pub tree : IsTree t
  pub links : AreLinks t
  pub text : bytes ≡ image_text t

-- numbers of 64 bits, which a node of the program has
pub record Fits64 (e : List ℕ × Node) : Type 0 where
  pub stamp : stamp_in e.1 < 2 ^ 64
  pub size : length (body_of e.1) < 2 ^ 64

-- each tree has one text by its definition, and a text belongs to at most one tree
abbrev pub HasOneTree : List ℕ → Type 0
HasOneTree bytes = (t u : Table) → AllByRecursion Fits64 (entries t) → AllByRecursion Fits64 (entries u) → IsImage bytes t → IsImage bytes u → t ≡ u

pub record Limits : Type 0 where
  pub image : ℕ
  pub nodes : ℕ
  pub file : ℕ
  pub stamp : ℕ

-- 64 MiB of text, 100,000 nodes, 16 MiB of one file, and stamps of at most 2^62
abbrev pub limits : Limits
limits = record { image = 67108864; nodes = 100000; file = 16777216; stamp = 2 ^ 62 }

-- a file; the text of a link is never too long
abbrev pub is_too_big : Limits → List ℕ × Node → Bool
is_too_big l (path, File body stamp) = nat_lt l.file (length body)
is_too_big l (path, Dir stamp) = false
is_too_big l (path, Link text stamp) = false

abbrev pub is_too_late : Limits → List ℕ × Node → Bool
is_too_late l e = nat_lt l.stamp (stamp_in e.1)

abbrev pub broken_by : Limits → List (List ℕ × Node) → Option Which
broken_by l es =
    if nat_lt l.image (length (entries_text es)) then Some which.Image
    else if nat_lt l.nodes (length es) then Some which.Nodes
    else if list_any (is_too_big l) es then Some which.File
    else if list_any (is_too_late l) es then Some which.Stamp
    else None

abbrev pub broken : Limits → Table → Option Which
broken l t = broken_by l (entries t)

abbrev pub text_unless : Option Which → List (List ℕ × Node) → Result (List ℕ) ImageNo
text_unless None es = Ok (entries_text es)
text_unless (Some w) es = Err (Limit w 0)

abbrev pub writing : Limits → Table → Result (List ℕ) ImageNo
writing l t = text_unless (broken l t) (entries t)
