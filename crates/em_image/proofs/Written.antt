-- Writing: a text that has grown too long stays too long, and a text belongs to at most one tree.
use Rattle.std.proofs.Common.{◌≡◌, ℕ, ◌+◌, ◌-◌, ◌^◌, ◌<◌, ◌≤◌, Bool, true, false, nat_lt, List, [], ◌∷◌, ◌++◌, length, codes, Some, None, Ok, Err, refl, sym, ap, ◌∙◌, arith}
use Rattle.std.specs.List.{flat_map, list_any, AllByRecursion}
use Rattle.std.specs.FinMap.{entries, len, len-entries}
use Rattle.std.proofs.lemmas.Bool.{lt-ltb, le-ltb}
use Rattle.std.proofs.lemmas.List.{length-append}
use Rattle.std.proofs.lemmas.List.Concat.{flat_map-cons}
use Rattle.em_tree.specs.declared.node.Node.TheVariants.{File, Dir, Link}
use Rattle.em_tree.specs.Trees.{Table}
use Rattle.em_image.specs.declared.no.Which.{Which}
use Rattle.em_image.specs.declared.no.Which.TheVariants as which
use Rattle.em_image.specs.declared.no.ImageNo.TheVariants as no
use Rattle.em_image.specs.Image.{Limits, limits, IsImage, Fits64, node_text, is_link, head_of, entries_text, image_text, is_too_big, is_too_late, broken, broken_by, text_unless, writing}
use Rattle.em_image.specs.Reading.{reading}
use Rattle.em_image.proofs.Nodes.{Sound, Says}
use Rattle.em_image.proofs.Fields.{ok_is}
use Rattle.em_image.proofs.Chain.{Entry, Kept}
use Rattle.em_image.proofs.Links.{AllSay, all_say}
use Rattle.em_image.proofs.Laws.{AllKeep, kept_text, unbroken, reading_again}

-- the room that is left, with one entry more or none
pub less_room : (es rest left : List Entry) (e : Entry) (room next : ℕ) → left ≡ e ∷ rest → room + length (entries_text es) ≡ limits.image + length (flat_map node_text left) → next + length (node_text e) ≡ room
    → next + length (entries_text es) ≡ limits.image + length (flat_map node_text rest)
less_room es rest left e room next a so_far b =
    let one : length (flat_map node_text left) ≡ length (node_text e) + length (flat_map node_text rest) = ap (λ (fs : List Entry). length (flat_map node_text fs)) a ∙ ap length (flat_map-cons node_text e rest) ∙ length-append (node_text e) (flat_map node_text rest) in
    omega (arith, one, so_far, b)

pub no_room : (es rest left : List Entry) (e : Entry) (room : ℕ) → left ≡ e ∷ rest → room + length (entries_text es) ≡ limits.image + length (flat_map node_text left) → room < length (node_text e) → limits.image < length (entries_text es)
no_room es rest left e room a so_far b =
    let one : length (flat_map node_text left) ≡ length (node_text e) + length (flat_map node_text rest) = ap (λ (fs : List Entry). length (flat_map node_text fs)) a ∙ ap length (flat_map-cons node_text e rest) ∙ length-append (node_text e) (flat_map node_text rest) in
    omega (arith, one, so_far, b)

head_length : (links : Bool) → length (head_of links) ≡ 9
head_length false = refl
head_length true = refl

pub all_room : (es : List Entry) → 67108853 + length (entries_text es) ≡ limits.image + length (flat_map node_text es)
all_room es =
    let head = head_of (list_any is_link es) in
    omega (arith, head_length (list_any is_link es), length-append (head ++ flat_map node_text es) (codes ".\n"), length-append head (flat_map node_text es))

-- ---- one tree

-- limits that these trees keep
wide : ℕ → ℕ → Limits
wide image nodes = record { image = image; nodes = nodes; file = 2 ^ 64 - 1; stamp = 2 ^ 64 - 1 }

kept_wide : (image nodes : ℕ) (e : Entry) → Fits64 e → Says e.1 → Kept (wide image nodes) e.1
unfolding wide
kept_wide image nodes (path, File body stamp) h says = record { stamp = omega (arith, h.stamp); size = omega (arith, h.size); says = tt }
kept_wide image nodes (path, Dir stamp) h says = record { stamp = omega (arith, h.stamp); size = tt; says = tt }
kept_wide image nodes (path, Link text stamp) h says = kept_text (wide image nodes) text stamp (omega (arith, h.stamp)) says

all_wide : (image nodes : ℕ) (es : List Entry) → AllByRecursion Fits64 es → AllSay es → AllKeep (wide image nodes) es
all_wide image nodes [] h says = tt
all_wide image nodes (e ∷ es) h says = (kept_wide image nodes e h.0 says.0, all_wide image nodes es h.1 says.1)

read_wide : (bytes : List ℕ) (t : Table) (nodes : ℕ) → length (entries t) ≤ nodes → AllByRecursion Fits64 (entries t) → IsImage bytes t → reading (wide (length bytes) nodes) bytes ≡ Ok t
unfolding wide
read_wide bytes t nodes le fits is =
    let l = wide (length bytes) nodes in
    let long : length (image_text t) ≤ length bytes = omega (arith, ap length is.text) in
    let keep : broken l t ≡ None = unbroken l (entries t) long le (all_wide (length bytes) nodes (entries t) fits (all_say t is.links)) in
    let sound : Sound l = record { stamp = omega arith; file = omega arith } in
    ap (reading l) is.text ∙ reading_again l sound t is.tree is.links keep

pub one_tree : (bytes : List ℕ) (t u : Table) → AllByRecursion Fits64 (entries t) → AllByRecursion Fits64 (entries u) → IsImage bytes t → IsImage bytes u → t ≡ u
one_tree bytes t u a b p q =
    let nodes = length (entries t) + length (entries u) in
    ok_is t u (sym (read_wide bytes t nodes (omega arith) a p) ∙ read_wide bytes u nodes (omega arith) b q)

-- ---- the first limit that is broken

pub none_broken : (l : Limits) (es : List Entry) → nat_lt l.image (length (entries_text es)) ≡ false → nat_lt l.nodes (length es) ≡ false → list_any (is_too_big l) es ≡ false → list_any (is_too_late l) es ≡ false → broken_by l es ≡ None
none_broken l es a b c d = rw (a, b, c, d) refl

pub image_broken : (l : Limits) (es : List Entry) → l.image < length (entries_text es) → broken_by l es ≡ Some which.Image
image_broken l es a = rw (lt-ltb _ _ a) refl

pub nodes_broken : (l : Limits) (es : List Entry) → nat_lt l.image (length (entries_text es)) ≡ false → nat_lt l.nodes (length es) ≡ true → broken_by l es ≡ Some which.Nodes
nodes_broken l es a b = rw (a, b) refl

pub file_broken : (l : Limits) (es : List Entry) → nat_lt l.image (length (entries_text es)) ≡ false → nat_lt l.nodes (length es) ≡ false → list_any (is_too_big l) es ≡ true → broken_by l es ≡ Some which.File
file_broken l es a b c = rw (a, b, c) refl

pub stamp_broken : (l : Limits) (es : List Entry) → nat_lt l.image (length (entries_text es)) ≡ false → nat_lt l.nodes (length es) ≡ false → list_any (is_too_big l) es ≡ false → list_any (is_too_late l) es ≡ true → broken_by l es ≡ Some which.Stamp
stamp_broken l es a b c d = rw (a, b, c, d) refl

pub fits_in : (n left limit : ℕ) → left + n ≡ limit → nat_lt limit n ≡ false
fits_in n left limit e = le-ltb _ _ (omega arith)

pub too_many : (t : Table) (n : ℕ) → n ≡ len t → limits.nodes < n → nat_lt limits.nodes (length (entries t)) ≡ true
too_many t n e lt = lt-ltb _ _ (omega (arith, len-entries t, e, lt))

pub few : (t : Table) (n : ℕ) → n ≡ len t → n ≤ limits.nodes → nat_lt limits.nodes (length (entries t)) ≡ false
few t n e le = le-ltb _ _ (omega (arith, len-entries t, e, le))

pub written_gives : (l : Limits) (t : Table) (text : List ℕ) → broken l t ≡ None → text ≡ image_text t → writing l t ≡ Ok text
written_gives l t text e is = ap (λ o. text_unless o (entries t)) e ∙ ap (λ (b : List ℕ). Ok b) (sym is)

pub refused_gives : (l : Limits) (t : Table) (w : Which) → broken l t ≡ Some w → writing l t ≡ Err (no.Limit w 0)
refused_gives l t w e = ap (λ o. text_unless o (entries t)) e
