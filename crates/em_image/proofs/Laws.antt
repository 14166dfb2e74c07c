-- The two laws: what is read is the text of the tree, and the text of a tree is read as that tree.
use Rattle.std.proofs.Common.{◌≡◌, ℕ, suc, ◌+◌, ◌-◌, ◌<◌, ◌≤◌, Bool, true, false, cond, not, ◌||◌, inl, inr, eqb, nat_lt, List, [], ◌∷◌, ◌++◌, length, codes, Option, Some, None, Result, Ok, Err, refl, sym, ap, subst, ◌∙◌, append_assoc, arith}
use Rattle.std.specs.Prelude.{IfOk}
use Rattle.std.specs.Str.{bytes_eq}
use Rattle.std.specs.List.{flat_map, list_any, AllByRecursion}
use Rattle.std.specs.FinMap.{entries, insert}
use Rattle.std.proofs.lemmas.Bool.{ltb-false, le-ltb, eqb-true}
use Rattle.std.proofs.lemmas.List.{nil_from_length}
use Rattle.std.proofs.lemmas.List.Concat.{flat_map-cons}
use Rattle.std.proofs.lemmas.Slice.Eq.{bytes_eq-Decides}
use Rattle.em_path.specs.Paths.{root_text}
use Rattle.em_tree.specs.declared.node.Node.TheVariants.{File, Dir, Link}
use Rattle.em_tree.specs.LinkTexts.{IsLinkText}
use Rattle.em_tree.specs.Trees.{Table, IsTree, stamp_in}
use Rattle.em_image.specs.declared.no.Which.{Which}
use Rattle.em_image.specs.declared.no.Which.TheVariants as which
use Rattle.em_image.specs.declared.no.ImageNo.{ImageNo}
use Rattle.em_image.specs.declared.no.ImageNo.TheVariants as no
use Rattle.em_image.specs.declared.cursor.Mark.{Mark}
use Rattle.em_image.specs.declared.header.Sort.{Sort}
use Rattle.em_image.specs.declared.header.Sort.TheVariants as sort
use Rattle.em_image.specs.Image.{Limits, limits, AreLinks, IsImage, node_text, is_link, head_of, entries_text, image_text, is_too_big, is_too_late, broken, broken_by}
use Rattle.em_image.specs.Parts.{◌>>=◌, Gives, Here, fixed_at, text_at, version_in, version_at, head_at, mark_at}
use Rattle.em_image.specs.Reading.{header_at, root_at, root_of, nodes_at, ended, reading, has_bytes, is_end}
use Rattle.em_image.proofs.Fields.{bind_ok, ok_is, first_err, then_err, not_false, chosen, here, fixed_takes, fixed_again}
use Rattle.em_image.proofs.Nodes.{Sound, Says, letter, read_as, mark_for, line_from, spelled, mark_takes, header_takes, header_again}
use Rattle.em_image.proofs.Chain.{Entry, Kept, Follows, insert_all, nodes_take, nodes_again, node_letter, links_are, all_allowed, all_paid}
use Rattle.em_image.proofs.Links.{AllSay, links_from, all_say}
use Rattle.em_image.proofs.Whole.{grown, follows, only_root, entries_root, root_last, root_tree, root_path, root_entry, behind_root}

-- ---- limits

abbrev pub AllKeep : Limits → List Entry → Type 0
AllKeep l es = AllByRecursion (λ e. Kept l e.1) es

either_false : (a b : Bool) → (a || b) ≡ false → (a ≡ false) × (b ≡ false)
either_false true b e = absurd cc
either_false false b e = (refl, e)

filled : (text : List ℕ) → IsLinkText text → 1 ≤ length text
filled [] h = absurd (h.filled refl)
filled (b ∷ text) h = omega arith

pub kept_text : (l : Limits) (text : List ℕ) (stamp : ℕ) → stamp ≤ l.stamp → IsLinkText text → Kept l (Link text stamp)
kept_text l text stamp late h = record { stamp = late; size = (filled text h, h.short); says = h }

kept_from : (l : Limits) (e : Entry) → is_too_big l e ≡ false → is_too_late l e ≡ false → Says e.1 → Kept l e.1
kept_from l (path, File body stamp) big late says = record { stamp = ltb-false _ _ late; size = ltb-false _ _ big; says = tt }
kept_from l (path, Dir stamp) big late says = record { stamp = ltb-false _ _ late; size = tt; says = tt }
kept_from l (path, Link text stamp) big late says = kept_text l text stamp (ltb-false _ _ late) says

all_keep : (l : Limits) (es : List Entry) → list_any (is_too_big l) es ≡ false → list_any (is_too_late l) es ≡ false → AllSay es → AllKeep l es
all_keep l [] big late says = tt
all_keep l (e ∷ es) big late says =
    let a = either_false (is_too_big l e) (list_any (is_too_big l) es) big in
    let b = either_false (is_too_late l e) (list_any (is_too_late l) es) late in
    (kept_from l e a.0 b.0 says.0, all_keep l es a.1 b.1 says.1)

not_big : (l : Limits) (e : Entry) → Kept l e.1 → is_too_big l e ≡ false
not_big l (path, File body stamp) k = le-ltb _ _ k.size
not_big l (path, Dir stamp) k = refl
not_big l (path, Link text stamp) k = refl

none_big : (l : Limits) (es : List Entry) → AllKeep l es → list_any (is_too_big l) es ≡ false
none_big l [] h = refl
none_big l (e ∷ es) h = rw (not_big l e h.0, none_big l es h.1) refl

none_late : (l : Limits) (es : List Entry) → AllKeep l es → list_any (is_too_late l) es ≡ false
none_late l [] h = refl
none_late l (e ∷ es) h = rw (le-ltb l.stamp (stamp_in e.1) h.0.stamp, none_late l es h.1) refl

pub unbroken : (l : Limits) (es : List Entry) → length (entries_text es) ≤ l.image → length es ≤ l.nodes → AllKeep l es → broken_by l es ≡ None
unbroken l es image nodes keep = rw (le-ltb _ _ image, le-ltb _ _ nodes, none_big l es keep, none_late l es keep) refl

no_some : (b : Bool) (w : Which) (o : Option Which) → cond b (Some w) o ≡ None → (b ≡ false) × (o ≡ None)
no_some true w o e = absurd cc
no_some false w o e = (refl, e)

pub record Keeps (l : Limits) (es : List Entry) : Type 0 where
  pub image : length (entries_text es) ≤ l.image
  pub nodes : length es ≤ l.nodes
  pub each : AllKeep l es

keeps : (l : Limits) (es : List Entry) → AllSay es → broken_by l es ≡ None → Keeps l es
keeps l es says e =
    let late = cond (list_any (is_too_late l) es) (Some which.Stamp) None in
    let big = cond (list_any (is_too_big l) es) (Some which.File) late in
    let many = cond (nat_lt l.nodes (length es)) (Some which.Nodes) big in
    let a = no_some (nat_lt l.image (length (entries_text es))) which.Image many e in
    let b = no_some (nat_lt l.nodes (length es)) which.Nodes big a.1 in
    let c = no_some (list_any (is_too_big l) es) which.File late b.1 in
    let d = no_some (list_any (is_too_late l) es) which.Stamp None c.1 in
    record { image = ltb-false _ _ a.0; nodes = ltb-false _ _ b.0; each = all_keep l es c.0 d.0 says }

-- ---- fixed texts

text_takes : (bs : List ℕ) (h after : Here) → text_at bs h ≡ Ok after → h.rest ≡ bs ++ after.rest
unfolding text_at
text_takes [] h after e = ap (λ (x : Here). x.rest) (ok_is h after e)
text_takes (b ∷ bs) h after e =
    let a = bind_ok (fixed_at b h) (λ after. text_at bs after) after e in
    fixed_takes b h a.0 a.1 ∙ ap (λ (t : List ℕ). b ∷ t) (text_takes bs a.0 after a.2)

text_again : (bs : List ℕ) (at : ℕ) (rest : List ℕ) → (end : ℕ) × (text_at bs (here at (bs ++ rest)) ≡ Ok (here end rest))
unfolding text_at
text_again [] at rest = (at, refl)
text_again (b ∷ bs) at rest = let r = text_again bs (at + 1) rest in (r.0, rw (fixed_again b at (bs ++ rest), r.1) refl)

-- ---- the first line

abbrev digit : Bool → ℕ
digit false = 49
digit true = 50

version_in_takes : (at : ℕ) (bs : List ℕ) (x : Bool × Here) → version_in at bs ≡ Ok x → bs ≡ digit x.0 ∷ x.1.rest
version_in_takes at [] x e = absurd cc
version_in_takes at (c ∷ cs) x e =
    let after : Here = here (at + 1) cs in
    let P : Bool × Here → Type 0 = λ y. c ∷ cs ≡ digit y.0 ∷ y.1.rest in
    let cell : (k : ℕ) → eqb c k ≡ true → c ∷ cs ≡ k ∷ cs = λ k t. ap (λ (b : ℕ). b ∷ cs) (eqb-true c k t) in
    elim (chosen (eqb c 49) (Ok (false, after)) (cond (eqb c 50) (Ok (true, after)) (Err (no.Form at))) (Ok x) e) [
      | inl g ↦ subst P (ok_is (false, after) x g.1) (cell 49 g.0)
      | inr g ↦ let k = then_err (eqb c 50) (no.Form at) (Ok (true, after)) x g.1 in subst P (ok_is (true, after) x k.1) (cell 50 k.0)
    ]

version_again : (links : Bool) (at : ℕ) (rest : List ℕ) → version_at (here at (digit links ∷ rest)) ≡ Ok (links, here (at + 1) rest)
version_again false at rest = refl
version_again true at rest = refl

head_parts : (links : Bool) (rest : List ℕ) → codes "EMTREE " ++ digit links ∷ 10 ∷ rest ≡ head_of links ++ rest
head_parts false rest = refl
head_parts true rest = refl

head_takes : (h : Here) (x : Bool × Here) → head_at h ≡ Ok x → h.rest ≡ head_of x.0 ++ x.1.rest
unfolding head_at
head_takes h x e =
    let a = bind_ok (text_at (codes "EMTREE ") h) (λ word. version_at word >>= λ links. fixed_at 10 links.1 >>= λ after. Ok (links.0, after)) x e in
    let b = bind_ok (version_at a.0) (λ links. fixed_at 10 links.1 >>= λ after. Ok (links.0, after)) x a.2 in
    let c = bind_ok (fixed_at 10 b.0.1) (λ after. Ok (b.0.0, after)) x b.2 in
    let tail : a.0.rest ≡ digit b.0.0 ∷ 10 ∷ c.0.rest = version_in_takes a.0.at a.0.rest b.0 b.1 ∙ ap (λ (t : List ℕ). digit b.0.0 ∷ t) (fixed_takes 10 b.0.1 c.0 c.1) in
    let parts : h.rest ≡ head_of b.0.0 ++ c.0.rest = text_takes (codes "EMTREE ") h a.0 a.1 ∙ ap (λ (t : List ℕ). codes "EMTREE " ++ t) tail ∙ head_parts b.0.0 c.0.rest in
    subst (λ (y : Bool × Here). h.rest ≡ head_of y.0 ++ y.1.rest) (ok_is (b.0.0, c.0) x c.2) parts

head_again : (links : Bool) (at : ℕ) (rest : List ℕ) → (end : ℕ) × (head_at (here at (head_of links ++ rest)) ≡ Ok (links, here end rest))
unfolding head_at
head_again links at rest =
    let a = text_again (codes "EMTREE ") at (digit links ∷ 10 ∷ rest) in
    let one : head_at (here at (codes "EMTREE " ++ digit links ∷ 10 ∷ rest)) ≡ Ok (links, here (a.0 + 1 + 1) rest) = rw (a.1, version_again links a.0 (10 ∷ rest)) refl in
    (a.0 + 1 + 1, ap (λ (t : List ℕ). head_at (here at t)) (sym (head_parts links rest)) ∙ one)

-- ---- the root

record RootRead (l : Limits) (bytes : List ℕ) (stamp : ℕ) (rest : List ℕ) : Type 0 where
  parts : bytes ≡ node_text (root_text, Dir stamp) ++ rest
  kept : stamp ≤ l.stamp

no_bytes : (o : Sort) → has_bytes o ≡ false → o ≡ sort.Dir
no_bytes sort.Dir e = refl
no_bytes (sort.File n) e = absurd cc
no_bytes (sort.Link n) e = absurd cc

dir_letter : (m : Mark) (o : Sort) → is_end m ≡ false → mark_for o ≡ read_as m → o ≡ sort.Dir → letter m ≡ 100
dir_letter m o a b c = node_letter m (Dir 0) a (ap mark_for (sym c) ∙ b)

root_parts : (bytes mid rest : List ℕ) (k stamp : ℕ) (o : Sort) (path : List ℕ) → bytes ≡ k ∷ mid → mid ≡ line_from stamp o path rest → k ≡ 100 → o ≡ sort.Dir → path ≡ root_text → bytes ≡ node_text (root_text, Dir stamp) ++ rest
root_parts bytes mid rest k stamp o path a b c d e = a ∙ rw (b, c, d, e) (sym (spelled root_text (Dir stamp) rest))

root_takes : (l : Limits) → Sound l → (links : Bool) (h : Here) (x : ℕ × Here) → root_at l links h ≡ Ok x → RootRead l h.rest x.0 x.1.rest
unfolding root_at
root_takes l s links h x e =
    let m = bind_ok (mark_at links h) (λ m. cond (is_end m.0) (Err (no.Form h.at)) (header_at l m.0 m.1 >>= root_of)) x e in
    let g = first_err (is_end m.0.0) (no.Form h.at) (header_at l m.0.0 m.0.1 >>= root_of) x m.2 in
    let a = bind_ok (header_at l m.0.0 m.0.1) root_of x g.1 in
    let header = a.0.0 in
    let r = first_err (has_bytes header.sort || not (bytes_eq header.path root_text)) (no.Parent header.place) (Ok (header.stamp, a.0.1)) x a.2 in
    let is = either_false (has_bytes header.sort) (not (bytes_eq header.path root_text)) r.0 in
    let path : header.path ≡ root_text = (bytes_eq-Decides header.path root_text).0 (not_false _ is.1) in
    let dir = no_bytes header.sort is.0 in
    let line = header_takes l s m.0.0 m.0.1 a.0 a.1 in
    let parts = root_parts h.rest m.0.1.rest a.0.1.rest (letter m.0.0) header.stamp header.sort header.path (mark_takes links h m.0 m.1).0 line.parts (dir_letter m.0.0 header.sort g.0 line.mark dir) dir path in
    subst (λ (y : ℕ × Here). RootRead l h.rest y.0 y.1.rest) (ok_is (header.stamp, a.0.1) x r.1) (record { parts = parts; kept = line.stamp })

root_again : (l : Limits) → Sound l → (links : Bool) (at stamp : ℕ) (rest : List ℕ) → stamp ≤ l.stamp → (end : ℕ) × (root_at l links (here at (node_text (root_text, Dir stamp) ++ rest)) ≡ Ok (stamp, here end rest))
unfolding root_at
root_again l s links at stamp rest le =
    let a = header_again l s (at + 1) stamp sort.Dir root_text rest le tt root_path in
    let one : root_at l links (here at (100 ∷ line_from stamp sort.Dir root_text rest)) ≡ Ok (stamp, here a.1 rest) = rw a.2 refl in
    (a.1, ap (λ (t : List ℕ). root_at l links (here at t)) (spelled root_text (Dir stamp) rest) ∙ one)

-- ---- the whole

ended_takes : (x : Table × Here) (t : Table) → ended x ≡ Ok t → (x.1.rest ≡ 10 ∷ []) × (x.0 ≡ t)
ended_takes x t e =
    let a = bind_ok (fixed_at 10 x.1) (λ end. cond (eqb (length end.rest) 0) (Ok x.0) (Err (no.Rest end.at))) t e in
    let g = then_err (eqb (length a.0.rest) 0) (no.Rest a.0.at) (Ok x.0) t a.2 in
    let none : a.0.rest ≡ [] = nil_from_length _ (eqb-true _ _ g.0) in
    (fixed_takes 10 x.1 a.0 a.1 ∙ ap (λ (t : List ℕ). 10 ∷ t) none, ok_is x.0 t g.1)

whole_text : (stamp : ℕ) (es : List Entry) → entries_text ((root_text, Dir stamp) ∷ es) ≡ head_of (list_any is_link es) ++ (node_text (root_text, Dir stamp) ++ (flat_map node_text es ++ 46 ∷ 10 ∷ []))
whole_text stamp es =
    let r : Entry = (root_text, Dir stamp) in
    let head = head_of (list_any is_link es) in
    let nodes : flat_map node_text (r ∷ es) ++ 46 ∷ 10 ∷ [] ≡ node_text r ++ (flat_map node_text es ++ 46 ∷ 10 ∷ []) = ap (λ (b : List ℕ). b ++ 46 ∷ 10 ∷ []) (flat_map-cons node_text r es) ∙ append_assoc (node_text r) (flat_map node_text es) (46 ∷ 10 ∷ []) in
    append_assoc head (flat_map node_text (r ∷ es)) (46 ∷ 10 ∷ []) ∙ ap (λ (b : List ℕ). head ++ b) nodes

keep_follows : (l : Limits) (last : List ℕ) (t : Table) (es : List Entry) → Follows l last t es → AllKeep l es
keep_follows l last t [] f = tt
keep_follows l last t (e ∷ es) f = (f.0.kept, keep_follows l e.0 (insert t e.0 e.1) es f.1)

join_text : (bytes a b c d : List ℕ) (head root nodes : List ℕ) → bytes ≡ head ++ a → a ≡ root ++ b → b ≡ nodes ++ 46 ∷ c → c ≡ d → bytes ≡ head ++ (root ++ (nodes ++ 46 ∷ d))
join_text bytes a b c d head root nodes p q r s = p ∙ rw (q, r, s) refl

say_follows : (l : Limits) (last : List ℕ) (t : Table) (es : List Entry) → Follows l last t es → AllSay es
say_follows l last t [] f = tt
say_follows l last t (e ∷ es) f = (f.0.kept.says, say_follows l e.0 (insert t e.0 e.1) es f.1)

read_is : (l : Limits) (bytes : List ℕ) (t : Table) (links : Bool) (stamp : ℕ) (es : List Entry) → length bytes ≤ l.image → bytes ≡ head_of links ++ (node_text (root_text, Dir stamp) ++ (flat_map node_text es ++ 46 ∷ 10 ∷ [])) → list_any is_link es ≡ links
    → stamp ≤ l.stamp → Follows l root_text (only_root stamp) es → suc (length es) ≤ l.nodes → t ≡ insert_all (only_root stamp) es → IsImage bytes t × (broken l t ≡ None)
read_is l bytes t links stamp es long parts some low f count is =
    let g = grown l root_text (only_root stamp) es (root_tree stamp) (root_last stamp) f in
    let list : entries t ≡ (root_text, Dir stamp) ∷ es = ap entries is ∙ g.entries ∙ ap (λ (fs : List Entry). fs ++ es) (entries_root stamp) in
    let head : head_of links ++ (node_text (root_text, Dir stamp) ++ (flat_map node_text es ++ 46 ∷ 10 ∷ [])) ≡ head_of (list_any is_link es) ++ (node_text (root_text, Dir stamp) ++ (flat_map node_text es ++ 46 ∷ 10 ∷ [])) = ap (λ b. head_of b ++ (node_text (root_text, Dir stamp) ++ (flat_map node_text es ++ 46 ∷ 10 ∷ []))) (sym some) in
    let text : bytes ≡ entries_text ((root_text, Dir stamp) ∷ es) = parts ∙ head ∙ sym (whole_text stamp es) in
    let first : Kept l (Dir stamp) = record { stamp = low; size = tt; says = tt } in
    let keep = unbroken l ((root_text, Dir stamp) ∷ es) (subst (λ (b : List ℕ). length b ≤ l.image) text long) count (first, keep_follows l root_text (only_root stamp) es f) in
    let say : AllSay (entries t) = subst AllSay (sym list) (tt, say_follows l root_text (only_root stamp) es f) in
    (record { tree = rw is g.tree; links = links_from t say; text = text ∙ ap entries_text (sym list) }, ap (broken_by l) list ∙ keep)

pub reading_takes : (l : Limits) → Sound l → 0 < l.nodes → (bytes : List ℕ) (t : Table) → reading l bytes ≡ Ok t → IsImage bytes t × (broken l t ≡ None)
unfolding reading
reading_takes l s some bytes t e =
    let start = here 0 bytes in
    let n3 : Bool → ℕ × Here → Result Table ImageNo = λ links root. nodes_at l links links (l.nodes - 1) root_text (only_root root.0) root.1 >>= ended in
    let n2 : Bool × Here → Result Table ImageNo = λ head. root_at l head.0 head.1 >>= n3 head.0 in
    let g = first_err (nat_lt l.image (length bytes)) (no.Limit which.Image l.image) (head_at start >>= n2) t e in
    let a = bind_ok (head_at start) n2 t g.1 in
    let links = a.0.0 in
    let b = bind_ok (root_at l links a.0.1) (n3 links) t a.2 in
    let c = bind_ok (nodes_at l links links (l.nodes - 1) root_text (only_root b.0.0) b.0.1) ended t b.2 in
    let root = root_takes l s links a.0.1 b.0 b.1 in
    let nodes = nodes_take l s links links (l.nodes - 1) root_text (only_root b.0.0) b.0.1 c.0 c.1 in
    let end = ended_takes c.0 t c.2 in
    let parts = join_text bytes a.0.1.rest b.0.1.rest c.0.1.rest (10 ∷ []) (head_of links) (node_text (root_text, Dir b.0.0)) (flat_map node_text nodes.es) (head_takes start a.0 a.1) root.parts nodes.parts end.0 in
    read_is l bytes t links b.0.0 nodes.es (ltb-false _ _ g.0) parts (links_are links nodes.es nodes.allowed nodes.paid) root.kept nodes.follows (omega (arith, nodes.count)) (sym end.1 ∙ nodes.table)

pub reading_again : (l : Limits) → Sound l → (t : Table) → IsTree t → AreLinks t → broken l t ≡ None → reading l (image_text t) ≡ Ok t
unfolding reading
reading_again l s t tree are keep =
    let r = root_entry t tree in
    let es = r.1 in
    let links = list_any is_link es in
    let tail = flat_map node_text es ++ 46 ∷ 10 ∷ [] in
    let body = node_text (root_text, Dir r.0) ++ tail in
    let say : AllSay ((root_text, Dir r.0) ∷ es) = subst AllSay r.2 (all_say t are) in
    let k = keeps l ((root_text, Dir r.0) ∷ es) say (ap (broken_by l) (sym r.2) ∙ keep) in
    let f = follows l t (only_root r.0) ((root_text, Dir r.0) ∷ []) es root_text tree (behind_root t r.0 es r.2) k.each.1 in
    let a = head_again links 0 body in
    let b = root_again l s links a.0 r.0 tail k.each.0.stamp in
    let c = nodes_again l s links links (l.nodes - 1) root_text (only_root r.0) b.0 es (10 ∷ []) f.0 (omega (arith, k.nodes)) (all_allowed links es (λ e. e)) (all_paid links es refl) in
    let long : nat_lt l.image (length (entries_text ((root_text, Dir r.0) ∷ es))) ≡ false = le-ltb _ _ k.image in
    let whole = whole_text r.0 es in
    let small : nat_lt l.image (length (head_of links ++ body)) ≡ false = ap (λ (b : List ℕ). nat_lt l.image (length b)) (sym whole) ∙ long in
    let one : reading l (head_of links ++ body) ≡ Ok (insert_all (only_root r.0) es) = rw (small, a.1, b.1, c.1) refl in
    ap (λ (fs : List Entry). reading l (entries_text fs)) r.2 ∙ ap (reading l) whole ∙ one ∙ ap (λ (u : Table). Ok u) f.1

-- ---- reading under the limits

pub sound : Sound limits
sound = record { stamp = omega arith; file = omega arith }

pub is_found : (bytes : List ℕ) (r : Result Table ImageNo) → Gives (λ t. t) r (reading limits bytes) → IfOk r (λ t. IsImage bytes t × (broken limits t ≡ None))
is_found bytes (Ok t) given = reading_takes limits sound (omega arith) bytes t given
is_found bytes (Err e) given = tt

pub is_only : (bytes : List ℕ) (r : Result Table ImageNo) → Gives (λ t. t) r (reading limits bytes) → (t : Table) → IsImage bytes t → broken limits t ≡ None → Gives (λ u. u) r (Ok t)
is_only bytes r given = λ t is keep. subst (λ f. Gives (λ (u : Table). u) r f) (ap (reading limits) is.text ∙ reading_again limits sound t is.tree is.links keep) given
