-- Reading nodes one after the other, as the loop does.
use Rattle.std.proofs.Common.{◌≡◌, ℕ, zero, suc, ◌+◌, ◌-◌, ◌<◌, ◌≤◌, Bool, true, false, List, None, Result, Ok, Err, refl, sym, subst, ◌∙◌, arith}
use Rattle.std.specs.FinMap.{insert, get, entries}
use Rattle.em_path.specs.Paths.{root_text}
use Rattle.em_tree.specs.Trees.{Table, IsTree}
use Rattle.em_image.specs.declared.no.Which.TheVariants as which
use Rattle.em_image.specs.declared.no.ImageNo.{ImageNo}
use Rattle.em_image.specs.declared.no.ImageNo.TheVariants as no
use Rattle.em_image.specs.declared.cursor.Mark.{Mark}
use Rattle.em_image.specs.Image.{limits}
use Rattle.em_image.specs.Parts.{◌>>=◌, Fails, Here, mark_at}
use Rattle.em_image.specs.Reading.{node_at, nodes_at, closed, still_due, is_end}
use Rattle.em_image.proofs.Steps.{fails_then}
use Rattle.em_image.proofs.Laws.{sound}
use Rattle.em_image.proofs.Order.{AllBelow, IsLast, less_is, last_push, get_above}
use Rattle.em_image.proofs.Chain.{Entry, node_takes}
use Rattle.em_image.proofs.Whole.{joined_tree, only_root, root_tree, root_last}

-- a tree of which `last` is the greatest path, and what is still read into it is the whole
pub record Loop (links due : Bool) (left : ℕ) (last : List ℕ) (t : Table) (h : Here) (whole : Result (Table × Here) ImageNo) : Type 0 where
  pub tree : IsTree t
  pub is_last : IsLast last t
  pub so_far : nodes_at limits links due left last t h ≡ whole

pub start : (links : Bool) (left stamp : ℕ) (h : Here) → Loop links links left root_text (only_root stamp) h (nodes_at limits links links left root_text (only_root stamp) h)
start links left stamp h = record { tree = root_tree stamp; is_last = root_last stamp; so_far = refl }

pub mark_fails : (e : ImageNo) (links due : Bool) (left : ℕ) (last : List ℕ) (t : Table) (h : Here) (whole : Result (Table × Here) ImageNo) → Fails e (mark_at links h) → Loop links due left last t h whole → Fails e whole
unfolding nodes_at
mark_fails e links due zero last t h whole f l = subst (λ r. Fails e r) l.so_far (fails_then e (mark_at links h) _ f)
mark_fails e links due (suc left) last t h whole f l = subst (λ r. Fails e r) l.so_far (fails_then e (mark_at links h) _ f)

-- the end, or that a link is due
pub ends_at : (m : Mark) (links due : Bool) (left : ℕ) (last : List ℕ) (t : Table) (h : Here) (whole : Result (Table × Here) ImageNo) (after : Here) → mark_at links h ≡ Ok (m, after) → is_end m ≡ true → Loop links due left last t h whole → whole ≡ closed due h.at t after
unfolding nodes_at
ends_at m links due zero last t h whole after e f l = sym l.so_far ∙ rw (e, f) refl
ends_at m links due (suc left) last t h whole after e f l = sym l.so_far ∙ rw (e, f) refl

pub too_many : (m : Mark) (links due : Bool) (last : List ℕ) (t : Table) (h : Here) (whole : Result (Table × Here) ImageNo) (after : Here) → mark_at links h ≡ Ok (m, after) → is_end m ≡ false → Loop links due 0 last t h whole → whole ≡ Err (no.Limit which.Nodes h.at)
unfolding nodes_at
too_many m links due last t h whole after e f l = sym l.so_far ∙ rw (e, f) refl

-- one more node may come
pub turn : (count i : ℕ) (links due : Bool) (last : List ℕ) (t : Table) (h : Here) (whole : Result (Table × Here) ImageNo) → i < count → Loop links due (count - i) last t h whole → Loop links due (suc (count - (i + 1))) last t h whole
turn count i links due last t h whole lt l = let k : count - i ≡ suc (count - (i + 1)) = omega arith in subst (λ left. Loop links due left last t h whole) k l

pub node_fails : (e : ImageNo) (links due : Bool) (left : ℕ) (m : Mark) (last : List ℕ) (t : Table) (h after : Here) (whole : Result (Table × Here) ImageNo) → mark_at links h ≡ Ok (m, after) → is_end m ≡ false → Fails e (node_at limits m last t after) → Loop links due (suc left) last t h whole → Fails e whole
unfolding nodes_at
node_fails e links due left m last t h after whole a b x l =
    let one : nodes_at limits links due (suc left) last t h ≡ (node_at limits m last t after >>= λ n. nodes_at limits links (still_due due n.0) left n.0.0 (insert t n.0.0 n.0.1) n.1) = rw (a, b) refl in
    subst (λ r. Fails e r) (sym one ∙ l.so_far) (fails_then e (node_at limits m last t after) _ x)

pub node_joins : (m : Mark) (last : List ℕ) (t : Table) (after : Here) (x : Entry × Here) → IsTree t → IsLast last t → node_at limits m last t after ≡ Ok x → IsTree (insert t x.0.0 x.0.1) × IsLast x.0.0 (insert t x.0.0 x.0.1)
node_joins m last t after x tree is-last e =
    let j = (node_takes limits sound m last t after x e).joins in
    let below : AllBelow x.0.0 (entries t) = is-last x.0.0 (less_is _ j.after) in
    (joined_tree limits last t x.0 tree below j, last_push t x.0.0 x.0.1 below)

pub node_absent : (m : Mark) (last : List ℕ) (t : Table) (after : Here) (x : Entry × Here) → IsLast last t → node_at limits m last t after ≡ Ok x → get t x.0.0 ≡ None
node_absent m last t after x is-last e = get_above t x.0.0 (is-last x.0.0 (less_is _ (node_takes limits sound m last t after x e).joins.after))

pub goes_on : (links due : Bool) (left : ℕ) (m : Mark) (last : List ℕ) (t : Table) (h after : Here) (whole : Result (Table × Here) ImageNo) (x : Entry × Here) → mark_at links h ≡ Ok (m, after) → is_end m ≡ false → node_at limits m last t after ≡ Ok x → Loop links due (suc left) last t h whole
    → Loop links (still_due due x.0) left x.0.0 (insert t x.0.0 x.0.1) x.1 whole
unfolding nodes_at
goes_on links due left m last t h after whole x a b n l =
    let one : nodes_at limits links due (suc left) last t h ≡ nodes_at limits links (still_due due x.0) left x.0.0 (insert t x.0.0 x.0.1) x.1 = rw (a, b, n) refl in
    let j = node_joins m last t after x l.tree l.is_last n in
    record { tree = j.0; is_last = j.1; so_far = sym one ∙ l.so_far }

-- no more node may come
pub no_more : (count i : ℕ) (links due : Bool) (last : List ℕ) (t : Table) (h : Here) (whole : Result (Table × Here) ImageNo) → count ≤ i → Loop links due (count - i) last t h whole → Loop links due 0 last t h whole
no_more count i links due last t h whole le l = let k : count - i ≡ 0 = omega arith in subst (λ left. Loop links due left last t h whole) k l
