-- Nodes one after the other: reading them takes the text of the entries that were read, each behind
-- the one before and in a directory read before; and the text of such entries is read again.
use Rattle.std.proofs.Common.{◌≡◌, ℕ, zero, suc, ◌+◌, ◌≤◌, Bool, true, false, cond, not, ◌||◌, ◌&&◌, inl, inr, List, [], ◌∷◌, ◌++◌, length, Result, Ok, Err, refl, sym, ap, subst, ◌∙◌, append_assoc, arith}
use Rattle.std.specs.List.{flat_map, list_any, AllByRecursion}
use Rattle.std.specs.FinMap.{insert}
use Rattle.std.proofs.lemmas.List.Concat.{flat_map-cons}
use Rattle.em_path.specs.Paths.{IsPath, parent_text}
use Rattle.em_tree.specs.declared.node.Node.{Node}
use Rattle.em_tree.specs.declared.node.Node.TheVariants.{File, Dir, Link}
use Rattle.em_tree.specs.Trees.{Table, stamp_in}
use Rattle.em_image.specs.declared.no.Which.TheVariants as which
use Rattle.em_image.specs.declared.no.ImageNo.{ImageNo}
use Rattle.em_image.specs.declared.no.ImageNo.TheVariants as no
use Rattle.em_image.specs.declared.cursor.Mark.{Mark}
use Rattle.em_image.specs.declared.cursor.Mark.TheVariants as mark
use Rattle.em_image.specs.declared.header.Sort.{Sort}
use Rattle.em_image.specs.Image.{Limits, node_text, is_link}
use Rattle.em_image.specs.Parts.{◌>>=◌, Here, mark_at, IsSized}
use Rattle.em_image.specs.Reading.{header_at, body_at, node_at, nodes_at, closed, still_due, is_end, has_dir, is_after}
use Rattle.em_image.proofs.Fields.{bind_ok, ok_is, first_err, then_err, not_false, chosen, here}
use Rattle.em_image.proofs.Nodes.{Sound, Says, MayStand, letter, read_as, mark_of, mark_for, sort_of, node_from, line_from, body_from, spelled, mark_takes, mark_again, header_takes, header_again, body_takes, body_again}

abbrev pub Entry : Type 0
Entry = List ℕ × Node

-- the numbers of a node keep the limits
pub record Kept (l : Limits) (n : Node) : Type 0 where
  pub stamp : stamp_in n ≤ l.stamp
  pub size : IsSized l (sort_of n)
  pub says : Says n

-- a node may stand behind the path last, where t was read
pub record Joins (l : Limits) (last : List ℕ) (t : Table) (e : Entry) : Type 0 where
  pub after : is_after last e.0 ≡ true
  pub parent : has_dir t (parent_text e.0) ≡ true
  pub path : IsPath e.0
  pub kept : Kept l e.1

abbrev pub Follows : Limits → List ℕ → Table → List Entry → Type 0
Follows l last t [] = Unit {0}
Follows l last t (e ∷ es) = Joins l last t e × Follows l e.0 (insert t e.0 e.1) es

abbrev pub insert_all : Table → List Entry → Table
insert_all t [] = t
insert_all t (e ∷ es) = insert_all (insert t e.0 e.1) es

-- ---- one node

whole : (bytes mid rest : List ℕ) (stamp : ℕ) (o : Sort) (path : List ℕ) (n : Node) → bytes ≡ line_from stamp o path mid → mid ≡ body_from n rest → stamp_in n ≡ stamp → sort_of n ≡ o → bytes ≡ node_from path n rest
whole bytes mid rest stamp o path n line body a b = line ∙ rw (← a, ← b, body) refl

pub record NodeRead (l : Limits) (m : Mark) (last : List ℕ) (t : Table) (bytes : List ℕ) (e : Entry) (rest : List ℕ) : Type 0 where
  pub joins : Joins l last t e
  pub parts : bytes ≡ node_from e.0 e.1 rest
  pub mark : mark_of e.1 ≡ read_as m

pub node_takes : (l : Limits) → Sound l → (m : Mark) (last : List ℕ) (t : Table) (h : Here) (x : Entry × Here) → node_at l m last t h ≡ Ok x → NodeRead l m last t h.rest x.0 x.1.rest
unfolding node_at
node_takes l s m last t h x e =
    let a = bind_ok (header_at l m h) (λ h. cond (not (is_after last h.0.path)) (Err (no.Order h.0.place)) (cond (not (has_dir t (parent_text h.0.path))) (Err (no.Parent h.0.place)) (body_at h.0.stamp h.0.sort h.1 >>= λ n. Ok ((h.0.path, n.0), n.1)))) x e in
    let o = first_err (not (is_after last a.0.0.path)) (no.Order a.0.0.place) (cond (not (has_dir t (parent_text a.0.0.path))) (Err (no.Parent a.0.0.place)) (body_at a.0.0.stamp a.0.0.sort a.0.1 >>= λ n. Ok ((a.0.0.path, n.0), n.1))) x a.2 in
    let p = first_err (not (has_dir t (parent_text a.0.0.path))) (no.Parent a.0.0.place) (body_at a.0.0.stamp a.0.0.sort a.0.1 >>= λ n. Ok ((a.0.0.path, n.0), n.1)) x o.1 in
    let b = bind_ok (body_at a.0.0.stamp a.0.0.sort a.0.1) (λ n. Ok ((a.0.0.path, n.0), n.1)) x p.1 in
    let line = header_takes l s m h a.0 a.1 in
    let body = body_takes l a.0.0.stamp a.0.0.sort a.0.1 b.0 line.sized b.1 in
    let n = b.0.0 in
    let kept : Kept l n = record { stamp = rw body.stamp_is line.stamp; size = rw body.sort_is line.sized; says = body.says } in
    let mark : mark_of n ≡ read_as m = ap mark_for body.sort_is ∙ line.mark in
    let parts : h.rest ≡ node_from a.0.0.path n b.0.1.rest = whole h.rest a.0.1.rest b.0.1.rest a.0.0.stamp a.0.0.sort a.0.0.path n line.parts body.parts body.stamp_is body.sort_is in
    subst (λ (y : Entry × Here). NodeRead l m last t h.rest y.0 y.1.rest) (ok_is ((a.0.0.path, n), b.0.1) x b.2)
    (record { joins = record { after = not_false _ o.0; parent = not_false _ p.0; path = line.path; kept = kept }; parts = parts; mark = mark })

node_again : (l : Limits) → Sound l → (last : List ℕ) (t : Table) (at : ℕ) (e : Entry) (rest : List ℕ) → Joins l last t e
    → (end : ℕ) × (node_at l (mark_of e.1) last t (here at (node_from e.0 e.1 rest)) ≡ Ok (e, here end rest))
unfolding node_at
node_again l s last t at e rest j =
    let a = header_again l s at (stamp_in e.1) (sort_of e.1) e.0 (body_from e.1 rest) j.kept.stamp j.kept.size j.path in
    let b = body_again e.1 a.1 rest j.kept.says in
    (b.0, rw (a.2, j.after, j.parent, b.1) refl)

-- ---- all nodes

end_letter : (m : Mark) → is_end m ≡ true → letter m ≡ 46
end_letter mark.Dir e = absurd cc
end_letter mark.File e = absurd cc
end_letter mark.Link e = absurd cc
end_letter mark.End e = refl

pub node_letter : (m : Mark) (n : Node) → is_end m ≡ false → mark_of n ≡ read_as m → letter m ≡ letter (mark_of n)
node_letter mark.Dir n e k = ap letter (sym k)
node_letter mark.File n e k = ap letter (sym k)
node_letter mark.Link n e k = ap letter (sym k)
node_letter mark.End n e k = absurd cc

no_end : (n : Node) → is_end (mark_of n) ≡ false
no_end (File body stamp) = refl
no_end (Dir stamp) = refl
no_end (Link text stamp) = refl

-- ---- links where the head says so

-- there are links only where they may be
abbrev pub Allowed : Bool → List Entry → Type 0
Allowed links es = AllByRecursion (λ e. is_link e ≡ true → links ≡ true) es

-- none is due any more
abbrev pub Paid : Bool → List Entry → Type 0
Paid due es = (due && not (list_any is_link es)) ≡ false

link_stands : (links : Bool) (m : Mark) (e : Entry) → MayStand links m → mark_of e.1 ≡ read_as m → is_link e ≡ true → links ≡ true
link_stands links m (p, File body stamp) h k is = absurd cc
link_stands links m (p, Dir stamp) h k is = absurd cc
link_stands links mark.Dir (p, Link text stamp) h k is = absurd cc
link_stands links mark.File (p, Link text stamp) h k is = absurd cc
link_stands links mark.Link (p, Link text stamp) h k is = h
link_stands links mark.End (p, Link text stamp) h k is = absurd cc

may_stand : (links : Bool) (e : Entry) → (is_link e ≡ true → links ≡ true) → MayStand links (mark_of e.1)
may_stand links (p, File body stamp) h = tt
may_stand links (p, Dir stamp) h = tt
may_stand links (p, Link text stamp) h = h refl

due_more : (d a b : Bool) → ((d && not a) && not b) ≡ (d && not (a || b))
due_more false a b = refl
due_more true true b = refl
due_more true false b = refl

none_due : (d : Bool) → (d && not false) ≡ false → d ≡ false
none_due false e = refl
none_due true e = absurd cc

paid_none : (d : Bool) → d ≡ false → Paid d []
paid_none false e = refl
paid_none true e = absurd cc

-- ---- all nodes in order

pub record NodesRead (l : Limits) (links due : Bool) (left : ℕ) (last : List ℕ) (t : Table) (bytes : List ℕ) (u : Table) (rest : List ℕ) : Type 0 where
  pub es : List Entry
  pub parts : bytes ≡ flat_map node_text es ++ 46 ∷ rest
  pub follows : Follows l last t es
  pub count : length es ≤ left
  pub table : u ≡ insert_all t es
  pub allowed : Allowed links es
  pub paid : Paid due es

pub text_cons : (e : Entry) (es : List Entry) (rest : List ℕ) → flat_map node_text (e ∷ es) ++ rest ≡ letter (mark_of e.1) ∷ node_from e.0 e.1 (flat_map node_text es ++ rest)
text_cons e es rest = ap (λ (b : List ℕ). b ++ rest) (flat_map-cons node_text e es) ∙ append_assoc (node_text e) (flat_map node_text es) rest ∙ spelled e.0 e.1 (flat_map node_text es ++ rest)

ends : (l : Limits) (links due : Bool) (left : ℕ) (last : List ℕ) (t : Table) (h : Here) (m : Mark × Here) (x : Table × Here) → mark_at links h ≡ Ok m → is_end m.0 ≡ true → closed due h.at t m.1 ≡ Ok x → NodesRead l links due left last t h.rest x.0 x.1.rest
ends l links due left last t h m x e is-end is =
    let g = first_err due (no.Form h.at) (Ok (t, m.1)) x is in
    let parts : h.rest ≡ 46 ∷ m.1.rest = (mark_takes links h m e).0 ∙ ap (λ (k : ℕ). k ∷ m.1.rest) (end_letter m.0 is-end) in
    subst (λ (y : Table × Here). NodesRead l links due left last t h.rest y.0 y.1.rest) (ok_is (t, m.1) x g.1)
    (record { es = []; parts = parts; follows = tt; count = omega arith; table = refl; allowed = tt; paid = paid_none due g.0 })

pub nodes_take : (l : Limits) → Sound l → (links due : Bool) (left : ℕ) (last : List ℕ) (t : Table) (h : Here) (x : Table × Here) → nodes_at l links due left last t h ≡ Ok x → NodesRead l links due left last t h.rest x.0 x.1.rest
unfolding nodes_at
nodes_take l s links due zero last t h x e =
    let m = bind_ok (mark_at links h) (λ m. cond (is_end m.0) (closed due h.at t m.1) (Err (no.Limit which.Nodes h.at))) x e in
    let g = then_err (is_end m.0.0) (no.Limit which.Nodes h.at) (closed due h.at t m.0.1) x m.2 in
    ends l links due zero last t h m.0 x m.1 g.0 g.1
nodes_take l s links due (suc left) last t h x e =
    let next : Entry × Here → Result (Table × Here) ImageNo = λ n. nodes_at l links (still_due due n.0) left n.0.0 (insert t n.0.0 n.0.1) n.1 in
    let m = bind_ok (mark_at links h) (λ m. cond (is_end m.0) (closed due h.at t m.1) (node_at l m.0 last t m.1 >>= next)) x e in
    elim (chosen (is_end m.0.0) (closed due h.at t m.0.1) (node_at l m.0.0 last t m.0.1 >>= next) (Ok x) m.2) [
      | inl g ↦ ends l links due (suc left) last t h m.0 x m.1 g.0 g.1
      | inr g ↦
          let n = bind_ok (node_at l m.0.0 last t m.0.1) next x g.1 in
          let one = node_takes l s m.0.0 last t m.0.1 n.0 n.1 in
          let more = nodes_take l s links (still_due due n.0.0) left n.0.0.0 (insert t n.0.0.0 n.0.0.1) n.0.1 x n.2 in
          let mark = mark_takes links h m.0 m.1 in
          let first : h.rest ≡ letter (mark_of n.0.0.1) ∷ node_from n.0.0.0 n.0.0.1 n.0.1.rest = mark.0 ∙ rw (node_letter m.0.0 n.0.0.1 g.0 one.mark, one.parts) refl in
          record {
            es = n.0.0 ∷ more.es;
            parts = first ∙ ap (λ (r : List ℕ). letter (mark_of n.0.0.1) ∷ node_from n.0.0.0 n.0.0.1 r) more.parts ∙ sym (text_cons n.0.0 more.es (46 ∷ x.1.rest));
            follows = (one.joins, more.follows);
            count = omega (arith, more.count);
            table = more.table;
            allowed = (link_stands links m.0.0 n.0.0 mark.1 one.mark, more.allowed);
            paid = sym (due_more due (is_link n.0.0) (list_any is_link more.es)) ∙ more.paid;
          }
    ]

pub nodes_again : (l : Limits) → Sound l → (links due : Bool) (left : ℕ) (last : List ℕ) (t : Table) (at : ℕ) (es : List Entry) (rest : List ℕ) → Follows l last t es → length es ≤ left → Allowed links es → Paid due es
    → (end : ℕ) × (nodes_at l links due left last t (here at (flat_map node_text es ++ 46 ∷ rest)) ≡ Ok (insert_all t es, here end rest))
unfolding nodes_at
nodes_again l s links due zero last t at [] rest f le a p = (at + 1, rw (mark_again links mark.End tt at rest, none_due due p) refl)
nodes_again l s links due (suc left) last t at [] rest f le a p = (at + 1, rw (mark_again links mark.End tt at rest, none_due due p) refl)
nodes_again l s links due zero last t at (e ∷ es) rest f le a p = absurd (omega arith)
nodes_again l s links due (suc left) last t at (e ∷ es) rest f le a p =
    let n = node_again l s last t (at + 1) e (flat_map node_text es ++ 46 ∷ rest) f.0 in
    let more = nodes_again l s links (still_due due e) left e.0 (insert t e.0 e.1) n.0 es rest f.1 (omega arith) a.1 (due_more due (is_link e) (list_any is_link es) ∙ p) in
    let mark = mark_again links (mark_of e.1) (may_stand links e a.0) at (node_from e.0 e.1 (flat_map node_text es ++ 46 ∷ rest)) in
    let one : nodes_at l links due (suc left) last t (here at (letter (mark_of e.1) ∷ node_from e.0 e.1 (flat_map node_text es ++ 46 ∷ rest))) ≡ Ok (insert_all t (e ∷ es), here more.0 rest) = rw (mark, no_end e.1, n.1, more.1) refl in
    (more.0, ap (λ (r : List ℕ). nodes_at l links due (suc left) last t (here at r)) (text_cons e es (46 ∷ rest)) ∙ one)

-- ---- the head and the links

any_allowed : (links : Bool) (es : List Entry) → Allowed links es → list_any is_link es ≡ true → links ≡ true
any_allowed links [] a e = absurd cc
any_allowed links (x ∷ es) a e =
    elim (is_link x) as (λ b. is_link x ≡ b → (b || list_any is_link es) ≡ true → links ≡ true) [
      | true ↦ λ k _. a.0 k
      | false ↦ λ _ k. any_allowed links es a.1 k
    ] refl e

-- the head tells of the links
pub links_are : (links : Bool) (es : List Entry) → Allowed links es → Paid links es → list_any is_link es ≡ links
links_are true es a p = not_false (list_any is_link es) p
links_are false es a p =
    elim (list_any is_link es) as (λ b. list_any is_link es ≡ b → b ≡ false) [
      | true ↦ λ k. sym (any_allowed false es a k)
      | false ↦ λ _. refl
    ] refl

or_right : (a b : Bool) → b ≡ true → (a || b) ≡ true
or_right true b e = refl
or_right false b e = e

pub all_allowed : (links : Bool) (es : List Entry) → (list_any is_link es ≡ true → links ≡ true) → Allowed links es
all_allowed links [] h = tt
all_allowed links (e ∷ es) h = (λ k. h (rw k refl), all_allowed links es (λ k. h (or_right (is_link e) (list_any is_link es) k)))

pub all_paid : (links : Bool) (es : List Entry) → list_any is_link es ≡ links → Paid links es
all_paid true es e = rw e refl
all_paid false es e = refl
