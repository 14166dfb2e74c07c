-- Reading goes forward: what a part leaves stands behind where it began, and the place of its fault
-- is a byte of the input, or the input's end where it is short.
use Rattle.std.proofs.Common.{◌≡◌, ℕ, zero, suc, ◌+◌, ◌-◌, ◌<◌, ◌≤◌, Bool, true, false, cond, not, ◌||◌, ◌&&◌, eqb, nat_lt, List, [], ◌∷◌, length, take, drop, codes, Result, Ok, Err, refl, sym, ap, subst, ◌∙◌, arith}
use Rattle.std.specs.Str.{bytes_eq}
use Rattle.std.specs.Char.{is_ascii_digit}
use Rattle.std.specs.List.{position_or_len}
use Rattle.std.specs.FinMap.{insert, empty}
use Rattle.std.proofs.lemmas.Bool.{ltb-true, ltb-false, lt-ltb, le-ltb, eqb-false}
use Rattle.std.proofs.lemmas.List.{length-drop, length-take, drop-drop}
use Rattle.em_base.specs.Numbers.{has_no_leading_zero}
use Rattle.em_path.specs.Paths.{root_text, parent_text, is_path}
use Rattle.em_tree.specs.declared.node.Node.{Node}
use Rattle.em_tree.specs.declared.node.Node.TheVariants.{File, Dir, Link}
use Rattle.em_tree.specs.Trees.{Table}
use Rattle.em_image.specs.declared.no.Which.{Which}
use Rattle.em_image.specs.declared.no.Which.TheVariants as which
use Rattle.em_image.specs.declared.no.ImageNo.{ImageNo}
use Rattle.em_image.specs.declared.no.ImageNo.TheVariants as no
use Rattle.em_image.specs.declared.cursor.Mark.{Mark}
use Rattle.em_image.specs.declared.cursor.Mark.TheVariants as mark
use Rattle.em_image.specs.declared.header.Sort.{Sort}
use Rattle.em_image.specs.declared.header.Sort.TheVariants as sort
use Rattle.em_image.specs.Image.{Limits}
use Rattle.em_image.specs.Parts.{◌>>=◌, Here, IsAt, skip, end_of, fixed_at, fixed_in, text_at, version_in, version_at, head_at, mark_at, mark_in, until_at, value, number_at, stamp_at, sort_at, path_at, longest_link, IsSized}
use Rattle.em_image.specs.Reading.{Header, header_at, root_at, root_of, bytes_at, link_by, body_at, node_at, closed, still_due, nodes_at, ended, reading, has_bytes, is_end, is_unfit, is_after, has_dir}
use Rattle.em_image.specs.Faults.{FaultFits}
use Rattle.em_image.proofs.Fields.{bind_ok, here, until_takes}
use Rattle.em_image.proofs.Nodes.{mark_takes, header_takes, Sound}

-- k stands n bytes behind h
pub record Behind (h k : Here) : Type 0 where
  pub n : ℕ
  pub within : n ≤ length h.rest
  pub is : k ≡ skip n h

pub same_end : (h k : Here) → Behind h k → end_of k ≡ end_of h
same_end h k b = let e : end_of (skip b.n h) ≡ end_of h = omega (arith, b.within, length-drop b.n h.rest) in ap end_of b.is ∙ e

pub stay : (h : Here) → Behind h h
stay h = let e : h.at ≡ h.at + 0 = omega arith in record { n = 0; within = omega arith; is = ap (λ (n : ℕ). here n h.rest) e }

two : (i j : ℕ) (r s : List ℕ) → i ≡ j → r ≡ s → here i r ≡ here j s
two i j r s e f = rw (e, f) refl

pub on : (h k j : Here) → Behind h k → Behind k j → Behind h j
on h k j a b =
    let long : b.n ≤ length (drop a.n h.rest) = subst (λ (x : Here). b.n ≤ length x.rest) a.is b.within in
    record {
      n = a.n + b.n;
      within = omega (arith, a.within, long, length-drop a.n h.rest);
      is = b.is ∙ ap (skip b.n) a.is ∙ two (h.at + a.n + b.n) (h.at + (a.n + b.n)) (drop b.n (drop a.n h.rest)) (drop (a.n + b.n) h.rest) (omega arith) (drop-drop b.n a.n h.rest);
    }

-- what a part that begins at h may give
abbrev pub Reads : {A : Type 0} → (A → Here) → Here → Result A ImageNo → Type 0
Reads view h (Ok x) = Behind h (view x)
Reads view h (Err e) = FaultFits (end_of h) e

abbrev pub itself : Here → Here
itself h = h

abbrev pub after : {A : Type 0} → A × Here → Here
after x = x.1

pub behind_of : {A : Type 0} (v : A → Here) (h : Here) (r : Result A ImageNo) (x : A) → Reads v h r → r ≡ Ok x → Behind h (v x)
behind_of v h r x a e = subst (λ (s : Result _ ImageNo). Reads v h s) e a

further : {A : Type 0} (v : A → Here) (h k : Here) (r : Result A ImageNo) → Behind h k → Reads v k r → Reads v h r
further v h k (Ok x) b g = on h k (v x) b g
further v h k (Err e) b g = subst (λ (n : ℕ). FaultFits n e) (same_end h k b) g

then_reads : {A B : Type 0} (v : A → Here) (w : B → Here) (h : Here) (r : Result A ImageNo) (f : A → Result B ImageNo) → Reads v h r → ((x : A) → r ≡ Ok x → Reads w h (f x)) → Reads w h (r >>= f)
then_reads v w h (Ok x) f a g = g x refl
then_reads v w h (Err e) f a g = a

then_on : {A B : Type 0} (v : A → Here) (w : B → Here) (h : Here) (r : Result A ImageNo) (f : A → Result B ImageNo) → Reads v h r → ((x : A) → Reads w (v x) (f x)) → Reads w h (r >>= f)
then_on v w h (Ok x) f a g = further w h (v x) (f x) a (g x)
then_on v w h (Err e) f a g = a

if_reads : {A : Type 0} (v : A → Here) (h : Here) (b : Bool) (x y : Result A ImageNo) → (b ≡ true → Reads v h x) → (b ≡ false → Reads v h y) → Reads v h (cond b x y)
if_reads v h true x y a b = a refl
if_reads v h false x y a b = b refl

-- ---- the parts

step : (at c : ℕ) (cs : List ℕ) → Behind (here at (c ∷ cs)) (here (at + 1) cs)
step at c cs = record { n = 1; within = omega arith; is = refl }

fixed_in_reads : (b at : ℕ) (bs : List ℕ) → Reads itself (here at bs) (fixed_in b at bs)
fixed_in_reads b at [] = omega arith
fixed_in_reads b at (c ∷ cs) = if_reads itself (here at (c ∷ cs)) (eqb c b) (Ok (here (at + 1) cs)) (Err (no.Form at)) (λ _. step at c cs) (λ _. omega arith)

pub fixed_reads : (b : ℕ) (h : Here) → Reads itself h (fixed_at b h)
fixed_reads b h = fixed_in_reads b h.at h.rest

mark_in_reads : (links : Bool) (at : ℕ) (bs : List ℕ) → Reads after (here at bs) (mark_in links at bs)
mark_in_reads links at [] = omega arith
mark_in_reads links at (c ∷ cs) =
    let next : Here = here (at + 1) cs in
    let h : Here = here at (c ∷ cs) in
    let last : Result (Mark × Here) ImageNo = cond (eqb c 46) (Ok (mark.End, next)) (Err (no.Form at)) in
    let link : Result (Mark × Here) ImageNo = cond (links && eqb c 108) (Ok (mark.Link, next)) last in
    let file : Result (Mark × Here) ImageNo = cond (eqb c 102) (Ok (mark.File, next)) link in
    if_reads after h (eqb c 100) (Ok (mark.Dir, next)) file (λ _. step at c cs)
    (λ _. if_reads after h (eqb c 102) (Ok (mark.File, next)) link (λ _. step at c cs)
    (λ _. if_reads after h (links && eqb c 108) (Ok (mark.Link, next)) last (λ _. step at c cs)
    (λ _. if_reads after h (eqb c 46) (Ok (mark.End, next)) (Err (no.Form at)) (λ _. step at c cs) (λ _. omega arith))))

pub mark_reads : (links : Bool) (h : Here) → Reads after h (mark_at links h)
mark_reads links h = mark_in_reads links h.at h.rest

mark_before : (links : Bool) (h : Here) (m : Mark × Here) → mark_at links h ≡ Ok m → h.at < end_of h
mark_before links h m e = omega (arith, ap length (mark_takes links h m e).0)

version_in_reads : (at : ℕ) (bs : List ℕ) → Reads after (here at bs) (version_in at bs)
version_in_reads at [] = omega arith
version_in_reads at (c ∷ cs) =
    let next : Here = here (at + 1) cs in
    let h : Here = here at (c ∷ cs) in
    if_reads after h (eqb c 49) (Ok (false, next)) (cond (eqb c 50) (Ok (true, next)) (Err (no.Form at))) (λ _. step at c cs)
    (λ _. if_reads after h (eqb c 50) (Ok (true, next)) (Err (no.Form at)) (λ _. step at c cs) (λ _. omega arith))

version_reads : (h : Here) → Reads after h (version_at h)
version_reads h = version_in_reads h.at h.rest

pub until_reads : (p : ℕ → Bool) (h : Here) → Reads after h (until_at p h)
until_reads p h =
    let n = position_or_len p h.rest in
    if_reads after h (nat_lt n (length h.rest)) (Ok (take n h.rest, skip n h)) (Err (no.Short (end_of h))) (λ e. let lt : n < length h.rest = ltb-true _ _ e in record { n = n; within = omega arith; is = refl }) (λ _. refl)

until_before : (p : ℕ → Bool) (h : Here) (x : List ℕ × Here) → until_at p h ≡ Ok x → h.at < end_of h
until_before p h x e = omega (arith, (until_takes p h x e).0)

pub text_reads : (bs : List ℕ) (h : Here) → Reads itself h (text_at bs h)
unfolding text_at
text_reads [] h = stay h
text_reads (b ∷ bs) h = then_on itself itself h (fixed_at b h) (λ k. text_at bs k) (fixed_reads b h) (λ k. text_reads bs k)

pub head_reads : (h : Here) → Reads after h (head_at h)
unfolding head_at
head_reads h =
    then_on itself after h (text_at (codes "EMTREE ") h) (λ word. version_at word >>= λ links. fixed_at 10 links.1 >>= λ k. Ok (links.0, k)) (text_reads (codes "EMTREE ") h)
    (λ word. then_on after after word (version_at word) (λ links. fixed_at 10 links.1 >>= λ k. Ok (links.0, k)) (version_reads word)
    (λ links. then_on itself after links.1 (fixed_at 10 links.1) (λ k. Ok (links.0, k)) (fixed_reads 10 links.1) (λ k. stay k)))

pub number_reads : (w : Which) (limit : ℕ) (h : Here) → (h.at < end_of h → FaultFits (end_of h) (no.Limit w h.at)) → Reads after h (number_at w limit h)
unfolding number_at
number_reads w limit h told =
    let p : ℕ → Bool = λ b. not (is_ascii_digit b) in
    then_reads after after h (until_at p h) (λ ds. cond (not (has_no_leading_zero ds.0)) (Err (no.Number h.at)) (cond (nat_lt limit (value ds.0)) (Err (no.Limit w h.at)) (Ok (value ds.0, ds.1)))) (until_reads p h)
    (λ ds e. if_reads after h (not (has_no_leading_zero ds.0)) (Err (no.Number h.at)) (cond (nat_lt limit (value ds.0)) (Err (no.Limit w h.at)) (Ok (value ds.0, ds.1))) (λ _. until_before p h ds e)
    (λ _. if_reads after h (nat_lt limit (value ds.0)) (Err (no.Limit w h.at)) (Ok (value ds.0, ds.1)) (λ _. told (until_before p h ds e)) (λ _. behind_of after h (until_at p h) ds (until_reads p h) e)))

number_before : (w : Which) (limit : ℕ) (h : Here) (x : ℕ × Here) → number_at w limit h ≡ Ok x → h.at < end_of h
unfolding number_at
number_before w limit h x e =
    let p : ℕ → Bool = λ b. not (is_ascii_digit b) in
    let a = bind_ok (until_at p h) (λ ds. cond (not (has_no_leading_zero ds.0)) (Err (no.Number h.at)) (cond (nat_lt limit (value ds.0)) (Err (no.Limit w h.at)) (Ok (value ds.0, ds.1)))) x e in
    until_before p h a.0 a.1

pub stamp_reads : (l : Limits) (h : Here) → Reads after h (stamp_at l h)
unfolding stamp_at
stamp_reads l h =
    then_on itself after h (fixed_at 32 h) (λ a. number_at which.Stamp l.stamp a >>= λ n. fixed_at 32 n.1 >>= λ b. Ok (n.0, b)) (fixed_reads 32 h)
    (λ a. then_on after after a (number_at which.Stamp l.stamp a) (λ n. fixed_at 32 n.1 >>= λ b. Ok (n.0, b)) (number_reads which.Stamp l.stamp a (λ k. k))
    (λ n. then_on itself after n.1 (fixed_at 32 n.1) (λ b. Ok (n.0, b)) (fixed_reads 32 n.1) (λ b. stay b)))

pub sort_reads : (l : Limits) (m : Mark) (h : Here) → Reads after h (sort_at l m h)
unfolding sort_at
sort_reads l mark.Dir h = stay h
sort_reads l mark.End h = stay h
sort_reads l mark.File h =
    then_on after after h (number_at which.File l.file h) (λ n. fixed_at 32 n.1 >>= λ b. Ok (sort.File n.0, b)) (number_reads which.File l.file h (λ k. k))
    (λ n. then_on itself after n.1 (fixed_at 32 n.1) (λ b. Ok (sort.File n.0, b)) (fixed_reads 32 n.1) (λ b. stay b))
sort_reads l mark.Link h =
    then_reads after after h (number_at which.Link longest_link h) (λ n. cond (eqb n.0 0) (Err (no.Limit which.Link h.at)) (fixed_at 32 n.1 >>= λ b. Ok (sort.Link n.0, b))) (number_reads which.Link longest_link h (λ k. k))
    (λ n e. if_reads after h (eqb n.0 0) (Err (no.Limit which.Link h.at)) (fixed_at 32 n.1 >>= λ b. Ok (sort.Link n.0, b)) (λ _. number_before which.Link longest_link h n e)
    (λ _. further after h n.1 (fixed_at 32 n.1 >>= λ b. Ok (sort.Link n.0, b)) (behind_of after h (number_at which.Link longest_link h) n (number_reads which.Link longest_link h (λ k. k)) e)
    (then_on itself after n.1 (fixed_at 32 n.1) (λ b. Ok (sort.Link n.0, b)) (fixed_reads 32 n.1) (λ b. stay b))))

pub path_reads : (h : Here) → Reads after h (path_at h)
unfolding path_at
path_reads h =
    let p : ℕ → Bool = λ b. eqb b 10 in
    then_reads after after h (until_at p h) (λ text. cond (is_path text.0) (Ok (text.0, skip 1 text.1)) (Err (no.Path h.at))) (until_reads p h)
    (λ text e. if_reads after h (is_path text.0) (Ok (text.0, skip 1 text.1)) (Err (no.Path h.at))
    (λ _. let u = until_takes p h text e in let long : 1 ≤ length text.1.rest = omega (arith, u.0, ap length u.2, length-drop (position_or_len p h.rest) h.rest) in
    on h text.1 (skip 1 text.1) (behind_of after h (until_at p h) text (until_reads p h) e) (record { n = 1; within = long; is = refl }))
    (λ _. until_before p h text e))

path_before : (h : Here) (x : List ℕ × Here) → path_at h ≡ Ok x → h.at < end_of h
unfolding path_at
path_before h x e =
    let p : ℕ → Bool = λ b. eqb b 10 in
    let a = bind_ok (until_at p h) (λ text. cond (is_path text.0) (Ok (text.0, skip 1 text.1)) (Err (no.Path h.at))) x e in
    until_before p h a.0 a.1

pub header_reads : (l : Limits) (m : Mark) (h : Here) → Reads after h (header_at l m h)
unfolding header_at
header_reads l m h =
    then_on after after h (stamp_at l h) (λ stamp. sort_at l m stamp.1 >>= λ sort. path_at sort.1 >>= λ path. Ok (record { stamp = stamp.0; sort = sort.0; path = path.0; place = sort.1.at }, path.1)) (stamp_reads l h)
    (λ stamp. then_on after after stamp.1 (sort_at l m stamp.1) (λ sort. path_at sort.1 >>= λ path. Ok (record { stamp = stamp.0; sort = sort.0; path = path.0; place = sort.1.at }, path.1)) (sort_reads l m stamp.1)
    (λ sort. then_on after after sort.1 (path_at sort.1) (λ path. Ok (record { stamp = stamp.0; sort = sort.0; path = path.0; place = sort.1.at }, path.1)) (path_reads sort.1) (λ path. stay path.1)))

header_place : (l : Limits) (m : Mark) (h : Here) (x : Header × Here) → header_at l m h ≡ Ok x → x.0.place < end_of h
unfolding header_at
header_place l m h x e =
    let a = bind_ok (stamp_at l h) (λ stamp. sort_at l m stamp.1 >>= λ sort. path_at sort.1 >>= λ path. Ok (record { stamp = stamp.0; sort = sort.0; path = path.0; place = sort.1.at }, path.1)) x e in
    let b = bind_ok (sort_at l m a.0.1) (λ sort. path_at sort.1 >>= λ path. Ok (record { stamp = a.0.0; sort = sort.0; path = path.0; place = sort.1.at }, path.1)) x a.2 in
    let c = bind_ok (path_at b.0.1) (λ path. Ok (record { stamp = a.0.0; sort = b.0.0; path = path.0; place = b.0.1.at }, path.1)) x b.2 in
    let made : Header × Here = (record { stamp = a.0.0; sort = b.0.0; path = c.0.0; place = b.0.1.at }, c.0.1) in
    let is : made ≡ x = cc in
    let first = same_end h a.0.1 (behind_of after h (stamp_at l h) a.0 (stamp_reads l h) a.1) in
    let second = same_end a.0.1 b.0.1 (behind_of after a.0.1 (sort_at l m a.0.1) b.0 (sort_reads l m a.0.1) b.1) in
    let low : b.0.1.at < end_of h = omega (arith, path_before b.0.1 c.0 c.1, first, second) in
    subst (λ (y : Header × Here). y.0.place < end_of h) is low

pub root_reads : (l : Limits) (links : Bool) (h : Here) → Reads after h (root_at l links h)
unfolding root_at
root_reads l links h =
    then_reads after after h (mark_at links h) (λ m. cond (is_end m.0) (Err (no.Form h.at)) (header_at l m.0 m.1 >>= root_of)) (mark_reads links h)
    (λ m e. if_reads after h (is_end m.0) (Err (no.Form h.at)) (header_at l m.0 m.1 >>= root_of) (λ _. mark_before links h m e)
    (λ _. further after h m.1 (header_at l m.0 m.1 >>= root_of) (behind_of after h (mark_at links h) m (mark_reads links h) e)
    (then_reads after after m.1 (header_at l m.0 m.1) root_of (header_reads l m.0 m.1)
    (λ a g. if_reads after m.1 (has_bytes a.0.sort || not (bytes_eq a.0.path root_text)) (Err (no.Parent a.0.place)) (Ok (a.0.stamp, a.1)) (λ _. header_place l m.0 m.1 a g)
    (λ _. behind_of after m.1 (header_at l m.0 m.1) a (header_reads l m.0 m.1) g)))))

bytes_read : (n : ℕ) (made : List ℕ → Node) (h : Here) → n ≤ length h.rest → Reads after h (bytes_at n made h)
bytes_read n made h long =
    further after h (skip n h) (bytes_at n made h) (record { n = n; within = long; is = refl })
    (then_on itself after (skip n h) (fixed_at 10 (skip n h)) (λ k. Ok (made (take n h.rest), k)) (fixed_reads 10 (skip n h)) (λ k. stay k))

pub body_reads : (stamp : ℕ) (o : Sort) (h : Here) → Reads after h (body_at stamp o h)
unfolding body_at
body_reads stamp sort.Dir h = stay h
body_reads stamp (sort.File n) h =
    if_reads after h (nat_lt (length h.rest) n) (Err (no.Short (end_of h))) (bytes_at n (λ body. File body stamp) h) (λ _. refl)
    (λ e. bytes_read n (λ body. File body stamp) h (ltb-false _ _ e))
body_reads stamp (sort.Link n) h =
    let k = position_or_len is_unfit (take n h.rest) in
    if_reads after h (nat_lt (length h.rest) n) (Err (no.Short (end_of h))) (link_by k stamp n h) (λ _. refl)
    (λ e. if_reads after h (nat_lt k n) (Err (no.Form (h.at + k))) (bytes_at n (λ text. Link text stamp) h) (λ f. omega (arith, ltb-true _ _ f, ltb-false _ _ e))
    (λ _. bytes_read n (λ text. Link text stamp) h (ltb-false _ _ e)))

pub node_reads : (l : Limits) (m : Mark) (last : List ℕ) (t : Table) (h : Here) → Reads after h (node_at l m last t h)
unfolding node_at
node_reads l m last t h =
    let made : Header × Here → Result ((List ℕ × Node) × Here) ImageNo = λ a. body_at a.0.stamp a.0.sort a.1 >>= λ n. Ok ((a.0.path, n.0), n.1) in
    then_reads after after h (header_at l m h) (λ a. cond (not (is_after last a.0.path)) (Err (no.Order a.0.place)) (cond (not (has_dir t (parent_text a.0.path))) (Err (no.Parent a.0.place)) (made a))) (header_reads l m h)
    (λ a e. if_reads after h (not (is_after last a.0.path)) (Err (no.Order a.0.place)) (cond (not (has_dir t (parent_text a.0.path))) (Err (no.Parent a.0.place)) (made a)) (λ _. header_place l m h a e)
    (λ _. if_reads after h (not (has_dir t (parent_text a.0.path))) (Err (no.Parent a.0.place)) (made a) (λ _. header_place l m h a e)
    (λ _. further after h a.1 (made a) (behind_of after h (header_at l m h) a (header_reads l m h) e)
    (then_on after after a.1 (body_at a.0.stamp a.0.sort a.1) (λ n. Ok ((a.0.path, n.0), n.1)) (body_reads a.0.stamp a.0.sort a.1) (λ n. stay n.1)))))

closed_reads : (links due : Bool) (t : Table) (h : Here) (m : Mark × Here) → mark_at links h ≡ Ok m → Reads after h (closed due h.at t m.1)
closed_reads links due t h m e =
    if_reads after h due (Err (no.Form h.at)) (Ok (t, m.1)) (λ _. mark_before links h m e) (λ _. behind_of after h (mark_at links h) m (mark_reads links h) e)

pub nodes_reads : (l : Limits) (links due : Bool) (left : ℕ) (last : List ℕ) (t : Table) (h : Here) → Reads after h (nodes_at l links due left last t h)
unfolding nodes_at
nodes_reads l links due zero last t h =
    then_reads after after h (mark_at links h) (λ m. cond (is_end m.0) (closed due h.at t m.1) (Err (no.Limit which.Nodes h.at))) (mark_reads links h)
    (λ m e. if_reads after h (is_end m.0) (closed due h.at t m.1) (Err (no.Limit which.Nodes h.at)) (λ _. closed_reads links due t h m e) (λ _. mark_before links h m e))
nodes_reads l links due (suc left) last t h =
    let next : (List ℕ × Node) × Here → Result (Table × Here) ImageNo = λ n. nodes_at l links (still_due due n.0) left n.0.0 (insert t n.0.0 n.0.1) n.1 in
    then_reads after after h (mark_at links h) (λ m. cond (is_end m.0) (closed due h.at t m.1) (node_at l m.0 last t m.1 >>= next)) (mark_reads links h)
    (λ m e. if_reads after h (is_end m.0) (closed due h.at t m.1) (node_at l m.0 last t m.1 >>= next) (λ _. closed_reads links due t h m e)
    (λ _. further after h m.1 (node_at l m.0 last t m.1 >>= next) (behind_of after h (mark_at links h) m (mark_reads links h) e)
    (then_on after after m.1 (node_at l m.0 last t m.1) next (node_reads l m.0 last t m.1)
    (λ n. nodes_reads l links (still_due due n.0) left n.0.0 (insert t n.0.0 n.0.1) n.1))))

-- ---- the whole

abbrev Fits : {A : Type 0} → ℕ → Result A ImageNo → Type 0
Fits end (Ok x) = Unit {0}
Fits end (Err e) = FaultFits end e

then_fits : {A B : Type 0} (v : A → Here) (h : Here) (r : Result A ImageNo) (f : A → Result B ImageNo) → Reads v h r → ((x : A) → Fits (end_of (v x)) (f x)) → Fits (end_of h) (r >>= f)
then_fits v h (Ok x) f a g = subst (λ (n : ℕ). Fits n (f x)) (same_end h (v x) a) (g x)
then_fits v h (Err e) f a g = a

if_fits : {A : Type 0} (end : ℕ) (b : Bool) (x y : Result A ImageNo) → (b ≡ true → Fits end x) → (b ≡ false → Fits end y) → Fits end (cond b x y)
if_fits end true x y a b = a refl
if_fits end false x y a b = b refl

ended_fits : (x : Table × Here) → Fits (end_of x.1) (ended x)
ended_fits x =
    then_fits itself x.1 (fixed_at 10 x.1) (λ end. cond (eqb (length end.rest) 0) (Ok x.0) (Err (no.Rest end.at))) (fixed_reads 10 x.1)
    (λ end. if_fits (end_of end) (eqb (length end.rest) 0) (Ok x.0) (Err (no.Rest end.at)) (λ _. tt) (λ e. omega (arith, eqb-false _ _ e)))

pub fault_place : (l : Limits) (bytes : List ℕ) (e : ImageNo) → length bytes ≤ l.image → reading l bytes ≡ Err e → FaultFits (length bytes) e
unfolding reading
fault_place l bytes e low is =
    let start = here 0 bytes in
    let only : ℕ → Table = λ (stamp : ℕ). insert empty root_text (Dir stamp) in
    let nodes : Bool → ℕ × Here → Result Table ImageNo = λ links root. nodes_at l links links (l.nodes - 1) root_text (only root.0) root.1 >>= ended in
    let rest : Result Table ImageNo = head_at start >>= λ head. root_at l head.0 head.1 >>= nodes head.0 in
    let all : Fits (end_of start) rest = then_fits after start (head_at start) (λ head. root_at l head.0 head.1 >>= nodes head.0) (head_reads start)
    (λ head. then_fits after head.1 (root_at l head.0 head.1) (nodes head.0) (root_reads l head.0 head.1)
    (λ root. then_fits after root.1 (nodes_at l head.0 head.0 (l.nodes - 1) root_text (only root.0) root.1) ended (nodes_reads l head.0 head.0 (l.nodes - 1) root_text (only root.0) root.1) ended_fits)) in
    let at : end_of start ≡ length bytes = omega arith in
    let same : rest ≡ Err e = ap (λ b. cond b (Err (no.Limit which.Image l.image)) rest) (sym (le-ltb _ _ low)) ∙ is in
    subst (λ (n : ℕ). FaultFits n e) at (subst (λ (r : Result Table ImageNo). Fits (end_of start) r) same all)

pub fault_long : (l : Limits) (bytes : List ℕ) → l.image < length bytes → reading l bytes ≡ Err (no.Limit which.Image l.image)
unfolding reading
fault_long l bytes high = rw (lt-ltb _ _ high) refl

-- ---- what the code is told of a size

-- a size that was read keeps its limit
pub is_sized : (l : Limits) → Sound l → (m : Mark) (h : Here) (x : Header × Here) → header_at l m h ≡ Ok x → IsSized l x.0.sort
is_sized l s m h x e = (header_takes l s m h x e).sized

-- ---- where a part stands in the input

pub at_start : (whole : List ℕ) → IsAt whole (here 0 whole)
at_start whole = record { low = omega arith; rest = refl }

pub at_behind : (whole : List ℕ) (h k : Here) → IsAt whole h → Behind h k → IsAt whole k
at_behind whole h k a b =
    let len : length h.rest ≡ length whole - h.at = ap length a.rest ∙ length-drop h.at whole in
    let moved : IsAt whole (skip b.n h) = record { low = omega (arith, a.low, b.within, len); rest = ap (drop b.n) a.rest ∙ drop-drop b.n h.at whole } in
    subst (IsAt whole) (sym b.is) moved

pub at_ok : {A : Type 0} (v : A → Here) (whole : List ℕ) (h : Here) (r : Result A ImageNo) (x : A) → IsAt whole h → Reads v h r → r ≡ Ok x → IsAt whole (v x)
at_ok v whole h r x a b e = at_behind whole h (v x) a (behind_of v h r x b e)

-- what is cut out of the input there
pub taken_part : (input : List ℕ) (h : Here) (n : ℕ) → IsAt input h → take (h.at + n - h.at) (drop h.at input) ≡ take n h.rest
taken_part input h n a = let k : h.at + n - h.at ≡ n = omega arith in ap (λ (i : ℕ). take i (drop h.at input)) k ∙ ap (take n) (sym a.rest)

pub taken_text : (p : ℕ → Bool) (input : List ℕ) (h : Here) (x : List ℕ × Here) → IsAt input h → until_at p h ≡ Ok x → take (h.at + length x.0 - h.at) (drop h.at input) ≡ x.0
taken_text p input h x a e =
    let u = until_takes p h x e in
    let n = position_or_len p h.rest in
    let len : length x.0 ≡ n = omega (arith, ap length u.1, length-take n h.rest, u.0) in
    taken_part input h (length x.0) a ∙ ap (λ (i : ℕ). take i h.rest) len ∙ sym u.1

pub long_read : (l : Limits) (bytes : List ℕ) → nat_lt l.image (length bytes) ≡ true → reading l bytes ≡ Err (no.Limit which.Image l.image)
unfolding reading
long_read l bytes high = rw high refl
