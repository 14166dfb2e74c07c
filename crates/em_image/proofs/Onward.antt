-- Bytes behind the input change neither what a part gives nor its fault, unless it is short there.
use Rattle.std.proofs.Common.{◌≡◌, ℕ, zero, suc, ◌+◌, ◌-◌, ◌<◌, ◌≤◌, Bool, true, false, cond, not, ◌||◌, ◌&&◌, eqb, nat_lt, List, [], ◌∷◌, ◌++◌, length, take, codes, Result, Ok, Err, refl, ap, subst, arith}
use Rattle.std.specs.Str.{bytes_eq}
use Rattle.std.specs.Char.{is_ascii_digit}
use Rattle.std.specs.List.{position_or_len}
use Rattle.std.specs.FinMap.{insert, empty}
use Rattle.std.proofs.lemmas.Bool.{ltb-true, ltb-false, lt-ltb, le-ltb, ne_eqb}
use Rattle.std.proofs.lemmas.List.{length-append, length-drop, take-append-le, drop-append-le}
use Rattle.em_base.specs.Numbers.{has_no_leading_zero}
use Rattle.em_path.specs.Paths.{root_text, parent_text, is_path}
use Rattle.em_tree.specs.declared.node.Node.{Node}
use Rattle.em_tree.specs.declared.node.Node.TheVariants.{File, Dir, Link}
use Rattle.em_tree.specs.Trees.{Table}
use Rattle.em_image.specs.declared.no.Which.{Which}
use Rattle.em_image.specs.declared.no.Which.TheVariants as which
use Rattle.em_image.specs.declared.no.ImageNo.{ImageNo}
use Rattle.em_image.specs.declared.no.ImageNo.TheVariants as no
use Rattle.em_image.specs.declared.cursor.Mark.{Mark}
use Rattle.em_image.specs.declared.cursor.Mark.TheVariants as mark
use Rattle.em_image.specs.declared.header.Sort.{Sort}
use Rattle.em_image.specs.declared.header.Sort.TheVariants as sort
use Rattle.em_image.specs.Image.{Limits}
use Rattle.em_image.specs.Parts.{◌>>=◌, Here, skip, end_of, fixed_at, fixed_in, text_at, version_in, version_at, head_at, mark_at, mark_in, until_at, value, number_at, stamp_at, sort_at, path_at, longest_link}
use Rattle.em_image.specs.Reading.{Header, header_at, root_at, root_of, body_at, node_at, closed, still_due, nodes_at, ended, reading, has_bytes, is_end, is_unfit, is_after, has_dir}
use Rattle.em_image.specs.Faults.{stays}
use Rattle.em_image.proofs.Fields.{here, until_takes}
use Rattle.em_image.proofs.Forward.{Reads, itself, after, same_end, head_reads, root_reads, nodes_reads, fixed_reads}

-- the same place with more bytes behind
abbrev pub grow : List ℕ → Here → Here
grow more h = here h.at (h.rest ++ more)

abbrev pub grow_after : {A : Type 0} → List ℕ → A × Here → A × Here
grow_after more x = (x.0, grow more x.1)

-- what a part gives with more bytes behind, where it gave the first without them
abbrev pub Onward : {A : Type 0} → (A → A) → Result A ImageNo → Result A ImageNo → Type 0
Onward g (Ok x) s = s ≡ Ok (g x)
Onward g (Err e) s = stays e ≡ true → s ≡ Err e

then_onward : {A B : Type 0} (g : A → A) (k : B → B) (r s : Result A ImageNo) (f q : A → Result B ImageNo) → Onward g r s → ((x : A) → r ≡ Ok x → Onward k (f x) (q (g x))) → Onward k (r >>= f) (s >>= q)
then_onward g k (Ok x) s f q a b = rw a (b x refl)
then_onward g k (Err e) s f q a b = λ t. rw (a t) refl

if_onward : {A : Type 0} (g : A → A) (b : Bool) (x y u w : Result A ImageNo) → Onward g x u → Onward g y w → Onward g (cond b x y) (cond b u w)
if_onward g true x y u w a c = a
if_onward g false x y u w a c = c

-- ---- the parts

fixed_in_onward : (more : List ℕ) (b at : ℕ) (bs : List ℕ) → Onward (grow more) (fixed_in b at bs) (fixed_in b at (bs ++ more))
fixed_in_onward more b at [] = λ t. absurd cc
fixed_in_onward more b at (c ∷ cs) = if_onward (grow more) (eqb c b) (Ok (here (at + 1) cs)) (Err (no.Form at)) (Ok (here (at + 1) (cs ++ more))) (Err (no.Form at)) refl (λ _. refl)

fixed_onward : (more : List ℕ) (b : ℕ) (h : Here) → Onward (grow more) (fixed_at b h) (fixed_at b (grow more h))
fixed_onward more b h = fixed_in_onward more b h.at h.rest

mark_in_onward : (more : List ℕ) (links : Bool) (at : ℕ) (bs : List ℕ) → Onward (grow_after more) (mark_in links at bs) (mark_in links at (bs ++ more))
mark_in_onward more links at [] = λ t. absurd cc
mark_in_onward more links at (c ∷ cs) =
    let x : Here = here (at + 1) cs in
    let y : Here = here (at + 1) (cs ++ more) in
    let g : Mark × Here → Mark × Here = grow_after more in
    let last : Here → Result (Mark × Here) ImageNo = λ k. cond (eqb c 46) (Ok (mark.End, k)) (Err (no.Form at)) in
    let link : Here → Result (Mark × Here) ImageNo = λ k. cond (links && eqb c 108) (Ok (mark.Link, k)) (last k) in
    let file : Here → Result (Mark × Here) ImageNo = λ k. cond (eqb c 102) (Ok (mark.File, k)) (link k) in
    if_onward g (eqb c 100) (Ok (mark.Dir, x)) (file x) (Ok (mark.Dir, y)) (file y) refl
    (if_onward g (eqb c 102) (Ok (mark.File, x)) (link x) (Ok (mark.File, y)) (link y) refl
    (if_onward g (links && eqb c 108) (Ok (mark.Link, x)) (last x) (Ok (mark.Link, y)) (last y) refl
    (if_onward g (eqb c 46) (Ok (mark.End, x)) (Err (no.Form at)) (Ok (mark.End, y)) (Err (no.Form at)) refl (λ _. refl))))

mark_onward : (more : List ℕ) (links : Bool) (h : Here) → Onward (grow_after more) (mark_at links h) (mark_at links (grow more h))
mark_onward more links h = mark_in_onward more links h.at h.rest

version_in_onward : (more : List ℕ) (at : ℕ) (bs : List ℕ) → Onward (grow_after more) (version_in at bs) (version_in at (bs ++ more))
version_in_onward more at [] = λ t. absurd cc
version_in_onward more at (c ∷ cs) =
    let x : Here = here (at + 1) cs in
    let y : Here = here (at + 1) (cs ++ more) in
    let g : Bool × Here → Bool × Here = grow_after more in
    let last : Here → Result (Bool × Here) ImageNo = λ k. cond (eqb c 50) (Ok (true, k)) (Err (no.Form at)) in
    if_onward g (eqb c 49) (Ok (false, x)) (last x) (Ok (false, y)) (last y) refl
    (if_onward g (eqb c 50) (Ok (true, x)) (Err (no.Form at)) (Ok (true, y)) (Err (no.Form at)) refl (λ _. refl))

version_onward : (more : List ℕ) (h : Here) → Onward (grow_after more) (version_at h) (version_at (grow more h))
version_onward more h = version_in_onward more h.at h.rest

first_onward : (p : ℕ → Bool) (xs more : List ℕ) → position_or_len p xs < length xs → position_or_len p (xs ++ more) ≡ position_or_len p xs
first_onward p [] more lt = absurd (omega arith)
first_onward p (x ∷ xs) more lt =
    elim (p x) as (λ b. p x ≡ b → position_or_len p (x ∷ xs) < length (x ∷ xs) → position_or_len p ((x ∷ xs) ++ more) ≡ position_or_len p (x ∷ xs)) [
      | true ↦ λ e lt. rw e refl
      | false ↦ λ e lt. let less : 1 + position_or_len p xs < suc (length xs) = rw e at lt in let ih = first_onward p xs more (omega arith) in rw (e, ih) refl
    ] refl lt

until_onward : (more : List ℕ) (p : ℕ → Bool) (h : Here) → Onward (grow_after more) (until_at p h) (until_at p (grow more h))
until_onward more p h =
    let n = position_or_len p h.rest in
    elim (nat_lt n (length h.rest)) as (λ b. nat_lt n (length h.rest) ≡ b → Onward (grow_after more) (cond b (Ok (take n h.rest, skip n h)) (Err (no.Short (end_of h)))) (until_at p (grow more h))) [
      | true ↦ λ e.
          let lt : n < length h.rest = ltb-true _ _ e in
          let first : position_or_len p (h.rest ++ more) ≡ n = first_onward p h.rest more lt in
          let within : nat_lt n (length (h.rest ++ more)) ≡ true = lt-ltb _ _ (omega (arith, length-append h.rest more)) in
          let low : n ≤ length h.rest = omega arith in
          rw (first, within, take-append-le n h.rest more low, drop-append-le n h.rest more low) refl
      | false ↦ λ e t. absurd cc
    ] refl

text_onward : (more : List ℕ) (bs : List ℕ) (h : Here) → Onward (grow more) (text_at bs h) (text_at bs (grow more h))
unfolding text_at
text_onward more [] h = refl
text_onward more (b ∷ bs) h =
    let f : Here → Result Here ImageNo = λ k. text_at bs k in
    then_onward (grow more) (grow more) (fixed_at b h) (fixed_at b (grow more h)) f f (fixed_onward more b h) (λ k _. text_onward more bs k)

number_onward : (more : List ℕ) (w : Which) (limit : ℕ) (h : Here) → Onward (grow_after more) (number_at w limit h) (number_at w limit (grow more h))
unfolding number_at
number_onward more w limit h =
    let p : ℕ → Bool = λ b. not (is_ascii_digit b) in
    let big : Result (ℕ × Here) ImageNo = Err (no.Limit w h.at) in
    let bad : Result (ℕ × Here) ImageNo = Err (no.Number h.at) in
    let f : List ℕ × Here → Result (ℕ × Here) ImageNo = λ ds. cond (not (has_no_leading_zero ds.0)) bad (cond (nat_lt limit (value ds.0)) big (Ok (value ds.0, ds.1))) in
    then_onward (grow_after more) (grow_after more) (until_at p h) (until_at p (grow more h)) f f (until_onward more p h)
    (λ ds _. if_onward (grow_after more) (not (has_no_leading_zero ds.0)) bad (cond (nat_lt limit (value ds.0)) big (Ok (value ds.0, ds.1))) bad (cond (nat_lt limit (value ds.0)) big (Ok (value ds.0, grow more ds.1))) (λ _. refl)
    (if_onward (grow_after more) (nat_lt limit (value ds.0)) big (Ok (value ds.0, ds.1)) big (Ok (value ds.0, grow more ds.1)) (λ _. refl) refl))

-- a byte that ends a value
ends_onward : {A : Type 0} (more : List ℕ) (b : ℕ) (x : A) (h : Here) → Onward (grow_after more) (fixed_at b h >>= λ k. Ok (x, k)) (fixed_at b (grow more h) >>= λ k. Ok (x, k))
ends_onward {A} more b x h =
    let f : Here → Result (A × Here) ImageNo = λ k. Ok (x, k) in
    then_onward (grow more) (grow_after more) (fixed_at b h) (fixed_at b (grow more h)) f f (fixed_onward more b h) (λ k _. refl)

stamp_onward : (more : List ℕ) (l : Limits) (h : Here) → Onward (grow_after more) (stamp_at l h) (stamp_at l (grow more h))
unfolding stamp_at
stamp_onward more l h =
    let g : ℕ × Here → Result (ℕ × Here) ImageNo = λ n. fixed_at 32 n.1 >>= λ b. Ok (n.0, b) in
    let f : Here → Result (ℕ × Here) ImageNo = λ a. number_at which.Stamp l.stamp a >>= g in
    then_onward (grow more) (grow_after more) (fixed_at 32 h) (fixed_at 32 (grow more h)) f f (fixed_onward more 32 h)
    (λ a _. then_onward (grow_after more) (grow_after more) (number_at which.Stamp l.stamp a) (number_at which.Stamp l.stamp (grow more a)) g g (number_onward more which.Stamp l.stamp a) (λ n _. ends_onward more 32 n.0 n.1))

head_onward : (more : List ℕ) (h : Here) → Onward (grow_after more) (head_at h) (head_at (grow more h))
unfolding head_at
head_onward more h =
    let word = codes "EMTREE " in
    let g : Bool × Here → Result (Bool × Here) ImageNo = λ links. fixed_at 10 links.1 >>= λ b. Ok (links.0, b) in
    let f : Here → Result (Bool × Here) ImageNo = λ k. version_at k >>= g in
    then_onward (grow more) (grow_after more) (text_at word h) (text_at word (grow more h)) f f (text_onward more word h)
    (λ k _. then_onward (grow_after more) (grow_after more) (version_at k) (version_at (grow more k)) g g (version_onward more k) (λ links _. ends_onward more 10 links.0 links.1))

sort_onward : (more : List ℕ) (l : Limits) (m : Mark) (h : Here) → Onward (grow_after more) (sort_at l m h) (sort_at l m (grow more h))
unfolding sort_at
sort_onward more l mark.Dir h = refl
sort_onward more l mark.End h = refl
sort_onward more l mark.File h =
    let f : ℕ × Here → Result (Sort × Here) ImageNo = λ n. fixed_at 32 n.1 >>= λ b. Ok (sort.File n.0, b) in
    then_onward (grow_after more) (grow_after more) (number_at which.File l.file h) (number_at which.File l.file (grow more h)) f f (number_onward more which.File l.file h) (λ n _. ends_onward more 32 (sort.File n.0) n.1)
sort_onward more l mark.Link h =
    let bad : Result (Sort × Here) ImageNo = Err (no.Limit which.Link h.at) in
    let g : ℕ × Here → Result (Sort × Here) ImageNo = λ n. fixed_at 32 n.1 >>= λ b. Ok (sort.Link n.0, b) in
    let f : ℕ × Here → Result (Sort × Here) ImageNo = λ n. cond (eqb n.0 0) bad (g n) in
    then_onward (grow_after more) (grow_after more) (number_at which.Link longest_link h) (number_at which.Link longest_link (grow more h)) f f (number_onward more which.Link longest_link h)
    (λ n _. if_onward (grow_after more) (eqb n.0 0) bad (g n) bad (g (grow_after more n)) (λ _. refl) (ends_onward more 32 (sort.Link n.0) n.1))

path_onward : (more : List ℕ) (h : Here) → Onward (grow_after more) (path_at h) (path_at (grow more h))
unfolding path_at
path_onward more h =
    let p : ℕ → Bool = λ b. eqb b 10 in
    let bad : Result (List ℕ × Here) ImageNo = Err (no.Path h.at) in
    let f : List ℕ × Here → Result (List ℕ × Here) ImageNo = λ text. cond (is_path text.0) (Ok (text.0, skip 1 text.1)) bad in
    then_onward (grow_after more) (grow_after more) (until_at p h) (until_at p (grow more h)) f f (until_onward more p h)
    (λ text e.
    let u = until_takes p h text e in
    let long : 1 ≤ length text.1.rest = omega (arith, u.0, ap length u.2, length-drop (position_or_len p h.rest) h.rest) in
    if_onward (grow_after more) (is_path text.0) (Ok (text.0, skip 1 text.1)) bad (Ok (text.0, skip 1 (grow more text.1))) bad (rw (drop-append-le 1 text.1.rest more long) refl) (λ _. refl))

header_onward : (more : List ℕ) (l : Limits) (m : Mark) (h : Here) → Onward (grow_after more) (header_at l m h) (header_at l m (grow more h))
unfolding header_at
header_onward more l m h =
    let made : ℕ → Sort → ℕ → List ℕ → Header = λ stamp o place path. record { stamp = stamp; sort = o; path = path; place = place } in
    let c : ℕ → Sort × Here → List ℕ × Here → Result (Header × Here) ImageNo = λ stamp o path. Ok (made stamp o.0 o.1.at path.0, path.1) in
    let b : ℕ → Sort × Here → Result (Header × Here) ImageNo = λ stamp o. path_at o.1 >>= c stamp o in
    let a : ℕ × Here → Result (Header × Here) ImageNo = λ stamp. sort_at l m stamp.1 >>= b stamp.0 in
    then_onward (grow_after more) (grow_after more) (stamp_at l h) (stamp_at l (grow more h)) a a (stamp_onward more l h)
    (λ stamp _. then_onward (grow_after more) (grow_after more) (sort_at l m stamp.1) (sort_at l m (grow more stamp.1)) (b stamp.0) (b stamp.0) (sort_onward more l m stamp.1)
    (λ o _. then_onward (grow_after more) (grow_after more) (path_at o.1) (path_at (grow more o.1)) (c stamp.0 o) (c stamp.0 (grow_after more o)) (path_onward more o.1) (λ path _. refl)))

root_onward : (more : List ℕ) (l : Limits) (links : Bool) (h : Here) → Onward (grow_after more) (root_at l links h) (root_at l links (grow more h))
unfolding root_at
root_onward more l links h =
    let bad : Result (ℕ × Here) ImageNo = Err (no.Form h.at) in
    let f : Mark × Here → Result (ℕ × Here) ImageNo = λ m. cond (is_end m.0) bad (header_at l m.0 m.1 >>= root_of) in
    then_onward (grow_after more) (grow_after more) (mark_at links h) (mark_at links (grow more h)) f f (mark_onward more links h)
    (λ m _. let k = grow more m.1 in
    if_onward (grow_after more) (is_end m.0) bad (header_at l m.0 m.1 >>= root_of) bad (header_at l m.0 k >>= root_of) (λ _. refl)
    (then_onward (grow_after more) (grow_after more) (header_at l m.0 m.1) (header_at l m.0 k) root_of root_of (header_onward more l m.0 m.1)
    (λ a _. if_onward (grow_after more) (has_bytes a.0.sort || not (bytes_eq a.0.path root_text)) (Err (no.Parent a.0.place)) (Ok (a.0.stamp, a.1)) (Err (no.Parent a.0.place)) (Ok (a.0.stamp, grow more a.1)) (λ _. refl) refl)))

-- what is taken of the bytes, once they are enough
whole_onward : (more : List ℕ) (n : ℕ) (h : Here) (made : List ℕ → Here → Result (Node × Here) ImageNo) → ((t : List ℕ) → n ≤ length h.rest → Onward (grow_after more) (made t h) (made t (grow more h)))
    → Onward (grow_after more) (cond (nat_lt (length h.rest) n) (Err (no.Short (end_of h))) (made (take n h.rest) h)) (cond (nat_lt (length (h.rest ++ more)) n) (Err (no.Short (end_of (grow more h)))) (made (take n (h.rest ++ more)) (grow more h)))
whole_onward more n h made on =
    elim (nat_lt (length h.rest) n) as (λ b. nat_lt (length h.rest) n ≡ b → Onward (grow_after more) (cond b (Err (no.Short (end_of h))) (made (take n h.rest) h)) (cond (nat_lt (length (h.rest ++ more)) n) (Err (no.Short (end_of (grow more h)))) (made (take n (h.rest ++ more)) (grow more h)))) [
      | true ↦ λ e t. absurd cc
      | false ↦ λ e.
          let low : n ≤ length h.rest = ltb-false _ _ e in
          let within : nat_lt (length (h.rest ++ more)) n ≡ false = le-ltb _ _ (omega (arith, length-append h.rest more)) in
          rw (within, take-append-le n h.rest more low) (on (take n h.rest) low)
    ] refl

-- a value behind so many bytes, and a newline
behind_onward : (more : List ℕ) (n : ℕ) (v : Node) (h : Here) → n ≤ length h.rest → Onward (grow_after more) (fixed_at 10 (skip n h) >>= λ k. Ok (v, k)) (fixed_at 10 (skip n (grow more h)) >>= λ k. Ok (v, k))
behind_onward more n v h low = rw (drop-append-le n h.rest more low) (ends_onward more 10 v (skip n h))

body_onward : (more : List ℕ) (stamp : ℕ) (o : Sort) (h : Here) → Onward (grow_after more) (body_at stamp o h) (body_at stamp o (grow more h))
unfolding body_at
body_onward more stamp sort.Dir h = refl
body_onward more stamp (sort.File n) h =
    whole_onward more n h (λ t k. fixed_at 10 (skip n k) >>= λ j. Ok (File t stamp, j)) (λ t low. behind_onward more n (File t stamp) h low)
body_onward more stamp (sort.Link n) h =
    let unfit : List ℕ → Here → Result (Node × Here) ImageNo = λ t k. Err (no.Form (k.at + position_or_len is_unfit t)) in
    let fit : List ℕ → Here → Result (Node × Here) ImageNo = λ t k. fixed_at 10 (skip n k) >>= λ j. Ok (Link t stamp, j) in
    whole_onward more n h (λ t k. cond (nat_lt (position_or_len is_unfit t) n) (unfit t k) (fit t k))
    (λ t low. if_onward (grow_after more) (nat_lt (position_or_len is_unfit t) n) (unfit t h) (fit t h) (unfit t (grow more h)) (fit t (grow more h)) (λ _. refl) (behind_onward more n (Link t stamp) h low))

node_onward : (more : List ℕ) (l : Limits) (m : Mark) (last : List ℕ) (t : Table) (h : Here) → Onward (grow_after more) (node_at l m last t h) (node_at l m last t (grow more h))
unfolding node_at
node_onward more l m last t h =
    let late : Header → Result ((List ℕ × Node) × Here) ImageNo = λ a. Err (no.Order a.place) in
    let lost : Header → Result ((List ℕ × Node) × Here) ImageNo = λ a. Err (no.Parent a.place) in
    let made : Header → Node × Here → Result ((List ℕ × Node) × Here) ImageNo = λ a n. Ok ((a.path, n.0), n.1) in
    let body : Header → Here → Result ((List ℕ × Node) × Here) ImageNo = λ a k. body_at a.stamp a.sort k >>= made a in
    let under : Header → Here → Result ((List ℕ × Node) × Here) ImageNo = λ a k. cond (not (has_dir t (parent_text a.path))) (lost a) (body a k) in
    let f : Header × Here → Result ((List ℕ × Node) × Here) ImageNo = λ a. cond (not (is_after last a.0.path)) (late a.0) (under a.0 a.1) in
    then_onward (grow_after more) (grow_after more) (header_at l m h) (header_at l m (grow more h)) f f (header_onward more l m h)
    (λ a _. let k = grow more a.1 in
    if_onward (grow_after more) (not (is_after last a.0.path)) (late a.0) (under a.0 a.1) (late a.0) (under a.0 k) (λ _. refl)
    (if_onward (grow_after more) (not (has_dir t (parent_text a.0.path))) (lost a.0) (body a.0 a.1) (lost a.0) (body a.0 k) (λ _. refl)
    (then_onward (grow_after more) (grow_after more) (body_at a.0.stamp a.0.sort a.1) (body_at a.0.stamp a.0.sort k) (made a.0) (made a.0) (body_onward more a.0.stamp a.0.sort a.1) (λ n _. refl))))

closed_onward : (more : List ℕ) (due : Bool) (at : ℕ) (t : Table) (k : Here) → Onward (grow_after more) (closed due at t k) (closed due at t (grow more k))
closed_onward more due at t k = if_onward (grow_after more) due (Err (no.Form at)) (Ok (t, k)) (Err (no.Form at)) (Ok (t, grow more k)) (λ _. refl) refl

nodes_onward : (more : List ℕ) (l : Limits) (links due : Bool) (left : ℕ) (last : List ℕ) (t : Table) (h : Here) → Onward (grow_after more) (nodes_at l links due left last t h) (nodes_at l links due left last t (grow more h))
unfolding nodes_at
nodes_onward more l links due zero last t h =
    let full : Result (Table × Here) ImageNo = Err (no.Limit which.Nodes h.at) in
    let f : Mark × Here → Result (Table × Here) ImageNo = λ m. cond (is_end m.0) (closed due h.at t m.1) full in
    then_onward (grow_after more) (grow_after more) (mark_at links h) (mark_at links (grow more h)) f f (mark_onward more links h)
    (λ m _. if_onward (grow_after more) (is_end m.0) (closed due h.at t m.1) full (closed due h.at t (grow more m.1)) full (closed_onward more due h.at t m.1) (λ _. refl))
nodes_onward more l links due (suc left) last t h =
    let on : (List ℕ × Node) × Here → Result (Table × Here) ImageNo = λ n. nodes_at l links (still_due due n.0) left n.0.0 (insert t n.0.0 n.0.1) n.1 in
    let next : Mark → Here → Result (Table × Here) ImageNo = λ m k. node_at l m last t k >>= on in
    let f : Mark × Here → Result (Table × Here) ImageNo = λ m. cond (is_end m.0) (closed due h.at t m.1) (next m.0 m.1) in
    then_onward (grow_after more) (grow_after more) (mark_at links h) (mark_at links (grow more h)) f f (mark_onward more links h)
    (λ m _. let k = grow more m.1 in
    if_onward (grow_after more) (is_end m.0) (closed due h.at t m.1) (next m.0 m.1) (closed due h.at t k) (next m.0 k) (closed_onward more due h.at t m.1)
    (then_onward (grow_after more) (grow_after more) (node_at l m.0 last t m.1) (node_at l m.0 last t k) on on (node_onward more l m.0 last t m.1)
    (λ n _. nodes_onward more l links (still_due due n.0) left n.0.0 (insert t n.0.0 n.0.1) n.1)))

-- ---- the whole

-- what the whole gives with more bytes behind its end
abbrev Ends : {A : Type 0} → ℕ → List ℕ → Result A ImageNo → Result A ImageNo → Type 0
Ends end more (Ok x) s = 0 < length more → s ≡ Err (no.Rest end)
Ends end more (Err e) s = stays e ≡ true → s ≡ Err e

then_ends : {A B : Type 0} (v : A → Here) (g : A → A) (h : Here) (more : List ℕ) (r s : Result A ImageNo) (f : A → Result B ImageNo) → Reads v h r → Onward g r s → ((x : A) → Ends (end_of (v x)) more (f x) (f (g x))) → Ends (end_of h) more (r >>= f) (s >>= f)
then_ends v g h more (Ok x) s f a b c = rw b (subst (λ (n : ℕ). Ends n more (f x) (f (g x))) (same_end h (v x) a) (c x))
then_ends v g h more (Err e) s f a b c = λ t. rw (b t) refl

rest_ends : (t : Table) (more : List ℕ) (at : ℕ) (bs : List ℕ) → Ends (at + length bs) more (cond (eqb (length bs) 0) (Ok t) (Err (no.Rest at))) (cond (eqb (length (bs ++ more)) 0) (Ok t) (Err (no.Rest at)))
rest_ends t more at [] = λ some. let e : eqb (length more) 0 ≡ false = ne_eqb (length more) 0 (λ z. omega arith) in let k : at ≡ at + 0 = omega arith in rw (e, ← k) refl
rest_ends t more at (b ∷ bs) = rw (ne_eqb (suc (length bs)) 0 (λ z. omega arith), ne_eqb (suc (length (bs ++ more))) 0 (λ z. omega arith)) (λ _. refl)

ended_ends : (more : List ℕ) (x : Table × Here) → Ends (end_of x.1) more (ended x) (ended (grow_after more x))
ended_ends more x =
    then_ends itself (grow more) x.1 more (fixed_at 10 x.1) (fixed_at 10 (grow more x.1)) (λ end. cond (eqb (length end.rest) 0) (Ok x.0) (Err (no.Rest end.at))) (fixed_reads 10 x.1) (fixed_onward more 10 x.1) (λ end. rest_ends x.0 more end.at end.rest)

reading_ends : (l : Limits) (bytes more : List ℕ) → length (bytes ++ more) ≤ l.image → Ends (length bytes) more (reading l bytes) (reading l (bytes ++ more))
unfolding reading
reading_ends l bytes more low =
    let start = here 0 bytes in
    let only : ℕ → Table = λ (stamp : ℕ). insert empty root_text (Dir stamp) in
    let nodes : Bool → ℕ × Here → Result (Table × Here) ImageNo = λ links root. nodes_at l links links (l.nodes - 1) root_text (only root.0) root.1 in
    let b : Bool → ℕ × Here → Result Table ImageNo = λ links root. nodes links root >>= ended in
    let a : Bool × Here → Result Table ImageNo = λ head. root_at l head.0 head.1 >>= b head.0 in
    let all : Ends (end_of start) more (head_at start >>= a) (head_at (grow more start) >>= a) = then_ends after (grow_after more) start more (head_at start) (head_at (grow more start)) a (head_reads start) (head_onward more start)
    (λ head. then_ends after (grow_after more) head.1 more (root_at l head.0 head.1) (root_at l head.0 (grow more head.1)) (b head.0) (root_reads l head.0 head.1) (root_onward more l head.0 head.1)
    (λ root. then_ends after (grow_after more) root.1 more (nodes head.0 root) (nodes head.0 (grow_after more root)) ended (nodes_reads l head.0 head.0 (l.nodes - 1) root_text (only root.0) root.1) (nodes_onward more l head.0 head.0 (l.nodes - 1) root_text (only root.0) root.1) (ended_ends more))) in
    let at : end_of start ≡ length bytes = omega arith in
    let short : length bytes ≤ l.image = omega (arith, length-append bytes more) in
    rw (le-ltb _ _ short, le-ltb _ _ low) (subst (λ (n : ℕ). Ends n more (head_at start >>= a) (head_at (grow more start) >>= a)) at all)

pub fault_stays : (l : Limits) (bytes more : List ℕ) (e : ImageNo) → length (bytes ++ more) ≤ l.image → reading l bytes ≡ Err e → stays e ≡ true → reading l (bytes ++ more) ≡ Err e
fault_stays l bytes more e low is = subst (λ (r : Result Table ImageNo). Ends (length bytes) more r (reading l (bytes ++ more))) is (reading_ends l bytes more low)

pub whole_and_more : (l : Limits) (bytes more : List ℕ) (t : Table) → length (bytes ++ more) ≤ l.image → reading l bytes ≡ Ok t → 0 < length more → reading l (bytes ++ more) ≡ Err (no.Rest (length bytes))
whole_and_more l bytes more t low is = subst (λ (r : Result Table ImageNo). Ends (length bytes) more r (reading l (bytes ++ more))) is (reading_ends l bytes more low)
