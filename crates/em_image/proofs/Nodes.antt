-- The line of a node, its bytes or its text: what is taken is the text that was written, and what was
-- written is read again.
use Rattle.std.proofs.Common.{◌≡◌, ◌≢◌, ℕ, ◌+◌, ◌^◌, ◌<◌, ◌≤◌, Bool, true, false, cond, not, ◌&&◌, inl, inr, eqb, nat_lt, List, [], ◌∷◌, ◌++◌, length, take, drop, Result, Ok, Err, refl, sym, ap, subst, ◌∙◌, append_assoc, arith, decimal}
use Rattle.std.specs.List.{list_all, position_or_len, AllByRecursion}
use Rattle.std.proofs.lemmas.List.Elements.{recursion_from_All, All-from_recursion}
use Rattle.std.proofs.lemmas.Bool.{ltb-false, le-ltb, eqb-true, eqb-false, ne_eqb}
use Rattle.std.proofs.lemmas.List.{take_at, take_all, drop_at, take-append-drop, length-append, length-take}
use Rattle.em_path.specs.Paths.{IsPath}
use Rattle.em_tree.specs.declared.node.Node.{Node}
use Rattle.em_tree.specs.declared.node.Node.TheVariants.{File, Dir, Link}
use Rattle.em_tree.specs.LinkTexts.{IsLinkText}
use Rattle.em_tree.specs.Trees.{stamp_in}
use Rattle.em_image.specs.declared.no.Which.TheVariants as which
use Rattle.em_image.specs.declared.no.ImageNo.{ImageNo}
use Rattle.em_image.specs.declared.no.ImageNo.TheVariants as no
use Rattle.em_image.specs.declared.cursor.Mark.{Mark}
use Rattle.em_image.specs.declared.cursor.Mark.TheVariants as mark
use Rattle.em_image.specs.declared.header.Sort.{Sort}
use Rattle.em_image.specs.declared.header.Sort.TheVariants as sort
use Rattle.em_image.specs.Image.{Limits, node_text}
use Rattle.em_image.specs.Parts.{◌>>=◌, Here, skip, end_of, fixed_at, mark_at, mark_in, number_at, stamp_at, sort_at, path_at, longest_link, IsSized}
use Rattle.em_image.specs.Reading.{Header, header_at, is_unfit, bytes_at, link_by, body_at}
use Rattle.em_image.proofs.Fields.{bind_ok, ok_is, first_err, then_err, chosen, both, here, fixed_takes, number_takes, number_again, path_takes, path_again}
use Rattle.em_image.proofs.Digits.{all_prefix}

-- limits that numbers of 64 bits can hold
pub record Sound (l : Limits) : Type 0 where
  pub stamp : l.stamp < 2 ^ 64
  pub file : l.file < 2 ^ 64

-- ---- the text of a node, with what follows it

abbrev pub letter : Mark → ℕ
letter mark.Dir = 100
letter mark.File = 102
letter mark.Link = 108
letter mark.End = 46

abbrev pub sort_of : Node → Sort
sort_of (File body stamp) = sort.File (length body)
sort_of (Dir stamp) = sort.Dir
sort_of (Link text stamp) = sort.Link (length text)

abbrev pub mark_for : Sort → Mark
mark_for sort.Dir = mark.Dir
mark_for (sort.File n) = mark.File
mark_for (sort.Link n) = mark.Link

abbrev pub mark_of : Node → Mark
mark_of n = mark_for (sort_of n)

-- the letter of the node that is read behind a letter
abbrev pub read_as : Mark → Mark
read_as mark.Dir = mark.Dir
read_as mark.File = mark.File
read_as mark.Link = mark.Link
read_as mark.End = mark.Dir

-- whether a letter may stand there
abbrev pub MayStand : Bool → Mark → Type 0
MayStand links mark.Dir = Unit {0}
MayStand links mark.File = Unit {0}
MayStand links mark.Link = links ≡ true
MayStand links mark.End = Unit {0}

-- a link says what a link may say
abbrev pub Says : Node → Type 0
Says (File body stamp) = Unit {0}
Says (Dir stamp) = Unit {0}
Says (Link text stamp) = IsLinkText text

abbrev pub size_from : Sort → List ℕ → List ℕ
size_from sort.Dir rest = rest
size_from (sort.File n) rest = decimal n ++ 32 ∷ rest
size_from (sort.Link n) rest = decimal n ++ 32 ∷ rest

abbrev pub line_from : ℕ → Sort → List ℕ → List ℕ → List ℕ
line_from stamp sort path rest = 32 ∷ (decimal stamp ++ 32 ∷ size_from sort (path ++ 10 ∷ rest))

abbrev pub body_from : Node → List ℕ → List ℕ
body_from (File body stamp) rest = body ++ 10 ∷ rest
body_from (Dir stamp) rest = rest
body_from (Link text stamp) rest = text ++ 10 ∷ rest

abbrev pub node_from : List ℕ → Node → List ℕ → List ℕ
node_from path n rest = line_from (stamp_in n) (sort_of n) path (body_from n rest)

pub spelled : (path : List ℕ) (n : Node) (rest : List ℕ) → node_text (path, n) ++ rest ≡ letter (mark_of n) ∷ node_from path n rest
spelled path (File body stamp) rest = simp append_assoc
spelled path (Dir stamp) rest = simp append_assoc
spelled path (Link text stamp) rest = simp append_assoc

-- ---- the letter

mark_in_takes : (links : Bool) (at : ℕ) (bs : List ℕ) (x : Mark × Here) → mark_in links at bs ≡ Ok x → (bs ≡ letter x.0 ∷ x.1.rest) × MayStand links x.0
mark_in_takes links at [] x e = absurd cc
mark_in_takes links at (c ∷ cs) x e =
    let after : Here = here (at + 1) cs in
    let P : Mark × Here → Type 0 = λ y. (c ∷ cs ≡ letter y.0 ∷ y.1.rest) × MayStand links y.0 in
    let cell : (k : ℕ) → eqb c k ≡ true → c ∷ cs ≡ k ∷ cs = λ k t. ap (λ (b : ℕ). b ∷ cs) (eqb-true c k t) in
    let last : Result (Mark × Here) ImageNo = cond (eqb c 46) (Ok (mark.End, after)) (Err (no.Form at)) in
    let link : Result (Mark × Here) ImageNo = cond (links && eqb c 108) (Ok (mark.Link, after)) last in
    let file : Result (Mark × Here) ImageNo = cond (eqb c 102) (Ok (mark.File, after)) link in
    elim (chosen (eqb c 100) (Ok (mark.Dir, after)) file (Ok x) e) [
      | inl g ↦ subst P (ok_is (mark.Dir, after) x g.1) (cell 100 g.0, tt)
      | inr g ↦ elim (chosen (eqb c 102) (Ok (mark.File, after)) link (Ok x) g.1) [
        | inl g ↦ subst P (ok_is (mark.File, after) x g.1) (cell 102 g.0, tt)
        | inr g ↦ elim (chosen (links && eqb c 108) (Ok (mark.Link, after)) last (Ok x) g.1) [
          | inl g ↦ let b = both links (eqb c 108) g.0 in subst P (ok_is (mark.Link, after) x g.1) (cell 108 b.1, b.0)
          | inr g ↦ let k = then_err (eqb c 46) (no.Form at) (Ok (mark.End, after)) x g.1 in subst P (ok_is (mark.End, after) x k.1) (cell 46 k.0, tt)
        ]
      ]
    ]

pub mark_takes : (links : Bool) (h : Here) (x : Mark × Here) → mark_at links h ≡ Ok x → (h.rest ≡ letter x.0 ∷ x.1.rest) × MayStand links x.0
mark_takes links h x e = mark_in_takes links h.at h.rest x e

pub mark_again : (links : Bool) (m : Mark) → MayStand links m → (at : ℕ) (rest : List ℕ) → mark_at links (here at (letter m ∷ rest)) ≡ Ok (m, here (at + 1) rest)
mark_again links mark.Dir h at rest = refl
mark_again links mark.File h at rest = refl
mark_again true mark.Link h at rest = refl
mark_again false mark.Link h at rest = absurd cc
mark_again true mark.End h at rest = refl
mark_again false mark.End h at rest = refl

-- ---- the line

stamp_takes : (l : Limits) → Sound l → (h : Here) (x : ℕ × Here) → stamp_at l h ≡ Ok x → (h.rest ≡ 32 ∷ (decimal x.0 ++ 32 ∷ x.1.rest)) × (x.0 ≤ l.stamp)
unfolding stamp_at
stamp_takes l s h x e =
    let a = bind_ok (fixed_at 32 h) (λ a. number_at which.Stamp l.stamp a >>= λ n. fixed_at 32 n.1 >>= λ b. Ok (n.0, b)) x e in
    let n = bind_ok (number_at which.Stamp l.stamp a.0) (λ n. fixed_at 32 n.1 >>= λ b. Ok (n.0, b)) x a.2 in
    let b = bind_ok (fixed_at 32 n.0.1) (λ b. Ok (n.0.0, b)) x n.2 in
    let f = fixed_takes 32 h a.0 a.1 in
    let m = number_takes which.Stamp l.stamp a.0 n.0 s.stamp n.1 in
    let g = fixed_takes 32 n.0.1 b.0 b.1 in
    let whole : h.rest ≡ 32 ∷ (decimal n.0.0 ++ 32 ∷ b.0.rest) = f ∙ ap (λ (t : List ℕ). 32 ∷ t) (m.0 ∙ ap (λ (t : List ℕ). decimal n.0.0 ++ t) g) in
    subst (λ (y : ℕ × Here). (h.rest ≡ 32 ∷ (decimal y.0 ++ 32 ∷ y.1.rest)) × (y.0 ≤ l.stamp)) (ok_is (n.0.0, b.0) x b.2) (whole, m.1)

-- what was read between the stamp and the path
pub record SortRead (l : Limits) (m : Mark) (bytes : List ℕ) (o : Sort) (rest : List ℕ) : Type 0 where
  pub parts : bytes ≡ size_from o rest
  pub sized : IsSized l o
  pub mark : mark_for o ≡ read_as m

sort_takes : (l : Limits) → Sound l → (m : Mark) (h : Here) (x : Sort × Here) → sort_at l m h ≡ Ok x → SortRead l m h.rest x.0 x.1.rest
unfolding sort_at
sort_takes l s mark.Dir h x e = subst (λ (y : Sort × Here). SortRead l mark.Dir h.rest y.0 y.1.rest) (ok_is (sort.Dir, h) x e) (record { parts = refl; sized = tt; mark = refl })
sort_takes l s mark.End h x e = subst (λ (y : Sort × Here). SortRead l mark.End h.rest y.0 y.1.rest) (ok_is (sort.Dir, h) x e) (record { parts = refl; sized = tt; mark = refl })
sort_takes l s mark.File h x e =
    let n = bind_ok (number_at which.File l.file h) (λ n. fixed_at 32 n.1 >>= λ b. Ok (sort.File n.0, b)) x e in
    let b = bind_ok (fixed_at 32 n.0.1) (λ b. Ok (sort.File n.0.0, b)) x n.2 in
    let m = number_takes which.File l.file h n.0 s.file n.1 in
    let g = fixed_takes 32 n.0.1 b.0 b.1 in
    subst (λ (y : Sort × Here). SortRead l mark.File h.rest y.0 y.1.rest) (ok_is (sort.File n.0.0, b.0) x b.2) (record { parts = m.0 ∙ ap (λ (t : List ℕ). decimal n.0.0 ++ t) g; sized = m.1; mark = refl })
sort_takes l s mark.Link h x e =
    let n = bind_ok (number_at which.Link longest_link h) (λ n. cond (eqb n.0 0) (Err (no.Limit which.Link h.at)) (fixed_at 32 n.1 >>= λ b. Ok (sort.Link n.0, b))) x e in
    let k = first_err (eqb n.0.0 0) (no.Limit which.Link h.at) (fixed_at 32 n.0.1 >>= λ b. Ok (sort.Link n.0.0, b)) x n.2 in
    let b = bind_ok (fixed_at 32 n.0.1) (λ b. Ok (sort.Link n.0.0, b)) x k.1 in
    let m = number_takes which.Link longest_link h n.0 (omega arith) n.1 in
    let g = fixed_takes 32 n.0.1 b.0 b.1 in
    let some : 1 ≤ n.0.0 = omega (arith, eqb-false _ _ k.0) in
    subst (λ (y : Sort × Here). SortRead l mark.Link h.rest y.0 y.1.rest) (ok_is (sort.Link n.0.0, b.0) x b.2) (record { parts = m.0 ∙ ap (λ (t : List ℕ). decimal n.0.0 ++ t) g; sized = (some, m.1); mark = refl })

-- what was read of a line
pub record Line (l : Limits) (m : Mark) (bytes : List ℕ) (h : Header) (rest : List ℕ) : Type 0 where
  pub parts : bytes ≡ line_from h.stamp h.sort h.path rest
  pub path : IsPath h.path
  pub stamp : h.stamp ≤ l.stamp
  pub sized : IsSized l h.sort
  pub mark : mark_for h.sort ≡ read_as m

pub header_takes : (l : Limits) → Sound l → (m : Mark) (h : Here) (x : Header × Here) → header_at l m h ≡ Ok x → Line l m h.rest x.0 x.1.rest
unfolding header_at
header_takes l s m h x e =
    let a = bind_ok (stamp_at l h) (λ stamp. sort_at l m stamp.1 >>= λ sort. path_at sort.1 >>= λ path. Ok (record { stamp = stamp.0; sort = sort.0; path = path.0; place = sort.1.at }, path.1)) x e in
    let b = bind_ok (sort_at l m a.0.1) (λ sort. path_at sort.1 >>= λ path. Ok (record { stamp = a.0.0; sort = sort.0; path = path.0; place = sort.1.at }, path.1)) x a.2 in
    let c = bind_ok (path_at b.0.1) (λ path. Ok (record { stamp = a.0.0; sort = b.0.0; path = path.0; place = b.0.1.at }, path.1)) x b.2 in
    let t0 = stamp_takes l s h a.0 a.1 in
    let t1 = sort_takes l s m a.0.1 b.0 b.1 in
    let t2 = path_takes b.0.1 c.0 c.1 in
    let made : Header × Here = (record { stamp = a.0.0; sort = b.0.0; path = c.0.0; place = b.0.1.at }, c.0.1) in
    let tail : a.0.1.rest ≡ size_from b.0.0 (c.0.0 ++ 10 ∷ c.0.1.rest) = t1.parts ∙ ap (size_from b.0.0) t2.0 in
    let whole : h.rest ≡ line_from a.0.0 b.0.0 c.0.0 c.0.1.rest = t0.0 ∙ ap (λ (t : List ℕ). 32 ∷ (decimal a.0.0 ++ 32 ∷ t)) tail in
    subst (λ (y : Header × Here). Line l m h.rest y.0 y.1.rest) (ok_is made x c.2) (record { parts = whole; path = t2.1; stamp = t0.1; sized = t1.sized; mark = t1.mark })

stamp_again : (l : Limits) → Sound l → (at n : ℕ) (rest : List ℕ) → n ≤ l.stamp → (end : ℕ) × (stamp_at l (here at (32 ∷ (decimal n ++ 32 ∷ rest))) ≡ Ok (n, here end rest))
unfolding stamp_at
stamp_again l s at n rest le =
    (at + 1 + length (decimal n) + 1, rw (number_again which.Stamp l.stamp (at + 1) n rest le s.stamp) refl)

not_none : (n : ℕ) → 1 ≤ n → eqb n 0 ≡ false
not_none n some = ne_eqb n 0 (λ z. omega arith)

sort_again : (l : Limits) → Sound l → (at : ℕ) (o : Sort) (rest : List ℕ) → IsSized l o → (end : ℕ) × (sort_at l (mark_for o) (here at (size_from o rest)) ≡ Ok (o, here end rest))
unfolding sort_at
sort_again l s at sort.Dir rest fits = (at, refl)
sort_again l s at (sort.File n) rest fits = (at + length (decimal n) + 1, rw (number_again which.File l.file at n rest fits s.file) refl)
sort_again l s at (sort.Link n) rest fits = (at + length (decimal n) + 1, rw (number_again which.Link longest_link at n rest fits.1 (omega arith), not_none n fits.0) refl)

pub header_again : (l : Limits) → Sound l → (at stamp : ℕ) (o : Sort) (path rest : List ℕ) → stamp ≤ l.stamp → IsSized l o → IsPath path
    → (place : ℕ) × (end : ℕ) × (header_at l (mark_for o) (here at (line_from stamp o path rest)) ≡ Ok (record { stamp = stamp; sort = o; path = path; place = place }, here end rest))
unfolding header_at
header_again l s at stamp o path rest le fits is =
    let a = stamp_again l s at stamp (size_from o (path ++ 10 ∷ rest)) le in
    let b = sort_again l s a.0 o (path ++ 10 ∷ rest) fits in
    let c = path_again b.0 path rest is in
    (b.0, b.0 + length path + 1, rw (a.1, b.1, c) refl)

-- ---- the text of a link

fit_byte : (b : ℕ) → not (is_unfit b) ≡ true → (b ≢ 0) × (b ≢ 10)
fit_byte b e = (λ z. let bad : false ≡ true = rw z at e in absurd cc, λ z. let bad : false ≡ true = rw z at e in absurd cc)

all_fit : (t : List ℕ) → list_all (λ b. not (is_unfit b)) t ≡ true → AllByRecursion (λ b. (b ≢ 0) × (b ≢ 10)) t
all_fit [] e = tt
all_fit (b ∷ t) e = let p = both (not (is_unfit b)) (list_all (λ b. not (is_unfit b)) t) e in (fit_byte b p.0, all_fit t p.1)

no_nil : (t : List ℕ) → 1 ≤ length t → t ≢ []
no_nil [] le = absurd (omega arith)
no_nil (b ∷ t) le = λ z. absurd cc

-- a text of a link's length in which no byte is unfit
pub is_text : (t : List ℕ) (n : ℕ) → length t ≡ n → (1 ≤ n) × (n ≤ longest_link) → nat_lt (position_or_len is_unfit t) n ≡ false → IsLinkText t
is_text t n len sized none =
    let k = position_or_len is_unfit t in
    let high : length t ≤ k = omega (arith, ltb-false _ _ none, len) in
    let fit : list_all (λ b. not (is_unfit b)) t ≡ true = subst (λ (u : List ℕ). list_all (λ b. not (is_unfit b)) u ≡ true) (take_all k t high) (all_prefix (λ b. not (is_unfit b)) (λ b. not (is_unfit b)) (λ b. refl) t) in
    record { filled = no_nil t (omega (arith, len, sized.0)); short = omega (arith, len, sized.1); plain = All-from_recursion (λ b. (b ≢ 0) × (b ≢ 10)) t (all_fit t fit) }

none_unfit : (t : List ℕ) → AllByRecursion (λ b. (b ≢ 0) × (b ≢ 10)) t → position_or_len is_unfit t ≡ length t
none_unfit [] h = refl
none_unfit (b ∷ t) h = let ih = none_unfit t h.1 in rw (ne_eqb b 0 h.0.0, ne_eqb b 10 h.0.1, ih) (omega arith)

-- ---- the bytes behind the line

pub record BodyRead (stamp : ℕ) (o : Sort) (bytes : List ℕ) (n : Node) (rest : List ℕ) : Type 0 where
  pub parts : bytes ≡ body_from n rest
  pub stamp_is : stamp_in n ≡ stamp
  pub sort_is : sort_of n ≡ o
  pub says : Says n

bytes_take : (n : ℕ) (made : List ℕ → Node) (h : Here) (x : Node × Here) → n ≤ length h.rest → bytes_at n made h ≡ Ok x
    → (end : Here) × ((made (take n h.rest), end) ≡ x) × (h.rest ≡ take n h.rest ++ 10 ∷ end.rest)
bytes_take n made h x long e =
    let a = bind_ok (fixed_at 10 (skip n h)) (λ after. Ok (made (take n h.rest), after)) x e in
    let cut : drop n h.rest ≡ 10 ∷ a.0.rest = fixed_takes 10 (skip n h) a.0 a.1 in
    (a.0, ok_is (made (take n h.rest), a.0) x a.2, sym (take-append-drop n h.rest) ∙ ap (λ (t : List ℕ). take n h.rest ++ t) cut)

pub body_takes : (l : Limits) (stamp : ℕ) (o : Sort) (h : Here) (x : Node × Here) → IsSized l o → body_at stamp o h ≡ Ok x → BodyRead stamp o h.rest x.0 x.1.rest
unfolding body_at
body_takes l stamp sort.Dir h x sized e = subst (λ (y : Node × Here). BodyRead stamp sort.Dir h.rest y.0 y.1.rest) (ok_is (Dir stamp, h) x e) (record { parts = refl; stamp_is = refl; sort_is = refl; says = tt })
body_takes l stamp (sort.File n) h x sized e =
    let g = first_err (nat_lt (length h.rest) n) (no.Short (end_of h)) (bytes_at n (λ body. File body stamp) h) x e in
    let long : n ≤ length h.rest = ltb-false _ _ g.0 in
    let a = bytes_take n (λ body. File body stamp) h x long g.1 in
    let len : length (take n h.rest) ≡ n = omega (arith, length-take n h.rest) in
    subst (λ (y : Node × Here). BodyRead stamp (sort.File n) h.rest y.0 y.1.rest) a.1 (record { parts = a.2; stamp_is = refl; sort_is = ap (λ k. sort.File k) len; says = tt })
body_takes l stamp (sort.Link n) h x sized e =
    let t = take n h.rest in
    let k = position_or_len is_unfit t in
    let g = first_err (nat_lt (length h.rest) n) (no.Short (end_of h)) (link_by k stamp n h) x e in
    let f = first_err (nat_lt k n) (no.Form (h.at + k)) (bytes_at n (λ text. Link text stamp) h) x g.1 in
    let long : n ≤ length h.rest = ltb-false _ _ g.0 in
    let a = bytes_take n (λ text. Link text stamp) h x long f.1 in
    let len : length t ≡ n = omega (arith, length-take n h.rest) in
    subst (λ (y : Node × Here). BodyRead stamp (sort.Link n) h.rest y.0 y.1.rest) a.1 (record { parts = a.2; stamp_is = refl; sort_is = ap (λ k. sort.Link k) len; says = is_text t n len sized f.0 })

pub body_again : (n : Node) (at : ℕ) (rest : List ℕ) → Says n → (end : ℕ) × (body_at (stamp_in n) (sort_of n) (here at (body_from n rest)) ≡ Ok (n, here end rest))
unfolding body_at
body_again (Dir stamp) at rest says = (at, refl)
body_again (File body stamp) at rest says =
    let long : nat_lt (length (body ++ 10 ∷ rest)) (length body) ≡ false = le-ltb _ _ (omega (arith, length-append body (10 ∷ rest))) in
    (at + length body + 1, rw (long, take_at body (10 ∷ rest) (length body) refl, drop_at body (10 ∷ rest) (length body) refl) refl)
body_again (Link text stamp) at rest says =
    let long : nat_lt (length (text ++ 10 ∷ rest)) (length text) ≡ false = le-ltb _ _ (omega (arith, length-append text (10 ∷ rest))) in
    let none = none_unfit text (recursion_from_All _ text says.plain) in
    let fit : nat_lt (length text) (length text) ≡ false = le-ltb _ _ (omega arith) in
    (at + length text + 1, rw (long, take_at text (10 ∷ rest) (length text) refl, none, fit, drop_at text (10 ∷ rest) (length text) refl) refl)
