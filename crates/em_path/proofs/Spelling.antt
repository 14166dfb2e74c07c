-- Paths' texts and their components: each says the other.
--     components-path_text      a path's text has the components that it spells
--     path_text-components      a text that begins with `/` is spelled by what stands between its slashes
--     IsPath-spelled            what makes a path of components
use Rattle.std.proofs.Common.{◌≡◌, ◌≢◌, ℕ, ◌+◌, ◌-◌, ◌<◌, ◌≤◌, ◌==◌, Bool, true, false, cond, List, [], ◌∷◌, ◌++◌, length, drop, take, All, get_or, refl, sym, ap, subst, ◌∙◌, arith, zero, suc, Some, None, slice_get, length-append, length-drop, length-take, add-one, drop-cons, take-append-drop, get_or-drop, take_at}
use Rattle.std.specs.Bool.{MatchBool, IsTrue}
use Rattle.std.specs.declared.cmp.Ordering.{Ordering}
use Rattle.std.specs.Ordering.{nat_cmp, ordering_then}
use Rattle.std.specs.Cmp.{tied_itself, nat_cmp_total}
use Rattle.std.specs.Cmp.Lexicographic.{slice_cmp}
use Rattle.std.specs.Prelude.{◌↔◌, if◌then◌else◌}
use Rattle.std.specs.List.{AllWithin, HoldsAt, slice_split, onto_first, flat_map, join_with_byte, AllByRecursion}
use Rattle.std.proofs.Math.Seq.{take-length}
use Rattle.std.proofs.lemmas.List.{append-nil, get_or_default}
use Rattle.std.proofs.lemmas.List.Splits.{slice_split_none, slice_split_at, join_with_byte-slice_split}
use Rattle.std.proofs.lemmas.List.Concat.{flat_map-append}
use Rattle.std.proofs.lemmas.List.Elements.{recursion_from_All, All-push, All-take}
use Rattle.std.proofs.lemmas.Bool.{ne_eqb}
use Rattle.em_base.proofs.Lemmas.{holds_last, last_push}
use Rattle.em_path.specs.Paths.{IsComponent, IsPath, root_text, path_text, components, child_text, parent_of, parent_text, last_of}

-- each behind a `/`
abbrev pub behind : List ℕ → List ℕ
behind d = 47 ∷ d

abbrev pub parts : List ℕ → List (List ℕ)
parts text = slice_split (λ b. b == 47) text

onto_first-filled : {X : Type 0} (x : X) (ps : List (List X)) → onto_first x ps ≢ []
onto_first-filled x [] e = cc
onto_first-filled x (p ∷ ps) e = cc

parts-filled : (t : List ℕ) → parts t ≢ []
parts-filled [] e = cc
parts-filled (x ∷ xs) e =
    elim (x == 47) as (λ b. cond b ([] ∷ parts xs) (onto_first x (parts xs)) ≢ []) [
      | true ↦ λ e. cc
      | false ↦ onto_first-filled x (parts xs)
    ] e

joined : (c : List ℕ) (ds : List (List ℕ)) → c ++ flat_map behind ds ≡ join_with_byte 47 (c ∷ ds)
joined c [] = append-nil c
joined c (d ∷ ds) = ap (λ r. c ++ (47 ∷ r)) (joined d ds)

path_text-joined : (cs : List (List ℕ)) → cs ≢ [] → path_text cs ≡ 47 ∷ join_with_byte 47 cs
path_text-joined [] n = absurd (n refl)
path_text-joined (c ∷ cs) n = ap (λ r. 47 ∷ r) (joined c cs)

-- what stands between the slashes spells the text
pub path_text-parts : (t : List ℕ) → path_text (parts t) ≡ 47 ∷ t
path_text-parts t = path_text-joined (parts t) (parts-filled t) ∙ ap (λ r. 47 ∷ r) (join_with_byte-slice_split 47 t)

-- no byte of a component is a slash
slashless : (c : List ℕ) → IsComponent c → All (λ b. (b == 47) ≡ false) c
slashless c h k d l = ne_eqb _ _ ((h.plain k d l).0)

parts-flat : (c : List ℕ) (ds : List (List ℕ)) → AllByRecursion IsComponent (c ∷ ds) → parts (c ++ flat_map behind ds) ≡ c ∷ ds
parts-flat c [] h = ap parts (append-nil c) ∙ slice_split_none _ c (slashless c h.0)
parts-flat c (d ∷ ds) h = slice_split_at (λ b. b == 47) c 47 (d ++ flat_map behind ds) (slashless c h.0) refl ∙ ap (λ r. c ∷ r) (parts-flat d ds h.1)

long : (x : ℕ) (xs : List ℕ) → (length (47 ∷ x ∷ xs) == 1) ≡ false
long x xs = ne_eqb (length (47 ∷ x ∷ xs)) 1 (λ e. omega arith)

pub components-long : (t : List ℕ) → t ≢ [] → components (47 ∷ t) ≡ parts t
components-long [] n = absurd (n refl)
components-long (x ∷ xs) n = ap (λ (b : Bool). cond b [] (parts (x ∷ xs))) (long x xs)

-- the parts of a text make it a path
pub IsPath-parts : (t : List ℕ) → t ≢ [] → length (47 ∷ t) ≤ 1024 → length (parts t) ≤ 64 → All IsComponent (parts t) → IsPath (47 ∷ t)
IsPath-parts t n long deep names =
    let e = components-long t n in
    record { spelled = sym (ap path_text e ∙ path_text-parts t); names = subst (λ (cs : List (List ℕ)). All IsComponent cs) (sym e) names; deep = subst (λ (cs : List (List ℕ)). length cs ≤ 64) (sym e) deep; long = long }

pub parts-IsPath : (t : List ℕ) → t ≢ [] → IsPath (47 ∷ t) → All IsComponent (parts t)
parts-IsPath t n h = subst (λ (cs : List (List ℕ)). All IsComponent cs) (components-long t n) h.names

flat-filled : (c : List ℕ) (cs : List (List ℕ)) → IsComponent c → c ++ flat_map behind cs ≢ []
flat-filled [] cs h e = h.filled refl
flat-filled (x ∷ xs) cs h e = cc

-- a path's text has the components that it spells
pub components-path_text : (cs : List (List ℕ)) → All IsComponent cs → components (path_text cs) ≡ cs
components-path_text [] h = refl
components-path_text (c ∷ cs) h =
    let r = recursion_from_All IsComponent (c ∷ cs) h in
    components-long (c ++ flat_map behind cs) (flat-filled c cs r.0) ∙ parts-flat c cs r

-- components within the limits make a path
pub IsPath-spelled : (cs : List (List ℕ)) → All IsComponent cs → length cs ≤ 64 → length (path_text cs) ≤ 1024 → IsPath (path_text cs)
IsPath-spelled cs names deep long =
    let e = components-path_text cs names in
    record { spelled = sym (ap path_text e); names = subst (λ (ds : List (List ℕ)). All IsComponent ds) (sym e) names; deep = subst (λ (ds : List (List ℕ)). length ds ≤ 64) (sym e) deep; long = long }

-- one answer for all components: what `all` says of a list
pub all_answer : (xs : List (List ℕ)) (r : Bool) → MatchBool r (AllWithin IsComponent xs 0 (length xs)) ((k : ℕ) × (k < length xs) × HoldsAt (λ x. IsComponent x → ⊥) xs k) → IsTrue r ↔ All IsComponent xs
all_answer xs true h = (λ _ k d l. h k d (omega arith) l, λ _. refl)
all_answer xs false h = (λ e. cc, λ a. absurd (h.2 [] (a h.0 [] h.1)))

-- the answer of a test for paths, which asks the parts
pub path_answer : (text : List ℕ) (x : ℕ) (t : List ℕ) → text ≡ x ∷ t → x ≡ 47 → 1 ≤ length t → length text ≤ 1024 → length (parts t) ≤ 64 → (r : Bool) → IsTrue r ↔ All IsComponent (parts t) → IsTrue r ↔ IsPath text
path_answer text x t is slash some long deep r h =
    let e : text ≡ 47 ∷ t = cc in
    let n : t ≢ [] = λ z. let k = ap length z in omega arith in (
      λ p. subst IsPath (sym e) (IsPath-parts t n (subst (λ (l : List ℕ). length l ≤ 1024) e long) deep (h.0 p)),
      λ p. h.1 (parts-IsPath t n (subst IsPath e p)),
    )

text_begins : (cs : List (List ℕ)) → (1 ≤ length (path_text cs)) × (get_or (path_text cs) 0 0 ≡ 47)
text_begins [] = (omega arith, refl)
text_begins (c ∷ cs) = (omega arith, refl)

-- ---- a child

flat-filled_is : (cs : List (List ℕ)) → cs ≢ [] → flat_map behind cs ≡ path_text cs
flat-filled_is [] n = absurd (n refl)
flat-filled_is (c ∷ cs) n = refl

front_by : (b : Bool) (p : List ℕ) (cs : List (List ℕ)) → p ≡ path_text (cond b [] cs) → cs ≢ [] → flat_map behind (cond b [] cs) ≡ cond b [] p
front_by true p cs e n = refl
front_by false p cs e n = flat-filled_is cs n ∙ sym e

pub path_text-push : (cs : List (List ℕ)) (x : List ℕ) → path_text (cs ++ x ∷ []) ≡ flat_map behind cs ++ 47 ∷ x
path_text-push [] x = ap (λ r. 47 ∷ r) (append-nil x)
path_text-push (c ∷ cs) x = flat_map-append behind (c ∷ cs) (x ∷ []) ∙ ap (λ r. flat_map behind (c ∷ cs) ++ (47 ∷ r)) (append-nil x)

-- a child's text is the parent's, nothing for the root, a slash and the name
pub child_spelled : (p x : List ℕ) → IsPath p → child_text p x ≡ (if length p == 1 then [] else p) ++ 47 ∷ x
child_spelled p x h = path_text-push (components p) x ∙ ap (λ r. r ++ 47 ∷ x) (front_by (length p == 1) p (parts (drop 1 p)) h.spelled (parts-filled (drop 1 p)))

-- the same with what stands before the slash by itself
pub child_from : (p x front t : List ℕ) → IsPath p → t ≡ p → front ≡ (if length t == 1 then [] else t) → front ++ 47 ∷ x ≡ child_text p x
child_from p x front t h e f = ap (λ r. r ++ 47 ∷ x) (f ∙ ap (λ (q : List ℕ). if length q == 1 then [] else q) e) ∙ sym (child_spelled p x h)

pub child_length : (p x front t : List ℕ) → IsPath p → t ≡ p → front ≡ (if length t == 1 then [] else t) → length (child_text p x) ≡ length front + 1 + length x
child_length p x front t h e f = omega (arith, ap length (child_from p x front t h e f), length-append front (47 ∷ x))

child_names : (p x : List ℕ) → IsPath p → IsComponent x → All IsComponent (components p ++ x ∷ [])
child_names p x h name = All-push IsComponent (components p) x h.names name

pub components-child : (p x : List ℕ) → IsPath p → IsComponent x → components (child_text p x) ≡ components p ++ x ∷ []
components-child p x h name = components-path_text (components p ++ x ∷ []) (child_names p x h name)

pub child_depth : (p x : List ℕ) → IsPath p → IsComponent x → length (components (child_text p x)) ≡ length (components p) + 1
child_depth p x h name = ap length (components-child p x h name) ∙ length-append (components p) (x ∷ [])

pub child_is_path : (p x : List ℕ) → IsPath p → IsComponent x → length (components p) < 64 → length (child_text p x) ≤ 1024 → IsPath (child_text p x)
child_is_path p x h name deep long = IsPath-spelled (components p ++ x ∷ []) (child_names p x h name) (subst (λ n. n ≤ 64) (sym (length-append (components p) (x ∷ []))) (omega arith)) long

-- ---- the last slash of a path

abbrev pub heads : List ℕ → List (List ℕ)
heads [] = []
heads (x ∷ f) = parts f

onto_first-append : (x : ℕ) (ps qs : List (List ℕ)) → ps ≢ [] → onto_first x (ps ++ qs) ≡ onto_first x ps ++ qs
onto_first-append x [] qs n = absurd (n refl)
onto_first-append x (p ∷ ps) qs n = refl

parts-append : (f r : List ℕ) → parts (f ++ 47 ∷ r) ≡ parts f ++ parts r
parts-append [] r = refl
parts-append (x ∷ f) r =
    elim (x == 47) as (λ b. cond b ([] ∷ parts (f ++ 47 ∷ r)) (onto_first x (parts (f ++ 47 ∷ r))) ≡ cond b ([] ∷ parts f) (onto_first x (parts f)) ++ parts r) [
      | true ↦ ap (λ ps. [] ∷ ps) (parts-append f r)
      | false ↦ ap (onto_first x) (parts-append f r) ∙ onto_first-append x (parts f) (parts r) (parts-filled f)
    ]

components-any : (p : List ℕ) → length p ≢ 1 → components p ≡ parts (drop 1 p)
components-any p n = ap (λ (b : Bool). cond b [] (parts (drop 1 p))) (ne_eqb (length p) 1 n)

-- what stands behind the last slash is the last component
components-cut : (f r : List ℕ) → length (f ++ 47 ∷ r) ≢ 1 → All (λ b. b ≢ 47) r → components (f ++ 47 ∷ r) ≡ heads f ++ r ∷ []
components-cut [] r n plain = components-any (47 ∷ r) n ∙ slice_split_none _ r (λ k d l. ne_eqb _ _ (plain k d l))
components-cut (x ∷ f) r n plain = components-any ((x ∷ f) ++ 47 ∷ r) n ∙ parts-append f r ∙ ap (λ ps. parts f ++ ps) (slice_split_none _ r (λ k d l. ne_eqb _ _ (plain k d l)))

-- the last slash of a path that isn't the root
pub record IsLastSlash (p : List ℕ) (i : ℕ) : Type 0 where
  pub bound : i < length p
  pub found : get_or p i 0 ≡ 47
  pub after : (k : ℕ) → i < k → k < length p → get_or p k 0 ≢ 47

split_there : (p : List ℕ) (i : ℕ) → IsLastSlash p i → p ≡ take i p ++ 47 ∷ drop (i + 1) p
split_there p i h =
    let l = h.bound in
    let e : drop i p ≡ 47 ∷ drop (i + 1) p = rw (drop-cons p i 0 l, h.found, ← add-one i) refl in
    sym (take-append-drop i p) ∙ ap (λ (r : List ℕ). take i p ++ r) e

in_drop : (p : List ℕ) (n k : ℕ) → k < length (drop n p) → n + k < length p
in_drop p n k l = let e = length-drop n p in omega arith

plain_after : (p : List ℕ) (i : ℕ) → IsLastSlash p i → All (λ b. b ≢ 47) (drop (i + 1) p)
plain_after p i h k d l e =
    let m = in_drop p (i + 1) k l in
    h.after (i + 1 + k) (omega arith) m (get_or_default p (i + 1 + k) 0 d m ∙ sym (get_or-drop (i + 1) p k d) ∙ e)

-- what stands behind the last slash is the last component
pub components-last : (p : List ℕ) (i : ℕ) → length p ≢ 1 → IsLastSlash p i → components p ≡ heads (take i p) ++ drop (i + 1) p ∷ []
components-last p i n h =
    let e = split_there p i h in
    subst (λ (q : List ℕ). components q ≡ heads (take i p) ++ drop (i + 1) p ∷ []) (sym e)
    (components-cut (take i p) (drop (i + 1) p) (subst (λ (q : List ℕ). length q ≢ 1) e n) (plain_after p i h))

last-push-less : {X : Type 0} (xs : List X) (x : X) → slice_get (xs ++ x ∷ []) (length (xs ++ x ∷ []) - 1) ≡ Some x
last-push-less xs x = let e : length (xs ++ x ∷ []) - 1 ≡ length xs = omega (arith, length-append xs (x ∷ [])) in subst (λ n. slice_get (xs ++ x ∷ []) n ≡ Some x) (sym e) (last_push xs x)

pub last_is : (p : List ℕ) (i : ℕ) → length p ≢ 1 → IsLastSlash p i → Some (take (length p - (i + 1)) (drop (i + 1) p)) ≡ last_of p
last_is p i n h = ap (λ k. Some (take k (drop (i + 1) p))) (sym (length-drop (i + 1) p)) ∙ ap (λ r. Some r) (take-length (drop (i + 1) p)) ∙ sym (ap (λ (cs : List (List ℕ)). slice_get cs (length cs - 1)) (components-last p i n h) ∙ last-push-less (heads (take i p)) (drop (i + 1) p))

parent_of-push : (cs : List (List ℕ)) (r : List ℕ) → parent_of (cs ++ r ∷ []) ≡ Some (path_text cs)
parent_of-push [] r = refl
parent_of-push (c ∷ cs) r = let e : length (c ∷ cs) ≡ length (cs ++ r ∷ []) = omega (arith, length-append cs (r ∷ [])) in ap (λ (ds : List (List ℕ)). Some (path_text ds)) (take_at (c ∷ cs) (r ∷ []) _ e)

heads_text : (f : List ℕ) (g : List ℕ) → f ≡ 47 ∷ g → path_text (heads f) ≡ f
heads_text f g e = ap (λ (q : List ℕ). path_text (heads q)) e ∙ path_text-parts g ∙ sym e

pub root_parent : (p : List ℕ) (i : ℕ) → length p ≢ 1 → IsLastSlash p i → i ≡ 0 → Some root_text ≡ parent_text p
root_parent p i n h z = sym (ap parent_of (components-last p i n h) ∙ parent_of-push (heads (take i p)) (drop (i + 1) p) ∙ ap (λ k. Some (path_text (heads (take k p)))) z)

begins : (p : List ℕ) (i : ℕ) → get_or p 0 0 ≡ 47 → 0 < length p → 0 < i → (g : List ℕ) × (take i p ≡ 47 ∷ g)
begins [] i s l m = absurd (omega arith)
begins (x ∷ xs) zero s l m = absurd (omega arith)
begins (x ∷ xs) (suc i) s l m = (take i xs, ap (λ b. b ∷ take i xs) s)

pub parent_is : (p : List ℕ) (i : ℕ) → length p ≢ 1 → IsLastSlash p i → get_or p 0 0 ≡ 47 → 0 < i → Some (take i p) ≡ parent_text p
parent_is p i n h s m =
    let b = begins p i s (omega (arith, h.bound)) m in
    sym (ap parent_of (components-last p i n h) ∙ parent_of-push (heads (take i p)) (drop (i + 1) p) ∙ ap (λ t. Some t) (heads_text (take i p) b.0 b.1))

heads_names : (p : List ℕ) (i : ℕ) → IsPath p → length p ≢ 1 → IsLastSlash p i → All IsComponent (heads (take i p))
heads_names p i path n h = subst (λ (cs : List (List ℕ)). All IsComponent cs) (ap (take (length (heads (take i p)))) (components-last p i n h) ∙ take_at (heads (take i p)) (drop (i + 1) p ∷ []) _ refl) (All-take IsComponent (length (heads (take i p))) (components p) path.names)

pub parent_is_path : (p : List ℕ) (i : ℕ) → IsPath p → length p ≢ 1 → IsLastSlash p i → get_or p 0 0 ≡ 47 → 0 < i → IsPath (take i p)
parent_is_path p i path n h s m =
    let b = begins p i s (omega (arith, h.bound)) m in
    let e = heads_text (take i p) b.0 b.1 in
    let few : length (heads (take i p)) ≤ 64 = omega (arith, path.deep, ap length (components-last p i n h), length-append (heads (take i p)) (drop (i + 1) p ∷ [])) in
    subst IsPath e (IsPath-spelled (heads (take i p)) (heads_names p i path n h) few (subst (λ (q : List ℕ). length q ≤ 1024) (sym e) (omega (arith, path.long, length-take i p))))

-- a last slash that isn't the first byte has more than the root before it
pub not_under_root : (p : List ℕ) (i : ℕ) → IsPath p → length p ≢ 1 → IsLastSlash p i → get_or p 0 0 ≡ 47 → 0 < i → parent_text p ≡ Some root_text → ⊥
not_under_root p i path n h s m up =
    let front : take i p ≡ root_text = cc (parent_is p i n h s m) in
    let names : All IsComponent (heads root_text) = subst (λ (f : List ℕ). All IsComponent (heads f)) front (heads_names p i path n h) in
    (names 0 [] (omega arith)).filled refl

-- a path begins with a slash
pub path_begins : (p : List ℕ) → IsPath p → (1 ≤ length p) × (get_or p 0 0 ≡ 47)
path_begins p h = subst (λ (q : List ℕ). (1 ≤ length q) × (get_or q 0 0 ≡ 47)) (sym h.spelled) (text_begins (components p))

-- ---- what callers ask of paths right under the root

pub child_of_root : (x : List ℕ) → child_text root_text x ≡ 47 ∷ x
child_of_root x = ap (λ r. 47 ∷ r) (append-nil x)

pub root_is_path : IsPath root_text
root_is_path = record { spelled = refl; names = λ k d l. absurd (omega arith); deep = omega arith; long = omega arith }

pub IsPath-under_root : (x : List ℕ) → IsComponent x → length x ≤ 1023 → IsPath (47 ∷ x)
IsPath-under_root x h l = subst IsPath (child_of_root x) (child_is_path root_text x root_is_path h (omega arith) (omega (arith, ap length (child_of_root x))))

-- ---- a child has its parent and its name

pub child_parent : (p x : List ℕ) → IsPath p → IsComponent x → parent_text (child_text p x) ≡ Some p
child_parent p x h name = ap parent_of (components-child p x h name) ∙ parent_of-push (components p) x ∙ ap (λ t. Some t) (sym h.spelled)

pub child_last : (p x : List ℕ) → IsPath p → IsComponent x → last_of (child_text p x) ≡ Some x
child_last p x h name = ap (λ (cs : List (List ℕ)). slice_get cs (length cs - 1)) (components-child p x h name) ∙ last-push-less (components p) x

-- ---- a path that has a parent is a child of it

pub split_last : {X : Type 0} (c : X) (cs : List X) → (x : X) × ((c ∷ cs) ≡ take (length cs) (c ∷ cs) ++ x ∷ []) × (slice_get (c ∷ cs) (length cs) ≡ Some x)
split_last c [] = (c, refl, refl)
split_last c (d ∷ ds) = let r = split_last d ds in (r.0, ap (λ xs. c ∷ xs) r.1, r.2)

-- the last component, and what it says of the path
pub record IsChild (k p x : List ℕ) : Type 0 where
  pub last : last_of k ≡ Some x
  pub name : IsComponent x
  pub text : k ≡ child_text p x

pub one_less : (n : ℕ) → suc n - 1 ≡ n
one_less n = omega arith

as_child_of : (k p : List ℕ) (cs : List (List ℕ)) → components k ≡ cs → All IsComponent cs → k ≡ path_text cs → parent_of cs ≡ Some p → (x : List ℕ) × IsChild k p x
as_child_of k p [] e names text up = absurd (let z : None ≡ Some p = up in cc)
as_child_of k p (c ∷ cs) e names text up =
    let s = split_last c cs in
    let front = take (length cs) (c ∷ cs) in
    let is : path_text front ≡ p = cc in
    let inner : components p ≡ front = ap components (sym is) ∙ components-path_text front (All-take IsComponent (length cs) (c ∷ cs) names) in (
      s.0,
      record {
        last = ap (λ (ds : List (List ℕ)). slice_get ds (length ds - 1)) e ∙ ap (slice_get (c ∷ cs)) (one_less (length cs)) ∙ s.2;
        name = holds_last IsComponent front s.0 (recursion_from_All IsComponent (front ++ s.0 ∷ []) (subst (λ (ds : List (List ℕ)). All IsComponent ds) s.1 names));
        text = text ∙ ap path_text (s.1 ∙ ap (λ (ds : List (List ℕ)). ds ++ s.0 ∷ []) (sym inner));
      },
    )

pub as_child : (k p : List ℕ) → IsPath k → parent_text k ≡ Some p → (x : List ℕ) × IsChild k p x
as_child k p path up = as_child_of k p (components k) refl path.names path.spelled up

-- children of one path stand in the order of their names
after_same : (a : ℕ) (r : Ordering) → ordering_then (nat_cmp a a) r ≡ r
after_same a r = ap (λ o. ordering_then o r) (tied_itself nat_cmp_total a)

order_behind : (f x y : List ℕ) → slice_cmp nat_cmp (f ++ x) (f ++ y) ≡ slice_cmp nat_cmp x y
order_behind [] x y = refl
order_behind (a ∷ f) x y = after_same a (slice_cmp nat_cmp (f ++ x) (f ++ y)) ∙ order_behind f x y

pub order_child : (p x y : List ℕ) → slice_cmp nat_cmp (child_text p x) (child_text p y) ≡ slice_cmp nat_cmp x y
order_child p x y =
    ap (λ (t : List ℕ). slice_cmp nat_cmp t (child_text p y)) (path_text-push (components p) x)
    ∙ ap (slice_cmp nat_cmp (flat_map behind (components p) ++ 47 ∷ x)) (path_text-push (components p) y)
    ∙ order_behind (flat_map behind (components p)) (47 ∷ x) (47 ∷ y)
