-- Going through the parts of a name.
--     up_to          what stands before the last slash are all components but the last
--     walk_names     what a walk comes to are components
use Rattle.std.proofs.Common.{◌≡◌, ◌≢◌, ◌<◌, ◌+◌, ◌-◌, ◌==◌, ℕ, Bool, true, false, cond, ◌||◌, List, [], ◌∷◌, ◌++◌, Some, None, All, length, take, drop, get_or, refl, sym, ap, subst, ◌∙◌, arith, ⊎_elim, take_at, drop_at, get_or-drop, length-append, append_assoc}
use Rattle.std.specs.List.{AllByRecursion, list_any, onto_first}
use Rattle.std.specs.Prelude.{slice_index}
use Rattle.std.specs.Str.{bytes_eq}
use Rattle.std.proofs.Common.{codes}
use Rattle.std.proofs.lemmas.List.{append-nil, take_more}
use Rattle.std.proofs.lemmas.List.Concat.{flat_map-append}
use Rattle.std.proofs.lemmas.List.Elements.{recursion_from_All, All-from_recursion, All-take, All-push, All-nil}
use Rattle.std.proofs.lemmas.Bool.{eqb-false, cases_lt, false_from_ne_true}
use Rattle.std.proofs.lemmas.Slice.Eq.{bytes_eq-Decides}
use Rattle.em_base.proofs.Lemmas.{holds_last}
use Rattle.em_path.specs.Paths.{IsComponent, IsPath, root_text, path_text, components}
use Rattle.em_path.specs.Spelled.{spelled}
use Rattle.em_path.specs.Reading.{step, walk, name_fault_of, start_of, resolve, resolved_text}
use Rattle.em_path.proofs.Spelling.{IsLastSlash, parts, split_last, one_less, components-path_text, components-long, parts-IsPath, path_begins}

-- ---- the last component off

here : (f : List ℕ) (y : ℕ) (r : List ℕ) → get_or (f ++ y ∷ r) (length f) 0 ≡ y
here [] y r = refl
here (x ∷ f) y r = here f y r

rest_of : (f r : List ℕ) (y : ℕ) → drop (length f + 1) (f ++ y ∷ r) ≡ r
rest_of f r y = ap (drop (length f + 1)) (sym (append_assoc f (y ∷ []) r)) ∙ drop_at (f ++ y ∷ []) r (length f + 1) (length-append f (y ∷ []))

behind_it : (f r : List ℕ) (y j : ℕ) → get_or (f ++ y ∷ r) (length f + 1 + j) 0 ≡ get_or r j 0
behind_it f r y j = sym (get_or-drop (length f + 1) (f ++ y ∷ r) j 0) ∙ ap (λ (l : List ℕ). get_or l j 0) (rest_of f r y)

pub last_slash_is : (f r : List ℕ) (i : ℕ) → All (λ b. b ≢ 47) r → IsLastSlash (f ++ 47 ∷ r) i → i ≡ length f
last_slash_is f r i plain h =
    ⊎_elim (λ l. absurd (h.after (length f) l (let e = length-append f (47 ∷ r) in omega arith) (here f 47 r)))
    (λ l. ⊎_elim (λ m. absurd (in_rest m)) (λ m. omega arith) (cases_lt (length f) i)) (cases_lt i (length f))
  where
    in_rest : length f < i → ⊥
    in_rest m =
        let e : i ≡ length f + 1 + (i - length f - 1) = omega arith in
        let n = length-append f (47 ∷ r) in
        let b = h.bound in
        let inside : i - length f - 1 < length r = omega arith in
        plain (i - length f - 1) 0 inside (sym (behind_it f r 47 (i - length f - 1)) ∙ ap (λ k. get_or (f ++ 47 ∷ r) k 0) (sym e) ∙ h.found)

slashless : (x : List ℕ) → IsComponent x → All (λ b. b ≢ 47) x
slashless x h k d l = (h.plain k d l).0

spelled-push : (cs : List (List ℕ)) (x : List ℕ) → spelled (cs ++ x ∷ []) ≡ spelled cs ++ 47 ∷ x
spelled-push cs x = flat_map-append (λ (d : List ℕ). 47 ∷ d) cs (x ∷ []) ∙ ap (λ r. spelled cs ++ (47 ∷ r)) (append-nil x)

pub up_to : (text : List ℕ) (i : ℕ) (cs : List (List ℕ)) → All IsComponent cs → text ≡ spelled cs → IsLastSlash text i → take i text ≡ spelled (take (length cs - 1) cs)
up_to text i [] names e h = absurd (let l = h.bound in let z = ap length e in omega arith)
up_to text i (c ∷ ds) names e h =
    let s = split_last c ds in
    let front = take (length ds) (c ∷ ds) in
    let is : text ≡ spelled front ++ 47 ∷ s.0 = e ∙ ap spelled s.1 ∙ spelled-push front s.0 in
    let name = holds_last IsComponent front s.0 (recursion_from_All IsComponent (front ++ s.0 ∷ []) (subst (λ (xs : List (List ℕ)). All IsComponent xs) s.1 names)) in
    let at = last_slash_is (spelled front) s.0 i (slashless s.0 name) (subst (λ (t : List ℕ). IsLastSlash t i) is h) in
    ap (take i) is ∙ take_at (spelled front) (47 ∷ s.0) i (sym at) ∙ ap (λ k. spelled (take k (c ∷ ds))) (sym (one_less (length ds)))

-- what doesn't begin with a slash spells no component
pub no_slash : (text : List ℕ) (cs : List (List ℕ)) → text ≡ spelled cs → get_or text 0 0 ≢ 47 → cs ≡ []
no_slash text [] e h = refl
no_slash text (c ∷ cs) e h = absurd (h (ap (λ (t : List ℕ). get_or t 0 0) e))

-- ---- the parts of a name

abbrev pub IsPlain : ℕ → Type 0
IsPlain b = (b ≢ 47) × (b ≢ 0) × (b ≢ 10)

onto_plain : (x : ℕ) (ps : List (List ℕ)) → IsPlain x → AllByRecursion (AllByRecursion IsPlain) ps → AllByRecursion (AllByRecursion IsPlain) (onto_first x ps)
onto_plain x [] p h = ((p, tt), tt)
onto_plain x (q ∷ qs) p h = ((p, h.0), h.1)

pub parts_plain : (name : List ℕ) → AllByRecursion (λ b. (b ≢ 0) × (b ≢ 10)) name → AllByRecursion (AllByRecursion IsPlain) (parts name)
parts_plain [] h = (tt, tt)
parts_plain (x ∷ xs) h = by_case (x == 47) refl (parts_plain xs h.1)
  where
    by_case : (b : Bool) → (x == 47) ≡ b → AllByRecursion (AllByRecursion IsPlain) (parts xs) → AllByRecursion (AllByRecursion IsPlain) (cond b ([] ∷ parts xs) (onto_first x (parts xs)))
    by_case true e r = (tt, r)
    by_case false e r = onto_plain x (parts xs) (eqb-false x 47 e, h.0.0, h.0.1) r

not_held : (c : ℕ) (name : List ℕ) → list_any (λ b. b == c) name ≡ false → AllByRecursion (λ b. b ≢ c) name
not_held c [] h = tt
not_held c (x ∷ xs) h = by_case (x == c) refl (not_held c xs) h
  where
    by_case : (b : Bool) → (x == c) ≡ b → (list_any (λ b. b == c) xs ≡ false → AllByRecursion (λ b. b ≢ c) xs) → (b || list_any (λ b. b == c) xs) ≡ false → AllByRecursion (λ b. b ≢ c) (x ∷ xs)
    by_case true e r h = cc
    by_case false e r h = (eqb-false x c e, r h)

faultless : {X : Type 0} (a b c : Bool) (x y z : X) → cond a (Some x) (cond b (Some y) (cond c (Some z) None)) ≡ None → (b ≡ false) × (c ≡ false)
faultless true b c x y z h = cc
faultless false true c x y z h = cc
faultless false false true x y z h = cc
faultless false false false x y z h = (refl, refl)

both_hold : (P Q : ℕ → Type 0) (xs : List ℕ) → AllByRecursion P xs → AllByRecursion Q xs → AllByRecursion (λ x. P x × Q x) xs
both_hold P Q [] h g = tt
both_hold P Q (x ∷ xs) h g = ((h.0, g.0), both_hold P Q xs h.1 g.1)

pub name_plain : (name : List ℕ) → name_fault_of name ≡ None → AllByRecursion (AllByRecursion IsPlain) (parts name)
name_plain name h =
    let f = faultless (length name == 0) (list_any (λ b. b == 0) name) (list_any (λ b. b == 10) name) _ _ _ h in
    parts_plain name (both_hold (λ b. b ≢ 0) (λ b. b ≢ 10) name (not_held 0 name f.0) (not_held 10 name f.1))

-- ---- the walk

not_text : (xs ys : List ℕ) → bytes_eq xs ys ≡ false → xs ≢ ys
not_text xs ys e h = let z = (bytes_eq-Decides xs ys).1 h in cc

pub step_names : (cs : List (List ℕ)) (part : List ℕ) → All IsComponent cs → AllByRecursion IsPlain part → All IsComponent (step cs part)
step_names cs part names plain = by_case (bytes_eq part []) (bytes_eq part (codes ".")) (bytes_eq part (codes "..")) refl refl refl
  where
    by_case : (a b c : Bool) → bytes_eq part [] ≡ a → bytes_eq part (codes ".") ≡ b → bytes_eq part (codes "..") ≡ c → All IsComponent (cond (a || b) cs (cond c (take (length cs - 1) cs) (cs ++ part ∷ [])))
    by_case true b c e f g = names
    by_case false true c e f g = names
    by_case false false true e f g = All-take IsComponent (length cs - 1) cs names
    by_case false false false e f g = All-push IsComponent cs part names record { filled = not_text part [] e; not_here = not_text part (codes ".") f; not_above = not_text part (codes "..") g; plain = All-from_recursion IsPlain part plain }

pub walk_names : (cs ps : List (List ℕ)) → All IsComponent cs → AllByRecursion (AllByRecursion IsPlain) ps → All IsComponent (walk cs ps)
walk_names cs [] names h = names
walk_names cs (p ∷ ps) names h = walk_names (step cs p) ps (step_names cs p names h.0) h.1

pub walk_more : (cs ps : List (List ℕ)) (p : List ℕ) → walk cs (ps ++ p ∷ []) ≡ step (walk cs ps) p
walk_more cs [] p = refl
walk_more cs (q ∷ ps) p = walk_more (step cs q) ps p

pub front_plain : (ps : List (List ℕ)) (i : ℕ) → AllByRecursion (AllByRecursion IsPlain) ps → AllByRecursion (AllByRecursion IsPlain) (take i ps)
front_plain ps i h = recursion_from_All (AllByRecursion IsPlain) (take i ps) (All-take (AllByRecursion IsPlain) i ps (All-from_recursion (AllByRecursion IsPlain) ps h))

-- one part more of the name
pub walk_next : (cs ps : List (List ℕ)) (i : ℕ) (p : List ℕ) → i < length ps → p ≡ get_or ps i p → spelled (step (walk cs (take i ps)) p) ≡ spelled (walk cs (take (i + 1) ps))
walk_next cs ps i p l e = ap spelled (sym (ap (walk cs) (take_more ps i p l ∙ ap (λ (q : List ℕ). take i ps ++ q ∷ []) (sym e)) ∙ walk_more cs (take i ps) p))

pub root_text_of : (text : List ℕ) (cs : List (List ℕ)) → text ≡ spelled cs → length text ≡ 0 → root_text ≡ path_text cs
root_text_of text [] e h = refl
root_text_of text (c ∷ cs) e h = absurd (let z = ap length e in omega arith)

pub same_text_of : (text : List ℕ) (cs : List (List ℕ)) → text ≡ spelled cs → (length text ≡ 0 → ⊥) → text ≡ path_text cs
same_text_of text [] e h = absurd (h (ap length e))
same_text_of text (c ∷ cs) e h = e

start_names : (cwd name : List ℕ) → IsPath cwd → All IsComponent (start_of cwd name)
start_names cwd name h = by_case (slice_index name 0 == 47)
  where
    by_case : (b : Bool) → All IsComponent (cond b [] (components cwd))
    by_case true = All-nil IsComponent
    by_case false = h.names

pub resolve_names : (cwd name : List ℕ) → IsPath cwd → name_fault_of name ≡ None → All IsComponent (resolve cwd name)
resolve_names cwd name h e = walk_names (start_of cwd name) (parts name) (start_names cwd name h) (name_plain name e)

pub resolved : (cwd name : List ℕ) (a b d : List ℕ) → IsPath cwd → name_fault_of name ≡ None → a ≡ spelled (start_of cwd name)
    → ((cs : List (List ℕ)) → All IsComponent cs → a ≡ spelled cs → b ≡ spelled (walk cs (parts name))) → ((cs : List (List ℕ)) → b ≡ spelled cs → d ≡ path_text cs) → d ≡ resolved_text cwd name
resolved cwd name a b d h e s w r = r (resolve cwd name) (w (start_of cwd name) (start_names cwd name h) s)

-- what a text of components needs to be within the limits
pub text_spelled : (text : List ℕ) (cs : List (List ℕ)) → All IsComponent cs → text ≡ path_text cs → text ≡ path_text (components text)
text_spelled text cs names e = e ∙ ap path_text (sym (ap components e ∙ components-path_text cs names))

pub text_names : (text : List ℕ) (cs : List (List ℕ)) → All IsComponent cs → text ≡ path_text cs → All IsComponent (components text)
text_names text cs names e = subst (λ (ds : List (List ℕ)). All IsComponent ds) (sym (ap components e ∙ components-path_text cs names)) names

-- ---- the text of a path resolves to itself

component_step : (cs : List (List ℕ)) (c : List ℕ) → IsComponent c → step cs c ≡ cs ++ c ∷ []
component_step cs c h = rw (other [] h.filled, other (codes ".") h.not_here, other (codes "..") h.not_above) refl
  where
    other : (t : List ℕ) → c ≢ t → bytes_eq c t ≡ false
    other t ne = false_from_ne_true (bytes_eq c t) (λ e. ne ((bytes_eq-Decides c t).0 e))

components_walk : (cs ds : List (List ℕ)) → AllByRecursion IsComponent ds → walk cs ds ≡ cs ++ ds
components_walk cs [] h = sym (append-nil cs)
components_walk cs (d ∷ ds) h = ap (λ es. walk es ds) (component_step cs d h.0) ∙ components_walk (cs ++ d ∷ []) ds h.1 ∙ append_assoc cs (d ∷ []) ds

pub resolves_itself : (cwd text : List ℕ) → IsPath text → resolved_text cwd text ≡ text
resolves_itself cwd [] h = absurd (let long = (path_begins [] h).0 in omega arith)
resolves_itself cwd (x ∷ t) h =
    let slash : x ≡ 47 = (path_begins (x ∷ t) h).1 in
    let whole : x ∷ t ≡ 47 ∷ t = ap (λ y. y ∷ t) slash in
    subst (λ (q : List ℕ). resolved_text cwd q ≡ q) (sym whole) (behind_slash t (subst IsPath whole h))
  where
    behind_slash : (t : List ℕ) → IsPath (47 ∷ t) → resolved_text cwd (47 ∷ t) ≡ 47 ∷ t
    behind_slash [] h = refl
    behind_slash (y ∷ ys) h =
        let some : y ∷ ys ≢ [] = λ e. cc in
        ap path_text (components_walk [] (parts (y ∷ ys)) (recursion_from_All IsComponent (parts (y ∷ ys)) (parts-IsPath (y ∷ ys) some h)) ∙ sym (components-long (y ∷ ys) some)) ∙ sym h.spelled
