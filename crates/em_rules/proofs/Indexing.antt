-- What the index has for a name, after one use and after many, and what it tells of the rules.
--     noted_name      a name with its uses put in the place of those before
--     used_twice      a use noted twice is noted once
--     told_mentioned, told_numbers, told_recipe, told_single, told_double, told_phony      what all rules' uses of a name say
use Rattle.std.proofs.Common.{◌≡◌, ◌∙◌, refl, sym, ap, subst, ℕ, suc, zero, ◌+◌, ◌-◌, ◌<◌, ◌≤◌, ◌&&◌, ◌||◌, Bool, true, false, cond, List, [], ◌∷◌, ◌++◌, length, get_or, slice_get, Option, Some, None, arith, add-zero, zero-add, ltb, lt-ltb, eq-eqb, ne_eqb, length-append, append-nil, append_assoc}
use Rattle.std.specs.Prelude.{codes, is_some, not}
use Rattle.std.specs.Ordering.{eq_by_cmp}
use Rattle.std.specs.FinMap.{get, insert, remove, get-remove}
use Rattle.std.specs.Cmp.Lexicographic.{nat_list_cmp_total, bytes_decides}
use Rattle.std.specs.Option.{option_or}
use Rattle.std.specs.Str.{bytes_eq}
use Rattle.em_base.proofs.Lemmas.{by_cases, order, get_put, same_key, own_key, last_push}
use Rattle.em_rules.specs.declared.rule.Rule.{Rule}
use Rattle.em_rules.specs.declared.uses.Use.{Use}
use Rattle.em_rules.specs.declared.uses.Use.TheVariants.{Target, Prerequisite}
use Rattle.em_rules.specs.declared.uses.Uses.{Uses}
use Rattle.em_rules.specs.Rules.{is_in, has_target, needs, mentions, numbers_from, recipe_from, is_mentioned, is_target, is_phony}
use Rattle.em_rules.specs.Groups.{is_number, is_double_kind, is_double, is_single}
use Rattle.em_rules.specs.Index.{Index, uses_or, pushed, changed, used, noted, uses_from, uses_of, Tells}

-- ---- one use

pub noted_name : (t : Index) (name : List ℕ) (what : Use) (q : List ℕ) → get (insert (remove t name) name (changed what (uses_or (get t name)))) q ≡ used (bytes_eq name q) what (get t q)
noted_name t name what q = get_put (remove t name) name u q ∙ ap (cond (eq_by_cmp order q name) (Some u)) (get-remove nat_list_cmp_total t name q)
    ∙ by_cases (bytes_eq name q) (λ b. cond (eq_by_cmp order q name) (Some u) (cond (eq_by_cmp order q name) None (get t q)) ≡ used b what (get t q))
    (λ is. let same : name ≡ q = (bytes_decides name q).0 is in rw (← same, own_key name) refl)
    (λ isnt. by_cases (eq_by_cmp order q name) (λ b. cond b (Some u) (cond b None (get t q)) ≡ get t q)
    (λ tied. let bad : true ≡ false = sym ((bytes_decides name q).1 (sym (same_key q name tied))) ∙ isnt in absurd cc)
    (λ _. refl))
  where
    u : Uses
    u = changed what (uses_or (get t name))

last_pushed : (i : ℕ) (xs : List ℕ) → is_number i (slice_get (xs ++ i ∷ []) (length (xs ++ i ∷ []) - 1)) ≡ true
last_pushed i xs = let k : length (xs ++ i ∷ []) - 1 ≡ length xs = omega (arith, length-append xs (i ∷ [])) in rw (k, last_push xs i) (eq-eqb i i refl)

pushed_twice : (xs : List ℕ) (i : ℕ) → pushed (pushed xs i) i ≡ pushed xs i
pushed_twice xs i = by_cases (is_number i (slice_get xs (length xs - 1))) (λ b. is_number i (slice_get xs (length xs - 1)) ≡ b → pushed (cond b xs (xs ++ i ∷ [])) i ≡ cond b xs (xs ++ i ∷ []))
    (λ _ is. rw is refl)
    (λ _ _. rw (last_pushed i xs) refl) refl

or_twice : (a b : Bool) → ((a || b) || b) ≡ (a || b)
or_twice true b = refl
or_twice false true = refl
or_twice false false = refl

changed_twice : (what : Use) (u : Uses) → changed what (changed what u) ≡ changed what u
changed_twice (Target i true d) u = rw (pushed_twice u.targets i, or_twice u.single (not d), or_twice u.double d) refl
changed_twice (Target i false d) u = rw (pushed_twice u.targets i, or_twice u.single (not d), or_twice u.double d) refl
changed_twice (Prerequisite p) u = rw (or_twice u.phony p) refl

pub used_twice : (a b : Bool) (what : Use) (o : Option Uses) → used a what (used b what o) ≡ used (b || a) what o
used_twice true true what o = ap Some (changed_twice what (uses_or o))
used_twice false true what o = refl
used_twice true false what o = refl
used_twice false false what o = refl

-- ---- all uses of a name

abbrev pub numbers_in : Option Uses → List ℕ
numbers_in o = (uses_or o).targets

abbrev pub recipe_in : Option Uses → Option ℕ
recipe_in o = (uses_or o).recipe

abbrev pub single_in : Option Uses → Bool
single_in o = (uses_or o).single

abbrev pub double_in : Option Uses → Bool
double_in o = (uses_or o).double

abbrev pub phony_in : Option Uses → Bool
phony_in o = (uses_or o).phony

-- each number is below n
abbrev pub Below : ℕ → List ℕ → Type 0
Below n [] = Unit {0}
Below n (x ∷ xs) = (x < n) × Below n xs

below_more : (n x : ℕ) (xs : List ℕ) → Below n xs → x < n + 1 → Below (n + 1) (xs ++ x ∷ [])
below_more n x [] h lt = (lt, tt)
below_more n x (y ∷ ys) h lt = (omega (arith, h.0), below_more n x ys h.1 lt)

below_next : (n : ℕ) (xs : List ℕ) → Below n xs → Below (n + 1) xs
below_next n [] h = tt
below_next n (y ∷ ys) h = (omega (arith, h.0), below_next n ys h.1)

is_new : (n : ℕ) (xs : List ℕ) (k : ℕ) → Below n xs → is_number n (slice_get xs k) ≡ false
is_new n [] k h = refl
is_new n (x ∷ xs) zero h = ne_eqb n x (λ e. omega (arith, h.0))
is_new n (x ∷ xs) (suc k) h = is_new n xs k h.1

pushed_new : (n : ℕ) (xs : List ℕ) → Below n xs → pushed xs n ≡ xs ++ n ∷ []
pushed_new n xs h = rw (is_new n xs (length xs - 1) h) refl

-- a name that is a target (a), a normal one (b) or an order-only prerequisite (c) of a rule
abbrev pub three : (a b c p : Bool) → ℕ → (r d : Bool) → Option Uses → Option Uses
three a b c p i r d o = used c (Prerequisite p) (used b (Prerequisite p) (used a (Target i r d) o))

three_numbers : (a b c p : Bool) (i : ℕ) (r d : Bool) (o : Option Uses) → numbers_in (three a b c p i r d o) ≡ cond a (pushed (numbers_in o) i) (numbers_in o)
three_numbers true true true p i r d o = refl
three_numbers true true false p i r d o = refl
three_numbers true false true p i r d o = refl
three_numbers true false false p i r d o = refl
three_numbers false true true p i r d o = refl
three_numbers false true false p i r d o = refl
three_numbers false false true p i r d o = refl
three_numbers false false false p i r d o = refl

three_recipe : (a b c p : Bool) (i : ℕ) (r d : Bool) (o : Option Uses) → recipe_in (three a b c p i r d o) ≡ option_or (cond (a && r) (Some i) None) (recipe_in o)
three_recipe true b c p i true d o = with_recipe b c
  where
    with_recipe : (b c : Bool) → recipe_in (three true b c p i true d o) ≡ Some i
    with_recipe true true = refl
    with_recipe true false = refl
    with_recipe false true = refl
    with_recipe false false = refl
three_recipe true b c p i false d o = without b c
  where
    without : (b c : Bool) → recipe_in (three true b c p i false d o) ≡ recipe_in o
    without true true = refl
    without true false = refl
    without false true = refl
    without false false = refl
three_recipe false true true p i r d o = refl
three_recipe false true false p i r d o = refl
three_recipe false false true p i r d o = refl
three_recipe false false false p i r d o = refl

noted_numbers : (i : ℕ) (r : Rule) (q : List ℕ) (o : Option Uses) → Below i (numbers_in o) → numbers_in (noted i r q o) ≡ cond (has_target r q) (numbers_in o ++ i ∷ []) (numbers_in o)
noted_numbers i r q o h = three_numbers (has_target r q) (is_in r.normal q) (is_in r.order q) (has_target r (codes ".PHONY")) i (is_some r.recipe) (is_double_kind r.kind) o
    ∙ ap (λ xs. cond (has_target r q) xs (numbers_in o)) (pushed_new i (numbers_in o) h)

noted_recipe : (i : ℕ) (r : Rule) (q : List ℕ) (o : Option Uses) → recipe_in (noted i r q o) ≡ option_or (cond (has_target r q && is_some r.recipe) (Some i) None) (recipe_in o)
noted_recipe i r q o = three_recipe (has_target r q) (is_in r.normal q) (is_in r.order q) (has_target r (codes ".PHONY")) i (is_some r.recipe) (is_double_kind r.kind) o

pub told_numbers : (i : ℕ) (rules : List Rule) (q : List ℕ) (o : Option Uses) → Below i (numbers_in o) → numbers_in (uses_from i rules q o) ≡ numbers_in o ++ numbers_from i rules q
told_numbers i [] q o h = sym (append-nil (numbers_in o))
told_numbers i (r ∷ rules) q o h =
    let here = noted_numbers i r q o h in
    by_cases (has_target r q) (λ b. numbers_in (noted i r q o) ≡ cond b (numbers_in o ++ i ∷ []) (numbers_in o)
    → numbers_in (uses_from (i + 1) rules q (noted i r q o)) ≡ numbers_in o ++ cond b (i ∷ numbers_from (i + 1) rules q) (numbers_from (i + 1) rules q))
    (λ _ is. told_numbers (i + 1) rules q (noted i r q o) (subst (Below (i + 1)) (sym is) (below_more i i (numbers_in o) h (omega arith)))
    ∙ ap (λ xs. xs ++ numbers_from (i + 1) rules q) is ∙ append_assoc (numbers_in o) (i ∷ []) (numbers_from (i + 1) rules q))
    (λ _ is. told_numbers (i + 1) rules q (noted i r q o) (subst (Below (i + 1)) (sym is) (below_next i (numbers_in o) h))
    ∙ ap (λ xs. xs ++ numbers_from (i + 1) rules q) is) here

pub option_or-assoc : (a b c : Option ℕ) → option_or a (option_or b c) ≡ option_or (option_or a b) c
option_or-assoc None b c = refl
option_or-assoc (Some i) b c = refl

pub told_recipe : (i : ℕ) (rules : List Rule) (q : List ℕ) (o : Option Uses) → recipe_in (uses_from i rules q o) ≡ option_or (recipe_from i rules q) (recipe_in o)
told_recipe i [] q o = refl
told_recipe i (r ∷ rules) q o = told_recipe (i + 1) rules q (noted i r q o) ∙ ap (option_or (recipe_from (i + 1) rules q)) (noted_recipe i r q o) ∙ option_or-assoc (recipe_from (i + 1) rules q) (cond (has_target r q && is_some r.recipe) (Some i) None) (recipe_in o)

or_false : (b : Bool) → b ≡ (b || false)
or_false true = refl
or_false false = refl

or_assoc : (a b c : Bool) → ((a || b) || c) ≡ (a || (b || c))
or_assoc true b c = refl
or_assoc false b c = refl

three_some : (a b c p : Bool) (i : ℕ) (r d : Bool) (o : Option Uses) → is_some (three a b c p i r d o) ≡ (is_some o || (a || (b || c)))
three_some a b c p i r d (Some u) = by_cases c (λ c. is_some (three a b c p i r d (Some u)) ≡ true) (λ _. refl)
    (λ _. by_cases b (λ b. is_some (three a b false p i r d (Some u)) ≡ true) (λ _. refl) (λ _. by_cases a (λ a. is_some (three a false false p i r d (Some u)) ≡ true) (λ _. refl) (λ _. refl)))
three_some true true true p i r d None = refl
three_some true true false p i r d None = refl
three_some true false true p i r d None = refl
three_some true false false p i r d None = refl
three_some false true true p i r d None = refl
three_some false true false p i r d None = refl
three_some false false true p i r d None = refl
three_some false false false p i r d None = refl

noted_some : (i : ℕ) (r : Rule) (q : List ℕ) (o : Option Uses) → is_some (noted i r q o) ≡ (is_some o || mentions r q)
noted_some i r q o = three_some (has_target r q) (is_in r.normal q) (is_in r.order q) (has_target r (codes ".PHONY")) i (is_some r.recipe) (is_double_kind r.kind) o

pub told_mentioned : (i : ℕ) (rules : List Rule) (q : List ℕ) (o : Option Uses) → is_some (uses_from i rules q o) ≡ (is_some o || is_mentioned rules q)
told_mentioned i [] q o = or_false (is_some o)
told_mentioned i (r ∷ rules) q o = told_mentioned (i + 1) rules q (noted i r q o) ∙ ap (λ b. b || is_mentioned rules q) (noted_some i r q o) ∙ or_assoc (is_some o) (mentions r q) (is_mentioned rules q)

three_phony : (a b c p : Bool) (i : ℕ) (r d : Bool) (o : Option Uses) → phony_in (three a b c p i r d o) ≡ (phony_in o || (p && (b || c)))
three_phony a true true p i r d o = by_cases a (λ a. phony_in (three a true true p i r d o) ≡ (phony_in o || (p && true))) (λ _. twice (phony_in o) p) (λ _. twice (phony_in o) p)
  where
    twice : (x p : Bool) → ((x || p) || p) ≡ (x || (p && true))
    twice true p = refl
    twice false true = refl
    twice false false = refl
three_phony a true false p i r d o = by_cases a (λ a. phony_in (three a true false p i r d o) ≡ (phony_in o || (p && true))) (λ _. once (phony_in o) p) (λ _. once (phony_in o) p)
  where
    once : (x p : Bool) → (x || p) ≡ (x || (p && true))
    once true p = refl
    once false true = refl
    once false false = refl
three_phony a false true p i r d o = by_cases a (λ a. phony_in (three a false true p i r d o) ≡ (phony_in o || (p && true))) (λ _. once (phony_in o) p) (λ _. once (phony_in o) p)
  where
    once : (x p : Bool) → (x || p) ≡ (x || (p && true))
    once true p = refl
    once false true = refl
    once false false = refl
three_phony a false false p i r d o = by_cases a (λ a. phony_in (three a false false p i r d o) ≡ (phony_in o || (p && false))) (λ _. none (phony_in o) p) (λ _. none (phony_in o) p)
  where
    none : (x p : Bool) → x ≡ (x || (p && false))
    none true p = refl
    none false true = refl
    none false false = refl

noted_phony : (i : ℕ) (r : Rule) (q : List ℕ) (o : Option Uses) → phony_in (noted i r q o) ≡ (phony_in o || (has_target r (codes ".PHONY") && needs r q))
noted_phony i r q o = three_phony (has_target r q) (is_in r.normal q) (is_in r.order q) (has_target r (codes ".PHONY")) i (is_some r.recipe) (is_double_kind r.kind) o

pub told_phony : (i : ℕ) (rules : List Rule) (q : List ℕ) (o : Option Uses) → phony_in (uses_from i rules q o) ≡ (phony_in o || is_phony rules q)
told_phony i [] q o = or_false (phony_in o)
told_phony i (r ∷ rules) q o = told_phony (i + 1) rules q (noted i r q o) ∙ ap (λ b. b || is_phony rules q) (noted_phony i r q o) ∙ or_assoc (phony_in o) (has_target r (codes ".PHONY") && needs r q) (is_phony rules q)

-- what each target adds to a test of all uses, and nothing else
three_single : (a b c p : Bool) (i : ℕ) (r d : Bool) (o : Option Uses) → single_in (three a b c p i r d o) ≡ (single_in o || (a && not d))
three_single a true true p i r d o = by_cases a (λ a. single_in (three a true true p i r d o) ≡ (single_in o || (a && not d))) (λ _. refl) (λ _. or_false (single_in o))
three_single a true false p i r d o = by_cases a (λ a. single_in (three a true false p i r d o) ≡ (single_in o || (a && not d))) (λ _. refl) (λ _. or_false (single_in o))
three_single a false true p i r d o = by_cases a (λ a. single_in (three a false true p i r d o) ≡ (single_in o || (a && not d))) (λ _. refl) (λ _. or_false (single_in o))
three_single a false false p i r d o = by_cases a (λ a. single_in (three a false false p i r d o) ≡ (single_in o || (a && not d))) (λ _. refl) (λ _. or_false (single_in o))

three_double : (a b c p : Bool) (i : ℕ) (r d : Bool) (o : Option Uses) → double_in (three a b c p i r d o) ≡ (double_in o || (a && d))
three_double a true true p i r d o = by_cases a (λ a. double_in (three a true true p i r d o) ≡ (double_in o || (a && d))) (λ _. refl) (λ _. or_false (double_in o))
three_double a true false p i r d o = by_cases a (λ a. double_in (three a true false p i r d o) ≡ (double_in o || (a && d))) (λ _. refl) (λ _. or_false (double_in o))
three_double a false true p i r d o = by_cases a (λ a. double_in (three a false true p i r d o) ≡ (double_in o || (a && d))) (λ _. refl) (λ _. or_false (double_in o))
three_double a false false p i r d o = by_cases a (λ a. double_in (three a false false p i r d o) ≡ (double_in o || (a && d))) (λ _. refl) (λ _. or_false (double_in o))

noted_single : (i : ℕ) (r : Rule) (q : List ℕ) (o : Option Uses) → single_in (noted i r q o) ≡ (single_in o || (has_target r q && not (is_double_kind r.kind)))
noted_single i r q o = three_single (has_target r q) (is_in r.normal q) (is_in r.order q) (has_target r (codes ".PHONY")) i (is_some r.recipe) (is_double_kind r.kind) o

pub told_single : (i : ℕ) (rules : List Rule) (q : List ℕ) (o : Option Uses) → single_in (uses_from i rules q o) ≡ (single_in o || is_single rules q)
told_single i [] q o = or_false (single_in o)
told_single i (r ∷ rules) q o = told_single (i + 1) rules q (noted i r q o) ∙ ap (λ b. b || is_single rules q) (noted_single i r q o) ∙ or_assoc (single_in o) (has_target r q && not (is_double_kind r.kind)) (is_single rules q)

noted_double : (i : ℕ) (r : Rule) (q : List ℕ) (o : Option Uses) → double_in (noted i r q o) ≡ (double_in o || (has_target r q && is_double_kind r.kind))
noted_double i r q o = three_double (has_target r q) (is_in r.normal q) (is_in r.order q) (has_target r (codes ".PHONY")) i (is_some r.recipe) (is_double_kind r.kind) o

pub told_double : (i : ℕ) (rules : List Rule) (q : List ℕ) (o : Option Uses) → double_in (uses_from i rules q o) ≡ (double_in o || is_double rules q)
told_double i [] q o = or_false (double_in o)
told_double i (r ∷ rules) q o = told_double (i + 1) rules q (noted i r q o) ∙ ap (λ b. b || is_double rules q) (noted_double i r q o) ∙ or_assoc (double_in o) (has_target r q && is_double_kind r.kind) (is_double rules q)

pub option_or-None : (o : Option ℕ) → option_or o None ≡ o
option_or-None None = refl
option_or-None (Some i) = refl

pub told_target : (i : ℕ) (rules : List Rule) (q : List ℕ) → ltb 0 (length (numbers_from i rules q)) ≡ is_target rules q
told_target i [] q = refl
told_target i (r ∷ rules) q = by_cases (has_target r q) (λ b. ltb 0 (length (cond b (i ∷ numbers_from (i + 1) rules q) (numbers_from (i + 1) rules q))) ≡ (b || is_target rules q))
    (λ _. lt-ltb 0 (suc (length (numbers_from (i + 1) rules q))) (omega arith))
    (λ _. told_target (i + 1) rules q)

-- ---- rules noted behind others

pub uses_append : (i : ℕ) (xs ys : List Rule) (q : List ℕ) (o : Option Uses) → uses_from i (xs ++ ys) q o ≡ uses_from (i + length xs) ys q (uses_from i xs q o)
uses_append i [] ys q o = rw (add-zero i) refl
uses_append i (x ∷ xs) ys q o = rw (let e : i + suc (length xs) ≡ i + 1 + length xs = omega arith in e) (uses_append (i + 1) xs ys q (noted i x q o))

pub tells_more : (t u : Index) (first : ℕ) (before rules : List Rule) → first ≡ length before → Tells t before → ((q : List ℕ) → get u q ≡ uses_from first rules q (get t q)) → Tells u (before ++ rules)
tells_more t u first before rules is told noted = λ q. noted q ∙ ap (uses_from first rules q) (told q) ∙ ap (λ k. uses_from k rules q (uses_of before q)) (is ∙ sym (zero-add (length before))) ∙ sym (uses_append 0 before rules q None)

-- ---- the rules gone over one by one

pub number_more : (b : Bool) (i : ℕ) (numbers rest : List ℕ) → (numbers ++ cond b (i ∷ []) []) ++ rest ≡ numbers ++ cond b (i ∷ rest) rest
number_more true i numbers rest = append_assoc numbers (i ∷ []) rest
number_more false i numbers rest = ap (λ xs. xs ++ rest) (append-nil numbers)

pub none_past : {X : Type 0} (rules : List X) (i : ℕ) → length rules ≤ i → slice_get rules i ≡ None
none_past [] zero le = refl
none_past [] (suc i) le = refl
none_past (r ∷ rs) zero le = absurd (omega arith)
none_past (r ∷ rs) (suc i) le = none_past rs i (omega arith)

pub get_at : {X : Type 0} (xs : List X) (i : ℕ) (x : X) → i < length xs → x ≡ get_or xs i x → slice_get xs i ≡ Some x
get_at [] i x lt e = absurd (omega arith)
get_at (y ∷ xs) zero x lt e = ap Some (sym e)
get_at (y ∷ xs) (suc i) x lt e = get_at xs i x (omega arith) e
