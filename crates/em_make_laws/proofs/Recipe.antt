-- Recipes: the automatic variables by name, names without doubles, marks, commands.
use Rattle.std.proofs.Common.{◌≡◌, ◌≢◌, ◌∙◌, ℕ, zero, suc, ◌+◌, ◌-◌, ◌<◌, ◌==◌, ◌⊎◌, ◌&&◌, ◌||◌, Bool, true, false, not, cond, eqb, List, [], ◌∷◌, ◌++◌, length, take, drop, reverse, map, get_or, All, Contains, Option, Some, None, codes, inl, inr, arith, refl, sym, ap, subst, append_assoc, append-nil, one-add}
use Rattle.std.specs.Prelude.{nat_lt}
use Rattle.std.specs.List.{AllByRecursion, filter, list_all, list_any, after_last, prefix_len, suffix_len}
use Rattle.std.specs.Str.{bytes_eq}
use Rattle.std.proofs.lemmas.Bool.{eqb-true, eq-eqb, ne_eqb, lt-ltb}
use Rattle.std.proofs.lemmas.List.{take_at, drop_at, length-append, reverse-append, length-reverse, map-append}
use Rattle.std.proofs.lemmas.List.Elements.{recursion_from_All, filter-append, Contains-get_or}
use Rattle.std.proofs.lemmas.List.Folds.{list_all-append, list_any_at, list_any_none}
use Rattle.std.proofs.lemmas.Slice.Eq.{bytes_eq-Decides}
use Rattle.em_base.specs.Blanks.{is_blank}
use Rattle.em_base.proofs.Lemmas.{by_cases, prefix_until}
use Rattle.em_wordlist.specs.Words.{words_of, joined}
use Rattle.em_namefn.specs.Names.{file_of}
use Rattle.em_vars.specs.declared.var.Var.{Var}
use Rattle.em_vars.specs.Entries.{Entries, value_of}
use Rattle.em_expand.specs.Layered.{automatic}
use Rattle.em_plan.specs.declared.planned.Pre.{Pre}
use Rattle.em_plan.specs.declared.planned.PlanJob.{PlanJob}
use Rattle.em_recipe.specs.declared.command.RecipeCommand.{RecipeCommand}
use Rattle.em_recipe.specs.declared.mark.Marks.{Marks}
use Rattle.em_recipe.specs.Marks.{is_mark, has, marks, bare, either}
use Rattle.em_recipe.specs.Commands.{lines_from, split, command, kept, commands_of}
use Rattle.em_recipe.specs.Automatic.{once, names_of, dir_part, texts, with_automatic}
use Rattle.em_make_laws.specs.Recipes.{Reads, HasNo, Parted, IsParted, unmarked, BeginsPlain, EndsWith, AreEscaped}

-- ---- automatic variables

abbrev Named : Type 0
Named = List ℕ × List ℕ

abbrev pub Own : Type 0
Own = (vars : Entries) (job : PlanJob) (newer : List (List ℕ)) → All (λ p. value_of (with_automatic vars job newer) p.0 ≡ Some (automatic p.1)) (texts job newer)

abbrev Has : Entries → Named → Type 0
Has es p = value_of es p.0 ≡ Some (automatic p.1)

known : Own → (vars : Entries) (job : PlanJob) (newer : List (List ℕ)) → AllByRecursion (Has (with_automatic vars job newer)) (texts job newer)
known own vars job newer = recursion_from_All (Has (with_automatic vars job newer)) (texts job newer) (own vars job newer)

pub target_read : Own → (vars : Entries) (job : PlanJob) (newer : List (List ℕ)) → Reads vars job newer (codes "@") job.target
unfolding texts
target_read own vars job newer = (known own vars job newer).0

least_read : Own → (vars : Entries) (job : PlanJob) (newer : List (List ℕ)) → Reads vars job newer (codes "<") (get_or (names_of job.normal) 0 [])
unfolding texts
least_read own vars job newer = (known own vars job newer).1.1.1.0

pub first_read : Own → (vars : Entries) (job : PlanJob) (newer : List (List ℕ)) (p : Pre) (ps : List Pre) → job.normal ≡ p ∷ ps → Reads vars job newer (codes "<") p.name
first_read own vars job newer p ps e = least_read own vars job newer ∙ ap (λ (l : List Pre). Some (automatic (get_or (names_of l) 0 []))) e

pub no_first_read : Own → (vars : Entries) (job : PlanJob) (newer : List (List ℕ)) → job.normal ≡ [] → Reads vars job newer (codes "<") []
no_first_read own vars job newer e = least_read own vars job newer ∙ ap (λ (l : List Pre). Some (automatic (get_or (names_of l) 0 []))) e

pub once_read : Own → (vars : Entries) (job : PlanJob) (newer : List (List ℕ)) → Reads vars job newer (codes "^") (joined (once (names_of job.normal)))
unfolding texts
once_read own vars job newer = (known own vars job newer).1.1.1.1.1.1.0

pub all_read : Own → (vars : Entries) (job : PlanJob) (newer : List (List ℕ)) → Reads vars job newer (codes "+") (joined (names_of job.normal))
unfolding texts
all_read own vars job newer = (known own vars job newer).1.1.1.1.1.1.1.1.1.0

pub newer_read : Own → (vars : Entries) (job : PlanJob) (newer : List (List ℕ)) → Reads vars job newer (codes "?") (joined (once newer))
unfolding texts
newer_read own vars job newer = (known own vars job newer).1.1.1.1.1.1.1.1.1.1.1.1.0

pub stem_read : Own → (vars : Entries) (job : PlanJob) (newer : List (List ℕ)) → Reads vars job newer (codes "*") job.stem
unfolding texts
stem_read own vars job newer = (known own vars job newer).1.1.1.1.1.1.1.1.1.1.1.1.1.1.1.0

pub order_read : Own → (vars : Entries) (job : PlanJob) (newer : List (List ℕ)) → Reads vars job newer (codes "|") (joined (names_of job.order))
unfolding texts
order_read own vars job newer = (known own vars job newer).1.1.1.1.1.1.1.1.1.1.1.1.1.1.1.1.1.1.0

-- ---- directories and files of names

abbrev Without : ℕ → List ℕ → Type 0
Without c bs = AllByRecursion (λ b. b ≢ c) bs

abbrev other : ℕ → ℕ → Bool
other c b = not (b == c)

all_other : (c : ℕ) (bs : List ℕ) → Without c bs → list_all (other c) bs ≡ true
all_other c [] h = refl
all_other c (b ∷ bs) h = rw (ne_eqb b c h.0, all_other c bs h.1) refl

all_reverse : (c : ℕ) (bs : List ℕ) → list_all (other c) bs ≡ true → list_all (other c) (reverse bs) ≡ true
all_reverse c [] h = refl
all_reverse c (b ∷ bs) h = by_cases (other c b) (λ t. other c b ≡ t → (t && list_all (other c) bs) ≡ true → list_all (other c) (reverse (b ∷ bs)) ≡ true)
    (λ _ is more. ap (list_all (other c)) (reverse-append (b ∷ []) bs) ∙ list_all-append (other c) (reverse bs) (b ∷ []) ∙ rw (all_reverse c bs more, is) refl)
    (λ _ _ more. absurd cc) refl h

run_all : (p : ℕ → Bool) (xs : List ℕ) → list_all p xs ≡ true → prefix_len p xs ≡ length xs
run_all p [] h = refl
run_all p (x ∷ xs) h = by_cases (p x) (λ t. (t && list_all p xs) ≡ true → cond t (1 + prefix_len p xs) 0 ≡ suc (length xs))
    (λ _ more. let ih = run_all p xs more in omega arith)
    (λ _ more. absurd cc) h

file_behind : (front file : List ℕ) → Without 47 file → file_of (front ++ 47 ∷ file) ≡ file
file_behind front file h =
    let whole = front ++ 47 ∷ file in
    let turned : reverse whole ≡ reverse file ++ 47 ∷ reverse front =
    ap reverse (sym (append_assoc front (47 ∷ []) file)) ∙ reverse-append (front ++ 47 ∷ []) file ∙ ap (λ (w : List ℕ). reverse file ++ w) (reverse-append front (47 ∷ [])) in
    let n : suffix_len (other 47) whole ≡ length file =
    ap (prefix_len (other 47)) turned ∙ prefix_until (other 47) (reverse file) 47 (reverse front) (all_reverse 47 file (all_other 47 file h)) refl ∙ length-reverse file in
    let k : length whole - suffix_len (other 47) whole ≡ length (front ++ 47 ∷ []) = omega (arith, n, length-append front (47 ∷ file), length-append front (47 ∷ [])) in
    ap (λ m. drop m whole) k ∙ ap (drop (length (front ++ 47 ∷ []))) (sym (append_assoc front (47 ∷ []) file)) ∙ drop_at (front ++ 47 ∷ []) file (length (front ++ 47 ∷ [])) refl

file_plain : (file : List ℕ) → Without 47 file → file_of file ≡ file
file_plain file h =
    let n : suffix_len (other 47) file ≡ length file = run_all (other 47) (reverse file) (all_reverse 47 file (all_other 47 file h)) ∙ length-reverse file in
    let k : length file - suffix_len (other 47) file ≡ 0 = omega arith in
    ap (λ m. drop m file) k

dir_before : (front file : List ℕ) → Without 47 file → dir_part (front ++ 47 ∷ file) ≡ front
dir_before front file h =
    let whole = front ++ 47 ∷ file in
    let e = ap length (file_behind front file h) in
    let size = length-append front (47 ∷ file) in
    let apart : eqb (length (file_of whole)) (length whole) ≡ false = ne_eqb _ _ (λ same. omega arith) in
    let k : length whole - length (file_of whole) - 1 ≡ length front = omega arith in
    ap (λ (t : Bool). cond t (codes ".") (take (length whole - length (file_of whole) - 1) whole)) apart ∙ ap (λ m. take m whole) k ∙ take_at front (47 ∷ file) (length front) refl

dir_here : (file : List ℕ) → Without 47 file → dir_part file ≡ codes "."
dir_here file h = ap (λ (t : Bool). cond t (codes ".") (take (length file - length (file_of file) - 1) file)) (eq-eqb _ _ (ap length (file_plain file h)))

parts_are : (p : Parted) → IsParted p → (dir_part p.word ≡ p.directory) × (file_of p.word ≡ p.file)
parts_are p h = by h.1
  where
    none : Without 47 p.file
    none = recursion_from_All (λ b. b ≢ 47) p.file h.0

    by : (p.word ≡ p.directory ++ 47 ∷ p.file) ⊎ ((p.word ≡ p.file) × (p.directory ≡ codes ".")) → (dir_part p.word ≡ p.directory) × (file_of p.word ≡ p.file)
    by (inl e) = (ap dir_part e ∙ dir_before p.directory p.file none, ap file_of e ∙ file_behind p.directory p.file none)
    by (inr e) = (ap dir_part e.0 ∙ dir_here p.file none ∙ sym e.1, ap file_of e.0 ∙ file_plain p.file none)

all_directories : (ps : List Parted) → AllByRecursion IsParted ps → map dir_part (map (λ (p : Parted). p.word) ps) ≡ map (λ (p : Parted). p.directory) ps
all_directories [] h = refl
all_directories (p ∷ ps) h = rw ((parts_are p h.0).0, all_directories ps h.1) refl

all_files : (ps : List Parted) → AllByRecursion IsParted ps → map file_of (map (λ (p : Parted). p.word) ps) ≡ map (λ (p : Parted). p.file) ps
all_files [] h = refl
all_files (p ∷ ps) h = rw ((parts_are p h.0).1, all_files ps h.1) refl

text_in : Option Var → List ℕ
text_in None = []
text_in (Some v) = v.text

same_text : (es : Entries) (n a b : List ℕ) → value_of es n ≡ Some (automatic a) → value_of es n ≡ Some (automatic b) → a ≡ b
unfolding text_in
same_text es n a b h k = ap text_in (sym h ∙ k)

-- one of the six names
contained : (P : ℕ → Type 0) → P 64 → P 60 → P 94 → P 43 → P 63 → P 42 → (b : ℕ) → Contains (codes "@<^+?*") b → P b
contained P at lt hat plus what star b (zero, low, e) = subst P e at
contained P at lt hat plus what star b (suc zero, low, e) = subst P e lt
contained P at lt hat plus what star b (suc (suc zero), low, e) = subst P e hat
contained P at lt hat plus what star b (suc (suc (suc zero)), low, e) = subst P e plus
contained P at lt hat plus what star b (suc (suc (suc (suc zero))), low, e) = subst P e what
contained P at lt hat plus what star b (suc (suc (suc (suc (suc zero)))), low, e) = subst P e star
contained P at lt hat plus what star b (suc (suc (suc (suc (suc (suc k))))), low, e) = absurd (omega arith)

-- what the form of a variable for the parts of its names has
abbrev Form : List ℕ → (List ℕ → List ℕ) → Entries → ℕ → Type 0
Form end part es b = (text : List ℕ) → value_of es (b ∷ []) ≡ Some (automatic text) → value_of es (b ∷ end) ≡ Some (automatic (joined (map part (words_of text))))

form : (end : List ℕ) (part : List ℕ → List ℕ) (es : Entries) (b : ℕ) (whole : List ℕ) → value_of es (b ∷ []) ≡ Some (automatic whole) → value_of es (b ∷ end) ≡ Some (automatic (joined (map part (words_of whole)))) → Form end part es b
form end part es b whole h k text e = k ∙ ap (λ t. Some (automatic (joined (map part (words_of t))))) (same_text es (b ∷ []) whole text h e)

directory_forms : Own → (vars : Entries) (job : PlanJob) (newer : List (List ℕ)) (b : ℕ) → Contains (codes "@<^+?*") b → Form (codes "D") dir_part (with_automatic vars job newer) b
unfolding texts
directory_forms own vars job newer =
    let es = with_automatic vars job newer in
    let at = known own vars job newer in
    let lt = at.1.1.1 in
    let hat = lt.1.1.1 in
    let plus = hat.1.1.1 in
    let what = plus.1.1.1 in
    let star = what.1.1.1 in
    contained (Form (codes "D") dir_part es) (form (codes "D") dir_part es 64 _ at.0 at.1.0) (form (codes "D") dir_part es 60 _ lt.0 lt.1.0) (form (codes "D") dir_part es 94 _ hat.0 hat.1.0)
    (form (codes "D") dir_part es 43 _ plus.0 plus.1.0) (form (codes "D") dir_part es 63 _ what.0 what.1.0) (form (codes "D") dir_part es 42 _ star.0 star.1.0)

file_forms : Own → (vars : Entries) (job : PlanJob) (newer : List (List ℕ)) (b : ℕ) → Contains (codes "@<^+?*") b → Form (codes "F") file_of (with_automatic vars job newer) b
unfolding texts
file_forms own vars job newer =
    let es = with_automatic vars job newer in
    let at = known own vars job newer in
    let lt = at.1.1.1 in
    let hat = lt.1.1.1 in
    let plus = hat.1.1.1 in
    let what = plus.1.1.1 in
    let star = what.1.1.1 in
    contained (Form (codes "F") file_of es) (form (codes "F") file_of es 64 _ at.0 at.1.1.0) (form (codes "F") file_of es 60 _ lt.0 lt.1.1.0) (form (codes "F") file_of es 94 _ hat.0 hat.1.1.0)
    (form (codes "F") file_of es 43 _ plus.0 plus.1.1.0) (form (codes "F") file_of es 63 _ what.0 what.1.1.0) (form (codes "F") file_of es 42 _ star.0 star.1.1.0)

pub directories_read : Own → (vars : Entries) (job : PlanJob) (newer : List (List ℕ)) (b : ℕ) (text : List ℕ) (parts : List Parted) → Contains (codes "@<^+?*") b → Reads vars job newer (b ∷ []) text → words_of text ≡ map (λ p. p.word) parts → All IsParted parts →
    Reads vars job newer (b ∷ codes "D") (joined (map (λ p. p.directory) parts))
directories_read own vars job newer b text parts one reads words parted =
    directory_forms own vars job newer b one text reads
    ∙ ap (λ ws. Some (automatic (joined ws))) (ap (map dir_part) words ∙ all_directories parts (recursion_from_All IsParted parts parted))

pub files_read : Own → (vars : Entries) (job : PlanJob) (newer : List (List ℕ)) (b : ℕ) (text : List ℕ) (parts : List Parted) → Contains (codes "@<^+?*") b → Reads vars job newer (b ∷ []) text → words_of text ≡ map (λ p. p.word) parts → All IsParted parts →
    Reads vars job newer (b ∷ codes "F") (joined (map (λ p. p.file) parts))
files_read own vars job newer b text parts one reads words parted =
    file_forms own vars job newer b one text reads
    ∙ ap (λ ws. Some (automatic (joined ws))) (ap (map file_of) words ∙ all_files parts (recursion_from_All IsParted parts parted))

-- ---- names without doubles

pub once_none : once [] ≡ []
once_none = refl

module _ (x w : List ℕ) where
  abbrev differs : List ℕ → Bool
  differs y = not (bytes_eq y x)

  left_by : (t : Bool) (ys : List (List ℕ)) → filter differs (cond t ys (ys ++ w ∷ [])) ≡ cond t (filter differs ys) (filter differs ys ++ cond (differs w) (w ∷ []) [])
  left_by true ys = refl
  left_by false ys = filter-append differs ys (w ∷ [])

  more_by : (t e : Bool) (ys : List (List ℕ)) → x ∷ cond t ys (ys ++ cond (not e) (w ∷ []) []) ≡ cond (e || t) (x ∷ ys) ((x ∷ ys) ++ w ∷ [])
  more_by true true ys = refl
  more_by true false ys = refl
  more_by false true ys = ap (λ zs. x ∷ zs) (append-nil ys)
  more_by false false ys = refl

once_push : (ws : List (List ℕ)) (w : List ℕ) → once (ws ++ w ∷ []) ≡ cond (list_any (bytes_eq w) ws) (once ws) (once ws ++ w ∷ [])
once_push [] w = refl
once_push (x ∷ xs) w =
    let there = list_any (bytes_eq w) xs in
    ap (λ ys. x ∷ filter (differs x w) ys) (once_push xs w)
    ∙ ap (λ ys. x ∷ ys) (left_by x w there (once xs))
    ∙ more_by x w there (bytes_eq w x) (filter (differs x w) (once xs))

pub once_again : (names : List (List ℕ)) (n : List ℕ) → Contains names n → once (names ++ n ∷ []) ≡ once names
once_again names n (k, low, e) =
    let there : list_any (bytes_eq n) names ≡ true = list_any_at (bytes_eq n) names k n low ((bytes_eq-Decides n (get_or names k n)).1 (sym e)) in
    once_push names n ∙ ap (λ t. cond t (once names) (once names ++ n ∷ [])) there

pub once_first : (names : List (List ℕ)) (n : List ℕ) → ¬ Contains names n → once (names ++ n ∷ []) ≡ once names ++ n ∷ []
once_first names n absent =
    let none : list_any (bytes_eq n) names ≡ false = list_any_none (bytes_eq n) names (λ k d low. by_cases (bytes_eq n (get_or names k d)) (λ t. bytes_eq n (get_or names k d) ≡ t → t ≡ false)
    (λ _ is. absurd (absent (subst (Contains names) (sym ((bytes_eq-Decides n (get_or names k d)).0 is)) (Contains-get_or names k d low))))
    (λ _ _. refl) refl) in
    once_push names n ∙ ap (λ t. cond t (once names) (once names ++ n ∷ [])) none

-- ---- marks

has_more : (mark b : ℕ) (line : List ℕ) → is_mark b ≡ true → has mark (b ∷ line) ≡ ((b == mark) || has mark line)
has_more mark b line is = rw (is, one-add (prefix_len is_mark line)) refl

bare_more : (b : ℕ) (line : List ℕ) → is_mark b ≡ true → bare (b ∷ line) ≡ bare line
bare_more b line is = rw (is, one-add (prefix_len is_mark line)) refl

abbrev marked : Bool → Bool → Bool → Marks
marked a b c = record { silent = a; lenient = b; forced = c }

marks_more : (b : ℕ) (line : List ℕ) → is_mark b ≡ true → marks (b ∷ line) ≡ marked ((b == 64) || has 64 line) ((b == 45) || has 45 line) ((b == 43) || has 43 line)
marks_more b line is = rw (has_more 64 b line is, has_more 45 b line is, has_more 43 b line is) refl

pub marked_silent : (line : List ℕ) → (marks (64 ∷ line) ≡ record (marks line) { silent = true }) × (bare (64 ∷ line) ≡ bare line)
marked_silent line = (marks_more 64 line refl, bare_more 64 line refl)

pub marked_lenient : (line : List ℕ) → (marks (45 ∷ line) ≡ record (marks line) { lenient = true }) × (bare (45 ∷ line) ≡ bare line)
marked_lenient line = (marks_more 45 line refl, bare_more 45 line refl)

pub marked_forced : (line : List ℕ) → (marks (43 ∷ line) ≡ record (marks line) { forced = true }) × (bare (43 ∷ line) ≡ bare line)
marked_forced line = (marks_more 43 line refl, bare_more 43 line refl)

abbrev Skips : List ℕ → ℕ → Type 0
Skips line b = (marks (b ∷ line) ≡ marks line) × (bare (b ∷ line) ≡ bare line)

pub marked_blank : (line : List ℕ) (b : ℕ) → (b ≡ 32) ⊎ (b ≡ 9) → Skips line b
marked_blank line b (inl e) = subst (Skips line) (sym e) (marks_more 32 line refl, bare_more 32 line refl)
marked_blank line b (inr e) = subst (Skips line) (sym e) (marks_more 9 line refl, bare_more 9 line refl)

isnt_mark : (b : ℕ) → (b ≢ 32) × (b ≢ 9) × (b ≢ 64) × (b ≢ 45) × (b ≢ 43) → is_mark b ≡ false
isnt_mark b h = rw (ne_eqb b 32 h.0, ne_eqb b 9 h.1, ne_eqb b 64 h.2, ne_eqb b 45 h.3, ne_eqb b 43 h.4) refl

pub marked_plain : (line : List ℕ) → BeginsPlain line → (marks line ≡ unmarked) × (bare line ≡ line)
marked_plain [] h = (refl, refl)
marked_plain (b ∷ bs) h = let isnt = isnt_mark b h in (rw isnt refl, rw isnt refl)

-- ---- commands

-- whether the last byte is a backslash, where q is it of what stands before
abbrev behind : Bool → List ℕ → Bool
behind q [] = q
behind q (b ∷ bs) = behind (b == 92) bs

behind_push : (q : Bool) (text : List ℕ) (b : ℕ) → behind q (text ++ b ∷ []) ≡ (b == 92)
behind_push q [] b = refl
behind_push q (c ∷ text) b = behind_push (c == 92) text b

ends_so : (q : Bool) (text : List ℕ) → behind q text ≡ true → ((text ≡ []) × (q ≡ true)) ⊎ EndsWith 92 text
ends_so q [] h = inl (refl, h)
ends_so q (b ∷ bs) h = by (ends_so (b == 92) bs h)
  where
    by : ((bs ≡ []) × ((b == 92) ≡ true)) ⊎ EndsWith 92 bs → ((b ∷ bs ≡ []) × (q ≡ true)) ⊎ EndsWith 92 (b ∷ bs)
    by (inl e) = inr ([], ap (λ (t : List ℕ). b ∷ t) e.0 ∙ ap (λ c. c ∷ []) (eqb-true b 92 e.1))
    by (inr e) = inr (b ∷ e.0, ap (λ (t : List ℕ). b ∷ t) e.1)

open_end : (text : List ℕ) → ¬ EndsWith 92 text → behind false text ≡ false
open_end text h = by_cases (behind false text) (λ t. behind false text ≡ t → t ≡ false) (λ _ is. by (ends_so false text is)) (λ _ _. refl) refl
  where
    by : ((text ≡ []) × (false ≡ true)) ⊎ EndsWith 92 text → true ≡ false
    by (inl e) = sym e.1
    by (inr e) = absurd (h e)

lines_parted : (line : List ℕ) (q : Bool) (a b : List ℕ) → behind q a ≡ false → lines_from line q (a ++ 10 ∷ b) ≡ lines_from line q a ++ lines_from [] false b
lines_parted line q [] b h = rw h refl
lines_parted line q (c ∷ cs) b h = by_cases ((c == 10) && not q)
    (λ e. ((c == 10) && not q) ≡ e → cond e (line ∷ lines_from [] false (cs ++ 10 ∷ b)) (lines_from (line ++ c ∷ []) (c == 92) (cs ++ 10 ∷ b)) ≡ cond e (line ∷ lines_from [] false cs) (lines_from (line ++ c ∷ []) (c == 92) cs) ++ lines_from [] false b)
    (λ _ ends. ap (λ ls. line ∷ ls) (lines_parted [] false cs b (ap (λ t. behind t cs) (sym (newline ends)) ∙ h)))
    (λ _ _. lines_parted (line ++ c ∷ []) (c == 92) cs b h) refl
  where
    newline : ((c == 10) && not q) ≡ true → (c == 92) ≡ false
    newline ends = by_cases (c == 10) (λ t. (c == 10) ≡ t → (t && not q) ≡ true → (c == 92) ≡ false)
        (λ _ is _. ap (λ (n : ℕ). n == 92) (eqb-true c 10 is))
        (λ _ _ bad. absurd cc) refl ends

abbrev filled : RecipeCommand → Bool
filled c = nat_lt 0 (length c.text)

kept_append : (front : Marks) (xs ys : List (List ℕ)) → kept front (xs ++ ys) ≡ kept front xs ++ kept front ys
kept_append front xs ys = ap (filter filled) (map-append (command front) xs ys) ∙ filter-append filled (map (command front) xs) (map (command front) ys)

pub commands_parted : (written a b : List ℕ) → ¬ EndsWith 92 a → commands_of written (a ++ 10 ∷ b) ≡ commands_of written a ++ commands_of written b
unfolding commands_of split
commands_parted written a b h = ap (kept (marks written)) (lines_parted [] false a b (open_end a h)) ∙ kept_append (marks written) (lines_from [] false a) (lines_from [] false b)

-- each newline stands behind a backslash, where q is whether one stands before the text
abbrev Escaped : Bool → List ℕ → Type 0
Escaped q [] = Unit {0}
Escaped q (b ∷ bs) = (b ≡ 10 → q ≡ true) × Escaped (b == 92) bs

escaped : (front text : List ℕ) → ((f r : List ℕ) → front ++ text ≡ f ++ 10 ∷ r → EndsWith 92 f) → Escaped (behind false front) text
escaped front [] h = tt
escaped front (b ∷ bs) h = (
  λ is. (let e = h front bs (ap (λ c. front ++ c ∷ bs) is) in ap (behind false) e.1 ∙ behind_push false e.0 92),
  subst (λ t. Escaped t bs) (behind_push false front b) (escaped (front ++ b ∷ []) bs (λ f r e. h f r (sym (append_assoc front (b ∷ []) bs) ∙ e))),
)

one_line : (line : List ℕ) (q : Bool) (text : List ℕ) → Escaped q text → lines_from line q text ≡ (line ++ text) ∷ []
one_line line q [] h = ap (λ l. l ∷ []) (sym (append-nil line))
one_line line q (b ∷ bs) h =
    let goes : ((b == 10) && not q) ≡ false = by_cases (b == 10) (λ t. (b == 10) ≡ t → (t && not q) ≡ false) (λ _ is. ap not (h.0 (eqb-true b 10 is))) (λ _ _. refl) refl in
    ap (λ e. cond e (line ∷ lines_from [] false bs) (lines_from (line ++ b ∷ []) (b == 92) bs)) goes
    ∙ one_line (line ++ b ∷ []) (b == 92) bs h.1 ∙ ap (λ l. l ∷ []) (append_assoc line (b ∷ []) bs)

one_kept : (front : Marks) (text : List ℕ) (rest : List ℕ) → bare text ≡ rest → kept front (text ∷ []) ≡ cond (nat_lt 0 (length rest)) ((record { text = rest; marks = either front (marks text) }) ∷ []) []
one_kept front text rest e = ap (λ t. cond (nat_lt 0 (length t)) ((record { text = t; marks = either front (marks text) }) ∷ []) []) e

filled_text : (text : List ℕ) → text ≢ [] → nat_lt 0 (length text) ≡ true
filled_text [] h = absurd (h refl)
filled_text (b ∷ bs) h = lt-ltb 0 (suc (length bs)) (omega arith)

pub commands_one : (written text : List ℕ) → AreEscaped text → bare text ≢ [] → commands_of written text ≡ (record { text = bare text; marks = either (marks written) (marks text) }) ∷ []
unfolding commands_of split
commands_one written text h some =
    ap (kept (marks written)) (one_line [] false text (escaped [] text h)) ∙ one_kept (marks written) text (bare text) refl
    ∙ ap (λ t. cond t ((record { text = bare text; marks = either (marks written) (marks text) }) ∷ []) []) (filled_text (bare text) some)

pub commands_empty : (written text : List ℕ) → AreEscaped text → bare text ≡ [] → commands_of written text ≡ []
unfolding commands_of split
commands_empty written text h none = ap (kept (marks written)) (one_line [] false text (escaped [] text h)) ∙ one_kept (marks written) text [] none

or_false : (b : Bool) → (b || false) ≡ b
or_false true = refl
or_false false = refl

either_none : (m : Marks) → either m unmarked ≡ m
either_none m = rw (or_false m.silent, or_false m.lenient, or_false m.forced) refl

no_newline : (text : List ℕ) → HasNo 10 text → Escaped false text
no_newline text h = by false text (recursion_from_All (λ b. b ≢ 10) text h)
  where
    by : (q : Bool) (text : List ℕ) → Without 10 text → Escaped q text
    by q [] h = tt
    by q (b ∷ bs) h = (λ is. absurd (h.0 is), by (b == 92) bs h.1)

pub commands_plain : (written text : List ℕ) → HasNo 10 text → BeginsPlain text → text ≢ [] → commands_of written text ≡ (record { text = text; marks = marks written }) ∷ []
unfolding commands_of split
commands_plain written text h plain some =
    let front = marked_plain text plain in
    ap (kept (marks written)) (one_line [] false text (no_newline text h)) ∙ one_kept (marks written) text text front.1
    ∙ ap (λ t. cond t ((record { text = text; marks = either (marks written) (marks text) }) ∷ []) []) (filled_text text some)
    ∙ ap (λ (m : Marks). (let c : RecipeCommand = record { text = text; marks = m } in c ∷ [])) (ap (either (marks written)) front.0 ∙ either_none (marks written))
