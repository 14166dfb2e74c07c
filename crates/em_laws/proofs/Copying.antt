-- What cp -r and mkdir -p leave, on a state. Paths are spelled by their components.
use Rattle.std.proofs.Common.{◌≡◌, ◌≢◌, ◌⊎◌, inl, inr, ℕ, zero, suc, ◌-◌, ◌≤◌, Bool, true, cond, List, [], ◌∷◌, ◌++◌, length, take, Option, Some, None, Result, Ok, Err, arith, refl, sym, ap, subst, ◌∙◌, append_assoc, append-nil}
use Rattle.std.specs.Prelude.{All, IsSome, IfSome, option_map, slice_get, max, nat_lt}
use Rattle.std.specs.FinMap.{get}
use Rattle.std.specs.List.{AllByRecursion}
use Rattle.std.proofs.lemmas.Bool.{ltb-false}
use Rattle.std.proofs.lemmas.List.{take_at, length_push, length-append}
use Rattle.std.proofs.lemmas.List.Elements.{recursion_from_All, All-from_recursion}
use Rattle.em_base.proofs.Lemmas.{by_cases}
use Rattle.em_path.specs.declared.path.PathNo.{PathNo}
use Rattle.em_path.specs.declared.path.PathNo.TheVariants.{TooLong, TooDeep}
use Rattle.em_path.specs.Paths.{IsComponent, IsPath, path_text, components, child_text, parent_of, parent_text, last_of}
use Rattle.em_path.specs.Reading.{limit_fault}
use Rattle.em_path.proofs.Lemmas.{components-path_text, split_last}
use Rattle.em_path.proofs.Spelling.{IsPath-spelled}
use Rattle.em_tree.specs.declared.node.Kind.{Kind}
use Rattle.em_tree.specs.declared.node.Kind.TheVariants as kind
use Rattle.em_tree.specs.declared.node.Node.{Node}
use Rattle.em_tree.specs.declared.node.Node.TheVariants.{File, Dir, Link}
use Rattle.em_tree.specs.declared.state.State.{State}
use Rattle.em_tree.specs.Trees.{Table, Changes, IsTree, kind_of, content_of, laid_over}
use Rattle.em_view.specs.declared.no.DeskNo.{DeskNo}
use Rattle.em_view.specs.declared.no.FileNo.TheVariants as file
use Rattle.em_view.specs.declared.done.Done.{Done}
use Rattle.em_view.specs.declared.done.ExecNo.{ExecNo}
use Rattle.em_view.specs.Actions.{Workspace, Oracle, snapshot, Action, go_on, ◌>>=◌, renamed}
use Rattle.em_view.specs.Held.{NamesPaths}
use Rattle.em_view.specs.Rows.{becomes, put_refusal, dir_refusal, kind_at, link_at, names, make_dir, make_link, remove, content, put}
use Rattle.em_view.specs.Steps.{Steps, with_state, and_then, own, below, within, with_part}
use Rattle.em_view.specs.Steps as steps
use Rattle.em_view.proofs.Fitting.{tree_put, paths_becomes}
use Rattle.em_utility.specs.declared.reason.Reason.{Reason}
use Rattle.em_utility.specs.declared.reason.Reason.TheVariants as reason
use Rattle.em_utility.specs.declared.operand.OperandNo.{OperandNo}
use Rattle.em_utility.specs.declared.operand.OperandNo.TheVariants.{Fault, End}
use Rattle.em_utility.specs.Reasons.{status_for}
use Rattle.em_utility.specs.Operands.{refused, at, settled, caught, each, Tries}
use Rattle.em_fileutil.specs.Spots.{told, child_by, child, gives, there_by, there, new_done, ending, levels}
use Rattle.em_fileutil.specs.Making.{make_by, make_missing, make_under, make_all, make_directory}
use Rattle.em_fileutil.specs.Linking.{clear_by, clear_other, clear_past, clear}
use Rattle.em_fileutil.specs.Copying.{copy_file, copy_child, leave_source, copy_tree, copy_as_file, recurs, copy_by, copy_node, copy_link, copy_past, copy_linked, copy_beneath, copy_top}
use Rattle.em_laws.specs.Expanded.{names_seen}
use Rattle.em_laws.specs.Files.{under, IsUnder, IsOver, IsCopied}
use Rattle.em_laws.specs.Nodes.{tree_seen, AreAlike, OthersStay}
use Rattle.em_laws.proofs.Expanding.{gives_kind, gives_link, gives_names, kind_there, node_there, NoLinks}
use Rattle.em_laws.proofs.Changing.{same_key_or, Fresh, fresh_effect, no_dir, Made, leaves_make, made_effect, was_absent}
use Rattle.em_laws.proofs.Going.{DomainOf, Operand, becomes_plain, no_link}
use Rattle.em_laws.proofs.Filing.{GivesS, LeavesS, then_s, seq_s, at_gives, at_leaves, there_gives, operand, HasBytes, Copied, copies}
use Rattle.em_laws.proofs.Listing.{In, own_list, own_components, own_has}
use Rattle.em_laws.proofs.Making.{own_names}

-- ---- lists of components that part

abbrev pub Names : Type 0
Names = List (List ℕ)

abbrev pub Diverge : Names → Names → Type 0
Diverge [] ys = ⊥
Diverge (x ∷ xs) [] = ⊥
Diverge (x ∷ xs) (y ∷ ys) = (x ≢ y) ⊎ ((x ≡ y) × Diverge xs ys)

diverge_more : (xs ys us vs : Names) → Diverge xs ys → Diverge (xs ++ us) (ys ++ vs)
diverge_more [] ys us vs h = absurd h
diverge_more (x ∷ xs) [] us vs h = absurd h
diverge_more (x ∷ xs) (y ∷ ys) us vs (inl h) = inl h
diverge_more (x ∷ xs) (y ∷ ys) us vs (inr h) = inr (h.0, diverge_more xs ys us vs h.1)

diverge_apart : (xs ys : Names) → Diverge xs ys → xs ≢ ys
diverge_apart [] ys h e = h
diverge_apart (x ∷ xs) [] h e = h
diverge_apart (x ∷ xs) (y ∷ ys) (inl h) e = h (let is : x ≡ y = cc in is)
diverge_apart (x ∷ xs) (y ∷ ys) (inr h) e = diverge_apart xs ys h.1 (let is : xs ≡ ys = cc in is)

diverge_at : (front : Names) (x y : List ℕ) (us vs : Names) → x ≢ y → Diverge (front ++ x ∷ us) (front ++ y ∷ vs)
diverge_at [] x y us vs h = inl h
diverge_at (z ∷ zs) x y us vs h = inr (refl, diverge_at zs x y us vs h)

diverge_found : (xs ys : Names) → ((rel : Names) → ys ≢ xs ++ rel) → ((rel : Names) → xs ≢ ys ++ rel) → Diverge xs ys
diverge_found [] ys h g = absurd (h ys refl)
diverge_found (x ∷ xs) [] h g = absurd (g (x ∷ xs) refl)
diverge_found (x ∷ xs) (y ∷ ys) h g = same_key_or x y (Diverge (x ∷ xs) (y ∷ ys))
    (λ e. inr (e, diverge_found xs ys (λ rel f. h rel (ap (λ z. z ∷ ys) (sym e) ∙ ap (λ zs. x ∷ zs) f)) (λ rel f. g rel (ap (λ z. z ∷ xs) e ∙ ap (λ zs. y ∷ zs) f))))
    (λ n. inl n)

abbrev pub AllC : Names → Type 0
AllC cs = AllByRecursion IsComponent cs

pub allc_both : (xs ys : Names) → AllC xs → AllC ys → AllC (xs ++ ys)
allc_both [] ys a b = b
allc_both (x ∷ xs) ys a b = (a.0, allc_both xs ys a.1 b)

pub allc_front : (xs ys : Names) → AllC (xs ++ ys) → AllC xs
allc_front [] ys a = tt
allc_front (x ∷ xs) ys a = (a.0, allc_front xs ys a.1)

allc_back : (xs ys : Names) → AllC (xs ++ ys) → AllC ys
allc_back [] ys a = a
allc_back (x ∷ xs) ys a = allc_back xs ys a.1

pub spells : (cs : Names) → AllC cs → components (path_text cs) ≡ cs
spells cs a = components-path_text cs (All-from_recursion IsComponent cs a)

spell_apart : (xs ys : Names) → AllC xs → AllC ys → Diverge xs ys → path_text xs ≢ path_text ys
spell_apart xs ys a b h e = diverge_apart xs ys h (sym (spells xs a) ∙ ap components e ∙ spells ys b)

pub one_more : (xs : Names) (x : List ℕ) (ys : Names) → (xs ++ x ∷ []) ++ ys ≡ xs ++ x ∷ ys
one_more xs x ys = append_assoc xs (x ∷ []) ys

-- ---- what stands above and below

parent_push : (xs : Names) (x : List ℕ) → parent_of (xs ++ x ∷ []) ≡ Some (path_text xs)
parent_push [] x = refl
parent_push (y ∷ ys) x = ap (λ (zs : Names). Some (path_text zs)) (let n : length (ys ++ x ∷ []) ≡ length (y ∷ ys) = omega (arith, length_push ys x) in ap (λ k. take k (y ∷ ys ++ x ∷ [])) n ∙ take_at (y ∷ ys) (x ∷ []) (length (y ∷ ys)) refl)

pub parent_path : (xs : Names) (x : List ℕ) → AllC (xs ++ x ∷ []) → parent_text (path_text (xs ++ x ∷ [])) ≡ Some (path_text xs)
parent_path xs x a = ap parent_of (spells (xs ++ x ∷ []) a) ∙ parent_push xs x

last_push : (xs : Names) (x : List ℕ) → slice_get (xs ++ x ∷ []) (length xs) ≡ Some x
last_push [] x = refl
last_push (y ∷ ys) x = last_push ys x

last_path : (xs : Names) (x : List ℕ) → AllC (xs ++ x ∷ []) → last_of (path_text (xs ++ x ∷ [])) ≡ Some x
last_path xs x a = ap (λ (cs : Names). slice_get cs (length cs - 1)) (spells (xs ++ x ∷ []) a) ∙ ap (slice_get (xs ++ x ∷ [])) (let n : length (xs ++ x ∷ []) - 1 ≡ length xs = omega (arith, length_push xs x) in n) ∙ last_push xs x

pub dir_some : (a : Option Node) → kind_of a ≡ kind.Dir → IsSome a
dir_some None e = absurd cc
dir_some (Some n) e = refl

pub kind_some : (a : Option Node) → kind_of a ≢ kind.Absent → IsSome a
kind_some None h = absurd (h refl)
kind_some (Some n) h = refl

pub some_kind : (a : Option Node) → IsSome a → kind_of a ≢ kind.Absent
some_kind None h e = cc
some_kind (Some (File body stamp)) h e = cc
some_kind (Some (Dir stamp)) h e = cc
some_kind (Some (Link text stamp)) h e = cc

module _ (t : Table) (h : IsTree t) where
  abbrev Stands : Names → Type 0
  Stands cs = IsSome (get t (path_text cs))

  dir_above : (front : Names) (x : List ℕ) → AllC (front ++ x ∷ []) → Stands (front ++ x ∷ []) → kind_of (get t (path_text front)) ≡ kind.Dir
  dir_above front x a i = h.parents (path_text (front ++ x ∷ [])) (path_text front) i (parent_path front x a)

  pub stands_above : (rel front : Names) → AllC (front ++ rel) → Stands (front ++ rel) → Stands front
  stands_above [] front a i = subst Stands (append-nil front) i
  stands_above (x ∷ xs) front a i =
      let all = subst AllC (sym (one_more front x xs)) a in
      let up = stands_above xs (front ++ x ∷ []) all (subst Stands (sym (one_more front x xs)) i) in
      dir_some (get t (path_text front)) (dir_above front x (allc_front (front ++ x ∷ []) xs all) up)

  child_stands : (front : Names) (x : List ℕ) (rel : Names) → AllC (front ++ x ∷ rel) → Stands (front ++ x ∷ rel) → Stands (front ++ x ∷ [])
  child_stands front x rel a i = stands_above rel (front ++ x ∷ []) (subst AllC (sym (one_more front x rel)) a) (subst Stands (sym (one_more front x rel)) i)

  dir_below : (front : Names) (x : List ℕ) (rel : Names) → AllC (front ++ x ∷ rel) → Stands (front ++ x ∷ rel) → kind_of (get t (path_text front)) ≡ kind.Dir
  dir_below front x rel a i = dir_above front x (allc_front (front ++ x ∷ []) rel (subst AllC (sym (one_more front x rel)) a)) (child_stands front x rel a i)

-- ---- what is alike

alike_self : (a : Option Node) → AreAlike a a
alike_self a = (refl, refl)

alike_then : (a b c : Option Node) → AreAlike a b → AreAlike b c → AreAlike a c
alike_then a b c h g = (h.0 ∙ g.0, h.1 ∙ g.1)

alike_some : (a b : Option Node) → AreAlike a b → IsSome a → IsSome b
alike_some a b h i = kind_some b (λ e. some_kind a i (h.0 ∙ e))

dirs_alike : (a b : Option Node) → kind_of a ≡ kind.Dir → kind_of b ≡ kind.Dir → AreAlike a b
dirs_alike None b e f = absurd cc
dirs_alike (Some (File body stamp)) b e f = absurd cc
dirs_alike (Some (Link text stamp)) b e f = absurd cc
dirs_alike (Some (Dir stamp)) (Some (Link text number)) e f = absurd cc
dirs_alike (Some (Dir stamp)) None e f = absurd cc
dirs_alike (Some (Dir stamp)) (Some (File body number)) e f = absurd cc
dirs_alike (Some (Dir stamp)) (Some (Dir number)) e f = (refl, refl)

file_of : (a : Option Node) (bytes : List ℕ) → content_of a ≡ Some bytes → kind_of a ≡ kind.File
file_of None bytes e = absurd cc
file_of (Some (File body stamp)) bytes e = refl
file_of (Some (Dir stamp)) bytes e = absurd cc
file_of (Some (Link text stamp)) bytes e = absurd cc

-- ---- statuses never fall

abbrev pub status_in : {E A : Type 0} → Result (A × Done) (E × Done) → ℕ
status_in (Ok p) = p.1.status
status_in (Err p) = p.1.status

abbrev pub Rises : {E A : Type 0} → Steps Done E A → Type 0
Rises m = (x : Done) (o : Oracle) (w : Workspace) → x.status ≤ status_in (m x o w).0

rises_on : {E A B : Type 0} (r : Result (A × Done) (E × Done)) (v : Workspace) (k : A → Steps Done E B) (o : Oracle) (n : ℕ) → n ≤ status_in r → ((a : A) → Rises (k a)) → n ≤ status_in (go_on r v (λ z. k z.0 z.1) o).0
rises_on (Ok z) v k o n le h = let more = h z.0 z.1 o v in omega arith
rises_on (Err x) v k o n le h = le

pub rises_then : {E A B : Type 0} (m : Steps Done E A) (k : A → Steps Done E B) → Rises m → ((a : A) → Rises (k a)) → Rises (and_then m k)
unfolding and_then ◌>>=◌
rises_then m k h g x o w = rises_on (m x o w).0 (m x o w).1 k o x.status (h x o w) g

state_status : {E A : Type 0} (r : Result A E) (x : Done) → x.status ≤ status_in (with_state r x)
state_status (Ok a) x = omega arith
state_status (Err e) x = omega arith

pub rises_at : {A : Type 0} (name : List ℕ) (m : Action DeskNo A) → Rises (at name m)
unfolding at below
rises_at name m x o w = state_status (renamed (refused name) (m o w).0) x

rises_there : {A : Type 0} (a : Operand) (m : Action DeskNo (Option A)) → Rises (there a m)
unfolding there
rises_there a m x o w = state_status (there_by a (m o w).0) x

pub rises_gives : {A : Type 0} (r : Result A OperandNo) → Rises (gives r)
unfolding own
rises_gives r x o w = state_status r x

pub rises_done : {A : Type 0} (a : A) → Rises (steps.done {E = OperandNo} a)
unfolding steps.done
rises_done a x o w = omega arith

rises_refuse : (e : OperandNo) → Rises (steps.refuse {A = Unit {0}} e)
unfolding steps.refuse
rises_refuse e x o w = omega arith

settled_status : (utility : List ℕ) (r : Result (Unit {0} × Done) (OperandNo × Done)) → status_in r ≤ status_in (settled utility r)
settled_status utility (Ok p) = omega arith
settled_status utility (Err (Fault name r, d)) = omega arith
settled_status utility (Err (End e, d)) = omega arith

rises_caught : (utility : List ℕ) (m : Steps Done OperandNo (Unit {0})) → Rises m → Rises (caught utility m)
unfolding caught
rises_caught utility m h x o w = let a = h x o w in let b = settled_status utility (m x o w).0 in omega arith

pub rises_each : {A : Type 0} (utility : List ℕ) (act : A → Tries) (xs : List A) → ((a : A) → Rises (act a)) → Rises (each utility act xs)
unfolding steps.done
rises_each utility act [] h = λ x o w. omega arith
rises_each utility act (y ∷ ys) h = rises_then (caught utility (act y)) (λ u. each utility act ys) (rises_caught utility (act y) (h y)) (λ u. rises_each utility act ys h)

part_status : {A : Type 0} (x : Done) (r : Result (A × Done) (ExecNo × Done)) → status_in r ≤ status_in (with_part new_done End x r)
part_status x (Ok p) = omega arith
part_status x (Err p) = omega arith

pub rises_ending : (m : Steps Done ExecNo (Unit {0})) → Rises m → Rises (ending m)
unfolding within
rises_ending m h x o w = let a = h x o w in let b = part_status x (m x o w).0 in omega arith

abbrev pub Manner : Type 0
Manner = DomainOf recurs

-- directories are copied too, files as by `cp`, and the source stays
pub record IsTreeCopy (how : Manner) : Type 0 where
  pub deep : recurs how ≡ true
  pub files : (a b : Operand) → copy_as_file how a b ≡ copy_file a b
  pub stays : (a : Operand) → leave_source how a ≡ steps.done tt
  -- a link that the command names is followed
  pub top : (utility : List ℕ) (deeper : Operand → Operand → Tries) (a b : Operand) → copy_top utility deeper how a b ≡ copy_node utility deeper how a b

module _ (utility : List ℕ) (how : Manner) (tree : IsTreeCopy how) where
  rises_child : (deeper : Operand → Operand → Tries) (a b : Operand) (c : List ℕ) → ((a b : Operand) → Rises (deeper a b)) → Rises (copy_child deeper a b c)
  rises_child deeper a b c h =
      rises_then (gives (child a c)) (λ from. and_then (gives (child b c)) (λ to. deeper from to)) (rises_gives (child a c)) (λ from.
      rises_then (gives (child b c)) (λ to. deeper from to) (rises_gives (child b c)) (λ to. h from to))

  rises_make : (k : Kind) (name p : List ℕ) → Rises (make_by name p k)
  rises_make kind.Absent name p = rises_at name (make_dir p)
  rises_make kind.File name p = rises_refuse (Fault name (reason.File file.NotDir))
  rises_make kind.Dir name p = rises_done tt
  rises_make kind.Link name p = rises_done tt

  rises_missing : (name p : List ℕ) → Rises (make_missing name p)
  unfolding make_missing
  rises_missing name p = rises_then (at name (kind_at p)) (λ k. make_by name p k) (rises_at name (kind_at p)) (λ k. rises_make k name p)

  rises_leave : (a : Operand) → Rises (leave_source how a)
  rises_leave a = subst (λ (m : Tries). Rises m) (sym (tree.stays a)) (rises_done tt)

  rises_tree : (deeper : Operand → Operand → Tries) (a b : Operand) → ((a b : Operand) → Rises (deeper a b)) → Rises (copy_tree utility deeper how a b)
  unfolding copy_tree
  rises_tree deeper a b h =
      rises_then (make_missing b.name b.path) (λ u. and_then (there a (names a.path)) (λ inside. and_then (ending (each utility (copy_child deeper a b) inside)) (λ v. leave_source how a))) (rises_missing b.name b.path) (λ u.
      rises_then (there a (names a.path)) (λ inside. and_then (ending (each utility (copy_child deeper a b) inside)) (λ v. leave_source how a)) (rises_there a (names a.path)) (λ inside.
      rises_then (ending (each utility (copy_child deeper a b) inside)) (λ v. leave_source how a) (rises_ending (each utility (copy_child deeper a b) inside) (rises_each utility (copy_child deeper a b) inside (λ c. rises_child deeper a b c h))) (λ v. rises_leave a)))

  rises_file : (a b : Operand) → Rises (copy_file a b)
  unfolding copy_file
  rises_file a b = rises_then (there a (content a.path)) (λ bytes. at b.name (put b.path bytes)) (rises_there a (content a.path)) (λ bytes. rises_at b.name (put b.path bytes))

  rises_by : (deeper : Operand → Operand → Tries) (a b : Operand) (k : Kind) → ((a b : Operand) → Rises (deeper a b)) → Rises (copy_by utility deeper how a b k)
  rises_by deeper a b kind.Absent h = rises_refuse (told a file.Absent)
  rises_by deeper a b kind.Link h = rises_refuse (told a file.Absent)
  rises_by deeper a b kind.File h = subst (λ (m : Tries). Rises m) (sym (tree.files a b)) (rises_file a b)
  rises_by deeper a b kind.Dir h = subst (λ (t : Bool). Rises (cond t (copy_tree utility deeper how a b) (steps.refuse (told a file.IsDir)))) (sym tree.deep) (rises_tree deeper a b h)

  pub rises_node : (deeper : Operand → Operand → Tries) (a b : Operand) → ((a b : Operand) → Rises (deeper a b)) → Rises (copy_node utility deeper how a b)
  unfolding copy_node
  rises_node deeper a b h = rises_then (at a.name (kind_at a.path)) (λ k. copy_by utility deeper how a b k) (rises_at a.name (kind_at a.path)) (λ k. rises_by deeper a b k h)

  rises_clear_by : (b : Operand) (k : Kind) → Rises (clear_by b k)
  rises_clear_by b kind.File = rises_at b.name (remove b.path)
  rises_clear_by b kind.Absent = rises_done tt
  rises_clear_by b kind.Dir = rises_done tt
  rises_clear_by b kind.Link = rises_done tt

  rises_clear_past : (b : Operand) (l : Option (List ℕ)) → Rises (clear_past b l)
  unfolding clear_other
  rises_clear_past b (Some text) = rises_at b.name (remove b.path)
  rises_clear_past b None = rises_then (at b.name (kind_at b.path)) (λ k. clear_by b k) (rises_at b.name (kind_at b.path)) (λ k. rises_clear_by b k)

  rises_clear : (b : Operand) → Rises (clear b)
  unfolding clear
  rises_clear b = rises_then (at b.name (link_at b.path)) (λ l. clear_past b l) (rises_at b.name (link_at b.path)) (λ l. rises_clear_past b l)

  rises_past : (deeper : Operand → Operand → Tries) (a b : Operand) (l : Option (List ℕ)) → ((a b : Operand) → Rises (deeper a b)) → Rises (copy_past utility deeper how a b l)
  unfolding copy_link
  rises_past deeper a b None h = rises_node deeper a b h
  rises_past deeper a b (Some text) h =
      rises_then (clear b) (λ u. and_then (at b.name (make_link b.path text)) (λ v. leave_source how a)) (rises_clear b) (λ u.
      rises_then (at b.name (make_link b.path text)) (λ v. leave_source how a) (rises_at b.name (make_link b.path text)) (λ v. rises_leave a))

  pub rises_linked : (deeper : Operand → Operand → Tries) (a b : Operand) → ((a b : Operand) → Rises (deeper a b)) → Rises (copy_linked utility deeper how a b)
  unfolding copy_linked
  rises_linked deeper a b h = rises_then (at a.name (link_at a.path)) (λ l. copy_past utility deeper how a b l) (rises_at a.name (link_at a.path)) (λ l. rises_past deeper a b l h)

  pub rises_beneath : (n : ℕ) (a b : Operand) → Rises (copy_beneath utility how n a b)
  unfolding steps.refuse
  rises_beneath zero a b = λ x o w. omega arith
  rises_beneath (suc n) a b = rises_linked (copy_beneath utility how n) a b (rises_beneath n)

-- ---- what is done without a fault

settled_ok : (utility : List ℕ) (r : Result (Unit {0} × Done) (OperandNo × Done)) (p : Unit {0} × Done) → settled utility r ≡ Ok p → p.1.status ≡ 0 → r ≡ Ok p
settled_ok utility (Ok q) p e clean = (let is : q ≡ p = cc in ap (λ (z : Unit {0} × Done). (let r : Result (Unit {0} × Done) (OperandNo × Done) = Ok z in r)) is)
settled_ok utility (Err (Fault name r, d)) p e clean =
    let least : 1 ≤ status_for r = by_reason r in
    let is : max d.status (status_for r) ≡ p.1.status = ap status_in e in
    absurd (omega arith)
  where
    by_reason : (r : Reason) → 1 ≤ status_for r
    by_reason (reason.File f) = omega arith
    by_reason reason.BadPath = omega arith
    by_reason reason.SameFile = omega arith
    by_reason reason.NotANumber = omega arith
    by_reason reason.MissingOperand = omega arith
    by_reason reason.ExtraOperand = omega arith
settled_ok utility (Err (End f, d)) p e clean = absurd cc

part_ok : (x : Done) (r : Result (Unit {0} × Done) (ExecNo × Done)) (p : Unit {0} × Done) → with_part new_done End x r ≡ Ok p → r ≡ Ok p
part_ok x (Ok q) p e = (let is : (q.0, q.1) ≡ p = cc in ap (λ (z : Unit {0} × Done). (let r : Result (Unit {0} × Done) (ExecNo × Done) = Ok z in r)) is)
part_ok x (Err q) p e = absurd cc

module _ (s : State) where
  -- what holds of the value and of the changes where it ends with the status 0
  abbrev pub GivesZ : {E A : Type 0} → Changes → Steps Done E A → (A → Changes → Type 0) → Type 0
  GivesZ {E} {A} d m P = (x : Done) (w : Workspace) → w.changes ≡ d → (r : A × Done) → (m x (snapshot s) w).0 ≡ Ok r → r.1.status ≡ 0 → P r.0 (m x (snapshot s) w).1.changes

  abbrev pub LeavesZ : {E A : Type 0} → Changes → Steps Done E A → (Changes → Type 0) → Type 0
  LeavesZ d m R = GivesZ d m (λ _. R)

  z_on : {E A B : Type 0} (r : Result (A × Done) (E × Done)) (w : Workspace) (P : A → Changes → Type 0) (k : A → Steps Done E B) (Q : B → Changes → Type 0) → ((z : A × Done) → r ≡ Ok z → z.1.status ≡ 0 → P z.0 w.changes) →
      ((a : A) (c : Changes) → P a c → GivesZ c (k a) Q) → ((a : A) → Rises (k a)) → (b : B × Done) → (go_on r w (λ z. k z.0 z.1) (snapshot s)).0 ≡ Ok b → b.1.status ≡ 0 → Q b.0 (go_on r w (λ z. k z.0 z.1) (snapshot s)).1.changes
  z_on (Ok z) w P k Q h g up b e clean =
      let le = up z.0 z.1 (snapshot s) w in
      let is : status_in (k z.0 z.1 (snapshot s) w).0 ≡ b.1.status = ap status_in e in
      g z.0 w.changes (h z refl (omega arith)) z.1 w refl b e clean
  z_on (Err x) w P k Q h g up b e clean = absurd cc

  pub then_gz : {E A B : Type 0} (d : Changes) (m : Steps Done E A) (P : A → Changes → Type 0) (k : A → Steps Done E B) (Q : B → Changes → Type 0) → GivesZ d m P → ((a : A) (c : Changes) → P a c → GivesZ c (k a) Q) → ((a : A) → Rises (k a)) → GivesZ d (and_then m k) Q
  unfolding and_then ◌>>=◌
  then_gz d m P k Q h g up x w same b e clean = z_on (m x (snapshot s) w).0 (m x (snapshot s) w).1 P k Q (λ z is none. h x w same z is none) g up b e clean

  pub then_z : {E A B : Type 0} (d : Changes) (m : Steps Done E A) (P : A → Changes → Type 0) (k : A → Steps Done E B) (R : Changes → Type 0) → GivesZ d m P → ((a : A) (c : Changes) → P a c → LeavesZ c (k a) R) → ((a : A) → Rises (k a)) → LeavesZ d (and_then m k) R
  then_z d m P k R h g up = then_gz d m P k (λ _. R) h g up

  pub given_z : {A : Type 0} (d : Changes) (m : Steps Done OperandNo A) (P : A → Type 0) → GivesS s d m P → GivesZ d m (λ a c. P a × (c ≡ d))
  given_z d m P h x w same r e clean = h x w same r e

  ok_state : {A : Type 0} (r : Result A OperandNo) (x : Done) (p : A × Done) → with_state r x ≡ Ok p → r ≡ Ok p.0
  ok_state {A} (Ok a) x p e = let same : ◌≡◌ {A = A × Done} (a, x) p = cc in ap (λ (z : A × Done). (let q : Result A OperandNo = Ok z.0 in q)) same
  ok_state (Err f) x p e = absurd cc

  pub gives_z : {A : Type 0} (d : Changes) (r : Result A OperandNo) → GivesZ d (gives r) (λ a c. (r ≡ Ok a) × (c ≡ d))
  unfolding own
  gives_z d r x w same p e clean = (ok_state r x p e, same)

  pub caught_z : (d : Changes) (utility : List ℕ) (m : Tries) (R : Changes → Type 0) → LeavesZ d m R → LeavesZ d (caught utility m) R
  unfolding caught
  caught_z d utility m R h x w same r e clean = h x w same r (settled_ok utility (m x (snapshot s) w).0 r e clean) clean

  pub ending_z : (d : Changes) (m : Steps Done ExecNo (Unit {0})) (R : Changes → Type 0) → LeavesZ d m R → LeavesZ d (ending m) R
  unfolding within
  ending_z d m R h x w same r e clean = h x w same r (part_ok x (m x (snapshot s) w).0 r e) clean

-- ---- one file, one directory

pub limits : (f : Option PathNo) (name p : List ℕ) (o : Operand) → child_by f name p ≡ Ok o → (o.path ≡ p) × (f ≡ None)
limits None name p o e = (let is : (record { name = name; path = p }) ≡ o = cc in (ap (λ (z : Operand). z.path) (sym is), refl))
limits (Some f) name p o e = absurd cc

pub within_limits : (text : List ℕ) → limit_fault text ≡ None → (length text ≤ 1024) × (length (components text) ≤ 64)
within_limits text e = by_cases (nat_lt 1024 (length text)) (λ t. nat_lt 1024 (length text) ≡ t → cond t (Some TooLong) (cond (nat_lt 64 (length (components text))) (Some TooDeep) None) ≡ None → (length text ≤ 1024) × (length (components text) ≤ 64))
    (λ _ _ f. absurd cc)
    (λ _ long f. by_cases (nat_lt 64 (length (components text))) (λ t. nat_lt 64 (length (components text)) ≡ t → cond t (Some TooDeep) None ≡ None → (length text ≤ 1024) × (length (components text) ≤ 64))
    (λ _ _ g. absurd cc) (λ _ deep g. (ltb-false 1024 (length text) long, ltb-false 64 (length (components text)) deep)) refl f) refl e

deeper_apart : (qs : Names) (c : List ℕ) (rel : Names) → AllC qs → AllC (c ∷ rel) → path_text (qs ++ c ∷ rel) ≢ path_text qs
deeper_apart qs c rel a b e = absurd (omega (arith, ap length (sym (spells (qs ++ c ∷ rel) (allc_both qs (c ∷ rel) a b)) ∙ ap components e ∙ spells qs a), length-append qs (c ∷ rel)))

none_free : (k : Kind) → dir_refusal k None ≡ None → ⊥
none_free kind.Absent e = cc
none_free kind.File e = cc
none_free kind.Dir e = cc
none_free kind.Link e = cc

module _ (s : State) (low : IsTree s.tree) where
  abbrev pub node : Changes → Names → Option Node
  node d cs = node_there s d (path_text cs)

  abbrev pub Good : Changes → Type 0
  Good d = IsTree (laid_over d s.tree) × NamesPaths d × NoLinks s d

  good_further : (d : Changes) (q a : List ℕ) (n : Node) (above : Option (List ℕ)) (m : ℕ) (x : Changes) → Good d → IsPath q → parent_text q ≡ Some a → kind_there s d a ≡ kind.Dir → (kind_there s d q ≡ kind.Dir → kind_of (Some n) ≡ kind.Dir) → kind_of (Some n) ≢ kind.Link →
      (above ≡ None) ⊎ (above ≡ Some a) → x ≡ becomes q (Some n) above m d → Good x
  good_further d q a n above m x (whole, paths, none) path up dir same unlinked which is =
      subst Good (sym is) (tree_put s.tree d q a n m above whole path up dir same which, paths_becomes q (Some n) above m d paths path (above_path which), becomes_plain s d q (Some n) above m unlinked none)
    where
      above_path : (above ≡ None) ⊎ (above ≡ Some a) → IfSome above IsPath
      above_path (inl e) = subst (λ (o : Option (List ℕ)). IfSome o IsPath) (sym e) tt
      above_path (inr e) = subst (λ (o : Option (List ℕ)). IfSome o IsPath) (sym e) (whole.paths a (dir_some (node_there s d a) dir))

  good_put : (d : Changes) (q : List ℕ) (P : Node → Type 0) (x : Changes) → ((n : Node) → P n → kind_of (Some n) ≢ kind.Link) → Good d → IsPath q → Fresh s d q P x → Good x
  good_put d q P x unlinked good path (n, so, (above, m, is, which), (size, free)) = by_parent (parent_text q) refl which free
    where
      by_parent : (o : Option (List ℕ)) → parent_text q ≡ o → (above ≡ None) ⊎ (above ≡ o) → put_refusal (kind_there s d q) (option_map (kind_there s d) o) size ≡ None → Good x
      by_parent None up which free = absurd cc
      by_parent (Some a) up which free =
          let k = no_dir s d (kind_there s d q) (Some (kind_there s d a)) size free in
          good_further d q a n above m x good path up (k.1 (kind_there s d a) refl) (λ dir. absurd (k.0 dir)) (unlinked n so) which is

  good_made : (d : Changes) (q : List ℕ) (x : Changes) → Good d → IsPath q → Made s d q x → Good x
  good_made d q x good path (n, m, is, free) = by_parent (parent_text q) refl is free
    where
      by_parent : (o : Option (List ℕ)) → parent_text q ≡ o → x ≡ becomes q (Some (Dir m)) o n d → dir_refusal (kind_there s d q) (option_map (kind_there s d) o) ≡ None → Good x
      by_parent None up is free = absurd (none_free (kind_there s d q) free)
      by_parent (Some a) up is free =
          let k = was_absent s d (kind_there s d q) (Some (kind_there s d a)) free in
          good_further d q a (Dir m) (Some a) n x good path up (k.1 (kind_there s d a) refl) (λ dir. refl) (λ e. cc) (inr refl) is

  -- what stood at ps and below it stands at qs and below it; nothing else has changed
  pub record CopiedTree (d x : Changes) (ps qs : Names) : Type 0 where
    good : Good x
    stood : IsSome (node d ps)
    here : AreAlike (node d ps) (node x qs)
    deep : (c : List ℕ) (rel : Names) → AllC (c ∷ rel) → IsSome (node d (ps ++ c ∷ rel)) → AreAlike (node d (ps ++ c ∷ rel)) (node x (qs ++ c ∷ rel))
    kept : (c : List ℕ) (rel : Names) → AllC (c ∷ rel) → kind_of (node d (ps ++ c ∷ rel)) ≡ kind.Absent → AreAlike (node d (qs ++ c ∷ rel)) (node x (qs ++ c ∷ rel))
    others : (k : List ℕ) → ((rel : Names) → AllC rel → k ≢ path_text (qs ++ rel)) → AreAlike (node_there s d k) (node_there s x k)

  -- the same of the children with these names
  record Spread (d x : Changes) (ps qs cs : Names) : Type 0 where
    good : Good x
    deep : (c : List ℕ) → In c cs → (rel : Names) → AllC (c ∷ rel) → IsSome (node d (ps ++ c ∷ rel)) → AreAlike (node d (ps ++ c ∷ rel)) (node x (qs ++ c ∷ rel))
    kept : (c : List ℕ) (rel : Names) → AllC (c ∷ rel) → kind_of (node d (ps ++ c ∷ rel)) ≡ kind.Absent → AreAlike (node d (qs ++ c ∷ rel)) (node x (qs ++ c ∷ rel))
    others : (k : List ℕ) → ((c : List ℕ) → In c cs → (rel : Names) → AllC (c ∷ rel) → k ≢ path_text (qs ++ c ∷ rel)) → AreAlike (node_there s d k) (node_there s x k)

  file_copied : (d x : Changes) (ps qs : Names) → Good d → AllC ps → AllC qs → IsPath (path_text qs) → kind_of (node d ps) ≡ kind.File → Copied s d (path_text ps) (path_text qs) x → CopiedTree d x ps qs
  file_copied d x ps qs good all_ps all_qs path is_file (bytes, had, fresh) =
      let f = fresh_effect s d (path_text qs) (HasBytes s bytes) x fresh in
      let now : content_of (node x qs) ≡ Some bytes = ap content_of f.2.now ∙ f.1 in
      record {
        good = good_put d (path_text qs) (HasBytes s bytes) x (λ n so. no_link s n bytes so) good path fresh;
        stood = kind_some (node d ps) (λ e. (let no : kind.File ≡ kind.Absent = sym is_file ∙ e in cc));
        here = (is_file ∙ sym (file_of (node x qs) bytes now), had ∙ sym now);
        deep = λ c rel all i. (let no : kind.File ≡ kind.Dir = sym is_file ∙ dir_below (laid_over d s.tree) good.0 ps c rel (allc_both ps (c ∷ rel) all_ps all) i in absurd cc);
        kept = λ c rel all none. f.2.others (path_text (qs ++ c ∷ rel)) (deeper_apart qs c rel all_qs all);
        others = λ k h. f.2.others k (λ e. h [] tt (e ∙ ap path_text (sym (append-nil qs))));
      }

  -- the directory is there, and nothing else has changed
  record Prepared (d x : Changes) (q : List ℕ) : Type 0 where
    good : Good x
    dir : kind_there s x q ≡ kind.Dir
    others : OthersStay q (laid_over d s.tree) (laid_over x s.tree)

  made_by : (d : Changes) (name q : List ℕ) (k : Kind) → Good d → IsPath q → k ≡ kind_there s d q → LeavesS s d (make_by name q k) (λ x. Prepared d x q)
  unfolding steps.refuse steps.done
  made_by d name q kind.Absent good path is = λ x w same r e.
      let made = at_leaves s d name (make_dir q) (Made s d q) (leaves_make s d good.2 q) x w same r e in
      let m = made_effect s d q (at name (make_dir q) x (snapshot s) w).1.changes made in
      record { good = good_made d q (at name (make_dir q) x (snapshot s) w).1.changes good path made; dir = ap kind_of m.1.now; others = m.1.others }
  made_by d name q kind.File good path is = λ x w same r e. absurd cc
  made_by d name q kind.Link good path is = absurd (good.2 q (sym is))
  made_by d name q kind.Dir good path is = λ x w same r e. subst (λ (c : Changes). Prepared d c q) (sym same) (record { good = good; dir = sym is; others = λ k _. alike_self (node_there s d k) })

  missing_made : (d : Changes) (name q : List ℕ) → Good d → IsPath q → LeavesS s d (make_missing name q) (λ x. Prepared d x q)
  unfolding make_missing
  missing_made d name q good path = then_s s d (at name (kind_at q)) (λ k. k ≡ kind_there s d q) (λ k. make_by name q k) (λ x. Prepared d x q) (at_gives s d name (kind_at q) (λ k. k ≡ kind_there s d q) (gives_kind s d good.2 q)) (λ k is. made_by d name q k good path is)

  -- ---- one child after another

  in_or : (c : List ℕ) (cs : Names) (P : Type 0) → (In c cs → P) → ((In c cs → ⊥) → P) → P
  in_or c [] P has lacks = lacks (λ i. i)
  in_or c (e ∷ es) P has lacks = same_key_or c e P (λ is. has (inl is)) (λ isnt. in_or c es P (λ i. has (inr i)) (λ none. lacks (λ i. by_case i isnt none)))
    where
      by_case : (c ≡ e) ⊎ In c es → (c ≡ e → ⊥) → (In c es → ⊥) → ⊥
      by_case (inl is) isnt none = isnt is
      by_case (inr i) isnt none = none i

  spread_none : (d : Changes) (ps qs : Names) → Good d → Spread d d ps qs []
  spread_none d ps qs good = record { good = good; deep = λ c i rel all h. absurd i; kept = λ c rel all none. alike_self (node d (qs ++ c ∷ rel)); others = λ k h. alike_self (node_there s d k) }

  module _ (d y x : Changes) (ps qs : Names) (c : List ℕ) (cs : Names) (all_ps : AllC ps) (all_qs : AllC qs) (name : IsComponent c) (apart : Diverge ps qs)
      (one : CopiedTree d y (ps ++ c ∷ []) (qs ++ c ∷ [])) (more : Spread y x ps qs cs) where
    -- no path below ps is below the child at qs
    source_stays : (e : List ℕ) (rel : Names) → AllC (e ∷ rel) → AreAlike (node d (ps ++ e ∷ rel)) (node y (ps ++ e ∷ rel))
    source_stays e rel all = one.others (path_text (ps ++ e ∷ rel)) (λ more_rel all_more same.
        spell_apart (ps ++ e ∷ rel) (qs ++ c ∷ more_rel) (allc_both ps (e ∷ rel) all_ps all) (allc_both qs (c ∷ more_rel) all_qs (name, all_more)) (diverge_more ps qs (e ∷ rel) (c ∷ more_rel) apart)
        (same ∙ ap path_text (one_more qs c more_rel)))

    -- nor is one below another child
    sister_stays : (e : List ℕ) (rel : Names) → e ≢ c → AllC (e ∷ rel) → AreAlike (node d (qs ++ e ∷ rel)) (node y (qs ++ e ∷ rel))
    sister_stays e rel isnt all = one.others (path_text (qs ++ e ∷ rel)) (λ more_rel all_more same.
        spell_apart (qs ++ e ∷ rel) (qs ++ c ∷ more_rel) (allc_both qs (e ∷ rel) all_qs all) (allc_both qs (c ∷ more_rel) all_qs (name, all_more)) (diverge_at qs e c rel more_rel isnt)
        (same ∙ ap path_text (one_more qs c more_rel)))

    child_copied : (rel : Names) → AllC rel → IsSome (node d (ps ++ c ∷ rel)) → AreAlike (node d (ps ++ c ∷ rel)) (node y (qs ++ c ∷ rel))
    child_copied [] all i = one.here
    child_copied (e ∷ rel) all i =
        subst (λ (us : Names). AreAlike (node d us) (node y (qs ++ c ∷ e ∷ rel))) (one_more ps c (e ∷ rel))
        (subst (λ (us : Names). AreAlike (node d ((ps ++ c ∷ []) ++ e ∷ rel)) (node y us)) (one_more qs c (e ∷ rel)) (one.deep e rel all (subst (λ (us : Names). IsSome (node d us)) (sym (one_more ps c (e ∷ rel))) i)))

    child_kept : (rel : Names) → AllC rel → kind_of (node d (ps ++ c ∷ rel)) ≡ kind.Absent → AreAlike (node d (qs ++ c ∷ rel)) (node y (qs ++ c ∷ rel))
    child_kept [] all none = absurd (some_kind (node d (ps ++ c ∷ [])) one.stood none)
    child_kept (e ∷ rel) all none =
        subst (λ (us : Names). AreAlike (node d us) (node y us)) (one_more qs c (e ∷ rel)) (one.kept e rel all (ap (λ (us : Names). kind_of (node d us)) (one_more ps c (e ∷ rel)) ∙ none))

    last_copied : (e : List ℕ) → (e ≡ c) ⊎ In e cs → (In e cs → ⊥) → (rel : Names) → AllC (e ∷ rel) → IsSome (node d (ps ++ e ∷ rel)) → AreAlike (node d (ps ++ e ∷ rel)) (node x (qs ++ e ∷ rel))
    last_copied e (inr i) none rel all h = absurd (none i)
    last_copied e (inl is) none rel all h = subst (λ (n : List ℕ). AreAlike (node d (ps ++ n ∷ rel)) (node x (qs ++ n ∷ rel))) (sym is)
        (alike_then (node d (ps ++ c ∷ rel)) (node y (qs ++ c ∷ rel)) (node x (qs ++ c ∷ rel)) (child_copied rel all.1 (subst (λ (n : List ℕ). IsSome (node d (ps ++ n ∷ rel))) is h))
        (more.others (path_text (qs ++ c ∷ rel)) (λ f i more_rel all_more same. spell_apart (qs ++ c ∷ rel) (qs ++ f ∷ more_rel) (allc_both qs (c ∷ rel) all_qs (name, all.1)) (allc_both qs (f ∷ more_rel) all_qs all_more)
        (diverge_at qs c f rel more_rel (λ equal. none (subst (λ (n : List ℕ). In n cs) (sym (is ∙ equal)) i))) same)))

    spread_more : Spread d x ps qs (c ∷ cs)
    spread_more = record {
      good = more.good;
      deep = λ e i rel all h. in_or e cs (AreAlike (node d (ps ++ e ∷ rel)) (node x (qs ++ e ∷ rel)))
          (λ j. alike_then (node d (ps ++ e ∷ rel)) (node y (ps ++ e ∷ rel)) (node x (qs ++ e ∷ rel)) (source_stays e rel all) (more.deep e j rel all (alike_some (node d (ps ++ e ∷ rel)) (node y (ps ++ e ∷ rel)) (source_stays e rel all) h)))
          (λ none. last_copied e i none rel all h);
      kept = λ e rel all none. alike_then (node d (qs ++ e ∷ rel)) (node y (qs ++ e ∷ rel)) (node x (qs ++ e ∷ rel))
          (same_key_or e c (AreAlike (node d (qs ++ e ∷ rel)) (node y (qs ++ e ∷ rel)))
          (λ is. subst (λ (n : List ℕ). AreAlike (node d (qs ++ n ∷ rel)) (node y (qs ++ n ∷ rel))) (sym is) (child_kept rel all.1 (ap (λ (n : List ℕ). kind_of (node d (ps ++ n ∷ rel))) (sym is) ∙ none)))
          (λ isnt. sister_stays e rel isnt all))
          (more.kept e rel all (sym (source_stays e rel all).0 ∙ none));
      others = λ k h. alike_then (node_there s d k) (node_there s y k) (node_there s x k)
          (one.others k (λ rel all same. h c (inl refl) rel (name, all) (same ∙ ap path_text (one_more qs c rel))))
          (more.others k (λ e i. h e (inr i)));
    }

  -- ---- a directory with what stands in it

  module _ (d z x : Changes) (ps qs inside : Names) (all_ps : AllC ps) (all_qs : AllC qs) (apart : Diverge ps qs) (dir : kind_of (node d ps) ≡ kind.Dir)
      (ready : Prepared d z (path_text qs)) (spread : Spread z x ps qs inside) (told : (c : List ℕ) (rel : Names) → AllC (c ∷ rel) → IsSome (node z (ps ++ c ∷ rel)) → In c inside) where
    below_stays : (c : List ℕ) (rel : Names) → AllC (c ∷ rel) → AreAlike (node d (ps ++ c ∷ rel)) (node z (ps ++ c ∷ rel))
    below_stays c rel all = ready.others (path_text (ps ++ c ∷ rel)) (λ same. spell_apart (ps ++ c ∷ rel) (qs ++ []) (allc_both ps (c ∷ rel) all_ps all) (allc_both qs [] all_qs tt) (diverge_more ps qs (c ∷ rel) [] apart) (same ∙ ap path_text (sym (append-nil qs))))

    target_stays : AreAlike (node z qs) (node x qs)
    target_stays = spread.others (path_text qs) (λ c i rel all same. deeper_apart qs c rel all_qs all (sym same))

    tree_copied : CopiedTree d x ps qs
    tree_copied = record {
      good = spread.good;
      stood = dir_some (node d ps) dir;
      here = dirs_alike (node d ps) (node x qs) dir (sym target_stays.0 ∙ ready.dir);
      deep = λ c rel all h.
          (let there_then = alike_some (node d (ps ++ c ∷ rel)) (node z (ps ++ c ∷ rel)) (below_stays c rel all) h in
          alike_then (node d (ps ++ c ∷ rel)) (node z (ps ++ c ∷ rel)) (node x (qs ++ c ∷ rel)) (below_stays c rel all) (spread.deep c (told c rel all there_then) rel all there_then));
      kept = λ c rel all none. alike_then (node d (qs ++ c ∷ rel)) (node z (qs ++ c ∷ rel)) (node x (qs ++ c ∷ rel)) (ready.others (path_text (qs ++ c ∷ rel)) (deeper_apart qs c rel all_qs all))
          (spread.kept c rel all (sym (below_stays c rel all).0 ∙ none));
      others = λ k h. alike_then (node_there s d k) (node_there s z k) (node_there s x k) (ready.others k (λ e. h [] tt (e ∙ ap path_text (sym (append-nil qs))))) (spread.others k (λ c i rel all same. h (c ∷ rel) all same));
    }

  module _ (utility : List ℕ) (how : Manner) (tree : IsTreeCopy how) where
    abbrev pub CopiesBelow : (Operand → Operand → Tries) → Type 0
    CopiesBelow deeper = (d : Changes) (a b : Operand) (ps qs : Names) → Good d → a.path ≡ path_text ps → b.path ≡ path_text qs → AllC ps → AllC qs → IsPath (path_text qs) → Diverge ps qs → LeavesZ s d (deeper a b) (λ x. CopiedTree d x ps qs)

    child_spelled : (a : Operand) (ps : Names) (c : List ℕ) → a.path ≡ path_text ps → AllC ps → child_text a.path c ≡ path_text (ps ++ c ∷ [])
    child_spelled a ps c e all = ap (λ (t : List ℕ). path_text (components t ++ c ∷ [])) e ∙ ap (λ (cs : Names). path_text (cs ++ c ∷ [])) (spells ps all)

    module _ (deeper : Operand → Operand → Tries) (rises : (a b : Operand) → Rises (deeper a b)) (copies_below : CopiesBelow deeper)
        (a b : Operand) (ps qs : Names) (from : a.path ≡ path_text ps) (to : b.path ≡ path_text qs) (all_ps : AllC ps) (all_qs : AllC qs) (path : IsPath (path_text qs)) (apart : Diverge ps qs) where
      child_path : (c : List ℕ) (o : Operand) → IsComponent c → child b c ≡ Ok o → IsPath (path_text (qs ++ c ∷ []))
      child_path c o name e =
          let spelled = child_spelled b qs c to all_qs in
          let all = allc_both qs (c ∷ []) all_qs (name, tt) in
          let fits = within_limits (child_text b.path c) (limits (limit_fault (child_text b.path c)) (b.name ++ 47 ∷ c) (child_text b.path c) o e).1 in
          IsPath-spelled (qs ++ c ∷ []) (All-from_recursion IsComponent (qs ++ c ∷ []) all)
          (subst (λ (cs : Names). length cs ≤ 64) (ap components spelled ∙ spells (qs ++ c ∷ []) all) fits.1) (subst (λ (t : List ℕ). length t ≤ 1024) spelled fits.0)

      child_z : (d : Changes) (c : List ℕ) → Good d → IsComponent c → LeavesZ s d (copy_child deeper a b c) (λ x. CopiedTree d x (ps ++ c ∷ []) (qs ++ c ∷ []))
      child_z d c good name =
          let R = λ (x : Changes). CopiedTree d x (ps ++ c ∷ []) (qs ++ c ∷ []) in
          then_z s d (gives (child a c)) (λ o z. (child a c ≡ Ok o) × (z ≡ d)) (λ o. and_then (gives (child b c)) (λ p. deeper o p)) R (gives_z s d (child a c)) (λ o z first.
          then_z s z (gives (child b c)) (λ p y. (child b c ≡ Ok p) × (y ≡ z)) (λ p. deeper o p) R (gives_z s z (child b c)) (λ p y second.
          subst (λ (v : Changes). LeavesZ s v (deeper o p) R) (sym (second.1 ∙ first.1))
          (copies_below d o p (ps ++ c ∷ []) (qs ++ c ∷ []) good
          ((limits (limit_fault (child_text a.path c)) (a.name ++ 47 ∷ c) (child_text a.path c) o first.0).0 ∙ child_spelled a ps c from all_ps)
          ((limits (limit_fault (child_text b.path c)) (b.name ++ 47 ∷ c) (child_text b.path c) p second.0).0 ∙ child_spelled b qs c to all_qs)
          (allc_both ps (c ∷ []) all_ps (name, tt)) (allc_both qs (c ∷ []) all_qs (name, tt)) (child_path c p name second.0) (diverge_more ps qs (c ∷ []) (c ∷ []) apart)))
          (λ p. rises o p))
          (λ o. rises_then (gives (child b c)) (λ p. deeper o p) (rises_gives (child b c)) (λ p. rises o p))

      each_z : (cs : Names) (d : Changes) → AllC cs → Good d → LeavesZ s d (each utility (copy_child deeper a b) cs) (λ x. Spread d x ps qs cs)
      unfolding steps.done
      each_z [] d all good = λ x w same r e clean. subst (λ (v : Changes). Spread d v ps qs []) (sym same) (spread_none d ps qs good)
      each_z (c ∷ cs) d all good =
          then_z s d (caught utility (copy_child deeper a b c)) (λ _ y. CopiedTree d y (ps ++ c ∷ []) (qs ++ c ∷ [])) (λ u. each utility (copy_child deeper a b) cs) (λ x. Spread d x ps qs (c ∷ cs))
          (caught_z s d utility (copy_child deeper a b c) (λ y. CopiedTree d y (ps ++ c ∷ []) (qs ++ c ∷ [])) (child_z d c good all.0))
          (λ u y one x w same r e clean. spread_more d y (each utility (copy_child deeper a b) cs x (snapshot s) w).1.changes ps qs c cs all_ps all_qs all.0 apart one (each_z cs y all.1 one.good x w same r e clean))
          (λ u. rises_each utility (copy_child deeper a b) cs (λ e. rises_child utility how tree deeper a b e rises))

      tree_z : (d : Changes) → Good d → kind_of (node d ps) ≡ kind.Dir → LeavesZ s d (copy_tree utility deeper how a b) (λ x. CopiedTree d x ps qs)
      unfolding copy_tree steps.done
      tree_z d good dir =
          let R = λ (x : Changes). CopiedTree d x ps qs in
          let last = λ (inside : Names). ending (each utility (copy_child deeper a b) inside) in
          let children = λ (inside : Names). rises_ending (each utility (copy_child deeper a b) inside) (rises_each utility (copy_child deeper a b) inside (λ c. rises_child utility how tree deeper a b c rises)) in
          then_z s d (make_missing b.name b.path) (λ _ z. Prepared d z (path_text qs)) (λ u. and_then (there a (names a.path)) (λ inside. and_then (last inside) (λ v. leave_source how a))) R
          (λ x w same r e clean. subst (λ (q : List ℕ). Prepared d (make_missing b.name b.path x (snapshot s) w).1.changes q) to (missing_made d b.name b.path good (subst IsPath (sym to) path) x w same r e)) (λ u z ready.
          then_z s z (there a (names a.path)) (λ inside y. (Some inside ≡ names_seen s z a.path) × (y ≡ z)) (λ inside. and_then (last inside) (λ v. leave_source how a)) R
          (given_z s z (there a (names a.path)) (λ inside. Some inside ≡ names_seen s z a.path) (there_gives s z a (names a.path) (λ o. o ≡ names_seen s z a.path) (gives_names s z ready.good.2 a.path))) (λ inside y told.
          let all = inside_names z inside ready (told.0 ∙ ap (names_seen s z) from) in
          subst (λ (v : Changes). LeavesZ s v (and_then (last inside) (λ u. leave_source how a)) R) (sym told.1)
          (then_z s z (last inside) (λ _ v. Spread z v ps qs inside) (λ v. leave_source how a) R (ending_z s z (each utility (copy_child deeper a b) inside) (λ v. Spread z v ps qs inside) (each_z inside z all.0 ready.good)) (λ u v spread.
          subst (λ (m : Tries). LeavesZ s v m R) (sym (tree.stays a)) (λ x w same r e clean. subst R (sym same) (tree_copied d z v ps qs inside all_ps all_qs apart dir ready spread all.1)))
          (λ v. rises_leave utility how tree a)))
          (λ inside. rises_then (last inside) (λ v. leave_source how a) (children inside) (λ v. rises_leave utility how tree a)))
          (λ u. rises_then (there a (names a.path)) (λ inside. and_then (last inside) (λ v. leave_source how a)) (rises_there a (names a.path)) (λ inside.
          rises_then (last inside) (λ v. leave_source how a) (children inside) (λ v. rises_leave utility how tree a)))
        where
          inside_names : (z : Changes) (inside : Names) → Prepared d z (path_text qs) → Some inside ≡ names_seen s z (path_text ps) →
              AllC inside × ((c : List ℕ) (rel : Names) → AllC (c ∷ rel) → IsSome (node z (ps ++ c ∷ rel)) → In c inside)
          inside_names z inside ready told =
              let p = path_text ps in
              let stays : kind_of (node d ps) ≡ kind_of (node z ps) = (ready.others p (λ same. spell_apart ps qs all_ps all_qs apart same)).0 in
              let listed : Some inside ≡ Some (own_list s.tree z low ready.good.1 p) = told ∙ own_names s z p (sym stays ∙ dir) in
              let is : inside ≡ own_list s.tree z low ready.good.1 p = cc in (
                subst AllC (sym is) (recursion_from_All IsComponent (own_list s.tree z low ready.good.1 p) (own_components s.tree z low ready.good.1 p)),
                λ c rel all h. subst (λ (cs : Names). In c cs) (sym is) (
                    let one = allc_both ps (c ∷ []) all_ps (all.0, tt) in
                    let there_too = child_stands (laid_over z s.tree) ready.good.0 ps c rel (allc_both ps (c ∷ rel) all_ps all) h in
                    own_has s.tree z low ready.good.1 p (path_text (ps ++ c ∷ [])) c (ready.good.0.paths (path_text (ps ++ c ∷ [])) there_too) (parent_path ps c one) (last_path ps c one) there_too),
              )

      by_z : (d : Changes) (k : Kind) → Good d → k ≡ kind_of (node d ps) → LeavesZ s d (copy_by utility deeper how a b k) (λ x. CopiedTree d x ps qs)
      unfolding steps.refuse
      by_z d kind.Absent good is = λ x w same r e clean. absurd cc
      by_z d kind.Link good is = λ x w same r e clean. absurd cc
      by_z d kind.File good is = subst (λ (m : Tries). LeavesZ s d m (λ x. CopiedTree d x ps qs)) (sym (tree.files a b)) (λ x w same r e clean.
          file_copied d (copy_file a b x (snapshot s) w).1.changes ps qs good all_ps all_qs path (sym is)
          (subst (λ (q : List ℕ). Copied s d (path_text ps) q (copy_file a b x (snapshot s) w).1.changes) to (subst (λ (p : List ℕ). Copied s d p b.path (copy_file a b x (snapshot s) w).1.changes) from (copies s d a b good.2 x w same r e))))
      by_z d kind.Dir good is = subst (λ (t : Bool). LeavesZ s d (cond t (copy_tree utility deeper how a b) (steps.refuse (told a file.IsDir))) (λ x. CopiedTree d x ps qs)) (sym tree.deep) (tree_z d good (sym is))

      pub node_z : (d : Changes) → Good d → LeavesZ s d (copy_node utility deeper how a b) (λ x. CopiedTree d x ps qs)
      unfolding copy_node
      node_z d good =
          then_z s d (at a.name (kind_at a.path)) (λ k z. (k ≡ kind_there s d a.path) × (z ≡ d)) (λ k. copy_by utility deeper how a b k) (λ x. CopiedTree d x ps qs)
          (given_z s d (at a.name (kind_at a.path)) (λ k. k ≡ kind_there s d a.path) (at_gives s d a.name (kind_at a.path) (λ k. k ≡ kind_there s d a.path) (gives_kind s d good.2 a.path)))
          (λ k z seen. subst (λ (v : Changes). LeavesZ s v (copy_by utility deeper how a b k) (λ x. CopiedTree d x ps qs)) (sym seen.1) (by_z d k good (seen.0 ∙ ap (kind_there s d) from)))
          (λ k. rises_by utility how tree deeper a b k rises)

      linked_z : (d : Changes) → Good d → LeavesZ s d (copy_linked utility deeper how a b) (λ x. CopiedTree d x ps qs)
      unfolding copy_linked
      linked_z d good =
          let R = λ (x : Changes). CopiedTree d x ps qs in
          then_z s d (at a.name (link_at a.path)) (λ l z. (l ≡ None) × (z ≡ d)) (λ l. copy_past utility deeper how a b l) R
          (given_z s d (at a.name (link_at a.path)) (λ l. l ≡ None) (at_gives s d a.name (link_at a.path) (λ l. l ≡ None) (gives_link s d good.2 a.path)))
          (λ l z seen. subst (λ (v : Changes). LeavesZ s v (copy_past utility deeper how a b l) R) (sym seen.1) (subst (λ (o : Option (List ℕ)). LeavesZ s d (copy_past utility deeper how a b o) R) (sym seen.0) (node_z d good)))
          (λ l. rises_past utility how tree deeper a b l rises)

    pub beneath_z : (n : ℕ) → CopiesBelow (copy_beneath utility how n)
    unfolding steps.refuse
    beneath_z zero d a b ps qs good from to all_ps all_qs path apart = λ x w same r e clean. absurd cc
    beneath_z (suc n) d a b ps qs good from to all_ps all_qs path apart = linked_z (copy_beneath utility how n) (rises_beneath utility how tree n) (beneath_z n) a b ps qs from to all_ps all_qs path apart d good

-- ---- the law

pub apart_paths : (p q : List ℕ) → IsPath p → IsPath q → (IsUnder p q → ⊥) → (IsUnder q p → ⊥) → Diverge (components p) (components q)
apart_paths p q is_p is_q not_p not_q = diverge_found (components p) (components q) (not_below p q is_q not_p) (not_below q p is_p not_q)
  where
    not_below : (a b : List ℕ) → IsPath b → (IsUnder a b → ⊥) → (rel : Names) → components b ≢ components a ++ rel
    not_below a b other h rel e =
        let all = subst AllC e (recursion_from_All IsComponent (components b) other.names) in
        h (rel, All-from_recursion IsComponent rel (allc_back (components a) rel all), other.spelled ∙ ap path_text e)

module _ (s : State) (low : IsTree s.tree) (d x : Changes) (p q : List ℕ) where
  copied_below : CopiedTree s low d x (components p) (components q) → (rel : Names) → All IsComponent rel → kind_of (node_there s d (under p rel)) ≢ kind.Absent → AreAlike (node_there s d (under p rel)) (node_there s x (under q rel))
  copied_below c [] all h = subst (λ (us : Names). AreAlike (node_there s d (path_text us)) (node_there s x (under q []))) (sym (append-nil (components p)))
      (subst (λ (us : Names). AreAlike (node_there s d (path_text (components p))) (node_there s x (path_text us))) (sym (append-nil (components q))) c.here)
  copied_below c (e ∷ rel) all h = c.deep e rel (recursion_from_All IsComponent (e ∷ rel) all) (kind_some (node_there s d (under p (e ∷ rel))) h)

  kept_below : CopiedTree s low d x (components p) (components q) → (rel : Names) → All IsComponent rel → kind_of (node_there s d (under p rel)) ≡ kind.Absent → AreAlike (node_there s d (under q rel)) (node_there s x (under q rel))
  kept_below c [] all none = absurd (some_kind (node_there s d (path_text (components p))) c.stood (ap (λ (us : Names). kind_of (node_there s d (path_text us))) (sym (append-nil (components p))) ∙ none))
  kept_below c (e ∷ rel) all none = c.kept e rel (recursion_from_All IsComponent (e ∷ rel) all) none

  pub as_copied : CopiedTree s low d x (components p) (components q) → IsCopied (laid_over d s.tree) (laid_over x s.tree) p q
  as_copied c = record {
    copied = λ rel all h. copied_below c rel all h;
    kept = λ rel all none. kept_below c rel all none;
    others = λ k h. c.others k (λ rel all same. h (rel, All-from_recursion IsComponent rel all, same));
  }

-- ---- mkdir -p

-- a front of a list is all of it, or a front of all but the last
front_of : (xs : Names) (x : List ℕ) (front rest : Names) → xs ++ x ∷ [] ≡ front ++ rest → (front ≡ xs ++ x ∷ []) ⊎ ((more : Names) × (xs ≡ front ++ more))
front_of xs x [] rest e = inr (xs, refl)
front_of [] x (f ∷ fs) rest e = inl (only fs (let is : x ≡ f = cc in is) (let none : [] ≡ fs ++ rest = cc in none))
  where
    only : (fs : Names) → x ≡ f → [] ≡ fs ++ rest → f ∷ fs ≡ x ∷ []
    only [] is none = ap (λ (z : List ℕ). z ∷ []) (sym is)
    only (g ∷ gs) is none = absurd cc
front_of (y ∷ ys) x (f ∷ fs) rest e =
    let is : y ≡ f = cc in
    elim (front_of ys x fs rest (let tails : ys ++ x ∷ [] ≡ fs ++ rest = cc in tails)) as (λ _. (f ∷ fs ≡ y ∷ ys ++ x ∷ []) ⊎ ((more : Names) × (y ∷ ys ≡ (f ∷ fs) ++ more))) [
      | inl all ↦ inl (ap (λ (z : List ℕ). z ∷ fs) (sym is) ∙ ap (λ (zs : Names). y ∷ zs) all)
      | inr some ↦ inr (some.0, ap (λ (z : List ℕ). z ∷ ys) is ∙ ap (λ (zs : Names). f ∷ zs) some.1)
    ]

module _ (s : State) (name : List ℕ) where
  -- the directory is there now; it wasn't, or it was one
  record Ensured (d x : Changes) (q : List ℕ) : Type 0 where
    dir : kind_there s x q ≡ kind.Dir
    was : (kind_there s d q ≡ kind.Absent) ⊎ (kind_there s d q ≡ kind.Dir)
    others : OthersStay q (laid_over d s.tree) (laid_over x s.tree)

  ensured_by : (d : Changes) → NoLinks s d → (q : List ℕ) (k : Kind) → k ≡ kind_there s d q → LeavesS s d (make_by name q k) (λ x. Ensured d x q)
  unfolding steps.refuse steps.done
  ensured_by d none q kind.Absent is = λ x w same r e.
      let m = made_effect s d q (at name (make_dir q) x (snapshot s) w).1.changes (at_leaves s d name (make_dir q) (Made s d q) (leaves_make s d none q) x w same r e) in
      record { dir = ap kind_of m.1.now; was = inl (sym is); others = m.1.others }
  ensured_by d none q kind.File is = λ x w same r e. absurd cc
  ensured_by d none q kind.Link is = absurd (none q (sym is))
  ensured_by d none q kind.Dir is = λ x w same r e. subst (λ (c : Changes). Ensured d c q) (sym same) (record { dir = sym is; was = inr (sym is); others = λ k _. alike_self (node_there s d k) })

  ensured : (d : Changes) → NoLinks s d → (q : List ℕ) → LeavesS s d (make_missing name q) (λ x. Ensured d x q)
  unfolding make_missing
  ensured d none q = then_s s d (at name (kind_at q)) (λ k. k ≡ kind_there s d q) (λ k. make_by name q k) (λ x. Ensured d x q) (at_gives s d name (kind_at q) (λ k. k ≡ kind_there s d q) (gives_kind s d none q)) (λ k is. ensured_by d none q k is)

  ensured_plain : (d x : Changes) (q : List ℕ) → NoLinks s d → Ensured d x q → NoLinks s x
  ensured_plain d x q none one k e = same_key_or k q ⊥ (λ is. (let z : kind.Dir ≡ kind.Link = sym (ap (kind_there s x) is ∙ one.dir) ∙ e in cc)) (λ isnt. none k ((one.others k isnt).0 ∙ e))

  record Grown (d x : Changes) (cs : Names) : Type 0 where
    plain : NoLinks s x
    dirs : (front rest : Names) → cs ≡ front ++ rest → kind_there s x (path_text front) ≡ kind.Dir
    kept : (k : List ℕ) → IsSome (node_there s d k) → AreAlike (node_there s d k) (node_there s x k)
    others : (k : List ℕ) → ((front rest : Names) → cs ≡ front ++ rest → k ≢ path_text front) → AreAlike (node_there s d k) (node_there s x k)

  root_grown : (d : Changes) → NoLinks s d → IsTree (laid_over d s.tree) → Grown d d []
  root_grown d none whole = record { plain = none; dirs = λ front rest e. at_root front rest e; kept = λ k h. alike_self (node_there s d k); others = λ k h. alike_self (node_there s d k) }
    where
      at_root : (front rest : Names) → [] ≡ front ++ rest → kind_there s d (path_text front) ≡ kind.Dir
      at_root [] rest e = whole.root
      at_root (f ∷ fs) rest e = absurd cc

  grown_further : (d y x : Changes) (xs : Names) (c : List ℕ) → AllC (xs ++ c ∷ []) → Grown d y xs → Ensured y x (path_text (xs ++ c ∷ [])) → Grown d x (xs ++ c ∷ [])
  grown_further d y x xs c all grown one = record {
    plain = ensured_plain y x p grown.plain one;
    dirs = λ front rest e. elim (front_of xs c front rest e) as (λ _. kind_there s x (path_text front) ≡ kind.Dir) [
      | inl whole ↦ ap (λ (cs : Names). kind_there s x (path_text cs)) whole ∙ one.dir
      | inr part ↦ sym (one.others (path_text front) (λ same. shorter front part.0 part.1 same)).0 ∙ grown.dirs front part.0 part.1
    ];
    kept = λ k h. alike_then (node_there s d k) (node_there s y k) (node_there s x k) (grown.kept k h) (same_key_or k p (AreAlike (node_there s y k) (node_there s x k))
        (λ is. subst (λ (z : List ℕ). AreAlike (node_there s y z) (node_there s x z)) (sym is) (dirs_alike (node_there s y p) (node_there s x p) (was_dir (alike_some (node_there s d p) (node_there s y p) (grown.kept p (subst (λ z. IsSome (node_there s d z)) is h)) (subst (λ z. IsSome (node_there s d z)) is h))) one.dir))
        (λ isnt. one.others k isnt));
    others = λ k h. alike_then (node_there s d k) (node_there s y k) (node_there s x k)
        (grown.others k (λ front rest e. h front (rest ++ c ∷ []) (ap (λ (zs : Names). zs ++ c ∷ []) e ∙ append_assoc front rest (c ∷ []))))
        (one.others k (h (xs ++ c ∷ []) [] (sym (append-nil (xs ++ c ∷ [])))));
  }
    where
      p : List ℕ
      p = path_text (xs ++ c ∷ [])

      was_dir : IsSome (node_there s y (path_text (xs ++ c ∷ []))) → kind_there s y (path_text (xs ++ c ∷ [])) ≡ kind.Dir
      was_dir h = elim one.was as (λ _. kind_there s y (path_text (xs ++ c ∷ [])) ≡ kind.Dir) [ inl none ↦ absurd (some_kind (node_there s y (path_text (xs ++ c ∷ []))) h none) | inr dir ↦ dir ]

      shorter : (front more : Names) → xs ≡ front ++ more → path_text front ≢ path_text (xs ++ c ∷ [])
      shorter front more e same =
          let all_front = allc_front front more (subst AllC e (allc_front xs (c ∷ []) all)) in
          let is : front ≡ xs ++ c ∷ [] = sym (spells front all_front) ∙ ap components same ∙ spells (xs ++ c ∷ []) all in
          absurd (omega (arith, ap length is, ap length e, length-append front more, length_push xs c))

  all_grown : (left : ℕ) (cs : Names) (d : Changes) → NoLinks s d → IsTree (laid_over d s.tree) → AllC cs → length cs ≤ left → LeavesS s d (make_all left name (path_text cs)) (λ x. Grown d x cs)
  unfolding steps.done
  all_grown zero [] d none whole all le = λ x w same r e. subst (λ (c : Changes). Grown d c []) (sym same) (root_grown d none whole)
  all_grown zero (c ∷ cs) d none whole all le = absurd (omega arith)
  all_grown (suc left) [] d none whole all le = λ x w same r e. subst (λ (c : Changes). Grown d c []) (sym same) (root_grown d none whole)
  all_grown (suc left) (c ∷ cs) d none whole all le =
      let l = split_last c cs in
      let front = take (length cs) (c ∷ cs) in
      let all_then = subst AllC l.1 all in
      let size : length front ≤ left = omega (arith, ap length l.1, length_push front l.0) in
      subst (λ (us : Names). LeavesS s d (make_all (suc left) name (path_text us)) (λ x. Grown d x us)) (sym l.1)
      (subst (λ (o : Option (List ℕ)). LeavesS s d (make_under o (make_all left name) name (path_text (front ++ l.0 ∷ []))) (λ x. Grown d x (front ++ l.0 ∷ []))) (sym (parent_path front l.0 all_then))
      (seq_s s d (make_all left name (path_text front)) (λ y. Grown d y front) (λ u. make_missing name (path_text (front ++ l.0 ∷ []))) (λ x. Grown d x (front ++ l.0 ∷ []))
      (all_grown left front d none whole (allc_front front (l.0 ∷ []) all_then) size)
      (λ u y grown x w same r e. grown_further d y (make_missing name (path_text (front ++ l.0 ∷ [])) x (snapshot s) w).1.changes front l.0 all_then grown (ensured y grown.plain (path_text (front ++ l.0 ∷ [])) x w same r e))))

module _ (s : State) (w : Workspace) (none : NoLinks s w.changes) (d : Done) (name p : List ℕ) where
  abbrev making_all : Result (Unit {0} × Done) (OperandNo × Done) × Workspace
  making_all = make_directory true (operand name p) d (snapshot s) w

  grown_here : (r : Unit {0} × Done) → IsTree (tree_seen s w) → IsPath p → making_all.0 ≡ Ok r → Grown s name w.changes making_all.1.changes (components p)
  grown_here r whole path e =
      let all = recursion_from_All IsComponent (components p) path.names in
      (subst (λ (q : List ℕ). LeavesS s w.changes (make_all levels name q) (λ x. Grown s name w.changes x (components p))) (sym path.spelled) (all_grown s name levels (components p) w.changes none whole all path.deep)) d w refl r e

  pub mkdir_dirs : (r : Unit {0} × Done) → IsTree (tree_seen s w) → IsPath p → making_all.0 ≡ Ok r → (k : List ℕ) → IsOver p k → kind_of (get (tree_seen s making_all.1) k) ≡ kind.Dir
  mkdir_dirs r whole path e k (front, rest, parts, is) = ap (kind_there s making_all.1.changes) is ∙ (grown_here r whole path e).dirs front rest parts

  pub mkdir_kept : (r : Unit {0} × Done) → IsTree (tree_seen s w) → IsPath p → making_all.0 ≡ Ok r → (k : List ℕ) → (kind_of (get (tree_seen s w) k) ≢ kind.Absent) ⊎ (IsOver p k → ⊥) → AreAlike (get (tree_seen s w) k) (get (tree_seen s making_all.1) k)
  mkdir_kept r whole path e k (inl there_now) = (grown_here r whole path e).kept k (kind_some (node_there s w.changes k) there_now)
  mkdir_kept r whole path e k (inr apart) = (grown_here r whole path e).others k (λ front rest parts is. apart (front, rest, parts, is))
