-- What expressions of `test` leave.
use Rattle.std.proofs.Common.{◌≡◌, ◌≢◌, ℕ, suc, ◌-◌, ◌<◌, ◌&&◌, Bool, true, false, not, cond, List, [], ◌∷◌, ◌++◌, length, take, Option, Some, None, Result, Ok, Err, arith, refl, sym, ap, subst, ◌∙◌}
use Rattle.std.specs.Prelude.{codes, nat_eq, nat_lt, is_some, slice_get, ℤ, ◌<ℤ◌}
use Rattle.std.specs.Ordering.{int_cmp}
use Rattle.std.specs.declared.cmp.Ordering.{Ordering}
use Rattle.std.specs.declared.cmp.Ordering.TheVariants.{Less, Equal, Greater}
use Rattle.std.specs.Cmp.Lexicographic.{pointwise}
use Rattle.std.specs.Cmp.{int_cmp_is}
use Rattle.std.specs.Str.{bytes_eq}
use Rattle.std.proofs.lemmas.Bool.{lt-ltb, ltb-true}
use Rattle.std.proofs.lemmas.List.{take_at, length_push}
use Rattle.std.proofs.lemmas.Slice.Eq.{bytes_eq-Decides}
use Rattle.em_base.proofs.Lemmas.{by_cases}
use Rattle.em_path.specs.Reading.{read_fault, resolved_text}
use Rattle.em_path.proofs.Lemmas.{split_last}
use Rattle.em_tree.specs.declared.node.Kind.{Kind}
use Rattle.em_tree.specs.declared.node.Kind.TheVariants as kind
use Rattle.em_tree.specs.declared.node.Node.{Node}
use Rattle.em_tree.specs.declared.state.State.{State}
use Rattle.em_tree.specs.Trees.{Changes, kind_of, stamp_of, content_of, link_of}
use Rattle.em_view.specs.declared.no.DeskNo.{DeskNo}
use Rattle.em_view.specs.declared.done.Done.{Done}
use Rattle.em_view.specs.declared.done.ExecNo.{ExecNo}
use Rattle.em_view.specs.Actions.{Workspace, Oracle, snapshot, Action, go_on, ◌>>=◌, done, lift, renamed}
use Rattle.em_view.specs.Ends.{of_desk}
use Rattle.em_view.specs.Rows.{kind_at, stamp_at, content, link_at}
use Rattle.em_lineutil.specs.declared.test.Unary.{Unary}
use Rattle.em_lineutil.specs.declared.test.Unary.TheVariants as unary
use Rattle.em_lineutil.specs.declared.test.Relation.{Relation}
use Rattle.em_lineutil.specs.declared.test.Relation.TheVariants as relation
use Rattle.em_lineutil.specs.Formats.{number_of}
use Rattle.em_lineutil.specs.Tests.{binary_of, is_negated, stripped, form_of, by_order}
use Rattle.em_textutil.specs.declared.expression.ExpressionResult.{ExpressionResult}
use Rattle.em_textutil.specs.declared.expression.ExpressionResult.TheVariants.{Is, Strange, Syntax}
use Rattle.em_textutil.specs.Expressions.{path_by, path_of, kind_by, stamp_by, content_by, link_by, is_of, is_filled, has_bytes, is_above, is_newest, says_kind, says_bytes, says_link, says_stamps, numbers_say, says, truth, answer, test_words}
use Rattle.em_textutil.specs.Utilities.{lacks_end, bracketed}
use Rattle.em_laws.specs.Tested.{yes, no, Leaves, Compare, Finds, opposite, opposite_by, IsNoComparison}
use Rattle.std.specs.FinMap.{get}
use Rattle.em_laws.specs.Nodes.{tree_seen, HasNoLinksAbove}
use Rattle.em_laws.proofs.Expanding.{Gives, gives_kind, gives_link_at, node_there, led_there, plainly, NoLinks}
use Rattle.em_laws.proofs.Linking.{plain_at}
use Rattle.em_laws.proofs.Filing.{gives_content, gives_stamp}

-- ---- words alone

abbrev verdict : Bool → Done
verdict holds = record { status = truth false holds; pieces = [] }

says_so : (ws : List (List ℕ)) (b : Bool) → stripped false ws ≡ (false, ws) → ((cwd : List ℕ) → says cwd (form_of ws) ws ≡ done (Is b)) → Leaves ws (verdict b)
unfolding test_words done ◌>>=◌
says_so ws b plain h cwd o w =
    ap (λ (q : Bool × List (List ℕ)). go_on (says cwd (form_of q.1) q.1 o w).0 (says cwd (form_of q.1) q.1 o w).1 (λ v. done (answer q.0 v)) o) plain
    ∙ ap (λ (m : Action ExecNo ExpressionResult). go_on (m o w).0 (m o w).1 (λ v. done (answer false v)) o) (h cwd)

filled : (b : ℕ) (bs : List ℕ) → is_filled (b ∷ bs) ≡ true
filled b bs = lt-ltb 0 (suc (length bs)) (omega arith)

pub test_empty : Leaves ([] ∷ []) no × Leaves (codes "-n" ∷ [] ∷ []) no × Leaves (codes "-z" ∷ [] ∷ []) yes
test_empty = (says_so ([] ∷ []) false refl (λ cwd. refl), says_so (codes "-n" ∷ [] ∷ []) false refl (λ cwd. refl), says_so (codes "-z" ∷ [] ∷ []) true refl (λ cwd. refl))

pub test_filled : (b : ℕ) (bs : List ℕ) → Leaves ((b ∷ bs) ∷ []) yes × Leaves (codes "-n" ∷ (b ∷ bs) ∷ []) yes × Leaves (codes "-z" ∷ (b ∷ bs) ∷ []) no
test_filled b bs = (
  says_so ((b ∷ bs) ∷ []) true refl (λ cwd. ap (λ t. done (Is t)) (filled b bs)),
  says_so (codes "-n" ∷ (b ∷ bs) ∷ []) true refl (λ cwd. ap (λ t. done (Is t)) (filled b bs)),
  says_so (codes "-z" ∷ (b ∷ bs) ∷ []) false refl (λ cwd. ap (λ t. done (Is (not t))) (filled b bs)),
)

-- a comparison isn't negated
compared : (a op b : List ℕ) → is_some (binary_of op) ≡ true → stripped false (a ∷ op ∷ b ∷ []) ≡ (false, a ∷ op ∷ b ∷ [])
compared a op b h =
    let isnt : is_negated (a ∷ op ∷ b ∷ []) ≡ false = by_cases (bytes_eq a (codes "!")) (λ t. (t && not (is_some (binary_of op))) ≡ false) (λ _. ap not h) (λ _. refl) in
    ap (λ t. cond t (stripped true (op ∷ b ∷ [])) (false, a ∷ op ∷ b ∷ [])) isnt

pub test_same : (a : List ℕ) → Leaves (a ∷ codes "=" ∷ a ∷ []) yes × Leaves (a ∷ codes "!=" ∷ a ∷ []) no
test_same a =
    let is : pointwise nat_eq a a ≡ true = (bytes_eq-Decides a a).1 refl in
    (says_so (a ∷ codes "=" ∷ a ∷ []) true (compared a (codes "=") a refl) (λ cwd. ap (λ t. done (Is t)) is), says_so (a ∷ codes "!=" ∷ a ∷ []) false (compared a (codes "!=") a refl) (λ cwd. ap (λ t. done (Is (not t))) is))

pub test_different : (a b : List ℕ) → a ≢ b → Leaves (a ∷ codes "=" ∷ b ∷ []) no × Leaves (a ∷ codes "!=" ∷ b ∷ []) yes
test_different a b h =
    let isnt : pointwise nat_eq a b ≡ false = by_cases (pointwise nat_eq a b) (λ t. pointwise nat_eq a b ≡ t → t ≡ false) (λ _ is. absurd (h ((bytes_eq-Decides a b).0 is))) (λ _ _. refl) refl in
    (says_so (a ∷ codes "=" ∷ b ∷ []) false (compared a (codes "=") b refl) (λ cwd. ap (λ t. done (Is t)) isnt), says_so (a ∷ codes "!=" ∷ b ∷ []) true (compared a (codes "!=") b refl) (λ cwd. ap (λ t. done (Is (not t))) isnt))

-- ---- numbers

by_number : (a op b : List ℕ) (x y : ℤ) (k : Ordering) (r : Relation) → is_some (binary_of op) ≡ true → ((cwd : List ℕ) → says cwd (form_of (a ∷ op ∷ b ∷ [])) (a ∷ op ∷ b ∷ []) ≡ done (numbers_say r (number_of a) (number_of b) a b)) →
    number_of a ≡ Some x → number_of b ≡ Some y → int_cmp x y ≡ k → Leaves (a ∷ op ∷ b ∷ []) (verdict (by_order r k))
by_number a op b x y k r two form h i order = says_so (a ∷ op ∷ b ∷ []) (by_order r k) (compared a op b two) (λ cwd.
    form cwd ∙ ap (λ (o : Option ℤ). done (numbers_say r o (number_of b) a b)) h ∙ ap (λ (o : Option ℤ). done (numbers_say r (Some x) o a b)) i ∙ ap (λ (z : Ordering). done (Is (by_order r z))) order)

abbrev Said : Relation → Ordering → Done
Said r k = verdict (by_order r k)

six : (a b : List ℕ) (x y : ℤ) (k : Ordering) → number_of a ≡ Some x → number_of b ≡ Some y → int_cmp x y ≡ k →
    Compare a b (Said relation.Equal k) (Said relation.Unequal k) (Said relation.Below k) (Said relation.AtMost k) (Said relation.Above k) (Said relation.AtLeast k)
six a b x y k h i order = (
  by_number a (codes "-eq") b x y k relation.Equal refl (λ cwd. refl) h i order,
  by_number a (codes "-ne") b x y k relation.Unequal refl (λ cwd. refl) h i order,
  by_number a (codes "-lt") b x y k relation.Below refl (λ cwd. refl) h i order,
  by_number a (codes "-le") b x y k relation.AtMost refl (λ cwd. refl) h i order,
  by_number a (codes "-gt") b x y k relation.Above refl (λ cwd. refl) h i order,
  by_number a (codes "-ge") b x y k relation.AtLeast refl (λ cwd. refl) h i order,
)

pub numbers_below : (a b : List ℕ) (x y : ℤ) → number_of a ≡ Some x → number_of b ≡ Some y → x <ℤ y → Compare a b no yes yes yes no no
numbers_below a b x y h i lt = six a b x y Less h i (sym (int_cmp_is x y Less lt))

pub numbers_same : (a b : List ℕ) (x : ℤ) → number_of a ≡ Some x → number_of b ≡ Some x → Compare a b yes no no yes no yes
numbers_same a b x h i = six a b x x Equal h i (sym (int_cmp_is x x Equal refl))

pub numbers_above : (a b : List ℕ) (x y : ℤ) → number_of a ≡ Some x → number_of b ≡ Some y → y <ℤ x → Compare a b no yes no no yes yes
numbers_above a b x y h i gt = six a b x y Greater h i (sym (int_cmp_is x y Greater gt))

-- ---- on a state

module _ (s : State) (d : Changes) where
  abbrev GivesE : {A : Type 0} → Action ExecNo A → (A → Type 0) → Type 0
  GivesE {A} m P = (w : Workspace) → w.changes ≡ d → (a : A) → (m (snapshot s) w).0 ≡ Ok a → P a × ((m (snapshot s) w).1.changes ≡ d)

  e_further : {A B : Type 0} (r : Result A ExecNo) (w : Workspace) (P : A → Type 0) (k : A → Action ExecNo B) (Q : B → Type 0) → ((a : A) → r ≡ Ok a → P a × (w.changes ≡ d)) → ((a : A) → P a → GivesE (k a) Q) →
      (b : B) → (go_on r w k (snapshot s)).0 ≡ Ok b → Q b × ((go_on r w k (snapshot s)).1.changes ≡ d)
  e_further (Ok a) w P k Q h g b e = let f = h a refl in g a f.0 w f.1 b e
  e_further (Err x) w P k Q h g b e = absurd cc

  e_then : {A B : Type 0} (m : Action ExecNo A) (P : A → Type 0) (k : A → Action ExecNo B) (Q : B → Type 0) → GivesE m P → ((a : A) → P a → GivesE (k a) Q) → GivesE (m >>= k) Q
  unfolding ◌>>=◌
  e_then m P k Q h g w same b e = e_further (m (snapshot s) w).0 (m (snapshot s) w).1 P k Q (λ a is. h w same a is) g b e

  e_done : {A : Type 0} (P : A → Type 0) (a : A) → P a → GivesE (done a) P
  unfolding done
  e_done P a p w same b e = (subst P (let is : a ≡ b = cc in is) p, same)

  ok_of : {A : Type 0} (r : Result A DeskNo) (a : A) → renamed of_desk r ≡ Ok a → r ≡ Ok a
  ok_of {A} (Ok x) a e = let is : x ≡ a = cc in ap (λ (y : A). (let q : Result A DeskNo = Ok y in q)) is
  ok_of (Err x) a e = absurd cc

  lifted : {A : Type 0} (m : Action DeskNo A) (P : A → Type 0) → Gives s d m P → GivesE (lift of_desk m) P
  unfolding lift
  lifted m P h w same a e = h w same a (ok_of (m (snapshot s) w).0 a e)

  module _ (cwd : List ℕ) where
    path_there : (name : List ℕ) → read_fault cwd name ≡ None → path_of cwd name ≡ Some (resolved_text cwd name)
    path_there name e = ap (λ o. path_by o (resolved_text cwd name)) e

    abbrev there : List ℕ → Option Node
    there name = node_there s d (resolved_text cwd name)

    gives_says_kind : NoLinks s d → (u : Unary) (name : List ℕ) → read_fault cwd name ≡ None → GivesE (says_kind cwd u name) (λ v. v ≡ Is (is_of u (kind_of (there name))))
    unfolding says_kind
    gives_says_kind none u name e =
        let p = resolved_text cwd name in
        e_then (kind_by (path_of cwd name)) (λ k. k ≡ kind_of (there name)) (λ k. done (Is (is_of u k))) (λ v. v ≡ Is (is_of u (kind_of (there name))))
        (subst (λ (o : Option (List ℕ)). GivesE (kind_by o) (λ k. k ≡ kind_of (there name))) (sym (path_there name e)) (lifted (kind_at p) (λ k. k ≡ kind_of (there name)) (gives_kind s d none p)))
        (λ k is. e_done (λ v. v ≡ Is (is_of u (kind_of (there name)))) (Is (is_of u k)) (ap (λ (z : Kind). Is (is_of u z)) is))

    gives_says_bytes : NoLinks s d → (name : List ℕ) → read_fault cwd name ≡ None → GivesE (says_bytes cwd name) (λ v. v ≡ Is (has_bytes (content_of (there name))))
    unfolding says_bytes
    gives_says_bytes none name e =
        let p = resolved_text cwd name in
        e_then (content_by (path_of cwd name)) (λ b. b ≡ content_of (there name)) (λ b. done (Is (has_bytes b))) (λ v. v ≡ Is (has_bytes (content_of (there name))))
        (subst (λ (o : Option (List ℕ)). GivesE (content_by o) (λ b. b ≡ content_of (there name))) (sym (path_there name e)) (lifted (content p) (λ b. b ≡ content_of (there name)) (gives_content s d none p)))
        (λ b is. e_done (λ v. v ≡ Is (has_bytes (content_of (there name)))) (Is (has_bytes b)) (ap (λ (z : Option (List ℕ)). Is (has_bytes z)) is))

    gives_stamp_by : NoLinks s d → (name : List ℕ) → read_fault cwd name ≡ None → GivesE (stamp_by (path_of cwd name)) (λ t. t ≡ stamp_of (there name))
    gives_stamp_by none name e =
        let p = resolved_text cwd name in
        subst (λ (o : Option (List ℕ)). GivesE (stamp_by o) (λ t. t ≡ stamp_of (there name))) (sym (path_there name e)) (lifted (stamp_at p) (λ t. t ≡ stamp_of (there name)) (gives_stamp s d none p))

    gives_says_stamps : NoLinks s d → (first : Bool) (a b : List ℕ) → read_fault cwd a ≡ None → read_fault cwd b ≡ None → GivesE (says_stamps cwd first a b) (λ v. v ≡ Is (is_newest first (stamp_of (there a)) (stamp_of (there b))))
    unfolding says_stamps
    gives_says_stamps none first a b e f =
        let Q = λ (v : ExpressionResult). v ≡ Is (is_newest first (stamp_of (there a)) (stamp_of (there b))) in
        e_then (stamp_by (path_of cwd a)) (λ t. t ≡ stamp_of (there a)) (λ t. stamp_by (path_of cwd b) >>= (λ u. done (Is (is_newest first t u)))) Q (gives_stamp_by none a e) (λ t is.
        e_then (stamp_by (path_of cwd b)) (λ u. u ≡ stamp_of (there b)) (λ u. done (Is (is_newest first t u))) Q (gives_stamp_by none b f) (λ u was.
        e_done Q (Is (is_newest first t u)) (ap (λ (z : Option ℕ). Is (is_newest first z u)) is ∙ ap (λ (z : Option ℕ). Is (is_newest first (stamp_of (there a)) z)) was)))

    gives_answer : (ws : List (List ℕ)) (b : Bool) → stripped false ws ≡ (false, ws) → GivesE (says cwd (form_of ws) ws) (λ v. v ≡ Is b) → GivesE (test_words cwd ws) (λ x. x ≡ verdict b)
    unfolding test_words
    gives_answer ws b plain h = subst (λ (q : Bool × List (List ℕ)). GivesE (says cwd (form_of q.1) q.1 >>= (λ v. done (answer q.0 v))) (λ x. x ≡ verdict b)) (sym plain)
        (e_then (says cwd (form_of ws) ws) (λ v. v ≡ Is b) (λ v. done (answer false v)) (λ x. x ≡ verdict b) h (λ v is. e_done (λ x. x ≡ verdict b) (answer false v) (ap (answer false) is)))

finds : (s : State) (w : Workspace) (cwd : List ℕ) (ws : List (List ℕ)) (P : Type 0) (b : Bool) → stripped false ws ≡ (false, ws) → GivesE s w.changes (says cwd (form_of ws) ws) (λ v. v ≡ Is b) → (P → b ≡ true) → ((P → ⊥) → b ≡ false) → Finds s w cwd ws P
finds s w cwd ws P b plain h is isnt d e =
    let r = gives_answer s w.changes cwd ws b plain h w refl d e in
    (λ p. r.0 ∙ ap verdict (is p), λ n. r.0 ∙ ap verdict (isnt n), r.1)

is_there : (k : Kind) → k ≢ kind.Absent → is_of unary.Exists k ≡ true
is_there kind.Absent h = absurd (h refl)
is_there kind.File h = refl
is_there kind.Dir h = refl
is_there kind.Link h = refl

isnt_there : (k : Kind) → ((k ≢ kind.Absent) → ⊥) → is_of unary.Exists k ≡ false
isnt_there kind.Absent h = refl
isnt_there kind.File h = absurd (h (λ e. cc))
isnt_there kind.Dir h = absurd (h (λ e. cc))
isnt_there kind.Link h = absurd (h (λ e. cc))

is_file : (k : Kind) → k ≡ kind.File → is_of unary.IsFile k ≡ true
is_file k e = ap (is_of unary.IsFile) e

isnt_file : (k : Kind) → k ≢ kind.File → is_of unary.IsFile k ≡ false
isnt_file kind.Absent h = refl
isnt_file kind.File h = absurd (h refl)
isnt_file kind.Dir h = refl
isnt_file kind.Link h = refl

is_dir : (k : Kind) → k ≡ kind.Dir → is_of unary.IsDir k ≡ true
is_dir k e = ap (is_of unary.IsDir) e

isnt_dir : (k : Kind) → k ≢ kind.Dir → is_of unary.IsDir k ≡ false
isnt_dir kind.Absent h = refl
isnt_dir kind.File h = refl
isnt_dir kind.Link h = refl
isnt_dir kind.Dir h = absurd (h refl)

abbrev Filled : Option (List ℕ) → Type 0
Filled o = (b : ℕ) × (bs : List ℕ) × (o ≡ Some (b ∷ bs))

has_some : (o : Option (List ℕ)) → Filled o → has_bytes o ≡ true
has_some o (b, bs, e) = ap has_bytes e ∙ filled b bs

has_none : (o : Option (List ℕ)) → (Filled o → ⊥) → has_bytes o ≡ false
has_none None h = refl
has_none (Some []) h = refl
has_none (Some (b ∷ bs)) h = absurd (h (b, bs, refl))

abbrev Above : Option ℕ → Option ℕ → Type 0
Above a b = (m : ℕ) × (n : ℕ) × (a ≡ Some m) × (b ≡ Some n) × (n < m)

is_newer : (a b : Option ℕ) → Above a b → is_above a b ≡ true
is_newer a b (m, n, e, f, lt) = ap (λ (x : Option ℕ). is_above x b) e ∙ ap (is_above (Some m)) f ∙ lt-ltb n m lt

isnt_newer : (a b : Option ℕ) → (Above a b → ⊥) → is_above a b ≡ false
isnt_newer None b h = refl
isnt_newer (Some m) None h = refl
isnt_newer (Some m) (Some n) h = by_cases (nat_lt n m) (λ t. nat_lt n m ≡ t → t ≡ false) (λ _ is. absurd (h (m, n, refl, refl, ltb-true n m is))) (λ _ _. refl) refl

module _ (s : State) (w : Workspace) (none : NoLinks s w.changes) (cwd : List ℕ) where
  abbrev node : List ℕ → Option Node
  node name = node_there s w.changes (resolved_text cwd name)

  pub test_exists : (name : List ℕ) → read_fault cwd name ≡ None → Finds s w cwd (codes "-e" ∷ name ∷ []) (kind_of (node name) ≢ kind.Absent)
  test_exists name e = finds s w cwd (codes "-e" ∷ name ∷ []) (kind_of (node name) ≢ kind.Absent) (is_of unary.Exists (kind_of (node name))) refl (gives_says_kind s w.changes cwd none unary.Exists name e) (is_there (kind_of (node name))) (isnt_there (kind_of (node name)))

  pub test_file : (name : List ℕ) → read_fault cwd name ≡ None → Finds s w cwd (codes "-f" ∷ name ∷ []) (kind_of (node name) ≡ kind.File)
  test_file name e = finds s w cwd (codes "-f" ∷ name ∷ []) (kind_of (node name) ≡ kind.File) (is_of unary.IsFile (kind_of (node name))) refl (gives_says_kind s w.changes cwd none unary.IsFile name e) (is_file (kind_of (node name))) (isnt_file (kind_of (node name)))

  pub test_dir : (name : List ℕ) → read_fault cwd name ≡ None → Finds s w cwd (codes "-d" ∷ name ∷ []) (kind_of (node name) ≡ kind.Dir)
  test_dir name e = finds s w cwd (codes "-d" ∷ name ∷ []) (kind_of (node name) ≡ kind.Dir) (is_of unary.IsDir (kind_of (node name))) refl (gives_says_kind s w.changes cwd none unary.IsDir name e) (is_dir (kind_of (node name))) (isnt_dir (kind_of (node name)))

  pub test_bytes : (name : List ℕ) → read_fault cwd name ≡ None → Finds s w cwd (codes "-s" ∷ name ∷ []) (Filled (content_of (node name)))
  test_bytes name e = finds s w cwd (codes "-s" ∷ name ∷ []) (Filled (content_of (node name))) (has_bytes (content_of (node name))) refl (gives_says_bytes s w.changes cwd none name e) (has_some (content_of (node name))) (has_none (content_of (node name)))

  pub test_newer : (a b : List ℕ) → read_fault cwd a ≡ None → read_fault cwd b ≡ None → Finds s w cwd (a ∷ codes "-nt" ∷ b ∷ []) (Above (stamp_of (node a)) (stamp_of (node b)))
  test_newer a b e f = finds s w cwd (a ∷ codes "-nt" ∷ b ∷ []) (Above (stamp_of (node a)) (stamp_of (node b))) (is_above (stamp_of (node a)) (stamp_of (node b))) (compared a (codes "-nt") b refl) (gives_says_stamps s w.changes cwd none true a b e f) (is_newer (stamp_of (node a)) (stamp_of (node b))) (isnt_newer (stamp_of (node a)) (stamp_of (node b)))

  abbrev Under : Option ℕ → Option ℕ → Type 0
  Under a b = (m : ℕ) × (n : ℕ) × (a ≡ Some m) × (b ≡ Some n) × (m < n)

  pub test_older : (a b : List ℕ) → read_fault cwd a ≡ None → read_fault cwd b ≡ None → Finds s w cwd (a ∷ codes "-ot" ∷ b ∷ []) (Under (stamp_of (node a)) (stamp_of (node b)))
  test_older a b e f =
      let x = stamp_of (node a) in
      let y = stamp_of (node b) in
      finds s w cwd (a ∷ codes "-ot" ∷ b ∷ []) (Under x y) (is_above y x) (compared a (codes "-ot") b refl) (gives_says_stamps s w.changes cwd none false a b e f)
      (λ (m, n, i, j, lt). is_newer y x (n, m, j, i, lt)) (λ h. isnt_newer y x (λ (n, m, j, i, lt). h (m, n, i, j, lt)))

-- ---- links

module _ (s : State) (d : Changes) (cwd name : List ℕ) (fine : read_fault cwd name ≡ None) where
  abbrev spot : List ℕ
  spot = resolved_text cwd name

  gives_says_link : led_there s d false spot ≡ plainly s d spot → GivesE s d (says_link cwd name) (λ v. v ≡ Is (is_some (link_of (node_there s d spot))))
  unfolding says_link
  gives_says_link plain =
      let text = link_of (node_there s d spot) in
      e_then s d (link_by (path_of cwd name)) (λ l. l ≡ text) (λ l. done (Is (is_some l))) (λ v. v ≡ Is (is_some text))
      (subst (λ (o : Option (List ℕ)). GivesE s d (link_by o) (λ l. l ≡ text)) (sym (path_there s d cwd name fine)) (lifted s d (link_at spot) (λ l. l ≡ text) (gives_link_at s d spot plain)))
      (λ l is. e_done s d (λ v. v ≡ Is (is_some text)) (Is (is_some l)) (ap (λ (z : Option (List ℕ)). Is (is_some z)) is))

abbrev Says : Option (List ℕ) → Type 0
Says o = (text : List ℕ) × (o ≡ Some text)

says_some : (o : Option (List ℕ)) → Says o → is_some o ≡ true
says_some o (text, e) = ap is_some e

says_none : (o : Option (List ℕ)) → (Says o → ⊥) → is_some o ≡ false
says_none None h = refl
says_none (Some text) h = absurd (h (text, refl))

pub test_link : (s : State) (w : Workspace) (cwd name : List ℕ) → read_fault cwd name ≡ None → HasNoLinksAbove s w (resolved_text cwd name)
    → Finds s w cwd (codes "-h" ∷ name ∷ []) (Says (link_of (get (tree_seen s w) (resolved_text cwd name)))) × Finds s w cwd (codes "-L" ∷ name ∷ []) (Says (link_of (get (tree_seen s w) (resolved_text cwd name))))
test_link s w cwd name fine clear =
    let text = link_of (get (tree_seen s w) (resolved_text cwd name)) in
    let gives = gives_says_link s w.changes cwd name fine (plain_at s w (resolved_text cwd name) clear) in (
      finds s w cwd (codes "-h" ∷ name ∷ []) (Says text) (is_some text) refl gives (says_some text) (says_none text),
      finds s w cwd (codes "-L" ∷ name ∷ []) (Says text) (is_some text) refl gives (says_some text) (says_none text),
    )

-- ---- negation

turned : (n : Bool) (v : ExpressionResult) → answer (not n) v ≡ opposite (answer n v)
turned true (Is true) = refl
turned true (Is false) = refl
turned false (Is true) = refl
turned false (Is false) = refl
turned n (Strange word) = refl
turned n Syntax = refl

turned_run : (n : Bool) (r : Result ExpressionResult ExecNo) (w : Workspace) (o : Oracle) → go_on r w (λ v. done (answer (not n) v)) o ≡ (opposite_by (go_on r w (λ v. done (answer n v)) o).0, (go_on r w (λ v. done (answer n v)) o).1)
unfolding done
turned_run n (Ok v) w o = ap (λ (d : Done). (let z : Result Done ExecNo × Workspace = (Ok d, w) in z)) (turned n v)
turned_run n (Err e) w o = refl

stripped_not : (n : Bool) (ws : List (List ℕ)) → stripped (not n) ws ≡ (not (stripped n ws).0, (stripped n ws).1)
stripped_not n [] = refl
stripped_not n (w ∷ ws) = by_cases (is_negated (w ∷ ws))
    (λ t. cond t (stripped (not (not n)) ws) (not n, w ∷ ws) ≡ (not (cond t (stripped (not n) ws) (n, w ∷ ws)).0, (cond t (stripped (not n) ws) (n, w ∷ ws)).1))
    (λ _. stripped_not (not n) ws) (λ _. refl)

negated : (ws : List (List ℕ)) → ws ≢ [] → IsNoComparison (codes "!" ∷ ws) → is_negated (codes "!" ∷ ws) ≡ true
negated [] h g = absurd (h refl)
negated (a ∷ []) h g = refl
negated (a ∷ b ∷ []) h g = ap (λ o. not (is_some o)) (g (codes "!") a b refl)
negated (a ∷ b ∷ c ∷ ws) h g = refl

pub test_not : (cwd : List ℕ) (ws : List (List ℕ)) (o : Oracle) (w : Workspace) → ws ≢ [] → IsNoComparison (codes "!" ∷ ws) → test_words cwd (codes "!" ∷ ws) o w ≡ (opposite_by (test_words cwd ws o w).0, (test_words cwd ws o w).1)
unfolding test_words ◌>>=◌
test_not cwd ws o w some plain =
    let run = λ (q : Bool × List (List ℕ)). go_on (says cwd (form_of q.1) q.1 o w).0 (says cwd (form_of q.1) q.1 o w).1 (λ v. done (answer q.0 v)) o in
    let q = stripped false ws in
    ap run (ap (λ t. cond t (stripped true ws) (false, codes "!" ∷ ws)) (negated ws some plain) ∙ stripped_not false ws) ∙ turned_run q.0 (says cwd (form_of q.1) q.1 o w).0 (says cwd (form_of q.1) q.1 o w).1 o

-- ---- brackets

last_at : (ws : List (List ℕ)) (x : List ℕ) → slice_get (ws ++ x ∷ []) (length ws) ≡ Some x
last_at [] x = refl
last_at (w ∷ ws) x = last_at ws x

pub bracket_ended : (cwd : List ℕ) (ws : List (List ℕ)) (o : Oracle) (w : Workspace) → bracketed cwd (ws ++ codes "]" ∷ []) o w ≡ test_words cwd ws o w
unfolding bracketed
bracket_ended cwd ws o w =
    let n : length (ws ++ codes "]" ∷ []) - 1 ≡ length ws = omega (arith, length_push ws (codes "]")) in
    rw (n, last_at ws (codes "]")) (ap (λ (vs : List (List ℕ)). test_words cwd vs o w) (take_at ws (codes "]" ∷ []) (length ws) refl))

lacks : (ws : List (List ℕ)) → ((front : List (List ℕ)) → ws ≢ front ++ codes "]" ∷ []) → lacks_end ws ≡ true
lacks [] h = refl
lacks (w ∷ ws) h =
    let s = split_last w ws in
    let n : length (w ∷ ws) - 1 ≡ length ws = omega arith in
    let isnt : bytes_eq s.0 (codes "]") ≡ false = by_cases (bytes_eq s.0 (codes "]")) (λ t. bytes_eq s.0 (codes "]") ≡ t → t ≡ false)
    (λ _ is. absurd (h (take (length ws) (w ∷ ws)) (s.1 ∙ ap (λ (x : List ℕ). take (length ws) (w ∷ ws) ++ x ∷ []) ((bytes_eq-Decides s.0 (codes "]")).0 is)))) (λ _ _. refl) refl in
    rw (n, s.2) (ap not isnt)

pub bracket_open : (cwd : List ℕ) (ws : List (List ℕ)) (o : Oracle) (w : Workspace) → ((front : List (List ℕ)) → ws ≢ front ++ codes "]" ∷ []) → (d : Done) × (bracketed cwd ws o w ≡ (Ok d, w)) × (d.status ≡ 2)
unfolding bracketed done
bracket_open cwd ws o w h = (answer false Syntax, ap (λ (t : Bool). (let m : Action ExecNo Done = cond t (done (answer false Syntax)) (test_words cwd (take (length ws - 1) ws)) in m o w)) (lacks ws h), refl)
