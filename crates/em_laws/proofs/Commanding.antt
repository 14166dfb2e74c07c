-- What the command `cp -r` leaves, on a state.
use Rattle.std.proofs.Common.{◌≡◌, ℕ, ◌≤◌, ◌||◌, ◌&&◌, Bool, true, false, not, cond, List, [], ◌∷◌, ◌++◌, length, take, drop, Option, Some, None, Result, Ok, Err, arith, refl, sym, ap, subst, ◌∙◌}
use Rattle.std.specs.Prelude.{codes, nat_eq}
use Rattle.std.specs.List.{flat_map}
use Rattle.std.specs.Str.{bytes_eq}
use Rattle.std.specs.Cmp.Lexicographic.{pointwise}
use Rattle.std.proofs.lemmas.List.{take_at, drop_at}
use Rattle.std.proofs.lemmas.List.Concat.{flat_map-append}
use Rattle.std.proofs.lemmas.List.Elements.{recursion_from_All, All-push}
use Rattle.std.proofs.lemmas.Slice.Eq.{bytes_eq-Decides}
use Rattle.em_base.proofs.Lemmas.{by_cases}
use Rattle.em_path.specs.declared.path.PathNo.{PathNo}
use Rattle.em_path.specs.Paths.{IsComponent, IsPath, root_text, path_text, components, child_text, last_of}
use Rattle.em_path.specs.Reading.{resolve, resolved_text, limit_fault, name_fault_of, first_of, read_fault}
use Rattle.em_path.proofs.Lemmas.{components-path_text, resolve_names}
use Rattle.em_path.proofs.Spelling.{IsPath-spelled, behind}
use Rattle.em_tree.specs.declared.node.Kind.{Kind}
use Rattle.em_tree.specs.declared.node.Kind.TheVariants as kind
use Rattle.em_tree.specs.declared.state.State.{State}
use Rattle.em_tree.specs.Trees.{Changes, IsTree}
use Rattle.em_view.specs.declared.done.Done.{Done}
use Rattle.em_view.specs.declared.done.ExecNo.{ExecNo}
use Rattle.em_view.specs.Actions.{Workspace, Oracle, snapshot, Action, go_on, ◌>>=◌, done}
use Rattle.em_view.specs.Rows.{kind_at}
use Rattle.em_view.specs.Steps.{and_then}
use Rattle.em_view.specs.Steps as steps
use Rattle.em_view.proofs.OwnNames.{component_of}
use Rattle.em_utility.specs.declared.reason.Reason.TheVariants as reason
use Rattle.em_utility.specs.declared.operand.OperandNo.{OperandNo}
use Rattle.em_utility.specs.Options.{read_options}
use Rattle.em_utility.specs.Writing.{nothing}
use Rattle.em_utility.specs.Operands.{located, located_by, at, caught, each, left_by, command, Tries}
use Rattle.em_fileutil.specs.Spots.{operand_by, operand_at, fault, child, is_within, begins_component, gives, ending, levels}
use Rattle.em_fileutil.specs.Copying.{copy_beneath, copy_top, target_by, target_at, in_target, ends_with_dot, place_of, apart_by, destination}
use Rattle.em_fileutil.specs.Acts.{copy_operand, act_on, act_for}
use Rattle.em_fileutil.specs.Table.{utility_of}
use Rattle.em_fileutil.specs.Utilities.{copy_all, utility_by, utility}
use Rattle.em_laws.specs.Files.{AreWhole, IsUnder, IsCopied, name_kept, target_of, target}
use Rattle.em_laws.specs.Nodes.{tree_seen}
use Rattle.em_laws.proofs.Expanding.{gives_kind, kind_there, NoLinks}
use Rattle.em_laws.proofs.Going.{DomainOf, Operand}
use Rattle.em_laws.proofs.Filing.{at_gives}
use Rattle.em_laws.proofs.Copying.{Manner, IsTreeCopy, Names, Rises, rises_then, rises_at, rises_gives, rises_each, rises_ending, rises_node, rises_beneath, GivesZ, LeavesZ, then_gz, then_z, given_z, gives_z, caught_z, ending_z, limits, within_limits, Good, CopiedTree, node_z, beneath_z, apart_paths, as_copied}

abbrev Target : Type 0
Target = DomainOf destination

abbrev Act : Type 0
Act = DomainOf (act_on (codes "cp"))

abbrev is_dir : Kind → Bool
is_dir kind.Dir = true
is_dir kind.File = false
is_dir kind.Absent = false
is_dir kind.Link = false

-- ---- the path of an operand

first_none : (a b : Option PathNo) → first_of a b ≡ None → (a ≡ None) × (b ≡ None)
first_none None b e = (refl, e)
first_none (Some f) b e = absurd cc

located_path : (cwd name : List ℕ) (o : Operand) → IsPath cwd → operand_at cwd name ≡ Ok o → (o.path ≡ resolved_text cwd name) × IsPath (resolved_text cwd name)
located_path cwd name o home e = by_fault (read_fault cwd name) refl e
  where
    by_fault : (f : Option PathNo) → read_fault cwd name ≡ f → operand_by name (located_by f cwd name) ≡ Ok o → (o.path ≡ resolved_text cwd name) × IsPath (resolved_text cwd name)
    by_fault None none is =
        let both = first_none (name_fault_of name) (limit_fault (resolved_text cwd name)) none in
        let names = resolve_names cwd name home both.0 in
        let fits = within_limits (resolved_text cwd name) both.1 in
        let same : (record { name = name; path = resolved_text cwd name }) ≡ o = cc in
        (ap (λ (z : Operand). z.path) (sym same), IsPath-spelled (resolve cwd name) names (subst (λ (cs : Names). length cs ≤ 64) (components-path_text (resolve cwd name) names) fits.1) fits.0)
    by_fault (Some f) some is = absurd cc

within_under : (p t : List ℕ) → IsPath p → IsUnder p t → is_within p t ≡ true
within_under p t path (rel, all, e) = by_parts (components p) refl
  where
    begins : (rel : Names) → begins_component (flat_map behind rel) ≡ true
    begins [] = refl
    begins (r ∷ rs) = refl

    by_parts : (cs : Names) → components p ≡ cs → is_within p t ≡ true
    by_parts [] none = ap (λ (z : List ℕ). is_within z t) (path.spelled ∙ ap path_text none)
    by_parts (c ∷ cs) some =
        let u = flat_map behind rel in
        let spelled : p ≡ flat_map behind (c ∷ cs) = path.spelled ∙ ap path_text some in
        let whole : t ≡ p ++ u = e ∙ ap (λ (ds : Names). path_text (ds ++ rel)) some ∙ flat_map-append behind (c ∷ cs) rel ∙ ap (λ (z : List ℕ). z ++ u) (sym spelled) in
        let starts : pointwise nat_eq p (take (length p) (p ++ u)) ≡ true = ap (pointwise nat_eq p) (take_at p u (length p) refl) ∙ (bytes_eq-Decides p p).1 refl in
        let ends : begins_component (drop (length p) (p ++ u)) ≡ true = ap begins_component (drop_at p u (length p) refl) ∙ begins rel in
        ap (is_within p) whole ∙ by_cases (bytes_eq p root_text) (λ b. (b || (pointwise nat_eq p (take (length p) (p ++ u)) && begins_component (drop (length p) (p ++ u)))) ≡ true) (λ _. refl) (λ _. ap (λ b. b && begins_component (drop (length p) (p ++ u))) starts ∙ ends)

-- the act of the command, which copies by `copy_operand`
copies_as : (how : Manner) (cwd from to : List ℕ) → (what : Target → Act) × ((t : Target) (o : Operand) → act_on (codes "cp") (what t) o ≡ copy_operand (codes "cp") how t o)
    × (copy_all (codes "cp") how cwd (from ∷ to ∷ []) ≡ and_then (target_at cwd false to) (λ t. ending (each (codes "cp") (act_for (codes "cp") (what t) cwd) (from ∷ []))))
unfolding copy_all
copies_as how cwd from to = (_, (λ t o. refl), refl)

-- ---- where to

aimed_by : (o : Operand) (k : Kind) (t : Target) → target_by false o k ≡ Ok t → (t.operand ≡ o) × (t.is_dir ≡ is_dir k)
aimed_by o kind.Dir t e = (let is : (record { operand = o; is_dir = true }) ≡ t = cc in (ap (λ (z : Target). z.operand) (sym is), ap (λ (z : Target). z.is_dir) (sym is)))
aimed_by o kind.File t e = (let is : (record { operand = o; is_dir = false }) ≡ t = cc in (ap (λ (z : Target). z.operand) (sym is), ap (λ (z : Target). z.is_dir) (sym is)))
aimed_by o kind.Link t e = (let is : (record { operand = o; is_dir = false }) ≡ t = cc in (ap (λ (z : Target). z.operand) (sym is), ap (λ (z : Target). z.is_dir) (sym is)))
aimed_by o kind.Absent t e = (let is : (record { operand = o; is_dir = false }) ≡ t = cc in (ap (λ (z : Target). z.operand) (sym is), ap (λ (z : Target). z.is_dir) (sym is)))

abbrev placed_in : Target → Operand → Bool → Bool → Option (List ℕ) → Result Operand OperandNo
placed_in t a x dot o = cond (x && not dot) (in_target a t.operand o) (Ok t.operand)

settled_at : (to : Target) (a b : Operand) → destination to a ≡ Ok b → (is_within a.path b.path ≡ false) × (place_of to a ≡ Ok b)
settled_at to a b e = by_place (place_of to a) refl e
  where
    by_place : (r : Result Operand OperandNo) → place_of to a ≡ r → apart_by a r ≡ Ok b → (is_within a.path b.path ≡ false) × (place_of to a ≡ Ok b)
    by_place (Err f) is e = absurd cc
    by_place (Ok t) is e = by_cases (is_within a.path t.path)
        (λ x. is_within a.path t.path ≡ x → (let z : Result Operand OperandNo = cond x (Err (fault a reason.SameFile)) (Ok t) in z ≡ Ok b) → (is_within a.path b.path ≡ false) × (place_of to a ≡ Ok b))
        (λ _ _ f. absurd cc)
        (λ _ isnt f. (let same : t ≡ b = cc in (ap (λ (z : Operand). is_within a.path z.path) (sym same) ∙ isnt, is ∙ ap (λ (z : Operand). (let r : Result Operand OperandNo = Ok z in r)) same))) refl e

-- an operand has the name that was typed
named_so : (cwd name : List ℕ) (o : Operand) → operand_at cwd name ≡ Ok o → o.name ≡ name
named_so cwd name o e = by_located (located cwd name) e
  where
    by_located : (r : Result (List ℕ) OperandNo) → operand_by name r ≡ Ok o → o.name ≡ name
    by_located (Ok p) is = (let same : (let z : Operand = record { name = name; path = p } in z) ≡ o = cc in ap (λ (z : Operand). z.name) (sym same))
    by_located (Err f) is = absurd cc

module _ (s : State) (cwd : List ℕ) (home : IsPath cwd) where
  record Aimed (d : Changes) (to : List ℕ) (t : Target) : Type 0 where
    path : t.operand.path ≡ resolved_text cwd to
    is_path : IsPath (resolved_text cwd to)
    dir : t.is_dir ≡ is_dir (kind_there s d (resolved_text cwd to))

  target_z : (d : Changes) → NoLinks s d → (to : List ℕ) → GivesZ s d (target_at cwd false to) (λ t z. Aimed d to t × (z ≡ d))
  unfolding target_at
  target_z d none to =
      let Q = λ (t : Target) (z : Changes). Aimed d to t × (z ≡ d) in
      then_gz s d (gives (operand_at cwd to)) (λ o z. (operand_at cwd to ≡ Ok o) × (z ≡ d)) (λ o. and_then (at o.name (kind_at o.path)) (λ k. gives (target_by false o k))) Q (gives_z s d (operand_at cwd to)) (λ o z first.
      then_gz s z (at o.name (kind_at o.path)) (λ k y. (k ≡ kind_there s z o.path) × (y ≡ z)) (λ k. gives (target_by false o k)) Q
      (given_z s z (at o.name (kind_at o.path)) (λ k. k ≡ kind_there s z o.path) (at_gives s z o.name (kind_at o.path) (λ k. k ≡ kind_there s z o.path) (gives_kind s z (subst (NoLinks s) (sym first.1) none) o.path))) (λ k y second x w same r e clean.
      let l = located_path cwd to o home first.0 in
      let got = gives_z s y (target_by false o k) x w same r e clean in
      let a = aimed_by o k r.0 got.0 in (
        record {
          path = ap (λ (z : Operand). z.path) a.0 ∙ l.0;
          is_path = l.1;
          dir = a.1 ∙ ap is_dir (second.0 ∙ ap (λ (c : Changes). kind_there s c o.path) first.1 ∙ ap (kind_there s d) l.0);
        },
        got.1 ∙ second.1 ∙ first.1,
      ))
      (λ k. rises_gives (target_by false o k)))
      (λ o. rises_then (at o.name (kind_at o.path)) (λ k. gives (target_by false o k)) (rises_at o.name (kind_at o.path)) (λ k. rises_gives (target_by false o k)))

  placed_path : (d : Changes) (to : List ℕ) (t : Target) (a b : Operand) → Aimed d to t → IsPath a.path → place_of t a ≡ Ok b →
      (b.path ≡ target_of (kind_there s d (resolved_text cwd to)) (name_kept a.name (last_of a.path)) (resolved_text cwd to)) × IsPath b.path
  placed_path d to t a b aim is_path e = by_kind (kind_there s d (resolved_text cwd to)) aim.dir (ends_with_dot a.name) (last_of a.path) refl e
    where
      stays : ◌≡◌ {A = Result Operand OperandNo} (Ok t.operand) (Ok b) → (b.path ≡ (resolved_text cwd to)) × IsPath b.path
      stays e =
          let same : t.operand ≡ b = cc in
          let there : b.path ≡ (resolved_text cwd to) = ap (λ (z : Operand). z.path) (sym same) ∙ aim.path in
          (there, subst IsPath (sym there) aim.is_path)

      inside : (name : List ℕ) → last_of a.path ≡ Some name → child t.operand name ≡ Ok b → (b.path ≡ child_text (resolved_text cwd to) name) × IsPath b.path
      inside name last e =
          let l = limits (limit_fault (child_text t.operand.path name)) (t.operand.name ++ 47 ∷ name) (child_text t.operand.path name) b e in
          let there : b.path ≡ child_text (resolved_text cwd to) name = l.0 ∙ ap (λ (z : List ℕ). child_text z name) aim.path in
          let fits = within_limits (child_text (resolved_text cwd to) name) (ap (λ (z : List ℕ). limit_fault (child_text z name)) (sym aim.path) ∙ l.1) in
          let all = All-push IsComponent (components (resolved_text cwd to)) name aim.is_path.names (component_of a.path name is_path (sym last)) in
          (there, subst IsPath (sym there) (IsPath-spelled (components (resolved_text cwd to) ++ name ∷ []) all (subst (λ (cs : Names). length cs ≤ 64) (components-path_text (components (resolved_text cwd to) ++ name ∷ []) all) fits.1) fits.0))

      by_kind : (k : Kind) → t.is_dir ≡ is_dir k → (dot : Bool) → (o : Option (List ℕ)) → last_of a.path ≡ o → placed_in t a t.is_dir dot o ≡ Ok b → (b.path ≡ target_of k (cond dot None o) (resolved_text cwd to)) × IsPath b.path
      by_kind kind.Dir is true o last e = stays (ap (λ x. placed_in t a x true o) (sym is) ∙ e)
      by_kind kind.Dir is false None last e = absurd (let f : placed_in t a true false None ≡ Ok b = ap (λ x. placed_in t a x false None) (sym is) ∙ e in cc)
      by_kind kind.Dir is false (Some name) last e = inside name last (ap (λ x. placed_in t a x false (Some name)) (sym is) ∙ e)
      by_kind kind.File is dot o last e = stays (ap (λ x. placed_in t a x dot o) (sym is) ∙ e)
      by_kind kind.Link is dot o last e = stays (ap (λ x. placed_in t a x dot o) (sym is) ∙ e)
      by_kind kind.Absent is dot o last e = stays (ap (λ x. placed_in t a x dot o) (sym is) ∙ e)

  -- ---- the command

  module _ (low : IsTree s.tree) (how : Manner) (tree : IsTreeCopy how) (d : Changes) (good : Good s low d) (from to : List ℕ) where
    abbrev p : List ℕ
    p = resolved_text cwd from

    abbrev goal : List ℕ
    goal = target_of (kind_there s d (resolved_text cwd to)) (name_kept from (last_of p)) (resolved_text cwd to)

    abbrev R : Changes → Type 0
    R x = CopiedTree s low d x (components p) (components goal)

    abbrev deeper : Operand → Operand → Tries
    deeper = copy_beneath (codes "cp") how levels

    abbrev copies : Operand → Operand → Tries
    copies a b = copy_top (codes "cp") deeper how a b

    rises_copies : (a b : Operand) → Rises (copies a b)
    rises_copies a b = subst (λ (m : Tries). Rises m) (sym (tree.top (codes "cp") deeper a b)) (rises_node (codes "cp") how tree deeper a b (rises_beneath (codes "cp") how tree levels))

    node_copied : (t : Target) (a b : Operand) → Aimed d to t → (IsUnder goal p → ⊥) → operand_at cwd from ≡ Ok a → destination t a ≡ Ok b → LeavesZ s d (copies a b) R
    node_copied t a b aim not_over is_a is_b =
        let l = located_path cwd from a home is_a in
        let settled = settled_at t a b is_b in
        let placed = placed_path d to t a b aim (subst IsPath (sym l.0) l.1) settled.1 in
        let there : b.path ≡ goal = placed.0 ∙ ap (λ (z : List ℕ). target_of (kind_there s d (resolved_text cwd to)) (name_kept a.name (last_of z)) (resolved_text cwd to)) l.0
        ∙ ap (λ (z : List ℕ). target_of (kind_there s d (resolved_text cwd to)) (name_kept z (last_of p)) (resolved_text cwd to)) (named_so cwd from a is_a) in
        let is_goal : IsPath goal = subst IsPath there placed.1 in
        let isnt : is_within p goal ≡ false = ap (λ (z : List ℕ). is_within z goal) (sym l.0) ∙ ap (is_within a.path) (sym there) ∙ settled.0 in
        subst (λ (m : Tries). LeavesZ s d m R) (sym (tree.top (codes "cp") deeper a b))
        (node_z s low (codes "cp") how tree deeper (rises_beneath (codes "cp") how tree levels) (beneath_z s low (codes "cp") how tree levels) a b (components p) (components goal) (l.0 ∙ l.1.spelled) (there ∙ is_goal.spelled)
        (recursion_from_All IsComponent (components p) l.1.names) (recursion_from_All IsComponent (components goal) is_goal.names) (subst IsPath is_goal.spelled is_goal)
        (apart_paths p goal l.1 is_goal (λ under. (let is = within_under p goal l.1 under in cc)) not_over) d good)

    act_z : (what : Act) (t : Target) → ((o : Operand) → act_on (codes "cp") what o ≡ copy_operand (codes "cp") how t o) → Aimed d to t → (IsUnder goal p → ⊥) → LeavesZ s d (act_for (codes "cp") what cwd from) R
    unfolding act_for copy_operand
    act_z what t acts aim not_over =
        then_z s d (gives (operand_at cwd from)) (λ o z. (operand_at cwd from ≡ Ok o) × (z ≡ d)) (λ o. act_on (codes "cp") what o) R (gives_z s d (operand_at cwd from)) (λ o z first.
        subst (λ (m : Tries). LeavesZ s z m R) (sym (acts o))
        (then_z s z (gives (destination t o)) (λ b y. (destination t o ≡ Ok b) × (y ≡ z)) (λ b. copies o b) R (gives_z s z (destination t o)) (λ b y second.
        subst (λ (v : Changes). LeavesZ s v (copies o b) R) (sym (second.1 ∙ first.1)) (node_copied t o b aim not_over first.0 second.0))
        (λ b. rises_copies o b)))
        (λ o. subst (λ (m : Tries). Rises m) (sym (acts o)) (rises_then (gives (destination t o)) (λ b. copies o b) (rises_gives (destination t o)) (λ b. rises_copies o b)))

    rises_act : (what : Act) (t : Target) → ((o : Operand) → act_on (codes "cp") what o ≡ copy_operand (codes "cp") how t o) → (name : List ℕ) → Rises (act_for (codes "cp") what cwd name)
    unfolding act_for copy_operand
    rises_act what t acts name = rises_then (gives (operand_at cwd name)) (λ o. act_on (codes "cp") what o) (rises_gives (operand_at cwd name)) (λ o.
        subst (λ (m : Tries). Rises m) (sym (acts o)) (rises_then (gives (destination t o)) (λ b. copies o b) (rises_gives (destination t o)) (λ b. rises_copies o b)))

    one_z : (act : List ℕ → Tries) (z : Changes) → LeavesZ s z (act from) R → LeavesZ s z (ending (each (codes "cp") act (from ∷ []))) R
    unfolding steps.done
    one_z act z h = ending_z s z (each (codes "cp") act (from ∷ [])) R (then_z s z (caught (codes "cp") (act from)) (λ _. R) (λ u. each (codes "cp") act []) R (caught_z s z (codes "cp") (act from) R h) (λ u y r x w same v e clean. subst R (sym same) r) (λ u x o w. omega arith))

    all_z : (IsUnder goal p → ⊥) → LeavesZ s d (copy_all (codes "cp") how cwd (from ∷ to ∷ [])) R
    all_z not_over =
        let c = copies_as how cwd from to in
        let one = λ (t : Target). ending (each (codes "cp") (act_for (codes "cp") (c.0 t) cwd) (from ∷ [])) in
        subst (λ (m : Tries). LeavesZ s d m R) (sym c.2) (then_z s d (target_at cwd false to) (λ t z. Aimed d to t × (z ≡ d)) one R (target_z d good.2 to)
        (λ t z aim. subst (λ (v : Changes). LeavesZ s v (one t) R) (sym aim.1) (one_z (act_for (codes "cp") (c.0 t) cwd) d (act_z (c.0 t) t (c.1 t) aim.0 not_over)))
        (λ t. rises_ending (each (codes "cp") (act_for (codes "cp") (c.0 t) cwd) (from ∷ [])) (rises_each (codes "cp") (act_for (codes "cp") (c.0 t) cwd) (from ∷ []) (rises_act (c.0 t) t (c.1 t)))))

-- ---- the law

ran_by : (r : Result (Unit {0} × Done) (ExecNo × Done)) (v : Workspace) (o : Oracle) (d : Done) → (go_on (left_by r) v (λ (e : Done). done (Some e)) o).0 ≡ Ok (Some d) → (p : Unit {0} × Done) × (r ≡ Ok p) × (p.1 ≡ d) × ((go_on (left_by r) v (λ (e : Done). done (Some e)) o).1 ≡ v)
unfolding done
ran_by (Ok p) v o d e = (p, refl, (let same : p.1 ≡ d = cc in same), refl)
ran_by (Err p) v o d e = absurd cc

abbrev words : List ℕ → List ℕ → List (List ℕ)
words from to = codes "cp" ∷ codes "-r" ∷ codes "--" ∷ from ∷ to ∷ []

abbrev runs : Manner → List ℕ → List ℕ → List ℕ → Action ExecNo (Option Done)
runs how cwd from to = command (caught (codes "cp") (copy_all (codes "cp") how cwd (from ∷ to ∷ []))) >>= (λ (d : Done). done (Some d))

runs_as : (cwd from to : List ℕ) → (how : Manner) × IsTreeCopy how × (utility (words from to) cwd ≡ runs how cwd from to)
unfolding utility_of utility_by read_options done ◌>>=◌
runs_as cwd from to = (_, record { deep = refl; files = λ a b. refl; stays = λ a. refl; top = λ u deeper a b. refl }, refl)

module _ (s : State) (w : Workspace) (none : NoLinks s w.changes) (cwd from to : List ℕ) where
  abbrev running : Result (Option Done) ExecNo × Workspace
  running = utility (words from to) cwd (snapshot s) w

  ended : (how : Manner) (d : Done) → (runs how cwd from to (snapshot s) w).0 ≡ Ok (Some d) → d.status ≡ 0 → (R : Changes → Type 0) → LeavesZ s w.changes (copy_all (codes "cp") how cwd (from ∷ to ∷ [])) R → R (runs how cwd from to (snapshot s) w).1.changes
  unfolding command ◌>>=◌
  ended how d e clean R h =
      let m = caught (codes "cp") (copy_all (codes "cp") how cwd (from ∷ to ∷ [])) in
      let r = ran_by (m nothing (snapshot s) w).0 (m nothing (snapshot s) w).1 (snapshot s) d e in
      let z = caught_z s w.changes (codes "cp") (copy_all (codes "cp") how cwd (from ∷ to ∷ [])) R h nothing w refl r.0 r.1 (ap (λ (x : Done). x.status) r.2 ∙ clean) in
      subst (λ (v : Workspace). R v.changes) (sym r.3) z

  pub cp_command : (d : Done) → AreWhole s w → IsPath cwd → running.0 ≡ Ok (Some d) → d.status ≡ 0 → (IsUnder (target s w cwd from to) (resolved_text cwd from) → ⊥) →
      IsCopied (tree_seen s w) (tree_seen s running.1) (resolved_text cwd from) (target s w cwd from to)
  cp_command d (low, whole, paths) home e clean not_over =
      let run = runs_as cwd from to in
      let how = run.0 in
      let R = λ (x : Changes). CopiedTree s low w.changes x (components (resolved_text cwd from)) (components (target s w cwd from to)) in
      let done_by = subst (λ (m : Action ExecNo (Option Done)). (m (snapshot s) w).0 ≡ Ok (Some d)) run.2 e in
      let z = ended how d done_by clean R (all_z s cwd home low how run.1 w.changes (whole, paths, none) from to not_over) in
      as_copied s low w.changes running.1.changes (resolved_text cwd from) (target s w cwd from to) (subst (λ (m : Action ExecNo (Option Done)). R (m (snapshot s) w).1.changes) (sym run.2) z)
