-- What rm and mkdir -p leave alone, on a state, whatever faults they have.
use Rattle.std.proofs.Common.{◌≡◌, ◌≢◌, ◌⊎◌, inl, inr, ℕ, ◌+◌, zero, suc, Bool, false, cond, List, [], ◌∷◌, ◌++◌, length, take, Option, Some, None, Result, Ok, Err, refl, sym, ap, subst, ◌∙◌, append_assoc, append-nil}
use Rattle.std.specs.Prelude.{All, IsSome, codes, option_map, filter_map}
use Rattle.std.specs.FinMap.{get, insert}
use Rattle.std.proofs.lemmas.List.Elements.{recursion_from_All, All-from_recursion}
use Rattle.em_base.proofs.Lemmas.{by_cases}
use Rattle.em_path.specs.Paths.{IsComponent, IsPath, path_text, components, child_text, parent_text, last_of}
use Rattle.em_path.specs.Reading.{limit_fault}
use Rattle.em_path.proofs.Lemmas.{split_last}
use Rattle.em_tree.specs.declared.node.Kind.{Kind}
use Rattle.em_tree.specs.declared.node.Kind.TheVariants as kind
use Rattle.em_tree.specs.declared.node.Node.{Node}
use Rattle.em_tree.specs.declared.node.Node.TheVariants.{Dir}
use Rattle.em_tree.specs.declared.state.State.{State}
use Rattle.em_tree.specs.Trees.{Table, Changes, IsTree, kind_of, link_of, laid_over}
use Rattle.em_tree.specs.Names.{children_of, in_dir}
use Rattle.em_tree.proofs.Laying.{changed-here}
use Rattle.em_tree.proofs.Naming.{IsNameList-names}
use Rattle.em_view.specs.declared.no.DeskNo.{DeskNo}
use Rattle.em_view.specs.declared.no.FileNo.TheVariants as file
use Rattle.em_view.specs.declared.done.Done.{Done}
use Rattle.em_view.specs.Actions.{Workspace, snapshot, go_on, ◌>>=◌, renamed}
use Rattle.em_view.specs.Held.{NamesPaths}
use Rattle.em_view.specs.Rows.{change_number, becomes, kind_at, link_at, names, remove, make_dir}
use Rattle.em_view.specs.Steps.{Steps, with_state, and_then, below, own, within}
use Rattle.em_view.specs.Steps as steps
use Rattle.em_view.proofs.Fitting.{laid_insert, tree_remove, paths_becomes}
use Rattle.em_utility.specs.declared.reason.Reason.TheVariants as reason
use Rattle.em_utility.specs.declared.operand.OperandNo.{OperandNo}
use Rattle.em_utility.specs.declared.operand.OperandNo.TheVariants.{Fault}
use Rattle.em_utility.specs.Operands.{refused, at, caught, each, Tries}
use Rattle.em_fileutil.specs.Spots.{fault, told, child, there_by, there, ending, levels}
use Rattle.em_fileutil.specs.Removing.{remove_child, remove_tree, absent, remove_by, remove_other, remove_past, remove_node, remove_beneath}
use Rattle.em_fileutil.specs.Making.{make_by, make_missing, make_under, make_all}
use Rattle.em_tree.specs.Resolving as way
use Rattle.em_tree.specs.Resolving.{met_by, first_under, first_link, above_only, on_way, links_in}
use Rattle.em_tree.specs.declared.way.Met.{Met}
use Rattle.std.specs.Option.{option_or}
use Rattle.em_laws.specs.Nodes.{tree_seen, HasNoLinksAbove}
use Rattle.em_laws.specs.Files.{AreWhole, under, IsUnder, IsOver, removed, made_all}
use Rattle.em_laws.proofs.Expanding.{kind_there, node_there, NoLinks}
use Rattle.em_laws.proofs.Changing.{same_key_or, here, elsewhere, becomes_here, elsewhere_else, some_there}
use Rattle.em_laws.proofs.Going.{Operand, Removal, Goes, goes_seq, link_same, names_same, still, goes_kind, goes_gives, goes_refuse, goes_done, goes_ran, goes_caught, goes_ending, becomes_plain}
use Rattle.em_laws.proofs.Filing.{operand, rm_law}
use Rattle.em_laws.proofs.Copying.{Names, AllC, allc_both, allc_front, spells, one_more, parent_path, limits, dir_some, stands_above, some_kind, kind_some}
use Rattle.em_laws.proofs.Calling.{remove_plain, make_ends}
use Rattle.em_laws.proofs.Allowing.{bare_by, dir_none, text_says, names_said}
use Rattle.em_laws.proofs.Linking.{plain_at, way_at, links_none}

here_now : (d : Changes) (t : Table) (p : List ℕ) (c : Option Node) → get (laid_over (insert d p c) t) p ≡ c
here_now d t p c = ap (λ (u : Table). get u p) (laid_insert d t p c) ∙ changed-here (laid_over d t) p c

module _ (s : State) where
  -- ---- mkdir -p

  -- nothing goes, and a node stays as it is where each directory on the way that is it, or stands
  -- right in it, was there
  abbrev Was : Changes → Names → List ℕ → Type 0
  Was d cs k = (front rest : Names) → cs ≡ front ++ rest → (path_text front ≡ k) ⊎ (parent_text (path_text front) ≡ Some k) → kind_there s d (path_text front) ≢ kind.Absent

  record Grows (cs : Names) (d x : Changes) : Type 0 where
    stays : (k : List ℕ) → IsSome (node_there s d k) → IsSome (node_there s x k)
    same : (k : List ℕ) → Was d cs k → node_there s x k ≡ node_there s d k

  grows_self : (cs : Names) (d : Changes) → Grows cs d d
  grows_self cs d = record { stays = λ k i. i; same = λ k h. refl }

  -- one directory is made at most
  record Makes (q : List ℕ) (d x : Changes) : Type 0 where
    stays : (k : List ℕ) → IsSome (node_there s d k) → IsSome (node_there s x k)
    same : (k : List ℕ) → ((q ≡ k) ⊎ (parent_text q ≡ Some k) → kind_there s d q ≢ kind.Absent) → node_there s x k ≡ node_there s d k

  makes_self : (q : List ℕ) (d : Changes) → Makes q d d
  makes_self q d = record { stays = λ k i. i; same = λ k h. refl }

  made_one : (q dir : List ℕ) (d x : Changes) (n : ℕ) → parent_text q ≡ Some dir → kind_there s d q ≡ kind.Absent → x ≡ becomes q (Some (Dir n)) (Some dir) n d → Makes q d x
  made_one q dir d x n up none is = record {
    stays = λ k i. here k (eq_or k q) (eq_or k dir) i;
    same = λ k h. apart k (λ e. h (inl (sym e)) none) (λ e. h (inr (up ∙ ap Some (sym e))) none);
  }
    where
      apart : (k : List ℕ) → k ≢ q → k ≢ dir → node_there s x k ≡ node_there s d k
      apart k not_q not_dir = ap (λ (c : Changes). node_there s c k) is ∙ elsewhere_else s.tree d q (Some (Dir n)) dir n k not_q not_dir

      eq_or : (a b : List ℕ) → (a ≡ b) ⊎ (a ≢ b)
      eq_or a b = same_key_or a b ((a ≡ b) ⊎ (a ≢ b)) (λ e. inl e) (λ h. inr h)

      some_then : (o : Option Node) (m : Node) → o ≡ Some m → IsSome o
      some_then o m e = subst (λ (z : Option Node). IsSome z) (sym e) refl

      at_q : node_there s x q ≡ Some (Dir n)
      at_q = ap (λ (c : Changes). node_there s c q) is ∙ becomes_here s.tree d q (Some (Dir n)) (Some dir) n (λ r e. up ∙ e)

      at_dir : node_there s x dir ≡ Some (Dir n)
      at_dir = ap (λ (c : Changes). node_there s c dir) is ∙ here_now (insert d q (Some (Dir n))) s.tree dir (Some (Dir n))

      here : (k : List ℕ) → (k ≡ q) ⊎ (k ≢ q) → (k ≡ dir) ⊎ (k ≢ dir) → IsSome (node_there s d k) → IsSome (node_there s x k)
      here k (inl e) b i = subst (λ (z : List ℕ). IsSome (node_there s x z)) (sym e) (some_then (node_there s x q) (Dir n) at_q)
      here k (inr a) (inl e) i = subst (λ (z : List ℕ). IsSome (node_there s x z)) (sym e) (some_then (node_there s x dir) (Dir n) at_dir)
      here k (inr a) (inr b) i = subst (λ (o : Option Node). IsSome o) (sym (apart k a b)) i

  -- where no link is seen, none is afterwards, and so much is changed
  abbrev Bare : (Changes → Changes → Type 0) → Changes → Changes → Type 0
  Bare T d x = NoLinks s d → NoLinks s x × T d x

  bare_self : (T : Changes → Changes → Type 0) → ((d : Changes) → T d d) → (d : Changes) → Bare T d d
  bare_self T self d none = (none, self d)

  make_makes : (q : List ℕ) (w : Workspace) → Bare (Makes q) w.changes (make_dir q (snapshot s) w).1.changes
  make_makes q w none = elim (make_ends s w none q).it as (λ _. NoLinks s (make_dir q (snapshot s) w).1.changes × Makes q w.changes (make_dir q (snapshot s) w).1.changes) [
    | inl good ↦ let absent = dir_none (kind_there s w.changes q) (option_map (kind_there s w.changes) (parent_text q)) good.0.0 in (
      subst (NoLinks s) (sym good.1.2.changes) (becomes_plain s w.changes q (Some (Dir (change_number w.base w.job (w.count + 1)))) (parent_text q) (change_number w.base w.job (w.count + 1)) (λ e. cc) none),
      by_parent (parent_text q) refl absent.0 absent.1 good.1.2.changes,
    )
    | inr bad ↦ subst (λ (x : Changes). NoLinks s x × Makes q w.changes x) (sym (ap (λ (v : Workspace). v.changes) bad.2)) (none, makes_self q w.changes)
  ]
    where
      by_parent : (o : Option (List ℕ)) → parent_text q ≡ o → kind_there s w.changes q ≡ kind.Absent → option_map (kind_there s w.changes) o ≡ Some kind.Dir
          → (make_dir q (snapshot s) w).1.changes ≡ becomes q (Some (Dir (change_number w.base w.job (w.count + 1)))) o (change_number w.base w.job (w.count + 1)) w.changes → Makes q w.changes (make_dir q (snapshot s) w).1.changes
      by_parent None up absent dir is = absurd cc
      by_parent (Some dir) up absent is_dir is = made_one q dir w.changes (make_dir q (snapshot s) w).1.changes (change_number w.base w.job (w.count + 1)) up absent is

  missing_makes : (name q : List ℕ) → Goes s (Bare (Makes q)) (make_missing name q)
  unfolding make_missing at below
  missing_makes name q = goes_seq s (λ d y. y ≡ d) (Bare (Makes q)) (Bare (Makes q)) (at name (kind_at q)) (λ k. make_by name q k)
      (λ d y e. still s (Bare (Makes q)) (bare_self (Makes q) (makes_self q)) d y e) (λ d y x e m. subst (λ (c : Changes). Bare (Makes q) c x) e m)
      (goes_kind s (λ d y. y ≡ d) (λ d. refl) name q) (λ k. by_kind k)
    where
      by_kind : (k : Kind) → Goes s (Bare (Makes q)) (make_by name q k)
      by_kind kind.Absent = λ x w. make_makes q w
      by_kind kind.File = goes_refuse s (Bare (Makes q)) (bare_self (Makes q) (makes_self q)) (Fault name (reason.File file.NotDir))
      by_kind kind.Dir = goes_done s (Bare (Makes q)) (bare_self (Makes q) (makes_self q))
      by_kind kind.Link = goes_done s (Bare (Makes q)) (bare_self (Makes q) (makes_self q))

  was_front : (d : Changes) (front : Names) (c k : List ℕ) → Was d (front ++ c ∷ []) k → Was d front k
  was_front d front c k h first rest e which = h first (rest ++ c ∷ []) (ap (λ (zs : Names). zs ++ c ∷ []) e ∙ append_assoc first rest (c ∷ [])) which

  grows_front : (d y : Changes) (front : Names) (c : List ℕ) → Grows front d y → Grows (front ++ c ∷ []) d y
  grows_front d y front c g = record { stays = g.stays; same = λ k h. g.same k (was_front d front c k h) }

  grows_more : (d y x : Changes) (front : Names) (c : List ℕ) → Grows front d y → Makes (path_text (front ++ c ∷ [])) y x → Grows (front ++ c ∷ []) d x
  grows_more d y x front c g m = record {
    stays = λ k i. m.stays k (g.stays k i);
    same = λ k h. m.same k (λ which. some_kind (node_there s y q) (g.stays q (kind_some (node_there s d q) (h (front ++ c ∷ []) [] (sym (append-nil (front ++ c ∷ []))) which)))) ∙ g.same k (was_front d front c k h);
  }
    where
      q : List ℕ
      q = path_text (front ++ c ∷ [])

  all_grows : (left : ℕ) (cs : Names) (name : List ℕ) → AllC cs → Goes s (Bare (Grows cs)) (make_all left name (path_text cs))
  all_grows zero cs name all = goes_done s (Bare (Grows cs)) (bare_self (Grows cs) (grows_self cs))
  all_grows (suc left) [] name all = goes_done s (Bare (Grows [])) (bare_self (Grows []) (grows_self []))
  all_grows (suc left) (c ∷ cs) name all =
      let l = split_last c cs in
      let front = take (length cs) (c ∷ cs) in
      let all_then = subst AllC l.1 all in
      let q = path_text (front ++ l.0 ∷ []) in
      subst (λ (us : Names). Goes s (Bare (Grows us)) (make_all (suc left) name (path_text us))) (sym l.1)
      (subst (λ (o : Option (List ℕ)). Goes s (Bare (Grows (front ++ l.0 ∷ []))) (make_under o (make_all left name) name q)) (sym (parent_path front l.0 all_then))
      (goes_seq s (Bare (Grows front)) (Bare (Makes q)) (Bare (Grows (front ++ l.0 ∷ []))) (make_all left name (path_text front)) (λ u. make_missing name q)
      (λ d y g none. (let a = g none in (a.0, grows_front d y front l.0 a.1))) (λ d y x g m none. (let a = g none in let b = m a.0 in (b.0, grows_more d y x front l.0 a.1 b.1)))
      (all_grows left front name (allc_front front (l.0 ∷ []) all_then)) (λ u. missing_makes name q)))

  pub mkdir_stays : (w : Workspace) → NoLinks s w.changes → (d : Done) (name p k : List ℕ) → IsPath p → ((q : List ℕ) → IsOver p q → (q ≡ k) ⊎ (parent_text q ≡ Some k) → kind_of (get (tree_seen s w) q) ≢ kind.Absent)
      → get (tree_seen s (made_all s w d name p).1) k ≡ get (tree_seen s w) k
  mkdir_stays w none d name p k path was =
      let all = recursion_from_All IsComponent (components p) path.names in
      let g = (subst (λ (q : List ℕ). Goes s (Bare (Grows (components p))) (make_all levels name q)) (sym path.spelled) (all_grows levels (components p) name all)) d w none in
      g.1.same k (λ front rest e which. was (path_text front) (front, rest, e, refl) which)

pub mkdir_same : (s : State) (w : Workspace) → NoLinks s w.changes → (d : Done) (name p k : List ℕ) → IsPath p → ((q : List ℕ) → IsOver p q → (q ≡ k) ⊎ (parent_text q ≡ Some k) → kind_of (get (tree_seen s w) q) ≢ kind.Absent)
    → get (tree_seen s (made_all s w d name p).1) k ≡ get (tree_seen s w) k
mkdir_same s w none d name p k = mkdir_stays s w none d name p k

-- ---- the way to an operand of rm

module _ (ls ms : List ℕ → Option (List ℕ)) (fewer : (q : List ℕ) → ls q ≡ None → ms q ≡ None) where
  first_none : (a b : Option Met) → option_or a b ≡ None → (a ≡ None) × (b ≡ None)
  first_none None b e = (refl, e)
  first_none (Some m) b e = absurd cc

  none_met : (dir p : List ℕ) (o : Option (List ℕ)) → met_by dir p o ≡ None → o ≡ None
  none_met dir p None e = refl
  none_met dir p (Some text) e = absurd cc

  -- where there are no more links, none is met later
  still_under : (above more : List ℕ → Option Met) (p : List ℕ) → ((q : List ℕ) → above q ≡ None → more q ≡ None) → (o : Option (List ℕ)) → first_under ls above p o ≡ None → first_under ms more p o ≡ None
  still_under above more p h None e = refl
  still_under above more p h (Some dir) e =
      let both = first_none (above dir) (met_by dir p (ls p)) e in
      rw (h dir both.0, fewer p (none_met dir p (ls p) both.1)) refl

  still_clear : (left : ℕ) (p : List ℕ) → first_link ls left p ≡ None → first_link ms left p ≡ None
  still_clear zero p e = refl
  still_clear (suc left) p e = still_under (first_link ls left) (first_link ms left) p (still_clear left) (parent_text p) e

  -- nor on a shorter walk
  shorter_clear : (left : ℕ) (p : List ℕ) → first_link ls (suc left) p ≡ None → first_link ms left p ≡ None
  shorter_clear zero p e = refl
  shorter_clear (suc left) p e = still_under (first_link ls (suc left)) (first_link ms left) p (shorter_clear left) (parent_text p) e

-- ---- rm

abbrev Apart : List ℕ → List ℕ → Type 0
Apart p k = (IsUnder p k → ⊥) × (parent_text p ≢ Some k)

under_self : (p k : List ℕ) → IsPath p → k ≡ p → IsUnder p k
under_self p k path e = ([], All-from_recursion IsComponent [] tt, e ∙ path.spelled ∙ ap path_text (sym (append-nil (components p))))

module _ (s : State) (low : IsTree s.tree) where
  abbrev Good : Changes → Type 0
  Good d = IsTree (laid_over d s.tree) × NamesPaths d

  abbrev links : Changes → List ℕ → Option (List ℕ)
  links d = links_in (laid_over d s.tree)

  -- no directory above the path is a link
  abbrev Clear : Changes → List ℕ → Type 0
  Clear d p = on_way (links d) false p ≡ None

  -- nor is the path
  abbrev Unlinked : Changes → List ℕ → Type 0
  Unlinked d p = Clear d p × (links d p ≡ None)

  abbrev Fewer : Changes → Changes → Type 0
  Fewer d x = (q : List ℕ) → links d q ≡ None → links x q ≡ None

  clear_then : (d x : Changes) (p : List ℕ) → Fewer d x → Clear d p → Clear x p
  clear_then d x p few e = by_parent (parent_text p) e
    where
      by_parent : (o : Option (List ℕ)) → above_only (first_link (links d) way.levels) o ≡ None → above_only (first_link (links x) way.levels) o ≡ None
      by_parent None e = refl
      by_parent (Some dir) e = still_clear (links d) (links x) few way.levels dir e

  free_then : (d x : Changes) (p : List ℕ) → Fewer d x → Unlinked d p → Unlinked x p
  free_then d x p few free = (clear_then d x p few free.0, few p free.1)

  -- the whole way to what isn't a link
  free_way : (d : Changes) (p : List ℕ) → Unlinked d p → first_link (links d) way.levels p ≡ None
  free_way d p (clear, none) = by_parent (parent_text p) clear
    where
      by_parent : (o : Option (List ℕ)) → above_only (first_link (links d) way.levels) o ≡ None → first_under (links d) (first_link (links d) 64) p o ≡ None
      by_parent None e = refl
      by_parent (Some dir) e = rw (shorter_clear (links d) (links d) (λ q f. f) 64 dir e, none) refl

  child_clear : (d : Changes) (p q : List ℕ) → parent_text q ≡ Some p → Unlinked d p → Clear d q
  child_clear d p q up free = ap (above_only (first_link (links d) way.levels)) up ∙ free_way d p free

  record Spared (p : List ℕ) (d x : Changes) : Type 0 where
    good : Good x
    fewer : Fewer d x
    same : (k : List ℕ) → Apart p k → node_there s x k ≡ node_there s d k

  abbrev Spares : List ℕ → Changes → Changes → Type 0
  Spares p d x = Clear d p → Good d → Spared p d x

  -- where the path is no link
  abbrev SparesIn : List ℕ → Changes → Changes → Type 0
  SparesIn p d x = Unlinked d p → Good d → Spared p d x

  spared_self : (p : List ℕ) (d : Changes) → Good d → Spared p d d
  spared_self p d good = record { good = good; fewer = λ q e. e; same = λ k h. refl }

  spared_then : (p : List ℕ) (d y x : Changes) → Spared p d y → Spared p y x → Spared p d x
  spared_then p d y x a b = record { good = b.good; fewer = λ q e. b.fewer q (a.fewer q e); same = λ k h. b.same k h ∙ a.same k h }

  inside_self : (p : List ℕ) (d : Changes) → SparesIn p d d
  inside_self p d free good = spared_self p d good

  goes_then : {E A B : Type 0} (p : List ℕ) (m : Steps Done E A) (k : A → Steps Done E B) → Goes s (SparesIn p) m → ((a : A) → Goes s (SparesIn p) (k a)) → Goes s (SparesIn p) (and_then m k)
  goes_then p m k h g = goes_seq s (SparesIn p) (SparesIn p) (SparesIn p) m k (λ d y f. f)
      (λ d y x f e free good. (let a = f free good in let b = e (free_then d y p a.fewer free) a.good in spared_then p d y x a b)) h g

  -- no link comes with a path that goes
  fewer_gone : (d : Changes) (p above : List ℕ) (n : ℕ) → Fewer d (becomes p None (Some above) n d)
  fewer_gone d p above n q e = same_key_or q above (links (becomes p None (Some above) n d) q ≡ None)
      (λ is. ap (λ (z : List ℕ). link_of (node_there s (becomes p None (Some above) n d) z)) is ∙ ap link_of (here (insert d p None) s.tree above (Some (Dir n))))
      (λ isnt. same_key_or q p (links (becomes p None (Some above) n d) q ≡ None)
      (λ is. ap link_of (elsewhere (insert d p None) s.tree above (Some (Dir n)) q isnt) ∙ ap (λ (z : List ℕ). link_of (node_there s (insert d p None) z)) is ∙ ap link_of (here d s.tree p None))
      (λ other. ap link_of (elsewhere_else s.tree d p None above n q other isnt) ∙ e))

  taken_spares : (p above : List ℕ) (d x : Changes) (n : ℕ) → Good d → parent_text p ≡ Some above → kind_there s d p ≢ kind.Absent → ((k : List ℕ) → parent_text k ≡ Some p → node_there s d k ≡ None) → x ≡ becomes p None (Some above) n d → Spared p d x
  taken_spares p above d x n (whole, paths) up there bare is =
      let some = some_there s d (node_there s d p) there in
      let path = whole.paths p some in
      let dir = whole.paths above (dir_some (node_there s d above) (whole.parents p above some up)) in
      subst (Spared p d) (sym is) (record {
        good = (tree_remove s.tree d p above n whole up some bare, paths_becomes p None (Some above) n d paths path dir);
        fewer = fewer_gone d p above n;
        same = λ k apart. elsewhere_else s.tree d p None above n k (λ e. apart.0 (under_self p k path e)) (λ e. apart.1 (up ∙ ap Some (sym e)));
      })

  remove_spares : (p : List ℕ) (w : Workspace) → Spares p w.changes (remove p (snapshot s) w).1.changes
  remove_spares p w clear good = elim (remove_plain s w p (plain_at s w p clear)).it as (λ _. Spared p w.changes (remove p (snapshot s) w).1.changes) [
    | inl well ↦ taken_spares p well.1.2.0 w.changes (remove p (snapshot s) w).1.changes (change_number w.base w.job (w.count + 1)) good well.1.2.1 well.0.1 (bare_by s w p 0 (kind_there s w.changes p) (low, good.0, good.1) well.0 refl) well.1.2.2.changes
    | inr bad ↦ subst (Spared p w.changes) (sym (ap (λ (v : Workspace). v.changes) bad.2)) (spared_self p w.changes good)
  ]

  goes_remove : (name p : List ℕ) → Goes s (Spares p) (at name (remove p))
  unfolding at below
  goes_remove name p x w = remove_spares p w

  goes_gone : (name p : List ℕ) → Goes s (SparesIn p) (at name (remove p))
  goes_gone name p x w free = goes_remove name p x w free.0

  -- the names of a directory are components
  told_names : (k : Kind) (ns ms : List (List ℕ)) → All IsComponent ns → Some ms ≡ in_dir k ns → All IsComponent ms
  told_names kind.Absent ns ms h e = absurd cc
  told_names kind.File ns ms h e = absurd cc
  told_names kind.Link ns ms h e = absurd cc
  told_names kind.Dir ns ms h e = subst (λ (xs : List (List ℕ)). All IsComponent xs) (let same : ms ≡ ns = cc in sym same) h

  names_on : (o : Operand) (k : List (List ℕ) → Tries) (x : Done) (d : Changes) (r : Result (Option (List (List ℕ))) DeskNo) (v : Workspace) → v.changes ≡ d → ((ns : List (List ℕ)) → r ≡ Ok (Some ns) → Unlinked d o.path → Good d → All IsComponent ns)
      → ((ns : List (List ℕ)) → All IsComponent ns → Goes s (SparesIn o.path) (k ns)) → SparesIn o.path d (go_on (with_state (there_by o r) x) v (λ z. k z.0 z.1) (snapshot s)).1.changes
  names_on o k x d (Ok (Some ns)) v same all h free good = subst (λ (c : Changes). SparesIn o.path c (k ns x (snapshot s) v).1.changes) same (h ns (all ns refl free good) x v) free good
  names_on o k x d (Ok None) v same all h free good = subst (Spared o.path d) (sym same) (spared_self o.path d good)
  names_on o k x d (Err e) v same all h free good = subst (Spared o.path d) (sym same) (spared_self o.path d good)

  names_then : (o : Operand) (k : List (List ℕ) → Tries) → ((ns : List (List ℕ)) → All IsComponent ns → Goes s (SparesIn o.path) (k ns)) → Goes s (SparesIn o.path) (and_then (there o (names o.path)) k)
  unfolding and_then ◌>>=◌ there
  names_then o k h x w = names_on o k x w.changes (names o.path (snapshot s) w).0 (names o.path (snapshot s) w).1 (names_same s o.path w)
      (λ ns e free good. told_names (kind_there s w.changes o.path) (filter_map last_of (children_of (tree_seen s w) o.path)) ns (IsNameList-names (tree_seen s w) o.path good.0).components
      (names_said s w o.path (way_at s w o.path (free_way w.changes o.path free)) (low, good.0, good.1) (Some ns) e)) h

  -- what stands apart from a path stands apart from what is in it
  child_apart : (ps : Names) (c k : List ℕ) → AllC ps → IsComponent c → Apart (path_text ps) k → Apart (path_text (ps ++ c ∷ [])) k
  child_apart ps c k all name apart =
      let whole = allc_both ps (c ∷ []) all (name, tt) in (
        λ h. apart.0 (
          c ∷ h.0,
          All-from_recursion IsComponent (c ∷ h.0) (name, recursion_from_All IsComponent h.0 h.1),
          h.2 ∙ ap (λ (us : Names). path_text (us ++ h.0)) (spells (ps ++ c ∷ []) whole) ∙ ap path_text (one_more ps c h.0) ∙ ap (λ (us : Names). path_text (us ++ c ∷ h.0)) (sym (spells ps all)),
        ),
        λ up. apart.0 ([], All-from_recursion IsComponent [] tt, (let same : path_text ps ≡ k = (let z : Some (path_text ps) ≡ Some k = sym (parent_path ps c whole) ∙ up in cc) in sym same ∙ ap path_text (sym (append-nil ps)) ∙ ap (λ (us : Names). path_text (us ++ [])) (sym (spells ps all)))),
      )

  child_spares : (p q : List ℕ) (ps : Names) (c : List ℕ) → p ≡ path_text ps → q ≡ path_text (ps ++ c ∷ []) → AllC ps → IsComponent c → (d x : Changes) → Spares q d x → SparesIn p d x
  child_spares p q ps c is be all name d x h free good =
      let up : parent_text q ≡ Some p = ap parent_text be ∙ parent_path ps c (allc_both ps (c ∷ []) all (name, tt)) ∙ ap Some (sym is) in
      let r = h (child_clear d p q up free) good in
      record { good = r.good; fewer = r.fewer; same = λ k apart. r.same k (subst (λ (z : List ℕ). Apart z k) (sym be) (child_apart ps c k all name (subst (λ (z : List ℕ). Apart z k) is apart))) }

  module _ (deeper : Operand → Tries) (below_it : (i : Operand) (ps : Names) → i.path ≡ path_text ps → AllC ps → Goes s (Spares i.path) (deeper i)) (o : Operand) (ps : Names) (is : o.path ≡ path_text ps) (all : AllC ps) where
    child_on : (c : List ℕ) (x : Done) (w : Workspace) (r : Result Operand OperandNo) → IsComponent c → child o c ≡ r → SparesIn o.path w.changes (go_on (with_state r x) w (λ z. deeper z.0 z.1) (snapshot s)).1.changes
    child_on c x w (Ok i) name e =
        let spelled : child_text o.path c ≡ path_text (ps ++ c ∷ []) = ap (λ (t : List ℕ). path_text (components t ++ c ∷ [])) is ∙ ap (λ (cs : Names). path_text (cs ++ c ∷ [])) (spells ps all) in
        let path = (limits (limit_fault (child_text o.path c)) (o.name ++ 47 ∷ c) (child_text o.path c) i e).0 ∙ spelled in
        child_spares o.path i.path ps c is path all name w.changes (deeper i x (snapshot s) w).1.changes (below_it i (ps ++ c ∷ []) path (allc_both ps (c ∷ []) all (name, tt)) x w)
    child_on c x w (Err f) name e = inside_self o.path w.changes

    child_goes : (c : List ℕ) → IsComponent c → Goes s (SparesIn o.path) (remove_child deeper o c)
    unfolding and_then ◌>>=◌ own
    child_goes c name x w = child_on c x w (child o c) name refl

    each_goes : (cs : Names) → AllC cs → Goes s (SparesIn o.path) (each (codes "rm") (remove_child deeper o) cs)
    each_goes [] h = goes_ran s (SparesIn o.path) (inside_self o.path)
    each_goes (c ∷ cs) h = goes_then o.path (caught (codes "rm") (remove_child deeper o c)) (λ u. each (codes "rm") (remove_child deeper o) cs) (goes_caught s (SparesIn o.path) (codes "rm") (remove_child deeper o c) (child_goes c h.0)) (λ u. each_goes cs h.1)

    tree_goes : Goes s (SparesIn o.path) (remove_tree deeper o)
    unfolding remove_tree
    tree_goes = names_then o (λ inside. and_then (ending (each (codes "rm") (remove_child deeper o) inside)) (λ u. at o.name (remove o.path))) (λ ns h.
        goes_then o.path (ending (each (codes "rm") (remove_child deeper o) ns)) (λ u. at o.name (remove o.path)) (goes_ending s (SparesIn o.path) (each (codes "rm") (remove_child deeper o) ns) (each_goes ns (recursion_from_All IsComponent ns h))) (λ u. goes_gone o.name o.path))

    by_goes : (how : Removal) (k : Kind) → Goes s (SparesIn o.path) (remove_by deeper how o k)
    by_goes how kind.Absent = goes_gives s (SparesIn o.path) (inside_self o.path) (absent how.force o)
    by_goes how kind.File = goes_gone o.name o.path
    by_goes how kind.Link = goes_gone o.name o.path
    by_goes how kind.Dir = by_cases how.recursive (λ t. Goes s (SparesIn o.path) (cond t (remove_tree deeper o) (steps.refuse (told o file.IsDir)))) (λ _. tree_goes) (λ _. goes_refuse s (SparesIn o.path) (inside_self o.path) (told o file.IsDir))

    other_goes : (how : Removal) → Goes s (SparesIn o.path) (remove_other deeper how o)
    unfolding remove_other
    other_goes how = goes_then o.path (at o.name (kind_at o.path)) (λ k. remove_by deeper how o k) (goes_kind s (SparesIn o.path) (inside_self o.path) o.name o.path) (λ k. by_goes how k)

    -- what the question whether it is a link has told
    past_on : (how : Removal) (x : Done) (d : Changes) (r : Result (Option (List ℕ)) DeskNo) (v : Workspace) → v.changes ≡ d → ((l : Option (List ℕ)) → r ≡ Ok l → Clear d o.path → l ≡ links d o.path)
        → Spares o.path d (go_on (with_state (renamed (refused o.name) r) x) v (λ z. remove_past deeper how o z.0 z.1) (snapshot s)).1.changes
    past_on how x d (Err e) v same said clear good = subst (Spared o.path d) (sym same) (spared_self o.path d good)
    past_on how x d (Ok (Some text)) v same said clear good = subst (λ (c : Changes). Spares o.path c (at o.name (remove o.path) x (snapshot s) v).1.changes) same (goes_remove o.name o.path x v) clear good
    past_on how x d (Ok None) v same said clear good = subst (λ (c : Changes). SparesIn o.path c (remove_other deeper how o x (snapshot s) v).1.changes) same (other_goes how x v) (clear, sym (said None refl clear)) good

    node_goes : (how : Removal) → Goes s (Spares o.path) (remove_node deeper how o)
    unfolding remove_node and_then ◌>>=◌ at below
    node_goes how x w = past_on how x w.changes (link_at o.path (snapshot s) w).0 (link_at o.path (snapshot s) w).1 (link_same s o.path w) (λ l e clear. (text_says s w o.path (plain_at s w o.path clear) l e).0)

  rm_goes : (how : Removal) (n : ℕ) (o : Operand) (ps : Names) → o.path ≡ path_text ps → AllC ps → Goes s (Spares o.path) (remove_beneath how n o)
  rm_goes how zero o ps is all = goes_refuse s (Spares o.path) (λ d clear good. spared_self o.path d good) (fault o reason.BadPath)
  rm_goes how (suc n) o ps is all = node_goes (remove_beneath how n) (rm_goes how n) o ps is all how

-- ---- the laws of rm

abbrev removal : Bool → Bool → Removal
removal force recursive = record { force = force; recursive = recursive }

module _ (s : State) (w : Workspace) (d : Done) (force recursive : Bool) (n : ℕ) (name p : List ℕ) (clear : HasNoLinksAbove s w p) (whole : AreWhole s w) (path : IsPath p) where
  rm_spared : Spared s whole.0 p w.changes (removed s w d force recursive n name p).1.changes
  rm_spared = rm_goes s whole.0 (removal force recursive) n (operand name p) (components p) path.spelled (recursion_from_All IsComponent (components p) path.names) d w clear (whole.1, whole.2)

  gone_below : (k : List ℕ) → get (tree_seen s (removed s w d force recursive n name p).1) p ≡ None → IsUnder p k → (o : Option Node) → get (tree_seen s (removed s w d force recursive n name p).1) k ≡ o → o ≡ None
  gone_below k gone under None e = refl
  gone_below k gone (rel, all, is) (Some node) e =
      let t = tree_seen s (removed s w d force recursive n name p).1 in
      let names_all = allc_both (components p) rel (recursion_from_All IsComponent (components p) path.names) (recursion_from_All IsComponent rel all) in
      let here : IsSome (get t (path_text (components p ++ rel))) = subst (λ (z : List ℕ). IsSome (get t z)) is (subst (λ (z : Option Node). IsSome z) (sym e) refl) in
      let above = stands_above t rm_spared.good.0 rel (components p) names_all here in
      absurd (let z : None ≡ Some node = no_some (get t p) node gone (subst (λ (q : List ℕ). IsSome (get t q)) (sym path.spelled) above) in cc)
    where
      no_some : (a : Option Node) (m : Node) → a ≡ None → IsSome a → ◌≡◌ {A = Option Node} None (Some m)
      no_some None m h i = absurd cc
      no_some (Some x) m h i = absurd cc

pub rm_below_law : (s : State) (w : Workspace) → NoLinks s w.changes → (d : Done) (force recursive : Bool) (n : ℕ) (name p : List ℕ) (r : Unit {0} × Done) (k : List ℕ) → AreWhole s w → IsPath p → (removed s w d force recursive n name p).0 ≡ Ok r
    → IsUnder p k → get (tree_seen s (removed s w d force recursive n name p).1) k ≡ None
rm_below_law s w none d force recursive n name p r k whole path e under =
    gone_below s w d force recursive n name p (links_none s w none p).0 whole path k (rm_law s w none d force recursive n name p r e) under (get (tree_seen s (removed s w d force recursive n name p).1) k) refl

pub rm_others_law : (s : State) (w : Workspace) (d : Done) (force recursive : Bool) (n : ℕ) (name p k : List ℕ) → HasNoLinksAbove s w p → AreWhole s w → IsPath p → ¬ IsUnder p k → parent_text p ≢ Some k
    → get (tree_seen s (removed s w d force recursive n name p).1) k ≡ get (tree_seen s w) k
rm_others_law s w d force recursive n name p k clear whole path not_under not_above = (rm_spared s w d force recursive n name p clear whole path).same k (not_under, not_above)
