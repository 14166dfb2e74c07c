-- What pathname expansion gives on a state.
use Rattle.std.proofs.Common.{◌≡◌, ◌≢◌, ◌⊎◌, inl, inr, ℕ, zero, suc, ◌+◌, ◌-◌, ◌<◌, ◌||◌, Bool, true, false, not, cond, eqb, List, [], ◌∷◌, ◌++◌, map, length, get_or, Option, Some, None, Result, Ok, Err, arith, refl, sym, ap, subst, ◌∙◌, append_assoc, append-nil}
use Rattle.std.specs.Prelude.{◌==◌, ◌↔◌, All, Contains, nat_lt, option_map, unwrap_or}
use Rattle.std.specs.FinMap.{get}
use Rattle.std.specs.List.{AllByRecursion, filter, filter_map, flat_map, slice_split}
use Rattle.std.specs.List.Sorted.{IsStrictlySortedBy}
use Rattle.std.specs.Ordering.{nat_cmp}
use Rattle.std.specs.Str.{bytes_eq}
use Rattle.std.specs.Cmp.Lexicographic.{slice_cmp, nat_list_cmp_total}
use Rattle.std.proofs.lemmas.Bool.{eqb-true, eq-eqb, ne_eqb, lt-ltb, and_parts}
use Rattle.std.proofs.lemmas.List.Elements.{recursion_from_All, All-from_recursion, filter-append}
use Rattle.std.proofs.lemmas.List.Splits.{slice_split_none}
use Rattle.std.proofs.lemmas.Slice.Eq.{bytes_eq-Decides}
use Rattle.em_base.proofs.Lemmas.{by_cases, exact, in_order_rises, in_order_has}
use Rattle.em_path.specs.declared.path.PathNo.{PathNo}
use Rattle.em_path.specs.Paths.{root_text}
use Rattle.em_path.specs.Reading.{read_fault, resolved_text}
use Rattle.em_tree.specs.declared.node.Kind.{Kind}
use Rattle.em_tree.specs.declared.node.Kind.TheVariants as kind
use Rattle.em_tree.specs.declared.node.Node.{Node}
use Rattle.em_tree.specs.declared.node.Node.TheVariants.{File, Dir, Link}
use Rattle.em_tree.specs.declared.way.Way.{Way}
use Rattle.em_tree.specs.declared.way.Way.TheVariants.{To}
use Rattle.em_tree.specs.declared.way.Led.{Led}
use Rattle.em_tree.specs.declared.state.State.{State}
use Rattle.em_tree.specs.Trees.{Changes, kind_of, link_of, laid_over}
use Rattle.em_tree.specs.Names.{names_of}
use Rattle.em_tree.specs.Resolving.{led, links_in}
use Rattle.em_tree.proofs.Laying.{over}
use Rattle.em_tree.proofs.Lawful.{get-laid_over}
use Rattle.em_tree.proofs.Resolving.{no_links}
use Rattle.em_view.specs.declared.no.DeskNo.{DeskNo}
use Rattle.em_view.specs.declared.no.DeskNo.TheVariants as no
use Rattle.em_view.specs.Actions.{Workspace, snapshot, Action, go_on, ◌>>=◌, done, ask, mine, spend}
use Rattle.em_view.specs.Names.{with_own, names_size}
use Rattle.em_view.specs.Walking.{link_by, link_below, resolve}
use Rattle.em_view.specs.Rows.{blocks, size_of, is_dir, kind_below, kind_to, kind_at, told_names, amend, made_names, other_names, names_below, names_to, names, link_to, link_at}
use Rattle.em_view.specs.Rows as rows
use Rattle.em_view.proofs.Looking.{seen_kind}
use Rattle.em_view.proofs.Leading.{leads_laid}
use Rattle.em_glob.specs.declared.glyph.Glyph.{Glyph}
use Rattle.em_glob.specs.Patterns.{Piece, Matches, fits, pieces, is_pattern, bytes_of}
use Rattle.em_pathname.specs.Walking.{is_slash, components, begins_with, start, name_below, found_by, found, is_hidden, shows, listed, search, present, look_up_by, look_up, in_dir, in_each, walk, sorted, matching_names}
use Rattle.em_laws.specs.Expanded.{names_by, names_seen, IsShown, Suits, Leads, Begins}
use Rattle.em_laws.proofs.Splitting.{split_both}

-- a name on the way, with its path
abbrev ItemOf : {X : Type 0} → List X → Type 0
ItemOf {X} xs = X

abbrev Found : Type 0
Found = ItemOf (start [] [])

-- ---- what actions give on a state, that change nothing

module _ (s : State) (d : Changes) where
  abbrev pub Gives : {A : Type 0} → Action DeskNo A → (A → Type 0) → Type 0
  Gives {A} m P = (w : Workspace) → w.changes ≡ d → (a : A) → (m (snapshot s) w).0 ≡ Ok a → P a × ((m (snapshot s) w).1.changes ≡ d)

  go_further : {A B : Type 0} (r : Result A DeskNo) (w : Workspace) (P : A → Type 0) (k : A → Action DeskNo B) (Q : B → Type 0) → ((a : A) → r ≡ Ok a → P a × (w.changes ≡ d)) → ((a : A) → P a → Gives (k a) Q) →
      (b : B) → (go_on r w k (snapshot s)).0 ≡ Ok b → Q b × ((go_on r w k (snapshot s)).1.changes ≡ d)
  go_further (Ok a) w P k Q h g b e = let f = h a refl in g a f.0 w f.1 b e
  go_further (Err x) w P k Q h g b e = absurd cc

  pub gives_then : {A B : Type 0} (m : Action DeskNo A) (P : A → Type 0) (k : A → Action DeskNo B) (Q : B → Type 0) → Gives m P → ((a : A) → P a → Gives (k a) Q) → Gives (m >>= k) Q
  unfolding ◌>>=◌
  gives_then m P k Q h g w same b e = go_further (m (snapshot s) w).0 (m (snapshot s) w).1 P k Q (λ a is. h w same a is) g b e

  pub gives_done : {A : Type 0} (P : A → Type 0) (a : A) → P a → Gives (done a) P
  unfolding done
  gives_done P a p w same b e = (subst P (let is : a ≡ b = cc in is) p, same)

  pub gives_spend : (n : ℕ) → Gives (spend n) (λ _. Unit {0})
  unfolding spend
  gives_spend n w same a e = (tt, by_cases (nat_lt w.fuel n) (λ t. (let z : Result (Unit {0}) DeskNo × Workspace = cond t (Err no.Spent, w) (Ok tt, record w { fuel = w.fuel - n }) in z.1.changes ≡ d)) (λ _. same) (λ _. same))

  abbrev pub kind_there : List ℕ → Kind
  kind_there p = kind_of (get (laid_over d s.tree) p)

  pub gives_kind_below : (p : List ℕ) → Gives (kind_below p) (λ k. k ≡ kind_there p)
  gives_kind_below p w same k e =
      let seen = seen_kind s w p in
      let is : k ≡ kind_of (get (laid_over w.changes s.tree) p) = (let f : ◌≡◌ {A = Result Kind DeskNo} (Ok k) (Ok (kind_of (get (laid_over w.changes s.tree) p))) = sym e ∙ seen.0 in cc) in
      (is ∙ ap (λ (c : Changes). kind_of (get (laid_over c s.tree) p)) same, seen.1 ∙ same)

  -- ---- where a path leads

  abbrev pub node_there : List ℕ → Option Node
  node_there p = get (laid_over d s.tree) p

  -- where it leads in the tree that is seen
  abbrev pub led_there : Bool → List ℕ → Led
  led_there last p = led (links_in (laid_over d s.tree)) last p

  -- it leads to itself
  abbrev pub plainly : List ℕ → Led
  plainly p = record { way = To p; followed = 0 }

  abbrev pub NoLinks : Type 0
  NoLinks = (q : List ℕ) → kind_there q ≢ kind.Link

  pub no_text : (o : Option Node) → kind_of o ≢ kind.Link → link_of o ≡ None
  no_text None h = refl
  no_text (Some (File body stamp)) h = refl
  no_text (Some (Dir stamp)) h = refl
  no_text (Some (Link text stamp)) h = absurd (h refl)

  pub led_plain : NoLinks → (last : Bool) (p : List ℕ) → led_there last p ≡ plainly p
  led_plain none last p = no_links (links_in (laid_over d s.tree)) (λ q. no_text (node_there q) (none q)) last p

  pub gives_resolve : (last : Bool) (p : List ℕ) → Gives (resolve last p) (λ f. f ≡ led_there last p)
  gives_resolve last p w same f e =
      let l = leads_laid s w last p in
      let is : f ≡ led (links_in (laid_over w.changes s.tree)) last p = (let g : ◌≡◌ {A = Result Led DeskNo} (Ok f) (Ok (led (links_in (laid_over w.changes s.tree)) last p)) = sym e ∙ l.0 in cc) in
      (is ∙ ap (λ (c : Changes). led (links_in (laid_over c s.tree)) last p) same, ap (λ (v : Workspace). v.changes) l.1 ∙ same)

  -- a reading tells what is told of the path behind the links
  pub gives_reading : {A : Type 0} (last : Bool) (p : List ℕ) (to : Way → Action DeskNo A) (cost : A → ℕ → ℕ) (P : A → Type 0) → Gives (to (led_there last p).way) P
      → Gives (spend 1 >>= (λ u. resolve last p >>= (λ f. to f.way >>= (λ a. spend (cost a f.followed) >>= (λ v. done a))))) P
  gives_reading last p to cost P h =
      gives_then (spend 1) (λ _. Unit {0}) (λ u. resolve last p >>= (λ f. to f.way >>= (λ a. spend (cost a f.followed) >>= (λ v. done a)))) P (gives_spend 1) (λ _ _.
      gives_then (resolve last p) (λ f. f ≡ led_there last p) (λ f. to f.way >>= (λ a. spend (cost a f.followed) >>= (λ v. done a))) P (gives_resolve last p) (λ f is.
      gives_then (to f.way) P (λ a. spend (cost a f.followed) >>= (λ v. done a)) P (subst (λ (l : Led). Gives (to l.way) P) (sym is) h) (λ a so.
      gives_then (spend (cost a f.followed)) (λ _. Unit {0}) (λ v. done a) P (gives_spend (cost a f.followed)) (λ _ _. gives_done P a so))))

  pub gives_plainly : {A : Type 0} → NoLinks → (last : Bool) (p : List ℕ) (to : Way → Action DeskNo A) (cost : A → ℕ → ℕ) (P : A → Type 0) → Gives (to (To p)) P
      → Gives (spend 1 >>= (λ u. resolve last p >>= (λ f. to f.way >>= (λ a. spend (cost a f.followed) >>= (λ v. done a))))) P
  gives_plainly none last p to cost P h = gives_reading last p to cost P (subst (λ (l : Led). Gives (to l.way) P) (sym (led_plain none last p)) h)

  pub gives_kind : NoLinks → (p : List ℕ) → Gives (kind_at p) (λ k. k ≡ kind_there p)
  unfolding kind_at
  gives_kind none p = gives_plainly none true p kind_to (λ k n. n) (λ k. k ≡ kind_there p) (gives_kind_below p)

  link_seen : (w : Workspace) (p : List ℕ) (m : Option (Option Node)) (n : Option Node) → over m (get s.tree p) ≡ n → ((link_by m p (snapshot s) w).0 ≡ Ok (link_of n)) × ((link_by m p (snapshot s) w).1.changes ≡ w.changes)
  unfolding done ask ◌>>=◌
  link_seen w p None n e = (ap (λ (x : Option Node). let r : Result (Option (List ℕ)) DeskNo = Ok (link_of x) in r) e, refl)
  link_seen w p (Some c) n e = (ap (λ (x : Option Node). let r : Result (Option (List ℕ)) DeskNo = Ok (link_of x) in r) e, refl)

  pub gives_link_below : (p : List ℕ) → Gives (link_below p) (λ b. b ≡ link_of (node_there p))
  unfolding link_below mine ◌>>=◌
  gives_link_below p w same b e =
      let seen = link_seen w p (get w.changes p) (get (laid_over w.changes s.tree) p) (sym (get-laid_over w.changes s.tree p)) in
      let is : b ≡ link_of (get (laid_over w.changes s.tree) p) = (let f : ◌≡◌ {A = Result (Option (List ℕ)) DeskNo} (Ok b) (Ok (link_of (get (laid_over w.changes s.tree) p))) = sym e ∙ seen.0 in cc) in
      (is ∙ ap (λ (c : Changes). link_of (get (laid_over c s.tree) p)) same, seen.1 ∙ same)

  pub gives_link_at : (p : List ℕ) → led_there false p ≡ plainly p → Gives (link_at p) (λ t. t ≡ link_of (node_there p))
  unfolding link_at
  gives_link_at p plain = gives_reading false p link_to (λ t n. blocks (size_of t) + n) (λ t. t ≡ link_of (node_there p)) (subst (λ (l : Led). Gives (link_to l.way) (λ t. t ≡ link_of (node_there p))) (sym plain) (gives_link_below p))

  -- there is no link at a path
  pub gives_link : NoLinks → (p : List ℕ) → Gives (link_at p) (λ t. t ≡ None)
  gives_link none p w same t e = let r = gives_link_at p (led_plain none false p) w same t e in (r.0 ∙ no_text (node_there p) (none p), r.1)

  own_names : (m : Option (Option Node)) (p : List ℕ) → Gives (rows.names_by m p) (λ ns. ns ≡ names_by m s d p)
  unfolding made_names other_names told_names amend ask done ◌>>=◌
  own_names (Some n) p w same ns e = by_cases (is_dir n)
      (λ t. (let z : Action DeskNo (Option (List (List ℕ))) = cond t (made_names p) (done None) in (z (snapshot s) w).0 ≡ Ok ns → (ns ≡ cond t (Some (with_own d p (unwrap_or (names_of s.tree p) []))) None) × ((z (snapshot s) w).1.changes ≡ d)))
      (λ _ f. (sym (let g : Some (with_own w.changes p (unwrap_or (names_of s.tree p) [])) ≡ ns = cc in sym (ap (λ (c : Changes). Some (with_own c p (unwrap_or (names_of s.tree p) []))) same) ∙ g), same))
      (λ _ f. ((let g : None ≡ ns = cc in sym g), same)) e
  own_names None p w same ns e = (sym (let g : option_map (with_own w.changes p) (names_of s.tree p) ≡ ns = cc in sym (ap (λ (c : Changes). option_map (with_own c p) (names_of s.tree p)) same) ∙ g), same)

  pub gives_names_below : (p : List ℕ) → Gives (names_below p) (λ ns. ns ≡ names_seen s d p)
  unfolding names_below mine ◌>>=◌
  gives_names_below p w same ns e =
      let own = own_names (get w.changes p) p w same ns e in
      (own.0 ∙ ap (λ (c : Changes). names_by (get c p) s d p) same, own.1)

  pub gives_names : NoLinks → (p : List ℕ) → Gives (names p) (λ ns. ns ≡ names_seen s d p)
  unfolding names
  gives_names none p = gives_plainly none true p names_to (λ ns n. blocks (names_size ns) + n) (λ ns. ns ≡ names_seen s d p) (gives_names_below p)

  -- ---- the steps of an expansion

  module _ (cwd : List ℕ) where
    abbrev looked : Option Found → List Found
    looked None = []
    looked (Some f) = present (kind_there f.path) f

    abbrev below : List Glyph → Found → List Found
    below c dir = cond (is_pattern c) (listed cwd dir c (names_seen s d dir.path)) (looked (found cwd (name_below dir.name (bytes_of c))))

    gives_look : NoLinks → (o : Option Found) → Gives (look_up_by o) (λ fs. fs ≡ looked o)
    gives_look none None = gives_done (λ fs. fs ≡ []) [] refl
    gives_look none (Some f) = gives_then (kind_at f.path) (λ k. k ≡ kind_there f.path) (λ k. done (present k f)) (λ fs. fs ≡ present (kind_there f.path) f) (gives_kind none f.path) (λ k is. gives_done (λ fs. fs ≡ present (kind_there f.path) f) (present k f) (ap (λ k. present k f) is))

    gives_search : NoLinks → (c : List Glyph) (dir : Found) → Gives (search cwd c dir) (λ fs. fs ≡ listed cwd dir c (names_seen s d dir.path))
    unfolding search
    gives_search none c dir = gives_then (names dir.path) (λ ns. ns ≡ names_seen s d dir.path) (λ ns. done (listed cwd dir c ns)) (λ fs. fs ≡ listed cwd dir c (names_seen s d dir.path)) (gives_names none dir.path) (λ ns is. gives_done (λ fs. fs ≡ listed cwd dir c (names_seen s d dir.path)) (listed cwd dir c ns) (ap (listed cwd dir c) is))

    gives_in : NoLinks → (c : List Glyph) (dir : Found) → Gives (in_dir cwd c dir) (λ fs. fs ≡ below c dir)
    unfolding look_up
    gives_in none c dir = by_cases (is_pattern c) (λ t. Gives (cond t (search cwd c dir) (look_up cwd c dir)) (λ fs. fs ≡ cond t (listed cwd dir c (names_seen s d dir.path)) (looked (found cwd (name_below dir.name (bytes_of c))))))
        (λ _. gives_search none c dir)
        (λ _. gives_look none (found cwd (name_below dir.name (bytes_of c))))

    gives_each : NoLinks → (c : List Glyph) (so_far dirs : List Found) → Gives (in_each cwd c so_far dirs) (λ fs. fs ≡ so_far ++ flat_map (below c) dirs)
    gives_each none c so_far [] = gives_done (λ fs. fs ≡ so_far ++ []) so_far (sym (append-nil so_far))
    gives_each none c so_far (dir ∷ dirs) = gives_then (in_dir cwd c dir) (λ fs. fs ≡ below c dir) (λ more. in_each cwd c (so_far ++ more) dirs) (λ fs. fs ≡ so_far ++ flat_map (below c) (dir ∷ dirs)) (gives_in none c dir) (λ more is.
        let whole : (so_far ++ more) ++ flat_map (below c) dirs ≡ so_far ++ (below c dir ++ flat_map (below c) dirs) = append_assoc so_far more (flat_map (below c) dirs) ∙ ap (λ (m : List Found). so_far ++ (m ++ flat_map (below c) dirs)) is in
        λ w same fs e. let r = gives_each none c (so_far ++ more) dirs w same fs e in (r.0 ∙ whole, r.1))

    abbrev walked : List (List Glyph) → List Found → List Found
    walked [] dirs = dirs
    walked (c ∷ cs) dirs = walked cs (flat_map (below c) dirs)

    gives_walk : NoLinks → (cs : List (List Glyph)) (dirs : List Found) → Gives (walk cwd cs dirs) (λ fs. fs ≡ walked cs dirs)
    gives_walk none [] dirs = gives_done (λ fs. fs ≡ dirs) dirs refl
    gives_walk none (c ∷ cs) dirs = gives_then (in_each cwd c [] dirs) (λ fs. fs ≡ flat_map (below c) dirs) (λ next. walk cwd cs next) (λ fs. fs ≡ walked cs (flat_map (below c) dirs)) (gives_each none c [] dirs) (λ next is w same fs e.
        let r = gives_walk none cs next w same fs e in (r.0 ∙ ap (walked cs) is, r.1))

    abbrev names_of_found : List Found → List (List ℕ)
    names_of_found fs = map (λ f. f.name) fs

    abbrev ends : List Glyph → List (List ℕ)
    ends gs = names_of_found (walked (components gs) (start cwd gs))

    gives_matching : NoLinks → (gs : List Glyph) → Gives (matching_names cwd gs) (λ out. out ≡ sorted (ends gs))
    unfolding matching_names
    gives_matching none gs = gives_then (walk cwd (components gs) (start cwd gs)) (λ fs. fs ≡ walked (components gs) (start cwd gs)) (λ end. done (sorted (names_of_found end))) (λ out. out ≡ sorted (ends gs)) (gives_walk none (components gs) (start cwd gs)) (λ end is. gives_done (λ out. out ≡ sorted (ends gs)) (sorted (names_of_found end)) (ap (λ (fs : List Found). sorted (names_of_found fs)) is))

-- ---- what is in a list

abbrev In : {X : Type 0} → X → List X → Type 0
In x [] = ⊥
In x (y ∷ ys) = (x ≡ y) ⊎ In x ys

in_contains : {X : Type 0} (x : X) (xs : List X) → In x xs → Contains xs x
in_contains x [] h = absurd h
in_contains x (y ∷ ys) (inl e) = (0, omega arith, sym e)
in_contains x (y ∷ ys) (inr h) = let c = in_contains x ys h in (suc c.0, (let l = c.1 in omega arith), c.2)

contains_in : {X : Type 0} (x : X) (xs : List X) → Contains xs x → In x xs
contains_in x xs c = at x xs c.0 c.1 c.2
  where
    at : {X : Type 0} (x : X) (xs : List X) (k : ℕ) → k < length xs → get_or xs k x ≡ x → In x xs
    at x [] k lt e = absurd (omega arith)
    at x (y ∷ ys) zero lt e = inl (sym e)
    at x (y ∷ ys) (suc k) lt e = inr (at x ys k (omega arith) e)

in_left : {X : Type 0} (x : X) (xs ys : List X) → In x xs → In x (xs ++ ys)
in_left x [] ys h = absurd h
in_left x (z ∷ zs) ys (inl e) = inl e
in_left x (z ∷ zs) ys (inr h) = inr (in_left x zs ys h)

in_right : {X : Type 0} (x : X) (xs ys : List X) → In x ys → In x (xs ++ ys)
in_right x [] ys h = h
in_right x (z ∷ zs) ys h = inr (in_right x zs ys h)

in_either : {X : Type 0} (x : X) (xs ys : List X) → In x (xs ++ ys) → In x xs ⊎ In x ys
in_either x [] ys h = inr h
in_either x (z ∷ zs) ys (inl e) = inl (inl e)
in_either x (z ∷ zs) ys (inr h) = elim (in_either x zs ys h) as (λ _. In x (z ∷ zs) ⊎ In x ys) [ inl a ↦ inl (inr a) | inr b ↦ inr b ]

in_parts : {X Y : Type 0} (f : X → List Y) (y : Y) (xs : List X) → In y (flat_map f xs) → (x : X) × In x xs × In y (f x)
in_parts f y [] h = absurd h
in_parts {X} f y (x ∷ xs) h = elim (in_either y (f x) (flat_map f xs) h) as (λ _. (z : X) × In z (x ∷ xs) × In y (f z)) [
  | inl a ↦ (x, inl refl, a)
  | inr b ↦ let more = in_parts f y xs b in (more.0, inr more.1, more.2)
]

parts_in : {X Y : Type 0} (f : X → List Y) (y : Y) (x : X) (xs : List X) → In x xs → In y (f x) → In y (flat_map f xs)
parts_in f y x [] h i = absurd h
parts_in f y x (z ∷ zs) (inl e) i = in_left y (f z) (flat_map f zs) (subst (λ v. In y (f v)) e i)
parts_in f y x (z ∷ zs) (inr h) i = in_right y (f z) (flat_map f zs) (parts_in f y x zs h i)

in_map : {X Y : Type 0} (f : X → Y) (y : Y) (xs : List X) → In y (map f xs) → (x : X) × In x xs × (y ≡ f x)
in_map f y [] h = absurd h
in_map f y (x ∷ xs) (inl e) = (x, inl refl, e)
in_map f y (x ∷ xs) (inr h) = let more = in_map f y xs h in (more.0, inr more.1, more.2)

map_in : {X Y : Type 0} (f : X → Y) (x : X) (xs : List X) → In x xs → In (f x) (map f xs)
map_in f x [] h = absurd h
map_in f x (z ∷ zs) (inl e) = inl (ap f e)
map_in f x (z ∷ zs) (inr h) = inr (map_in f x zs h)

abbrev put : {Y : Type 0} → Option Y → List Y → List Y
put None ys = ys
put (Some y) ys = y ∷ ys

filter_put : {X Y : Type 0} (f : X → Option Y) (o : Option Y) (x : X) (xs : List X) → f x ≡ o → filter_map f (x ∷ xs) ≡ put o (filter_map f xs)
filter_put f None x xs e = rw e refl
filter_put f (Some y) x xs e = rw e refl

in_put : {Y : Type 0} (o : Option Y) (y : Y) (ys : List Y) → In y (put o ys) → (o ≡ Some y) ⊎ In y ys
in_put None y ys h = inr h
in_put (Some z) y ys (inl e) = inl (ap Some (sym e))
in_put (Some z) y ys (inr h) = inr h

put_first : {Y : Type 0} (o : Option Y) (y : Y) (ys : List Y) → o ≡ Some y → In y (put o ys)
put_first None y ys e = absurd cc
put_first (Some z) y ys e = inl (let same : z ≡ y = cc in sym same)

put_later : {Y : Type 0} (o : Option Y) (y : Y) (ys : List Y) → In y ys → In y (put o ys)
put_later None y ys h = h
put_later (Some z) y ys h = inr h

in_mapped : {X Y : Type 0} (f : X → Option Y) (y : Y) (xs : List X) → In y (filter_map f xs) → (x : X) × In x xs × (f x ≡ Some y)
in_mapped f y [] h = absurd h
in_mapped {X} f y (x ∷ xs) h = elim (in_put (f x) y (filter_map f xs) (subst (In y) (filter_put f (f x) x xs refl) h)) as (λ _. (z : X) × In z (x ∷ xs) × (f z ≡ Some y)) [
  | inl e ↦ (x, inl refl, e)
  | inr b ↦ let more = in_mapped f y xs b in (more.0, inr more.1, more.2)
]

mapped_in : {X Y : Type 0} (f : X → Option Y) (y : Y) (x : X) (xs : List X) → In x xs → f x ≡ Some y → In y (filter_map f xs)
mapped_in f y x [] h e = absurd h
mapped_in f y x (z ∷ zs) (inl same) e = subst (In y) (sym (filter_put f (f z) z zs refl)) (put_first (f z) y (filter_map f zs) (ap f (sym same) ∙ e))
mapped_in f y x (z ∷ zs) (inr h) e = subst (In y) (sym (filter_put f (f z) z zs refl)) (put_later (f z) y (filter_map f zs) (mapped_in f y x zs h e))

in_filtered : {X : Type 0} (p : X → Bool) (x : X) (xs : List X) → In x (filter p xs) → In x xs × (p x ≡ true)
in_filtered p x [] h = absurd h
in_filtered p x (z ∷ zs) h = by_cases (p z) (λ t. p z ≡ t → In x (cond t (z ∷ filter p zs) (filter p zs)) → In x (z ∷ zs) × (p x ≡ true))
    (λ _ is i. elim i as (λ _. In x (z ∷ zs) × (p x ≡ true)) [ inl e ↦ (inl e, ap p e ∙ is) | inr j ↦ let more = in_filtered p x zs j in (inr more.0, more.1) ])
    (λ _ isnt i. let more = in_filtered p x zs i in (inr more.0, more.1)) refl h

filtered_in : {X : Type 0} (p : X → Bool) (x : X) (xs : List X) → In x xs → p x ≡ true → In x (filter p xs)
filtered_in p x [] h is = absurd h
filtered_in p x (z ∷ zs) (inl e) is = let t : p z ≡ true = ap p (sym e) ∙ is in rw t (inl e)
filtered_in p x (z ∷ zs) (inr h) is = by_cases (p z) (λ t. In x (cond t (z ∷ filter p zs) (filter p zs)))
    (λ _. inr (filtered_in p x zs h is))
    (λ _. filtered_in p x zs h is)

-- ---- names that are given

abbrev Told : Type 0
Told = (ps : List Piece) (name : List ℕ) → (fits ps name ≡ true → Matches ps name) × (Matches ps name → fits ps name ≡ true)

abbrev spot : List ℕ → List ℕ → Found
spot cwd name = record { name = name; path = resolved_text cwd name }

found_is : (cwd name : List ℕ) (g : Found) → found cwd name ≡ Some g → (read_fault cwd name ≡ None) × (g ≡ spot cwd name)
found_is cwd name g h = by (read_fault cwd name) refl h
  where
    by : (o : Option PathNo) → read_fault cwd name ≡ o → found_by o cwd name ≡ Some g → (read_fault cwd name ≡ None) × (g ≡ spot cwd name)
    by None e h = (e, (let same : spot cwd name ≡ g = cc in sym same))
    by (Some x) e h = absurd cc

is_found : (cwd name : List ℕ) → read_fault cwd name ≡ None → found cwd name ≡ Some (spot cwd name)
is_found cwd name h = ap (λ (o : Option PathNo). found_by o cwd name) h

shown_true : (c : List Glyph) (n : List ℕ) → (not (is_hidden n) || begins_with 46 c) ≡ true → IsShown c n
shown_true c [] h = inl tt
shown_true [] (b ∷ bs) h = by_cases (eqb b 46) (λ t. eqb b 46 ≡ t → (not t || false) ≡ true → IsShown [] (b ∷ bs)) (λ _ _ h. absurd cc) (λ _ isnt h. inl (λ e. (let t : eqb b 46 ≡ true = eq-eqb b 46 e in cc))) refl h
shown_true (g ∷ gs) (b ∷ bs) h = by_cases (eqb b 46) (λ t. eqb b 46 ≡ t → (not t || eqb g.byte 46) ≡ true → IsShown (g ∷ gs) (b ∷ bs)) (λ _ _ h. inr (g, gs, refl, eqb-true g.byte 46 h)) (λ _ isnt h. inl (λ e. (let t : eqb b 46 ≡ true = eq-eqb b 46 e in cc))) refl h

or_true : (a : Bool) → (a || true) ≡ true
or_true true = refl
or_true false = refl

true_shown : (c : List Glyph) (n : List ℕ) → IsShown c n → (not (is_hidden n) || begins_with 46 c) ≡ true
true_shown c [] h = refl
true_shown c (b ∷ bs) (inl h) = rw (ne_eqb b 46 h) refl
true_shown c (b ∷ bs) (inr h) = rw (ap (begins_with 46) h.2 ∙ eq-eqb h.0.byte 46 h.3) (or_true (not (b == 46)))

shows_is : Told → (c : List Glyph) (n : List ℕ) → shows c n ≡ true → IsShown c n × Matches (pieces c) n
shows_is told c n h = let two = and_parts _ _ h in (shown_true c n two.0, (told (pieces c) n).0 two.1)

is_shows : Told → (c : List Glyph) (n : List ℕ) → IsShown c n → Matches (pieces c) n → shows c n ≡ true
is_shows told c n a b = rw (true_shown c n a, (told (pieces c) n).1 b) refl

module _ (told : Told) (s : State) (d : Changes) (cwd : List ℕ) where
  -- one component in one directory
  abbrev One : List Glyph → Found → Found → Type 0
  One c dir g = (n : List ℕ) × (read_fault cwd (name_below dir.name n) ≡ None) × Suits (is_pattern c) s d dir.path c n (resolved_text cwd (name_below dir.name n)) × (g ≡ spot cwd (name_below dir.name n))

  abbrev OneBy : Bool → List Glyph → Found → Found → Type 0
  OneBy t c dir g = (n : List ℕ) × (read_fault cwd (name_below dir.name n) ≡ None) × Suits t s d dir.path c n (resolved_text cwd (name_below dir.name n)) × (g ≡ spot cwd (name_below dir.name n))

  listed_one : (c : List Glyph) (dir g : Found) (o : Option (List (List ℕ))) → names_seen s d dir.path ≡ o → In g (listed cwd dir c o) → OneBy true c dir g
  listed_one c dir g None e h = absurd h
  listed_one c dir g (Some ns) e h =
      let m = in_mapped (λ n. found cwd (name_below dir.name n)) g (filter (shows c) ns) h in
      let f = in_filtered (shows c) m.0 ns m.1 in
      let there = found_is cwd (name_below dir.name m.0) g m.2 in
      let shown = shows_is told c m.0 f.1 in
      (m.0, there.0, ((ns, e, in_contains m.0 ns f.0), shown.0, shown.1), there.1)

  one_listed : (c : List Glyph) (dir g : Found) → OneBy true c dir g → In g (listed cwd dir c (names_seen s d dir.path))
  one_listed c dir g (n, free, (named, shown, match), is) =
      let ns = named.0 in
      rw (named.1, is) (mapped_in (λ m. found cwd (name_below dir.name m)) (spot cwd (name_below dir.name n)) n (filter (shows c) ns) (filtered_in (shows c) n ns (contains_in n ns named.2) (is_shows told c n shown match)) (is_found cwd (name_below dir.name n) free))

  in_present : (k : Kind) (f g : Found) → In g (present k f) → (k ≢ kind.Absent) × (g ≡ f)
  in_present kind.Absent f g h = absurd h
  in_present kind.File f g (inl e) = (λ x. cc, e)
  in_present kind.File f g (inr h) = absurd h
  in_present kind.Dir f g (inl e) = (λ x. cc, e)
  in_present kind.Dir f g (inr h) = absurd h
  in_present kind.Link f g (inl e) = (λ x. cc, e)
  in_present kind.Link f g (inr h) = absurd h

  present_in : (k : Kind) (f : Found) → k ≢ kind.Absent → In f (present k f)
  present_in kind.Absent f h = absurd (h refl)
  present_in kind.File f h = inl refl
  present_in kind.Dir f h = inl refl
  present_in kind.Link f h = inl refl

  looked_one : (c : List Glyph) (dir g : Found) (o : Option Found) → found cwd (name_below dir.name (bytes_of c)) ≡ o → In g (looked s d cwd o) → OneBy false c dir g
  looked_one c dir g None e h = absurd h
  looked_one c dir g (Some f) e h =
      let at = found_is cwd (name_below dir.name (bytes_of c)) f e in
      let p = in_present (kind_there s d f.path) f g h in
      (bytes_of c, at.0, (refl, λ none. p.0 (ap (λ (x : Found). kind_there s d x.path) at.1 ∙ none)), p.1 ∙ at.1)

  one_looked : (c : List Glyph) (dir g : Found) → OneBy false c dir g → In g (looked s d cwd (found cwd (name_below dir.name (bytes_of c))))
  one_looked c dir g (n, free, (same, there), is) =
      let f = spot cwd (name_below dir.name n) in
      let at : found cwd (name_below dir.name (bytes_of c)) ≡ Some f = ap (λ m. found cwd (name_below dir.name m)) (sym same) ∙ is_found cwd (name_below dir.name n) free in
      rw (at, is) (present_in (kind_there s d f.path) f there)

  below_one : (c : List Glyph) (dir g : Found) → In g (below s d cwd c dir) → One c dir g
  below_one c dir g h = by_cases (is_pattern c) (λ t. In g (cond t (listed cwd dir c (names_seen s d dir.path)) (looked s d cwd (found cwd (name_below dir.name (bytes_of c))))) → OneBy t c dir g)
      (λ _ i. listed_one c dir g (names_seen s d dir.path) refl i)
      (λ _ i. looked_one c dir g (found cwd (name_below dir.name (bytes_of c))) refl i) h

  one_below : (c : List Glyph) (dir g : Found) → One c dir g → In g (below s d cwd c dir)
  one_below c dir g h = by_cases (is_pattern c) (λ t. OneBy t c dir g → In g (cond t (listed cwd dir c (names_seen s d dir.path)) (looked s d cwd (found cwd (name_below dir.name (bytes_of c))))))
      (λ _ o. one_listed c dir g o)
      (λ _ o. one_looked c dir g o) h

  walked_leads : (cs : List (List Glyph)) (dirs : List Found) (e : Found) → In e (walked s d cwd cs dirs) → (f : Found) × In f dirs × Leads s d cwd f.name f.path cs e.name
  walked_leads [] dirs e h = (e, h, refl)
  walked_leads (c ∷ cs) dirs e h =
      let (g, inside, leads) = walked_leads cs (flat_map (below s d cwd c) dirs) e h in
      let (f, first, i) = in_parts (below s d cwd c) g dirs inside in
      let (n, free, suits, is) = below_one c f g i in
      (f, first, (n, free, suits, subst (λ (x : Found). Leads s d cwd x.name x.path cs e.name) is leads))

  leads_walked : (cs : List (List Glyph)) (dirs : List Found) (f : Found) (end : List ℕ) → In f dirs → Leads s d cwd f.name f.path cs end → (e : Found) × In e (walked s d cwd cs dirs) × (end ≡ e.name)
  leads_walked [] dirs f end h leads = (f, h, leads)
  leads_walked (c ∷ cs) dirs f end h (n, free, suits, leads) =
      let g = spot cwd (name_below f.name n) in
      leads_walked cs (flat_map (below s d cwd c) dirs) g end (parts_in (below s d cwd c) g f dirs h (one_below c f g (n, free, suits, refl))) leads

  started : (gs : List Glyph) (f : Found) → In f (start cwd gs) → Begins cwd gs f.name f.path
  started [] f h = absurd h
  started (g ∷ gs) f h = by_cases (is_slash g) (λ t. is_slash g ≡ t → In f (cond t (record { name = 47 ∷ []; path = root_text }) (record { name = []; path = cwd }) ∷ []) → Begins cwd (g ∷ gs) f.name f.path)
      (λ _ is i. elim i as (λ _. Begins cwd (g ∷ gs) f.name f.path) [ inl e ↦ inl (eqb-true g.byte 47 is, ap (λ (x : Found). x.name) e, ap (λ (x : Found). x.path) e) | inr j ↦ absurd j ])
      (λ _ isnt i. elim i as (λ _. Begins cwd (g ∷ gs) f.name f.path) [ inl e ↦ inr (λ same. (let t : is_slash g ≡ true = eq-eqb g.byte 47 same in cc), ap (λ (x : Found). x.name) e, ap (λ (x : Found). x.path) e) | inr j ↦ absurd j ]) refl h

  starts : (gs : List Glyph) (name path : List ℕ) → Begins cwd gs name path → (let f : Found = record { name = name; path = path } in In f (start cwd gs))
  starts [] name path h = absurd h
  starts (g ∷ gs) name path (inl (byte, n, p)) = rw (eq-eqb g.byte 47 byte, n, p) (inl refl)
  starts (g ∷ gs) name path (inr (byte, n, p)) = rw (ne_eqb g.byte 47 byte, n, p) (inl refl)

  abbrev Reached : List Glyph → List ℕ → Type 0
  Reached gs end = (name : List ℕ) × (path : List ℕ) × Begins cwd gs name path × Leads s d cwd name path (components gs) end

  ends_reached : (gs : List Glyph) (end : List ℕ) → In end (ends s d cwd gs) → Reached gs end
  ends_reached gs end h =
      let (e, i, same) = in_map (λ (f : Found). f.name) end (walked s d cwd (components gs) (start cwd gs)) h in
      let (f, first, leads) = walked_leads (components gs) (start cwd gs) e i in
      (f.name, f.path, started gs f first, subst (Leads s d cwd f.name f.path (components gs)) (sym same) leads)

  reached_ends : (gs : List Glyph) (end : List ℕ) → Reached gs end → In end (ends s d cwd gs)
  reached_ends gs end (name, path, begins, leads) =
      let f : Found = record { name = name; path = path } in
      let (e, i, same) = leads_walked (components gs) (start cwd gs) f end (starts gs name path begins) leads in
      subst (λ v. In v (ends s d cwd gs)) (sym same) (map_in (λ (f : Found). f.name) e (walked s d cwd (components gs) (start cwd gs)) i)

  has_ends : (gs : List Glyph) (end : List ℕ) → Contains (sorted (ends s d cwd gs)) end ↔ Contains (ends s d cwd gs) end
  has_ends gs end = in_order_has (slice_cmp nat_cmp) nat_list_cmp_total exact (ends s d cwd gs) end

  pub given_by : (gs : List Glyph) (out : List (List ℕ)) (end : List ℕ) → out ≡ sorted (ends s d cwd gs) → (Contains out end → Reached gs end) × (Reached gs end → Contains out end)
  given_by gs out end is = (
    λ c. ends_reached gs end (contains_in end (ends s d cwd gs) ((has_ends gs end).0 (subst (λ (o : List (List ℕ)). Contains o end) is c))),
    λ r. subst (λ (o : List (List ℕ)). Contains o end) (sym is) ((has_ends gs end).1 (in_contains end (ends s d cwd gs) (reached_ends gs end r))),
  )

sorted_by : (r : Result (List Found) DeskNo) (w : Workspace) (s : State) (out : List (List ℕ)) → (go_on r w (λ (end : List Found). done (sorted (map (λ f. f.name) end))) (snapshot s)).0 ≡ Ok out → IsStrictlySortedBy (slice_cmp nat_cmp) out
unfolding done
sorted_by (Ok end) w s out e =
    let names = map (λ (f : Found). f.name) end in
    subst (IsStrictlySortedBy (slice_cmp nat_cmp)) (let is : sorted names ≡ out = cc in is) (in_order_rises (slice_cmp nat_cmp) names)
sorted_by (Err x) w s out e = absurd cc

pub names_rise : (s : State) (w : Workspace) (cwd : List ℕ) (gs : List Glyph) (out : List (List ℕ)) → (matching_names cwd gs (snapshot s) w).0 ≡ Ok out → IsStrictlySortedBy (slice_cmp nat_cmp) out
unfolding matching_names ◌>>=◌
names_rise s w cwd gs out h = sorted_by (walk cwd (components gs) (start cwd gs) (snapshot s) w).0 (walk cwd (components gs) (start cwd gs) (snapshot s) w).1 s out h

pub names_given : (told : Told) (s : State) (w : Workspace) → NoLinks s w.changes → (cwd : List ℕ) (gs : List Glyph) (out : List (List ℕ)) (end : List ℕ) → (matching_names cwd gs (snapshot s) w).0 ≡ Ok out → (Contains out end → Reached told s w.changes cwd gs end) × (Reached told s w.changes cwd gs end → Contains out end)
names_given told s w none cwd gs out end h = given_by told s w.changes cwd gs out end (gives_matching s w.changes cwd none gs w refl out h).0

-- ---- components

abbrev is_filled : List Glyph → Bool
is_filled c = nat_lt 0 (length c)

pub components_parted : (front rest : List Glyph) (g : Glyph) → g.byte ≡ 47 → components (front ++ g ∷ rest) ≡ components front ++ components rest
components_parted front rest g h =
    ap (filter is_filled) (split_both is_slash front g rest (eq-eqb g.byte 47 h)) ∙ filter-append is_filled (slice_split is_slash front) (slice_split is_slash rest)

pub components_one : (g : Glyph) (gs : List Glyph) → All (λ h. h.byte ≢ 47) (g ∷ gs) → components (g ∷ gs) ≡ (g ∷ gs) ∷ []
components_one g gs h =
    let one = slice_split_none is_slash (g ∷ gs) (All-from_recursion _ (g ∷ gs) (each (g ∷ gs) (recursion_from_All _ (g ∷ gs) h))) in
    ap (filter is_filled) one ∙ rw (lt-ltb 0 (suc (length gs)) (omega arith)) refl
  where
    each : (gs : List Glyph) → AllByRecursion (λ h. h.byte ≢ 47) gs → AllByRecursion (λ h. is_slash h ≡ false) gs
    each [] h = tt
    each (g ∷ gs) h = (ne_eqb g.byte 47 h.0, each gs h.1)

pub below_other : (name n : List ℕ) → name ≢ [] → name ≢ 47 ∷ [] → name_below name n ≡ name ++ 47 ∷ n
below_other [] n empty root = absurd (empty refl)
below_other (b ∷ bs) n empty root = by_cases (bytes_eq (b ∷ bs) (47 ∷ [])) (λ t. cond t (47 ∷ n) ((b ∷ bs) ++ 47 ∷ n) ≡ (b ∷ bs) ++ 47 ∷ n)
    (λ is. absurd (root ((bytes_eq-Decides (b ∷ bs) (47 ∷ [])).0 is)))
    (λ _. refl)
