-- What a removal makes of the paths where no link is seen: it leaves all as they are, or its path is absent, and the
-- directory above it is stamped.
--     IsGone q c d          changes c have become d so
--     only_remove           a removal does no more
--     kept_further          a target that is kept is kept behind a removal
--     bare_further          where no link is seen none is seen behind a removal
--     other_node            what stands elsewhere stays
use Rattle.std.proofs.Common.{◌≡◌, ◌≢◌, ◌⊎◌, inl, inr, ◌∙◌, ◌+◌, ℕ, Bool, true, false, not, ◌||◌, cond, List, Option, Some, None, Result, Ok, Err, refl, sym, ap, subst}
use Rattle.std.specs.FinMap.{get, insert}
use Rattle.std.specs.Ordering.{eq_by_cmp}
use Rattle.em_base.proofs.Lemmas.{by_cases, order, same_key, own_key}
use Rattle.em_path.specs.Paths.{parent_text}
use Rattle.em_tree.specs.declared.node.Kind.{Kind}
use Rattle.em_tree.specs.declared.node.Kind.TheVariants as kind
use Rattle.em_tree.specs.declared.node.Node.{Node}
use Rattle.em_tree.specs.declared.node.Node.TheVariants.{Dir}
use Rattle.em_tree.specs.declared.state.State.{State}
use Rattle.em_tree.specs.Trees.{Table, Changes, kind_of, stamp_of, link_of, laid_over}
use Rattle.em_tree.specs.declared.way.Led.{Led}
use Rattle.em_tree.specs.declared.way.Way.TheVariants.{To}
use Rattle.em_tree.specs.Resolving.{links_in, node_behind, node_at as table_at}
use Rattle.em_tree.proofs.Resolving.{no_links, no_way_in}
use Rattle.em_tree.proofs.Laying.{changed-here, changed-other}
use Rattle.em_view.specs.declared.no.FileNo.{FileNo}
use Rattle.em_view.specs.declared.no.DeskNo.{DeskNo}
use Rattle.em_view.specs.Actions.{Workspace, Oracle, Action, ◌>>=◌, go_on, done, fail, ask, mine, ready, snapshot}
use Rattle.em_view.specs.Rows.{is_dir, kind_by, kind_below, told_names, amend, made_names, other_names, names_by, names_below, change_number, becomes, change, pay, refuse, names_refusal, take_away, remove_dir, remove_by, remove_under, remove_from, remove}
use Rattle.em_view.specs.Walking.{resolve, target_by, target}
use Rattle.em_view.proofs.Leading.{leads_laid}
use Rattle.em_view.specs.Steps.{Steps, and_then}
use Rattle.em_view.proofs.Fitting.{laid_insert}
use Rattle.em_expand.proofs.Sparing.{Spares, SparesAll, spares_then, spares_done, spares_spend}
use Rattle.em_job.specs.Deciding.{same_stamp}
use Rattle.em_job.specs.Ends.{node_at, is_file, is_kept_at, IsElsewhere}

-- ---- what is asked before

ask_spares : {A : Type 0} (q : _) (f : _ → A) → let m : Action DeskNo A = (ask q >>= λ a. done (f a)) in Spares m
unfolding ◌>>=◌ ask done
ask_spares q f = record { by = λ o w. refl }

mine_spares : {B : Type 0} (p : List ℕ) {k : Option (Option Node) → Action DeskNo B} → ((m : Option (Option Node)) → Spares (k m)) → Spares (mine p >>= k)
unfolding ◌>>=◌ mine
mine_spares p h = record { by = λ o w. (h _).by o w }

kind_spares : (p : List ℕ) → Spares (kind_below p)
unfolding kind_below
kind_spares p = mine_spares p by_own
  where
    by_own : (m : Option (Option Node)) → Spares (kind_by m p)
    by_own (Some n) = spares_done _
    by_own None = ask_spares _ _

told_spares : (p : List ℕ) → Spares (told_names p)
unfolding told_names
told_spares p = ask_spares _ _

amend_spares : (p : List ℕ) (ns : Option (List (List ℕ))) → Spares (amend p ns)
unfolding amend
amend_spares p ns = record { by = λ o w. refl }

names_spares : (p : List ℕ) → Spares (names_below p)
unfolding names_below made_names other_names
names_spares p = mine_spares p by_own
  where
    by_dir : (b : Bool) → Spares (cond b (made_names p) (done None))
    by_dir true = spares_then (told_spares p) (λ ns. amend_spares p _)
    by_dir false = spares_done _

    by_own : (m : Option (Option Node)) → Spares (names_by m p)
    by_own (Some n) = by_dir (is_dir n)
    by_own None = spares_then (told_spares p) (λ ns. amend_spares p ns)

ready_spares : Spares ready
unfolding ready
ready_spares = record { by = λ o w. refl }

refuse_spares : (f : Option FileNo) → Spares (refuse f)
unfolding fail
refuse_spares None = spares_done _
refuse_spares (Some f) = record { by = λ o w. refl }

-- ---- a removal

abbrev pub IsGone : List ℕ → Changes → Changes → Type 0
IsGone q c d = (d ≡ c) ⊎ ((above : List ℕ) × (parent_text q ≡ Some above) × ((n : ℕ) × (d ≡ becomes q None (Some above) n c)))

-- no link is seen under the changes
abbrev pub IsBare : State → Changes → Type 0
IsBare s c = (r : List ℕ) → link_of (get (laid_over c s.tree) r) ≡ None

module _ (s : State) where
  pub record Only {E A : Type 0} (q : List ℕ) (m : Action E A) : Type 0 where
    pub by : (w : Workspace) → IsBare s w.changes → IsGone q w.changes (m (snapshot s) w).1.changes

  pub record OnlyAll {S E A : Type 0} (q : List ℕ) (m : Steps S E A) : Type 0 where
    pub at : (x : S) → Only q (m x)

  pub only_spares : {E A : Type 0} (q : List ℕ) {m : Action E A} → Spares m → Only q m
  only_spares q h = record { by = λ w bare. inl (h.by (snapshot s) w) }

  module _ {E A B : Type 0} (q : List ℕ) where
    went : (k : A → Action E B) → ((a : A) → Only q (k a)) → (r : Result A E) (v w : Workspace) → v.changes ≡ w.changes → IsBare s w.changes → IsGone q w.changes (go_on r v k (snapshot s)).1.changes
    went k h (Ok a) v w e bare = subst (λ (c : Changes). IsGone q c (k a (snapshot s) v).1.changes) e ((h a).by v (subst (IsBare s) (sym e) bare))
    went k h (Err x) v w e bare = inl e

    pub only_then : {m : Action E A} {k : A → Action E B} → Spares m → ((a : A) → Only q (k a)) → Only q (m >>= k)
    unfolding ◌>>=◌
    only_then {m} {k} first h = record { by = λ w bare. went k h (m (snapshot s) w).0 (m (snapshot s) w).1 w (first.by (snapshot s) w) bare }

    -- where the first one gives this value
    went_at : (k : A → Action E B) (a : A) → Only q (k a) → (r : Result A E) (v w : Workspace) → r ≡ Ok a → v.changes ≡ w.changes → IsBare s w.changes → IsGone q w.changes (go_on r v k (snapshot s)).1.changes
    went_at k a h r v w is e bare = subst (λ (x : Result A E). IsGone q w.changes (go_on x v k (snapshot s)).1.changes) (sym is)
        (subst (λ (c : Changes). IsGone q c (k a (snapshot s) v).1.changes) e (h.by v (subst (IsBare s) (sym e) bare)))

    pub only_at_value : (m : Action E A) (k : A → Action E B) (a : A) → ((w : Workspace) → IsBare s w.changes → ((m (snapshot s) w).0 ≡ Ok a) × ((m (snapshot s) w).1.changes ≡ w.changes)) → Only q (k a) → Only q (m >>= k)
    unfolding ◌>>=◌
    only_at_value m k a first h = record { by = λ w bare. let f = first w bare in went_at k a h (m (snapshot s) w).0 (m (snapshot s) w).1 w f.0 f.1 bare }

    came : (k : A → Action E B) → ((a : A) → Spares (k a)) → (r : Result A E) (v w : Workspace) → IsGone q w.changes v.changes → IsGone q w.changes (go_on r v k (snapshot s)).1.changes
    came k h (Ok a) v w e = subst (λ (c : Changes). IsGone q w.changes c) (sym ((h a).by (snapshot s) v)) e
    came k h (Err x) v w e = e

    pub then_only : {m : Action E A} {k : A → Action E B} → Only q m → ((a : A) → Spares (k a)) → Only q (m >>= k)
    unfolding ◌>>=◌
    then_only {m} {k} first h = record { by = λ w bare. came k h (m (snapshot s) w).0 (m (snapshot s) w).1 w (first.by w bare) }

  module _ {S E A B : Type 0} (q : List ℕ) {m : Steps S E A} {k : A → Steps S E B} where
    pub all_only : SparesAll m → ((a : A) → OnlyAll q (k a)) → OnlyAll q (and_then m k)
    unfolding and_then
    all_only first h = record { at = λ x. only_then q (first.at x) (λ a. (h a.0).at a.1) }

    pub only_all : OnlyAll q m → ((a : A) → SparesAll (k a)) → OnlyAll q (and_then m k)
    unfolding and_then
    only_all first h = record { at = λ x. then_only q (first.at x) (λ a. (h a.0).at a.1) }

  only_fail : {A : Type 0} (q : List ℕ) (e : DeskNo) → let m : Action DeskNo A = fail e in Only q m
  unfolding fail
  only_fail q e = record { by = λ w bare. inl refl }

  only_change : (q above : List ℕ) → parent_text q ≡ Some above → Only q (change q None (Some above))
  unfolding change
  only_change q above up = record { by = λ w bare. inr (above, up, (change_number w.base w.job (w.count + 1), refl)) }

  only_take : (q above : List ℕ) (n : ℕ) → parent_text q ≡ Some above → Only q (take_away q above n)
  unfolding take_away pay
  only_take q above n up = only_then q (spares_then (spares_spend 1) (λ u. spares_spend n)) (λ u. only_change q above up)

  only_by : (k : Kind) (q above : List ℕ) (n : ℕ) → parent_text q ≡ Some above → Only q (remove_by k q above n)
  unfolding remove_dir
  only_by kind.Absent q above n up = only_fail q _
  only_by kind.File q above n up = only_take q above n up
  only_by kind.Dir q above n up = only_then q (names_spares q) (λ ns. only_then q (refuse_spares (names_refusal ns)) (λ f. only_take q above n up))
  only_by kind.Link q above n up = only_take q above n up

  only_under : (o : Option (List ℕ)) (q : List ℕ) (n : ℕ) → parent_text q ≡ o → Only q (remove_under o q n)
  only_under None q n up = only_fail q _
  only_under (Some above) q n up = only_then q (kind_spares q) (λ k. only_by k q above n up)

  -- without links a path is its own target
  target_here : (q : List ℕ) (w : Workspace) → IsBare s w.changes → ((target false q (snapshot s) w).0 ≡ Ok (q, 0)) × ((target false q (snapshot s) w).1.changes ≡ w.changes)
  unfolding target ◌>>=◌ done
  target_here q w bare =
      let led_it = leads_laid s w false q in
      let at : (resolve false q (snapshot s) w).0 ≡ Ok (record { way = To q; followed = 0 }) = led_it.0 ∙ ap (λ (f : Led). (let r : Result Led DeskNo = Ok f in r)) (no_links (links_in (laid_over w.changes s.tree)) bare false q) in
      by_result (resolve false q (snapshot s) w).0 (resolve false q (snapshot s) w).1 at (ap (λ (v : Workspace). v.changes) led_it.1)
    where
      follow : Led → Action DeskNo (List ℕ × ℕ)
      follow f = target_by f.way >>= λ r. done (r, f.followed)

      by_result : (r : Result Led DeskNo) (v : Workspace) → r ≡ Ok (record { way = To q; followed = 0 }) → v.changes ≡ w.changes
          → ((go_on r v follow (snapshot s)).0 ≡ Ok (q, 0)) × ((go_on r v follow (snapshot s)).1.changes ≡ w.changes)
      by_result r v is e = subst (λ (x : Result Led DeskNo). ((go_on x v follow (snapshot s)).0 ≡ Ok (q, 0)) × ((go_on x v follow (snapshot s)).1.changes ≡ w.changes)) (sym is) (refl, e)

  only_from : (o : Option (List ℕ)) (q : List ℕ) → Only q (remove_from o q)
  only_from None q = only_fail q _
  only_from (Some above) q = only_at_value q (target false q) (λ t. remove_under (parent_text t.0) t.0 t.1) (q, 0) (target_here q) (only_under (parent_text q) q 0 refl)

  pub only_remove : (q : List ℕ) → Only q (remove q)
  unfolding remove
  only_remove q = only_then q ready_spares (λ r. only_from (parent_text q) q)

-- ---- what stands at the paths behind it

module _ (d : Changes) (t : Table) where
  here : (p : List ℕ) (c : Option Node) → get (laid_over (insert d p c) t) p ≡ c
  here p c = ap (λ (u : Table). get u p) (laid_insert d t p c) ∙ changed-here (laid_over d t) p c

  elsewhere : (p : List ℕ) (c : Option Node) (q : List ℕ) → q ≢ p → get (laid_over (insert d p c) t) q ≡ get (laid_over d t) q
  elsewhere p c q h = ap (λ (u : Table). get u q) (laid_insert d t p c) ∙ changed-other (laid_over d t) p c q (by_cases (eq_by_cmp order q p) (λ b. b ≡ false) (λ is. absurd (h (same_key q p is))) (λ _. refl))

same_or : (q p : List ℕ) (P : Type 0) → (q ≡ p → P) → (q ≢ p → P) → P
same_or q p P equal other = by_cases (eq_by_cmp order q p) (λ b. eq_by_cmp order q p ≡ b → P) (λ _ is. equal (same_key q p is)) (λ _ isnt. other (λ e. (let t : eq_by_cmp order q p ≡ true = ap (λ (x : List ℕ). eq_by_cmp order x p) e ∙ own_key p in cc))) refl

abbrev pub IsGoneFor : Option (List ℕ) → Changes → Changes → Type 0
IsGoneFor None c d = d ≡ c
IsGoneFor (Some q) c d = IsGone q c d

module _ (s : State) where
  abbrev at_in : Changes → List ℕ → Option Node
  at_in c q = get (laid_over c s.tree) q

  -- nothing is to go where this stands
  abbrev is_left : Option ℕ → Option Node → Bool
  is_left before n = not (is_file (kind_of n)) || same_stamp (stamp_of n) before

  further : (P : Option Node → Type 0) → P None → ((n : ℕ) → P (Some (Dir n))) → (q : List ℕ) (c d : Changes) → IsGone q c d → (r : List ℕ) → P (at_in c r) → P (at_in d r)
  further P none dir q c d (inl e) r h = subst (λ (x : Changes). P (at_in x r)) (sym e) h
  further P none dir q c d (inr (above, up, (n, is))) r h = subst (λ (x : Changes). P (at_in x r)) (sym is) (same_or r above (P (at_in after r)) stamped beside)
    where
      gone : Changes
      gone = insert c q None

      after : Changes
      after = insert gone above (Some (Dir n))

      stamped : r ≡ above → P (at_in after r)
      stamped e = subst P (sym (ap (at_in after) e ∙ here gone s.tree above (Some (Dir n)))) (dir n)

      absent : r ≡ q → P (at_in gone r)
      absent e = subst P (sym (ap (at_in gone) e ∙ here c s.tree q None)) none

      beside : r ≢ above → P (at_in after r)
      beside other = subst P (sym (elsewhere gone s.tree above (Some (Dir n)) r other))
          (same_or r q (P (at_in gone r)) absent (λ isnt. subst P (sym (elsewhere c s.tree q None r isnt)) h))

  bare_gone : (q : List ℕ) (c d : Changes) → IsGone q c d → IsBare s c → IsBare s d
  bare_gone q c d gone bare r = further (λ n. link_of n ≡ None) refl (λ n. refl) q c d gone r (bare r)

  pub bare_further : (x : Option (List ℕ)) (c d : Changes) → IsGoneFor x c d → IsBare s c → IsBare s d
  bare_further None c d gone bare = subst (IsBare s) (sym gone) bare
  bare_further (Some q) c d gone bare = bare_gone q c d gone bare

  -- without links what is seen at a path stands there
  seen_here : (c : Changes) (r : List ℕ) → IsBare s c → node_behind (laid_over c s.tree) r ≡ at_in c r
  seen_here c r bare = ap (table_at (laid_over c s.tree)) (no_way_in (laid_over c s.tree) bare r)

  left_further : (q : List ℕ) (c d : Changes) → IsGone q c d → (before : Option ℕ) (r : List ℕ) → is_left before (at_in c r) ≡ true → is_left before (at_in d r) ≡ true
  left_further q c d gone before r h = further (λ n. is_left before n ≡ true) refl (λ n. refl) q c d gone r h

  pub kept_further : (v w : Workspace) (x : Option (List ℕ)) → IsGoneFor x w.changes v.changes → IsBare s w.changes → (before : Option ℕ) (y : Option (List ℕ)) → is_kept_at s w before y ≡ true → is_kept_at s v before y ≡ true
  kept_further v w x gone bare before None h = refl
  kept_further v w None gone bare before (Some r) h = ap (λ (c : Changes). is_left before (node_behind (laid_over c s.tree) r)) gone ∙ h
  kept_further v w (Some q) gone bare before (Some r) h =
      ap (is_left before) (seen_here v.changes r (bare_gone q w.changes v.changes gone bare))
      ∙ left_further q w.changes v.changes gone before r (ap (is_left before) (sym (seen_here w.changes r bare)) ∙ h)

  pub other_node : (v w : Workspace) (q : List ℕ) (x : Option (List ℕ)) → IsElsewhere q x → IsGoneFor x w.changes v.changes → node_at s v q ≡ node_at s w q
  other_node v w q None far gone = ap (λ (c : Changes). at_in c q) gone
  other_node v w q (Some p) far (inl e) = ap (λ (c : Changes). at_in c q) e
  other_node v w q (Some p) far (inr (above, up, (n, is))) =
      ap (λ (c : Changes). at_in c q) is
      ∙ elsewhere (insert w.changes p None) s.tree above (Some (Dir n)) q (λ e. far.1 (up ∙ ap (λ (a : List ℕ). let o : Option (List ℕ) = Some a in o) (sym e)))
      ∙ elsewhere w.changes s.tree p None q (λ e. far.0 (sym e))
