-- What `.DELETE_ON_ERROR` leaves: phony targets, directories, files that are as they were, and all
-- that isn't a target.
use Rattle.std.proofs.Common.{◌≡◌, ◌∙◌, ℕ, Bool, true, false, not, cond, inl, inr, List, [], ◌∷◌, Option, Some, None, Result, Ok, Err, refl, sym, ap, subst}
use Rattle.std.specs.Prelude.{All, nat_lt, ◌-◌, ◌||◌}
use Rattle.std.specs.List.{AllByRecursion, zip}
use Rattle.std.proofs.lemmas.List.Elements.{recursion_from_All}
use Rattle.std.specs.FinMap.{get}
use Rattle.em_base.specs.declared.place.Place.{Place}
use Rattle.em_tree.specs.declared.node.Kind.{Kind}
use Rattle.em_tree.specs.declared.node.Kind.TheVariants as kind
use Rattle.em_tree.specs.declared.node.Node.{Node}
use Rattle.em_tree.specs.declared.state.State.{State}
use Rattle.em_tree.specs.Trees.{Changes, kind_of, stamp_of, laid_over}
use Rattle.em_tree.proofs.Laying.{over}
use Rattle.em_tree.proofs.Lawful.{get-laid_over}
use Rattle.em_view.specs.declared.no.DeskNo.{DeskNo}
use Rattle.em_view.specs.declared.no.DeskNo.TheVariants as desk
use Rattle.em_view.specs.Actions.{Workspace, Oracle, Action, ◌>>=◌, go_on, done as ended, mine, ask, spend, attempt, snapshot}
use Rattle.em_tree.specs.declared.way.Led.{Led}
use Rattle.em_tree.specs.declared.way.Way.{Way}
use Rattle.em_tree.specs.declared.way.Way.TheVariants.{To, TooMany, Bad}
use Rattle.em_tree.specs.Resolving.{led, links_in, path_of as way_path, node_at as table_at, node_behind}
use Rattle.em_view.specs.Walking.{resolve}
use Rattle.em_view.specs.Rows.{kind_below, kind_to, kind_at, stamp_by, stamp_below, stamp_to, stamp_at, remove}
use Rattle.em_view.proofs.Leading.{leads_laid}
use Rattle.em_view.specs.Steps.{and_then, done, below}
use Rattle.em_view.proofs.Looking.{seen_kind}
use Rattle.em_expand.specs.declared.spoken.Spoken.{Spoken}
use Rattle.em_expand.proofs.Sparing.{SparesAll, spares_kind, spares_stamp, all_done, all_own, all_refuse, all_below}
use Rattle.em_task.specs.declared.job.Job.{Job}
use Rattle.em_job.specs.declared.stop.JobStop.{JobStop}
use Rattle.em_job.specs.Stops.{Acts, of_desk}
use Rattle.em_job.specs.Deciding.{is_phony, path_of, same_stamp}
use Rattle.em_job.specs.Carrying.{after_removal, remove_target, if_changed, remove_changed, if_file, delete_at, delete_by, delete_one, delete_each, delete}
use Rattle.em_job.specs.Ends.{node_at, node_seen, is_file, is_kept_at, is_kept, IsKeptAt}
use Rattle.em_job.proofs.Removing.{IsBare, OnlyAll, IsGoneFor, only_spares, only_all, all_only, only_remove, bare_further, kept_further, other_node}

-- ---- what isn't to be deleted

module _ (j : Job) (p : Place) where
  one_phony : (t : List ℕ) (before : Option ℕ) → is_phony j t ≡ true → delete_one j p t before ≡ done tt
  unfolding delete_one
  one_phony t before e = ap (λ (b : Bool). let m : Acts (Unit {0}) = cond b (done tt) (delete_by t before p (path_of j.cwd t)) in m) e

  each_phony : (ts : List (List ℕ)) (bs : List (Option ℕ)) (said : Spoken) (o : Oracle) (w : Workspace) → AllByRecursion (λ t. is_phony j t ≡ true) ts → delete_each j p ts bs said o w ≡ (Ok (tt, said), w)
  unfolding and_then ◌>>=◌ done
  each_phony [] bs said o w h = refl
  each_phony (t ∷ ts) [] said o w h = refl
  each_phony (t ∷ ts) (b ∷ bs) said o w h = ap (λ (m : Acts (Unit {0})). and_then m (λ u. delete_each j p ts bs) said o w) (one_phony t b h.0) ∙ each_phony ts bs said o w h.1

  module _ (befores : List (Option ℕ)) (said : Spoken) (o : Oracle) (w : Workspace) where
    pub without_order : j.delete_on_error ≡ false → delete j befores p said o w ≡ (Ok (tt, said), w)
    unfolding delete done
    without_order e = ap (λ (b : Bool). (let m : Acts (Unit {0}) = cond b (delete_each j p j.plan.targets befores) (done tt) in m) said o w) e

    pub phony_stay : All (λ t. is_phony j t ≡ true) j.plan.targets → delete j befores p said o w ≡ (Ok (tt, said), w)
    unfolding delete done
    phony_stay all = by_order j.delete_on_error
      where
        by_order : (b : Bool) → (let m : Acts (Unit {0}) = cond b (delete_each j p j.plan.targets befores) (done tt) in m) said o w ≡ (Ok (tt, said), w)
        by_order true = each_phony j.plan.targets befores said o w (recursion_from_All (λ t. is_phony j t ≡ true) j.plan.targets all)
        by_order false = refl

-- ---- what a desk tells on a state

abbrev Tells : {A : Type 0} → A → Result (A × Spoken) (JobStop × Spoken) → Type 0
Tells a (Ok x) = x.0 ≡ a
Tells a (Err x) = Unit {0}

abbrev Gives : {A : Type 0} → A → Result A DeskNo → Type 0
Gives a (Ok x) = x ≡ a
Gives a (Err x) = Unit {0}

module _ (s : State) where
  -- under these changes the action gives this value, if any, and leaves them
  record Told {A : Type 0} (c : Changes) (m : Action DeskNo A) (a : A) : Type 0 where
    at : (w : Workspace) → w.changes ≡ c → Gives a (m (snapshot s) w).0 × ((m (snapshot s) w).1.changes ≡ c)

  told_then : {A B : Type 0} (c : Changes) (m : Action DeskNo A) (k : A → Action DeskNo B) (a : A) (b : B) → Told c m a → Told c (k a) b → Told c (m >>= k) b
  unfolding ◌>>=◌
  told_then {A} {B} c m k a b h g = record { at = λ w same. by_result (m (snapshot s) w).0 (m (snapshot s) w).1 (h.at w same) }
    where
      by_result : (r : Result A DeskNo) (v : Workspace) → Gives a r × (v.changes ≡ c) → Gives b (go_on r v k (snapshot s)).0 × ((go_on r v k (snapshot s)).1.changes ≡ c)
      by_result (Ok x) v e = subst (λ (y : A). Gives b (k y (snapshot s) v).0 × ((k y (snapshot s) v).1.changes ≡ c)) (sym e.0) (g.at v e.1)
      by_result (Err x) v e = (tt, e.1)

  told_done : {A : Type 0} (c : Changes) (a : A) → Told c (ended a) a
  unfolding ended
  told_done c a = record { at = λ w same. (refl, same) }

  told_spend : (c : Changes) (n : ℕ) → Told c (spend n) tt
  unfolding spend
  told_spend c n = record { at = λ w same. by_fuel w same (nat_lt w.fuel n) }
    where
      by_fuel : (w : Workspace) → w.changes ≡ c → (b : Bool)
          → (let z : Result (Unit {0}) DeskNo × Workspace = cond b (Err desk.Spent, w) (Ok tt, record w { fuel = w.fuel - n }) in Gives tt z.0 × (z.1.changes ≡ c))
      by_fuel w same true = (tt, same)
      by_fuel w same false = (refl, same)

  told_by : {A : Type 0} (c : Changes) (m : Action DeskNo A) (a : A) → ((w : Workspace) → w.changes ≡ c → ((m (snapshot s) w).0 ≡ Ok a) × ((m (snapshot s) w).1.changes ≡ c)) → Told c m a
  told_by {A} c m a h = record { at = λ w same. let x = h w same in (subst (λ (r : Result A DeskNo). Gives a r) (sym x.0) refl, x.1) }

  abbrev way_under : Changes → List ℕ → Led
  way_under c q = led (links_in (laid_over c s.tree)) true q

  told_resolve : (c : Changes) (q : List ℕ) → Told c (resolve true q) (way_under c q)
  told_resolve c q = told_by c (resolve true q) (way_under c q) (λ w same. let x = leads_laid s w true q in
      (x.0 ∙ ap (λ (d : Changes). (let r : Result Led DeskNo = Ok (way_under d q) in r)) same, ap (λ (v : Workspace). v.changes) x.1 ∙ same))

  told_kind_below : (c : Changes) (r : List ℕ) → Told c (kind_below r) (kind_of (get (laid_over c s.tree) r))
  told_kind_below c r = told_by c (kind_below r) (kind_of (get (laid_over c s.tree) r)) (λ w same. let x = seen_kind s w r in
      (x.0 ∙ ap (λ (d : Changes). (let k : Result Kind DeskNo = Ok (kind_of (get (laid_over d s.tree) r)) in k)) same, x.1 ∙ same))

  told_stamp_below : (c : Changes) (r : List ℕ) → Told c (stamp_below r) (stamp_of (get (laid_over c s.tree) r))
  unfolding stamp_below mine ◌>>=◌ ended ask
  told_stamp_below c r = told_by c (stamp_below r) (stamp_of (get (laid_over c s.tree) r)) (λ w same.
      by_own w (get w.changes r) (get (laid_over c s.tree) r) (sym (ap (λ (d : Changes). get (laid_over d s.tree) r) (sym same) ∙ get-laid_over w.changes s.tree r)) same)
    where
      by_own : (w : Workspace) (m : Option (Option Node)) (n : Option Node) → over m (get s.tree r) ≡ n → w.changes ≡ c
          → ((stamp_by m r (snapshot s) w).0 ≡ Ok (stamp_of n)) × ((stamp_by m r (snapshot s) w).1.changes ≡ c)
      by_own w None n e same = (ap (λ (x : Option Node). let k : Result (Option ℕ) DeskNo = Ok (stamp_of x) in k) e, same)
      by_own w (Some o) n e same = (ap (λ (x : Option Node). let k : Result (Option ℕ) DeskNo = Ok (stamp_of x) in k) e, same)

  told_kind_to : (c : Changes) (way : Way) → Told c (kind_to way) (kind_of (table_at (laid_over c s.tree) (way_path way)))
  told_kind_to c (To r) = told_kind_below c r
  told_kind_to c TooMany = told_done c kind.Absent
  told_kind_to c Bad = told_done c kind.Absent

  told_stamp_to : (c : Changes) (way : Way) → Told c (stamp_to way) (stamp_of (table_at (laid_over c s.tree) (way_path way)))
  told_stamp_to c (To r) = told_stamp_below c r
  told_stamp_to c TooMany = told_done c None
  told_stamp_to c Bad = told_done c None

  told_kind : (c : Changes) (q : List ℕ) → Told c (kind_at q) (kind_of (node_behind (laid_over c s.tree) q))
  unfolding kind_at
  told_kind c q =
      let f = way_under c q in
      let k = kind_of (node_behind (laid_over c s.tree) q) in
      told_then c (spend 1) (λ u. resolve true q >>= λ l. kind_to l.way >>= λ x. spend l.followed >>= λ v. ended x) tt k (told_spend c 1)
      (told_then c (resolve true q) (λ l. kind_to l.way >>= λ x. spend l.followed >>= λ v. ended x) f k (told_resolve c q)
      (told_then c (kind_to f.way) (λ x. spend f.followed >>= λ v. ended x) k k (told_kind_to c f.way)
      (told_then c (spend f.followed) (λ v. ended k) tt k (told_spend c f.followed) (told_done c k))))

  told_stamp : (c : Changes) (q : List ℕ) → Told c (stamp_at q) (stamp_of (node_behind (laid_over c s.tree) q))
  unfolding stamp_at
  told_stamp c q =
      let f = way_under c q in
      let k = stamp_of (node_behind (laid_over c s.tree) q) in
      told_then c (spend 1) (λ u. resolve true q >>= λ l. stamp_to l.way >>= λ x. spend l.followed >>= λ v. ended x) tt k (told_spend c 1)
      (told_then c (resolve true q) (λ l. stamp_to l.way >>= λ x. spend l.followed >>= λ v. ended x) f k (told_resolve c q)
      (told_then c (stamp_to f.way) (λ x. spend f.followed >>= λ v. ended x) k k (told_stamp_to c f.way)
      (told_then c (spend f.followed) (λ v. ended k) tt k (told_spend c f.followed) (told_done c k))))

  kind_told : (w : Workspace) (q : List ℕ) → Gives (kind_of (node_seen s w q)) (kind_at q (snapshot s) w).0
  kind_told w q = ((told_kind w.changes q).at w refl).0

  stamp_told : (w : Workspace) (q : List ℕ) → Gives (stamp_of (node_seen s w q)) (stamp_at q (snapshot s) w).0
  stamp_told w q = ((told_stamp w.changes q).at w refl).0

  module _ (t : List ℕ) (before : Option ℕ) (p : Place) (q : List ℕ) where
    unchanged_here : (w : Workspace) (said : Spoken) → same_stamp (stamp_of (node_seen s w q)) before ≡ true → (remove_changed t before p q said (snapshot s) w).1.changes ≡ w.changes
    unfolding remove_changed and_then ◌>>=◌ below done
    unchanged_here w said e = by_stamp (stamp_at q (snapshot s) w).0 (stamp_at q (snapshot s) w).1 (stamp_told w q) ((spares_stamp q).by (snapshot s) w)
      where
        by_stamp : (r : Result (Option ℕ) DeskNo) (v : Workspace) → Gives (stamp_of (node_seen s w q)) r → v.changes ≡ w.changes
            → (let m : Acts (Unit {0}) = and_then (below (of_desk p) (λ o x. (r, v))) (λ now. if_changed t p q (same_stamp now before)) in m said (snapshot s) w).1.changes ≡ w.changes
        by_stamp (Ok now) v told h =
            ap (λ (b : Bool). (if_changed t p q b said (snapshot s) v).1.changes) (ap (λ (n : Option ℕ). same_stamp n before) told ∙ e) ∙ h
        by_stamp (Err x) v told h = h

    abbrev Kept : Workspace → Spoken → Type 0
    Kept w said = (delete_at t before p q said (snapshot s) w).1.changes ≡ w.changes

    kept_by : (w : Workspace) (said : Spoken) → ((k : Kind) (v : Workspace) → k ≡ kind_of (node_seen s w q) → v.changes ≡ w.changes → (if_file t before p q k said (snapshot s) v).1.changes ≡ w.changes) → Kept w said
    unfolding delete_at and_then ◌>>=◌ below
    kept_by w said h = by_kind (kind_at q (snapshot s) w).0 (kind_at q (snapshot s) w).1 (kind_told w q) ((spares_kind q).by (snapshot s) w)
      where
        by_kind : (r : Result Kind DeskNo) (v : Workspace) → Gives (kind_of (node_seen s w q)) r → v.changes ≡ w.changes
            → (let m : Acts (Unit {0}) = and_then (below (of_desk p) (λ o x. (r, v))) (if_file t before p q) in m said (snapshot s) w).1.changes ≡ w.changes
        by_kind (Ok k) v told e = h k v told e
        by_kind (Err x) v told e = e

    left_here : (w : Workspace) (said : Spoken) → is_kept_at s w before (Some q) ≡ true → Kept w said
    unfolding done
    left_here w said left = kept_by w said by_kind
      where
        same_then : kind.File ≡ kind_of (node_seen s w q) → same_stamp (stamp_of (node_seen s w q)) before ≡ true
        same_then told = ap (λ (k : Kind). not (is_file k) || same_stamp (stamp_of (node_seen s w q)) before) told ∙ left

        by_kind : (k : Kind) (v : Workspace) → k ≡ kind_of (node_seen s w q) → v.changes ≡ w.changes → (if_file t before p q k said (snapshot s) v).1.changes ≡ w.changes
        by_kind kind.Absent v told e = e
        by_kind kind.File v told e = unchanged_here v said (ap (λ c. same_stamp (stamp_of (node_seen s (record w { changes = c }) q)) before) e ∙ same_then told) ∙ e
        by_kind kind.Dir v told e = e
        by_kind kind.Link v told e = e

-- ---- one target, and what its removal touches

module _ (s : State) where
  only_target : (t : List ℕ) (p : Place) (q : List ℕ) → OnlyAll s q (remove_target t p q)
  unfolding remove_target below attempt
  only_target t p q = only_all s q removed after
    where
      removed : let m : Acts (Result (Unit {0}) DeskNo) = below (of_desk p) (attempt (remove q)) in OnlyAll s q m
      removed = record { at = λ said. record { by = λ w bare. (only_remove s q).by w bare } }

      after : (r : Result (Unit {0}) DeskNo) → SparesAll (after_removal t p r)
      after (Ok u) = all_own _
      after (Err (desk.File f)) = all_done _
      after (Err desk.Spent) = all_refuse _
      after (Err desk.NoMemory) = all_refuse _

  only_none : (q : List ℕ) {m : Acts (Unit {0})} → SparesAll m → OnlyAll s q m
  only_none q h = record { at = λ said. only_spares s q (h.at said) }

  only_changed : (t : List ℕ) (before : Option ℕ) (p : Place) (q : List ℕ) → OnlyAll s q (remove_changed t before p q)
  unfolding remove_changed
  only_changed t before p q = all_only s q (all_below (of_desk p) (spares_stamp q)) (λ now. by_stamp (same_stamp now before))
    where
      by_stamp : (b : Bool) → OnlyAll s q (if_changed t p q b)
      by_stamp true = only_none q (all_done tt)
      by_stamp false = only_target t p q

  only_at : (t : List ℕ) (before : Option ℕ) (p : Place) (q : List ℕ) → OnlyAll s q (delete_at t before p q)
  unfolding delete_at
  only_at t before p q = all_only s q (all_below (of_desk p) (spares_kind q)) by_kind
    where
      by_kind : (k : Kind) → OnlyAll s q (if_file t before p q k)
      by_kind kind.Absent = only_none q (all_done tt)
      by_kind kind.File = only_changed t before p q
      by_kind kind.Dir = only_none q (all_done tt)
      by_kind kind.Link = only_none q (all_done tt)

module _ (j : Job) (p : Place) (t : List ℕ) (before : Option ℕ) (said : Spoken) where
  only_one : (s : State) (w : Workspace) → IsBare s w.changes → IsGoneFor (path_of j.cwd t) w.changes (delete_one j p t before said (snapshot s) w).1.changes
  unfolding delete_one done
  only_one s w bare = by_both (is_phony j t) (path_of j.cwd t)
    where
      by_both : (b : Bool) (x : Option (List ℕ)) → IsGoneFor x w.changes ((let m : Acts (Unit {0}) = cond b (done tt) (delete_by t before p x) in m) said (snapshot s) w).1.changes
      by_both true None = refl
      by_both true (Some q) = inl refl
      by_both false None = refl
      by_both false (Some q) = ((only_at s t before p q).at said).by w bare

  kept_one : (s : State) (w : Workspace) → is_kept s w j t before ≡ true → (delete_one j p t before said (snapshot s) w).1.changes ≡ w.changes
  unfolding delete_one done
  kept_one s w kept = by_both (is_phony j t) (path_of j.cwd t) kept
    where
      by_both : (b : Bool) (x : Option (List ℕ)) → (b || is_kept_at s w before x) ≡ true → ((let m : Acts (Unit {0}) = cond b (done tt) (delete_by t before p x) in m) said (snapshot s) w).1.changes ≡ w.changes
      by_both true x e = refl
      by_both false None e = refl
      by_both false (Some q) e = left_here s t before p q w said e

-- ---- all targets

or_further : (b x y : Bool) → (x ≡ true → y ≡ true) → (b || x) ≡ true → (b || y) ≡ true
or_further true x y h e = refl
or_further false x y h e = h e

module _ (j : Job) (p : Place) (s : State) where
  abbrev AreKept : Workspace → List (List ℕ × Option ℕ) → Type 0
  AreKept w ts = AllByRecursion (λ t. is_kept s w j t.0 t.1 ≡ true) ts

  kept_on : (ts : List (List ℕ)) (bs : List (Option ℕ)) (w : Workspace) → ((said : Spoken) (v : Workspace) → AreKept v (zip ts bs) → (delete_each j p ts bs said (snapshot s) v).1.changes ≡ v.changes) → AreKept w (zip ts bs)
      → (r : Result (Unit {0} × Spoken) (JobStop × Spoken)) (v : Workspace) → v.changes ≡ w.changes → (go_on r v (λ x. delete_each j p ts bs x.1) (snapshot s)).1.changes ≡ w.changes
  kept_on ts bs w more h (Ok x) v e = more x.1 v (subst (λ (c : Changes). AreKept (record w { changes = c }) (zip ts bs)) (sym e) h) ∙ e
  kept_on ts bs w more h (Err x) v e = e

  each_kept : (ts : List (List ℕ)) (bs : List (Option ℕ)) (said : Spoken) (w : Workspace) → AreKept w (zip ts bs) → (delete_each j p ts bs said (snapshot s) w).1.changes ≡ w.changes
  unfolding and_then ◌>>=◌ done
  each_kept [] bs said w h = refl
  each_kept (t ∷ ts) [] said w h = refl
  each_kept (t ∷ ts) (b ∷ bs) said w h =
      let one = delete_one j p t b said (snapshot s) w in
      kept_on ts bs w (λ next v more. each_kept ts bs next v more) h.1 one.0 one.1 (kept_one j p t b said s w h.0)

  module _ (q : List ℕ) where
    abbrev AreKeptAt : Workspace → List (List ℕ × Option ℕ) → Type 0
    AreKeptAt w ts = AllByRecursion (λ t. IsKeptAt q s w j t.0 t.1) ts

    still : (v w : Workspace) (x : Option (List ℕ)) → IsGoneFor x w.changes v.changes → IsBare s w.changes → (ts : List (List ℕ × Option ℕ)) → AreKeptAt w ts → AreKeptAt v ts
    still v w x gone bare [] h = tt
    still v w x gone bare (t ∷ ts) h = (one h.0, still v w x gone bare ts h.1)
      where
        one : IsKeptAt q s w j t.0 t.1 → IsKeptAt q s v j t.0 t.1
        one (inl e) = inl (or_further (is_phony j t.0) (is_kept_at s w t.1 (path_of j.cwd t.0)) (is_kept_at s v t.1 (path_of j.cwd t.0)) (kept_further s v w x gone bare t.1 (path_of j.cwd t.0)) e)
        one (inr e) = inr e

    same_behind : (t : List ℕ) (b : Option ℕ) (said : Spoken) (w : Workspace) → IsBare s w.changes → IsKeptAt q s w j t b → node_at s (delete_one j p t b said (snapshot s) w).1 q ≡ node_at s w q
    same_behind t b said w bare (inl e) = ap (λ (c : Changes). get (laid_over c s.tree) q) (kept_one j p t b said s w e)
    same_behind t b said w bare (inr e) = other_node s (delete_one j p t b said (snapshot s) w).1 w q (path_of j.cwd t) e (only_one j p t b said s w bare)

    other_on : (ts : List (List ℕ)) (bs : List (Option ℕ)) (w : Workspace) → ((said : Spoken) (v : Workspace) → IsBare s v.changes → AreKeptAt v (zip ts bs) → node_at s (delete_each j p ts bs said (snapshot s) v).1 q ≡ node_at s v q)
        → (r : Result (Unit {0} × Spoken) (JobStop × Spoken)) (v : Workspace) → node_at s v q ≡ node_at s w q → IsBare s v.changes → AreKeptAt v (zip ts bs) → node_at s (go_on r v (λ x. delete_each j p ts bs x.1) (snapshot s)).1 q ≡ node_at s w q
    other_on ts bs w more (Ok x) v e bare h = more x.1 v bare h ∙ e
    other_on ts bs w more (Err x) v e bare h = e

    each_other : (ts : List (List ℕ)) (bs : List (Option ℕ)) (said : Spoken) (w : Workspace) → IsBare s w.changes → AreKeptAt w (zip ts bs) → node_at s (delete_each j p ts bs said (snapshot s) w).1 q ≡ node_at s w q
    unfolding and_then ◌>>=◌ done
    each_other [] bs said w bare h = refl
    each_other (t ∷ ts) [] said w bare h = refl
    each_other (t ∷ ts) (b ∷ bs) said w bare h =
        let one = delete_one j p t b said (snapshot s) w in
        let gone = only_one j p t b said s w bare in
        other_on ts bs w (λ next v less more. each_other ts bs next v less more) one.0 one.1 (same_behind t b said w bare h.0) (bare_further s (path_of j.cwd t) w.changes one.1.changes gone bare)
        (still one.1 w (path_of j.cwd t) gone bare (zip ts bs) h.1)

  module _ (befores : List (Option ℕ)) (said : Spoken) (w : Workspace) where
    pub all_kept : All (λ t. is_kept s w j t.0 t.1 ≡ true) (zip j.plan.targets befores) → (delete j befores p said (snapshot s) w).1.changes ≡ w.changes
    unfolding delete done
    all_kept h = by_order j.delete_on_error
      where
        by_order : (b : Bool) → ((let m : Acts (Unit {0}) = cond b (delete_each j p j.plan.targets befores) (done tt) in m) said (snapshot s) w).1.changes ≡ w.changes
        by_order true = each_kept j.plan.targets befores said w (recursion_from_All (λ t. is_kept s w j t.0 t.1 ≡ true) (zip j.plan.targets befores) h)
        by_order false = refl

    pub others_stay : (q : List ℕ) → IsBare s w.changes → All (λ t. IsKeptAt q s w j t.0 t.1) (zip j.plan.targets befores) → node_at s (delete j befores p said (snapshot s) w).1 q ≡ node_at s w q
    unfolding delete done
    others_stay q bare h = by_order j.delete_on_error
      where
        by_order : (b : Bool) → node_at s ((let m : Acts (Unit {0}) = cond b (delete_each j p j.plan.targets befores) (done tt) in m) said (snapshot s) w).1 q ≡ node_at s w q
        by_order true = each_other q j.plan.targets befores said w bare (recursion_from_All (λ t. IsKeptAt q s w j t.0 t.1) (zip j.plan.targets befores) h)
        by_order false = refl
