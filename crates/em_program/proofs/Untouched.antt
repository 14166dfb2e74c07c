-- What a history doesn't change.
--     firsts, followings       the ways to the first build, and to that behind a build, at sites that differ in their history alone
--     moves                    where the next build takes place
use Rattle.std.proofs.Common.{◌≡◌, ◌++◌, ℕ, zero, suc, Bool, true, false, cond, List, [], ◌∷◌, Result, Ok, Err, refl, sym, ap, subst}
use Rattle.em_host.specs.declared.call.Call.{Call}
use Rattle.em_host.specs.Outside.{Files}
use Rattle.em_host.specs.Calls.{files_after}
use Rattle.em_tree.specs.declared.outcome.Outcome.{Outcome}
use Rattle.em_tree.specs.declared.state.State.{State}
use Rattle.em_history.specs.Histories.{Pair}
use Rattle.em_cmdline.specs.declared.order.Order.{Order}
use Rattle.em_engine.specs.declared.note.Note.{Note}
use Rattle.em_program.specs.declared.site.Earlier.{Earlier}
use Rattle.em_rules.specs.declared.book.Book.{Book}
use Rattle.em_plan.specs.declared.planned.Plan.{Plan}
use Rattle.em_reader.specs.declared.makefiles.Round.{Round}
use Rattle.em_remake.specs.Remaking.{goals_of, changed}
use Rattle.em_program.specs.declared.project.Project.{Project}
use Rattle.em_program.specs.declared.rounds.Remaking.{Remaking}
use Rattle.em_program.specs.declared.rounds.BuildStep.{BuildStep}
use Rattle.em_program.specs.declared.site.Site.{Site}
use Rattle.em_program.specs.declared.verdict.BuildStatus.{BuildStatus}
use Rattle.em_program.specs.Alike.{AreSites, AreProjects, AreSteps, EndAlike, IsSame}
use Rattle.em_program.specs.Course.{Trace, Course, go_on, ◌>>=◌, done}
use Rattle.em_program.specs.Projects.{entered, round_of, planned, assembled, project_at}
use Rattle.em_program.specs.Rounds.{based, all_there, round_order, final, remade, by_goals, round, first, following, moved}

-- ---- courses that make the same calls and lead to values that are alike

abbrev EndBy : {A : Type 0} → (A → A → Type 0) → Result A BuildStatus → Result A BuildStatus → Type 0
EndBy R (Ok a) (Ok b) = R a b
EndBy R (Err v) (Err w) = v ≡ w
EndBy R _ _ = ⊥

record SameBy {A : Type 0} (R : A → A → Type 0) (c d : Trace A) : Type 0 where
  pub calls : c.calls ≡ d.calls
  pub end : EndBy R c.end d.end

module _ {A B : Type 0} (R : A → A → Type 0) (S : B → B → Type 0) (k l : A → Course B) (both : (a b : A) → R a b → (f : Files) → SameBy S (k a f) (l b f)) where
  on_calls : (calls : List Call) (x y : Result A BuildStatus) (f : Files) → EndBy R x y → SameBy S (go_on calls x k f) (go_on calls y l f)
  on_calls calls (Ok a) (Ok b) f e = let it = both a b e (files_after calls f) in record { calls = ap (λ (c : List Call). calls ++ c) it.calls; end = it.end }
  on_calls calls (Ok a) (Err w) f e = absurd e
  on_calls calls (Err v) (Ok b) f e = absurd e
  on_calls calls (Err v) (Err w) f e = record { calls = refl; end = e }

  on_end : (c d : List Call) (x y : Result A BuildStatus) (f : Files) → c ≡ d → EndBy R x y → SameBy S (go_on c x k f) (go_on d y l f)
  on_end c d x y f same e = subst (λ (z : List Call). SameBy S (go_on c x k f) (go_on z y l f)) same (on_calls c x y f e)

  same_then : (m n : Course A) (f : Files) → SameBy R (m f) (n f) → SameBy S ((m >>= k) f) ((n >>= l) f)
  unfolding ◌>>=◌
  same_then m n f p = on_end (m f).calls (n f).calls (m f).end (n f).end f p.calls p.end

same_end : {A : Type 0} (R : A → A → Type 0) → ((a : A) → R a a) → (end : Result A BuildStatus) → EndBy R end end
same_end R one (Ok a) = one a
same_end R one (Err v) = refl

itself : {A : Type 0} (c : Trace A) → SameBy (λ (a b : A). a ≡ b) c c
itself c = record { calls = refl; end = same_end (λ a b. a ≡ b) (λ a. refl) c.end }

-- behind the same part
behind : {A B : Type 0} (S : B → B → Type 0) (m : Course A) (k l : A → Course B) → ((a : A) (f : Files) → SameBy S (k a f) (l a f)) → (f : Files) → SameBy S ((m >>= k) f) ((m >>= l) f)
behind {A} S m k l both f = same_then (λ (a b : A). a ≡ b) S k l (λ a b e g. subst (λ (z : A). SameBy S (k a g) (l z g)) e (both a g)) m m f (itself (m f))

at_once : {A : Type 0} (R : A → A → Type 0) (a b : A) → R a b → (f : Files) → SameBy R (done a f) (done b f)
unfolding done
at_once R a b same f = record { calls = refl; end = same }

same_if : {A : Type 0} (R : A → A → Type 0) (b : Bool) (c d e h : Course A) (f : Files) → SameBy R (c f) (e f) → SameBy R (d f) (h f) → SameBy R (cond b c d f) (cond b e h f)
same_if R true c d e h f p q = p
same_if R false c d e h f p q = q

-- ---- a site with another history, and other notes

module _ (old : List Pair) (past : Earlier) where
  abbrev other : Site → Site
  other s = record { order = s.order; start = s.start; old = old; earlier = record { notes = past.notes; outcomes = s.earlier.outcomes; shown = past.shown } }

  projects : (s : Site) (book : Book) (cwd : List ℕ) (f : Files) → SameBy AreProjects (project_at s book cwd f) (project_at (other s) book cwd f)
  projects s book cwd f = behind AreProjects (planned book s.order s.start.tree cwd) _ _
      (λ plan g. at_once AreProjects (assembled s book plan) (assembled (other s) book plan) (record { order = refl; outcomes = refl; plan = refl; goals = refl; start = refl; specs = refl }) g) f

  finals : (s : Site) (cwd : List ℕ) (r : Round) (f : Files) → SameBy AreSteps (final s cwd r f) (final (other s) cwd r f)
  finals s cwd r f =
      behind AreSteps (all_there s.start.tree cwd r.missing) _ _ (λ u g.
      behind AreSteps (based s.start.tree) _ _ (λ v h.
      same_then AreProjects AreSteps _ _ (λ p q same i. at_once AreSteps _ _ (record { project = same; remaking = refl }) i)
      (project_at s r.book cwd) (project_at (other s) r.book cwd) h (projects s r.book cwd h)) g) f

  remades : (left : ℕ) (s : Site) (cwd : List ℕ) (r : Round) (goals : List (List ℕ)) (f : Files) → SameBy AreSteps (remade left s cwd r goals f) (remade left (other s) cwd r goals f)
  remades left s cwd r goals f =
      let here : Site = record s { order = round_order s.order goals } in
      same_then AreProjects AreSteps _ _ (λ p q same i. at_once AreSteps _ _ (record { project = same; remaking = refl }) i)
      (project_at here r.book cwd) (project_at (other here) r.book cwd) f (projects here r.book cwd f)

  goals : (left : ℕ) (s : Site) (cwd : List ℕ) (r : Round) (gs : List (List ℕ)) (f : Files) → SameBy AreSteps (by_goals left s cwd r gs f) (by_goals left (other s) cwd r gs f)
  goals left s cwd r [] f = finals s cwd r f
  goals left s cwd r (g ∷ gs) f = remades left s cwd r (g ∷ gs) f

  same_step : (c : Trace BuildStep) → SameBy AreSteps c c
  same_step c = record { calls = refl; end = same_end AreSteps (λ u. record { project = record { order = refl; outcomes = refl; plan = refl; goals = refl; start = refl; specs = refl }; remaking = refl }) c.end }

  rounds : (left : ℕ) (s : Site) (cwd : List ℕ) (f : Files) → SameBy AreSteps (round left s cwd f) (round left (other s) cwd f)
  unfolding round
  rounds zero s cwd f = same_step _
  rounds (suc left) s cwd f =
      behind AreSteps (based s.start.tree) _ _ (λ u g.
      behind AreSteps (round_of s.order s.start) _ _ (λ r h. goals left s cwd r (goals_of r s.start.tree cwd) h) g) f

  firsts_other : (s : Site) (f : Files) → SameBy AreSteps (first s f) (first (other s) f)
  firsts_other s f = behind AreSteps (entered s.start.tree s.order.dir) _ _ (λ cwd g. rounds 8 s cwd g) f

  followings_other : (m : Remaking) (s : Site) (f : Files) → SameBy AreSteps (following m s f) (following m (other s) f)
  followings_other m s f = same_if AreSteps (changed m.before s.start.tree m.goals m.cwd) _ _ _ _ f (rounds m.left s m.cwd f) (finals s m.cwd m.round f)

-- sites that are alike differ so
is_other : (s t : Site) → AreSites s t → other t.old t.earlier s ≡ t
is_other s t same = λ i. record { order = same.order i; start = same.start i; old = t.old; earlier = record { notes = t.earlier.notes; outcomes = same.outcomes i; shown = t.earlier.shown } }

alike : (x y : Result BuildStep BuildStatus) → EndBy AreSteps x y → EndAlike x y
alike (Ok u) (Ok v) e = e
alike (Ok u) (Err w) e = absurd e
alike (Err v) (Ok w) e = absurd e
alike (Err v) (Err w) e = e

to_same : (c d : Course BuildStep) (f : Files) → SameBy AreSteps (c f) (d f) → IsSame c d f
to_same c d f p = record { calls = p.calls; end = alike (c f).end (d f).end p.end }

pub firsts : (s t : Site) (f : Files) → AreSites s t → IsSame (first s) (first t) f
firsts s t f same = subst (λ (u : Site). IsSame (first s) (first u) f) (is_other s t same) (to_same (first s) _ f (firsts_other t.old t.earlier s f))

pub followings : (m : Remaking) (s t : Site) (f : Files) → AreSites s t → IsSame (following m s) (following m t) f
followings m s t f same = subst (λ (u : Site). IsSame (following m s) (following m u) f) (is_other s t same) (to_same (following m s) _ f (followings_other t.old t.earlier m s f))

pub moves : (order : Order) (p q : Project) (s : State) (notes others : List Note) → AreProjects p q → AreSites (moved order p.terms s notes) (moved order q.terms s others)
moves order p q s notes others same = record { order = refl; start = refl; outcomes = ap (λ (os : List Outcome). os ++ s.outcomes) same.outcomes }
