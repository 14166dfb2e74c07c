-- What is refused on the way to a step doesn't hang on the files that are there when it is worked
-- out.
--     IsSteady m             a course ends alike on all files
--     steady_first, steady_following      the ways to the first build, and to that behind a build
use Rattle.std.proofs.Common.{◌≡◌, ℕ, zero, suc, Bool, true, false, cond, List, [], ◌∷◌, Option, Some, None, Result, Ok, Err, refl, sym, subst, ◌∙◌}
use Rattle.std.specs.Prelude.{find, nat_lt, ◌^◌}
use Rattle.std.specs.FinMap.{get}
use Rattle.em_host.specs.declared.call.Call.{Call}
use Rattle.em_host.specs.Outside.{Files}
use Rattle.em_host.specs.Calls.{files_after}
use Rattle.em_tree.specs.Trees.{Table, base_of, kind_of}
use Rattle.em_tree.specs.Resolving.{node_behind}
use Rattle.em_tree.specs.declared.node.Kind.{Kind}
use Rattle.em_tree.specs.declared.node.Kind.TheVariants as kind
use Rattle.em_path.specs.declared.path.PathNo.{PathNo}
use Rattle.em_path.specs.Paths.{root_text}
use Rattle.em_path.specs.Reading.{read_fault, resolved_text}
use Rattle.em_rules.specs.declared.book.Book.{Book}
use Rattle.em_reading.specs.declared.no.ReadNo.{ReadNo}
use Rattle.em_reading.specs.declared.noted.Missing.{Missing}
use Rattle.em_reader.specs.declared.makefiles.Round.{Round}
use Rattle.em_plan.specs.declared.no.PlanNo.{PlanNo}
use Rattle.em_plan.specs.declared.planned.Plan.{Plan}
use Rattle.em_remake.specs.Remaking.{goals_of, changed}
use Rattle.em_program.specs.declared.rounds.Remaking.{Remaking}
use Rattle.em_program.specs.declared.rounds.BuildStep.{BuildStep}
use Rattle.em_program.specs.declared.site.Site.{Site}
use Rattle.em_program.specs.declared.verdict.BuildStatus.{BuildStatus}
use Rattle.em_program.specs.declared.verdict.BuildStatus.TheVariants.{Faulty}
use Rattle.em_program.specs.Course.{Course, go_on, ◌>>=◌, done, quit, say, stop}
use Rattle.em_program.specs.Projects.{as_dir, as_path, entered, as_round, round_of, as_plan, planned, project_at}
use Rattle.em_program.specs.Rounds.{based, is_lacking, refused_by, all_there, final, remade, by_goals, round, first, following}

pub ok_same : {A E : Type 0} {a b : A} → let x : Result A E = Ok a in let y : Result A E = Ok b in x ≡ y → a ≡ b
ok_same e = cc

pub ok_err : {A E : Type 0} {a : A} {e : E} → let x : Result A E = Ok a in let y : Result A E = Err e in x ≡ y → ⊥
ok_err e = cc

pub err_same : {A B E : Type 0} {d e : E} → (let x : Result A E = Err d in let y : Result A E = Err e in x ≡ y) → let x : Result B E = Err d in let y : Result B E = Err e in x ≡ y
err_same e = cc

abbrev pub IsSteady : {A : Type 0} → Course A → Type 0
IsSteady m = (f g : Files) → (m f).end ≡ (m g).end

module _ {A B : Type 0} (m : Course A) (k : A → Course B) where
  steady_on : (c d : List Call) (x y : Result A BuildStatus) (f g : Files) → x ≡ y → ((a : A) → IsSteady (k a)) → (go_on c x k f).end ≡ (go_on d y k g).end
  steady_on c d (Ok a) (Ok b) f g e later = subst (λ (z : A). (k a (files_after c f)).end ≡ (k z (files_after d g)).end) (ok_same e) (later a (files_after c f) (files_after d g))
  steady_on c d (Ok a) (Err v) f g e later = absurd (ok_err e)
  steady_on c d (Err v) (Ok b) f g e later = absurd (ok_err (sym e))
  steady_on c d (Err v) (Err w) f g e later = err_same e

  pub steady : IsSteady m → ((a : A) → IsSteady (k a)) → IsSteady (m >>= k)
  unfolding ◌>>=◌
  steady here later f g = steady_on (m f).calls (m g).calls (m f).end (m g).end f g (here f g) later

pub steady_done : {A : Type 0} (a : A) → IsSteady (done a)
unfolding done
steady_done a f g = refl

steady_say : (text : List ℕ) → IsSteady (say text)
unfolding say
steady_say text f g = refl

steady_stop : (A : Type 0) (text : List ℕ) (verdict : BuildStatus) → IsSteady (stop {A = A} text verdict)
unfolding quit
steady_stop A text verdict = steady (say text) (λ u. quit {A = A} verdict) (steady_say text) (λ u f g. refl)

steady_if : {A : Type 0} (b : Bool) (m n : Course A) → IsSteady m → IsSteady n → IsSteady (cond b m n)
steady_if true m n p q = p
steady_if false m n p q = q

-- ---- the parts before a build

steady_dir : (name path : List ℕ) (k : Kind) → IsSteady (as_dir name path k)
steady_dir name path kind.Dir = steady_done path
steady_dir name path kind.File = steady_stop _ _ Faulty
steady_dir name path kind.Absent = steady_stop _ _ Faulty
steady_dir name path kind.Link = steady_stop _ _ Faulty

steady_path : (t : Table) (name : List ℕ) (no : Option PathNo) → IsSteady (as_path t name no)
steady_path t name None = steady_dir name (resolved_text root_text name) (kind_of (node_behind t (resolved_text root_text name)))
steady_path t name (Some e) = steady_stop _ _ Faulty

steady_read : (read : Result (Round × List ℕ) (ReadNo × List ℕ)) → IsSteady (as_round read)
steady_read (Ok p) = steady (say p.1) _ (steady_say p.1) (λ u. steady_done p.0)
steady_read (Err p) = steady (say p.1) _ (steady_say p.1) (λ u. steady_stop _ _ Faulty)

steady_plan : (found : Bool) (plan : Result Plan PlanNo) → IsSteady (as_plan found plan)
steady_plan found (Ok plan) = steady (say plan.notes) _ (steady_say plan.notes) (λ u. steady_done plan)
steady_plan found (Err e) = steady_stop _ _ Faulty

steady_project : (s : Site) (book : Book) (cwd : List ℕ) → IsSteady (project_at s book cwd)
steady_project s book cwd = steady (planned book s.order s.start.tree cwd) _ (steady_plan book.found _) (λ plan. steady_done _)

steady_based : (t : Table) → IsSteady (based t)
steady_based t = steady_if (nat_lt (2 ^ 62) (base_of t)) _ _ (steady_stop _ _ Faulty) (steady_done tt)

steady_lacking : (m : Option Missing) → IsSteady (refused_by m)
steady_lacking None = steady_done tt
steady_lacking (Some m) = steady_stop _ _ Faulty

-- ---- the builds

steady_final : (s : Site) (cwd : List ℕ) (r : Round) → IsSteady (final s cwd r)
steady_final s cwd r =
    steady (all_there s.start.tree cwd r.missing) _ (steady_lacking (find (is_lacking s.start.tree cwd) r.missing)) (λ u.
    steady (based s.start.tree) _ (steady_based s.start.tree) (λ v.
    steady (project_at s r.book cwd) _ (steady_project s r.book cwd) (λ p. steady_done _)))

steady_goals : (left : ℕ) (s : Site) (cwd : List ℕ) (r : Round) (goals : List (List ℕ)) → IsSteady (by_goals left s cwd r goals)
steady_goals left s cwd r [] = steady_final s cwd r
steady_goals left s cwd r (g ∷ gs) = steady _ _ (steady_project _ r.book cwd) (λ p. steady_done _)

steady_round : (left : ℕ) (s : Site) (cwd : List ℕ) → IsSteady (round left s cwd)
unfolding round
steady_round zero s cwd = steady_stop _ _ Faulty
steady_round (suc left) s cwd =
    steady (based s.start.tree) _ (steady_based s.start.tree) (λ u.
    steady (round_of s.order s.start) _ (steady_read _) (λ r. steady_goals left s cwd r (goals_of r s.start.tree cwd)))

pub steady_first : (s : Site) → IsSteady (first s)
steady_first s = steady (entered s.start.tree s.order.dir) _ (steady_path s.start.tree s.order.dir (read_fault root_text s.order.dir)) (λ cwd. steady_round 8 s cwd)

pub steady_following : (m : Remaking) (s : Site) → IsSteady (following m s)
steady_following m s = steady_if (changed m.before s.start.tree m.goals m.cwd) _ _ (steady_round m.left s m.cwd) (steady_final s m.cwd m.round)
