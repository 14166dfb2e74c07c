-- Ways that come to one end at most.
--     IsUnique m                 they do
--     one_then, one_pick, one_only     ways put together
--     one_strand, one_job, one_make    a strand, a job, and a line's make
use Rattle.std.proofs.Common.{◌≡◌, ℕ, zero, suc, Bool, true, false, List, [], ◌∷◌, ◌++◌, length, Result, Ok, Err, sym, subst, ◌∙◌}
use Rattle.em_base.specs.declared.memory.NoMemory.{NoMemory}
use Rattle.em_tree.specs.declared.outcome.Outcome.{Outcome}
use Rattle.em_view.specs.Actions.{Workspace, Oracle}
use Rattle.em_rules.specs.declared.book.Book.{Book}
use Rattle.em_plan.specs.declared.planned.Plan.{Plan}
use Rattle.em_plan.specs.declared.planned.PlanJob.{PlanJob}
use Rattle.em_closing.specs.Closing.{closing, goals_of}
use Rattle.em_task.specs.Endings.{ends_after, flags_of}
use Rattle.em_exec.specs.declared.turn.SubLine.{SubLine}
use Rattle.em_script.specs.Strands.{Meaning, IsMeant, Back, Status, Spent, Strand, Over, Pause, Read, Plot}
use Rattle.em_submake.specs.declared.ground.Ground.{Ground}
use Rattle.em_submake.specs.declared.ground.Ground.TheVariants as ground
use Rattle.em_submake.specs.Ways.{Ended, Ways, and_then, done, stop, put, pick, goes_on, IsOnly, only}
use Rattle.em_submake.specs.Submakes.{Said, ground_of, ends_all, status_of, close, spun, whole, known_of, after_job, jobs_from, by_ground, deeper_at}

abbrev pub IsUnique : {A : Type 0} → Ways A → Type 0
IsUnique {A} m = (out : List ℕ) (o : Oracle) (w : Workspace) (y z : Ended A) → m out o w y → m out o w z → y ≡ z

one_rest : {A B : Type 0} (k : A → Ways B) → ((a : A) → IsUnique (k a)) → (r : Result (A × List ℕ) (Outcome × List ℕ)) (v : Workspace) (o : Oracle) (y z : Ended B) → goes_on r v k o y → goes_on r v k o z → y ≡ z
one_rest k one (Ok p) v o y z g h = one p.0 p.1 o v y z g h
one_rest k one (Err p) v o y z g h = g ∙ sym h

pub one_then : {A B : Type 0} (m : Ways A) (k : A → Ways B) → IsUnique m → ((a : A) → IsUnique (k a)) → IsUnique (and_then m k)
one_then {A} {B} m k first rest out o w y z g h =
    let same = first out o w g.0 h.0 g.1.0 h.1.0 in
    one_rest k rest h.0.0 h.0.1 o y z (subst (λ (x : Ended A). goes_on x.0 x.1 k o y) same g.1.1) h.1.1

pub one_pick : {A : Type 0} (b : Bool) (m k : Ways A) → IsUnique m → IsUnique k → IsUnique (pick b m k)
one_pick true m k first other = first
one_pick false m k first other = other

one_end : {A : Type 0} (r : Result (A × List ℕ) (NoMemory × List ℕ)) (v : Workspace) (y z : Ended A) → IsOnly r v y → IsOnly r v z → y ≡ z
one_end (Ok p) v y z g h = g ∙ sym h
one_end (Err p) v y z g h = absurd g

pub one_only : {A : Type 0} (m : Said A) → IsUnique (only m)
one_only m out o w y z g h = one_end (m out o w).0 (m out o w).1 y z g h

one_done : {A : Type 0} (a : A) → IsUnique (done a)
one_done a out o w y z g h = g ∙ sym h

one_stop : {A : Type 0} (e : Outcome) → IsUnique (stop {A = A} e)
one_stop e out o w y z g h = g ∙ sym h

one_put : (text : List ℕ) → IsUnique (put text)
one_put text out o w y z g h = g ∙ sym h

module _ (one_text : (text : List ℕ) (a b : Meaning) → IsMeant text a → IsMeant text b → a ≡ b) where
  module _ (deeper : SubLine → Ways Back) (one : (l : SubLine) → IsUnique (deeper l)) where
    pub one_strand : (s : Strand) (o : Oracle) (y z : Ended Outcome) → spun deeper s o y → spun deeper s o z → y ≡ z
    one_strand (Over a out w) o y z g h = g ∙ sym h
    one_strand (Pause l out w k) o y z g h = one_then (deeper l) (λ b t p v. spun deeper (k b t p v) p) (one l) (λ b t p v x u i j. one_strand (k b t p v) p x u i j) out o w y z g h
    one_strand (Read text k) o y z g h = one_strand (k h.0) o y z (subst (λ (m : Meaning). spun deeper (k m) o y) (one_text text g.0 h.0 g.1.0 h.1.0) g.1.1) h.1.1

    pub one_job : (plot : Plot) → IsUnique (whole deeper plot)
    unfolding whole
    one_job plot out o w y z g h = one_strand (plot out o w) o y z g h

  module _ (job_of : SubLine → Plan → ℕ → Book → List Outcome → Plot) where
    one_close : (l : SubLine) (book : Book) (plan : Plan) (os : List Outcome) (early : Bool) → IsUnique (close l book plan os early)
    one_close l book plan os early = one_then (put (closing l.order.silent plan os (goals_of book l.order.goals) early)) (λ u. done (Status (status_of os))) (one_put (closing l.order.silent plan os (goals_of book l.order.goals) early)) (λ u. one_done (Status (status_of os)))

    one_jobs : (deeper : SubLine → Ways Back) → ((l : SubLine) → IsUnique (deeper l)) → (l : SubLine) (book : Book) (plan : Plan) (ps : List PlanJob) (os : List Outcome) → IsUnique (jobs_from job_of deeper l book plan ps os)
    one_jobs deeper one l book plan [] os = one_close l book plan os false
    one_jobs deeper one l book plan (p ∷ ps) os = one_then (whole deeper (job_of l plan (length os) book (known_of os p))) (λ a. after_job job_of l book plan os a (jobs_from job_of deeper l book plan ps (os ++ a ∷ [])))
        (one_job deeper one (job_of l plan (length os) book (known_of os p)))
        (λ a. one_pick (ends_all a) (stop a) (pick (ends_after (flags_of l.order) a) (close l book plan (os ++ a ∷ []) true) (jobs_from job_of deeper l book plan ps (os ++ a ∷ []))) (one_stop a)
        (one_pick (ends_after (flags_of l.order) a) (close l book plan (os ++ a ∷ []) true) (jobs_from job_of deeper l book plan ps (os ++ a ∷ [])) (one_close l book plan (os ++ a ∷ []) true) (one_jobs deeper one l book plan ps (os ++ a ∷ []))))

    one_ground : (deeper : SubLine → Ways Back) → ((l : SubLine) → IsUnique (deeper l)) → (l : SubLine) (g : Ground) → IsUnique (by_ground job_of deeper l g)
    one_ground deeper one l (ground.Planned book plan) = one_jobs deeper one l book plan plan.jobs []
    one_ground deeper one l (ground.Ended status) = one_done (Status status)
    one_ground deeper one l ground.Spent = one_done Spent

    pub one_make : (left : ℕ) (l : SubLine) → IsUnique (deeper_at job_of left l)
    one_make zero l = one_done (Status 2)
    one_make (suc left) l = one_then (only (ground_of l)) (by_ground job_of (deeper_at job_of left) l) (one_only (ground_of l)) (one_ground (deeper_at job_of left) (one_make left) l)
