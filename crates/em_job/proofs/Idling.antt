-- Jobs that change nothing.
--     Reads m           the steps change no file, and a value comes with the state as it was
--     IsPrepared Q m    what was prepared is an end of this kind, not lines to run
--     idle, asked, dry, bare      the laws
use Rattle.std.proofs.Common.{◌≡◌, ◌≢◌, ◌∙◌, ℕ, Bool, true, false, not, ◌&&◌, ◌||◌, cond, List, [], ◌∷◌, ◌++◌, Option, Some, None, Result, Ok, Err, refl, sym, ap, subst}
use Rattle.std.specs.Prelude.{All}
use Rattle.std.specs.List.{AllByRecursion}
use Rattle.std.proofs.lemmas.List.Elements.{recursion_from_All}
use Rattle.std.specs.FinMap.{empty}
use Rattle.em_base.specs.declared.place.Place.{Place}
use Rattle.em_tree.specs.declared.outcome.Outcome.{Outcome}
use Rattle.em_tree.specs.declared.outcome.Outcome.TheVariants as outcome
use Rattle.em_tree.specs.declared.state.State.{State}
use Rattle.em_tree.specs.Trees.{Changes}
use Rattle.em_view.specs.declared.effect.Effect.{Effect}
use Rattle.em_view.specs.Actions.{Workspace, Oracle, Action, ◌>>=◌, go_on, snapshot}
use Rattle.em_view.specs.Steps.{Steps, and_then, done, own, below, with_state}
use Rattle.em_run.specs.Meanings.{left_by, effect_by}
use Rattle.em_vars.specs.Entries.{Entries}
use Rattle.em_rules.specs.declared.rule.RecipeLine.{RecipeLine}
use Rattle.em_plan.specs.declared.planned.Pre.{Pre}
use Rattle.em_recipe.specs.Commands.{commands_of}
use Rattle.em_recipe.specs.Automatic.{texts}
use Rattle.em_expand.specs.declared.spoken.Spoken.{Spoken}
use Rattle.em_expand.specs.Layered.{with_own}
use Rattle.em_expand.proofs.Sparing.{Spares, SparesAll, spares_stamp, spares_outcome, all_then, all_done, all_own, all_below, all_within, all_expansion}
use Rattle.em_task.specs.declared.job.Job.{Job}
use Rattle.em_job.specs.declared.awaiting.Awaited.{Awaited}
use Rattle.em_job.specs.declared.awaiting.Ending.{Ending}
use Rattle.em_job.specs.declared.due.JobDecision.{JobDecision}
use Rattle.em_job.specs.declared.due.JobDecision.TheVariants as decision
use Rattle.em_job.specs.declared.prepare.RecipeStart.{RecipeStart}
use Rattle.em_job.specs.declared.prepare.Placed.{Placed}
use Rattle.em_job.specs.declared.prepare.Prepared.{Prepared}
use Rattle.em_job.specs.declared.prepare.Prepared.TheVariants.{Ended, Lines}
use Rattle.em_job.specs.declared.carry.LineEnd.{LineEnd}
use Rattle.em_job.specs.declared.carry.LineEnd.TheVariants as line_end
use Rattle.em_job.specs.declared.ready.ParsedLine.{ParsedLine}
use Rattle.em_job.specs.declared.stop.JobStop.{JobStop}
use Rattle.em_job.specs.declared.stop.JobStop.TheVariants as stop
use Rattle.em_job.specs.Stops.{Acts, early, of_expand}
use Rattle.em_job.specs.Deciding.{ending_of, await_job, together, await_jobs, unasked, awaited, await_normal, await_order, behind, prerequisites, path_of, stamp_by, stamp_of, stamps_of, newer_among, with_newer, is_newer, is_one_absent, is_due, reasons, unruled, by_recipe, decision as decided}
use Rattle.em_job.specs.Preparing.{Autos, say, no_evals, expand_at, placed, expand_lines, recipe_of, expand_recipe, no_rule, by_decision, decide, if_fine, prepare_with, prepare}
use Rattle.em_job.specs.Carrying.{AreRead, lines_in, course_of, echo, does_run, if_runs, run_line, is_lenient, after_line, fail, delete, turn_of, lines_by, lines_from, carry_out}
use Rattle.em_job.specs.Effects.{saying, silence, steps, closed, job, begin, result_of, lines_on, no_end, Makes}
use Rattle.em_job.specs.Ends.{is_idle, is_silent, AreUnforced}

-- ---- what is read before the recipe

module _ {S E : Type 0} where
  abbrev Stays : {A : Type 0} → Result (A × S) (E × S) → S → Type 0
  Stays (Ok p) s = p.1 ≡ s
  Stays (Err p) s = Unit {0}

  record Reads {A : Type 0} (m : Steps S E A) : Type 0 where
    spares : SparesAll m
    stays : (s : S) (o : Oracle) (w : Workspace) → Stays (m s o w).0 s

  reads_done : {A : Type 0} (a : A) → Reads (done {S = S} {E = E} a)
  unfolding done
  reads_done a = record { spares = all_done a; stays = λ s o w. refl }

  renamed_stays : {A : Type 0} (r : Result A E) (s : S) → Stays (with_state r s) s
  renamed_stays (Ok a) s = refl
  renamed_stays (Err e) s = tt

  reads_below : {D A : Type 0} (f : D → E) {m : Action D A} → Spares m → Reads (below {S = S} f m)
  unfolding below
  reads_below f h = record { spares = all_below f h; stays = λ s o w. renamed_stays _ s }

  module _ {A B : Type 0} where
    still_there : (k : A → Steps S E B) → ((a : A) → Reads (k a)) → (r : Result (A × S) (E × S)) (v : Workspace) (s : S) (o : Oracle) → Stays r s → Stays (go_on r v (λ p. k p.0 p.1) o).0 s
    still_there k h (Ok p) v s o e = subst (λ (t : S). Stays (k p.0 p.1 o v).0 t) e ((h p.0).stays p.1 o v)
    still_there k h (Err p) v s o e = tt

    reads_then : {m : Steps S E A} {k : A → Steps S E B} → Reads m → ((a : A) → Reads (k a)) → Reads (and_then m k)
    unfolding and_then ◌>>=◌
    reads_then {m} {k} first h = record {
      spares = all_then first.spares (λ a. (h a).spares);
      stays = λ s o w. still_there k h (m s o w).0 (m s o w).1 s o (first.stays s o w);
    }

reads_job : (dry : Bool) (n : ℕ) → Reads (await_job None dry n)
unfolding await_job
reads_job dry n = reads_then (reads_below early (spares_outcome n)) (λ o. reads_done _)

reads_jobs : (dry : Bool) (ns : List ℕ) (so_far : Ending) → Reads (await_jobs None dry ns so_far)
reads_jobs dry [] so_far = reads_done _
reads_jobs dry (n ∷ ns) so_far = reads_then (reads_job dry n) (λ e. reads_jobs dry ns (together so_far e))

reads_normal : (dry : Bool) (ps : List Pre) (so_far : List Awaited) (fine : Bool) → Reads (await_normal None dry ps so_far fine)
reads_normal dry [] so_far fine = reads_done _
reads_normal dry (p ∷ ps) so_far fine = reads_then (reads_jobs dry p.jobs unasked) (λ e. reads_normal dry ps (so_far ++ awaited p e ∷ []) (fine && e.fine))

reads_order : (ps : List Pre) (fine : Bool) → Reads (await_order None ps fine)
reads_order [] fine = reads_done _
reads_order (p ∷ ps) fine = reads_then (reads_jobs false p.jobs unasked) (λ e. reads_order ps (fine && e.fine))

unknown : (ps : List Pre) → behind ps None ≡ None
unknown [] = refl
unknown (p ∷ ps) = unknown ps

reads_prerequisites : (j : Job) → Reads (prerequisites None j)
unfolding prerequisites
reads_prerequisites j = reads_then (reads_normal j.flags.dry j.plan.normal [] true) (λ n. reads_then (rw (unknown j.plan.normal) (reads_order j.plan.order n.1)) (λ f. reads_done _))

reads_stamp : (cwd name : List ℕ) → Reads (stamp_of cwd name)
unfolding stamp_of
reads_stamp cwd name = by_path (path_of cwd name)
  where
    by_path : (p : Option (List ℕ)) → Reads (stamp_by p)
    by_path None = reads_done _
    by_path (Some p) = reads_below early (spares_stamp p)

reads_stamps : (cwd : List ℕ) (names : List (List ℕ)) (so_far : List (Option ℕ)) → Reads (stamps_of cwd names so_far)
reads_stamps cwd [] so_far = reads_done _
reads_stamps cwd (n ∷ ns) so_far = reads_then (reads_stamp cwd n) (λ stamp. reads_stamps cwd ns (so_far ++ stamp ∷ []))

reads_newer : (j : Job) (owns : List (Option ℕ)) (found : List Awaited) (so_far : List (List ℕ)) → Reads (newer_among j owns found so_far)
reads_newer j owns [] so_far = reads_done _
reads_newer j owns (a ∷ more) so_far = reads_then (reads_stamp j.cwd a.name) (λ stamp. reads_newer j owns more (with_newer (is_newer j owns a stamp) so_far a.name))

-- ---- preparing changes no file

spares_at : (j : Job) (autos : Autos) (p : Place) (text : List ℕ) → SparesAll (expand_at j autos p text)
unfolding expand_at
spares_at j autos p text = all_then (all_within _ _ (of_expand p) (all_expansion (with_own j.vars autos) j.cwd p text)) (λ t. all_then (all_own (no_evals p)) (λ u. all_done t))

spares_lines : (j : Job) (autos : Autos) (ls : List RecipeLine) (so_far : List Placed) → SparesAll (expand_lines j autos ls so_far)
spares_lines j autos [] so_far = all_done _
spares_lines j autos (l ∷ ls) so_far = all_then (spares_at j autos l.place l.text) (λ t. spares_lines j autos ls _)

spares_decided : (j : Job) (owns : List (Option ℕ)) (newer : List (List ℕ)) (v : JobDecision) → SparesAll (by_decision j owns newer v)
unfolding expand_recipe
spares_decided j owns newer (decision.Ended o) = all_done _
spares_decided j owns newer decision.NoRule = all_then (all_own _) (λ u. all_done _)
spares_decided j owns newer decision.Remake = all_then (spares_lines j _ _ []) (λ ls. all_done _)

spares_fine : (j : Job) (normal : List Awaited) (fine : Bool) → SparesAll (if_fine j normal fine)
unfolding decide
spares_fine j normal false = all_done _
spares_fine j normal true = all_then (reads_stamps j.cwd j.plan.targets []).spares (λ owns. all_then (reads_newer j owns normal []).spares (λ newer. spares_decided j owns newer _))

spares_prepare : (j : Job) → SparesAll (prepare j)
unfolding prepare_with
spares_prepare j = all_then (reads_prerequisites j).spares (λ p. spares_fine j p.0 p.1)

-- ---- a job that ends before its recipe

-- an end before the recipe comes with the files and the state as they were
abbrev IsAsBefore : Outcome → Spoken → Spoken → Type 0
IsAsBefore o s t = is_silent o ≡ true → t ≡ s

abbrev Idles : Result (Prepared × Spoken) (JobStop × Spoken) → Spoken → Type 0
Idles (Ok (Ended o, t)) s = IsAsBefore o s t
Idles (Ok (Lines x ps, t)) s = Unit {0}
Idles (Err p) s = Unit {0}

record Idle (m : Acts Prepared) : Type 0 where
  by : (s : Spoken) (o : Oracle) (w : Workspace) → Idles (m s o w).0 s

module _ {A : Type 0} where
  idles_on : (k : A → Acts Prepared) → ((a : A) → Idle (k a)) → (r : Result (A × Spoken) (JobStop × Spoken)) (v : Workspace) (s : Spoken) (o : Oracle) → Stays r s → Idles (go_on r v (λ p. k p.0 p.1) o).0 s
  idles_on k h (Ok p) v s o e = subst (λ (t : Spoken). Idles (k p.0 p.1 o v).0 t) e ((h p.0).by p.1 o v)
  idles_on k h (Err p) v s o e = tt

  idle_then : {m : Acts A} {k : A → Acts Prepared} → Reads m → ((a : A) → Idle (k a)) → Idle (and_then m k)
  unfolding and_then ◌>>=◌
  idle_then {m} {k} first h = record { by = λ s o w. idles_on k h (m s o w).0 (m s o w).1 s o (first.stays s o w) }

idle_ended : (o : Outcome) → Idle (done (Ended o))
unfolding done
idle_ended o = record { by = λ s a w _. refl }

idle_no_rule : (j : Job) → Idle (no_rule j)
unfolding and_then ◌>>=◌ own done
idle_no_rule j = record { by = λ s o w n. absurd (cc) }

-- lines to run are no end
abbrev NoEnd : Result (Prepared × Spoken) (JobStop × Spoken) → Type 0
NoEnd (Ok (Ended o, t)) = ⊥
NoEnd (Ok (Lines x ps, t)) = Unit {0}
NoEnd (Err p) = Unit {0}

idles_so : (r : Result (Prepared × Spoken) (JobStop × Spoken)) (s : Spoken) → NoEnd r → Idles r s
idles_so (Ok (Ended o, t)) s h = absurd h
idles_so (Ok (Lines x ps, t)) s h = tt
idles_so (Err p) s h = tt

abbrev to_run : List (Option ℕ) → Autos → List Placed → Acts Prepared
to_run owns autos ps = done (Lines (record { stamps = owns; autos = autos }) ps)

idle_lines : (j : Job) (owns : List (Option ℕ)) (names : List (List ℕ)) → Idle (expand_recipe j owns names)
unfolding expand_recipe and_then ◌>>=◌ done
idle_lines j owns names = record {
  by = λ s o w. let z = expand_lines j (texts j.plan names) (recipe_of j) [] s o w in idles_so (expand_recipe j owns names s o w).0 s (by_lines z.0 z.1 o);
}
  where
    by_lines : (r : Result (List Placed × Spoken) (JobStop × Spoken)) (v : Workspace) (o : Oracle) → NoEnd (go_on r v (λ p. to_run owns (texts j.plan names) p.0 p.1) o).0
    by_lines (Ok p) v o = tt
    by_lines (Err p) v o = tt

idle_decided : (j : Job) (owns : List (Option ℕ)) (newer : List (List ℕ)) (v : JobDecision) → Idle (by_decision j owns newer v)
idle_decided j owns newer (decision.Ended o) = idle_ended o
idle_decided j owns newer decision.NoRule = idle_no_rule j
idle_decided j owns newer decision.Remake = idle_lines j owns _

idle_fine : (j : Job) (normal : List Awaited) (fine : Bool) → Idle (if_fine j normal fine)
unfolding decide
idle_fine j normal false = idle_ended _
idle_fine j normal true = idle_then (reads_stamps j.cwd j.plan.targets []) (λ owns. idle_then (reads_newer j owns normal []) (λ newer. idle_decided j owns newer _))

idle_prepare : (j : Job) → Idle (prepare j)
unfolding prepare_with
idle_prepare j = idle_then (reads_prerequisites j) (λ p. idle_fine j p.0 p.1)

-- ---- a job whose recipe has begun ends as made, or as failed

abbrev Works : Result (Outcome × Spoken) (JobStop × Spoken) → Type 0
Works (Ok p) = is_idle p.0 ≡ false
Works (Err p) = Unit {0}

record Busy (m : Acts Outcome) : Type 0 where
  by : (s : Spoken) (o : Oracle) (w : Workspace) → Works (m s o w).0

abbrev Turns : Result (LineEnd × Spoken) (JobStop × Spoken) → Type 0
Turns (Ok (line_end.Next env, t)) = Unit {0}
Turns (Ok (line_end.Ended o, t)) = is_idle o ≡ false
Turns (Err p) = Unit {0}

record BusyTurn (m : Acts LineEnd) : Type 0 where
  by : (s : Spoken) (o : Oracle) (w : Workspace) → Turns (m s o w).0

module _ {A : Type 0} where
  turns_on : (k : A → Acts LineEnd) → ((a : A) → BusyTurn (k a)) → (r : Result (A × Spoken) (JobStop × Spoken)) (v : Workspace) (o : Oracle) → Turns (go_on r v (λ p. k p.0 p.1) o).0
  turns_on k h (Ok p) v o = (h p.0).by p.1 o v
  turns_on k h (Err p) v o = tt

  turn_then : (m : Acts A) {k : A → Acts LineEnd} → ((a : A) → BusyTurn (k a)) → BusyTurn (and_then m k)
  unfolding and_then ◌>>=◌
  turn_then m {k} h = record { by = λ s o w. turns_on k h (m s o w).0 (m s o w).1 o }

  works_on : (k : A → Acts Outcome) → ((a : A) → Busy (k a)) → (r : Result (A × Spoken) (JobStop × Spoken)) (v : Workspace) (o : Oracle) → Works (go_on r v (λ p. k p.0 p.1) o).0
  works_on k h (Ok p) v o = (h p.0).by p.1 o v
  works_on k h (Err p) v o = tt

  busy_then : (m : Acts A) {k : A → Acts Outcome} → ((a : A) → Busy (k a)) → Busy (and_then m k)
  unfolding and_then ◌>>=◌
  busy_then m {k} h = record { by = λ s o w. works_on k h (m s o w).0 (m s o w).1 o }

turn_next : (env : Option Entries) → BusyTurn (done (line_end.Next env))
unfolding done
turn_next env = record { by = λ s o w. tt }

turn_by : {m n : Acts LineEnd} (b : Bool) → BusyTurn m → BusyTurn n → BusyTurn (cond b m n)
turn_by true h g = h
turn_by false h g = g

busy_fail : (j : Job) (befores : List (Option ℕ)) (p : Place) (status : ℕ) → Busy (fail j befores p status)
unfolding fail done
busy_fail j befores p status = busy_then _ (λ u. busy_then _ (λ v. busy_failed))
  where
    busy_failed : Busy (done (outcome.Failed status))
    busy_failed = record { by = λ s o w. refl }

abbrev to_end : Outcome → Acts LineEnd
to_end o = done (line_end.Ended o)

stopped : (m : Acts Outcome) → Busy m → BusyTurn (and_then m to_end)
unfolding and_then ◌>>=◌ done
stopped m h = record { by = λ s o w. by_end (m s o w).0 (m s o w).1 o (h.by s o w) }
  where
    by_end : (r : Result (Outcome × Spoken) (JobStop × Spoken)) (v : Workspace) (o : Oracle) → Works r → Turns (go_on r v (λ p. to_end p.0 p.1) o).0
    by_end (Ok p) v o e = e
    by_end (Err p) v o e = tt

busy_turn : (j : Job) (x : RecipeStart) (env : Option Entries) (r : ParsedLine) → BusyTurn (turn_of j x env r)
unfolding turn_of
busy_turn j x env r = turn_then _ (λ ran. turn_by _ (turn_next ran.0) (turn_by (is_lenient j r.placed) (turn_then _ (λ u. turn_next ran.0)) (stopped _ (busy_fail j x.stamps r.placed.place ran.1))))

lines_go : (rest : Option Entries → Acts Outcome) → ((env : Option Entries) → Busy (rest env)) → (r : Result (LineEnd × Spoken) (JobStop × Spoken)) (v : Workspace) (o : Oracle) → Turns r → Works (go_on r v (λ p. lines_by rest p.0 p.1) o).0
unfolding done
lines_go rest h (Ok (line_end.Next env, t)) v o e = (h env).by t o v
lines_go rest h (Ok (line_end.Ended out, t)) v o e = e
lines_go rest h (Err p) v o e = tt

busy_lines : (j : Job) (x : RecipeStart) (env : Option Entries) (rs : List ParsedLine) → Busy (lines_from j x env rs)
unfolding and_then ◌>>=◌ done
busy_lines j x env [] = record { by = λ s o w. refl }
busy_lines j x env (r ∷ rs) = record {
  by = λ s o w. lines_go (λ next. lines_from j x next rs) (λ next. busy_lines j x next rs) (turn_of j x env r s o w).0 (turn_of j x env r s o w).1 o ((busy_turn j x env r).by s o w);
}

-- ---- from a job's steps to its effect

abbrev Finish : Type 0
Finish = Result (Outcome × Spoken) (JobStop × Spoken)

-- an idle end comes with the files as they were, a silent one with the state too
abbrev IdleEnd : Finish → Spoken → Changes → Changes → Type 0
IdleEnd (Ok p) s c d = is_idle p.0 ≡ true → (d ≡ c) × IsAsBefore p.0 s p.1
IdleEnd (Err p) s c d = Unit {0}

both_ways : {b : Bool} → b ≡ false → b ≡ true → ⊥
both_ways e f = absurd (let no : true ≡ false = sym f ∙ e in cc)

idle_steps : (j : Job) (ready : List ParsedLine) (s : Spoken) (o : Oracle) (w : Workspace) → IdleEnd (steps j ready s o w).0 s w.changes (steps j ready s o w).1.changes
unfolding steps and_then ◌>>=◌ done
idle_steps j ready s o w = by_prepared (prepare j s o w).0 (prepare j s o w).1 (((spares_prepare j).at s).by o w) ((idle_prepare j).by s o w)
  where
    busy_end : (r : Finish) (c d : Changes) → Works r → IdleEnd r s c d
    busy_end (Ok p) c d e = λ idle. absurd (both_ways e idle)
    busy_end (Err p) c d e = tt

    by_prepared : (r : Result (Prepared × Spoken) (JobStop × Spoken)) (v : Workspace) → v.changes ≡ w.changes → Idles r s
        → IdleEnd (go_on r v (λ p. carry_out j (course_of ready p.0) p.1) o).0 s w.changes (go_on r v (λ p. carry_out j (course_of ready p.0) p.1) o).1.changes
    by_prepared (Ok (Ended out, t)) v e h = λ idle. (e, h)
    by_prepared (Ok (Lines x ps, t)) v e h = busy_end (lines_from j x None ready t o v).0 w.changes (lines_from j x None ready t o v).1.changes ((busy_lines j x None ready).by t o v)
    by_prepared (Err p) v e h = tt

-- the effect is that of the steps
effect_is : (target : List ℕ) (r : Finish) (w : Workspace) → (left_by no_end (closed target r) w).changes ≡ w.changes
effect_is target (Ok (o, t)) w = refl
effect_is target (Err (stop.Early, t)) w = refl
effect_is target (Err (stop.Spent p, t)) w = refl
effect_is target (Err (stop.Refused c p, t)) w = refl
effect_is target (Err (stop.Halted x p, t)) w = refl
effect_is target (Err (stop.NoMemory, t)) w = refl

-- what was idle is told so
idle_end : (target : List ℕ) (r : Finish) (w : Workspace) (s : Spoken) (c : Changes) → IdleEnd r s c w.changes
    → is_idle (left_by no_end (closed target r) w).outcome ≡ true → (w.changes ≡ c) × (is_silent (left_by no_end (closed target r) w).outcome ≡ true → (left_by no_end (closed target r) w).output ≡ s.said)
idle_end target (Ok (o, t)) w s c h idle = let is = h idle in (is.0, λ silent. ap (λ (u : Spoken). u.said) (is.1 silent))
idle_end target (Err (stop.Early, t)) w s c h idle = absurd (cc)
idle_end target (Err (stop.Spent p, t)) w s c h idle = absurd (cc)
idle_end target (Err (stop.Refused x p, t)) w s c h idle = absurd (cc)
idle_end target (Err (stop.Halted x p, t)) w s c h idle = absurd (cc)
idle_end target (Err (stop.NoMemory, t)) w s c h idle = absurd (cc)

idle_is : (o : Outcome) → is_silent o ≡ true → is_idle o ≡ true
idle_is outcome.Upto e = refl
idle_is outcome.Counted e = refl
idle_is outcome.Made e = e
idle_is outcome.Skipped e = refl
idle_is outcome.NoRule e = refl
idle_is (outcome.Failed status) e = e
idle_is (outcome.Halted t p) e = e
idle_is (outcome.Refused c p) e = e
idle_is outcome.Spent e = e

module _ (j : Job) (s : State) (e : Effect) (n : ℕ) (makes : Makes j s e n) where
  abbrev Steps-end : Type 0
  Steps-end = Finish × Workspace

  abbrev did : Steps-end
  did = steps j makes.ready silence (snapshot s) (begin j)

  is_effect : e ≡ left_by no_end (closed j.plan.target did.0) did.1
  unfolding effect_by job
  is_effect = makes.effect

  same_changes : e.changes ≡ did.1.changes
  same_changes = ap (λ (x : Effect). x.changes) is_effect ∙ effect_is j.plan.target did.0 did.1

  ended : is_idle e.outcome ≡ true → (did.1.changes ≡ empty) × (is_silent (left_by no_end (closed j.plan.target did.0) did.1).outcome ≡ true → (left_by no_end (closed j.plan.target did.0) did.1).output ≡ [])
  ended idle = idle_end j.plan.target did.0 did.1 silence empty (idle_steps j makes.ready silence (snapshot s) (begin j)) (sym (ap (λ (x : Effect). is_idle x.outcome) is_effect) ∙ idle)

  pub idle_changes : is_idle e.outcome ≡ true → e.changes ≡ empty
  idle_changes idle = same_changes ∙ (ended idle).0

  pub idle_says : is_silent e.outcome ≡ true → e.output ≡ []
  idle_says silent = ap (λ (x : Effect). x.output) is_effect ∙ (ended (idle_is e.outcome silent)).1 (sym (ap (λ (x : Effect). is_silent x.outcome) is_effect) ∙ silent)

-- ---- jobs that never come to a recipe

module _ (Q : Outcome → Type 0) where
  abbrev Prepares : Result (Prepared × Spoken) (JobStop × Spoken) → Type 0
  Prepares (Ok (Ended o, t)) = Q o
  Prepares (Ok (Lines x ps, t)) = ⊥
  Prepares (Err p) = Unit {0}

  record IsPrepared (m : Acts Prepared) : Type 0 where
    by : (s : Spoken) (o : Oracle) (w : Workspace) → Prepares (m s o w).0

  module _ {A : Type 0} where
    prepares_on : (k : A → Acts Prepared) → ((a : A) → IsPrepared (k a)) → (r : Result (A × Spoken) (JobStop × Spoken)) (v : Workspace) (o : Oracle) → Prepares (go_on r v (λ p. k p.0 p.1) o).0
    prepares_on k h (Ok p) v o = (h p.0).by p.1 o v
    prepares_on k h (Err p) v o = tt

    prepared_then : (m : Acts A) {k : A → Acts Prepared} → ((a : A) → IsPrepared (k a)) → IsPrepared (and_then m k)
    unfolding and_then ◌>>=◌
    prepared_then m {k} h = record { by = λ s o w. prepares_on k h (m s o w).0 (m s o w).1 o }

  prepared_done : (o : Outcome) → Q o → IsPrepared (done (Ended o))
  unfolding done
  prepared_done o q = record { by = λ s a w. q }

  abbrev Decides : JobDecision → Type 0
  Decides (decision.Ended o) = Q o
  Decides decision.NoRule = Q outcome.NoRule
  Decides decision.Remake = ⊥

  prepared_decided : (j : Job) (owns : List (Option ℕ)) (newer : List (List ℕ)) (v : JobDecision) → Decides v → IsPrepared (by_decision j owns newer v)
  prepared_decided j owns newer (decision.Ended o) q = prepared_done o q
  prepared_decided j owns newer decision.NoRule q = prepared_then _ (λ u. prepared_done outcome.NoRule q)
  prepared_decided j owns newer decision.Remake q = absurd q

  module _ (j : Job) (all : (owns : List (Option ℕ)) (newer : List (List ℕ)) → Decides (decided j owns newer)) (skipped : Q outcome.Skipped) where
    prepared_fine : (normal : List Awaited) (fine : Bool) → IsPrepared (if_fine j normal fine)
    unfolding decide
    prepared_fine normal false = prepared_done outcome.Skipped skipped
    prepared_fine normal true = prepared_then _ (λ owns. prepared_then _ (λ newer. prepared_decided j owns newer _ (all owns newer)))

    prepared_all : IsPrepared (prepare j)
    unfolding prepare_with
    prepared_all = prepared_then _ (λ p. prepared_fine p.0 p.1)

    -- the steps end so, with the files as they were
    abbrev EndsSo : Finish → Changes → Changes → Type 0
    EndsSo (Ok p) c d = Q p.0 × (d ≡ c)
    EndsSo (Err p) c d = d ≡ c

    ends_so : (ready : List ParsedLine) (s : Spoken) (o : Oracle) (w : Workspace) → EndsSo (steps j ready s o w).0 w.changes (steps j ready s o w).1.changes
    unfolding steps and_then ◌>>=◌ done
    ends_so ready s o w = by_prepared (prepare j s o w).0 (prepare j s o w).1 (((spares_prepare j).at s).by o w) (prepared_all.by s o w)
      where
        by_prepared : (r : Result (Prepared × Spoken) (JobStop × Spoken)) (v : Workspace) → v.changes ≡ w.changes → Prepares r
            → EndsSo (go_on r v (λ p. carry_out j (course_of ready p.0) p.1) o).0 w.changes (go_on r v (λ p. carry_out j (course_of ready p.0) p.1) o).1.changes
        by_prepared (Ok (Ended out, t)) v e h = (h, e)
        by_prepared (Ok (Lines x ps, t)) v e h = absurd h
        by_prepared (Err p) v e h = e

    changes_so : (r : Finish) (c d : Changes) → EndsSo r c d → d ≡ c
    changes_so (Ok p) c d h = h.1
    changes_so (Err p) c d h = h

    pub nothing_changed : (s : State) (e : Effect) (n : ℕ) → Makes j s e n → e.changes ≡ empty
    nothing_changed s e n makes = same_changes j s e n makes ∙ changes_so (did j s e n makes).0 empty (did j s e n makes).1.changes (ends_so makes.ready silence (snapshot s) (begin j))

    -- no stop ends as one that is made
    pub outcome_so : (s : State) (e : Effect) (n : ℕ) → ((o : Outcome) → Q o → o ≢ outcome.Made) → Makes j s e n → e.outcome ≢ outcome.Made
    outcome_so s e n other makes is = by_end (did j s e n makes).0 (did j s e n makes).1 (ends_so makes.ready silence (snapshot s) (begin j)) (sym (ap (λ (x : Effect). x.outcome) (is_effect j s e n makes)) ∙ is)
      where
        by_end : (r : Finish) (w : Workspace) → EndsSo r empty w.changes → (left_by no_end (closed j.plan.target r) w).outcome ≡ outcome.Made → ⊥
        by_end (Ok (o, t)) w h made = other o h.0 made
        by_end (Err (stop.Early, t)) w h made = absurd (cc)
        by_end (Err (stop.Spent p, t)) w h made = absurd (cc)
        by_end (Err (stop.Refused x p, t)) w h made = absurd (cc)
        by_end (Err (stop.Halted x p, t)) w h made = absurd (cc)
        by_end (Err (stop.NoMemory, t)) w h made = absurd (cc)

-- under `-q`
abbrev Any : Outcome → Type 0
Any o = Unit {0}

question_decides : (absent : Bool) (recipe : Option (List RecipeLine)) (due question known : Bool) → question ≡ true → Decides Any (cond (not known) (unruled absent) (by_recipe recipe due question))
question_decides true recipe due question false e = tt
question_decides false recipe due question false e = tt
question_decides absent None due question true e = tt
question_decides absent (Some lines) false question true e = tt
question_decides absent (Some lines) true true true e = tt
question_decides absent (Some lines) true false true e = absurd (cc)

pub question_changes : (j : Job) (s : State) (e : Effect) (n : ℕ) → Makes j s e n → j.flags.question ≡ true → e.changes ≡ empty
question_changes j s e n makes asked = nothing_changed Any j (λ owns newer. question_decides (is_one_absent owns) j.plan.recipe (is_due j owns newer) j.flags.question (j.plan.phony || j.plan.ruled) asked) tt s e n makes

-- without a recipe
abbrev Unmade : Outcome → Type 0
Unmade o = o ≢ outcome.Made

bare_decides : (absent : Bool) (recipe : Option (List RecipeLine)) (due question known : Bool) → recipe ≡ None → Decides Unmade (cond (not known) (unruled absent) (by_recipe recipe due question))
bare_decides true recipe due question false e = λ h. absurd (cc)
bare_decides false recipe due question false e = λ h. absurd (cc)
bare_decides absent None false question true e = λ h. absurd (cc)
bare_decides absent None true question true e = λ h. absurd (cc)
bare_decides absent (Some lines) due question true e = absurd (cc)

module _ (j : Job) (s : State) (e : Effect) (n : ℕ) (makes : Makes j s e n) (none : j.plan.recipe ≡ None) where
  all_bare : (owns : List (Option ℕ)) (newer : List (List ℕ)) → Decides Unmade (decided j owns newer)
  all_bare owns newer = bare_decides (is_one_absent owns) j.plan.recipe (is_due j owns newer) j.flags.question (j.plan.phony || j.plan.ruled) none

  pub bare_changes : e.changes ≡ empty
  bare_changes = nothing_changed Unmade j all_bare (λ h. absurd (cc)) s e n makes

  pub bare_made : e.outcome ≢ outcome.Made
  bare_made = outcome_so Unmade j all_bare (λ h. absurd (cc)) s e n (λ o q. q) makes

-- ---- under `-n`

module _ (j : Job) (dry : j.flags.dry ≡ true) where
  shown_only : (l : Placed) → l.command.marks.forced ≡ false → does_run j l ≡ false
  shown_only l e = ap (λ (b : Bool). not b || l.command.marks.forced) dry ∙ e

  dry_turn : (x : RecipeStart) (env : Option Entries) (r : ParsedLine) (s : Spoken) (o : Oracle) (w : Workspace) → r.placed.command.marks.forced ≡ false
      → turn_of j x env r s o w ≡ (Ok (line_end.Next env, record s { said = s.said ++ echo j r.placed }), w)
  unfolding turn_of run_line and_then ◌>>=◌ own done
  dry_turn x env r s o w e =
      ap (λ (b : Bool). and_then (and_then (own (say (echo j r.placed))) (λ u. if_runs j x.autos env r.placed r.line b)) (λ ran. after_line j x.stamps r.placed ran.0 ran.1) s o w) (shown_only r.placed e)

  abbrev Unforced : List Placed → Type 0
  Unforced ps = AllByRecursion (λ p. p.command.marks.forced ≡ false) ps

  dry_lines : (x : RecipeStart) (env : Option Entries) (ps : List Placed) (rs : List ParsedLine) → AreRead ps rs → Unforced ps → SparesAll (lines_from j x env rs)
  unfolding and_then ◌>>=◌
  dry_lines x env [] [] read none = all_done _
  dry_lines x env [] (r ∷ rs) read none = absurd read
  dry_lines x env (p ∷ ps) [] read none = absurd read
  dry_lines x env (p ∷ ps) (r ∷ rs) read none =
      let forced : r.placed.command.marks.forced ≡ false = ap (λ (l : Placed). l.command.marks.forced) read.0 ∙ none.0 in
      let more = dry_lines x env ps rs read.1.1 none.1 in
      record {
        at = λ s. record {
          by = λ o w.
              ap (λ (z : Result (LineEnd × Spoken) (JobStop × Spoken) × Workspace). (go_on z.0 z.1 (λ q. lines_by (λ next. lines_from j x next rs) q.0 q.1) o).1.changes) (dry_turn x env r s o w forced)
              ∙ (more.at (record s { said = s.said ++ echo j r.placed })).by o w;
        };
      }

  pub dry_changes : (s : State) (e : Effect) (n : ℕ) → Makes j s e n → AreUnforced (lines_on j s) → e.changes ≡ empty
  unfolding lines_on steps and_then ◌>>=◌ done
  dry_changes s e n makes none = same_changes j s e n makes ∙ by_prepared (prepare j silence (snapshot s) (begin j)).0 (prepare j silence (snapshot s) (begin j)).1 (((spares_prepare j).at silence).by (snapshot s) (begin j)) makes.read none
    where
      by_prepared : (r : Result (Prepared × Spoken) (JobStop × Spoken)) (v : Workspace) → v.changes ≡ empty → AreRead (lines_in (result_of r)) makes.ready → AreUnforced (lines_in (result_of r))
          → (go_on r v (λ p. carry_out j (course_of makes.ready p.0) p.1) (snapshot s)).1.changes ≡ empty
      by_prepared (Ok (Ended out, t)) v h read free = h
      by_prepared (Ok (Lines x ps, t)) v h read free = ((dry_lines x None ps makes.ready read (recursion_from_All (λ p. p.command.marks.forced ≡ false) ps free)).at t).by (snapshot s) v ∙ h
      by_prepared (Err p) v h read free = h
