-- A job without a recipe has no lines.
--     is_plain      so none of them begins a make
use Rattle.std.proofs.Common.{◌≡◌, ℕ, Bool, true, false, not, ◌||◌, cond, List, [], Option, Some, None, Result, Ok, Err, refl}
use Rattle.std.proofs.lemmas.List.Elements.{All-nil, All-same}
use Rattle.em_tree.specs.declared.outcome.Outcome.{Outcome}
use Rattle.em_tree.specs.declared.outcome.Outcome.TheVariants as outcome
use Rattle.em_tree.specs.declared.state.State.{State}
use Rattle.em_view.specs.Actions.{Workspace, Oracle, ◌>>=◌, go_on, snapshot}
use Rattle.em_view.specs.Steps.{and_then, done}
use Rattle.em_rules.specs.declared.rule.RecipeLine.{RecipeLine}
use Rattle.em_expand.specs.declared.spoken.Spoken.{Spoken}
use Rattle.em_task.specs.declared.job.Job.{Job}
use Rattle.em_job.specs.declared.prepare.Placed.{Placed}
use Rattle.em_job.specs.declared.prepare.Prepared.{Prepared}
use Rattle.em_job.specs.declared.prepare.Prepared.TheVariants.{Ended}
use Rattle.em_job.specs.declared.stop.JobStop.{JobStop}
use Rattle.em_job.specs.Stops.{Acts}
use Rattle.em_job.specs.Deciding.{is_one_absent, is_due, unruled, by_recipe}
use Rattle.em_job.specs.Preparing.{by_decision, decide, if_fine, prepare_with, prepare}
use Rattle.em_job.specs.Carrying.{lines_in}
use Rattle.em_job.specs.Effects.{silence, begin, result_of, lines_on}
use Rattle.em_nesting_laws.specs.Plain.{BeginsNoMake, IsPlain}

record HasNoLines (m : Acts Prepared) : Type 0 where
  by : (s : Spoken) (o : Oracle) (w : Workspace) → lines_in (result_of (m s o w).0) ≡ []

module _ {A : Type 0} where
  no_more : (k : A → Acts Prepared) → ((a : A) → HasNoLines (k a)) → (r : Result (A × Spoken) (JobStop × Spoken)) (v : Workspace) (o : Oracle) → lines_in (result_of (go_on r v (λ p. k p.0 p.1) o).0) ≡ []
  no_more k h (Ok p) v o = (h p.0).by p.1 o v
  no_more k h (Err p) v o = refl

  none_then : (m : Acts A) {k : A → Acts Prepared} → ((a : A) → HasNoLines (k a)) → HasNoLines (and_then m k)
  unfolding and_then ◌>>=◌
  none_then m {k} h = record { by = λ s o w. no_more k h (m s o w).0 (m s o w).1 o }

none_ended : (o : Outcome) → HasNoLines (done (Ended o))
unfolding done
none_ended o = record { by = λ s a w. refl }

none_decided : (j : Job) (owns : List (Option ℕ)) (newer : List (List ℕ)) (absent : Bool) (recipe : Option (List RecipeLine)) (due question known : Bool) → recipe ≡ None
    → HasNoLines (by_decision j owns newer (cond (not known) (unruled absent) (by_recipe recipe due question)))
none_decided j owns newer true recipe due question false e = none_then _ (λ u. none_ended outcome.NoRule)
none_decided j owns newer false recipe due question false e = none_ended _
none_decided j owns newer absent None due question true e = none_ended _
none_decided j owns newer absent (Some lines) due question true e = absurd (cc)

module _ (j : Job) (none : j.plan.recipe ≡ None) where
  none_fine : (normal : _) (fine : Bool) → HasNoLines (if_fine j normal fine)
  unfolding decide
  none_fine normal false = none_ended outcome.Skipped
  none_fine normal true = none_then _ (λ owns. none_then _ (λ newer. none_decided j owns newer (is_one_absent owns) j.plan.recipe (is_due j owns newer) j.flags.question (j.plan.phony || j.plan.ruled) none))

  none_prepared : HasNoLines (prepare j)
  unfolding prepare_with
  none_prepared = none_then _ (λ p. none_fine p.0 p.1)

  pub is_plain : (s : State) → IsPlain j s
  unfolding lines_on
  is_plain s = All-same (λ (p : Placed). BeginsNoMake p.command.text) _ [] (none_prepared.by silence (snapshot s) (begin j)) (All-nil (λ (p : Placed). BeginsNoMake p.command.text))
