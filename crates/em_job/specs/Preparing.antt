-- What a job does before the first line of its recipe runs: it decides, and expands all lines.
--     expand_at j autos p text    the expansion of a text at a place; a text for `eval` in it is refused
--     expand_lines ..             the lines for the shell
--     prepare_with known j        the whole: how the job ends, or what it is to run, where these outcomes are known
--     prepare j                   the same where the desk is asked for outcomes
use Rattle.std.specs.Prelude.{ℕ, Bool, true, false, List, [], ◌∷◌, ◌++◌, map, unwrap_or, Option, None, Result, Ok, Err}
use Rattle.em_base.specs.declared.construct.Construct.TheVariants as construct
use Rattle.em_base.specs.declared.place.Place.{Place}
use Rattle.em_tree.specs.declared.outcome.Outcome.TheVariants as outcome
use Rattle.em_view.specs.Steps.{done, own, within}
use Rattle.em_view.specs.Do.{◌>>=◌}
use Rattle.em_rules.specs.declared.rule.RecipeLine.{RecipeLine}
use Rattle.em_expand.specs.declared.spoken.Spoken.{Spoken}
use Rattle.em_expand.specs.Layered.{with_own}
use Rattle.em_expand.specs.Expansion.{expansion}
use Rattle.em_recipe.specs.declared.command.RecipeCommand.{RecipeCommand}
use Rattle.em_recipe.specs.Commands.{commands_of}
use Rattle.em_recipe.specs.Automatic.{texts}
use Rattle.em_recipe.specs.Messages as messages
use Rattle.em_task.specs.declared.job.Job.{Job}
use Rattle.em_job.specs.declared.awaiting.Awaited.{Awaited}
use Rattle.em_job.specs.declared.due.JobDecision.{JobDecision}
use Rattle.em_job.specs.declared.due.JobDecision.TheVariants as decision
use Rattle.em_job.specs.declared.prepare.Placed.{Placed}
use Rattle.em_job.specs.declared.prepare.Prepared.{Prepared}
use Rattle.em_job.specs.declared.prepare.Prepared.TheVariants.{Ended, Lines}
use Rattle.em_job.specs.declared.stop.JobStop.{JobStop}
use Rattle.em_job.specs.declared.stop.JobStop.TheVariants.{Refused}
use Rattle.em_job.specs.Stops.{Acts, of_expand}
use Rattle.em_job.specs.Deciding.{Known, prerequisites, stamps_of, newer_among, reasons, decision}

-- the text stands behind what was said
abbrev pub say : List ℕ → Spoken → Result (Unit {0} × Spoken) (JobStop × Spoken)
say text s = Ok (tt, record s { said = s.said ++ text })

abbrev pub itself : Spoken → Spoken
itself s = s

abbrev pub instead : Spoken → Spoken → Spoken
instead old new = new

abbrev pub no_evals : Place → Spoken → Result (Unit {0} × Spoken) (JobStop × Spoken)
no_evals p s = by_evals s.evals
  where
    by_evals : List (List ℕ) → Result (Unit {0} × Spoken) (JobStop × Spoken)
    by_evals [] = Ok (tt, s)
    by_evals (e ∷ es) = Err (Refused construct.Eval p, s)

-- automatic variables, as pairs of a name and a text
abbrev pub Autos : Type 0
Autos = List (List ℕ × List ℕ)

unfoldable pub expand_at : Job → Autos → Place → List ℕ → Acts (List ℕ)
expand_at j autos p text = do
  t ← within itself instead (of_expand p) (expansion (with_own j.vars autos) j.cwd p text)
  u ← own (no_evals p)
  done t

abbrev pub placed : Place → RecipeCommand → Placed
placed p c = record { place = p; command = c }

abbrev pub expand_lines : Job → Autos → List RecipeLine → List Placed → Acts (List Placed)
expand_lines j autos [] so_far = done so_far
expand_lines j autos (l ∷ ls) so_far = do
  t ← expand_at j autos l.place l.text
  expand_lines j autos ls (so_far ++ map (placed l.place) (commands_of l.text t))

abbrev pub recipe_of : Job → List RecipeLine
recipe_of j = unwrap_or j.plan.recipe []

unfoldable pub expand_recipe : Job → List (Option ℕ) → List (List ℕ) → Acts Prepared
expand_recipe j owns newer = do
  lines ← expand_lines j (texts j.plan newer) (recipe_of j) []
  done (Lines (record { stamps = owns; autos = texts j.plan newer }) lines)

abbrev pub no_rule : Job → Acts Prepared
no_rule j = do
  u ← own (say (messages.no_rule j.plan.target j.plan.needed_by j.flags.keep_going))
  done (Ended outcome.NoRule)

abbrev pub by_decision : Job → List (Option ℕ) → List (List ℕ) → JobDecision → Acts Prepared
by_decision j owns newer (decision.Ended o) = done (Ended o)
by_decision j owns newer decision.NoRule = no_rule j
by_decision j owns newer decision.Remake = expand_recipe j owns (reasons j owns newer)

unfoldable pub decide : Job → List Awaited → Acts Prepared
decide j normal = do
  owns ← stamps_of j.cwd j.plan.targets []
  newer ← newer_among j owns normal []
  by_decision j owns newer (decision j owns newer)

abbrev pub if_fine : Job → List Awaited → Bool → Acts Prepared
if_fine j normal true = decide j normal
if_fine j normal false = done (Ended outcome.Skipped)

unfoldable pub prepare_with : Known → Job → Acts Prepared
prepare_with known j = do
  p ← prerequisites known j
  if_fine j p.0 p.1

abbrev pub prepare : Job → Acts Prepared
prepare j = prepare_with None j
