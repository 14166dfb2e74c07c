-- A job makes one thing of a state at most: lines that are read from the same texts run alike.
use Rattle.std.proofs.Common.{◌≡◌, ◌∙◌, ℕ, Bool, true, false, List, [], ◌∷◌, Option, Some, None, refl, sym, ap}
use Rattle.em_base.specs.declared.place.Place.{Place}
use Rattle.em_tree.specs.declared.outcome.Outcome.{Outcome}
use Rattle.em_tree.specs.declared.state.State.{State}
use Rattle.em_view.specs.declared.effect.Effect.{Effect}
use Rattle.em_view.specs.Steps.{Steps, and_then, done, own, within}
use Rattle.em_run.specs.Meanings.{effect_by, used_by}
use Rattle.em_vars.specs.Entries.{Entries}
use Rattle.em_script.specs.declared.line.ShellLine.{ShellLine}
use Rattle.em_script.specs.Lines as script
use Rattle.em_task.specs.declared.job.Job.{Job}
use Rattle.em_job.specs.declared.prepare.RecipeStart.{RecipeStart}
use Rattle.em_job.specs.declared.prepare.Placed.{Placed}
use Rattle.em_job.specs.declared.prepare.Prepared.{Prepared}
use Rattle.em_job.specs.declared.prepare.Prepared.TheVariants.{Ended, Lines}
use Rattle.em_job.specs.declared.ready.ParsedLine.{ParsedLine}
use Rattle.em_job.specs.declared.stop.JobStop.{JobStop}
use Rattle.em_job.specs.Preparing.{Autos, say, prepare}
use Rattle.em_job.specs.Stops.{of_line}
use Rattle.em_job.specs.Carrying.{AreRead, environment_once, shell_of, run_in, in_shell, run, if_runs, does_run, echo, run_line, after_line, turn_of, lines_by, lines_from, course_of, carry_out}
use Rattle.em_job.specs.Effects.{saying, steps, closed, job, begin, no_end, Makes}

abbrev Alike : ShellLine → ShellLine → Type 0
Alike a b = script.run_line a ≡ script.run_line b

same_shell : (j : Job) (env : Entries) (p : Place) (a b : ShellLine) → Alike a b → in_shell j env p a ≡ in_shell j env p b
unfolding in_shell
same_shell j env p a b h = λ i. run_in p (h i) (shell_of j env)

same_run : (j : Job) (autos : Autos) (env : Option Entries) (p : Place) (a b : ShellLine) → Alike a b → run j autos env p a ≡ run j autos env p b
unfolding run
same_run j autos env p a b h = λ i. and_then (environment_once j autos p env) (λ e. and_then (same_shell j e p a b h i) (λ status. done (Some e, status)))

same_choice : (j : Job) (autos : Autos) (env : Option Entries) (l : Placed) (a b : ShellLine) → Alike a b → (runs : Bool) → if_runs j autos env l a runs ≡ if_runs j autos env l b runs
same_choice j autos env l a b h true = same_run j autos env l.place a b h
same_choice j autos env l a b h false = refl

same_line : (j : Job) (autos : Autos) (env : Option Entries) (l : Placed) (a b : ShellLine) → Alike a b → run_line j autos env l a ≡ run_line j autos env l b
unfolding run_line
same_line j autos env l a b h = λ i. and_then (own (say (echo j l))) (λ u. same_choice j autos env l a b h (does_run j l) i)

same_turn : (j : Job) (x : RecipeStart) (env : Option Entries) (r q : ParsedLine) → r.placed ≡ q.placed → Alike r.line q.line → turn_of j x env r ≡ turn_of j x env q
unfolding turn_of
same_turn j x env r q e h =
    (λ i. and_then (run_line j x.autos env (e i) r.line) (λ ran. after_line j x.stamps (e i) ran.0 ran.1))
    ∙ (λ i. and_then (same_line j x.autos env q.placed r.line q.line h i) (λ ran. after_line j x.stamps q.placed ran.0 ran.1))

module _ (one : (text : List ℕ) (a b : ShellLine) → script.IsRead text a → script.IsRead text b → Alike a b) where
  same_lines : (j : Job) (x : RecipeStart) (ps : List Placed) (rs qs : List ParsedLine) → AreRead ps rs → AreRead ps qs → (env : Option Entries) → lines_from j x env rs ≡ lines_from j x env qs
  same_lines j x [] [] [] a b env = refl
  same_lines j x [] [] (q ∷ qs) a b env = absurd b
  same_lines j x [] (r ∷ rs) qs a b env = absurd a
  same_lines j x (p ∷ ps) [] qs a b env = absurd a
  same_lines j x (p ∷ ps) (r ∷ rs) [] a b env = absurd b
  same_lines j x (p ∷ ps) (r ∷ rs) (q ∷ qs) a b env =
      λ i. and_then (same_turn j x env r q (a.0 ∙ sym b.0) (one p.command.text r.line q.line a.1.0 b.1.0) i) (lines_by (λ next. same_lines j x ps rs qs a.1.1 b.1.1 next i))

  same_course : (j : Job) (ps : List Placed) (rs qs : List ParsedLine) → AreRead ps rs → AreRead ps qs → (p : Prepared) → carry_out j (course_of rs p) ≡ carry_out j (course_of qs p)
  same_course j ps rs qs a b (Ended o) = refl
  same_course j ps rs qs a b (Lines x ls) = same_lines j x ps rs qs a b None

  same_steps : (j : Job) (ps : List Placed) (rs qs : List ParsedLine) → AreRead ps rs → AreRead ps qs → steps j rs ≡ steps j qs
  unfolding steps
  same_steps j ps rs qs a b = λ i. and_then (prepare j) (λ p. same_course j ps rs qs a b p i)

  same_job : (j : Job) (ps : List Placed) (rs qs : List ParsedLine) → AreRead ps rs → AreRead ps qs → job j rs ≡ job j qs
  unfolding job
  same_job j ps rs qs a b = λ i. λ output o w. (closed j.plan.target (same_steps j ps rs qs a b i (saying output) o w).0, (same_steps j ps rs qs a b i (saying output) o w).1)

  pub one_effect : (j : Job) (s : State) (e f : Effect) (m n : ℕ) → Makes j s e m → Makes j s f n → (e ≡ f) × (m ≡ n)
  one_effect j s e f m n a b =
      let same = same_job j _ a.ready b.ready a.read b.read in (
        a.effect ∙ ap (λ (k : Steps (List ℕ) JobStop Outcome). effect_by no_end k (begin j) s) same ∙ sym b.effect,
        a.fuel ∙ ap (λ (k : Steps (List ℕ) JobStop Outcome). used_by k (begin j) s) same ∙ sym b.fuel,
      )
