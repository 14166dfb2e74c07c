-- Lines that begin no make.
--     plain_lap       such a line comes to what it comes to in a job without makes
--     plain_lines     and so do all lines in order
use Rattle.std.proofs.Common.{◌≡◌, ◌∙◌, ℕ, Bool, true, false, List, [], ◌∷◌, map, Option, Some, None, Result, Ok, Err, refl, sym}
use Rattle.em_base.specs.declared.place.Place.{Place}
use Rattle.em_view.specs.Actions.{Workspace, Oracle, ◌>>=◌, go_on}
use Rattle.em_view.specs.Steps.{and_then, done, own, within}
use Rattle.em_vars.specs.Entries.{Entries}
use Rattle.em_word.specs.declared.shell.Shell.{Shell}
use Rattle.em_expand.specs.declared.spoken.Spoken.{Spoken}
use Rattle.em_script.specs.declared.line.ShellLine.{ShellLine}
use Rattle.em_script.specs.Lines as script
use Rattle.em_script.specs.Strands.{meaning_of, sub_of, Going, go, to, over}
use Rattle.em_task.specs.declared.job.Job.{Job}
use Rattle.em_job.specs.declared.carry.LineEnd.{LineEnd}
use Rattle.em_job.specs.declared.carry.LineEnd.TheVariants as line_end
use Rattle.em_job.specs.declared.prepare.RecipeStart.{RecipeStart}
use Rattle.em_job.specs.declared.prepare.Placed.{Placed}
use Rattle.em_job.specs.declared.ready.ParsedLine.{ParsedLine}
use Rattle.em_job.specs.declared.stop.JobStop.{JobStop}
use Rattle.em_job.specs.Preparing.{say}
use Rattle.em_job.specs.Stops.{Acts}
use Rattle.em_job.specs.Carrying.{environment_once, shell_of, run_in, in_shell, run, if_runs, does_run, echo, run_line, after_line, turn_of, lines_by, lines_from}
use Rattle.em_steps.specs.Laps.{words_in, by_words, lap_of, said, close, try_line, in_env, if_tried, by_try, tried_line, lap, by_lap, lines_plot, meant}
use Rattle.em_nesting_laws.proofs.Following.{mapped, done_then, assoc, then_mapped}

-- each line begins no make
abbrev pub ArePlain : List ParsedLine → Type 0
ArePlain [] = Unit {0}
ArePlain (r ∷ rs) = (sub_of r.line ≡ None) × ArePlain rs

no_words : (p : Place) (shell : Shell) → words_in p None shell ≡ done (None, shell)
unfolding words_in within and_then ◌>>=◌ done
no_words p shell = refl

-- a value, and the variables that its shell began with
abbrev beside : {T : Type 0} → Entries → T → Option Entries × T
beside v t = (Some v, t)

module _ (j : Job) (depth : ℕ) where
  plain_try : (p : Place) (line : ShellLine) (env : Entries) → sub_of line ≡ None → try_line j depth p (meaning_of line) (shell_of j env) ≡ by_words j depth p (script.run_line line) None (shell_of j env)
  unfolding try_line
  plain_try p line env e =
      (λ i. and_then (words_in p (e i) (shell_of j env)) (λ w. by_words j depth p (script.run_line line) w.0 w.1))
      ∙ (λ i. and_then (no_words p (shell_of j env) i) (λ w. by_words j depth p (script.run_line line) w.0 w.1))
      ∙ done_then (None, shell_of j env) (λ w. by_words j depth p (script.run_line line) w.0 w.1)

  module _ (x : RecipeStart) where
    -- what follows a line that has run
    abbrev looked : {L : Type 0} → (LineEnd → L) → Placed → Option Entries × ℕ → Acts L
    looked f l q = mapped f (after_line j x.stamps l q.0 q.1)

    plain_shell : (l : Placed) (line : ShellLine) (v : Entries)
        → and_then (and_then (by_words j depth l.place (script.run_line line) None (shell_of j v)) (λ t. done (beside v t))) (λ t. by_try j depth x l t.0 t.1) ≡ and_then (in_shell j v l.place line) (λ n. looked lap_of l (beside v n))
    unfolding in_shell
    plain_shell l line v =
        assoc (by_words j depth l.place (script.run_line line) None (shell_of j v)) (λ t. done (beside v t)) (λ t. by_try j depth x l t.0 t.1)
        ∙ (λ i. and_then (by_words j depth l.place (script.run_line line) None (shell_of j v)) (λ t. done_then (beside v t) (λ u. by_try j depth x l u.0 u.1) i))
        ∙ then_mapped _ (run_in l.place (script.run_line line) (shell_of j v)) (λ t. by_try j depth x l (Some v) t)

    plain_env : (env : Option Entries) (l : Placed) (line : ShellLine) → sub_of line ≡ None
        → and_then (in_env j depth x env l (meaning_of line)) (λ t. by_try j depth x l t.0 t.1) ≡ and_then (run j x.autos env l.place line) (looked lap_of l)
    unfolding in_env run
    plain_env env l line e =
        (λ i. and_then (and_then (environment_once j x.autos l.place env) (λ v. and_then (plain_try l.place line v e i) (λ t. done (beside v t)))) (λ t. by_try j depth x l t.0 t.1))
        ∙ assoc (environment_once j x.autos l.place env) (λ v. and_then (by_words j depth l.place (script.run_line line) None (shell_of j v)) (λ t. done (beside v t))) (λ t. by_try j depth x l t.0 t.1)
        ∙ (λ i. and_then (environment_once j x.autos l.place env) (λ v. plain_shell l line v i))
        ∙ sym (λ i. and_then (environment_once j x.autos l.place env) (λ v. then_mapped (λ n. beside v n) (in_shell j v l.place line) (looked lap_of l) i))
        ∙ sym (assoc (environment_once j x.autos l.place env) (λ v. and_then (in_shell j v l.place line) (λ n. done (beside v n))) (looked lap_of l))

    plain_choice : (env : Option Entries) (l : Placed) (line : ShellLine) → sub_of line ≡ None → (runs : Bool)
        → and_then (if_tried j depth x env l (meaning_of line) runs) (λ t. by_try j depth x l t.0 t.1) ≡ and_then (if_runs j x.autos env l line runs) (looked lap_of l)
    plain_choice env l line e true = plain_env env l line e
    plain_choice env l line e false = done_then _ (λ t. by_try j depth x l t.0 t.1) ∙ sym (done_then (env, 0) (looked lap_of l))

    pub plain_lap : (env : Option Entries) (r : ParsedLine) → sub_of r.line ≡ None → lap j depth x env r.placed (meaning_of r.line) ≡ mapped lap_of (turn_of j x env r)
    unfolding lap tried_line turn_of run_line
    plain_lap env r e =
        assoc (own (say (echo j r.placed))) (λ u. if_tried j depth x env r.placed (meaning_of r.line) (does_run j r.placed)) (λ t. by_try j depth x r.placed t.0 t.1)
        ∙ (λ i. and_then (own (say (echo j r.placed))) (λ u. plain_choice env r.placed r.line e (does_run j r.placed) i))
        ∙ sym (assoc (own (say (echo j r.placed))) (λ u. if_runs j x.autos env r.placed r.line (does_run j r.placed)) (looked lap_of r.placed))
        ∙ sym (assoc (run_line j x.autos env r.placed r.line) (λ q. after_line j x.stamps r.placed q.0 q.1) (λ v. done (lap_of v)))

  -- ---- all lines

  module _ {A B : Type 0} where
    same_strand : (k : A → Acts B) (h : B → Going Spoken) (r : Result (A × Spoken) (JobStop × Spoken)) (v : Workspace) (o : Oracle)
        → go (close j) h o (go_on r v (λ p. k p.0 p.1) o).0 (go_on r v (λ p. k p.0 p.1) o).1 ≡ go (close j) (λ a. to (close j) (k a) h) o r v
    same_strand k h (Ok p) v o = refl
    same_strand k h (Err p) v o = refl

    to_then : (m : Acts A) (k : A → Acts B) (h : B → Going Spoken) → to (close j) (and_then m k) h ≡ to (close j) m (λ a. to (close j) (k a) h)
    unfolding and_then ◌>>=◌
    to_then m k h = λ i. λ s o w. same_strand k h (m s o w).0 (m s o w).1 o i

  module _ (x : RecipeStart) where
    plain_rest : (r : ParsedLine) (rs : List ParsedLine) → ((env : Option Entries) → lines_plot j depth x (map meant rs) env ≡ to (close j) (lines_from j x env rs) (over said)) → (e : LineEnd)
        → to (close j) (done (lap_of e)) (by_lap j depth x r.placed (lines_plot j depth x (map meant rs))) ≡ to (close j) (lines_by (λ next. lines_from j x next rs) e) (over said)
    unfolding done
    plain_rest r rs same (line_end.Next env) = same env
    plain_rest r rs same (line_end.Ended o) = refl

    pub plain_lines : (rs : List ParsedLine) → ArePlain rs → (env : Option Entries) → lines_plot j depth x (map meant rs) env ≡ to (close j) (lines_from j x env rs) (over said)
    unfolding done
    plain_lines [] h env = refl
    plain_lines (r ∷ rs) h env =
        (λ i. to (close j) (plain_lap x env r h.0 i) (by_lap j depth x r.placed (lines_plot j depth x (map meant rs))))
        ∙ to_then (turn_of j x env r) (λ e. done (lap_of e)) (by_lap j depth x r.placed (lines_plot j depth x (map meant rs)))
        ∙ (λ i. to (close j) (turn_of j x env r) (λ e. plain_rest r rs (plain_lines rs h.1) e i))
        ∙ sym (to_then (turn_of j x env r) (lines_by (λ next. lines_from j x next rs)) (over said))
