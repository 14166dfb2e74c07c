-- A job none of whose lines begins a make.
--     with_makes        with makes within it it comes to what it comes to without
--     without_makes     and the other way round
use Rattle.std.proofs.Common.{◌≡◌, ◌∙◌, ℕ, ◌-◌, List, [], ◌∷◌, ◌++◌, map, None, Result, Ok, Err, refl, sym, ap, subst, append_assoc, append-nil}
use Rattle.std.specs.List.{AllByRecursion}
use Rattle.std.proofs.lemmas.List.Elements.{recursion_from_All}
use Rattle.em_tree.specs.declared.outcome.Outcome.{Outcome}
use Rattle.em_tree.specs.declared.outcome.Outcome.TheVariants as outcome
use Rattle.em_tree.specs.declared.state.State.{State}
use Rattle.em_view.specs.declared.effect.Effect.{Effect}
use Rattle.em_view.specs.Actions.{Workspace, Oracle, ◌>>=◌, go_on, snapshot}
use Rattle.em_view.specs.Steps.{and_then, done}
use Rattle.em_run.specs.Meanings.{left_by, effect_by, used_by}
use Rattle.em_expand.specs.declared.spoken.Spoken.{Spoken}
use Rattle.em_exec.specs.declared.turn.SubLine.{SubLine}
use Rattle.em_script.specs.Strands.{Meaning, meaning_of, Back, Going, go, over}
use Rattle.em_task.specs.declared.job.Job.{Job}
use Rattle.em_job.specs.declared.prepare.Placed.{Placed}
use Rattle.em_job.specs.declared.prepare.Prepared.{Prepared}
use Rattle.em_job.specs.declared.prepare.Prepared.TheVariants as prepared
use Rattle.em_job.specs.declared.ready.ParsedLine.{ParsedLine}
use Rattle.em_job.specs.declared.stop.JobStop.{JobStop}
use Rattle.em_job.specs.declared.stop.JobStop.TheVariants as stop
use Rattle.em_job.specs.Preparing.{prepare}
use Rattle.em_job.specs.Carrying.{AreRead, lines_in, course_of, carry_out, lines_from}
use Rattle.em_job.specs.Effects.{silence, steps, closed, job, begin, result_of, lines_on, no_end, Makes}
use Rattle.em_steps.specs.Laps.{said, close, lines_plot, read_plot, by_prepared, fresh, meant}
use Rattle.em_submake.specs.Ways.{Ended, Ways}
use Rattle.em_submake.specs.Submakes.{spun, whole, deeper_at}
use Rattle.em_nesting.specs.Nested.{making_of, left_of, MakesAll}
use Rattle.em_nesting_laws.specs.Plain.{BeginsNoMake, IsPlain}
use Rattle.em_nesting_laws.proofs.Laps.{ArePlain, plain_lines}

abbrev Finish : Type 0
Finish = Result (Outcome × Spoken) (JobStop × Spoken)

plain_read : (ps : List Placed) (rs : List ParsedLine) → AllByRecursion (λ (p : Placed). BeginsNoMake p.command.text) ps → AreRead ps rs → ArePlain rs
plain_read [] [] h all = tt
plain_read [] (r ∷ rs) h all = absurd all
plain_read (p ∷ ps) [] h all = absurd all
plain_read (p ∷ ps) (r ∷ rs) h all = (h.0 r.line all.1.0, plain_read ps rs h.1 all.1.1)

-- how the job ends by its steps
abbrev ending : Job → Finish → Outcome × List ℕ
ending j (Ok p) = (p.0, p.1.said)
ending j (Err p) = close j p.0 p.1

module _ (j : Job) (depth : ℕ) (deeper : SubLine → Ways Back) (o : Oracle) (z : Ended Outcome) where
  abbrev Comes_to : Finish → Workspace → Type 0
  Comes_to r v = z ≡ (Ok (ending j r), v)

  told : (r : Finish) (v : Workspace) → Comes_to r v → spun deeper (go (close j) (over said) o r v) o z
  told (Ok p) v e = e
  told (Err p) v e = e

  untold : (r : Finish) (v : Workspace) → spun deeper (go (close j) (over said) o r v) o z → Comes_to r v
  untold (Ok p) v e = e
  untold (Err p) v e = e

  -- ---- texts

  module _ (k : List (Placed × Meaning) → Going Spoken) (s : Spoken) (w : Workspace) where
    abbrev Spun : List (Placed × Meaning) → Type 0
    Spun ms = spun deeper (k ms s o w) o z

    read_in : (ps : List Placed) (rs : List ParsedLine) (so_far : List (Placed × Meaning)) → AreRead ps rs → Spun (so_far ++ map meant rs) → spun deeper (read_plot j depth ps so_far k s o w) o z
    read_in [] [] so_far all g = subst Spun (append-nil so_far) g
    read_in [] (r ∷ rs) so_far all g = absurd all
    read_in (p ∷ ps) [] so_far all g = absurd all
    read_in (p ∷ ps) (r ∷ rs) so_far all g =
        let same : so_far ++ meant r ∷ map meant rs ≡ (so_far ++ (p, meaning_of r.line) ∷ []) ++ map meant rs =
        ap (λ (y : Placed). so_far ++ (y, meaning_of r.line) ∷ map meant rs) all.0 ∙ sym (append_assoc so_far ((p, meaning_of r.line) ∷ []) (map meant rs)) in
        (meaning_of r.line, (record { line = r.line; read = all.1.0; is = refl }, read_in ps rs (so_far ++ (p, meaning_of r.line) ∷ []) all.1.1 (subst Spun same g)))

    read_out : (ps : List Placed) (so_far : List (Placed × Meaning)) → spun deeper (read_plot j depth ps so_far k s o w) o z → (rs : List ParsedLine) × (AreRead ps rs × Spun (so_far ++ map meant rs))
    read_out [] so_far g = ([], (tt, subst Spun (sym (append-nil so_far)) g))
    read_out (p ∷ ps) so_far g =
        let rest = read_out ps (so_far ++ (p, g.0) ∷ []) g.1.1 in
        let r : ParsedLine = record { placed = p; line = g.1.0.line } in
        let same : (so_far ++ (p, g.0) ∷ []) ++ map meant rest.0 ≡ so_far ++ meant r ∷ map meant rest.0 =
        append_assoc so_far ((p, g.0) ∷ []) (map meant rest.0) ∙ ap (λ (m : Meaning). so_far ++ (p, m) ∷ map meant rest.0) g.1.0.is in
        (r ∷ rest.0, ((refl, (g.1.0.read, rest.1.0)), subst Spun same rest.1.1))

  -- ---- the whole

  abbrev Begun : Type 0
  Begun = Result (Prepared × Spoken) (JobStop × Spoken)

  abbrev Plain : Begun → Type 0
  Plain r = AllByRecursion (λ (p : Placed). BeginsNoMake p.command.text) (lines_in (result_of r))

  abbrev Carried : List ParsedLine → Begun → Workspace → Type 0
  Carried ready r v = Comes_to (go_on r v (λ p. carry_out j (course_of ready p.0) p.1) o).0 (go_on r v (λ p. carry_out j (course_of ready p.0) p.1) o).1

  pub carried_in : (ready : List ParsedLine) (r : Begun) (v : Workspace) → Plain r → AreRead (lines_in (result_of r)) ready → Carried ready r v → spun deeper (go (close j) (by_prepared j depth) o r v) o z
  unfolding done
  carried_in ready (Ok (prepared.Ended a, s)) v plain read e = e
  carried_in ready (Ok (prepared.Lines x ps, s)) v plain read e =
      read_in (λ rs. lines_plot j depth x rs None) s v ps ready [] read
      (subst (λ (g : Going Spoken). spun deeper (g s o v) o z) (sym (plain_lines j depth x ready (plain_read ps ready plain read) None))
      (told (lines_from j x None ready s o v).0 (lines_from j x None ready s o v).1 e))
  carried_in ready (Err p) v plain read e = e

  pub carried_out : (r : Begun) (v : Workspace) → Plain r → spun deeper (go (close j) (by_prepared j depth) o r v) o z → (ready : List ParsedLine) × (AreRead (lines_in (result_of r)) ready × Carried ready r v)
  unfolding done
  carried_out (Ok (prepared.Ended a, s)) v plain g = ([], (tt, g))
  carried_out (Ok (prepared.Lines x ps, s)) v plain g =
      let out = read_out (λ rs. lines_plot j depth x rs None) s v ps [] g in (
        out.0,
        (
          out.1.0,
          untold (lines_from j x None out.0 s o v).0 (lines_from j x None out.0 s o v).1
              (subst (λ (h : Going Spoken). spun deeper (h s o v) o z) (plain_lines j depth x out.0 (plain_read ps out.0 plain out.1.0) None) out.1.1),
        ),
      )
  carried_out (Err p) v plain g = ([], (tt, g))

-- ---- its effect

same_effect : (j : Job) (r : Finish) (w : Workspace) → left_by no_end (closed j.plan.target r) w ≡ left_of (Ok (ending j r), w)
same_effect j (Ok (o, t)) w = refl
same_effect j (Err (stop.Early, t)) w = refl
same_effect j (Err (stop.Spent p, t)) w = refl
same_effect j (Err (stop.Refused c p, t)) w = refl
same_effect j (Err (stop.Halted x p, t)) w = refl
same_effect j (Err (stop.NoMemory, t)) w = ap (λ (out : List ℕ). let e : Effect = record { changes = w.changes; output = out; outcome = outcome.Spent } in e) (sym (append-nil t.said))

module _ (j : Job) (s : State) (e : Effect) (n : ℕ) (plain : IsPlain j s) where
  abbrev prepared_so : Result (Prepared × Spoken) (JobStop × Spoken) × Workspace
  prepared_so = prepare j silence (snapshot s) (begin j)

  all_plain : AllByRecursion (λ (p : Placed). BeginsNoMake p.command.text) (lines_in (result_of prepared_so.0))
  unfolding lines_on
  all_plain = recursion_from_All (λ (p : Placed). BeginsNoMake p.command.text) (lines_in (result_of prepared_so.0)) plain

  abbrev did : List ParsedLine → Finish × Workspace
  did ready = steps j ready silence (snapshot s) (begin j)

  abbrev end_so : List ParsedLine → Ended Outcome
  end_so ready = (Ok (ending j (did ready).0), (did ready).1)

  pub with_makes : Makes j s e n → MakesAll j s e n
  unfolding whole fresh lines_on steps job effect_by used_by and_then ◌>>=◌
  with_makes m = record {
    end = end_so m.ready;
    comes = carried_in j 0 (deeper_at making_of 8) (snapshot s) (end_so m.ready) m.ready prepared_so.0 prepared_so.1 all_plain m.read refl;
    effect = m.effect ∙ same_effect j (did m.ready).0 (did m.ready).1;
    fuel = m.fuel;
  }

  pub without_makes : MakesAll j s e n → Makes j s e n
  unfolding whole fresh lines_on steps job effect_by used_by and_then ◌>>=◌
  without_makes m =
      let out = carried_out j 0 (deeper_at making_of 8) (snapshot s) m.end prepared_so.0 prepared_so.1 all_plain m.comes in
      record {
        ready = out.0;
        read = out.1.0;
        effect = m.effect ∙ ap left_of out.1.1 ∙ sym (same_effect j (did out.0).0 (did out.0).1);
        fuel = m.fuel ∙ ap (λ (x : Ended Outcome). (begin j).given - x.1.fuel) out.1.1;
      }
