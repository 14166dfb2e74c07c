-- From the desk of a job to its run. The job began at a desk that had asked nothing before, which
-- is the clause of `Desk::new`.
--     told              each answer of the usage is the one that the view told
--     on_agreeing       an action that was performed, on a state that agrees with the whole usage: it gives the same result there
--     valid             for steps over an output: what the desk holds at the end is a valid run, where the steps tell the meanings of the
--                       run's spec. It takes the clauses of `Desk::new`, `Text::new`, the steps and `Desk::close`
use Rattle.std.proofs.Common.{◌≡◌, ℕ, ◌+◌, ◌-◌, Bool, false, List, [], ◌++◌, Result, Ok, Err, refl, sym, ap, subst, ◌∙◌, arith}
use Rattle.em_tree.specs.declared.question.Entry.{Entry}
use Rattle.em_tree.specs.declared.outcome.Outcome.{Outcome}
use Rattle.em_tree.specs.declared.state.State.{State}
use Rattle.em_tree.specs.Answers.{Agrees}
use Rattle.em_tree.specs.Trees.{Changes, IsTree, laid_over}
use Rattle.em_view.specs.declared.effect.Effect.{Effect}
use Rattle.em_view.specs.Actions.{Workspace, Action, snapshot}
use Rattle.em_view.specs.Held.{Fits}
use Rattle.em_view.specs.Performs.{DeskState, Told, AreTrue, is_free, Performs}
use Rattle.em_view.specs.Steps.{Steps, Does, with_state}
use Rattle.em_view.proofs.Performing.{snapshot_agrees}
use Rattle.em_run.specs.declared.run.Parts.{Parts}
use Rattle.em_run.specs.Runs.{IsValid}
use Rattle.em_run.specs.Meanings.{end_in, left_by, effect_by, used_by, IsToldBy}

module _ {V E A : Type 0} {free : E → Bool} {tells : V → Told} {old new : DeskState V} {view : V} {w : Workspace} {r : Result A E} {action : Action E A}
    (begun : old ≡ record { view = view; usage = []; work = w }) (did : Performs free tells old new r action) where
  all_entries : new.usage ≡ did.grows.entries
  all_entries = did.grows.grew ∙ ap (λ (d : DeskState V). d.usage ++ did.grows.entries) begun

  pub told : AreTrue (tells view) new.usage
  told = subst (λ (d : DeskState V). AreTrue (tells d.view) new.usage) begun (subst (λ (es : List Entry). AreTrue (tells old.view) es) (sym all_entries) did.grows.told)

  pub on_agreeing : is_free free r ≡ false → (s : State) → Agrees s new.usage → action (snapshot s) w ≡ (r, new.work)
  on_agreeing plain s agrees = ap (λ (d : DeskState V). action (snapshot s) d.work) (sym begun)
      ∙ did.plain plain (snapshot s) (snapshot_agrees _ s _ (subst (λ (es : List Entry). Agrees s es) all_entries agrees))

plain-with : {S E A : Type 0} (free : E → Bool) (r : Result A E) (s : S) → is_free free r ≡ false → is_free (λ (x : E × S). free x.0) (with_state r s) ≡ false
plain-with free (Ok a) s h = refl
plain-with free (Err e) s h = h

left-with : {E : Type 0} (end : E → Outcome) (r : Result Outcome E) (output : List ℕ) (w : Workspace)
    → left_by end (with_state r output) w ≡ record { changes = w.changes; output = output; outcome = end_in end r }
left-with end (Ok o) output w = refl
left-with end (Err e) output w = refl

module _ {V S E : Type 0} {makes : S → State → Effect → ℕ → Type 0} {free : E → Bool} {tells : V → Told} {old new : DeskState V} {view : V} {w : Workspace}
    {before output : List ℕ} {r : Result Outcome E} (end : E → Outcome) {steps : Steps (List ℕ) E Outcome} {p : Parts S} where
  -- the clauses of `new` and of the steps; that the steps tell the spec's meanings, and that memory
  -- didn't run out; the four clauses of `close`; the output and the outcome
  pub valid : old ≡ record { view = view; usage = []; work = w } → before ≡ [] → Does free tells old new before output r steps
      → ((s : State) → IsTree s.tree → Agrees s new.usage → IsToldBy makes p.spec end steps w s) → is_free free r ≡ false
      → p.usage ≡ new.usage → p.delta ≡ new.work.changes → p.fuel + new.work.fuel ≡ new.work.given → Fits new.usage new.work.changes
      → p.output ≡ output → p.outcome ≡ end_in end r → IsValid makes p
  unfolding effect_by used_by
  valid begun empty did by plain usage delta fuel fits says ends = record {
    gives = λ s tree agrees.
        let agree : Agrees s new.usage = subst (λ (es : List Entry). Agrees s es) usage agrees in
        let e = ap (λ (o : List ℕ). steps o (snapshot s) w) (sym empty) ∙ on_agreeing begun did.performs (plain-with free r output plain) s agree in
        let given = did.performs.grows.given ∙ ap (λ (d : DeskState V). d.work.given) begun in
        let effects = ap (λ (z : Result (Outcome × List ℕ) (E × List ℕ) × Workspace). left_by end z.0 z.1) e ∙ left-with end r output new.work ∙ (cc) in
        let used = ap (λ (z : Result (Outcome × List ℕ) (E × List ℕ) × Workspace). w.given - z.1.fuel) e ∙ omega (arith, given) in
        record {
          effect = subst (λ (f : Effect). makes p.spec s f p.fuel) effects (subst (λ (n : ℕ). makes p.spec s (effect_by end steps w s) n) used (by s tree agree));
          fits = subst (λ (d : Changes). IsTree (laid_over d s.tree)) (sym delta) (fits s tree agree);
        };
  }
