-- From the desk of a job to its run, for a job with the makes within it.
--     valid_ways      what the desk holds at the end is a valid run
--     told_ways       each answer of the usage is the one that the view told
use Rattle.std.proofs.Common.{◌≡◌, ℕ, ◌+◌, ◌-◌, List, [], ◌++◌, Result, Ok, refl, sym, ap, subst, ◌∙◌, arith}
use Rattle.em_base.specs.declared.memory.NoMemory.{NoMemory}
use Rattle.em_tree.specs.declared.question.Entry.{Entry}
use Rattle.em_tree.specs.declared.outcome.Outcome.{Outcome}
use Rattle.em_tree.specs.declared.state.State.{State}
use Rattle.em_tree.specs.Answers.{Agrees}
use Rattle.em_tree.specs.Trees.{Changes, IsTree, laid_over}
use Rattle.em_view.specs.declared.effect.Effect.{Effect}
use Rattle.em_view.specs.Actions.{Workspace, snapshot}
use Rattle.em_view.specs.Held.{Fits}
use Rattle.em_view.specs.Performs.{DeskState, Told, AreTrue, Grows}
use Rattle.em_view.proofs.Performing.{snapshot_agrees}
use Rattle.em_run.specs.declared.run.Parts.{Parts}
use Rattle.em_run.specs.Runs.{IsValid}
use Rattle.em_submake.specs.Ways.{Ended, Ways, settled}
use Rattle.em_submake.specs.Climbing.{Went}
use Rattle.em_nesting.specs.Nested.{left_of}

module _ {V : Type 0} {tells : V → Told} {old new : DeskState V} {view : V} {w : Workspace} (begun : old ≡ record { view = view; usage = []; work = w }) (grows : Grows tells old new) where
  all_entries : new.usage ≡ grows.entries
  all_entries = grows.grew ∙ ap (λ (d : DeskState V). d.usage ++ grows.entries) begun

  pub told_ways : AreTrue (tells view) new.usage
  told_ways = subst (λ (d : DeskState V). AreTrue (tells d.view) new.usage) begun (subst (λ (es : List Entry). AreTrue (tells old.view) es) (sym all_entries) grows.told)

-- what is left of a job by its end
ended_as : (end : Ended Outcome) (a : Outcome) (output : List ℕ) (work : Workspace) → settled end.0 ≡ (a, output) → end.1 ≡ work → left_of end ≡ record { changes = work.changes; output = output; outcome = a }
ended_as end a output work said done =
    ap (λ (x : Outcome × List ℕ). let e : Effect = record { changes = end.1.changes; output = x.1; outcome = x.0 } in e) said
    ∙ ap (λ (v : Workspace). let e : Effect = record { changes = v.changes; output = output; outcome = a } in e) done

module _ {V S : Type 0} {makes : S → State → Effect → ℕ → Type 0} {tells : V → Told} {old new : DeskState V} {view : V} {w : Workspace} {before output : List ℕ} {a : Outcome} {ways : Ways Outcome} {p : Parts S} where
  -- the clauses of `new` and of `make`; that the ways tell the spec's meaning; the four clauses of
  -- `close`; the output and the outcome
  pub valid_ways : old ≡ record { view = view; usage = []; work = w } → before ≡ [] → Went tells old new before output (Ok a) ways
      → ((s : State) (end : Ended Outcome) → ways [] (snapshot s) w end → makes p.spec s (left_of end) (w.given - end.1.fuel))
      → p.usage ≡ new.usage → p.delta ≡ new.work.changes → p.fuel + new.work.fuel ≡ new.work.given → Fits new.usage new.work.changes
      → p.output ≡ output → p.outcome ≡ a → IsValid makes p
  valid_ways begun empty went by usage delta fuel fits says ends = record {
    gives = λ s tree agrees.
        let agree : Agrees s new.usage = subst (λ (es : List Entry). Agrees s es) usage agrees in
        let end = went.plain (snapshot s) (snapshot_agrees _ s _ (subst (λ (es : List Entry). Agrees s es) (all_entries begun went.grows) agree)) in
        let there = subst (λ (d : DeskState V). ways [] (snapshot s) d.work end.0) begun (subst (λ (b : List ℕ). ways b (snapshot s) old.work end.0) empty end.1.0) in
        let given = went.grows.given ∙ ap (λ (d : DeskState V). d.work.given) begun in
        let left = ended_as end.0 a output new.work end.1.1.0 end.1.1.1 ∙ (cc) in
        let used = ap (λ (v : Workspace). w.given - v.fuel) end.1.1.1 ∙ omega (arith, given, fuel) in
        record {
          effect = subst (λ (f : Effect). makes p.spec s f p.fuel) left (subst (λ (n : ℕ). makes p.spec s (left_of end.0) n) used (by s end.0 there));
          fits = subst (λ (d : Changes). IsTree (laid_over d s.tree)) (sym delta) (fits s tree agree);
        };
  }
