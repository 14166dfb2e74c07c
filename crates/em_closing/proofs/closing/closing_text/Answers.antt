use Rattle.std.proofs.Common.{◌≡◌, ◌∙◌, ◌⊎◌, ⊎_elim, refl, sym, ap, ℕ, Bool, List, [], ◌∷◌, ◌++◌, append_assoc, append-nil}
use Rattle.std.specs.Prelude.{max}
use Rattle.std.specs.Iterator.Adapters.{zip_first, zip_second}
use Rattle.std.specs.Slice.Iter.{iter_rest}
use Rattle.std.proofs.lemmas.Slice.Zip.{either_empty_from_Zip}
use Rattle.em_tree.specs.declared.outcome.Outcome.{Outcome}
use Rattle.em_plan.specs.declared.planned.Plan.{Plan}
use Rattle.em_closing.specs.declared.goals.Goal.{Goal}
use Rattle.em_closing.specs.Closing.{end_of, goal_line, goal_lines}
use Rattle.em_closing.proofs.closing.closing_text.Goals as goal

module _ (silent : Bool) (plan : Plan) (outcomes : List Outcome) where
  said : (text total : List ℕ) (from : ℕ) (g : Goal) (ks : List ℕ) (gs all : List Goal) (kss every : List (List ℕ)) → all ≡ g ∷ gs → every ≡ ks ∷ kss
      → text ++ goal_lines silent plan outcomes from all every ≡ total
      → (text ++ goal_line silent plan outcomes from g ks) ++ goal_lines silent plan outcomes (max from (end_of ks)) gs kss ≡ total
  said text total from g ks gs all kss every first second is =
      append_assoc text (goal_line silent plan outcomes from g ks) (goal_lines silent plan outcomes (max from (end_of ks)) gs kss)
      ∙ sym (ap (λ (v : List Goal). text ++ goal_lines silent plan outcomes from v every) first ∙ ap (λ (v : List (List ℕ)). text ++ goal_lines silent plan outcomes from (g ∷ gs) v) second) ∙ is

  none_more : (from : ℕ) (gs : List Goal) → goal_lines silent plan outcomes from gs [] ≡ []
  none_more from [] = refl
  none_more from (g ∷ gs) = refl

  none_left : (from : ℕ) (gs : List Goal) (kss : List (List ℕ)) → (gs ≡ []) ⊎ (kss ≡ []) → goal_lines silent plan outcomes from gs kss ≡ []
  none_left from gs kss = ⊎_elim (λ none. ap (λ (v : List Goal). goal_lines silent plan outcomes from v kss) none) (λ none. ap (λ (v : List (List ℕ)). goal_lines silent plan outcomes from gs v) none ∙ none_more from gs)

pub loop-goal-preserved : goal.loop-goal-preserved
loop-goal-preserved c =
    let before = c.loop-goal.goal-iterator in
    let after = c.next.new.self in
    let more = c.in-Some.ensures.steps in
    rw (c.in_ok-put_goal.ensures, c.max-from.ensures, c.end_of.ensures, c.items-jobs.ensures)
    (said c.args.silent c.args.plan.now c.args.outcomes.now c.loop-goal.text _ c.loop-goal.from c.in-Some.goal.now c.in-Some.jobs.now
    (iter_rest (zip_first after)) (iter_rest (zip_first before)) (iter_rest (zip_second after)) (iter_rest (zip_second before)) more.0 more.1 c.loop-goal.invariant)

pub returns : goal.returns
returns c =
    let last = c.loop-goal.goal-iterator in
    let none = either_empty_from_Zip last c.next.new.self c.next.result c.in-None.is c.next.ensures.steps in
    rw c.if-early.false
    (sym (append-nil c.loop-goal.text)
    ∙ ap (λ (v : List ℕ). c.loop-goal.text ++ v) (sym (none_left c.args.silent c.args.plan.now c.args.outcomes.now c.loop-goal.from (iter_rest (zip_first last)) (iter_rest (zip_second last)) none))
    ∙ c.loop-goal.invariant)
