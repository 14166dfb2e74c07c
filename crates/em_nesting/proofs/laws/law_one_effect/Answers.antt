use Rattle.std.proofs.Common.{◌∙◌, ℕ, ◌-◌, [], None, sym, ap}
use Rattle.em_tree.specs.declared.outcome.Outcome.{Outcome}
use Rattle.em_view.specs.Actions.{snapshot}
use Rattle.em_job.specs.Effects.{begin}
use Rattle.em_steps.specs.Laps.{fresh_plot}
use Rattle.em_submake.specs.Ways.{Ended}
use Rattle.em_nesting.specs.Nested.{making_of, left_of}
use Rattle.em_nesting.proofs.laws.law_one_effect.Goals as goal

pub returns : goal.returns
returns c j s e f m n a b =
    let same = c.law_one_end.ensures making_of (fresh_plot j 0 None) [] (snapshot s) (begin j) a.end b.end a.comes b.comes in
    (a.effect ∙ ap left_of same ∙ sym b.effect, a.fuel ∙ ap (λ (z : Ended Outcome). (begin j).given - z.1.fuel) same ∙ sym b.fuel)
