use Rattle.std.proofs.Common.{rules, tests, ◌==◌}
use Rattle.std.proofs.lemmas.Iterator.{cases_from_all}
use Rattle.std.proofs.lemmas.Iterator.Splits.{YieldsList-from_slice_split}
use Rattle.em_path.specs.Paths.{IsComponent}
use Rattle.em_path.proofs.Spelling.{all_answer}
use Rattle.em_path.proofs.name.are_components.Goals as goal

pub returns : goal.returns
returns c =
    let h = cases_from_all _ _ _ IsComponent (λ x. IsComponent x → ⊥) c.all.ensures.ran (YieldsList-from_slice_split _ (λ b. b == 47) c.args.parts.now c.split.ensures.rest c.split.ensures.done c.split.ensures.closure (λ x r q k. search (rules, tests))) (λ x q k. search (rules, tests)) (λ x q k. search (rules, tests)) in
    all_answer _ _ h
