use Rattle.std.proofs.Common.{◌≡◌, ◌∙◌, Some, None, option_map, sym, ap}
use Rattle.em_view.proofs.Doing.{finish_s}
use Rattle.em_exec.specs.Subs.{Alone, command_alone, begins_with_make}
use Rattle.em_exec.proofs.Lines.{by_form, has_words, lost_words}
use Rattle.em_exec.proofs.sub.pipeline_words.Goals as goal

pub returns-in_err-words_alone-in-Some-clause-does : goal.returns-in_err-words_alone-in-Some-clause-does
returns-in_err-words_alone-in-Some-clause-does g c =
    let make = sym c.make_in.ensures ∙ ap (λ o. option_map (λ t. t.now) o) c.in-Some.is in
    by_form (option_map (λ x. Alone x) (command_alone begins_with_make c.args.pipeline.now)) (Some (Alone c.in-Some.make.now)) (ap (λ o. option_map (λ x. Alone x) o) make) (lost_words _ c.from_residual.ensures.1 c.in_err-words_alone-in-Some.ensures.does)

pub returns-in_ok-words_alone-in-Some-clause-does : goal.returns-in_ok-words_alone-in-Some-clause-does
returns-in_ok-words_alone-in-Some-clause-does g c =
    let make = sym c.make_in.ensures ∙ ap (λ o. option_map (λ t. t.now) o) c.in-Some.is in
    by_form (option_map (λ x. Alone x) (command_alone begins_with_make c.args.pipeline.now)) (Some (Alone c.in-Some.make.now)) (ap (λ o. option_map (λ x. Alone x) o) make) (has_words _ c.in_ok-words_alone-in-Some.ensures.does)

pub returns-in-None-clause-does : goal.returns-in-None-clause-does
returns-in-None-clause-does g c =
    let make = sym c.make_in.ensures ∙ ap (λ o. option_map (λ t. t.now) o) c.in-None.is in
    by_form (option_map (λ x. Alone x) (command_alone begins_with_make c.args.pipeline.now)) None (ap (λ o. option_map (λ x. Alone x) o) make) finish_s
