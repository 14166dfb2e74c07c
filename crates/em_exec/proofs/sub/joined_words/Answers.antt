use Rattle.std.proofs.Common.{◌≡◌, ◌∙◌, Some, None, option_map, sym, ap}
use Rattle.em_view.proofs.Doing.{finish_s}
use Rattle.em_syntax.specs.declared.tree.Joined.{out-Joined}
use Rattle.em_exec.specs.Subs.{behind, command_alone, is_cd, begins_with_make}
use Rattle.em_exec.proofs.Lines.{by_form, no_cd}
use Rattle.em_exec.proofs.sub.joined_words.Goals as goal

pub returns-in-Some-clause-does : goal.returns-in-Some-clause-does
returns-in-Some-clause-does g c =
    let cd = sym c.cd_in.ensures ∙ ap (λ o. option_map (λ t. t.now) o) c.in-Some.is in
    let make = command_alone begins_with_make (out-Joined c.args.joined.now).next in
    by_form (behind c.args.joined.now (command_alone is_cd c.args.first.now) make) (behind c.args.joined.now (Some c.in-Some.cd.now) make) (ap (λ o. behind c.args.joined.now o make) cd) c.joined_make.ensures.does

pub returns-in-None-clause-does : goal.returns-in-None-clause-does
returns-in-None-clause-does g c =
    let cd = sym c.cd_in.ensures ∙ ap (λ o. option_map (λ t. t.now) o) c.in-None.is in
    by_form (behind c.args.joined.now (command_alone is_cd c.args.first.now) (command_alone begins_with_make (out-Joined c.args.joined.now).next)) None (no_cd _ _ _ cd) finish_s
