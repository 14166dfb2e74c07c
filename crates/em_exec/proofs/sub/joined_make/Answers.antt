use Rattle.std.proofs.Common.{◌≡◌, ◌∙◌, Some, None, option_map, sym, ap}
use Rattle.em_view.proofs.Doing.{finish_s}
use Rattle.em_syntax.specs.declared.tree.Joined.{out-Joined}
use Rattle.em_exec.specs.Subs.{Behind, behind, command_alone, begins_with_make}
use Rattle.em_exec.proofs.Lines.{by_form, has_words, lost_words, unjoined, is_joined, is_alone}
use Rattle.em_exec.proofs.sub.joined_make.Goals as goal

pub returns-then-not-joined-clause-does : goal.returns-then-not-joined-clause-does
returns-then-not-joined-clause-does g c = by_form (behind c.args.joined.now (Some c.args.cd.now) (command_alone begins_with_make (out-Joined c.args.joined.now).next)) None (unjoined _ _ _ c.if-not-joined.true) finish_s

pub returns-in_err-words_behind-in-Some-clause-does : goal.returns-in_err-words_behind-in-Some-clause-does
returns-in_err-words_behind-in-Some-clause-does g c =
    let make = sym c.make_in.ensures ∙ ap (λ o. option_map (λ t. t.now) o) c.in-Some.is in
    by_form (behind c.args.joined.now (Some c.args.cd.now) (command_alone begins_with_make (out-Joined c.args.joined.now).next)) (Some (Behind c.args.cd.now c.args.joined.now c.in-Some.make.now)) (is_joined _ _ _ _ c.if-not-joined.false make) (lost_words _ c.from_residual.ensures.1 c.in_err-words_behind-in-Some.ensures.does)

pub returns-in_ok-words_behind-in-Some-clause-does : goal.returns-in_ok-words_behind-in-Some-clause-does
returns-in_ok-words_behind-in-Some-clause-does g c =
    let make = sym c.make_in.ensures ∙ ap (λ o. option_map (λ t. t.now) o) c.in-Some.is in
    by_form (behind c.args.joined.now (Some c.args.cd.now) (command_alone begins_with_make (out-Joined c.args.joined.now).next)) (Some (Behind c.args.cd.now c.args.joined.now c.in-Some.make.now)) (is_joined _ _ _ _ c.if-not-joined.false make) (has_words _ c.in_ok-words_behind-in-Some.ensures.does)

pub returns-in-None-clause-does : goal.returns-in-None-clause-does
returns-in-None-clause-does g c =
    let make = sym c.make_in.ensures ∙ ap (λ o. option_map (λ t. t.now) o) c.in-None.is in
    by_form (behind c.args.joined.now (Some c.args.cd.now) (command_alone begins_with_make (out-Joined c.args.joined.now).next)) None (is_alone _ _ _ make) finish_s
