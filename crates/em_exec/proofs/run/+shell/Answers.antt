use Rattle.std.proofs.Common.{◌≡◌, ◌∙◌, ◌+◌, ◌-◌, suc, true, false, drop, refl, sym, ap, [], Ok, None, arith}
use Rattle.em_base.proofs.Lemmas.{left_at, none_at}
use Rattle.em_view.proofs.Doing.{then_s, exit_s, leave_s, finish_s, out_s, owned_s, refused_s, more_s, stop_s, end_s}
use Rattle.em_syntax.specs.declared.tree.Command.{out-Command, out-roll-Command}
use Rattle.em_syntax.specs.declared.tree.Command.TheVariants as command
use Rattle.em_syntax.specs.declared.tree.Simple.{out-Simple}
use Rattle.em_syntax.specs.declared.tree.Joined.{out-Joined}
use Rattle.em_syntax.specs.declared.tree.Branch.{out-Branch}
use Rattle.em_syntax.specs.declared.tree.Loop.{out-Loop}
use Rattle.em_syntax.specs.declared.tree.For.{out-For}
use Rattle.em_word.specs.declared.turn.Mode.TheVariants as mode
use Rattle.em_word.specs.Turns.{turn}
use Rattle.em_word.specs.Held.{plan_of, mode_of}
use Rattle.em_command.specs.declared.here.Here.{Here}
use Rattle.em_command.specs.Heres.{branch}
use Rattle.em_exec.specs.Copies.{apart, unwritten, put_back, subshell, heard, substituted, collected}
use Rattle.em_syntax.specs.declared.tree.Compound.{out-Compound}
use Rattle.em_exec.specs.Literals.{are_said}
use Rattle.em_exec.specs.Words.{expanded, added, whole, pattern, first_in}
use Rattle.em_exec.proofs.Literal.{literal_s, whole_s, said_s}
use Rattle.em_exec.specs.Running.{if_goes, if_zero, if_goes_on, goes_with, goes_on, branches, pipeline_of, and_or_of, joined_one, command_of, simple_of, act, assignment, redirect_one, compound_of, routed, body_of, if_of, one_turn, body_turn, for_of, round, case_of, script_at}
use Rattle.em_exec.proofs.Looking.{looked_s, kept_by, caught_s, worded_ok, worded_err}
use Rattle.em_exec.proofs.Holding.{by_turns}
use Rattle.em_exec.proofs.Nodes.{is_simple, is_subshell, is_group, is_if, is_loop, is_for, is_case}
use Rattle.em_exec.proofs.Turning.{from_fuel}
use Rattle.em_exec.proofs.Listing.{not_last, some_piped}
use Rattle.em_exec.proofs.Cases.{one_more, no_list, some_list, no_words, some_words, none_by_length, by_status_s, nothing_left, none_left, above, zero_s, other_s}
use Rattle.em_exec.proofs.Leading.{again_err, turned_err}
use Rattle.em_exec.proofs.run.+shell.Goals as goal

pub acted-returns-in_err-assignments_in : goal.acted-returns-in_err-assignments_in
unfolding act
acted-returns-in_err-assignments_in g t c = rw (none_by_length c.args.words.now ∙ sym c.is_empty-alone.ensures) (leave_s _ c.from_residual.ensures.1 (rw c.deref.ensures.value at c.in_err-assignments_in.ensures))

pub acted-returns-then-alone : goal.acted-returns-then-alone
unfolding act
acted-returns-then-alone g t c = rw (none_by_length c.args.words.now ∙ sym c.is_empty-alone.ensures) (then_s _ (rw c.deref.ensures.value at c.in_ok-assignments_in.ensures) (rw c.if-alone.true (owned_s {r = Ok tt} _ (λ n. refl))))

pub acted-returns : goal.acted-returns
unfolding act
acted-returns g t c = rw (none_by_length c.args.words.now ∙ sym c.is_empty-alone.ensures) (then_s _ (rw c.deref.ensures.value at c.in_ok-assignments_in.ensures) (rw c.if-alone.false (rw c.bytes.ensures at c.perform.ensures)))

pub and_or_in-returns-in_err-pipeline_in : goal.and_or_in-returns-in_err-pipeline_in
unfolding and_or_of
and_or_in-returns-in_err-pipeline_in g t c = leave_s _ c.from_residual.ensures.1 c.in_err-pipeline_in.ensures

pub and_or_in-loop-joined-init : goal.and_or_in-loop-joined-init
and_or_in-loop-joined-init g t c = λ new u r p. p

pub and_or_in-returns-in_err-joined_in : goal.and_or_in-returns-in_err-joined_in
unfolding and_or_of
and_or_in-returns-in_err-joined_in g t c = let at_item = left_at c.deref-joined-items.result.now c.loop-joined.joined-index c.joined-item.result c.loop-joined-test.true c.joined-item.is in
    then_s _ c.in_ok-pipeline_in.ensures (rw (sym c.deref-joined-items.ensures.value) (stop_s _ (rw at_item at c.loop-joined.invariant) c.from_residual-in_err-joined_in.ensures.1 c.in_err-joined_in.ensures))

pub and_or_in-loop-joined-preserved : goal.and_or_in-loop-joined-preserved
and_or_in-loop-joined-preserved g t c = let at_item = left_at c.deref-joined-items.result.now c.loop-joined.joined-index c.joined-item.result c.loop-joined-test.true c.joined-item.is in
    more_s _ (rw at_item at c.loop-joined.invariant) c.in_ok-joined_in.ensures

pub and_or_in-returns : goal.and_or_in-returns
unfolding and_or_of
and_or_in-returns g t c = let at_end = none_at c.deref-joined-items.result.now c.loop-joined.joined-index c.loop-joined-test.false in
    then_s _ c.in_ok-pipeline_in.ensures (rw (sym c.deref-joined-items.ensures.value) (end_s (rw at_end at c.loop-joined.invariant) finish_s))

pub joined_in-returns-then-goes_with : goal.joined_in-returns-then-goes_with
unfolding joined_one
joined_in-returns-then-goes_with g t c = by_status_s (λ n. if_goes (goes_with (out-Joined c.args.joined.now).and n) (pipeline_of (script_at c.args.left) c.args.scene.now (out-Joined c.args.joined.now).next)) (rw (sym c.goes_with.ensures ∙ c.if-goes_with.true) c.pipeline_in.ensures)

pub joined_in-returns : goal.joined_in-returns
unfolding joined_one
joined_in-returns g t c = by_status_s (λ n. if_goes (goes_with (out-Joined c.args.joined.now).and n) (pipeline_of (script_at c.args.left) c.args.scene.now (out-Joined c.args.joined.now).next)) (rw (sym c.goes_with.ensures ∙ c.if-goes_with.false) finish_s)

pub pipeline_in-returns-in_err-stages_in : goal.pipeline_in-returns-in_err-stages_in
unfolding pipeline_of
pipeline_in-returns-in_err-stages_in g t c = leave_s _ c.from_residual.ensures.1 (rw c.deref.ensures.value at c.in_err-stages_in.ensures)

pub pipeline_in-returns-then-pipeline : goal.pipeline_in-returns-then-pipeline
unfolding pipeline_of
pipeline_in-returns-then-pipeline g t c = then_s _ (rw c.deref.ensures.value at c.in_ok-stages_in.ensures) (rw c.if-pipeline.true (owned_s {r = Ok tt} _ (λ n. rw c.opposite-here.ensures refl)))

pub pipeline_in-returns : goal.pipeline_in-returns
unfolding pipeline_of
pipeline_in-returns g t c = then_s _ (rw c.deref.ensures.value at c.in_ok-stages_in.ensures) (rw c.if-pipeline.false finish_s)

pub stages_in-returns-in-None : goal.stages_in-returns-in-None
stages_in-returns-in-None g t c = rw (none_left c.args.stages.now c.in-None.ensures.cases) finish_s

pub stages_in-returns-in-Some : goal.stages_in-returns-in-Some
stages_in-returns-in-Some g t c = rw c.in-Some.ensures.cases.0 c.stages_by.ensures

pub stages_by-returns-then-is_empty : goal.stages_by-returns-then-is_empty
stages_by-returns-then-is_empty g t c = rw (nothing_left c.args.others.now (sym c.is_empty.ensures ∙ c.if-is_empty.true)) c.command_in.ensures

pub stages_by-returns : goal.stages_by-returns
stages_by-returns g t c = rw (some_piped (script_at c.args.left) c.args.scene.now c.args.others.now c.args.last.now (sym c.is_empty.ensures ∙ c.if-is_empty.false)) c.piped.ensures

pub piped-returns-in_err-input : goal.piped-returns-in_err-input
piped-returns-in_err-input g t c = out_s _ refl c.from_residual.ensures.1

pub piped-loop-stage-init : goal.piped-loop-stage-init
piped-loop-stage-init g t c = rw c.in_ok-input.ensures (λ new u r p. p)

pub piped-returns-in_err-text : goal.piped-returns-in_err-text
piped-returns-in_err-text g t c = let at_item = left_at c.args.others.now c.loop-stage.stage-index c.stage-item.result c.loop-stage-test.true c.stage-item.is in
    let inv = rw (at_item, not_last (drop (c.loop-stage.stage-index + 1) c.args.others.now) c.args.last.now) at c.loop-stage.invariant in
    stop_s _ inv c.from_residual-in_err-text.ensures.1 c.in_err-text.ensures

pub piped-returns-in_err-input-2 : goal.piped-returns-in_err-input-2
piped-returns-in_err-input-2 g t c = let at_item = left_at c.args.others.now c.loop-stage.stage-index c.stage-item.result c.loop-stage-test.true c.stage-item.is in
    let inv = rw (at_item, not_last (drop (c.loop-stage.stage-index + 1) c.args.others.now) c.args.last.now) at c.loop-stage.invariant in
    end_s inv (then_s _ c.in_ok-text.ensures (out_s _ refl c.from_residual-in_err-input-2.ensures.1))

pub piped-loop-stage-preserved : goal.piped-loop-stage-preserved
piped-loop-stage-preserved g t c = let at_item = left_at c.args.others.now c.loop-stage.stage-index c.stage-item.result c.loop-stage-test.true c.stage-item.is in
    let inv = rw (at_item, not_last (drop (c.loop-stage.stage-index + 1) c.args.others.now) c.args.last.now) at c.loop-stage.invariant in
    rw c.in_ok-input-2.ensures (more_s _ inv c.in_ok-text.ensures)

pub piped-returns : goal.piped-returns
piped-returns g t c = let at_end = none_at c.args.others.now c.loop-stage.stage-index c.loop-stage-test.false in
    end_s (rw at_end at c.loop-stage.invariant) c.last_stage.ensures

pub stage_output-returns-in_err-copy : goal.stage_output-returns-in_err-copy
stage_output-returns-in_err-copy g t c = out_s _ refl c.from_residual.ensures.1

pub stage_output-returns-in_err-scene : goal.stage_output-returns-in_err-scene
stage_output-returns-in_err-scene g t c = out_s _ refl c.from_residual-in_err-scene.ensures.1

pub stage_output-returns : goal.stage_output-returns
unfolding heard
stage_output-returns g t c = looked_s branch apart _ (kept_by _ _ _ _ _ c.overhear.ensures) (rw (c.in_ok-copy.ensures, c.in_ok-scene.ensures) at c.command_in-ended.ensures) (owned_s _ c.overhear.ensures)

pub last_stage-returns-in_err-copy : goal.last_stage-returns-in_err-copy
last_stage-returns-in_err-copy g t c = out_s _ refl c.from_residual.ensures.1

pub last_stage-returns-in_err-scene : goal.last_stage-returns-in_err-scene
last_stage-returns-in_err-scene g t c = out_s _ refl c.from_residual-in_err-scene.ensures.1

pub last_stage-returns : goal.last_stage-returns
unfolding subshell
last_stage-returns g t c = looked_s branch apart _ (kept_by _ _ _ _ _ c.rejoin.ensures) (rw (c.in_ok-copy.ensures, c.in_ok-scene.ensures) at c.command_in-ended.ensures) (owned_s _ c.rejoin.ensures)

pub subshell_in-returns-in_err-copy : goal.subshell_in-returns-in_err-copy
subshell_in-returns-in_err-copy g t c = out_s _ refl c.from_residual.ensures.1

pub subshell_in-returns-in_err-scene : goal.subshell_in-returns-in_err-scene
subshell_in-returns-in_err-scene g t c = out_s _ refl c.from_residual-in_err-scene.ensures.1

pub subshell_in-returns : goal.subshell_in-returns
unfolding subshell
subshell_in-returns g t c = looked_s branch apart _ (kept_by _ _ _ _ _ c.rejoin.ensures) (rw (c.in_ok-copy.ensures, c.in_ok-scene.ensures) at c.script_in-ended.ensures) (owned_s _ c.rejoin.ensures)

pub output_of-returns-in_err-copy : goal.output_of-returns-in_err-copy
output_of-returns-in_err-copy g t c = out_s _ refl c.from_residual.ensures.1

pub output_of-returns-in_err-scene : goal.output_of-returns-in_err-scene
output_of-returns-in_err-scene g t c = out_s _ refl c.from_residual-in_err-scene.ensures.1

pub output_of-returns : goal.output_of-returns
unfolding substituted
output_of-returns g t c = looked_s branch apart _ (kept_by _ _ _ _ _ c.overhear.ensures) (rw (c.in_ok-copy.ensures, c.in_ok-scene.ensures) at c.script_in-ended.ensures) (owned_s _ c.overhear.ensures)

pub command_in-returns-in-Simple : goal.command_in-returns-in-Simple
unfolding command_of
command_in-returns-in-Simple g t c = rw (ap out-Command c.in-Simple.is ∙ is_simple _) c.simple_in.ensures

pub command_in-returns-in-Compound : goal.command_in-returns-in-Compound
unfolding command_of
command_in-returns-in-Compound g t c = rw (ap out-Command c.in-Compound.is ∙ ap out-Command (sym (command.rolls-Compound _ _)) ∙ out-roll-Command _) (rw c.deref.ensures.value at c.compound_in.ensures)

pub simple_in-returns-in_err-charge_unit : goal.simple_in-returns-in_err-charge_unit
unfolding simple_of
simple_in-returns-in_err-charge_unit g t c = leave_s _ c.from_residual.ensures.1 (c.in_err-charge_unit.ensures.does _)

pub simple_in-returns-then-are_said : goal.simple_in-returns-then-are_said
unfolding simple_of
simple_in-returns-then-are_said g t c =
    let said : are_said c.deref.result.now c.deref-2.result.now ≡ true = sym c.are_said.ensures ∙ c.if-are_said.true in
    then_s _ (c.in_ok-charge_unit.ensures.does _) (then_s _ (owned_s {r = Ok tt} _ (λ n. refl)) (then_s _ (said_s (script_at c.args.left) c.args.scene.now [] (out-Simple c.args.simple.now).texts.items (out-Simple c.args.simple.now).words.items (rw (c.deref.ensures.value, c.deref-2.ensures.value) at said)) (rw c.deref-then-are_said.ensures.value at c.worded_in.ensures)))

pub simple_in-returns-in_err-words : goal.simple_in-returns-in_err-words
unfolding simple_of
simple_in-returns-in_err-words g t c = then_s _ (c.in_ok-charge_unit.ensures.does _) (then_s _ (owned_s {r = Ok tt} _ (λ n. refl)) (leave_s _ c.from_residual-in_err-words.ensures.1 (rw c.deref-3.ensures.value at c.in_err-words.ensures)))

pub simple_in-returns : goal.simple_in-returns
unfolding simple_of
simple_in-returns g t c = then_s _ (c.in_ok-charge_unit.ensures.does _) (then_s _ (owned_s {r = Ok tt} _ (λ n. refl)) (then_s _ (rw c.deref-3.ensures.value at c.in_ok-words.ensures) (rw c.items.ensures at c.worded_in-2.ensures)))

pub worded_in-returns-in_err-streams : goal.worded_in-returns-in_err-streams
worded_in-returns-in_err-streams g t c = leave_s _ c.from_residual.ensures.1 (rw c.deref.ensures.value at c.in_err-streams.ensures)

pub worded_in-returns-in-Some : goal.worded_in-returns-in-Some
worded_in-returns-in-Some g t c = then_s _ (rw c.deref.ensures.value at c.in_ok-streams.ensures) (rw c.in-Some.is c.acted.ensures)

pub worded_in-returns-in-None : goal.worded_in-returns-in-None
worded_in-returns-in-None g t c = then_s _ (rw c.deref.ensures.value at c.in_ok-streams.ensures) (rw c.in-None.is finish_s)

pub assignments_in-loop-one-init : goal.assignments_in-loop-one-init
assignments_in-loop-one-init g t c = λ new u r p. p

pub assignments_in-returns-in_err-assignment_in : goal.assignments_in-returns-in_err-assignment_in
assignments_in-returns-in_err-assignment_in g t c = let at_item = left_at c.args.assigned.now c.loop-one.one-index c.one-item.result c.loop-one-test.true c.one-item.is in
    stop_s _ (rw at_item at c.loop-one.invariant) c.from_residual.ensures.1 c.in_err-assignment_in.ensures

pub assignments_in-loop-one-preserved : goal.assignments_in-loop-one-preserved
assignments_in-loop-one-preserved g t c = let at_item = left_at c.args.assigned.now c.loop-one.one-index c.one-item.result c.loop-one-test.true c.one-item.is in
    more_s _ (rw at_item at c.loop-one.invariant) c.in_ok-assignment_in.ensures

pub assignments_in-returns : goal.assignments_in-returns
assignments_in-returns g t c = let at_end = none_at c.args.assigned.now c.loop-one.one-index c.loop-one-test.false in
    end_s (rw at_end at c.loop-one.invariant) finish_s

pub assignment_in-returns-in_err-text : goal.assignment_in-returns-in_err-text
unfolding assignment
assignment_in-returns-in_err-text g t c = leave_s _ c.from_residual.ensures.1 c.in_err-text.ensures

pub assignment_in-returns-then-sets : goal.assignment_in-returns-then-sets
unfolding assignment
assignment_in-returns-then-sets g t c = then_s _ c.in_ok-text.ensures (rw c.if-sets.true (owned_s _ (rw c.bytes.ensures at c.assign.ensures)))

pub assignment_in-returns : goal.assignment_in-returns
unfolding assignment
assignment_in-returns g t c = then_s _ c.in_ok-text.ensures (rw c.if-sets.false finish_s)

pub redirects_in-loop-one-init : goal.redirects_in-loop-one-init
redirects_in-loop-one-init g t c = rw c.around-streams.ensures (λ new u r p. p)

pub redirects_in-returns-in_err-next : goal.redirects_in-returns-in_err-next
redirects_in-returns-in_err-next g t c = let at_item = left_at c.args.redirects.now c.loop-one.one-index c.one-item.result c.loop-one-test.true c.one-item.is in
    stop_s _ (rw at_item at c.loop-one.invariant) c.from_residual.ensures.1 c.in_err-next.ensures

pub redirects_in-returns-in-None : goal.redirects_in-returns-in-None
redirects_in-returns-in-None g t c = let at_item = left_at c.args.redirects.now c.loop-one.one-index c.one-item.result c.loop-one-test.true c.one-item.is in
    end_s (rw at_item at c.loop-one.invariant) (then_s _ (rw c.in-None.is at c.in_ok-next.ensures) finish_s)

pub redirects_in-loop-one-preserved : goal.redirects_in-loop-one-preserved
redirects_in-loop-one-preserved g t c = let at_item = left_at c.args.redirects.now c.loop-one.one-index c.one-item.result c.loop-one-test.true c.one-item.is in
    more_s _ (rw at_item at c.loop-one.invariant) (rw c.in-Some.is at c.in_ok-next.ensures)

pub redirects_in-returns : goal.redirects_in-returns
redirects_in-returns g t c = let at_end = none_at c.args.redirects.now c.loop-one.one-index c.loop-one-test.false in
    end_s (rw at_end at c.loop-one.invariant) finish_s

pub redirect_in-returns-in_err-word : goal.redirect_in-returns-in_err-word
unfolding redirect_one
redirect_in-returns-in_err-word g t c = leave_s _ c.from_residual.ensures.1 c.in_err-word.ensures

pub redirect_in-returns : goal.redirect_in-returns
unfolding redirect_one
redirect_in-returns g t c = then_s _ c.in_ok-word.ensures (rw c.bytes.ensures at c.redirect.ensures)

pub compound_in-returns-in_err-streams : goal.compound_in-returns-in_err-streams
unfolding compound_of
compound_in-returns-in_err-streams g t c = leave_s _ c.from_residual.ensures.1 c.in_err-streams.ensures

pub compound_in-returns-in-Some : goal.compound_in-returns-in-Some
unfolding compound_of
compound_in-returns-in-Some g t c = then_s _ c.in_ok-streams.ensures (rw c.in-Some.is c.routed.ensures)

pub compound_in-returns-in-None : goal.compound_in-returns-in-None
unfolding compound_of
compound_in-returns-in-None g t c = then_s _ c.in_ok-streams.ensures (rw c.in-None.is finish_s)

pub routed-returns-in_err-scene : goal.routed-returns-in_err-scene
routed-returns-in_err-scene g t c = out_s _ refl c.from_residual.ensures.1

pub routed-returns : goal.routed-returns
unfolding routed collected
routed-returns g t c = looked_s unwritten put_back _ c.pass_on.ensures.kept (rw (c.in_ok-scene.ensures, c.take_pieces-before.ensures.state) at c.body_in-ended.ensures) (rw (c.put_back-pieces.ensures.state, c.put_back-pieces.ensures.pieces, c.take_pieces-before.ensures.pieces) at c.pass_on.ensures.does)

pub body_in-returns-in-Subshell : goal.body_in-returns-in-Subshell
unfolding body_of
body_in-returns-in-Subshell g t c = rw (ap out-Compound c.in-Subshell.is ∙ is_subshell _) c.subshell_in.ensures

pub body_in-returns-in-Group : goal.body_in-returns-in-Group
unfolding body_of
body_in-returns-in-Group g t c = rw (ap out-Compound c.in-Group.is ∙ is_group _) c.script_in.ensures

pub body_in-returns-in-If : goal.body_in-returns-in-If
unfolding body_of
body_in-returns-in-If g t c = rw (ap out-Compound c.in-If.is ∙ is_if _) c.if_in.ensures

pub body_in-returns-in-Loop : goal.body_in-returns-in-Loop
unfolding body_of
body_in-returns-in-Loop g t c = rw (ap out-Compound c.in-Loop.is ∙ is_loop _) c.loop_in.ensures

pub body_in-returns-in-For : goal.body_in-returns-in-For
unfolding body_of
body_in-returns-in-For g t c = rw (ap out-Compound c.in-For.is ∙ is_for _) c.for_in.ensures

pub body_in-returns-in-Case : goal.body_in-returns-in-Case
unfolding body_of
body_in-returns-in-Case g t c = rw (ap out-Compound c.in-Case.is ∙ is_case _) c.case_in.ensures

pub if_in-returns : goal.if_in-returns
unfolding if_of
if_in-returns g t c = rw c.deref.ensures.value at c.branches_in.ensures

pub branches_in-loop-branch-init : goal.branches_in-loop-branch-init
branches_in-loop-branch-init g t c = λ new u r p. p

pub branches_in-returns-in_err-script_in : goal.branches_in-returns-in_err-script_in
branches_in-returns-in_err-script_in g t c = let at_item = left_at c.args.branches.now c.loop-branch.branch-index c.branch-item.result c.loop-branch-test.true c.branch-item.is in
    stop_s _ (rw at_item at c.loop-branch.invariant) c.from_residual.ensures.1 c.in_err-script_in.ensures

pub branches_in-returns-then-here-eq0 : goal.branches_in-returns-then-here-eq0
branches_in-returns-then-here-eq0 g t c = let at_item = left_at c.args.branches.now c.loop-branch.branch-index c.branch-item.result c.loop-branch-test.true c.branch-item.is in
    end_s (rw at_item at c.loop-branch.invariant) (then_s _ c.in_ok-script_in.ensures (by_status_s (λ n. if_zero n ((script_at c.args.left) (out-Branch c.branch-item.result).body c.args.scene.now) (branches (script_at c.args.left) c.args.scene.now (drop (c.loop-branch.branch-index + 1) c.args.branches.now) c.args.other.now)) (zero_s _ _ _ c.if-here-eq0.true c.script_in-then-here-eq0.ensures)))

pub branches_in-loop-branch-preserved : goal.branches_in-loop-branch-preserved
branches_in-loop-branch-preserved g t c = let at_item = left_at c.args.branches.now c.loop-branch.branch-index c.branch-item.result c.loop-branch-test.true c.branch-item.is in
    λ new u r p. end_s (rw at_item at c.loop-branch.invariant) (then_s _ c.in_ok-script_in.ensures (by_status_s (λ n. if_zero n ((script_at c.args.left) (out-Branch c.branch-item.result).body c.args.scene.now) (branches (script_at c.args.left) c.args.scene.now (drop (c.loop-branch.branch-index + 1) c.args.branches.now) c.args.other.now)) (other_s _ _ _ c.if-here-eq0.false p)))

pub branches_in-returns : goal.branches_in-returns
branches_in-returns g t c = let at_end = none_at c.args.branches.now c.loop-branch.branch-index c.loop-branch-test.false in
    end_s (rw at_end at c.loop-branch.invariant) c.otherwise.ensures

pub otherwise-returns-in-Some : goal.otherwise-returns-in-Some
otherwise-returns-in-Some g t c = rw c.in-Some.is c.script_in.ensures

pub otherwise-returns-in-None : goal.otherwise-returns-in-None
otherwise-returns-in-None g t c = rw c.in-None.is (owned_s {r = Ok tt} _ (λ n. refl))

pub loop_in-returns-in_err-scene : goal.loop_in-returns-in_err-scene
loop_in-returns-in_err-scene g t c = out_s _ refl c.from_residual.ensures.1

pub turn_in-returns-in_err-turn : goal.turn_in-returns-in_err-turn
unfolding one_turn
turn_in-returns-in_err-turn g t c = leave_s _ c.from_residual.ensures.1 (caught_s c.in_err-turn.ensures c.script_in.ensures)

pub turn_in-returns : goal.turn_in-returns
unfolding one_turn
turn_in-returns g t c = then_s _ (caught_s c.in_ok-turn.ensures c.script_in.ensures) c.tested.ensures

pub tested-returns-in-Broken : goal.tested-returns-in-Broken
tested-returns-in-Broken g t c = rw c.in-Broken.is (owned_s {r = Ok None} _ (λ n. refl))

pub tested-returns-in-Continued : goal.tested-returns-in-Continued
tested-returns-in-Continued g t c = rw c.in-Continued.is finish_s

pub tested-returns-then-goes_on : goal.tested-returns-then-goes_on
tested-returns-then-goes_on g t c = rw c.in-Whole.is (by_status_s (λ n. if_goes_on (goes_on (out-Loop c.args.it.now).until n) ((script_at c.args.left) (out-Loop c.args.it.now).body c.args.scene.now) c.args.last) (rw (sym c.goes_on.ensures ∙ c.if-goes_on.true) c.body_turn.ensures))

pub tested-returns-else-goes_on : goal.tested-returns-else-goes_on
tested-returns-else-goes_on g t c = rw c.in-Whole.is (by_status_s (λ n. if_goes_on (goes_on (out-Loop c.args.it.now).until n) ((script_at c.args.left) (out-Loop c.args.it.now).body c.args.scene.now) c.args.last) (rw (sym c.goes_on.ensures ∙ c.if-goes_on.false) (owned_s {r = Ok None} _ (λ n. refl))))

pub body_turn-returns-in_err-turn : goal.body_turn-returns-in_err-turn
unfolding body_turn
body_turn-returns-in_err-turn g t c = leave_s _ c.from_residual.ensures.1 (caught_s c.in_err-turn.ensures c.script_in.ensures)

pub body_turn-returns : goal.body_turn-returns
unfolding body_turn
body_turn-returns g t c = then_s _ (caught_s c.in_ok-turn.ensures c.script_in.ensures) (owned_s {r = Ok _} _ (λ n. rw c.body_status.ensures refl))

pub for_in-returns-in_err-words : goal.for_in-returns-in_err-words
unfolding for_of
for_in-returns-in_err-words g t c = leave_s _ c.from_residual.ensures.1 (rw c.deref.ensures.value at c.in_err-words.ensures)

pub for_in-returns-in_err-scene : goal.for_in-returns-in_err-scene
unfolding for_of
for_in-returns-in_err-scene g t c = then_s _ (rw c.deref.ensures.value at c.in_ok-words.ensures) (out_s _ refl c.from_residual-in_err-scene.ensures.1)

pub for_in-returns : goal.for_in-returns
unfolding for_of
for_in-returns g t c = then_s _ (rw c.deref.ensures.value at c.in_ok-words.ensures) (rw (c.items.ensures, c.in_ok-scene.ensures) at c.rounds_in.ensures)

pub rounds_in-returns-then-is_empty : goal.rounds_in-returns-then-is_empty
rounds_in-returns-then-is_empty g t c = rw (no_words (out-For c.args.it.now).name ((script_at c.args.left) (out-For c.args.it.now).body c.args.scene.now) c.args.words.now (sym c.is_empty.ensures ∙ c.if-is_empty.true)) (owned_s {r = Ok tt} _ (λ n. refl))

pub rounds_in-loop-word-init : goal.rounds_in-loop-word-init
rounds_in-loop-word-init g t c = λ new u r p. p

pub rounds_in-returns-in_err-round : goal.rounds_in-returns-in_err-round
rounds_in-returns-in_err-round g t c = let at_item = left_at c.args.words.now c.loop-word.word-index c.word-item.result c.loop-word-test.true c.word-item.is in
    rw (some_words (out-For c.args.it.now).name ((script_at c.args.left) (out-For c.args.it.now).body c.args.scene.now) c.args.words.now (sym c.is_empty.ensures ∙ c.if-is_empty.false)) (stop_s _ (rw at_item at c.loop-word.invariant) c.from_residual.ensures.1 c.in_err-round.ensures)

pub rounds_in-returns-then-is_broken : goal.rounds_in-returns-then-is_broken
rounds_in-returns-then-is_broken g t c = let at_item = left_at c.args.words.now c.loop-word.word-index c.word-item.result c.loop-word-test.true c.word-item.is in
    rw (some_words (out-For c.args.it.now).name ((script_at c.args.left) (out-For c.args.it.now).body c.args.scene.now) c.args.words.now (sym c.is_empty.ensures ∙ c.if-is_empty.false)) (end_s (rw at_item at c.loop-word.invariant) (then_s _ c.in_ok-round.ensures (rw (sym c.is_broken.ensures ∙ c.if-is_broken.true) finish_s)))

pub rounds_in-loop-word-preserved : goal.rounds_in-loop-word-preserved
rounds_in-loop-word-preserved g t c = let at_item = left_at c.args.words.now c.loop-word.word-index c.word-item.result c.loop-word-test.true c.word-item.is in
    λ new u r p. end_s (rw at_item at c.loop-word.invariant) (then_s _ c.in_ok-round.ensures (rw (sym c.is_broken.ensures ∙ c.if-is_broken.false) p))

pub rounds_in-returns : goal.rounds_in-returns
rounds_in-returns g t c = let at_end = none_at c.args.words.now c.loop-word.word-index c.loop-word-test.false in
    rw (some_words (out-For c.args.it.now).name ((script_at c.args.left) (out-For c.args.it.now).body c.args.scene.now) c.args.words.now (sym c.is_empty.ensures ∙ c.if-is_empty.false)) (end_s (rw at_end at c.loop-word.invariant) finish_s)

pub round-returns-in_err-charge_unit : goal.round-returns-in_err-charge_unit
unfolding round
round-returns-in_err-charge_unit g t c = leave_s _ c.from_residual.ensures.1 (c.in_err-charge_unit.ensures.does _)

pub round-returns-in_err-copy : goal.round-returns-in_err-copy
unfolding round
round-returns-in_err-copy g t c = then_s _ (c.in_ok-charge_unit.ensures.does _) (out_s _ refl c.from_residual-in_err-copy.ensures.1)

pub round-returns-in_err-assign : goal.round-returns-in_err-assign
unfolding round
round-returns-in_err-assign g t c = then_s _ (c.in_ok-charge_unit.ensures.does _) (leave_s _ c.from_residual-in_err-assign.ensures.1 (owned_s _ (rw (c.bytes.ensures, c.in_ok-copy.ensures) at c.in_err-assign.ensures)))

pub round-returns : goal.round-returns
unfolding round
round-returns g t c = then_s _ (c.in_ok-charge_unit.ensures.does _) (then_s _ (owned_s {r = Ok tt} _ (rw (c.bytes.ensures, c.in_ok-copy.ensures) at c.in_ok-assign.ensures)) (caught_s c.turn_of.ensures c.script_in.ensures))

pub case_in-returns-in_err-text : goal.case_in-returns-in_err-text
unfolding case_of
case_in-returns-in_err-text g t c = leave_s _ c.from_residual.ensures.1 c.in_err-text.ensures

pub case_in-returns : goal.case_in-returns
unfolding case_of
case_in-returns g t c = then_s _ c.in_ok-text.ensures (rw (c.deref.ensures.value, c.bytes.ensures) at c.items_in.ensures)

pub items_in-loop-item-init : goal.items_in-loop-item-init
items_in-loop-item-init g t c = λ new u r p. p

pub items_in-returns-in_err-matches_one : goal.items_in-returns-in_err-matches_one
items_in-returns-in_err-matches_one g t c = let at_item = left_at c.args.items.now c.loop-item.item-index c.item-item.result c.loop-item-test.true c.item-item.is in
    stop_s _ (rw at_item at c.loop-item.invariant) c.from_residual.ensures.1 (rw c.deref.ensures.value at c.in_err-matches_one.ensures)

pub items_in-returns-then-branch : goal.items_in-returns-then-branch
items_in-returns-then-branch g t c = let at_item = left_at c.args.items.now c.loop-item.item-index c.item-item.result c.loop-item-test.true c.item-item.is in
    end_s (rw at_item at c.loop-item.invariant) (then_s _ (rw c.deref.ensures.value at c.in_ok-matches_one.ensures) (rw c.if-branch.true c.otherwise.ensures))

pub items_in-loop-item-preserved : goal.items_in-loop-item-preserved
items_in-loop-item-preserved g t c = let at_item = left_at c.args.items.now c.loop-item.item-index c.item-item.result c.loop-item-test.true c.item-item.is in
    λ new u r p. end_s (rw at_item at c.loop-item.invariant) (then_s _ (rw c.deref.ensures.value at c.in_ok-matches_one.ensures) (rw c.if-branch.false p))

pub items_in-returns : goal.items_in-returns
items_in-returns g t c = let at_end = none_at c.args.items.now c.loop-item.item-index c.loop-item-test.false in
    end_s (rw at_end at c.loop-item.invariant) (owned_s {r = Ok tt} _ (λ n. refl))

pub matches_one-loop-pattern-init : goal.matches_one-loop-pattern-init
matches_one-loop-pattern-init g t c = λ new u r p. p

pub matches_one-returns-in_err-glyphs : goal.matches_one-returns-in_err-glyphs
matches_one-returns-in_err-glyphs g t c = let at_item = left_at c.args.patterns.now c.loop-pattern.pattern-index c.pattern-item.result c.loop-pattern-test.true c.pattern-item.is in
    stop_s _ (rw at_item at c.loop-pattern.invariant) c.from_residual.ensures.1 c.in_err-glyphs.ensures

pub matches_one-returns-then-matches : goal.matches_one-returns-then-matches
matches_one-returns-then-matches g t c = let at_item = left_at c.args.patterns.now c.loop-pattern.pattern-index c.pattern-item.result c.loop-pattern-test.true c.pattern-item.is in
    end_s (rw at_item at c.loop-pattern.invariant) (then_s _ c.in_ok-glyphs.ensures (rw (sym c.items.ensures) (rw (sym c.matches.ensures.test ∙ c.if-matches.true) finish_s)))

pub matches_one-loop-pattern-preserved : goal.matches_one-loop-pattern-preserved
matches_one-loop-pattern-preserved g t c = let at_item = left_at c.args.patterns.now c.loop-pattern.pattern-index c.pattern-item.result c.loop-pattern-test.true c.pattern-item.is in
    λ new u r p. end_s (rw at_item at c.loop-pattern.invariant) (then_s _ c.in_ok-glyphs.ensures (rw (sym c.items.ensures) (rw (sym c.matches.ensures.test ∙ c.if-matches.false) p)))

pub matches_one-returns : goal.matches_one-returns
matches_one-returns g t c = let at_end = none_at c.args.patterns.now c.loop-pattern.pattern-index c.loop-pattern-test.false in
    end_s (rw at_end at c.loop-pattern.invariant) finish_s

pub pattern_of-returns-in_err-expansion : goal.pattern_of-returns-in_err-expansion
unfolding pattern
pattern_of-returns-in_err-expansion g t c = leave_s _ c.from_residual.ensures.1 c.in_err-expansion.ensures

pub pattern_of-returns : goal.pattern_of-returns
unfolding pattern
pattern_of-returns g t c = then_s _ c.in_ok-expansion.ensures (rw (sym c.glyphs_in.ensures) finish_s)

pub whole-returns-in_err-copy-in-Some : goal.whole-returns-in_err-copy-in-Some
whole-returns-in_err-copy-in-Some g t c = out_s _ refl c.from_residual.ensures.1

pub whole-returns-in_ok-copy-in-Some : goal.whole-returns-in_ok-copy-in-Some
whole-returns-in_ok-copy-in-Some g t c = rw c.in_ok-copy-in-Some.ensures (whole_s (script_at c.args.left) c.args.scene.now c.args.word.now c.in-Some.text.now (sym c.in-Some.ensures))

pub whole-returns-in_err-expansion-in-None : goal.whole-returns-in_err-expansion-in-None
unfolding whole
whole-returns-in_err-expansion-in-None g t c = leave_s _ c.from_residual-in_err-expansion-in-None.ensures.1 c.in_err-expansion-in-None.ensures

pub whole-returns-in_ok-expansion-in-None : goal.whole-returns-in_ok-expansion-in-None
unfolding whole
whole-returns-in_ok-expansion-in-None g t c = then_s _ c.in_ok-expansion-in-None.ensures (rw (sym (c.first_in.ensures ∙ ap first_in c.fields_in.ensures)) finish_s)

pub added-returns-in_err-with_text-in-Some : goal.added-returns-in_err-with_text-in-Some
added-returns-in_err-with_text-in-Some g t c = out_s _ refl c.from_residual.ensures.1

pub added-returns-in_ok-with_text-in-Some : goal.added-returns-in_ok-with_text-in-Some
unfolding added
added-returns-in_ok-with_text-in-Some g t c = rw c.in_ok-with_text-in-Some.ensures (then_s _ (literal_s (script_at c.args.left) c.args.scene.now c.args.word.now c.in-Some.text.now (sym c.in-Some.ensures)) finish_s)

pub added-returns-in_err-expansion-in-None : goal.added-returns-in_err-expansion-in-None
unfolding added
added-returns-in_err-expansion-in-None g t c = leave_s _ c.from_residual-in_err-expansion-in-None.ensures.1 c.in_err-expansion-in-None.ensures

pub added-returns-in_err-appended-in-None : goal.added-returns-in_err-appended-in-None
unfolding added
added-returns-in_err-appended-in-None g t c = then_s _ c.in_ok-expansion-in-None.ensures (out_s _ refl c.from_residual-in_err-appended-in-None.ensures.1)

pub added-returns-in_ok-appended-in-None : goal.added-returns-in_ok-appended-in-None
unfolding added
added-returns-in_ok-appended-in-None g t c = then_s _ c.in_ok-expansion-in-None.ensures (rw (c.in_ok-appended-in-None.ensures, c.fields_in.ensures) finish_s)

pub fields_of-returns-in_err-all : goal.fields_of-returns-in_err-all
fields_of-returns-in_err-all g t c = let at_item = left_at c.args.words.now c.loop-word.word-index c.word-item.result c.loop-word-test.true c.word-item.is in
    stop_s _ (rw at_item at c.loop-word.invariant) c.from_residual.ensures.1 c.in_err-all.ensures

pub fields_of-loop-word-preserved : goal.fields_of-loop-word-preserved
fields_of-loop-word-preserved g t c = let at_item = left_at c.args.words.now c.loop-word.word-index c.word-item.result c.loop-word-test.true c.word-item.is in
    more_s _ (rw at_item at c.loop-word.invariant) c.in_ok-all.ensures

pub fields_of-returns : goal.fields_of-returns
fields_of-returns g t c = let at_end = none_at c.args.words.now c.loop-word.word-index c.loop-word-test.false in
    end_s (rw at_end at c.loop-word.invariant) finish_s

pub output_if-returns-in-Some : goal.output_if-returns-in-Some
output_if-returns-in-Some g t c = rw c.in-Some.is c.output_of.ensures

pub output_if-returns-in-None : goal.output_if-returns-in-None
output_if-returns-in-None g t c = out_s _ refl refl

pub script_in-returns-then-left-eq0 : goal.script_in-returns-then-left-eq0
script_in-returns-then-left-eq0 g t c = rw c.if-left-eq0.true (refused_s _ (λ n. refl))

pub script_in-returns : goal.script_in-returns
script_in-returns g t c = rw (one_more c.args.left c.if-left-eq0.false) (rw c.deref.ensures.value at c.list_in.ensures)

pub list_in-returns-then-is_empty : goal.list_in-returns-then-is_empty
list_in-returns-then-is_empty g t c = rw (no_list (script_at c.args.left) c.args.scene.now c.args.list.now (sym c.is_empty.ensures ∙ c.if-is_empty.true)) (owned_s {r = Ok tt} _ (λ n. refl))

pub list_in-loop-and_or-init : goal.list_in-loop-and_or-init
list_in-loop-and_or-init g t c = λ new u r p. p

pub list_in-returns-in_err-and_or_in : goal.list_in-returns-in_err-and_or_in
list_in-returns-in_err-and_or_in g t c = let at_item = left_at c.args.list.now c.loop-and_or.and_or-index c.and_or-item.result c.loop-and_or-test.true c.and_or-item.is in
    rw (some_list (script_at c.args.left) c.args.scene.now c.args.list.now (sym c.is_empty.ensures ∙ c.if-is_empty.false)) (stop_s _ (rw at_item at c.loop-and_or.invariant) c.from_residual.ensures.1 c.in_err-and_or_in.ensures)

pub list_in-loop-and_or-preserved : goal.list_in-loop-and_or-preserved
list_in-loop-and_or-preserved g t c = let at_item = left_at c.args.list.now c.loop-and_or.and_or-index c.and_or-item.result c.loop-and_or-test.true c.and_or-item.is in
    more_s _ (rw at_item at c.loop-and_or.invariant) c.in_ok-and_or_in.ensures

pub list_in-returns : goal.list_in-returns
list_in-returns g t c = let at_end = none_at c.args.list.now c.loop-and_or.and_or-index c.loop-and_or-test.false in
    rw (some_list (script_at c.args.left) c.args.scene.now c.args.list.now (sym c.is_empty.ensures ∙ c.if-is_empty.false)) (end_s (rw at_end at c.loop-and_or.invariant) finish_s)

pub loop_in-loop-scene-init : goal.loop_in-loop-scene-init
loop_in-loop-scene-init g t c = (suc c.args.desk.now.work.fuel, omega arith, λ new u r p. p)

pub loop_in-returns-in_err-charge_unit : goal.loop_in-returns-in_err-charge_unit
loop_in-returns-in_err-charge_unit g t c =
    let inv = c.loop-scene.invariant in
    let more = above _ _ inv.1 in
    from_fuel _ _ _ (rw (sym c.in_ok-scene.ensures) (stop_s _ (rw more at inv.2) c.from_residual-in_err-charge_unit.ensures.1 (c.in_err-charge_unit.ensures.does _)))

pub loop_in-returns-in_err-status : goal.loop_in-returns-in_err-status
loop_in-returns-in_err-status g t c =
    let inv = c.loop-scene.invariant in
    let more = above _ _ inv.1 in
    from_fuel _ _ _ (rw (sym c.in_ok-scene.ensures) (end_s (rw more at inv.2) (then_s _ (c.in_ok-charge_unit.ensures.does _) (leave_s _ c.from_residual-in_err-status.ensures.1 c.in_err-status.ensures))))

pub loop_in-returns-in-None : goal.loop_in-returns-in-None
loop_in-returns-in-None g t c =
    let inv = c.loop-scene.invariant in
    let more = above _ _ inv.1 in
    from_fuel _ _ _ (rw (sym c.in_ok-scene.ensures) (end_s (rw more at inv.2) (then_s _ (c.in_ok-charge_unit.ensures.does _) (then_s _ (rw c.in-None.is at c.in_ok-status.ensures) finish_s))))

pub loop_in-loop-scene-smaller : goal.loop_in-loop-scene-smaller
loop_in-loop-scene-smaller g t c = omega (arith, c.in_ok-charge_unit.ensures.burns refl, c.in_ok-status.ensures.performs.grows.burns)

pub loop_in-loop-scene-preserved : goal.loop_in-loop-scene-preserved
loop_in-loop-scene-preserved g t c =
    let inv = c.loop-scene.invariant in
    let more = above _ _ inv.1 in (
      inv.0 - 1,
      omega (arith, inv.1, c.in_ok-charge_unit.ensures.burns refl, c.in_ok-status.ensures.performs.grows.burns),
      λ new u r p. end_s (rw more at inv.2) (then_s _ (c.in_ok-charge_unit.ensures.does _) (then_s _ (rw c.in-Some.is at c.in_ok-status.ensures) p)),
    )

pub expanded-returns-in_err-expander : goal.expanded-returns-in_err-expander
expanded-returns-in_err-expander g t c = out_s _ refl c.from_residual.ensures.1

pub expanded-loop-init : goal.expanded-loop-init
expanded-loop-init g t c = (λ new u r p. p, c.in_ok-expander.ensures.ready)

pub expanded-returns-in_err-expansion : goal.expanded-returns-in_err-expansion
unfolding expanded
expanded-returns-in_err-expansion g t c = rw (sym c.in_ok-expander.ensures.plan, sym c.in_ok-expander.ensures.what.1) (end_s c.loop.invariant.0 (again_err _ _ c.from_residual-in_err-expansion.ensures.1 c.in_err-expansion.ensures))

pub expanded-returns-in-Some : goal.expanded-returns-in-Some
unfolding expanded
expanded-returns-in-Some g t c = rw (sym c.in_ok-expander.ensures.plan, sym c.in_ok-expander.ensures.what.1) (end_s c.loop.invariant.0 (rw c.in-Some.is at c.in_ok-expansion.ensures).does)

pub expanded-loop-preserved : goal.expanded-loop-preserved
expanded-loop-preserved g t c =
    let went = rw c.in-None.is at c.in_ok-expansion.ensures in
    (λ new u r p. c.loop.invariant.0 _ _ _ (went.goes _ _ _ p), went.ready)

pub expanded-returns : goal.expanded-returns
unfolding expanded
expanded-returns g t c = rw (sym c.in_ok-expander.ensures.plan, sym c.in_ok-expander.ensures.what.1) (end_s c.loop.invariant.0 (out_s _ refl refl))

pub turn_of_word-returns-in-Ok-Done : goal.turn_of_word-returns-in-Ok-Done
turn_of_word-returns-in-Ok-Done g t c = record { does = rw (by_turns (script_at c.args.left) c.args.scene.now (mode_of c.args.expander.now) (plan_of c.args.expander.now)) (then_s _ (worded_ok (λ (h : Here). turn (mode_of c.args.expander.now) (plan_of c.args.expander.now) h.shell) (rw c.in-Ok-Done.field-0-is at c.in-Ok-Done.ensures.turn)) finish_s) }

pub turn_of_word-returns-in-Ok-Pattern : goal.turn_of_word-returns-in-Ok-Pattern
turn_of_word-returns-in-Ok-Pattern g t c = record { does = rw (by_turns (script_at c.args.left) c.args.scene.now (mode_of c.args.expander.now) (plan_of c.args.expander.now)) (then_s _ (worded_ok (λ (h : Here). turn (mode_of c.args.expander.now) (plan_of c.args.expander.now) h.shell) (rw c.in-Ok-Pattern.field-0-is at c.in-Ok-Pattern.ensures.turn)) finish_s) }

pub turn_of_word-returns-in_err-assign-in-Ok-Set : goal.turn_of_word-returns-in_err-assign-in-Ok-Set
turn_of_word-returns-in_err-assign-in-Ok-Set g t c = turned_err _ _ _ _ _ c.from_residual.ensures.1 (rw (by_turns (script_at c.args.left) c.args.scene.now (mode_of c.args.expander.now) (plan_of c.args.expander.now)) (then_s _ (worded_ok (λ (h : Here). turn (mode_of c.args.expander.now) (plan_of c.args.expander.now) h.shell) (rw c.in-Ok-Set.field-0-is at c.in-Ok-Set.ensures.turn)) (exit_s _ (owned_s _ (rw c.bytes.ensures at c.in_err-assign-in-Ok-Set.ensures)))))

pub turn_of_word-returns-in_ok-assign-in-Ok-Set : goal.turn_of_word-returns-in_ok-assign-in-Ok-Set
turn_of_word-returns-in_ok-assign-in-Ok-Set g t c = record {
  goes = λ end u r p. rw (by_turns (script_at c.args.left) c.args.scene.now (mode_of c.args.expander.now) (plan_of c.args.expander.now)) (then_s _ (worded_ok (λ (h : Here). turn (mode_of c.args.expander.now) (plan_of c.args.expander.now) h.shell) (rw c.in-Ok-Set.field-0-is at c.in-Ok-Set.ensures.turn)) (then_s _ (owned_s {r = Ok tt} _ (rw c.bytes.ensures at c.in_ok-assign-in-Ok-Set.ensures)) (rw c.in-Ok-Set.ensures.same.1 at p)));
  ready = rw c.in-Ok-Set.field-0-is at c.in-Ok-Set.ensures.stands;
  same = c.in-Ok-Set.ensures.same;
}

pub turn_of_word-give-requires : goal.turn_of_word-give-requires
turn_of_word-give-requires g t c = (rw c.in-Ok-Output.field-0-is at c.in-Ok-Output.ensures.stands).waits

pub turn_of_word-returns-in_err-text-in-Ok-Output : goal.turn_of_word-returns-in_err-text-in-Ok-Output
turn_of_word-returns-in_err-text-in-Ok-Output g t c =
    turned_err _ _ _ _ _ c.from_residual-in_err-text-in-Ok-Output.ensures.1 (rw (by_turns (script_at c.args.left) c.args.scene.now (mode_of c.args.expander.now) (plan_of c.args.expander.now)) (then_s _ (worded_ok (λ (h : Here). turn (mode_of c.args.expander.now) (plan_of c.args.expander.now) h.shell) (rw c.in-Ok-Output.field-0-is at c.in-Ok-Output.ensures.turn)) (exit_s _ (rw c.script.ensures at c.in_err-text-in-Ok-Output.ensures))))

pub turn_of_word-returns-in_ok-text-in-Ok-Output : goal.turn_of_word-returns-in_ok-text-in-Ok-Output
turn_of_word-returns-in_ok-text-in-Ok-Output g t c =
    record {
      goes = λ end u r p. rw (by_turns (script_at c.args.left) c.args.scene.now (mode_of c.args.expander.now) (plan_of c.args.expander.now)) (then_s _ (worded_ok (λ (h : Here). turn (mode_of c.args.expander.now) (plan_of c.args.expander.now) h.shell) (rw c.in-Ok-Output.field-0-is at c.in-Ok-Output.ensures.turn)) (then_s _ (rw c.script.ensures at c.in_ok-text-in-Ok-Output.ensures) (rw (c.give.ensures.plan, c.give.ensures.same.1 ∙ c.in-Ok-Output.ensures.same.1) at p)));
      ready = c.give.ensures.ready;
      same = (c.give.ensures.same.0 ∙ c.in-Ok-Output.ensures.same.0, c.give.ensures.same.1 ∙ c.in-Ok-Output.ensures.same.1);
    }

pub turn_of_word-returns-in-Err : goal.turn_of_word-returns-in-Err
turn_of_word-returns-in-Err g t c = record { does = rw (by_turns (script_at c.args.left) c.args.scene.now (mode_of c.args.expander.now) (plan_of c.args.expander.now)) (exit_s _ (worded_err (λ (h : Here). turn (mode_of c.args.expander.now) (plan_of c.args.expander.now) h.shell) c.fault.ensures c.in-Err.ensures.turn)) }
