use Rattle.std.proofs.Common.{◌≡◌, ◌+◌, ◌*◌, ◌<◌, ◌++◌, ◌∷◌, [], ℕ, suc, drop}
use Rattle.em_view.proofs.Doing.{Goes}
use Rattle.em_syntax.specs.declared.tree.Loop.{out-Loop}
use Rattle.em_syntax.specs.declared.tree.For.{out-For}
use Rattle.em_word.specs.Held.{IsReady}
use Rattle.em_exec.specs.Leads.{rest_of}
use Rattle.em_command.specs.Jumps.{is_free}
use Rattle.em_command.specs.Streams.{around}
use Rattle.em_exec.specs.Words.{fields}
use Rattle.em_exec.specs.Running.{script_at, in_order, joined, piped, assignments, redirects, branches, items, matches_one, rounds, turns}
use Rattle.em_exec.proofs.run.+shell.Given as goal

abbrev pub decreases-script_in : goal.decreases-script_in
decreases-script_in g l = 40 * l.left

abbrev pub decreases-otherwise : goal.decreases-otherwise
decreases-otherwise g l = 40 * l.left + 1

abbrev pub decreases-body_turn : goal.decreases-body_turn
decreases-body_turn g l = 40 * l.left + 1

abbrev pub decreases-round : goal.decreases-round
decreases-round g l = 40 * l.left + 1

abbrev pub decreases-subshell_in : goal.decreases-subshell_in
decreases-subshell_in g l = 40 * l.left + 1

abbrev pub decreases-output_of : goal.decreases-output_of
decreases-output_of g l = 40 * l.left + 1

abbrev pub decreases-output_if : goal.decreases-output_if
decreases-output_if g l = 40 * l.left + 2

abbrev pub decreases-turn_of_word : goal.decreases-turn_of_word
decreases-turn_of_word g l = 40 * l.left + 3

abbrev pub decreases-expanded : goal.decreases-expanded
decreases-expanded g l = 40 * l.left + 4

abbrev pub decreases-whole : goal.decreases-whole
decreases-whole g l = 40 * l.left + 5

abbrev pub decreases-fields_of : goal.decreases-fields_of
decreases-fields_of g l = 40 * l.left + 6

abbrev pub decreases-added : goal.decreases-added
decreases-added g l = 40 * l.left + 5

abbrev pub decreases-pattern_of : goal.decreases-pattern_of
decreases-pattern_of g l = 40 * l.left + 5

abbrev pub decreases-matches_one : goal.decreases-matches_one
decreases-matches_one g l = 40 * l.left + 6

abbrev pub decreases-assignment_in : goal.decreases-assignment_in
decreases-assignment_in g l = 40 * l.left + 6

abbrev pub decreases-redirect_in : goal.decreases-redirect_in
decreases-redirect_in g l = 40 * l.left + 6

abbrev pub decreases-assignments_in : goal.decreases-assignments_in
decreases-assignments_in g l = 40 * l.left + 7

abbrev pub decreases-redirects_in : goal.decreases-redirects_in
decreases-redirects_in g l = 40 * l.left + 7

abbrev pub decreases-acted : goal.decreases-acted
decreases-acted g l = 40 * l.left + 8

abbrev pub decreases-worded_in : goal.decreases-worded_in
decreases-worded_in g l = 40 * l.left + 9

abbrev pub decreases-simple_in : goal.decreases-simple_in
decreases-simple_in g l = 40 * l.left + 10

abbrev pub decreases-branches_in : goal.decreases-branches_in
decreases-branches_in g l = 40 * l.left + 2

abbrev pub decreases-if_in : goal.decreases-if_in
decreases-if_in g l = 40 * l.left + 3

abbrev pub decreases-tested : goal.decreases-tested
decreases-tested g l = 40 * l.left + 2

abbrev pub decreases-turn_in : goal.decreases-turn_in
decreases-turn_in g l = 40 * l.left + 3

abbrev pub decreases-loop_in : goal.decreases-loop_in
decreases-loop_in g l = 40 * l.left + 4

abbrev pub decreases-rounds_in : goal.decreases-rounds_in
decreases-rounds_in g l = 40 * l.left + 2

abbrev pub decreases-for_in : goal.decreases-for_in
decreases-for_in g l = 40 * l.left + 7

abbrev pub decreases-items_in : goal.decreases-items_in
decreases-items_in g l = 40 * l.left + 7

abbrev pub decreases-case_in : goal.decreases-case_in
decreases-case_in g l = 40 * l.left + 8

abbrev pub decreases-body_in : goal.decreases-body_in
decreases-body_in g l = 40 * l.left + 9

abbrev pub decreases-routed : goal.decreases-routed
decreases-routed g l = 40 * l.left + 10

abbrev pub decreases-compound_in : goal.decreases-compound_in
decreases-compound_in g l = 40 * l.left + 11

abbrev pub decreases-command_in : goal.decreases-command_in
decreases-command_in g l = 40 * l.left + 12

abbrev pub decreases-stage_output : goal.decreases-stage_output
decreases-stage_output g l = 40 * l.left + 13

abbrev pub decreases-last_stage : goal.decreases-last_stage
decreases-last_stage g l = 40 * l.left + 13

abbrev pub decreases-piped : goal.decreases-piped
decreases-piped g l = 40 * l.left + 14

abbrev pub decreases-stages_by : goal.decreases-stages_by
decreases-stages_by g l = 40 * l.left + 15

abbrev pub decreases-stages_in : goal.decreases-stages_in
decreases-stages_in g l = 40 * l.left + 16

abbrev pub decreases-pipeline_in : goal.decreases-pipeline_in
decreases-pipeline_in g l = 40 * l.left + 17

abbrev pub decreases-joined_in : goal.decreases-joined_in
decreases-joined_in g l = 40 * l.left + 18

abbrev pub decreases-and_or_in : goal.decreases-and_or_in
decreases-and_or_in g l = 40 * l.left + 19

abbrev pub decreases-list_in : goal.decreases-list_in
decreases-list_in g l = 40 * l.left + 20

abbrev pub invariant-list_in-loop-and_or : goal.invariant-list_in-loop-and_or
invariant-list_in-loop-and_or g l = Goes is_free g.V.View.tells l.initial.desk l.desk l.initial.here l.here
    (in_order (script_at l.left) l.scene l.list) (in_order (script_at l.left) l.scene (drop l.and_or-index l.list))

abbrev pub invariant-and_or_in-loop-joined : goal.invariant-and_or_in-loop-joined
invariant-and_or_in-loop-joined g l = Goes is_free g.V.View.tells l.initial.desk l.desk l.initial.here l.here
    (joined (script_at l.left) l.scene l.joined-items) (joined (script_at l.left) l.scene (drop l.joined-index l.joined-items))

abbrev pub invariant-piped-loop-stage : goal.invariant-piped-loop-stage
invariant-piped-loop-stage g l = Goes is_free g.V.View.tells l.initial.desk l.desk l.initial.here l.here
    (piped (script_at l.left) [] (l.others ++ l.last ∷ [])) (piped (script_at l.left) l.input (drop l.stage-index l.others ++ l.last ∷ []))

abbrev pub invariant-assignments_in-loop-one : goal.invariant-assignments_in-loop-one
invariant-assignments_in-loop-one g l = Goes is_free g.V.View.tells l.initial.desk l.desk l.initial.here l.here
    (assignments (script_at l.left) l.scene l.sets l.assigned) (assignments (script_at l.left) l.scene l.sets (drop l.one-index l.assigned))

abbrev pub invariant-redirects_in-loop-one : goal.invariant-redirects_in-loop-one
invariant-redirects_in-loop-one g l = Goes is_free g.V.View.tells l.initial.desk l.desk l.initial.here l.here
    (redirects (script_at l.left) l.scene l.redirects around) (redirects (script_at l.left) l.scene (drop l.one-index l.redirects) l.streams)

abbrev pub invariant-branches_in-loop-branch : goal.invariant-branches_in-loop-branch
invariant-branches_in-loop-branch g l = Goes is_free g.V.View.tells l.initial.desk l.desk l.initial.here l.here
    (branches (script_at l.left) l.scene l.branches l.other) (branches (script_at l.left) l.scene (drop l.branch-index l.branches) l.other)

abbrev pub invariant-rounds_in-loop-word : goal.invariant-rounds_in-loop-word
invariant-rounds_in-loop-word g l = Goes is_free g.V.View.tells l.initial.desk l.desk l.initial.here l.here
    (rounds (out-For l.it).name (script_at l.left (out-For l.it).body l.scene) l.words) (rounds (out-For l.it).name (script_at l.left (out-For l.it).body l.scene) (drop l.word-index l.words))

abbrev pub invariant-items_in-loop-item : goal.invariant-items_in-loop-item
invariant-items_in-loop-item g l = Goes is_free g.V.View.tells l.initial.desk l.desk l.initial.here l.here
    (items (script_at l.left) l.scene l.text l.items) (items (script_at l.left) l.scene l.text (drop l.item-index l.items))

abbrev pub invariant-matches_one-loop-pattern : goal.invariant-matches_one-loop-pattern
invariant-matches_one-loop-pattern g l = Goes is_free g.V.View.tells l.initial.desk l.desk l.initial.here l.here
    (matches_one (script_at l.left) l.scene l.text l.patterns) (matches_one (script_at l.left) l.scene l.text (drop l.pattern-index l.patterns))

abbrev pub invariant-fields_of-loop-word : goal.invariant-fields_of-loop-word
invariant-fields_of-loop-word g l = Goes is_free g.V.View.tells l.initial.desk l.desk l.initial.here l.here
    (fields (script_at l.left) l.scene [] l.words) (fields (script_at l.left) l.scene l.all (drop l.word-index l.words))

abbrev pub invariant-expanded-loop : goal.invariant-expanded-loop
invariant-expanded-loop g l = Goes is_free g.V.View.tells l.initial.desk l.desk l.initial.here l.here (rest_of (script_at l.left) l.scene l.initial.expander) (rest_of (script_at l.left) l.scene l.expander)
    × IsReady l.expander

abbrev pub decreases-loop_in-loop-scene : goal.decreases-loop_in-loop-scene
decreases-loop_in-loop-scene g l = l.desk.work.fuel

-- some number above the fuel is left
abbrev pub invariant-loop_in-loop-scene : goal.invariant-loop_in-loop-scene
invariant-loop_in-loop-scene g l = (gas : ℕ) × (l.desk.work.fuel < gas) × Goes is_free g.V.View.tells l.initial.desk l.desk l.initial.here l.here
    (turns (suc l.initial.desk.work.fuel) (out-Loop l.it).until (script_at l.left (out-Loop l.it).test l.scene) (script_at l.left (out-Loop l.it).body l.scene) 0)
    (turns gas (out-Loop l.it).until (script_at l.left (out-Loop l.it).test l.scene) (script_at l.left (out-Loop l.it).body l.scene) l.last)
