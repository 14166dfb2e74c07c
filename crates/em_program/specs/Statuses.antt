-- How a run ends: its status.
--     status_of             of the jobs of all its builds
--     has_ended order os    a job ended the run, of which these are the outcomes
use Rattle.std.specs.Prelude.{ℕ, Bool, true, false, ◌||◌, ◌&&◌, List, if◌then◌else◌}
use Rattle.std.specs.List.{list_any}
use Rattle.em_tree.specs.declared.outcome.Outcome.{Outcome}
use Rattle.em_tree.specs.declared.outcome.Outcome.TheVariants as outcome
use Rattle.em_cmdline.specs.declared.order.Order.{Order}
use Rattle.em_closing.specs.Closing.{is_made}
pub use Rattle.em_closing.specs.Closing.{is_faulty}
use Rattle.em_job.specs.Making.{ends_after, flags_of}
use Rattle.em_program.specs.declared.verdict.BuildStatus.{BuildStatus}
use Rattle.em_program.specs.declared.verdict.BuildStatus.TheVariants.{Done, Outdated, Faulty, Refused, Spent}

abbrev pub is_spent : Outcome → Bool
is_spent outcome.Spent = true
is_spent _ = false

abbrev pub is_refused : Outcome → Bool
is_refused (outcome.Refused construct place) = true
is_refused _ = false

abbrev pub has_ended : Order → List Outcome → Bool
has_ended order outcomes = list_any (ends_after (flags_of order)) outcomes

-- asked: it was only asked whether something is to be made. broken: the new image breaks a limit.
-- earlier: of the jobs of the builds before the last one, which are makefiles'. Those were made
-- whatever was asked
abbrev pub status_of : Bool → Bool → List Outcome → List Outcome → BuildStatus
status_of asked broken earlier outcomes =
    if list_any is_spent earlier || list_any is_spent outcomes then Spent
    else if list_any is_refused earlier || list_any is_refused outcomes then Refused
    else if broken || (list_any is_faulty earlier || list_any is_faulty outcomes) then Faulty
    else if asked && list_any is_made outcomes then Outdated
    else Done

-- the process's exit status
abbrev pub code_of : BuildStatus → ℕ
code_of Done = 0
code_of Outdated = 1
code_of Faulty = 2
code_of Refused = 4
code_of Spent = 5
