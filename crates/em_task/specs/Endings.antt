-- What an order says of all jobs, and where a make ends early.
--     flags_of order        the settings that hold for each job
--     ends_after flags o    the make ends after a job with this outcome
use Rattle.std.specs.Prelude.{Bool, true, false, not}
use Rattle.em_tree.specs.declared.outcome.Outcome.{Outcome}
use Rattle.em_tree.specs.declared.outcome.Outcome.TheVariants as outcome
use Rattle.em_cmdline.specs.declared.order.Order.{Order}
use Rattle.em_task.specs.declared.job.Flags.{Flags}

abbrev pub ends_after : Flags → Outcome → Bool
ends_after flags (outcome.Halted t p) = true
ends_after flags (outcome.Refused c p) = true
ends_after flags outcome.Spent = true
ends_after flags (outcome.Failed status) = not flags.keep_going
ends_after flags outcome.NoRule = not flags.keep_going
ends_after flags outcome.Made = flags.question
ends_after flags _ = false

abbrev pub flags_of : Order → Flags
flags_of o = record { keep_going = o.keep_going; dry = o.dry; question = o.question; silent = o.silent; ignore = o.ignore; always = o.always }
