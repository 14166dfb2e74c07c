-- What holds of a line with which a job pauses.
--     IfTried, IfBegins      of the line, where there is one
use Rattle.std.specs.Prelude.{Result, Ok}
use Rattle.em_exec.specs.declared.turn.SubLine.{SubLine}
use Rattle.em_steps.specs.declared.laps.Lap.{Lap}
use Rattle.em_steps.specs.declared.laps.Lap.TheVariants as lap
use Rattle.em_steps.specs.declared.laps.Tried.{Tried}
use Rattle.em_steps.specs.declared.laps.Tried.TheVariants as tried
use Rattle.em_job.specs.declared.stop.JobStop.{JobStop}

abbrev pub IfTried : Result Tried JobStop → (SubLine → Type 0) → Type 0
IfTried (Ok (tried.Begins l)) P = P l
IfTried _ P = Unit {0}

abbrev pub IfBegins : Result Lap JobStop → (SubLine → Type 0) → Type 0
IfBegins (Ok (lap.Begins env l)) P = P l
IfBegins _ P = Unit {0}
