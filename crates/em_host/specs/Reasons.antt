-- Why a call on the system's files failed.
--     stop_of e             where the system answered the error e: want of memory, or this error
--     found_of answer       what the system found, None exactly where it says that there is nothing
--     answer_of answer      what a host answers then
use Rattle.std.specs.Prelude.{Option, Some, None, Result, Ok, Err}
use Rattle.std.specs.IoError.{error_kind}
use Rattle.std.specs.declared.io.Error.{Error}
use Rattle.std.specs.declared.io.ErrorKind.{ErrorKind}
use Rattle.std.specs.declared.io.ErrorKind.TheVariants.{NotFound, OutOfMemory}
use Rattle.em_host.specs.declared.stop.Reason.TheVariants.{System}
use Rattle.em_host.specs.declared.stop.Stop.{Stop}
use Rattle.em_host.specs.declared.stop.Stop.TheVariants.{Because, NoMemory}
use Rattle.em_host.specs.declared.no.HostNo.{HostNo}
use Rattle.em_host.specs.declared.no.HostNo.TheVariants.{Failed}
use Rattle.em_host.specs.declared.no.HostNo.TheVariants as no

abbrev pub stop_by : ErrorKind → Error → Stop
stop_by OutOfMemory e = NoMemory
stop_by _ e = Because (System e)

abbrev pub stop_of : Error → Stop
stop_of e = stop_by (error_kind e) e

abbrev pub found_by : {A : Type 0} → ErrorKind → Error → Result (Option A) Stop
found_by NotFound e = Ok None
found_by _ e = Err (stop_of e)

abbrev pub found_of : {A : Type 0} → Result A Error → Result (Option A) Stop
found_of (Ok a) = Ok (Some a)
found_of (Err e) = found_by (error_kind e) e

-- what a host answers
abbrev pub answer_of : {A : Type 0} → Result A Stop → Result A HostNo
answer_of (Ok a) = Ok a
answer_of (Err (Because reason)) = Err Failed
answer_of (Err NoMemory) = Err no.NoMemory
