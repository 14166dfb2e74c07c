-- What a part of a run calls on the host, in order, and where that leads.
--     Course A             from the host's files: the calls, and a value, or the status with which the run ends there
--     done a, quit verdict      no call, and a value or a status
--     say, take, keep      the three calls; an empty text isn't printed
--     stop text verdict    a last text is said, and the run ends
--     say_all texts        several texts, in order
--     m >>= k              one part, and then another on the files that it leaves
--     Follows course result ..      a function on a host did what the course says, or broke off on the way
use Rattle.std.specs.Prelude.{◌≡◌, ℕ, true, List, [], ◌∷◌, ◌++◌, Option, Result, Ok, Err}
use Rattle.std.specs.FinMap.{get}
use Rattle.em_host.specs.declared.call.Call.{Call}
use Rattle.em_host.specs.declared.call.Call.TheVariants.{Take, Replace}
use Rattle.em_host.specs.declared.no.HostNo.{HostNo}
use Rattle.em_host.specs.declared.no.HostNo.TheVariants as no
use Rattle.em_host.specs.Faults.{next_count}
use Rattle.em_host.specs.Outside.{Files, Outside, Tells}
use Rattle.em_host.specs.Calls.{files_after, Makes, FailsIn}
use Rattle.em_workers.specs.declared.no.BuildNo.{BuildNo}
use Rattle.em_workers.specs.declared.no.BuildNo.TheVariants as build_no
use Rattle.em_workers.specs.Printing.{print, prints, RunsOut}
use Rattle.em_program.specs.declared.verdict.BuildStatus.{BuildStatus}
use Rattle.em_program.specs.declared.stop.ProgramEnd.{ProgramEnd}
use Rattle.em_program.specs.declared.stop.ProgramEnd.TheVariants.{End, Failed, NoMemory}

-- calls that end with a value, or end the run with a status
pub record Trace (A : Type 0) : Type 0 where
  pub calls : List Call
  pub end : Result A BuildStatus

abbrev pub Course : Type 0 → Type 0
Course A = Files → Trace A

-- calls that were made, and then the steps behind them
abbrev pub behind : {A : Type 0} → List Call → Trace A → Trace A
behind calls steps = record { calls = calls ++ steps.calls; end = steps.end }

abbrev pub go_on : {A B : Type 0} → List Call → Result A BuildStatus → (A → Course B) → Course B
go_on calls (Ok a) k = λ files. behind calls (k a (files_after calls files))
go_on calls (Err verdict) k = λ files. record { calls = calls; end = Err verdict }

infixl 10 ◌>>=◌
unfoldable pub ◌>>=◌ : {A B : Type 0} → Course A → (A → Course B) → Course B
m >>= k = λ files. go_on (m files).calls (m files).end k files

unfoldable pub done : {A : Type 0} → A → Course A
done a = λ files. record { calls = []; end = Ok a }

unfoldable pub quit : {A : Type 0} → BuildStatus → Course A
quit verdict = λ files. record { calls = []; end = Err verdict }

unfoldable pub say : List ℕ → Course (Unit {0})
say text = λ files. record { calls = print text; end = Ok tt }

unfoldable pub take : List ℕ → Course (Option (List ℕ))
take name = λ files. record { calls = Take name ∷ []; end = Ok (get files name) }

unfoldable pub keep : List ℕ → List ℕ → Course (Unit {0})
keep name bytes = λ files. record { calls = Replace name bytes ∷ []; end = Ok tt }

abbrev pub stop : {A : Type 0} → List ℕ → BuildStatus → Course A
stop text verdict = do
  u ← say text
  quit verdict

-- texts are said one by one
unfoldable pub say_all : List (List ℕ) → Course (Unit {0})
say_all texts = λ files. record { calls = prints texts; end = Ok tt }

-- ---- what a function promises that follows a course

-- the steps were made, whole, with this end
pub record Ends {A : Type 0} (steps : Trace A) (end : Result A BuildStatus) (before after : Outside) : Type 0 where
  pub same : steps.end ≡ end
  pub made : Makes steps.calls before after

abbrev pub Meets : {A : Type 0} → Trace A → Result A ProgramEnd → Outside → Outside → Type 0
Meets steps (Ok a) before after = Ends steps (Ok a) before after
Meets steps (Err (End verdict)) before after = Ends steps (Err verdict) before after
Meets steps (Err Failed) before after = FailsIn true steps.calls before after
Meets steps (Err NoMemory) before after = RunsOut steps.calls before after

-- told: what the host told before and after
pub record Follows {A : Type 0} (course : Course A) (result : Result A ProgramEnd) (before after : Option Outside) : Type 0 where
  pub told : Tells (λ x y. Meets (course x.files) result x y) before after

-- the count of the host's faults after a function that answered so
abbrev pub faults_after : {A : Type 0} → Result A ProgramEnd → ℕ → ℕ
faults_after (Ok a) n = n
faults_after (Err Failed) n = next_count n
faults_after (Err (End verdict)) n = n
faults_after (Err NoMemory) n = n

abbrev pub stop_of : HostNo → ProgramEnd
stop_of no.Failed = Failed
stop_of no.NoMemory = NoMemory

abbrev pub stop_of_build : BuildNo → ProgramEnd
stop_of_build build_no.Host = Failed
stop_of_build build_no.NoMemory = NoMemory
