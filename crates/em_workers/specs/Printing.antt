-- What a build says on a host.
--     print text, prints texts      the calls of a text, which is none for an empty one, and of several texts one by one
--     RunsOut calls ..              the first of the calls were made, and perhaps one more, which answered an error or was lost
--     Says calls result ..          the calls were made: whole on Ok, and else a front of them
--     Said outs result ..           the outputs were printed: whole on Ok, and else all but the last of them, of which some was said
--     faults_after result n         the count of the host's faults after a function that answered so
use Rattle.std.specs.Prelude.{◌≡◌, ◌≤◌, ◌++◌, ℕ, Bool, true, ◌==◌, List, [], ◌∷◌, length, Result, Ok, Err, ◌⊎◌, if◌then◌else◌}
use Rattle.std.specs.List.{flat_map}
use Rattle.em_host.specs.declared.call.Call.{Call}
use Rattle.em_host.specs.declared.call.Call.TheVariants.{Print}
use Rattle.em_host.specs.declared.no.HostNo.{HostNo}
use Rattle.em_host.specs.declared.no.HostNo.TheVariants as host_no
use Rattle.em_host.specs.Faults.{next_count}
use Rattle.em_host.specs.Outside.{Outside}
use Rattle.em_host.specs.Calls.{Makes, MakesFront, FailsIn}
use Rattle.em_workers.specs.declared.no.BuildNo.{BuildNo}
use Rattle.em_workers.specs.declared.no.BuildNo.TheVariants as no

abbrev pub print : List ℕ → List Call
print text = if length text == 0 then [] else Print text ∷ []

abbrev pub prints : List (List ℕ) → List Call
prints texts = flat_map print texts

abbrev pub RunsOut : List Call → Outside → Outside → Type 0
RunsOut calls before after = MakesFront calls before after ⊎ ((is_noted : Bool) × FailsIn is_noted calls before after)

abbrev pub Says : {A : Type 0} → List Call → Result A BuildNo → Outside → Outside → Type 0
Says calls (Ok a) before after = Makes calls before after
Says calls (Err no.Host) before after = FailsIn true calls before after
Says calls (Err no.NoMemory) before after = RunsOut calls before after

-- some outputs were printed, and then at most one more broke off
pub record BrokeOff (outs : List (List ℕ)) (e : BuildNo) (before after : Outside) : Type 0 where
  pub front : List (List ℕ)
  pub last : List (List ℕ)
  pub all : outs ≡ front ++ last
  pub few : length last ≤ 1
  pub between : Outside
  pub whole : Makes (prints front) before between
  pub rest : Says {A = Unit {0}} (prints last) (Err e) between after

abbrev pub Said : {A : Type 0} → List (List ℕ) → Result A BuildNo → Outside → Outside → Type 0
Said outs (Ok a) before after = Makes (prints outs) before after
Said outs (Err e) before after = BrokeOff outs e before after

abbrev pub faults_after : {A : Type 0} → Result A BuildNo → ℕ → ℕ
faults_after (Ok a) n = n
faults_after (Err no.Host) n = next_count n
faults_after (Err no.NoMemory) n = n

abbrev pub build_no : HostNo → BuildNo
build_no host_no.Failed = no.Host
build_no host_no.NoMemory = no.NoMemory
