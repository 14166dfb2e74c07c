-- The file utilities as commands.
--     run row options os cwd       what the utility does with its options and operands
--     utility words cwd            what it leaves; nothing where the first word is no file utility
use Rattle.std.specs.Prelude.{ℕ, ◌-◌, nat_lt, Bool, not, List, [], ◌∷◌, length, take, drop, slice_get, unwrap_or, codes, Option, Some, None, Result, Ok, if◌then◌else◌}
use Rattle.em_view.specs.declared.done.Done.{Done}
use Rattle.em_base.specs.declared.construct.Construct.TheVariants.{Command}
use Rattle.em_view.specs.declared.done.ExecNo.{ExecNo}
use Rattle.em_view.specs.declared.done.ExecNo.TheVariants.{Refused}
use Rattle.em_view.specs.Actions as action
use Rattle.em_view.specs.Actions.{Action}
use Rattle.em_view.specs.Steps.{own, refuse}
use Rattle.em_view.specs.Do.{◌>>=◌}
use Rattle.em_utility.specs.declared.reason.Reason.TheVariants.{MissingOperand, ExtraOperand}
use Rattle.em_utility.specs.Options.{is_in, read_options}
use Rattle.em_utility.specs.Writing.{faulted}
use Rattle.em_utility.specs.Operands.{gives, each, caught, command, Tries, Runs}
use Rattle.em_fileutil.specs.declared.act.Act.{Act}
use Rattle.em_fileutil.specs.declared.act.Act.TheVariants as act
use Rattle.em_fileutil.specs.declared.copy.Manner.{Manner}
use Rattle.em_fileutil.specs.declared.copy.Manner.TheVariants.{Copy, CopyTree, Move}
use Rattle.em_fileutil.specs.declared.remove.Removal.{Removal}
use Rattle.em_fileutil.specs.declared.list.Listing.{Listing}
use Rattle.em_fileutil.specs.declared.table.FileUtility.{FileUtility}
use Rattle.em_fileutil.specs.declared.table.FileUtility.TheVariants as named
use Rattle.em_fileutil.specs.Spots.{ending}
use Rattle.em_fileutil.specs.Copying.{target_at}
use Rattle.em_fileutil.specs.Linking.{link_operand, read_link}
use Rattle.em_fileutil.specs.Acts.{act_for}
use Rattle.em_fileutil.specs.Table.{Row, utility_of}

abbrev pub for_each : List ℕ → Act → List ℕ → List (List ℕ) → Runs
for_each name what cwd os = each name (act_for name what cwd) os

abbrev pub lacking : List ℕ → Done → Result (Unit {0} × Done) (ExecNo × Done)
lacking name d = Ok (tt, faulted name [] MissingOperand d)

abbrev pub missing : List ℕ → Runs
missing name = own (lacking name)

-- one operand at least
abbrev pub some : List ℕ → List (List ℕ) → Runs → Runs
some name [] m = missing name
some name (o ∷ os) m = m

abbrev pub last : List (List ℕ) → List ℕ
last os = unwrap_or (slice_get os (length os - 1)) []

abbrev pub front : List (List ℕ) → List (List ℕ)
front os = take (length os - 1) os

-- the sources one after another, once it is known where they go
unfoldable pub copy_all : List ℕ → Manner → List ℕ → List (List ℕ) → Tries
copy_all name manner cwd os = do
  to ← target_at cwd (nat_lt 1 (length (front os))) (last os)
  ending (for_each name (act.Copy manner to) cwd (front os))

abbrev pub copy : List ℕ → Manner → List ℕ → List (List ℕ) → Runs
copy name manner cwd os = if nat_lt (length os) 2 then missing name else caught name (copy_all name manner cwd os)

-- with -f no operand is needed
abbrev pub remove : List ℕ → Removal → List ℕ → List (List ℕ) → Runs
remove name how cwd os = if how.force then for_each name (act.Remove how) cwd os else some name os (for_each name (act.Remove how) cwd os)

-- without an operand the working directory is listed
abbrev pub or_here : List (List ℕ) → List (List ℕ)
or_here [] = codes "." ∷ []
or_here (o ∷ os) = o ∷ os

abbrev pub list : List ℕ → Listing → List ℕ → List (List ℕ) → Runs
list name how cwd os = for_each name (act.ListDirectory how) cwd (or_here os)

abbrev pub exceeding : List ℕ → Done → Result (Unit {0} × Done) (ExecNo × Done)
exceeding name d = Ok (tt, faulted name [] ExtraOperand d)

abbrev pub extra : List ℕ → Runs
extra name = own (exceeding name)

-- two operands: what the link says, and its name
abbrev pub link_two : List ℕ → Bool → List ℕ → List (List ℕ) → Runs
link_two name force cwd (text ∷ l ∷ []) = caught name (link_operand cwd force text l)
link_two name force cwd (text ∷ l ∷ o ∷ os) = extra name
link_two name force cwd _ = missing name

-- links of the other kind aren't known
abbrev pub link : List ℕ → (ℕ → Bool) → List ℕ → List (List ℕ) → Runs
link name has cwd os = if has 115 then link_two name (has 102) cwd os else refuse (Refused (Command name))

-- one operand
abbrev pub read_one : List ℕ → List ℕ → List (List ℕ) → Runs
read_one name cwd [] = missing name
read_one name cwd (l ∷ []) = caught name (read_link cwd l)
read_one name cwd (l ∷ o ∷ os) = extra name

-- `has` tells whether a letter is given
abbrev pub run : FileUtility → List ℕ → (ℕ → Bool) → List ℕ → List (List ℕ) → Runs
run named.Copy name has cwd os = copy name (if has 114 then CopyTree else Copy) cwd os
run named.Move name has cwd os = copy name Move cwd os
run named.Remove name has cwd os = remove name (record { force = has 102; recursive = has 114 }) cwd os
run named.MakeDirectory name has cwd os = some name os (for_each name (act.MakeDirectory (has 112)) cwd os)
run named.RemoveDirectory name has cwd os = some name os (for_each name act.RemoveDirectory cwd os)
run named.Touch name has cwd os = some name os (for_each name (act.Touch (not (has 99))) cwd os)
run named.ListDirectory name has cwd os = list name (record { all = has 97; itself = has 100; headed = nat_lt 1 (length os) }) cwd os
run named.MakeLink name has cwd os = link name has cwd os
run named.ReadLink name has cwd os = read_one name cwd os

unfoldable pub utility_by : Row → List (List ℕ) → List ℕ → Action ExecNo (Option Done)
utility_by row words cwd = action.◌>>=◌ (gives (read_options row.name row.letters [] words))
    (λ o. action.◌>>=◌ (command (run row.utility row.name (is_in o.letters) cwd (drop o.taken words))) (λ d. action.done (Some d)))

abbrev pub utility_for : Option Row → List (List ℕ) → List ℕ → Action ExecNo (Option Done)
utility_for None words cwd = action.done None
utility_for (Some row) words cwd = utility_by row words cwd

abbrev pub utility : List (List ℕ) → List ℕ → Action ExecNo (Option Done)
utility [] cwd = action.done None
utility (w ∷ words) cwd = utility_for (utility_of w) words cwd
