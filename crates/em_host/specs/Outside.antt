-- What a host over memory tells of the outside, and what each call makes of it.
--     Files                        the files: from names to bytes
--     Outside                      files, what was printed, and the calls
--     Tells P before after         the host tells both, and P holds of them; or it tells neither
--     Notes call result ..         the call was noted behind those before it, or is counted as lost
--     Takes, Replaces, Prints      the three calls, from before to after
use Rattle.std.specs.Prelude.{◌≡◌, ℕ, Bool, List, [], ◌∷◌, ◌++◌, take, Option, Some, None, Result, Ok, Err, is_ok, is_err, IfOk, OnOk, OnErr, ◌⊎◌, if◌then◌else◌}
use Rattle.std.specs.Option.{option_map}
use Rattle.std.specs.Ordering.{nat_cmp}
use Rattle.std.specs.Cmp.Lexicographic.{slice_cmp}
use Rattle.std.specs.FinMap.{FinMap, get, insert}
use Rattle.std.specs.Global.{Vec}
use Rattle.em_host.specs.declared.call.Call.{Call}
use Rattle.em_host.specs.declared.call.Call.TheVariants.{Take, Replace, Print}
use Rattle.em_host.specs.declared.call.Called.{Called}
use Rattle.em_host.specs.declared.no.HostNo.{HostNo}
use Rattle.em_host.specs.declared.no.HostNo.TheVariants.{NoMemory}
use Rattle.em_host.specs.Faults.{next_count}

-- what a call of take answered, with a file as its bytes
abbrev pub contents : Result (Option (Vec ℕ)) HostNo → Result (Option (List ℕ)) HostNo
contents (Ok found) = Ok (option_map (λ (v : Vec ℕ). v.items) found)
contents (Err e) = Err e

abbrev pub Files : Type 0
Files = FinMap (slice_cmp nat_cmp) (List ℕ)

-- calls: those that were noted, in order
-- lost: how many there was no memory to note, up to 2^64 - 1
-- failed: the last call answered an error
pub record Outside : Type 0 where
  pub files : Files
  pub printed : List ℕ
  pub calls : List Called
  pub lost : ℕ
  pub failed : Bool

-- a host tells always or never
abbrev pub Tells : (Outside → Outside → Type 0) → Option Outside → Option Outside → Type 0
Tells P None None = Unit {0}
Tells P None (Some b) = ⊥
Tells P (Some a) None = ⊥
Tells P (Some a) (Some b) = P a b

-- the call stands behind those before it, with whether it answered Ok
pub record IsNoted {A : Type 0} (call : Call) (result : Result A HostNo) (before after : Outside) : Type 0 where
  pub calls : after.calls ≡ before.calls ++ record { call = call; ok = is_ok result } ∷ []
  pub lost : after.lost ≡ before.lost

-- there was no memory to note the call: it did nothing else, and is counted
pub record IsLost {A : Type 0} (result : Result A HostNo) (before after : Outside) : Type 0 where
  pub answer : result ≡ Err NoMemory
  pub files : after.files ≡ before.files
  pub printed : after.printed ≡ before.printed
  pub calls : after.calls ≡ before.calls
  pub lost : after.lost ≡ next_count before.lost

abbrev pub Notes : {A : Type 0} → Call → Result A HostNo → Outside → Outside → Type 0
Notes call result before after = IsNoted call result before after ⊎ IsLost result before after

-- Ok holds the file's bytes, or nothing where there is no file of the name
pub record Takes (name : List ℕ) (result : Result (Option (List ℕ)) HostNo) (before after : Outside) : Type 0 where
  pub files : after.files ≡ before.files
  pub printed : after.printed ≡ before.printed
  pub found : IfOk result (λ found. found ≡ get before.files name)
  pub noted : Notes (Take name) result before after
  pub failed : after.failed ≡ is_err result

-- after Ok the file is these bytes; after an error the files are as before
pub record Replaces (name bytes : List ℕ) (result : Result (Unit {0}) HostNo) (before after : Outside) : Type 0 where
  pub files : after.files ≡ (if is_ok result then insert before.files name bytes else before.files)
  pub printed : after.printed ≡ before.printed
  pub noted : Notes (Replace name bytes) result before after
  pub failed : after.failed ≡ is_err result

-- after Ok all bytes were printed; after an error a front of them
pub record Prints (bytes : List ℕ) (result : Result (Unit {0}) HostNo) (before after : Outside) : Type 0 where
  pub files : after.files ≡ before.files
  pub whole : OnOk result (after.printed ≡ before.printed ++ bytes)
  pub front : OnErr result ((n : ℕ) × (after.printed ≡ before.printed ++ take n bytes))
  pub noted : Notes (Print bytes) result before after
  pub failed : after.failed ≡ is_err result
