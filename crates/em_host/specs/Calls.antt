-- Calls in a row.
--     printed_by, files_after      what they make of output and files, where each answers Ok
--     Makes calls ..               they were made, and each answered Ok
--     MakesFront calls ..          the first of them were made so, and nothing else was called
--     FailsIn is_noted calls ..    the first of them were made so, and then one more, which answered an error and was noted, or lost
use Rattle.std.specs.Prelude.{◌≡◌, ℕ, Bool, true, false, List, [], ◌∷◌, ◌++◌, take, map, if◌then◌else◌}
use Rattle.std.specs.FinMap.{insert}
use Rattle.em_host.specs.declared.call.Call.{Call}
use Rattle.em_host.specs.declared.call.Call.TheVariants.{Take, Replace, Print}
use Rattle.em_host.specs.declared.call.Called.{Called}
use Rattle.em_host.specs.Faults.{next_count}
use Rattle.em_host.specs.Outside.{Files, Outside}

-- the texts of the prints, in order
abbrev pub printed_by : List Call → List ℕ
printed_by [] = []
printed_by (Take name ∷ calls) = printed_by calls
printed_by (Replace name bytes ∷ calls) = printed_by calls
printed_by (Print text ∷ calls) = text ++ printed_by calls

-- the files, with each replacement made, in order
abbrev pub files_after : List Call → Files → Files
files_after [] files = files
files_after (Take name ∷ calls) files = files_after calls files
files_after (Replace name bytes ∷ calls) files = files_after calls (insert files name bytes)
files_after (Print text ∷ calls) files = files_after calls files

-- a call that answered Ok, and one that answered an error
abbrev pub good : Call → Called
good call = record { call = call; ok = true }

abbrev pub bad : Call → Called
bad call = record { call = call; ok = false }

pub record Makes (calls : List Call) (before after : Outside) : Type 0 where
  pub noted : after.calls ≡ before.calls ++ map good calls
  pub lost : after.lost ≡ before.lost
  pub files : after.files ≡ files_after calls before.files
  pub printed : after.printed ≡ before.printed ++ printed_by calls

pub record MakesFront (calls : List Call) (before after : Outside) : Type 0 where
  pub made : List Call
  pub left : List Call
  pub all : calls ≡ made ++ left
  pub done : Makes made before after

-- the call that failed changed no file, and printed at most a front of its text
pub record FailsIn (is_noted : Bool) (calls : List Call) (before after : Outside) : Type 0 where
  pub made : List Call
  pub last : Call
  pub left : List Call
  pub all : calls ≡ made ++ last ∷ left
  pub noted : after.calls ≡ before.calls ++ map good made ++ (if is_noted then bad last ∷ [] else [])
  pub lost : after.lost ≡ (if is_noted then before.lost else next_count before.lost)
  pub files : after.files ≡ files_after made before.files
  pub printed : (n : ℕ) × (after.printed ≡ before.printed ++ printed_by made ++ take n (printed_by (last ∷ [])))
  pub failed : after.failed ≡ true
