-- What the words of a utility ask for, by its options and how many operands there are.
--     letters_of r, valued_of r      the letters that a utility has, and those that take a value
--     planned r words                the job, a word that is wrong, or that an option is refused
use Rattle.std.specs.Prelude.{ℕ, ◌==◌, Bool, true, false, nat_lt, List, [], ◌∷◌, length, drop, codes, Option, Some, None, Result, Ok, Err, if◌then◌else◌}
use Rattle.em_base.specs.declared.construct.Construct.{Construct}
use Rattle.em_base.specs.declared.construct.Construct.TheVariants.{Command}
use Rattle.em_base.specs.Numbers.{number_of}
use Rattle.em_view.specs.declared.done.ExecNo.{ExecNo}
use Rattle.em_view.specs.declared.done.ExecNo.TheVariants.{Refused}
use Rattle.em_utility.specs.declared.options.Options.{Options}
use Rattle.em_utility.specs.declared.reason.Reason.{Reason}
use Rattle.em_utility.specs.declared.reason.Reason.TheVariants.{NotANumber, MissingOperand, ExtraOperand}
use Rattle.em_utility.specs.Options.{read_options, is_in}
use Rattle.em_textutil.specs.declared.name.InputUtility.{InputUtility}
use Rattle.em_textutil.specs.declared.name.InputUtility.TheVariants as reading
use Rattle.em_lineutil.specs.declared.count.Asked.{Asked}
use Rattle.em_textutil.specs.declared.job.Filter.{Filter}
use Rattle.em_textutil.specs.declared.job.Filter.TheVariants as filter
use Rattle.em_textutil.specs.declared.job.TextOperation.{TextOperation}
use Rattle.em_textutil.specs.declared.job.TextOperation.TheVariants as job
use Rattle.em_textutil.specs.declared.plan.ParsedArgs.{ParsedArgs}
use Rattle.em_textutil.specs.declared.plan.ParsedArgs.TheVariants.{Read, Wrong}

abbrev pub name_of : InputUtility → List ℕ
name_of reading.Cat = codes "cat"
name_of reading.Head = codes "head"
name_of reading.Tail = codes "tail"
name_of reading.Wc = codes "wc"
name_of reading.Sort = codes "sort"
name_of reading.Uniq = codes "uniq"
name_of reading.Cmp = codes "cmp"
name_of reading.Grep = codes "grep"

abbrev pub letters_of : InputUtility → List ℕ
letters_of reading.Cat = []
letters_of reading.Head = codes "n"
letters_of reading.Tail = codes "n"
letters_of reading.Wc = codes "lwc"
letters_of reading.Sort = codes "ru"
letters_of reading.Uniq = codes "c"
letters_of reading.Cmp = codes "s"
letters_of reading.Grep = codes "Fvcqx"

abbrev pub valued_of : InputUtility → List ℕ
valued_of reading.Head = codes "n"
valued_of reading.Tail = codes "n"
valued_of _ = []

-- the n-th letter, by its byte, is given
abbrev pub has : Options → ℕ → Bool
has o letter = is_in o.letters letter

-- at most one file
abbrev pub at_most_one : Filter → List (List ℕ) → ParsedArgs
at_most_one f os = if nat_lt 1 (length os) then Wrong [] ExtraOperand else Read (job.Each f)

abbrev pub lines_of : Bool → ℕ → Filter
lines_of tail n = if tail then filter.Tail n else filter.Head n

-- any number that a text of digits can write, up to what a machine word holds
abbrev pub count_of : List ℕ → Option ℕ
count_of word = number_of 18446744073709551615 word

abbrev pub by_number : Option ℕ → Bool → List ℕ → List (List ℕ) → ParsedArgs
by_number None tail word os = Wrong word NotANumber
by_number (Some n) tail word os = at_most_one (lines_of tail n) os

abbrev pub by_value : Option (List ℕ) → Bool → List (List ℕ) → ParsedArgs
by_value None tail os = at_most_one (lines_of tail 10) os
by_value (Some word) tail os = by_number (count_of word) tail word os

-- the value of `-n`, 10 without it
abbrev pub counted_plan : Options → Bool → List (List ℕ) → ParsedArgs
counted_plan o tail os = if o.lacks then Wrong [] MissingOperand else by_value o.value tail os

-- without an option all are asked for
abbrev pub asked_of : Options → Asked
asked_of o = if length o.letters == 0 then record { lines = true; words = true; bytes = true } else record { lines = has o 108; words = has o 119; bytes = has o 99 }

abbrev pub pair_plan : Options → List (List ℕ) → ParsedArgs
pair_plan o os = if nat_lt (length os) 2 then Wrong [] MissingOperand else if nat_lt 2 (length os) then Wrong [] ExtraOperand else Read (job.Pair (has o 115))

abbrev pub grep_plan : Options → List (List ℕ) → ParsedArgs
grep_plan o [] = Wrong [] MissingOperand
grep_plan o (p ∷ files) = Read (job.Grep (record {
  search = record { whole = has o 120; inverted = has o 118 };
  counted = has o 99;
  quiet = has o 113;
  several = nat_lt 1 (length files);
  pattern = p;
}))

abbrev pub grep_refused : Construct
grep_refused = Command (codes "grep")

abbrev pub planned : InputUtility → Options → List (List ℕ) → Result ParsedArgs ExecNo
planned reading.Cat o os = Ok (Read (job.Each filter.Cat))
planned reading.Head o os = Ok (counted_plan o false os)
planned reading.Tail o os = Ok (counted_plan o true os)
planned reading.Wc o os = Ok (at_most_one (filter.Count (asked_of o)) os)
planned reading.Sort o os = Ok (Read (job.Sort (record { backwards = has o 114; unique = has o 117 })))
planned reading.Uniq o os = Ok (at_most_one (filter.Uniq (has o 99)) os)
planned reading.Cmp o os = Ok (pair_plan o os)
planned reading.Grep o os = if has o 70 then Ok (grep_plan o os) else Err (Refused grep_refused)

abbrev pub given_options : InputUtility → List (List ℕ) → Result Options ExecNo
given_options r words = read_options (name_of r) (letters_of r) (valued_of r) words

-- the files that are read: of grep's operands the first is the pattern
abbrev pub files_of : TextOperation → List (List ℕ) → List (List ℕ)
files_of (job.Grep g) os = drop 1 os
files_of _ os = os

-- `cmp -s` doesn't even write what is wrong
abbrev pub is_silent : InputUtility → Options → Bool
is_silent reading.Cmp o = has o 115
is_silent _ o = false
