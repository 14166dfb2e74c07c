-- The utilities that read nothing.
--     plain p words        what is written, and the status
use Rattle.std.specs.Prelude.{ℕ, List, [], ◌∷◌, ◌++◌, drop, codes, Option, Result, Ok, Err}
use Rattle.em_base.specs.declared.construct.Construct.TheVariants.{Format}
use Rattle.em_view.specs.declared.done.Done.{Done}
use Rattle.em_view.specs.declared.done.ExecNo.{ExecNo}
use Rattle.em_view.specs.declared.done.ExecNo.TheVariants.{Refused}
use Rattle.em_wordlist.specs.Words.{joined}
use Rattle.em_lineutil.specs.declared.format.Part.{Part}
use Rattle.em_lineutil.specs.Formats.{format_of, printed, faults}
use Rattle.em_lineutil.specs.Names.{base_name, without_suffix, dir_name}
use Rattle.em_utility.specs.declared.options.Options.{Options}
use Rattle.em_utility.specs.declared.reason.Reason.{Reason}
use Rattle.em_utility.specs.declared.reason.Reason.TheVariants.{NotANumber, MissingOperand, ExtraOperand}
use Rattle.em_utility.specs.Options.{read_options}
use Rattle.em_utility.specs.Writing.{nothing, written, faulted}
use Rattle.em_textutil.specs.declared.name.NoInputUtility.{NoInputUtility}
use Rattle.em_textutil.specs.declared.name.NoInputUtility.TheVariants as plain

abbrev pub line : List ℕ → Done
line text = written 1 (text ++ 10 ∷ []) nothing

-- too few operands, or too many
abbrev pub wrong : List ℕ → Reason → Done
wrong utility reason = faulted utility [] reason nothing

-- the words that should be numbers, and then what is printed
abbrev pub strange_words : List (List ℕ) → Done → Done
strange_words [] d = d
strange_words (w ∷ ws) d = strange_words ws (faulted (codes "printf") w NotANumber d)

abbrev pub printed_done : List Part → List (List ℕ) → Done
printed_done ps ws = written 1 (printed ps ws) (strange_words (faults ps ws) nothing)

abbrev pub print_parts : Result (List Part) (Option ℕ) → List (List ℕ) → Result Done ExecNo
print_parts (Err byte) ws = Err (Refused (Format byte))
print_parts (Ok ps) ws = Ok (printed_done ps ws)

abbrev pub print_words : List (List ℕ) → Result Done ExecNo
print_words [] = Ok (wrong (codes "printf") MissingOperand)
print_words (format ∷ ws) = print_parts (format_of format) ws

abbrev pub base_words : List (List ℕ) → Done
base_words [] = wrong (codes "basename") MissingOperand
base_words (p ∷ []) = line (base_name p)
base_words (p ∷ s ∷ []) = line (without_suffix s (base_name p))
base_words _ = wrong (codes "basename") ExtraOperand

abbrev pub dir_words : List (List ℕ) → Done
dir_words [] = wrong (codes "dirname") MissingOperand
dir_words (p ∷ []) = line (dir_name p)
dir_words _ = wrong (codes "dirname") ExtraOperand

-- the operands behind options, of which these utilities have none
abbrev pub of_operands : Result Options ExecNo → (List (List ℕ) → Result Done ExecNo) → List (List ℕ) → Result Done ExecNo
of_operands (Err e) f words = Err e
of_operands (Ok o) f words = f (drop o.taken words)

abbrev pub ok_base : List (List ℕ) → Result Done ExecNo
ok_base os = Ok (base_words os)

abbrev pub ok_dir : List (List ℕ) → Result Done ExecNo
ok_dir os = Ok (dir_words os)

unfoldable pub plain_done : NoInputUtility → List (List ℕ) → Result Done ExecNo
plain_done plain.Echo words = Ok (line (joined words))
plain_done plain.Printf words = of_operands (read_options (codes "printf") [] [] words) print_words words
plain_done plain.Basename words = of_operands (read_options (codes "basename") [] [] words) ok_base words
plain_done plain.Dirname words = of_operands (read_options (codes "dirname") [] [] words) ok_dir words
plain_done plain.True words = Ok nothing
plain_done plain.False words = Ok (record { status = 1; pieces = [] })
