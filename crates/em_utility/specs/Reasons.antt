-- Why a utility can't do what it is asked for an operand.
--     reason_text r                    the words in which it says so
--     status_for r                     the status with which it then ends
--     error_line utility operand r     the line that it writes
use Rattle.std.specs.Prelude.{ℕ, List, [], ◌∷◌, ◌++◌, codes}
use Rattle.em_view.specs.declared.no.FileNo.{FileNo}
use Rattle.em_view.specs.declared.no.FileNo.TheVariants as file
use Rattle.em_utility.specs.declared.reason.Reason.{Reason}
use Rattle.em_utility.specs.declared.reason.Reason.TheVariants.{File, BadPath, SameFile, NotANumber, MissingOperand, ExtraOperand}

abbrev pub file_text : FileNo → List ℕ
file_text file.Absent = codes "absent"
file_text file.NoParent = codes "no parent"
file_text file.NotDir = codes "not a directory"
file_text file.IsDir = codes "is a directory"
file_text file.Exists = codes "exists"
file_text file.NotEmpty = codes "not empty"
file_text file.TooBig = codes "too big"
file_text file.Root = codes "root"
file_text file.TooManyLinks = codes "too many links"
file_text file.LinkPath = codes "bad path"

abbrev pub reason_text : Reason → List ℕ
reason_text (File f) = file_text f
reason_text BadPath = codes "bad path"
reason_text SameFile = codes "same file"
reason_text NotANumber = codes "not a number"
reason_text MissingOperand = codes "missing operand"
reason_text ExtraOperand = codes "extra operand"

-- a command that is written wrongly has 2
abbrev pub status_for : Reason → ℕ
status_for (File f) = 1
status_for BadPath = 1
status_for SameFile = 1
status_for NotANumber = 2
status_for MissingOperand = 2
status_for ExtraOperand = 2

abbrev pub error_line : List ℕ → List ℕ → List ℕ → List ℕ
error_line utility operand reason = codes "emake: " ++ utility ++ codes ": " ++ operand ++ codes ": " ++ reason ++ 10 ∷ []
