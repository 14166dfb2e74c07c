-- What a command has written so far, and its status so far.
--     nothing                          before it does anything
--     written stream text d            the text is written, as one piece; an empty text leaves no piece
--     faulted utility operand r d      an error line is written, and the status is no longer 0
use Rattle.std.specs.Prelude.{ℕ, List, [], ◌∷◌, ◌++◌, max}
use Rattle.em_view.specs.declared.done.Done.{Done}
use Rattle.em_utility.specs.declared.reason.Reason.{Reason}
use Rattle.em_utility.specs.Reasons.{reason_text, status_for, error_line}

abbrev pub nothing : Done
nothing = record { status = 0; pieces = [] }

abbrev pub written : ℕ → List ℕ → Done → Done
written stream [] d = d
written stream (b ∷ bs) d = record d { pieces = d.pieces ++ record { stream = stream; text = b ∷ bs } ∷ [] }

-- of several statuses the greatest stays
abbrev pub faulted : List ℕ → List ℕ → Reason → Done → Done
faulted utility operand r d = record (written 2 (error_line utility operand (reason_text r)) d) { status = max d.status (status_for r) }
