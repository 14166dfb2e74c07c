-- What is done for an operand, over a desk.
--     named operand m        a desk's call, whose refusal is a fault of this operand
--     at operand m           the same in what also writes
--     located cwd name       the path that a name says
--     read cwd name          the bytes of a file operand
--     caught utility m       an operand's fault is written, and what comes behind it is done
--     each utility act os    what is done for one operand after another, whatever faults they have
--     command m              what a command leaves
use Rattle.std.specs.Prelude.{ℕ, Bool, false, List, [], ◌∷◌, Option, Some, None, Result, Ok, Err}
use Rattle.em_path.specs.declared.path.PathNo.{PathNo}
use Rattle.em_path.specs.Reading.{read_fault, resolved_text}
use Rattle.em_tree.specs.declared.node.Kind.{Kind}
use Rattle.em_tree.specs.declared.node.Kind.TheVariants as kind
use Rattle.em_view.specs.declared.no.FileNo.TheVariants as file
use Rattle.em_view.specs.declared.no.DeskNo.{DeskNo}
use Rattle.em_view.specs.declared.no.DeskNo.TheVariants as no
use Rattle.em_view.specs.declared.done.Done.{Done}
use Rattle.em_view.specs.declared.done.ExecNo.{ExecNo}
use Rattle.em_view.specs.declared.done.ExecNo.TheVariants as exec
use Rattle.em_view.specs.Actions.{Action, ◌>>=◌, done, fail, lift}
use Rattle.em_view.specs.Rows.{content, kind_at}
use Rattle.em_view.specs.Steps.{Steps, and_then, below}
use Rattle.em_view.specs.Steps as steps
use Rattle.em_view.specs.Ends.{is_want}
use Rattle.em_utility.specs.declared.reason.Reason.{Reason}
use Rattle.em_utility.specs.declared.reason.Reason.TheVariants as reason
use Rattle.em_utility.specs.declared.operand.OperandNo.{OperandNo}
use Rattle.em_utility.specs.declared.operand.OperandNo.TheVariants.{Fault, End}
use Rattle.em_utility.specs.Writing.{nothing, faulted}

-- the one error that may come freely
abbrev pub is_free : OperandNo → Bool
is_free (End e) = is_want e
is_free (Fault operand r) = false

-- a desk's refusal is a fault of the operand
abbrev pub refused : List ℕ → DeskNo → OperandNo
refused operand (no.File f) = Fault operand (reason.File f)
refused operand no.Spent = End exec.Spent
refused operand no.NoMemory = End exec.NoMemory

unfoldable pub named : {A : Type 0} → List ℕ → Action DeskNo A → Action OperandNo A
named operand m = lift (refused operand) m

-- a value or an error that needs no desk
abbrev pub gives : {E A : Type 0} → Result A E → Action E A
gives (Ok a) = done a
gives (Err e) = fail e

abbrev pub located_by : Option PathNo → List ℕ → List ℕ → Result (List ℕ) OperandNo
located_by None cwd name = Ok (resolved_text cwd name)
located_by (Some fault) cwd name = Err (Fault name reason.BadPath)

abbrev pub located : List ℕ → List ℕ → Result (List ℕ) OperandNo
located cwd name = located_by (read_fault cwd name) cwd name

-- why what is no file can't be read
abbrev pub unread : Kind → Reason
unread kind.Dir = reason.File file.IsDir
unread _ = reason.File file.Absent

unfoldable pub not_read : List ℕ → List ℕ → Action OperandNo (List ℕ)
not_read name p = do
  k ← named name (kind_at p)
  fail (Fault name (unread k))

abbrev pub read_body : List ℕ → List ℕ → Option (List ℕ) → Action OperandNo (List ℕ)
read_body name p (Some bytes) = done bytes
read_body name p None = not_read name p

unfoldable pub read_path : List ℕ → List ℕ → Action OperandNo (List ℕ)
read_path name p = do
  body ← named name (content p)
  read_body name p body

-- its content; where it has none, its kind tells why. A name that is no path asks nothing
unfoldable pub read : List ℕ → List ℕ → Action OperandNo (List ℕ)
read cwd name = do
  p ← gives (located cwd name)
  read_path name p

-- ---- what is written

-- the same of what also writes
unfoldable pub at : {A : Type 0} → List ℕ → Action DeskNo A → Steps Done OperandNo A
at operand m = below (refused operand) m

-- what is done for an operand, and writes; what a command does
abbrev pub Tries : Type 0
Tries = Steps Done OperandNo (Unit {0})

abbrev pub Runs : Type 0
Runs = Steps Done ExecNo (Unit {0})

abbrev pub settled : List ℕ → Result (Unit {0} × Done) (OperandNo × Done) → Result (Unit {0} × Done) (ExecNo × Done)
settled utility (Ok p) = Ok p
settled utility (Err (Fault operand r, d)) = Ok (tt, faulted utility operand r d)
settled utility (Err (End e, d)) = Err (e, d)

unfoldable pub caught : List ℕ → Tries → Runs
caught utility m = λ d o w. (settled utility (m d o w).0, (m d o w).1)

abbrev pub each : {A : Type 0} → List ℕ → (A → Tries) → List A → Runs
each utility act [] = steps.done tt
each utility act (x ∷ xs) = and_then (caught utility (act x)) (λ u. each utility act xs)

abbrev pub left_by : Result (Unit {0} × Done) (ExecNo × Done) → Result Done ExecNo
left_by (Ok p) = Ok p.1
left_by (Err p) = Err p.0

unfoldable pub command : Runs → Action ExecNo Done
command m = λ o w. (left_by (m nothing o w).0, (m nothing o w).1)
