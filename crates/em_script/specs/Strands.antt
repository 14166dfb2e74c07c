-- What is left of a job on its way: a strand. It is cut where no action can tell what comes: at a
-- text, which the grammar reads, and at a line that begins a make within a make, of which a later
-- layer knows.
--     Meaning                what a text is to the shell: how it runs, and how the words of a make within a make come about
--     IsMeant text m         the text is read as a line that means this
--     Strand                 the end with what was written; a pause at such a line; or a text to be read
--     Plot                   what is left, from what was written so far
--     Going S                the same from a state of the job's own, of which what was written is a part
--     to, reading, over, pause, from_output      strands put together, as steps are
--     Comes s t              once its texts are read, the strand s is the strand t
--     Turned ..              a job was followed to its end, or to its next pause
--     IfSub, IsSent          of the line with which it pauses: its make works in the directory that it orders, which is a path; and its units are in the range
use Rattle.std.specs.Prelude.{◌≡◌, ◌≤◌, ℕ, List, length, Option, None, Result, Ok, Err}
use Rattle.std.specs.Option.{option_map}
use Rattle.em_base.specs.declared.memory.NoMemory.{NoMemory}
use Rattle.em_path.specs.Paths.{IsPath}
use Rattle.em_tree.specs.declared.outcome.Outcome.{Outcome}
use Rattle.em_view.specs.declared.done.ExecNo.{ExecNo}
use Rattle.em_view.specs.Actions.{Workspace, Oracle, AgreesFrom}
use Rattle.em_view.specs.Performs.{DeskState, Told, Grows}
use Rattle.em_view.specs.Steps.{Steps}
use Rattle.em_exec.specs.declared.sub.SubWords.{SubWords}
use Rattle.em_exec.specs.declared.turn.SubLine.{SubLine}
use Rattle.em_exec.specs.declared.turn.Turn.{Turn}
use Rattle.em_exec.specs.declared.turn.Turn.TheVariants as turn
use Rattle.em_exec.specs.Exec.{Session}
use Rattle.em_exec.specs.Subs.{sub_form, words_of}
use Rattle.em_script.specs.declared.line.ShellLine.{ShellLine}
use Rattle.em_script.specs.declared.line.ShellLine.TheVariants.{Script}
use Rattle.em_script.specs.Lines.{IsRead, run_line}

-- ---- texts

pub record Meaning : Type 0 where
  pub run : Steps Session ExecNo ℕ
  -- none where it is no line that begins a make
  pub sub : Option (Steps Session ExecNo SubWords)

abbrev pub sub_of : ShellLine → Option (Steps Session ExecNo SubWords)
sub_of (Script s) = option_map words_of (sub_form s)
sub_of _ = None

abbrev pub meaning_of : ShellLine → Meaning
meaning_of line = record { run = run_line line; sub = sub_of line }

pub record IsMeant (text : List ℕ) (m : Meaning) : Type 0 where
  pub line : ShellLine
  pub read : IsRead text line
  pub is : m ≡ meaning_of line

-- ---- strands

-- how a make within a make ended: with this status, or its makefiles or its plan spent the fuel
pub data Back : Type 0 where
  Status : ℕ → Back
  Spent : Back

pub data Strand : Type 0 where
  -- the job has ended so, and this was written
  Over : Outcome → List ℕ → Workspace → Strand
  -- a make within a make, and how the job goes on by its end, behind what is written by then
  Pause : SubLine → List ℕ → Workspace → (Back → List ℕ → Oracle → Workspace → Strand) → Strand
  -- a text, and how the job goes on by what it means
  Read : List ℕ → (Meaning → Strand) → Strand

abbrev pub Going : Type 0 → Type 0
Going S = S → Oracle → Workspace → Strand

abbrev pub Plot : Type 0
Plot = Going (List ℕ)

abbrev pub reading : {S : Type 0} → List ℕ → (Meaning → Going S) → Going S
reading text k = λ s o w. Read text (λ m. k m s o w)

abbrev pub from_output : {S : Type 0} → (List ℕ → S) → Going S → Plot
from_output begin g = λ out o w. g (begin out) o w

-- `close` tells how a job ends that its steps have stopped, and what was written by then
abbrev pub go : {S E A : Type 0} → (E → S → Outcome × List ℕ) → (A → Going S) → Oracle → Result (A × S) (E × S) → Workspace → Strand
go close k o (Ok p) w = k p.0 p.1 o w
go close k o (Err p) w = Over (close p.0 p.1).0 (close p.0 p.1).1 w

-- steps, and then
abbrev pub to : {S E A : Type 0} → (E → S → Outcome × List ℕ) → Steps S E A → (A → Going S) → Going S
to close m k = λ s o w. go close k o (m s o w).0 (m s o w).1

module _ {S : Type 0} (written : S → List ℕ) where
  abbrev pub over : Outcome → Going S
  over a = λ s o w. Over a (written s) w

  abbrev pub pause : SubLine → (Back → Plot) → Going S
  pause line k = λ s o w. Pause line (written s) w k

-- ---- turns

abbrev pub Comes : Strand → Strand → Type 0
Comes (Over a out w) t = t ≡ Over a out w
Comes (Pause line out w k) t = t ≡ Pause line out w k
Comes (Read text k) t = (m : Meaning) × (IsMeant text m × Comes (k m) t)

-- the strand has come to this turn, behind which the job goes on so; memory may be short at any time
abbrev pub IsTurn : Result Turn NoMemory → Strand → List ℕ → Workspace → (Back → Plot) → Type 0
IsTurn (Ok (turn.Ended a)) s out w back = Comes s (Over a out w)
IsTurn (Ok (turn.Sub line)) s out w back = Comes s (Pause line out w back)
IsTurn (Err e) s out w back = Unit {0}

pub record Turned {V S : Type 0} (tells : V → Told) (old new : DeskState V) (before : S) (after : List ℕ) (result : Result Turn NoMemory) (plot : Going S) (back : Back → Plot) : Type 0 where
  pub grows : Grows tells old new
  -- whatever answers these asks so makes the plot come to this turn, and this workspace
  pub plain : (o : Oracle) → AgreesFrom (length old.work.asked) o grows.entries → IsTurn result (plot before o old.work) after new.work back

-- what holds of the line, where there is one
abbrev pub IfSub : Result Turn NoMemory → (SubLine → Type 0) → Type 0
IfSub (Ok (turn.Sub l)) P = P l
IfSub _ P = Unit {0}

pub record IsSent (l : SubLine) : Type 0 where
  pub dir : l.order.dir ≡ l.shell.cwd
  pub path : IsPath l.order.dir
  pub units : l.order.fuel ≤ 1000000
