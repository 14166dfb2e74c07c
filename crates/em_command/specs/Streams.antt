-- Where the streams of a command go, as its redirections say.
--     around                       where they go without a redirection
--     connect cwd fd kind word s   what a redirection asks and does, and where the streams go behind it
--     redirected ..                the same; where it fails, why is written, and there are no streams
-- `/dev/null` is empty and swallows; nothing is asked for it.
use Rattle.std.specs.Prelude.{ℕ, ◌==◌, nat_lt, Bool, List, [], ◌∷◌, ◌++◌, length, codes, Option, Some, None, Result, Ok, Err, if◌then◌else◌}
use Rattle.std.specs.Str.{bytes_eq}
use Rattle.em_base.specs.declared.construct.Construct.TheVariants.{Descriptor}
use Rattle.em_tree.specs.declared.node.Kind.{Kind}
use Rattle.em_tree.specs.declared.node.Kind.TheVariants as kind
use Rattle.em_view.specs.declared.no.FileNo.TheVariants as file
use Rattle.em_view.specs.declared.done.ExecNo.TheVariants.{Refused}
use Rattle.em_view.specs.Actions.{Action, ◌>>=◌, done, fail}
use Rattle.em_view.specs.Rows.{kind_at, put}
use Rattle.em_utility.specs.declared.reason.Reason.TheVariants as reason
use Rattle.em_utility.specs.declared.operand.OperandNo.{OperandNo}
use Rattle.em_utility.specs.declared.operand.OperandNo.TheVariants as operand
use Rattle.em_utility.specs.Operands.{gives, located, named, read}
use Rattle.em_syntax.specs.declared.tree.RedirectKind.{RedirectKind}
use Rattle.em_syntax.specs.declared.tree.RedirectKind.TheVariants.{Write, Append, Read, Duplicate}
use Rattle.em_command.specs.declared.jump.Jump.TheVariants.{End}
use Rattle.em_command.specs.declared.streams.Sink.{Sink}
use Rattle.em_command.specs.declared.streams.Sink.TheVariants.{Output, Errors, Nowhere, File}
use Rattle.em_command.specs.declared.streams.OpenedFile.{OpenedFile}
use Rattle.em_command.specs.declared.streams.RedirectTarget.{RedirectTarget}
use Rattle.em_command.specs.declared.streams.RedirectTarget.TheVariants.{Null, Writes, Holds}
use Rattle.em_command.specs.declared.streams.Streams.{Streams}
use Rattle.em_command.specs.Jumps.{Acts, Change, looked}
use Rattle.em_command.specs.Heres.{complain}

abbrev pub around : Streams
around = record { output = Output; errors = Errors; input = None; files = [] }

abbrev pub or_else : Option (List ℕ) → List ℕ → List ℕ
or_else None input = input
or_else (Some bytes) input = bytes

-- what is read: what a redirection gives, or what is read around
abbrev pub input_of : Streams → List ℕ → List ℕ
input_of s input = or_else s.input input

-- ---- what stands at the path

-- `>`: an empty file
unfoldable pub emptied : List ℕ → List ℕ → Action OperandNo RedirectTarget
emptied word p = do
  u ← named word (put p [])
  done (Writes p)

-- `>>`: an empty file where nothing is there
abbrev pub added_by : List ℕ → List ℕ → Kind → Action OperandNo RedirectTarget
added_by word p kind.Absent = emptied word p
added_by word p kind.File = done (Writes p)
added_by word p kind.Link = done (Writes p)
added_by word p kind.Dir = fail (operand.Fault word (reason.File file.IsDir))

unfoldable pub added : List ℕ → List ℕ → Action OperandNo RedirectTarget
added word p = do
  k ← named word (kind_at p)
  added_by word p k

-- `<`: what a utility reads of an operand
unfoldable pub held : List ℕ → List ℕ → Action OperandNo RedirectTarget
held cwd word = do
  bytes ← read cwd word
  done (Holds bytes)

abbrev pub open_file : List ℕ → RedirectKind → List ℕ → List ℕ → Action OperandNo RedirectTarget
open_file cwd Write word p = emptied word p
open_file cwd Append word p = added word p
open_file cwd Read word p = held cwd word
open_file cwd Duplicate word p = done Null

abbrev pub is_null : List ℕ → Bool
is_null p = bytes_eq p (codes "/dev/null")

abbrev pub open_at : List ℕ → RedirectKind → List ℕ → List ℕ → Action OperandNo RedirectTarget
open_at cwd k word p = if is_null p then done Null else open_file cwd k word p

unfoldable pub source_of : List ℕ → RedirectKind → List ℕ → Action OperandNo RedirectTarget
source_of cwd k word = do
  p ← gives (located cwd word)
  open_at cwd k word p

-- ---- where a stream goes

-- what is read: a file that is written is empty
abbrev pub content_of : RedirectTarget → List ℕ
content_of (Holds bytes) = bytes
content_of _ = []

-- a file that is read swallows
abbrev pub sink_for : RedirectTarget → List OpenedFile → Sink
sink_for (Writes p) fs = File (length fs)
sink_for _ fs = Nowhere

abbrev pub files_with : List ℕ → RedirectTarget → List OpenedFile → List OpenedFile
files_with word (Writes p) fs = fs ++ record { word = word; path = p } ∷ []
files_with word _ fs = fs

abbrev pub attached : ℕ → List ℕ → RedirectTarget → Streams → Streams
attached fd word source s =
    if fd == 0 then record s { input = Some (content_of source) }
    else if fd == 1 then record s { output = sink_for source s.files; files = files_with word source s.files }
    else record s { errors = sink_for source s.files; files = files_with word source s.files }

-- ---- `>&`

abbrev pub refused : Result Streams OperandNo
refused = Err (operand.End (Refused Descriptor))

abbrev pub duplicate_to : ℕ → Sink → Streams → Result Streams OperandNo
duplicate_to fd sink s =
    if fd == 1 then Ok (record s { output = sink })
    else if fd == 2 then Ok (record s { errors = sink })
    else refused

abbrev pub duplicated : ℕ → List ℕ → Streams → Result Streams OperandNo
duplicated fd word s =
    if bytes_eq word (codes "1") then duplicate_to fd s.output s
    else if bytes_eq word (codes "2") then duplicate_to fd s.errors s
    else refused

-- ---- a redirection

unfoldable pub opened : List ℕ → ℕ → RedirectKind → List ℕ → Streams → Action OperandNo Streams
opened cwd fd k word s = do
  source ← source_of cwd k word
  done (attached fd word source s)

abbrev pub at_path : List ℕ → ℕ → RedirectKind → List ℕ → Streams → Action OperandNo Streams
at_path cwd fd k word s = if nat_lt 2 fd then gives refused else opened cwd fd k word s

abbrev pub connect : List ℕ → ℕ → RedirectKind → List ℕ → Streams → Action OperandNo Streams
connect cwd fd Duplicate word s = gives (duplicated fd word s)
connect cwd fd k word s = at_path cwd fd k word s

abbrev pub shown : Result Streams OperandNo → Change (Option Streams)
shown (Ok s) h = Ok (Some s, h)
shown (Err (operand.Fault word r)) h = Ok (None, complain word r h)
shown (Err (operand.End e)) h = Err (End e, h)

unfoldable pub redirected : ℕ → RedirectKind → List ℕ → Streams → Acts (Option Streams)
redirected fd k word s = looked (λ h. connect h.shell.cwd fd k word s) shown
