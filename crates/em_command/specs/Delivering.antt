-- Where what a command wrote goes.
--     handed s ps          what goes on to the streams around
--     texts_for s ps       what goes to each file, in the order of the files
--     append word p text   the text is appended to a file, where it isn't empty and the file is there
--     delivered s ps       it is handed on, and then appended to one file after another
use Rattle.std.specs.Prelude.{ℕ, suc, ◌==◌, List, [], ◌∷◌, ◌++◌, Option, Some, None, Result, Ok, Err, if◌then◌else◌}
use Rattle.em_view.specs.declared.done.Piece.{Piece}
use Rattle.em_view.specs.Actions as action
use Rattle.em_view.specs.Actions.{Action}
use Rattle.em_view.specs.Rows.{content, put}
use Rattle.em_view.specs.Steps.{done, own}
use Rattle.em_view.specs.Do.{◌>>=◌}
use Rattle.em_utility.specs.declared.operand.OperandNo.{OperandNo}
use Rattle.em_utility.specs.declared.operand.OperandNo.TheVariants as operand
use Rattle.em_utility.specs.Operands.{named}
use Rattle.em_command.specs.declared.jump.Jump.TheVariants.{End}
use Rattle.em_command.specs.declared.streams.Sink.{Sink}
use Rattle.em_command.specs.declared.streams.Sink.TheVariants.{Output, Errors, Nowhere, File}
use Rattle.em_command.specs.declared.streams.OpenedFile.{OpenedFile}
use Rattle.em_command.specs.declared.streams.Streams.{Streams}
use Rattle.em_command.specs.Jumps.{Acts, Change, looked}
use Rattle.em_command.specs.Heres.{piece, written, complain}

abbrev pub sink_of : Streams → Piece → Sink
sink_of s p = if p.stream == 1 then s.output else s.errors

-- ---- what goes on

abbrev pub through : Sink → List ℕ → List Piece
through Output text = piece 1 text ∷ []
through Errors text = piece 2 text ∷ []
through Nowhere text = []
through (File i) text = []

abbrev pub handed : Streams → List Piece → List Piece
handed s [] = []
handed s (p ∷ ps) = through (sink_of s p) p.text ++ handed s ps

abbrev pub hand : Streams → List Piece → Change (Unit {0})
hand s ps h = Ok (tt, written (handed s ps) h)

-- ---- what goes to files

abbrev pub into : ℕ → Sink → List ℕ → List ℕ
into i (File k) text = if k == i then text else []
into i _ text = []

abbrev pub text_for : Streams → ℕ → List Piece → List ℕ
text_for s i [] = []
text_for s i (p ∷ ps) = into i (sink_of s p) p.text ++ text_for s i ps

abbrev pub texts_from : Streams → List Piece → ℕ → List OpenedFile → List (List ℕ)
texts_from s ps i [] = []
texts_from s ps i (f ∷ fs) = text_for s i ps ∷ texts_from s ps (suc i) fs

abbrev pub texts_for : Streams → List Piece → List (List ℕ)
texts_for s ps = texts_from s ps 0 s.files

-- it is lost where the path is no file then
abbrev pub append_to : List ℕ → List ℕ → List ℕ → Option (List ℕ) → Action OperandNo (Unit {0})
append_to word p text None = action.done tt
append_to word p text (Some bytes) = named word (put p (bytes ++ text))

unfoldable pub append_some : List ℕ → List ℕ → List ℕ → Action OperandNo (Unit {0})
append_some word p text = action.◌>>=◌ (named word (content p)) (append_to word p text)

abbrev pub append : OpenedFile → List ℕ → Action OperandNo (Unit {0})
append f [] = action.done tt
append f (b ∷ bs) = append_some f.word f.path (b ∷ bs)

-- a refusal is written as that of a redirection that fails
abbrev pub told : Result (Unit {0}) OperandNo → Change (Unit {0})
told (Ok u) h = Ok (tt, h)
told (Err (operand.Fault word r)) h = Ok (tt, complain word r h)
told (Err (operand.End e)) h = Err (End e, h)

unfoldable pub appended : OpenedFile → List ℕ → Acts (Unit {0})
appended f text = looked (λ h. append f text) told

abbrev pub append_each : List OpenedFile → List (List ℕ) → Acts (Unit {0})
append_each [] ts = done tt
append_each (f ∷ fs) [] = done tt
append_each (f ∷ fs) (t ∷ ts) = do
  u ← appended f t
  append_each fs ts

unfoldable pub delivered : Streams → List Piece → Acts (Unit {0})
delivered s ps = do
  u ← own (hand s ps)
  append_each s.files (texts_for s ps)
