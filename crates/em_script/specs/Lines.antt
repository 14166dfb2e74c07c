-- A line for the shell.
--     IsRead text line     the line is what the text is by the grammar
--     run_line line        it runs
use Rattle.std.specs.Prelude.{ℕ, List, [], ◌∷◌, ◌++◌, length, codes, Result, Ok}
use Rattle.em_base.specs.declared.construct.Construct.{Construct}
use Rattle.em_view.specs.declared.done.ExecNo.{ExecNo}
use Rattle.em_view.specs.declared.done.ExecNo.TheVariants as exec
use Rattle.em_view.specs.Steps.{Steps, refuse, own}
use Rattle.em_lex.specs.Lexing.{lexed}
use Rattle.em_gram.specs.declared.no.GramNo.TheVariants as gram
use Rattle.em_gram.specs.Line.{IsScript, IsFault}
use Rattle.em_exec.specs.Exec.{Session, run}
use Rattle.em_script.specs.declared.line.ShellLine.{ShellLine}
use Rattle.em_script.specs.declared.line.ShellLine.TheVariants.{Script, Wrong, Refused}

-- the leftmost fault is an error of syntax
pub data IsWrong (text : List ℕ) : Type 0 where
  Unexpected : (at : ℕ) → IsFault (lexed text) (length text) (gram.Unexpected at) → IsWrong text
  Unclosed : (at : ℕ) → IsFault (lexed text) (length text) (gram.Unclosed at) → IsWrong text

-- it is a construct that isn't supported
pub record IsRefused (text : List ℕ) (construct : Construct) : Type 0 where
  pub at : ℕ
  pub fault : IsFault (lexed text) (length text) (gram.Refused construct at)

abbrev pub IsRead : List ℕ → ShellLine → Type 0
IsRead text (Script s) = IsScript (lexed text) s
IsRead text Wrong = IsWrong text
IsRead text (Refused construct) = IsRefused text construct

abbrev pub syntax_error : List ℕ
syntax_error = codes "emake: sh: syntax error" ++ 10 ∷ []

abbrev pub wrong : Session → Result (ℕ × Session) (ExecNo × Session)
wrong s = Ok (2, record s { output = s.output ++ syntax_error })

abbrev pub run_line : ShellLine → Steps Session ExecNo ℕ
run_line (Script s) = run s
run_line Wrong = own wrong
run_line (Refused construct) = refuse (exec.Refused construct)
