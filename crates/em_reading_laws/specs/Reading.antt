-- Words of the laws on reading.
--     End                   what lines have left: a reading, or a fault and the reading at it; with the desk
--     from_there e m o      steps that go on from an end, unless it is a fault
--     IsOneInclude ..       a line that includes one file, and what is known where its text is read
use Rattle.std.specs.Prelude.{◌≡◌, ℕ, List, [], ◌∷◌, All, ◌≢◌, true, false, Some, None, Result, Ok}
use Rattle.em_lines.specs.declared.line.Line.{Line}
use Rattle.em_glob.specs.Patterns.{is_pattern}
use Rattle.em_namefn.specs.Wildcards.{glyphs_of}
use Rattle.em_wordlist.specs.Words.{words_of}
use Rattle.em_view.specs.Actions.{Oracle, Workspace, go_on}
use Rattle.em_statement.specs.declared.statement.Include.{Include}
use Rattle.em_statement.specs.declared.statement.Statement.TheVariants as statement
use Rattle.em_statement.specs.Statements.{statement_of}
use Rattle.em_reading.specs.declared.no.ReadNo.{ReadNo}
use Rattle.em_reading.specs.declared.reading.Reading.{Reading}
use Rattle.em_reading.specs.Changes.{is_read, close_rule}
use Rattle.em_reader.specs.Hearing.{Reads}
use Rattle.em_reader.specs.Reading.{content_of}

abbrev pub End : Type 0
End = Result (Unit {0} × Reading) (ReadNo × Reading) × Workspace

abbrev pub from_there : End → Reads (Unit {0}) → Oracle → End
from_there e m o = go_on e.0 e.1 (λ p. m p.1) o

-- a line of the form `include NAME`, in a branch that is read and in no `define`
pub record IsOneInclude (l : Line) (i : Include) (name : List ℕ) (r : Reading) : Type 0 where
  pub tab : l.tab ≡ false
  pub is : statement_of l.text ≡ statement.Include i
  -- one name, without references and wildcards
  pub plain : All (λ b. b ≢ 36) i.names
  pub one : words_of i.names ≡ name ∷ []
  pub exact : is_pattern (glyphs_of name) ≡ false
  pub define : r.define ≡ None
  pub active : is_read r ≡ true
  -- no text waits for `eval`
  pub evals : r.spoken.evals ≡ []

-- the rule before is whole, and the file of this name has these bytes
pub record IsTaken (l : Line) (name bytes : List ℕ) (r s : Reading) (o : Oracle) (w v : Workspace) : Type 0 where
  pub closed : close_rule r ≡ Ok (tt, s)
  pub content : content_of l.place name s o w ≡ (Ok (Some bytes, s), v)
