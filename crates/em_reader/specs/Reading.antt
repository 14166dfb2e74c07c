-- Reading: a list of lines, taken from the left.
--     read_text left p lines    the lines of a text, `left` levels deep at most; p is where it was put in
--     reading order defaults    the makefile that an order asks for: the book that its lines make, or the first fault
-- A line may put a text in: by `include`, or by `eval` in an expansion. It is read where it stands,
-- one level deeper.
use Rattle.std.specs.Prelude.{ℕ, zero, suc, ◌==◌, not, Bool, true, false, List, [], ◌∷◌, ◌++◌, length, map, fold, Option, Some, None, is_some, option_map, Result, Ok, Err, codes, if◌then◌else◌}
use Rattle.em_base.specs.declared.place.Place.{Place}
use Rattle.em_base.specs.Blanks.{trimmed}
use Rattle.em_cond.specs.Nests.{may_turn}
use Rattle.em_lines.specs.declared.line.Line.{Line}
use Rattle.em_lines.specs.declared.line.Lines.{Lines}
use Rattle.em_lines.specs.Lines.{joined}
use Rattle.em_path.specs.declared.path.PathNo.{PathNo}
use Rattle.em_path.specs.Reading.{read_fault, resolved_text}
use Rattle.em_view.specs.Rows.{content}
use Rattle.em_view.specs.Steps.{Steps, done, refuse, own, below}
use Rattle.em_view.specs.Do.{◌>>=◌}
use Rattle.em_wordlist.specs.Words.{words_of}
use Rattle.em_statement.specs.declared.assignment.Assignment.{Assignment}
use Rattle.em_statement.specs.declared.condition.Condition.{Condition}
use Rattle.em_statement.specs.declared.statement.Statement.{Statement}
use Rattle.em_statement.specs.declared.statement.Statement.TheVariants as statement
use Rattle.em_statement.specs.declared.statement.Include.{Include}
use Rattle.em_statement.specs.Statements.{statement_of}
use Rattle.em_reading.specs.declared.no.ReadNo.{ReadNo}
use Rattle.em_reading.specs.declared.no.MakefileFault.TheVariants as fault
use Rattle.em_reading.specs.declared.heard.Heard.{Heard}
use Rattle.em_reading.specs.declared.reading.Reading.{Reading}
use Rattle.em_reading.specs.declared.reading.OpenDefine.{OpenDefine}
use Rattle.em_reading.specs.Faults.{at_place, of_desk}
use Rattle.em_reading.specs.Changes.{Change, good, bad, is_read, close_rule, recipe, enter, other, leave, define_line, body_line, ends_body, whole, take_define, end_text, without_evals, opens, lacks}
use Rattle.em_reader.specs.Hearing.{Reads, hear, hear_condition}
use Rattle.em_reading.specs.Heard.{refused_in, if_heard, else_if_heard}
use Rattle.em_reader.specs.Acting.{matched, act_alone, unless_refused}

-- how a text is read that a line puts in
abbrev pub Deeper : Type 0
Deeper = Place → Lines → Reads (Unit {0})

-- ---- files

abbrev pub path_by : Option PathNo → List ℕ → Option (List ℕ)
path_by None path = Some path
path_by (Some e) path = None

-- none where the name is no path
abbrev pub path_of : List ℕ → List ℕ → Option (List ℕ)
path_of cwd name = path_by (read_fault cwd name) (resolved_text cwd name)

-- the bytes of a file; none where the name is no path or no file
abbrev pub content_by : Place → Option (List ℕ) → Reads (Option (List ℕ))
content_by p None = done None
content_by p (Some path) = below (of_desk p) (content path)

unfoldable pub content_of : Place → List ℕ → Reads (Option (List ℕ))
content_of p name = λ r. content_by p (path_of r.cwd name) r

-- ---- `eval`

-- each line of a text that `eval` was given stands at the statement
abbrev pub placed_line : Place → Line → Line
placed_line p l = record l { place = p }

abbrev pub placed : Place → Lines → Lines
placed p ls = record { lines = map (placed_line p) ls.lines; too_long = option_map (λ q. p) ls.too_long }

abbrev pub eval_lines : Place → List ℕ → Lines
eval_lines p text = placed p (joined p.file text)

abbrev pub evals_of : Reading → Result (List (List ℕ) × Reading) (ReadNo × Reading)
evals_of r = Ok (r.spoken.evals, without_evals r)

abbrev pub read_evals : Deeper → Place → List (List ℕ) → Reads (Unit {0})
read_evals deeper p [] = done tt
read_evals deeper p (t ∷ ts) = do
  u ← deeper p (eval_lines p t)
  read_evals deeper p ts

-- a refusal in an expansion comes before the texts that it has kept
abbrev pub evals_unless : Option (List ℕ) → Deeper → Place → List (List ℕ) → Reads (Unit {0})
evals_unless None deeper p texts = read_evals deeper p texts
evals_unless (Some name) deeper p texts = done tt

-- what the texts of a statement have handed to `eval`
unfoldable pub evaluated : Deeper → Place → Heard → Reads (Unit {0})
evaluated deeper p h = do
  texts ← own evals_of
  evals_unless (refused_in h) deeper p texts

-- ---- `include`

-- the file is noted, and its lines are read; one that isn't there is noted, or is a fault where it is needed
abbrev pub included : Deeper → Bool → Place → List ℕ → Option (List ℕ) → Reads (Unit {0})
included deeper required p name None = own (lacks required p name)
included deeper required p name (Some bytes) = do
  u ← own (opens name)
  deeper p (joined name bytes)

unfoldable pub include_one : Deeper → Bool → Place → List ℕ → Reads (Unit {0})
include_one deeper required p name = do
  bytes ← content_of p name
  included deeper required p name bytes

abbrev pub include_all : Deeper → Bool → Place → List (List ℕ) → Reads (Unit {0})
include_all deeper required p [] = done tt
include_all deeper required p (n ∷ ns) = do
  u ← include_one deeper required p n
  include_all deeper required p ns

-- all names are known before the first file is asked for
unfoldable pub include_names : Deeper → Bool → Place → List ℕ → Reads (Unit {0})
include_names deeper required p text = do
  names ← matched p [] (words_of text)
  include_all deeper required p names

-- ---- a statement

unfoldable pub include_heard : Deeper → Place → Include → Heard → Reads (Unit {0})
include_heard deeper p i h = unless_refused (refused_in h) p (include_names deeper i.required p h.first.text)

abbrev pub included_in : Statement → Option Include
included_in (statement.Include i) = Some i
included_in s = None

abbrev pub act : Deeper → Place → Statement → Heard → Option Include → Reads (Unit {0})
act deeper p s h (Some i) = include_heard deeper p i h
act deeper p s h None = act_alone p s h

-- a rule ends at the next statement; the texts of `eval` may have begun another one
unfoldable pub statement_line : Deeper → Place → Statement → Reads (Unit {0})
statement_line deeper p s = do
  u ← own close_rule
  h ← hear p s
  v ← evaluated deeper p h
  w ← own close_rule
  act deeper p s h (included_in s)

-- a statement of a branch that isn't read is passed over
unfoldable pub active_line : Deeper → Place → Statement → Reads (Unit {0})
active_line deeper p s = λ r. (if is_read r then statement_line deeper p s else done tt) r

-- a condition is expanded only where it can matter
unfoldable pub if_read : Deeper → Place → Condition → Reads (Unit {0})
if_read deeper p c = do
  h ← hear_condition p c
  u ← evaluated deeper p h
  own (if_heard p c h)

unfoldable pub if_line : Deeper → Place → Condition → Reads (Unit {0})
if_line deeper p c = λ r. (if is_read r then if_read deeper p c else own (enter p false)) r

unfoldable pub else_if_read : Deeper → Place → Condition → Reads (Unit {0})
else_if_read deeper p c = do
  h ← hear_condition p c
  u ← evaluated deeper p h
  own (else_if_heard p c h)

unfoldable pub else_if_line : Deeper → Place → Condition → Reads (Unit {0})
else_if_line deeper p c = λ r. (if may_turn r.nest then else_if_read deeper p c else own (other p (Some false))) r

abbrev pub by_statement : Deeper → Place → Statement → Reads (Unit {0})
by_statement deeper p (statement.If c) = if_line deeper p c
by_statement deeper p (statement.ElseIf c) = else_if_line deeper p c
by_statement deeper p statement.Else = own (other p None)
by_statement deeper p statement.Endif = own (leave p)
by_statement deeper p statement.Extraneous = refuse (at_place p fault.Separator)
by_statement deeper p statement.Blank = done tt
by_statement deeper p (statement.Define a) = own (define_line p a)
by_statement deeper p s = active_line deeper p s

-- ---- lines

-- a `define` is one assignment, whose value stands on the lines up to `endef`
unfoldable pub in_body : Deeper → Line → OpenDefine → Reads (Unit {0})
in_body deeper l b = if ends_body b l then statement_line deeper b.place (statement.Assign (whole b)) else own (body_line b l)

abbrev pub by_body : Deeper → Line → Option OpenDefine → Reads (Unit {0})
by_body deeper l (Some b) = in_body deeper l b
by_body deeper l None = if l.tab then own (recipe l) else by_statement deeper l.place (statement_of l.text)

unfoldable pub read_line : Deeper → Line → Reads (Unit {0})
read_line deeper l = do
  body ← own take_define
  by_body deeper l body

abbrev pub read_lines : Deeper → Option Place → List Line → Reads (Unit {0})
read_lines deeper too_long [] = own (end_text too_long)
read_lines deeper too_long (l ∷ ls) = do
  u ← read_line deeper l
  read_lines deeper too_long ls

unfoldable pub read_text : ℕ → Place → Lines → Reads (Unit {0})
read_text zero p lines = refuse (at_place p fault.Limit)
read_text (suc left) p lines = read_lines (read_text left) lines.too_long lines.lines
