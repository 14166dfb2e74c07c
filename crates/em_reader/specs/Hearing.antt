-- What a statement has expanded before it acts.
--     heard p text         the expansion of a text, up to a function that is refused
--     heard_head p text    that of a rule's head: what stands before the function that is refused is known
--     hear p s             the texts of a statement: one, or a name and a value, or the two sides of a condition
-- A refusal is kept, since another construct to its left may be refused before it. Every other
-- fault of an expansion ends the reading.
use Rattle.std.specs.Prelude.{ℕ, Bool, List, [], ◌∷◌, ◌++◌, map, Option, Some, None, Result, Ok, Err, if◌then◌else◌}
use Rattle.em_base.specs.declared.place.Place.{Place}
use Rattle.em_refs.specs.Parts.{parted, source, left}
use Rattle.em_view.specs.Steps.{Steps, with_state, done, within}
use Rattle.em_view.specs.Do.{◌>>=◌}
use Rattle.em_expand.specs.declared.no.ExpandNo.{ExpandNo}
use Rattle.em_expand.specs.declared.no.ExpandNo.TheVariants as no
use Rattle.em_expand.specs.declared.spoken.Spoken.{Spoken}
use Rattle.em_expand.specs.Expansion.{expansion}
use Rattle.em_vars.specs.Entries.{value_of}
use Rattle.em_statement.specs.declared.assignment.Assignment.{Assignment}
use Rattle.em_statement.specs.declared.condition.Condition.{Condition}
use Rattle.em_statement.specs.declared.condition.Condition.TheVariants.{Same, Different, Defined, Undefined, Malformed}
use Rattle.em_statement.specs.declared.condition.Sides.{Sides}
use Rattle.em_statement.specs.declared.statement.Statement.{Statement}
use Rattle.em_statement.specs.declared.statement.Statement.TheVariants as statement
use Rattle.em_reading.specs.declared.no.ReadNo.{ReadNo}
use Rattle.em_reading.specs.declared.heard.Expanded.{Expanded}
use Rattle.em_reading.specs.declared.heard.Heard.{Heard}
use Rattle.em_reading.specs.declared.reading.Reading.{Reading}
use Rattle.em_reading.specs.Faults.{of_expand}
use Rattle.em_reading.specs.Variables.{is_expanded}

abbrev pub Reads : Type 0 → Type 0
Reads A = Steps Reading ReadNo A

abbrev pub plain : List ℕ → Expanded
plain text = record { text = text; refused = None }

abbrev pub cut_off : List ℕ → List ℕ → Expanded
cut_off text name = record { text = text; refused = Some name }

-- ---- one text

-- a refusal is a value here
abbrev pub caught_of : Place → ExpandNo → Result Expanded ReadNo
caught_of p (no.Refused name) = Ok (cut_off [] name)
caught_of p e = Err (of_expand p e)

abbrev pub caught_by : Place → Result (List ℕ × Reading) (ExpandNo × Reading) → Result (Expanded × Reading) (ReadNo × Reading)
caught_by p (Ok x) = Ok (plain x.0, x.1)
caught_by p (Err x) = with_state (caught_of p x.0) x.1

unfoldable pub caught : Place → Steps Reading ExpandNo (List ℕ) → Reads Expanded
caught p m = λ r o w. (caught_by p (m r o w).0, (m r o w).1)

abbrev pub spoken_of : Reading → Spoken
spoken_of r = r.spoken

abbrev pub with_spoken : Reading → Spoken → Reading
with_spoken r s = record r { spoken = s }

abbrev pub itself : ExpandNo → ExpandNo
itself e = e

abbrev pub expanded_text : Place → List ℕ → Steps Reading ExpandNo (List ℕ)
expanded_text p text = λ r. within spoken_of with_spoken itself (expansion r.book.vars r.cwd p text) r

unfoldable pub heard : Place → List ℕ → Reads Expanded
heard p text = caught p (expanded_text p text)

-- ---- a rule's head, part by part

abbrev pub unclosed_piece : List ℕ → Option ℕ → List (List ℕ)
unclosed_piece text None = []
unclosed_piece text (Some at) = left text (Some at) ∷ []

abbrev pub pieces : List ℕ → List (List ℕ)
pieces text = map (source text) (parted text).parts ++ unclosed_piece text (parted text).unclosed

abbrev pub joined : List ℕ → Expanded → Expanded
joined so_far e = record { text = so_far ++ e.text; refused = e.refused }

-- goes on with the pieces behind, unless one was refused
abbrev pub go_on : (List ℕ → Reads Expanded) → List ℕ → Option (List ℕ) → Reads Expanded
go_on more text None = more text
go_on more text (Some name) = done (cut_off text name)

abbrev pub heard_pieces : Place → List ℕ → List (List ℕ) → Reads Expanded
heard_pieces p so_far [] = done (plain so_far)
heard_pieces p so_far (x ∷ xs) = do
  e ← heard p x
  go_on (λ text. heard_pieces p text xs) (so_far ++ e.text) e.refused

unfoldable pub heard_head : Place → List ℕ → Reads Expanded
heard_head p text = heard_pieces p [] (pieces text)

-- ---- the texts of a statement

abbrev pub nothing : Expanded
nothing = plain []

abbrev pub both : Expanded → Expanded → Heard
both first second = record { first = first; second = second }

unfoldable pub one : Place → List ℕ → Reads Heard
one p text = do
  e ← heard p text
  done (both e nothing)

-- a text that comes behind another one
abbrev pub heard_after : Option (List ℕ) → Place → List ℕ → Reads Expanded
heard_after None p text = heard p text
heard_after (Some name) p text = done nothing

unfoldable pub two : Place → Sides → Reads Heard
two p s = do
  first ← heard p s.left
  second ← heard_after first.refused p s.right
  done (both first second)

abbrev pub value_by : Bool → Option (List ℕ) → Place → List ℕ → Reads Expanded
value_by is_expanded refused p value = if is_expanded then heard_after refused p value else done (plain value)

-- the value is expanded where the operator, and for `+=` the variable, ask for it
unfoldable pub value_of_assignment : Place → Assignment → Expanded → Reads Expanded
value_of_assignment p a name = λ r. value_by (is_expanded a.operator (value_of r.book.vars name.text)) name.refused p a.value r

unfoldable pub hear_assignment : Place → Assignment → Reads Heard
hear_assignment p a = do
  name ← heard p a.name
  value ← value_of_assignment p a name
  done (both name value)

abbrev pub hear_condition : Place → Condition → Reads Heard
hear_condition p (Same s) = two p s
hear_condition p (Different s) = two p s
hear_condition p (Defined text) = one p text
hear_condition p (Undefined text) = one p text
hear_condition p Malformed = done (both nothing nothing)

unfoldable pub head : Place → List ℕ → Reads Heard
head p text = do
  e ← heard_head p text
  done (both e nothing)

-- those of a condition are heard where it is read
abbrev pub hear : Place → Statement → Reads Heard
hear p (statement.Include i) = one p i.names
hear p (statement.Undefine u) = one p u.name
hear p (statement.Export names) = one p names
hear p (statement.Unexport names) = one p names
hear p (statement.Assign a) = hear_assignment p a
hear p (statement.Rule l) = head p l.head
hear p _ = done (both nothing nothing)
