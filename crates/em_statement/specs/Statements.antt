-- What a logical line of a makefile is. The tests come in this order: an empty line, a conditional,
-- a directive by its first word, an assignment, a rule.
--     statement_of line      the statement; the line is joined, stands outside recipes and has its comment
use Rattle.std.specs.Prelude.{ℕ, ◌==◌, ◌||◌, nat_lt, Bool, true, false, List, [], take, Option, Some, None, is_some, option_map, option_and_then, unwrap_or, codes, if◌then◌else◌}
use Rattle.std.specs.List.{position}
use Rattle.std.specs.Option.{option_map_or}
use Rattle.em_base.specs.Blanks.{trimmed}
use Rattle.em_lines.specs.Comments.{bare, comment_start}
use Rattle.em_statement.specs.declared.assignment.Assignment.{Assignment}
use Rattle.em_statement.specs.declared.assignment.Modifiers.{Modifiers}
use Rattle.em_statement.specs.declared.assignment.Operator.TheVariants.{Recursive}
use Rattle.em_statement.specs.declared.statement.Statement.{Statement}
use Rattle.em_statement.specs.declared.statement.Statement.TheVariants as statement
use Rattle.em_statement.specs.declared.keyword.Keyword.{Keyword}
use Rattle.em_statement.specs.declared.keyword.Keyword.TheVariants as keyword
use Rattle.em_statement.specs.declared.statement.RuleLine.{RuleLine}
use Rattle.em_statement.specs.Shapes.{shape}
use Rattle.em_statement.specs.Split.{behind, first_word, after_word, is_empty}
use Rattle.em_statement.specs.Heads.{behind_colon}
use Rattle.em_statement.specs.Assignments.{sign_of, assignment_of}
use Rattle.em_statement.specs.Keywords.{keyword_of}
use Rattle.em_statement.specs.Conditions.{condition_by}

abbrev pub keyword_in : List ℕ → Option Keyword
keyword_in text = keyword_of (first_word text)

-- ---- conditionals

-- `else` alone, or with a condition
abbrev pub else_line : List ℕ → Statement
else_line text =
    if is_empty text then statement.Else
    else option_map_or statement.ElseIf (condition_by (keyword_in text) (after_word text)) statement.Extraneous

-- nothing stands behind `endif`
abbrev pub endif_line : List ℕ → Statement
endif_line text = if is_empty text then statement.Endif else statement.Extraneous

abbrev pub other_conditional : Option Keyword → List ℕ → Option Statement
other_conditional (Some keyword.Else) text = Some (else_line text)
other_conditional (Some keyword.Endif) text = Some (endif_line text)
other_conditional _ text = None

unfoldable pub conditional_by : Option Keyword → List ℕ → Option Statement
conditional_by k text = option_map_or (λ c. Some (statement.If c)) (condition_by k text) (other_conditional k text)

-- ---- directives

abbrev pub modifiers : Bool → Bool → Modifiers
modifiers overriding exported = record { overriding = overriding; exported = exported }

abbrev pub none : Modifiers
none = modifiers false false

-- `override` and `export` in either order, once each
abbrev pub behind_override : Option Keyword → List ℕ → Modifiers × List ℕ
behind_override (Some keyword.Export) text = (modifiers true true, after_word text)
behind_override _ text = (modifiers true false, text)

abbrev pub behind_export : Option Keyword → List ℕ → Modifiers × List ℕ
behind_export (Some keyword.Override) text = (modifiers true true, after_word text)
behind_export _ text = (modifiers false true, text)

abbrev pub modified_by : Option Keyword → List ℕ → Modifiers × List ℕ
modified_by (Some keyword.Override) text = behind_override (keyword_in (after_word text)) (after_word text)
modified_by (Some keyword.Export) text = behind_export (keyword_in (after_word text)) (after_word text)
modified_by _ text = (none, text)

abbrev pub modified : List ℕ → Modifiers × List ℕ
modified text = modified_by (keyword_in text) text

-- `define NAME`, or `define NAME OPERATOR`: an assignment whose value stands on the lines up to
-- `endef`
abbrev pub recursive : Modifiers → List ℕ → Assignment
recursive m text = record { modifiers = m; name = trimmed text; operator = Recursive; value = [] }

abbrev pub defined_by : Modifiers → List ℕ → Option Assignment → Statement
defined_by m text None = statement.Define (recursive m text)
defined_by m text (Some a) = if is_empty a.value then statement.Define a else statement.Stray

abbrev pub define_line : Modifiers → List ℕ → Statement
define_line m text = defined_by m text (assignment_of m text)

abbrev pub assignment_line : Modifiers → List ℕ → Option Statement
assignment_line m text = option_map statement.Assign (assignment_of m text)

abbrev pub undefine : Modifiers → List ℕ → Statement
undefine m text = statement.Undefine (record { overriding = m.overriding; name = trimmed text })

-- what modifiers are put before; elsewhere they are no modifiers
abbrev pub with_modifiers : Option Keyword → Modifiers → List ℕ → Option Statement
with_modifiers (Some keyword.Define) m text = Some (define_line m (after_word text))
with_modifiers (Some keyword.Undefine) m text = Some (undefine m (after_word text))
with_modifiers _ m text = if m.overriding || m.exported then assignment_line m text else None

-- `export` and `unexport` without a name are refused by that word
abbrev pub export_line : List ℕ → Statement
export_line text = if is_empty text then statement.Unsupported (codes "export") else statement.Export text

abbrev pub unexport_line : List ℕ → Statement
unexport_line text = if is_empty text then statement.Unsupported (codes "unexport") else statement.Unexport text

abbrev pub include : Bool → List ℕ → Statement
include required text = statement.Include (record { required = required; names = text })

abbrev pub other_directive : Option Keyword → List ℕ → Option Statement
other_directive (Some keyword.Include) text = Some (include true (after_word text))
other_directive (Some keyword.TryInclude) text = Some (include false (after_word text))
other_directive (Some keyword.Export) text = Some (export_line (after_word text))
other_directive (Some keyword.Unexport) text = Some (unexport_line (after_word text))
other_directive (Some keyword.Override) text = Some statement.Stray
other_directive (Some keyword.Endef) text = Some statement.Stray
other_directive (Some keyword.Refused) text = Some (statement.Unsupported (first_word text))
other_directive _ text = None

abbrev pub or_else : Option Statement → Option Statement → Option Statement
or_else None other = other
or_else (Some s) other = Some s

unfoldable pub directive_behind : Modifiers → List ℕ → Option Statement
directive_behind m text = with_modifiers (keyword_in text) m text

unfoldable pub directive_of : List ℕ → Option Statement
directive_of text = or_else (directive_behind (modified text).0 (modified text).1) (other_directive (keyword_in text) text)

-- ---- rules

-- an operator behind the rule's colon, which may be `::`, in front of any other colon
abbrev pub assigns : List ℕ → Bool
assigns shape = option_map_or (λ at. is_some (sign_of (behind_colon (behind at shape)))) (position (λ b. b == 58) shape) false

abbrev pub rule_of : List ℕ → Option (List ℕ) → RuleLine
rule_of head recipe = record { head = head; assigns = assigns (shape head); recipe = recipe }

-- a `;` in front of the comment begins the recipe, in which a `#` is an ordinary byte
abbrev pub before_comment : List ℕ → ℕ → Option ℕ
before_comment shape at = if nat_lt at (comment_start shape) then Some at else None

abbrev pub recipe_start : List ℕ → Option ℕ
recipe_start shape = option_and_then (before_comment shape) (position (λ b. b == 59) shape)

abbrev pub recipe_at : List ℕ → Option ℕ → RuleLine
recipe_at line None = rule_of (bare line) None
recipe_at line (Some at) = rule_of (bare (take at line)) (Some (behind at line))

unfoldable pub rule_line : List ℕ → RuleLine
rule_line line = recipe_at line (recipe_start (shape line))

-- ---- a line

abbrev pub by_first_word : List ℕ → Option Statement
by_first_word text = or_else (conditional_by (keyword_in text) (after_word text)) (directive_of text)

unfoldable pub statement_of : List ℕ → Statement
statement_of line =
    if is_empty (bare line) then statement.Blank
    else unwrap_or (or_else (by_first_word (bare line)) (assignment_line none (bare line))) (statement.Rule (rule_line line))
