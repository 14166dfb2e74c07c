-- What a line does to what was read so far, without asking anything.
use Rattle.std.specs.Prelude.{ℕ, ◌+◌, ◌-◌, ◌==◌, ◌&&◌, min, nat_lt, not, Bool, true, false, List, [], ◌∷◌, ◌++◌, length, take, Option, Some, None, is_some, unwrap_or, Result, Ok, Err, codes, decimal, if◌then◌else◌}
use Rattle.std.specs.List.{flat_map}
use Rattle.std.specs.Str.{bytes_eq}
use Rattle.em_base.specs.declared.place.Place.{Place}
use Rattle.em_cond.specs.declared.nest.Conditional.{Conditional}
use Rattle.em_cond.specs.Nests.{entered, after_other, after_leave, is_active}
use Rattle.em_lines.specs.declared.line.Line.{Line}
use Rattle.em_lines.specs.Folding.{folded_references}
use Rattle.em_lines.specs.Comments.{bare}
use Rattle.em_rules.specs.declared.rule.Rule.{Rule}
use Rattle.em_rules.specs.declared.rule.RecipeLine.{RecipeLine}
use Rattle.em_rules.specs.declared.book.Book.{Book}
use Rattle.em_rules.specs.declared.book.BookNo.{BookNo}
use Rattle.em_rules.specs.Rules.{recipe_rule}
use Rattle.em_rules.specs.Groups.{is_double_kind, each_once}
use Rattle.em_rules.specs.Static.{undotted_rule}
use Rattle.em_rules.specs.Books.{line_fault, group_fault, fault_of, added}
use Rattle.em_vars.specs.Entries.{Entries}
use Rattle.em_statement.specs.declared.assignment.Assignment.{Assignment}
use Rattle.em_statement.specs.Split.{first_word}
use Rattle.em_reading.specs.declared.no.MakefileFault.{MakefileFault}
use Rattle.em_reading.specs.declared.no.MakefileFault.TheVariants as fault
use Rattle.em_reading.specs.declared.no.RuleNo.TheVariants.{Recipe}
use Rattle.em_reading.specs.declared.no.ReadNo.{ReadNo}
use Rattle.em_reading.specs.declared.reading.Reading.{Reading}
use Rattle.em_reading.specs.declared.reading.OpenDefine.{OpenDefine}
use Rattle.em_reading.specs.declared.noted.Noted.{Noted}
use Rattle.em_reading.specs.declared.noted.Missing.{Missing}
use Rattle.em_reading.specs.Faults.{at_place, of_book}

abbrev pub Changed : Type 0
Changed = Result (Unit {0} × Reading) (ReadNo × Reading)

abbrev pub Change : Type 0
Change = Reading → Changed

abbrev pub good : Change
good r = Ok (tt, r)

abbrev pub bad : Place → MakefileFault → Change
bad p f r = Err (at_place p f, r)

-- lines are read: each open conditional is in the branch that is
abbrev pub is_read : Reading → Bool
is_read r = is_active r.nest

abbrev pub with_vars : Reading → Entries → Reading
with_vars r vars = record r { book = record r.book { vars = vars } }

-- ---- rules

-- `FILE:LINE: warning: overriding recipe for target 'T'`, at the later rule
abbrev pub warning : Place → List ℕ → List ℕ
warning p target = p.file ++ 58 ∷ decimal p.line ++ codes ": warning: overriding recipe for target '" ++ target ++ codes "'" ++ 10 ∷ []

-- for a target that has a recipe from another rule already
abbrev pub warning_for : Book → Place → List ℕ → List ℕ
warning_for b p target = if is_some (recipe_rule b.rules target) then warning p target else []

-- where the rule has a recipe, for each of its targets, once; double-colon rules stand beside one another
abbrev pub warnings : Book → Rule → List ℕ
warnings b rule = if is_some rule.recipe && not (is_double_kind rule.kind) then flat_map (warning_for b rule.place) (each_once rule.targets) else []

abbrev pub say : List ℕ → Reading → Reading
say t r = record r { spoken = record r.spoken { said = r.spoken.said ++ t } }

abbrev pub refused_rule : Rule → BookNo → Change
refused_rule rule e r = Err (of_book rule.place e, r)

abbrev pub add_rule : Rule → Option BookNo → Change
add_rule rule None r = good (record (say (warnings r.book rule) r) { book = added r.book rule })
add_rule rule (Some e) r = refused_rule rule e (say (warnings r.book rule) r)

-- the rule whose recipe lines could follow is whole
abbrev pub close_by : Option Rule → Change
close_by None r = good r
close_by (Some rule) r = add_rule rule (fault_of r.book.rules rule) (record r { begun = None })

abbrev pub close_rule : Change
close_rule r = close_by r.begun r

-- what a rule's line tells is judged there
abbrev pub begin_by : Rule → Option BookNo → Change
begin_by rule None r = good (record r { begun = Some rule; around = length r.opened })
begin_by rule (Some e) r = refused_rule rule e r

abbrev pub begin_rule : Rule → Change
begin_rule rule r = begin_by (undotted_rule rule) (line_fault r.book.rules rule) r

-- within a reference of it a backslash-newline is a blank
abbrev pub recipe_line : Line → RecipeLine
recipe_line l = record { place = l.place; text = folded_references l.text }

abbrev pub with_line : Rule → RecipeLine → Rule
with_line rule l = record rule { recipe = Some (unwrap_or rule.recipe [] ++ l ∷ []) }

abbrev pub recipe_by : Line → Option Rule → Change
recipe_by l None r = bad l.place (fault.Rule Recipe) r
recipe_by l (Some rule) r = good (record r { begun = Some (with_line rule (recipe_line l)) })

-- a line that begins with a tab
abbrev pub recipe : Line → Change
recipe l r = if is_read r then recipe_by l r.begun r else good r

-- ---- conditionals

abbrev pub enter : Place → Bool → Change
enter p holds r = good (record r { nest = entered holds ∷ r.nest; opened = r.opened ++ p ∷ [] })

abbrev pub turned : Place → Option (List Conditional) → Change
turned p None r = bad p fault.Conditional r
turned p (Some nest) r = good (record r { nest = nest })

abbrev pub other : Place → Option Bool → Change
other p condition r = turned p (after_other condition r.nest) r

abbrev pub left : Place → Option (List Conditional) → Change
left p None r = bad p fault.Conditional r
left p (Some nest) r = good (record r { nest = nest; opened = take (length r.opened - 1) r.opened; around = min r.around (length r.opened - 1) })

abbrev pub leave : Place → Change
leave p r = left p (after_leave r.nest) r

-- ---- the lines of a `define`

abbrev pub begin_define : Place → Assignment → Change
begin_define p a r = good (record r { define = Some (record { place = p; assignment = a; nested = 0; text = None }) })

abbrev pub define_behind : Place → Assignment → Changed → Changed
define_behind p a (Ok x) = begin_define p a x.1
define_behind p a (Err e) = Err e

-- the rule before it is whole; it is passed over in a branch that isn't read
abbrev pub define_line : Place → Assignment → Change
define_line p a r = if is_read r then define_behind p a (close_rule r) else good r

-- a line of the body, with the tab that it began with
abbrev pub body_text : Line → List ℕ
body_text l = if l.tab then 9 ∷ l.text else l.text

abbrev pub line_start : Option (List ℕ) → List ℕ
line_start None = []
line_start (Some text) = text ++ 10 ∷ []

-- lines are parted by newlines
abbrev pub joined_to : Option (List ℕ) → List ℕ → List ℕ
joined_to text line = line_start text ++ line

abbrev pub with_body_line : OpenDefine → Line → OpenDefine
with_body_line b l = record b { text = Some (joined_to b.text (body_text l)) }

-- a `define` within the body has an `endef` of its own
abbrev pub deeper : OpenDefine → OpenDefine
deeper b = record b { nested = min (b.nested + 1) 18446744073709551615 }

abbrev pub shallower : OpenDefine → OpenDefine
shallower b = record b { nested = b.nested - 1 }

abbrev pub starts_with_word : List ℕ → Line → Bool
starts_with_word word l = not l.tab && bytes_eq (first_word (bare l.text)) word

abbrev pub is_define : Line → Bool
is_define l = starts_with_word (codes "define") l

abbrev pub is_endef : Line → Bool
is_endef l = starts_with_word (codes "endef") l

-- the line that ends the body
abbrev pub ends_body : OpenDefine → Line → Bool
ends_body b l = is_endef l && (b.nested == 0)

abbrev pub body_after : OpenDefine → Line → OpenDefine
body_after b l = with_body_line (if is_define l then deeper b else if is_endef l then shallower b else b) l

abbrev pub body_line : OpenDefine → Line → Change
body_line b l r = good (record r { define = Some (body_after b l) })

-- the assignment that the whole `define` is
abbrev pub whole : OpenDefine → Assignment
whole b = record b.assignment { value = unwrap_or b.text [] }

-- the `define` whose body is read, taken out
abbrev pub take_define : Reading → Result (Option OpenDefine × Reading) (ReadNo × Reading)
take_define r = Ok (r.define, record r { define = None })

-- ---- ends

abbrev pub unended : Option OpenDefine → Change
unended None r = good r
unended (Some b) r = bad b.place fault.Define r

-- a text ends in front of a line that is too long, or at its end, where no `define` may be open
abbrev pub end_text : Option Place → Change
end_text (Some p) r = bad p fault.Limit r
end_text None r = unended r.define r

-- a grouped rule that lacks its recipe, in a conditional that is open
abbrev pub lacks_recipe : Option Rule → Bool
lacks_recipe None = false
lacks_recipe (Some rule) = is_some (group_fault (undotted_rule rule))

abbrev pub is_held : Reading → Bool
is_held r = lacks_recipe r.begun && nat_lt 0 r.around

-- then the conditional is the earlier fault
abbrev pub end_rule_by : Bool → List Place → Change
end_rule_by true (p ∷ ps) r = bad p fault.Endless r
end_rule_by _ _ r = close_rule r

-- at the end the last rule is whole
abbrev pub end_rule : Change
end_rule r = end_rule_by (is_held r) r.opened r

abbrev pub unbalanced : List Place → Change
unbalanced [] r = good r
unbalanced (p ∷ ps) r = bad p fault.Endless r

-- at the end no conditional is open; the outermost one is told
abbrev pub end_conditionals : Change
end_conditionals r = unbalanced r.opened r

-- ---- `eval`

abbrev pub without_evals : Reading → Reading
without_evals r = record r { spoken = record r.spoken { evals = [] } }

-- ---- files

abbrev pub nothing_noted : Noted
nothing_noted = record { files = []; missing = [] }

abbrev pub with_name : List ℕ → Noted → Noted
with_name name n = record n { files = n.files ++ name ∷ [] }

abbrev pub with_missing : Bool → Place → List ℕ → Noted → Noted
with_missing needed p name n = record n { missing = n.missing ++ record { name = name; place = p; needed = needed } ∷ [] }

-- the lines of a file of this name are read next
abbrev pub with_file : List ℕ → Option Noted → Option Noted
with_file name None = None
with_file name (Some n) = Some (with_name name n)

abbrev pub after_opens : List ℕ → Reading → Reading
after_opens name r = record r { noted = with_file name r.noted }

abbrev pub opens : List ℕ → Change
opens name r = good (after_opens name r)

-- a file isn't there: it is noted, or is a fault where it is needed
abbrev pub lacking : Bool → Place → List ℕ → Option Noted → Change
lacking needed p name None r = if needed then bad p (fault.Include name) r else good r
lacking needed p name (Some n) r = good (record r { noted = Some (with_missing needed p name n) })

abbrev pub lacks : Bool → Place → List ℕ → Change
lacks needed p name r = lacking needed p name r.noted r
