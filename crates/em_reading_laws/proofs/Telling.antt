-- What was said stays, while makefiles are read.
use Rattle.std.proofs.Common.{ℕ, zero, suc, Bool, true, false, List, [], ◌∷◌, ◌++◌, codes, Option, Some, None, Result, Ok, Err}
use Rattle.std.specs.Prelude.{if◌then◌else◌}
use Rattle.em_base.specs.declared.place.Place.{Place}
use Rattle.em_cmdline.specs.declared.order.Order.{Order}
use Rattle.em_cond.specs.declared.nest.Conditional.{Conditional}
use Rattle.em_cond.specs.Nests.{after_other, after_leave, may_turn}
use Rattle.em_glob.specs.Patterns.{is_pattern}
use Rattle.em_lines.specs.declared.line.Line.{Line}
use Rattle.em_lines.specs.declared.line.Lines.{Lines}
use Rattle.em_lines.specs.Lines as lines
use Rattle.em_namefn.specs.Wildcards.{glyphs_of}
use Rattle.em_pathname.specs.Walking.{matching_names}
use Rattle.em_rules.specs.declared.rule.Rule.{Rule}
use Rattle.em_rules.specs.declared.book.BookNo.{BookNo}
use Rattle.em_rules.specs.Static.{undotted_rule}
use Rattle.em_rules.specs.Books.{line_fault, fault_of}
use Rattle.em_vars.specs.declared.var.Var.{Var}
use Rattle.em_vars.specs.declared.var.Flavour.{Flavour}
use Rattle.em_vars.specs.declared.var.Flavour.TheVariants as flavour
use Rattle.em_vars.specs.Entries.{Entries, value_of}
use Rattle.em_wordlist.specs.Words.{words_of}
use Rattle.em_view.specs.Actions.{Oracle, Workspace}
use Rattle.em_view.specs.Steps.{and_then, done, refuse, own, below, with_state, with_part, within}
use Rattle.em_expand.specs.declared.no.ExpandNo.{ExpandNo}
use Rattle.em_expand.specs.declared.spoken.Spoken.{Spoken}
use Rattle.em_expand.specs.Expansion.{expansion}
use Rattle.em_statement.specs.declared.assignment.Assignment.{Assignment}
use Rattle.em_statement.specs.declared.condition.Condition.{Condition}
use Rattle.em_statement.specs.declared.condition.Condition.TheVariants.{Same, Different, Defined, Undefined, Malformed}
use Rattle.em_statement.specs.declared.condition.Sides.{Sides}
use Rattle.em_statement.specs.declared.statement.Statement.{Statement}
use Rattle.em_statement.specs.declared.statement.Statement.TheVariants as statement
use Rattle.em_statement.specs.declared.statement.Include.{Include}
use Rattle.em_statement.specs.declared.statement.RuleLine.{RuleLine}
use Rattle.em_statement.specs.declared.head.Head.{Head}
use Rattle.em_statement.specs.Heads.{head_of}
use Rattle.em_statement.specs.Statements.{statement_of}
use Rattle.em_reading.specs.declared.no.ReadNo.{ReadNo}
use Rattle.em_reading.specs.declared.no.MakefileFault.TheVariants as fault
use Rattle.em_reading.specs.declared.heard.Expanded.{Expanded}
use Rattle.em_reading.specs.declared.heard.Heard.{Heard}
use Rattle.em_reading.specs.declared.reading.Reading.{Reading}
use Rattle.em_reading.specs.declared.reading.OpenDefine.{OpenDefine}
use Rattle.em_reading.specs.declared.noted.Noted.{Noted}
use Rattle.em_reading.specs.Faults.{at_place, of_desk}
use Rattle.em_reading.specs.Variables.{is_expanded}
use Rattle.em_reading.specs.Changes.{Change, Changed, good, is_read, warnings, add_rule, close_by, close_rule, begin_by, begin_rule, recipe_by, recipe, enter, turned, other, left, leave, begin_define, define_behind, define_line, ends_body, body_line, whole, take_define, unended, end_text, unbalanced, end_conditionals, is_held, end_rule_by, end_rule, opens, lacking, lacks}
use Rattle.em_reading.specs.Heard.{refused_in, unless, holds, enter_by, other_by, if_heard, else_if_heard, assignment_refusal, assign_vars, assign, undefine_vars, undefine, export_vars, export, unexport_vars, unexport}
use Rattle.em_reading.specs.Start.{start, start_vars, set_goal}
use Rattle.em_reader.specs.Hearing.{Reads, plain, cut_off, caught_of, caught_by, caught, with_spoken, itself, heard, pieces, go_on, heard_pieces, heard_head, nothing, both, one, heard_after, two, value_by, value_of_assignment, hear_assignment, hear_condition, head, hear}
use Rattle.em_reader.specs.Acting.{or_itself, wildcard_glyphs, matches_of, matched, rule_of, rule_with, is_nothing, rule_by, unless_refused, refusal_in, rule_line, act_alone}
use Rattle.em_reader.specs.Reading.{Deeper, path_of, content_by, content_of, eval_lines, evals_of, read_evals, evals_unless, evaluated, included, include_one, include_all, include_names, include_heard, included_in, act, statement_line, active_line, if_read, if_line, else_if_read, else_if_line, by_statement, in_body, by_body, read_line, read_lines, read_text}
use Rattle.em_reader.specs.Makefiles.{line_one, made_of, the_file, asked_for, first_or, first_file, usual_names, makefile_of, place_of, found, levels, read_file, read_makefile, expanded_goal, goal_in, goal_by, default_goal, read_all, made, read_from, reading}
use Rattle.em_reading_laws.specs.Steps.{Begins, state_of}
use Rattle.em_reading_laws.proofs.Stepping.{Keeps, keeps_then, keeps_done, keeps_refuse, keeps_own, keeps_below}
use Rattle.em_reading_laws.proofs.Saying.{same, further, more, expansion_grows}

abbrev Goes : Reading → Reading → Type 0
Goes r q = Begins r.spoken.said q.spoken.said

goes_same : (r : Reading) → Goes r r
goes_same r = same r.spoken.said

goes_on : (r q p : Reading) → Goes r q → Goes q p → Goes r p
goes_on r q p a b = further r.spoken.said q.spoken.said p.spoken.said a b

abbrev Grows : {A : Type 0} → Reads A → Type 0
Grows m = Keeps Goes m

next : {A B : Type 0} {m : Reads A} (k : A → Reads B) → Grows m → ((a : A) → Grows (k a)) → Grows (and_then m k)
next k first rest = keeps_then goes_on k first rest

gave : {A : Type 0} (a : A) → Grows {A = A} (done a)
gave a = keeps_done goes_same a

gave_no : {A : Type 0} (e : ReadNo) → Grows {A = A} (refuse e)
gave_no e = keeps_refuse goes_same e

either : {A : Type 0} (b : Bool) (m n : Reads A) → Grows m → Grows n → Grows (if b then m else n)
either true m n h k = h
either false m n h k = k

-- steps that look at the state first
looked : {A : Type 0} (f : Reading → Reads A) → ((r : Reading) → Grows (f r)) → Grows (λ r. f r r)
looked f h = record { kept = λ r o w. (h r).kept r o w }

-- ---- what is done to the reading alone

abbrev Stays : Change → Type 0
Stays f = (r : Reading) → Goes r (state_of (f r))

changed : (f : Change) → Stays f → Grows (own f)
changed f h = keeps_own f h

closed : (b : Option Rule) → Stays (close_by b)
closed None r = goes_same r
closed (Some rule) r = added (fault_of r.book.rules rule)
  where
    added : (e : Option BookNo) → Goes r (state_of (add_rule rule e (record r { begun = None })))
    added None = more r.spoken.said (warnings r.book rule)
    added (Some e) = more r.spoken.said (warnings r.book rule)

close_grows : Grows (own close_rule)
close_grows = changed close_rule (λ r. closed r.begun r)

begun : (rule : Rule) (t : Option BookNo) → Stays (begin_by rule t)
begun rule None r = goes_same r
begun rule (Some t) r = goes_same r

started : (rule : Rule) → Grows (own (begin_rule rule))
started rule = changed (begin_rule rule) (λ r. begun (undotted_rule rule) (line_fault r.book.rules rule) r)

recipe_grows : (l : Line) → Grows (own (recipe l))
recipe_grows l = changed (recipe l) (λ r. by r (is_read r))
  where
    put : (b : Option Rule) → Stays (recipe_by l b)
    put None r = goes_same r
    put (Some rule) r = goes_same r

    by : (r : Reading) (b : Bool) → Goes r (state_of (if b then recipe_by l r.begun r else good r))
    by r true = put r.begun r
    by r false = goes_same r

entered : (p : Place) (b : Bool) → Stays (enter p b)
entered p b r = goes_same r

turned_stays : (p : Place) (n : Option (List Conditional)) → Stays (turned p n)
turned_stays p None r = goes_same r
turned_stays p (Some n) r = goes_same r

other_stays : (p : Place) (c : Option Bool) → Stays (other p c)
other_stays p c r = turned_stays p (after_other c r.nest) r

left_stays : (p : Place) (n : Option (List Conditional)) → Stays (left p n)
left_stays p None r = goes_same r
left_stays p (Some n) r = goes_same r

defined : (p : Place) (a : Assignment) → Stays (define_line p a)
defined p a r = by (is_read r)
  where
    behind : (c : Changed) → Goes r (state_of c) → Goes r (state_of (define_behind p a c))
    behind (Ok x) g = g
    behind (Err e) g = g

    by : (b : Bool) → Goes r (state_of (if b then define_behind p a (close_rule r) else good r))
    by true = behind (close_rule r) (closed r.begun r)
    by false = goes_same r

ended : (too_long : Option Place) → Stays (end_text too_long)
ended (Some p) r = goes_same r
ended None r = by r.define
  where
    by : (d : Option OpenDefine) → Goes r (state_of (unended d r))
    by None = goes_same r
    by (Some b) = goes_same r

lacking_stays : (needed : Bool) (p : Place) (name : List ℕ) (n : Option Noted) → Stays (lacking needed p name n)
lacking_stays true p name None r = goes_same r
lacking_stays false p name None r = goes_same r
lacking_stays needed p name (Some n) r = goes_same r

whole_grows : Grows (own end_rule)
whole_grows = changed end_rule (λ r. by (is_held r) r.opened r)
  where
    by : (b : Bool) (ps : List Place) → Stays (end_rule_by b ps)
    by true (p ∷ ps) r = goes_same r
    by true [] r = closed r.begun r
    by false ps r = closed r.begun r

balanced : Stays end_conditionals
balanced r = by r.opened
  where
    by : (ps : List Place) → Goes r (state_of (unbalanced ps r))
    by [] = goes_same r
    by (p ∷ ps) = goes_same r

unless_stays : (no : Option (List ℕ)) (p : Place) (f : Change) → Stays f → Stays (unless no p f)
unless_stays None p f h r = h r
unless_stays (Some name) p f h r = goes_same r

if_stays : (p : Place) (c : Condition) (h : Heard) → Stays (if_heard p c h)
if_stays p c h r = unless_stays (refused_in h) p (enter_by p (holds r.book.vars c h)) (by (holds r.book.vars c h)) r
  where
    by : (b : Option Bool) → Stays (enter_by p b)
    by None r = goes_same r
    by (Some b) r = goes_same r

else_if_stays : (p : Place) (c : Condition) (h : Heard) → Stays (else_if_heard p c h)
else_if_stays p c h r = unless_stays (refused_in h) p (other_by p (holds r.book.vars c h)) (by (holds r.book.vars c h)) r
  where
    by : (b : Option Bool) → Stays (other_by p b)
    by None r = goes_same r
    by (Some b) r = other_stays p (Some b) r

-- ---- what a statement expands

heard_grows : (p : Place) (text : List ℕ) → Grows (heard p text)
unfolding heard caught within
heard_grows p text = record { kept = λ r o w. by r (expansion r.book.vars r.cwd p text r.spoken o w).0 ((expansion_grows r.book.vars r.cwd p text).kept r.spoken o w).0 }
  where
    there : (r : Reading) (x : Result Expanded ReadNo) (q : Reading) → Goes r q → Goes r (state_of (with_state x q))
    there r (Ok e) q h = h
    there r (Err e) q h = h

    by : (r : Reading) (x : Result (List ℕ × Spoken) (ExpandNo × Spoken)) → Begins r.spoken.said (state_of x).said → Goes r (state_of (caught_by p (with_part with_spoken itself r x)))
    by r (Ok x) h = h
    by r (Err x) h = there r (caught_of p x.0) (with_spoken r x.1) h

pieces_grow : (p : Place) (so_far : List ℕ) (xs : List (List ℕ)) → Grows (heard_pieces p so_far xs)
pieces_grow p so_far [] = gave (plain so_far)
pieces_grow p so_far (x ∷ xs) = next _ (heard_grows p x) (λ e. on (λ t. pieces_grow p t xs) (so_far ++ e.text) e.refused)
  where
    on : ((t : List ℕ) → Grows (heard_pieces p t xs)) → (text : List ℕ) (no : Option (List ℕ)) → Grows (go_on (λ t. heard_pieces p t xs) text no)
    on rest text None = rest text
    on rest text (Some name) = gave (cut_off text name)

one_grows : (p : Place) (text : List ℕ) → Grows (one p text)
unfolding one
one_grows p text = next _ (heard_grows p text) (λ e. gave (both e nothing))

after_grows : (no : Option (List ℕ)) (p : Place) (text : List ℕ) → Grows (heard_after no p text)
after_grows None p text = heard_grows p text
after_grows (Some name) p text = gave nothing

two_grow : (p : Place) (s : Sides) → Grows (two p s)
unfolding two
two_grow p s = next _ (heard_grows p s.left) (λ first. next _ (after_grows first.refused p s.right) (λ second. gave (both first second)))

assignment_grows : (p : Place) (a : Assignment) → Grows (hear_assignment p a)
unfolding hear_assignment value_of_assignment
assignment_grows p a = next _ (heard_grows p a.name)
    (λ name. next _ (looked (λ r. value_by (is_expanded a.operator (value_of r.book.vars name.text)) name.refused p a.value)
    (λ r. either (is_expanded a.operator (value_of r.book.vars name.text)) (heard_after name.refused p a.value) (done (plain a.value)) (after_grows name.refused p a.value) (gave (plain a.value)))) (λ value. gave (both name value)))

condition_grows : (p : Place) (c : Condition) → Grows (hear_condition p c)
condition_grows p (Same s) = two_grow p s
condition_grows p (Different s) = two_grow p s
condition_grows p (Defined t) = one_grows p t
condition_grows p (Undefined t) = one_grows p t
condition_grows p Malformed = gave (both nothing nothing)

head_grows : (p : Place) (text : List ℕ) → Grows (head p text)
unfolding head heard_head
head_grows p text = next _ (pieces_grow p [] (pieces text)) (λ e. gave (both e nothing))

hear_grows : (p : Place) (s : Statement) → Grows (hear p s)
hear_grows p (statement.If c) = gave (both nothing nothing)
hear_grows p (statement.ElseIf c) = gave (both nothing nothing)
hear_grows p statement.Else = gave (both nothing nothing)
hear_grows p statement.Endif = gave (both nothing nothing)
hear_grows p statement.Extraneous = gave (both nothing nothing)
hear_grows p statement.Blank = gave (both nothing nothing)
hear_grows p (statement.Define a) = gave (both nothing nothing)
hear_grows p (statement.Include i) = one_grows p i.names
hear_grows p (statement.Undefine u) = one_grows p u.name
hear_grows p (statement.Export names) = one_grows p names
hear_grows p (statement.Unexport names) = one_grows p names
hear_grows p (statement.Assign a) = assignment_grows p a
hear_grows p statement.Stray = gave (both nothing nothing)
hear_grows p (statement.Unsupported word) = gave (both nothing nothing)
hear_grows p (statement.Rule l) = head_grows p l.head

-- ---- what a statement does

matched_grows : (p : Place) (so_far words : List (List ℕ)) → Grows (matched p so_far words)
unfolding matches_of wildcard_glyphs
matched_grows p so_far [] = gave so_far
matched_grows p so_far (w ∷ ws) =
    next _ (either (is_pattern (glyphs_of w)) (matches_of p w) (done (w ∷ []))
    (next _ (looked (λ r. below (of_desk p) (matching_names r.cwd (glyphs_of w))) (λ r. keeps_below goes_same (of_desk p) (matching_names r.cwd (glyphs_of w)))) (λ names. gave (or_itself w names))) (gave (w ∷ []))) (λ names. matched_grows p (so_far ++ names) ws)

unless_grows : (no : Option (List ℕ)) (p : Place) (m : Reads (Unit {0})) → Grows m → Grows (unless_refused no p m)
unless_grows None p m h = h
unless_grows (Some name) p m h = gave_no (at_place p (fault.Refused name))

rule_grows : (p : Place) (l : RuleLine) (h : Heard) → Grows (rule_line p l h)
unfolding rule_with
rule_grows p l h = unless_grows (refusal_in l h.first) p _ (unless_grows h.first.refused p _ (by (head_of h.first.text)))
  where
    by : (x : Option Head) → Grows (rule_by p l h.first.text x)
    by None = either (is_nothing h.first.text l.recipe) (done tt) (refuse (at_place p fault.Separator)) (gave tt) (gave_no (at_place p fault.Separator))
    by (Some x) = next _ (matched_grows p [] x.targets) (λ targets. next _ (matched_grows p [] x.normal) (λ normal. next _ (matched_grows p [] x.order)
        (λ order. started (rule_of p l (record x { targets = targets; normal = normal; order = order })))))

alone_grows : (p : Place) (s : Statement) (h : Heard) → Grows (act_alone p s h)
alone_grows p (statement.If c) h = gave tt
alone_grows p (statement.ElseIf c) h = gave tt
alone_grows p statement.Else h = gave tt
alone_grows p statement.Endif h = gave tt
alone_grows p statement.Extraneous h = gave tt
alone_grows p statement.Blank h = gave tt
alone_grows p (statement.Define a) h = gave tt
alone_grows p (statement.Include i) h = gave tt
alone_grows p (statement.Undefine u) h = changed (undefine p u h) (unless_stays (refused_in h) p (undefine_vars u h) (λ r. goes_same r))
alone_grows p (statement.Export names) h = changed (export p h) (unless_stays (refused_in h) p (export_vars h) (λ r. goes_same r))
alone_grows p (statement.Unexport names) h = changed (unexport p h) (unless_stays (refused_in h) p (unexport_vars h) (λ r. goes_same r))
alone_grows p (statement.Assign a) h = changed (assign p a h) (unless_stays (assignment_refusal a.operator h) p (assign_vars a h) (λ r. goes_same r))
alone_grows p statement.Stray h = gave_no (at_place p fault.Separator)
alone_grows p (statement.Unsupported word) h = gave_no (at_place p (fault.Refused word))
alone_grows p (statement.Rule l) h = rule_grows p l h

content_grows : (p : Place) (name : List ℕ) → Grows (content_of p name)
unfolding content_of
content_grows p name = looked (λ r. content_by p (path_of r.cwd name)) (λ r. by (path_of r.cwd name))
  where
    by : (path : Option (List ℕ)) → Grows (content_by p path)
    by None = gave None
    by (Some path) = keeps_below goes_same (of_desk p) _

-- ---- lines

module _ (deeper : Deeper) (grows : (p : Place) (lines : Lines) → Grows (deeper p lines)) where
  evals_grow : (p : Place) (texts : List (List ℕ)) → Grows (read_evals deeper p texts)
  evals_grow p [] = gave tt
  evals_grow p (t ∷ ts) = next _ (grows p (eval_lines p t)) (λ u. evals_grow p ts)

  evaluated_grows : (p : Place) (h : Heard) → Grows (evaluated deeper p h)
  unfolding evaluated
  evaluated_grows p h = next _ (keeps_own evals_of (λ r. goes_same r)) (λ texts. by (refused_in h) texts)
    where
      by : (no : Option (List ℕ)) (texts : List (List ℕ)) → Grows (evals_unless no deeper p texts)
      by None texts = evals_grow p texts
      by (Some name) texts = gave tt

  included_grows : (required : Bool) (p : Place) (name : List ℕ) (bytes : Option (List ℕ)) → Grows (included deeper required p name bytes)
  included_grows required p name None = changed (lacks required p name) (λ r. lacking_stays required p name r.noted r)
  included_grows required p name (Some bytes) = next _ (changed (opens name) (λ r. goes_same r)) (λ u. grows p (lines.joined name bytes))

  include_grows : (required : Bool) (p : Place) (names : List (List ℕ)) → Grows (include_all deeper required p names)
  unfolding include_one
  include_grows required p [] = gave tt
  include_grows required p (n ∷ ns) = next _ (next _ (content_grows p n) (λ bytes. included_grows required p n bytes)) (λ u. include_grows required p ns)

  act_grows : (p : Place) (s : Statement) (h : Heard) (i : Option Include) → Grows (act deeper p s h i)
  unfolding include_heard include_names
  act_grows p s h None = alone_grows p s h
  act_grows p s h (Some i) = unless_grows (refused_in h) p _ (next _ (matched_grows p [] (words_of h.first.text)) (λ names. include_grows i.required p names))

  statement_grows : (p : Place) (s : Statement) → Grows (statement_line deeper p s)
  unfolding statement_line
  statement_grows p s = next _ close_grows (λ u. next _ (hear_grows p s) (λ h. next _ (evaluated_grows p h) (λ v. next _ close_grows (λ w. act_grows p s h (included_in s)))))

  active_grows : (p : Place) (s : Statement) → Grows (active_line deeper p s)
  unfolding active_line
  active_grows p s = looked (λ r. if is_read r then statement_line deeper p s else done tt) (λ r. either (is_read r) (statement_line deeper p s) (done tt) (statement_grows p s) (gave tt))

  if_grows : (p : Place) (c : Condition) → Grows (if_line deeper p c)
  unfolding if_line if_read
  if_grows p c = looked (λ r. if is_read r then if_read deeper p c else own (enter p false)) (λ r. either (is_read r) (if_read deeper p c) (own (enter p false))
      (next _ (condition_grows p c) (λ h. next _ (evaluated_grows p h) (λ u. changed (if_heard p c h) (if_stays p c h)))) (changed (enter p false) (entered p false)))

  else_if_grows : (p : Place) (c : Condition) → Grows (else_if_line deeper p c)
  unfolding else_if_line else_if_read
  else_if_grows p c = looked (λ r. if may_turn r.nest then else_if_read deeper p c else own (other p (Some false))) (λ r. either (may_turn r.nest) (else_if_read deeper p c) (own (other p (Some false)))
      (next _ (condition_grows p c) (λ h. next _ (evaluated_grows p h) (λ u. changed (else_if_heard p c h) (else_if_stays p c h)))) (changed (other p (Some false)) (other_stays p (Some false))))

  by_statement_grows : (p : Place) (s : Statement) → Grows (by_statement deeper p s)
  by_statement_grows p (statement.If c) = if_grows p c
  by_statement_grows p (statement.ElseIf c) = else_if_grows p c
  by_statement_grows p statement.Else = changed (other p None) (other_stays p None)
  by_statement_grows p statement.Endif = changed (leave p) (λ r. left_stays p (after_leave r.nest) r)
  by_statement_grows p statement.Extraneous = gave_no (at_place p fault.Separator)
  by_statement_grows p statement.Blank = gave tt
  by_statement_grows p (statement.Define a) = changed (define_line p a) (defined p a)
  by_statement_grows p (statement.Include i) = active_grows p (statement.Include i)
  by_statement_grows p (statement.Undefine u) = active_grows p (statement.Undefine u)
  by_statement_grows p (statement.Export names) = active_grows p (statement.Export names)
  by_statement_grows p (statement.Unexport names) = active_grows p (statement.Unexport names)
  by_statement_grows p (statement.Assign a) = active_grows p (statement.Assign a)
  by_statement_grows p statement.Stray = active_grows p statement.Stray
  by_statement_grows p (statement.Unsupported word) = active_grows p (statement.Unsupported word)
  by_statement_grows p (statement.Rule l) = active_grows p (statement.Rule l)

  line_grows : (l : Line) → Grows (read_line deeper l)
  unfolding read_line in_body
  line_grows l = next _ (keeps_own take_define (λ r. goes_same r)) (λ body. by body)
    where
      by : (body : Option OpenDefine) → Grows (by_body deeper l body)
      by (Some b) = either (ends_body b l) (statement_line deeper b.place (statement.Assign (whole b))) (own (body_line b l)) (statement_grows b.place (statement.Assign (whole b))) (changed (body_line b l) (λ r. goes_same r))
      by None = either l.tab (own (recipe l)) (by_statement deeper l.place (statement_of l.text)) (recipe_grows l) (by_statement_grows l.place (statement_of l.text))

  lines_grow : (too_long : Option Place) (ls : List Line) → Grows (read_lines deeper too_long ls)
  lines_grow too_long [] = changed (end_text too_long) (ended too_long)
  lines_grow too_long (l ∷ ls) = next _ (line_grows l) (λ u. lines_grow too_long ls)

text_grows : (left : ℕ) (p : Place) (text : Lines) → Grows (read_text left p text)
unfolding read_text
text_grows zero p text = gave_no (at_place p fault.Limit)
text_grows (suc left) p text = lines_grow (read_text left) (text_grows left) text.too_long text.lines

pub text_said : (left : ℕ) (p : Place) (text : Lines) (r : Reading) (o : Oracle) (w : Workspace) → Begins r.spoken.said (state_of (read_text left p text r o w).0).spoken.said
text_said left p text r o w = (text_grows left p text).kept r o w

-- ---- makefiles

first_grows : (names : List (List ℕ)) → Grows (first_file names)
first_grows [] = gave None
first_grows (n ∷ ns) = next _ (content_grows (line_one n) n) (λ bytes. by (first_grows ns) bytes)
  where
    by : Grows (first_file ns) → (bytes : Option (List ℕ)) → Grows (first_or n (first_file ns) bytes)
    by h None = h
    by h (Some bytes) = gave (Some (made_of n bytes))

makefile_grows : (name : Option (List ℕ)) → Grows (makefile_of name)
unfolding asked_for
makefile_grows None = first_grows usual_names
makefile_grows (Some name) = next _ (content_grows (line_one name) name) (λ bytes. by bytes)
  where
    by : (bytes : Option (List ℕ)) → Grows (the_file name bytes)
    by None = gave_no (at_place (line_one name) (fault.Include name))
    by (Some bytes) = gave (Some (made_of name bytes))

by_option : {A : Type 0} (P : Option A → Type 0) → P None → ((a : A) → P (Some a)) → (x : Option A) → P x
by_option P h k None = h
by_option P h k (Some a) = k a

goal_grows : (p : Place) → Grows (default_goal p)
unfolding default_goal expanded_goal
goal_grows p = looked (λ r. goal_by p (value_of r.book.vars (codes ".DEFAULT_GOAL"))) (λ r. by (value_of r.book.vars (codes ".DEFAULT_GOAL")))
  where
    set_grows : (text : List ℕ) → Grows (own (set_goal text))
    set_grows text = changed (set_goal text) (λ r. goes_same r)

    in_grows : (f : Flavour) (text : List ℕ) → Grows (goal_in p f text)
    in_grows flavour.Simple text = set_grows text
    in_grows flavour.Recursive text = next _ (heard_grows p text) (λ e. unless_grows e.refused p _ (set_grows e.text))

    by : (v : Option Var) → Grows (goal_by p v)
    by None = set_grows []
    by (Some v) = in_grows v.flavour v.text

all_grows : (name : Option (List ℕ)) → Grows (read_all name)
unfolding read_all read_file
all_grows name = next _ (makefile_grows name) (λ m. next _ (by_option (λ x. Grows (read_makefile x)) (gave tt) (λ x. next _ (changed found (λ r. goes_same r)) (λ u. next _ (changed (opens x.name) (λ r. goes_same r)) (λ v. text_grows levels (line_one x.name) (lines.joined x.name x.bytes)))) m) (λ u. next _ whole_grows (λ v. next _ (changed end_conditionals balanced) (λ w. goal_grows (place_of m)))))

from_said : (name : Option (List ℕ)) (cwd : List ℕ) (vars : Entries) (said : List ℕ) (o : Oracle) (w : Workspace) → Begins said (state_of (read_from name cwd vars said o w).0)
unfolding read_from
from_said name cwd vars said o w = by (read_all name (start cwd vars said) o w).0 ((all_grows name).kept (start cwd vars said) o w)
  where
    by : (x : Result (Unit {0} × Reading) (ReadNo × Reading)) → Begins said (state_of x).spoken.said → Begins said (state_of (made x))
    by (Ok p) h = h
    by (Err p) h = h

pub reading_said : (order : Order) (cwd : List ℕ) (defaults : Entries) (said : List ℕ) (o : Oracle) (w : Workspace) → Begins said (state_of (reading order cwd defaults said o w).0)
reading_said order cwd defaults said o w = from_said order.makefile cwd (start_vars order.goals order.assigned cwd defaults) said o w
