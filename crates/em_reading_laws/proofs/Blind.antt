-- Steps that don't see what is noted of files: they do the same whatever it is, and leave it.
--     Blind m      steps of that kind
--     put n r      the reading where this is noted
use Rattle.std.proofs.Common.{◌≡◌, ◌∙◌, ℕ, Bool, true, false, List, [], ◌∷◌, ◌++◌, codes, Option, Some, None, Result, Ok, Err, refl, ap}
use Rattle.std.specs.Prelude.{if◌then◌else◌}
use Rattle.em_base.specs.declared.place.Place.{Place}
use Rattle.em_cond.specs.declared.nest.Conditional.{Conditional}
use Rattle.em_cond.specs.Nests.{after_other, after_leave}
use Rattle.em_glob.specs.Patterns.{is_pattern}
use Rattle.em_lines.specs.declared.line.Line.{Line}
use Rattle.em_namefn.specs.Wildcards.{glyphs_of}
use Rattle.em_pathname.specs.Walking.{matching_names}
use Rattle.em_rules.specs.declared.rule.Rule.{Rule}
use Rattle.em_rules.specs.declared.book.BookNo.{BookNo}
use Rattle.em_rules.specs.Static.{undotted_rule}
use Rattle.em_rules.specs.Books.{line_fault, fault_of}
use Rattle.em_vars.specs.declared.var.Var.{Var}
use Rattle.em_vars.specs.declared.var.Flavour.{Flavour}
use Rattle.em_vars.specs.declared.var.Flavour.TheVariants as flavour
use Rattle.em_vars.specs.Entries.{value_of}
use Rattle.em_view.specs.Actions as actions
use Rattle.em_view.specs.Actions.{Action, Oracle, Workspace, renamed, ◌>>=◌}
use Rattle.em_view.specs.Steps.{and_then, done, refuse, own, below, with_state, with_part, within}
use Rattle.em_expand.specs.declared.no.ExpandNo.{ExpandNo}
use Rattle.em_expand.specs.declared.spoken.Spoken.{Spoken}
use Rattle.em_expand.specs.Expansion.{expansion}
use Rattle.em_statement.specs.declared.assignment.Assignment.{Assignment}
use Rattle.em_statement.specs.declared.condition.Condition.{Condition}
use Rattle.em_statement.specs.declared.condition.Condition.TheVariants.{Same, Different, Defined, Undefined, Malformed}
use Rattle.em_statement.specs.declared.condition.Sides.{Sides}
use Rattle.em_statement.specs.declared.statement.Statement.{Statement}
use Rattle.em_statement.specs.declared.statement.Statement.TheVariants as statement
use Rattle.em_statement.specs.declared.statement.RuleLine.{RuleLine}
use Rattle.em_statement.specs.declared.head.Head.{Head}
use Rattle.em_statement.specs.Heads.{head_of}
use Rattle.em_reading.specs.declared.no.ReadNo.{ReadNo}
use Rattle.em_reading.specs.declared.no.MakefileFault.TheVariants as fault
use Rattle.em_reading.specs.declared.heard.Expanded.{Expanded}
use Rattle.em_reading.specs.declared.heard.Heard.{Heard}
use Rattle.em_reading.specs.declared.reading.Reading.{Reading}
use Rattle.em_reading.specs.declared.reading.OpenDefine.{OpenDefine}
use Rattle.em_reading.specs.declared.noted.Noted.{Noted}
use Rattle.em_reading.specs.Faults.{at_place, of_desk}
use Rattle.em_reading.specs.Variables.{is_expanded}
use Rattle.em_reading.specs.Changes.{Change, Changed, add_rule, begin_by, begin_define, define_behind, begin_rule, body_line, close_by, close_rule, define_line, end_conditionals, end_rule, end_rule_by, end_text, enter, good, is_held, is_read, leave, left, other, recipe, recipe_by, take_define, turned, unbalanced, unended}
use Rattle.em_reading.specs.Heard.{refused_in, unless, holds, enter_by, other_by, if_heard, else_if_heard, assignment_refusal, assign_vars, assign, undefine_vars, undefine, export_vars, export, unexport_vars, unexport}
use Rattle.em_reading.specs.Start.{set_goal}
use Rattle.em_reader.specs.Hearing.{Reads, plain, cut_off, caught_of, caught_by, caught, with_spoken, itself, heard, pieces, go_on, heard_pieces, heard_head, nothing, both, one, heard_after, two, value_by, value_of_assignment, hear_assignment, hear_condition, head, hear}
use Rattle.em_reader.specs.Acting.{or_itself, wildcard_glyphs, matches_of, matched, rule_of, rule_with, is_nothing, rule_by, unless_refused, refusal_in, rule_line, act_alone}
use Rattle.em_reader.specs.Reading.{path_of, content_by, content_of, evals_of}
use Rattle.em_reader.specs.Makefiles.{line_one, made_of, the_file, asked_for, first_or, first_file, usual_names, makefile_of, found, expanded_goal, goal_in, goal_by, default_goal}

abbrev pub put : Option Noted → Reading → Reading
put n r = record r { noted = n }

abbrev pub Ends : Type 0 → Type 0
Ends A = Result (A × Reading) (ReadNo × Reading)

abbrev pub Out : Type 0 → Type 0
Out A = Ends A × Workspace

abbrev pub lift : {A : Type 0} → Option Noted → Ends A → Ends A
lift n (Ok p) = Ok (p.0, put n p.1)
lift n (Err p) = Err (p.0, put n p.1)

pub record Blind {A : Type 0} (m : Reads A) : Type 0 where
  pub is : (n : Option Noted) (r : Reading) (o : Oracle) (w : Workspace) → ◌≡◌ {A = Out A} (m (put n r) o w) (lift n (m r o w).0, (m r o w).1)

next : {A B : Type 0} {m : Reads A} (k : A → Reads B) → Blind m → ((a : A) → Blind (k a)) → Blind (and_then m k)
unfolding and_then ◌>>=◌
next {A} {B} {m} k first rest = record { is = λ n r o w. ap (λ (z : Out A). actions.go_on z.0 z.1 (λ p. k p.0 p.1) o) (first.is n r o w) ∙ by n o (m r o w).0 (m r o w).1 }
  where
    by : (n : Option Noted) (o : Oracle) (x : Ends A) (v : Workspace) → ◌≡◌ {A = Out B} (actions.go_on (lift n x) v (λ p. k p.0 p.1) o) (lift n (actions.go_on x v (λ p. k p.0 p.1) o).0, (actions.go_on x v (λ p. k p.0 p.1) o).1)
    by n o (Ok p) v = (rest p.0).is n p.1 o v
    by n o (Err p) v = refl

pub gave : {A : Type 0} (a : A) → Blind {A = A} (done a)
unfolding done
gave a = record { is = λ n r o w. refl }

pub gave_no : {A : Type 0} (e : ReadNo) → Blind {A = A} (refuse e)
unfolding refuse
gave_no e = record { is = λ n r o w. refl }

either : {A : Type 0} (b : Bool) (m n : Reads A) → Blind m → Blind n → Blind (if b then m else n)
either true m n h k = h
either false m n h k = k

-- steps that look at the state first, and not at what is noted
looked : {A : Type 0} (f : Reading → Reads A) → ((n : Option Noted) (r : Reading) → f (put n r) ≡ f r) → ((r : Reading) → Blind (f r)) → Blind (λ r. f r r)
looked {A} f same h = record { is = λ n r o w. ap (λ (m : Reads A). m (put n r) o w) (same n r) ∙ (h r).is n r o w }

owned : {A : Type 0} (f : Reading → Ends A) → ((n : Option Noted) (r : Reading) → f (put n r) ≡ lift n (f r)) → Blind (own f)
unfolding own
owned {A} f h = record { is = λ n r o w. ap (λ (x : Ends A). let z : Out A = (x, w) in z) (h n r) }

state_lifts : {A : Type 0} (n : Option Noted) (r : Reading) (x : Result A ReadNo) → with_state x (put n r) ≡ lift n (with_state x r)
state_lifts n r (Ok a) = refl
state_lifts n r (Err e) = refl

below_blind : {D A : Type 0} (f : D → ReadNo) (m : Action D A) → Blind (below f m)
unfolding below
below_blind {D} {A} f m = record { is = λ n r o w. ap (λ (x : Ends A). let z : Out A = (x, (m o w).1) in z) (state_lifts n r (renamed f (m o w).0)) }

-- ---- what is done to the reading alone

abbrev Stays : Change → Type 0
Stays f = (n : Option Noted) (r : Reading) → f (put n r) ≡ lift n (f r)

changed : (f : Change) → Stays f → Blind (own f)
changed f h = owned f h

closed : (b : Option Rule) → Stays (close_by b)
closed None n r = refl
closed (Some rule) n r = added (fault_of r.book.rules rule)
  where
    added : (e : Option BookNo) → add_rule rule e (record (put n r) { begun = None }) ≡ lift n (add_rule rule e (record r { begun = None }))
    added None = refl
    added (Some e) = refl

pub close_blind : Blind (own close_rule)
close_blind = changed close_rule (λ n r. closed r.begun n r)

begun : (rule : Rule) (t : Option BookNo) → Stays (begin_by rule t)
begun rule None n r = refl
begun rule (Some t) n r = refl

started : (rule : Rule) → Blind (own (begin_rule rule))
started rule = changed (begin_rule rule) (λ n r. begun (undotted_rule rule) (line_fault r.book.rules rule) n r)

pub recipe_blind : (l : Line) → Blind (own (recipe l))
recipe_blind l = changed (recipe l) (λ n r. by n r (is_read r))
  where
    taken : (b : Option Rule) → Stays (recipe_by l b)
    taken None n r = refl
    taken (Some rule) n r = refl

    by : (n : Option Noted) (r : Reading) (b : Bool) → (if b then recipe_by l r.begun (put n r) else good (put n r)) ≡ lift n (if b then recipe_by l r.begun r else good r)
    by n r true = taken r.begun n r
    by n r false = refl

pub enter_blind : (p : Place) (b : Bool) → Blind (own (enter p b))
enter_blind p b = changed (enter p b) (λ n r. refl)

turned_stays : (p : Place) (c : Option (List Conditional)) → Stays (turned p c)
turned_stays p None n r = refl
turned_stays p (Some c) n r = refl

other_stays : (p : Place) (c : Option Bool) → Stays (other p c)
other_stays p c n r = turned_stays p (after_other c r.nest) n r

pub other_blind : (p : Place) (c : Option Bool) → Blind (own (other p c))
other_blind p c = changed (other p c) (other_stays p c)

pub leave_blind : (p : Place) → Blind (own (leave p))
leave_blind p = changed (leave p) (λ n r. by n r (after_leave r.nest))
  where
    by : (n : Option Noted) (r : Reading) (c : Option (List Conditional)) → left p c (put n r) ≡ lift n (left p c r)
    by n r None = refl
    by n r (Some c) = refl

pub define_blind : (p : Place) (a : Assignment) → Blind (own (define_line p a))
define_blind p a = changed (define_line p a) (λ n r. by n r (is_read r))
  where
    behind : (n : Option Noted) (c : Changed) → define_behind p a (lift n c) ≡ lift n (define_behind p a c)
    behind n (Ok x) = refl
    behind n (Err e) = refl

    by : (n : Option Noted) (r : Reading) (b : Bool) → (if b then define_behind p a (close_rule (put n r)) else good (put n r)) ≡ lift n (if b then define_behind p a (close_rule r) else good r)
    by n r true = ap (define_behind p a) (closed r.begun n r) ∙ behind n (close_rule r)
    by n r false = refl

pub body_blind : (b : OpenDefine) (l : Line) → Blind (own (body_line b l))
body_blind b l = changed (body_line b l) (λ n r. refl)

pub take_blind : Blind (own take_define)
take_blind = owned take_define (λ n r. refl)

pub evals_blind : Blind (own evals_of)
evals_blind = owned evals_of (λ n r. refl)

pub end_blind : (too_long : Option Place) → Blind (own (end_text too_long))
end_blind (Some p) = changed (end_text (Some p)) (λ n r. refl)
end_blind None = changed (end_text None) (λ n r. by n r r.define)
  where
    by : (n : Option Noted) (r : Reading) (d : Option OpenDefine) → unended d (put n r) ≡ lift n (unended d r)
    by n r None = refl
    by n r (Some b) = refl

pub whole_blind : Blind (own end_rule)
whole_blind = changed end_rule (λ n r. by (is_held r) r.opened n r)
  where
    by : (b : Bool) (ps : List Place) → Stays (end_rule_by b ps)
    by true (p ∷ ps) n r = refl
    by true [] n r = closed r.begun n r
    by false ps n r = closed r.begun n r

pub balanced_blind : Blind (own end_conditionals)
balanced_blind = changed end_conditionals (λ n r. by n r r.opened)
  where
    by : (n : Option Noted) (r : Reading) (ps : List Place) → unbalanced ps (put n r) ≡ lift n (unbalanced ps r)
    by n r [] = refl
    by n r (p ∷ ps) = refl

pub found_blind : Blind (own found)
found_blind = changed found (λ n r. refl)

unless_stays : (no : Option (List ℕ)) (p : Place) (f : Change) → Stays f → Stays (unless no p f)
unless_stays None p f h n r = h n r
unless_stays (Some name) p f h n r = refl

pub if_blind : (p : Place) (c : Condition) (h : Heard) → Blind (own (if_heard p c h))
if_blind p c h = changed (if_heard p c h) (λ n r. unless_stays (refused_in h) p (enter_by p (holds r.book.vars c h)) (by (holds r.book.vars c h)) n r)
  where
    by : (b : Option Bool) → Stays (enter_by p b)
    by None n r = refl
    by (Some b) n r = refl

pub else_if_blind : (p : Place) (c : Condition) (h : Heard) → Blind (own (else_if_heard p c h))
else_if_blind p c h = changed (else_if_heard p c h) (λ n r. unless_stays (refused_in h) p (other_by p (holds r.book.vars c h)) (by (holds r.book.vars c h)) n r)
  where
    by : (b : Option Bool) → Stays (other_by p b)
    by None n r = refl
    by (Some b) n r = other_stays p (Some b) n r

-- ---- what a statement expands

heard_blind : (p : Place) (text : List ℕ) → Blind (heard p text)
unfolding heard caught within
heard_blind p text = record { is = λ n r o w. ap (λ (x : Ends Expanded). let z : Out Expanded = (x, (expansion r.book.vars r.cwd p text r.spoken o w).1) in z) (by n r (expansion r.book.vars r.cwd p text r.spoken o w).0) }
  where
    by : (n : Option Noted) (r : Reading) (x : Result (List ℕ × Spoken) (ExpandNo × Spoken)) → caught_by p (with_part with_spoken itself (put n r) x) ≡ lift n (caught_by p (with_part with_spoken itself r x))
    by n r (Ok x) = refl
    by n r (Err x) = state_lifts n (with_spoken r x.1) (caught_of p x.0)

pieces_blind : (p : Place) (so_far : List ℕ) (xs : List (List ℕ)) → Blind (heard_pieces p so_far xs)
pieces_blind p so_far [] = gave (plain so_far)
pieces_blind p so_far (x ∷ xs) = next _ (heard_blind p x) (λ e. on (λ t. pieces_blind p t xs) (so_far ++ e.text) e.refused)
  where
    on : ((t : List ℕ) → Blind (heard_pieces p t xs)) → (text : List ℕ) (no : Option (List ℕ)) → Blind (go_on (λ t. heard_pieces p t xs) text no)
    on rest text None = rest text
    on rest text (Some name) = gave (cut_off text name)

one_blind : (p : Place) (text : List ℕ) → Blind (one p text)
unfolding one
one_blind p text = next _ (heard_blind p text) (λ e. gave (both e nothing))

after_blind : (no : Option (List ℕ)) (p : Place) (text : List ℕ) → Blind (heard_after no p text)
after_blind None p text = heard_blind p text
after_blind (Some name) p text = gave nothing

two_blind : (p : Place) (s : Sides) → Blind (two p s)
unfolding two
two_blind p s = next _ (heard_blind p s.left) (λ first. next _ (after_blind first.refused p s.right) (λ second. gave (both first second)))

assignment_blind : (p : Place) (a : Assignment) → Blind (hear_assignment p a)
unfolding hear_assignment value_of_assignment
assignment_blind p a = next _ (heard_blind p a.name)
    (λ name. next _ (looked (λ r. value_by (is_expanded a.operator (value_of r.book.vars name.text)) name.refused p a.value) (λ n r. refl)
    (λ r. either (is_expanded a.operator (value_of r.book.vars name.text)) (heard_after name.refused p a.value) (done (plain a.value)) (after_blind name.refused p a.value) (gave (plain a.value)))) (λ value. gave (both name value)))

pub condition_blind : (p : Place) (c : Condition) → Blind (hear_condition p c)
condition_blind p (Same s) = two_blind p s
condition_blind p (Different s) = two_blind p s
condition_blind p (Defined t) = one_blind p t
condition_blind p (Undefined t) = one_blind p t
condition_blind p Malformed = gave (both nothing nothing)

head_blind : (p : Place) (text : List ℕ) → Blind (head p text)
unfolding head heard_head
head_blind p text = next _ (pieces_blind p [] (pieces text)) (λ e. gave (both e nothing))

pub hear_blind : (p : Place) (s : Statement) → Blind (hear p s)
hear_blind p (statement.If c) = gave (both nothing nothing)
hear_blind p (statement.ElseIf c) = gave (both nothing nothing)
hear_blind p statement.Else = gave (both nothing nothing)
hear_blind p statement.Endif = gave (both nothing nothing)
hear_blind p statement.Extraneous = gave (both nothing nothing)
hear_blind p statement.Blank = gave (both nothing nothing)
hear_blind p (statement.Define a) = gave (both nothing nothing)
hear_blind p (statement.Include i) = one_blind p i.names
hear_blind p (statement.Undefine u) = one_blind p u.name
hear_blind p (statement.Export names) = one_blind p names
hear_blind p (statement.Unexport names) = one_blind p names
hear_blind p (statement.Assign a) = assignment_blind p a
hear_blind p statement.Stray = gave (both nothing nothing)
hear_blind p (statement.Unsupported word) = gave (both nothing nothing)
hear_blind p (statement.Rule l) = head_blind p l.head

-- ---- what a statement does

pub matched_blind : (p : Place) (so_far words : List (List ℕ)) → Blind (matched p so_far words)
unfolding matches_of wildcard_glyphs
matched_blind p so_far [] = gave so_far
matched_blind p so_far (w ∷ ws) =
    next _ (either (is_pattern (glyphs_of w)) (matches_of p w) (done (w ∷ []))
    (next _ (looked (λ r. below (of_desk p) (matching_names r.cwd (glyphs_of w))) (λ n r. refl) (λ r. below_blind (of_desk p) (matching_names r.cwd (glyphs_of w)))) (λ names. gave (or_itself w names))) (gave (w ∷ []))) (λ names. matched_blind p (so_far ++ names) ws)

pub unless_blind : (no : Option (List ℕ)) (p : Place) (m : Reads (Unit {0})) → Blind m → Blind (unless_refused no p m)
unless_blind None p m h = h
unless_blind (Some name) p m h = gave_no (at_place p (fault.Refused name))

rule_blind : (p : Place) (l : RuleLine) (h : Heard) → Blind (rule_line p l h)
unfolding rule_with
rule_blind p l h = unless_blind (refusal_in l h.first) p _ (unless_blind h.first.refused p _ (by (head_of h.first.text)))
  where
    by : (x : Option Head) → Blind (rule_by p l h.first.text x)
    by None = either (is_nothing h.first.text l.recipe) (done tt) (refuse (at_place p fault.Separator)) (gave tt) (gave_no (at_place p fault.Separator))
    by (Some x) = next _ (matched_blind p [] x.targets) (λ targets. next _ (matched_blind p [] x.normal) (λ normal. next _ (matched_blind p [] x.order)
        (λ order. started (rule_of p l (record x { targets = targets; normal = normal; order = order })))))

pub alone_blind : (p : Place) (s : Statement) (h : Heard) → Blind (act_alone p s h)
alone_blind p (statement.If c) h = gave tt
alone_blind p (statement.ElseIf c) h = gave tt
alone_blind p statement.Else h = gave tt
alone_blind p statement.Endif h = gave tt
alone_blind p statement.Extraneous h = gave tt
alone_blind p statement.Blank h = gave tt
alone_blind p (statement.Define a) h = gave tt
alone_blind p (statement.Include i) h = gave tt
alone_blind p (statement.Undefine u) h = changed (undefine p u h) (unless_stays (refused_in h) p (undefine_vars u h) (λ n r. refl))
alone_blind p (statement.Export names) h = changed (export p h) (unless_stays (refused_in h) p (export_vars h) (λ n r. refl))
alone_blind p (statement.Unexport names) h = changed (unexport p h) (unless_stays (refused_in h) p (unexport_vars h) (λ n r. refl))
alone_blind p (statement.Assign a) h = changed (assign p a h) (unless_stays (assignment_refusal a.operator h) p (assign_vars a h) (λ n r. refl))
alone_blind p statement.Stray h = gave_no (at_place p fault.Separator)
alone_blind p (statement.Unsupported word) h = gave_no (at_place p (fault.Refused word))
alone_blind p (statement.Rule l) h = rule_blind p l h

pub content_blind : (p : Place) (name : List ℕ) → Blind (content_of p name)
unfolding content_of
content_blind p name = looked (λ r. content_by p (path_of r.cwd name)) (λ n r. refl) (λ r. by (path_of r.cwd name))
  where
    by : (path : Option (List ℕ)) → Blind (content_by p path)
    by None = gave None
    by (Some path) = below_blind (of_desk p) _

-- ---- makefiles

first_blind : (names : List (List ℕ)) → Blind (first_file names)
first_blind [] = gave None
first_blind (n ∷ ns) = next _ (content_blind (line_one n) n) (λ bytes. by (first_blind ns) bytes)
  where
    by : Blind (first_file ns) → (bytes : Option (List ℕ)) → Blind (first_or n (first_file ns) bytes)
    by h None = h
    by h (Some bytes) = gave (Some (made_of n bytes))

pub makefile_blind : (name : Option (List ℕ)) → Blind (makefile_of name)
unfolding asked_for
makefile_blind None = first_blind usual_names
makefile_blind (Some name) = next _ (content_blind (line_one name) name) (λ bytes. by bytes)
  where
    by : (bytes : Option (List ℕ)) → Blind (the_file name bytes)
    by None = gave_no (at_place (line_one name) (fault.Include name))
    by (Some bytes) = gave (Some (made_of name bytes))

by_option : {A : Type 0} (P : Option A → Type 0) → P None → ((a : A) → P (Some a)) → (x : Option A) → P x
by_option P h k None = h
by_option P h k (Some a) = k a

pub goal_blind : (p : Place) → Blind (default_goal p)
unfolding default_goal expanded_goal
goal_blind p = looked (λ r. goal_by p (value_of r.book.vars (codes ".DEFAULT_GOAL"))) (λ n r. refl) (λ r. by (value_of r.book.vars (codes ".DEFAULT_GOAL")))
  where
    set_blind : (text : List ℕ) → Blind (own (set_goal text))
    set_blind text = changed (set_goal text) (λ n r. refl)

    in_blind : (f : Flavour) (text : List ℕ) → Blind (goal_in p f text)
    in_blind flavour.Simple text = set_blind text
    in_blind flavour.Recursive text = next _ (heard_blind p text) (λ e. unless_blind e.refused p _ (set_blind e.text))

    by : (v : Option Var) → Blind (goal_by p v)
    by None = set_blind []
    by (Some v) = in_blind v.flavour v.text
