-- A text that is read without a fault is read so at any greater depth.
--     Serves m n       where m comes to a value, n comes to the same
use Rattle.std.proofs.Common.{◌≡◌, ◌∙◌, ℕ, zero, suc, Bool, true, false, List, [], ◌∷◌, Option, Some, None, Result, Ok, Err, refl, ap}
use Rattle.std.specs.Prelude.{if◌then◌else◌}
use Rattle.em_base.specs.declared.place.Place.{Place}
use Rattle.em_cond.specs.Nests.{may_turn}
use Rattle.em_lines.specs.declared.line.Line.{Line}
use Rattle.em_lines.specs.declared.line.Lines.{Lines}
use Rattle.em_lines.specs.Lines as lines
use Rattle.em_wordlist.specs.Words.{words_of}
use Rattle.em_view.specs.Actions.{Oracle, Workspace, go_on, ◌>>=◌}
use Rattle.em_view.specs.Steps.{Steps, and_then, done, refuse, own}
use Rattle.em_statement.specs.declared.condition.Condition.{Condition}
use Rattle.em_statement.specs.declared.statement.Statement.{Statement}
use Rattle.em_statement.specs.declared.statement.Statement.TheVariants as statement
use Rattle.em_statement.specs.declared.statement.Include.{Include}
use Rattle.em_statement.specs.Statements.{statement_of}
use Rattle.em_reading.specs.declared.no.ReadNo.{ReadNo}
use Rattle.em_reading.specs.declared.no.MakefileFault.TheVariants as fault
use Rattle.em_reading.specs.declared.heard.Heard.{Heard}
use Rattle.em_reading.specs.declared.reading.Reading.{Reading}
use Rattle.em_reading.specs.declared.reading.OpenDefine.{OpenDefine}
use Rattle.em_reading.specs.Faults.{at_place}
use Rattle.em_reading.specs.Changes.{is_read, close_rule, recipe, enter, other, leave, define_line, ends_body, body_line, whole, take_define, end_text, opens, lacks}
use Rattle.em_reading.specs.Heard.{refused_in, if_heard, else_if_heard}
use Rattle.em_reader.specs.Hearing.{Reads, hear, hear_condition}
use Rattle.em_reader.specs.Acting.{matched, act_alone, unless_refused}
use Rattle.em_reader.specs.Reading.{Deeper, content_of, eval_lines, evals_of, read_evals, evals_unless, evaluated, included, include_one, include_all, include_names, include_heard, included_in, act, statement_line, active_line, if_read, if_line, else_if_read, else_if_line, by_statement, in_body, by_body, read_line, read_lines, read_text}
use Rattle.em_reading_laws.proofs.Stepping.{never}

pub record Serves {S E A : Type 0} (m n : Steps S E A) : Type 0 where
  pub same : (s : S) (o : Oracle) (w : Workspace) (x : A × S) (v : Workspace) → ◌≡◌ {A = Result (A × S) (E × S) × Workspace} (m s o w) (Ok x, v) → ◌≡◌ {A = Result (A × S) (E × S) × Workspace} (n s o w) (Ok x, v)

abbrev Out : Type 0 → Type 0
Out A = Result (A × Reading) (ReadNo × Reading) × Workspace

abbrev Rises : {A : Type 0} → Reads A → Reads A → Type 0
Rises m n = Serves m n

still : {A : Type 0} (m : Reads A) → Rises m m
still m = record { same = λ s o w x v h. h }

next : {A B : Type 0} {m n : Reads A} (k l : A → Reads B) → Rises m n → ((a : A) → Rises (k a) (l a)) → Rises (and_then m k) (and_then n l)
unfolding and_then ◌>>=◌
next {A} {B} {m} {n} k l first rest = record { same = λ s o w x v h. by s o w x v (m s o w).0 (m s o w).1 refl h }
  where
    by : (s : Reading) (o : Oracle) (w : Workspace) (x : B × Reading) (v : Workspace) (y : Result (A × Reading) (ReadNo × Reading)) (u : Workspace) → ◌≡◌ {A = Out A} (m s o w) (y, u)
        → ◌≡◌ {A = Out B} (go_on y u (λ p. k p.0 p.1) o) (Ok x, v) → ◌≡◌ {A = Out B} (go_on (n s o w).0 (n s o w).1 (λ p. l p.0 p.1) o) (Ok x, v)
    by s o w x v (Ok p) u e h = ap (λ (z : Out A). go_on z.0 z.1 (λ p. l p.0 p.1) o) (first.same s o w p u e) ∙ (rest p.0).same p.1 o u x v h
    by s o w x v (Err p) u e h = absurd (never p x u v h)

behind : {A B : Type 0} (m : Reads A) (k l : A → Reads B) → ((a : A) → Rises (k a) (l a)) → Rises (and_then m k) (and_then m l)
behind m k l h = next k l (still m) h

either : {A : Type 0} (b : Bool) (m n p q : Reads A) → Rises m p → Rises n q → Rises (if b then m else n) (if b then p else q)
either true m n p q h k = h
either false m n p q h k = k

looked : {A : Type 0} (f g : Reading → Reads A) → ((r : Reading) → Rises (f r) (g r)) → Rises (λ r. f r r) (λ r. g r r)
looked f g h = record { same = λ r o w x v e. (h r).same r o w x v e }

module _ (a b : Deeper) (rises : (p : Place) (lines : Lines) → Rises (a p lines) (b p lines)) where
  evals_rise : (p : Place) (texts : List (List ℕ)) → Rises (read_evals a p texts) (read_evals b p texts)
  evals_rise p [] = still (done tt)
  evals_rise p (t ∷ ts) = next _ _ (rises p (eval_lines p t)) (λ u. evals_rise p ts)

  evaluated_rises : (p : Place) (h : Heard) → Rises (evaluated a p h) (evaluated b p h)
  unfolding evaluated
  evaluated_rises p h = behind (own evals_of) _ _ (λ texts. by (refused_in h) texts)
    where
      by : (no : Option (List ℕ)) (texts : List (List ℕ)) → Rises (evals_unless no a p texts) (evals_unless no b p texts)
      by None texts = evals_rise p texts
      by (Some name) texts = still (done tt)

  included_rises : (required : Bool) (p : Place) (name : List ℕ) (bytes : Option (List ℕ)) → Rises (included a required p name bytes) (included b required p name bytes)
  included_rises required p name None = still (own (lacks required p name))
  included_rises required p name (Some bytes) = behind (own (opens name)) _ _ (λ u. rises p (lines.joined name bytes))

  include_rises : (required : Bool) (p : Place) (names : List (List ℕ)) → Rises (include_all a required p names) (include_all b required p names)
  unfolding include_one
  include_rises required p [] = still (done tt)
  include_rises required p (n ∷ ns) = next _ _ (behind (content_of p n) _ _ (λ bytes. included_rises required p n bytes)) (λ u. include_rises required p ns)

  heard_rises : (p : Place) (i : Include) (text : List ℕ) (no : Option (List ℕ)) → Rises (unless_refused no p (include_names a i.required p text)) (unless_refused no p (include_names b i.required p text))
  unfolding include_names
  heard_rises p i text None = behind (matched p [] (words_of text)) _ _ (λ names. include_rises i.required p names)
  heard_rises p i text (Some name) = still (refuse (at_place p (fault.Refused name)))

  act_rises : (p : Place) (s : Statement) (h : Heard) (i : Option Include) → Rises (act a p s h i) (act b p s h i)
  unfolding include_heard
  act_rises p s h None = still (act_alone p s h)
  act_rises p s h (Some i) = heard_rises p i h.first.text (refused_in h)

  statement_rises : (p : Place) (s : Statement) → Rises (statement_line a p s) (statement_line b p s)
  unfolding statement_line
  statement_rises p s = behind (own close_rule) _ _ (λ u. behind (hear p s) _ _ (λ h. next _ _ (evaluated_rises p h) (λ v. behind (own close_rule) _ _ (λ w. act_rises p s h (included_in s)))))

  active_rises : (p : Place) (s : Statement) → Rises (active_line a p s) (active_line b p s)
  unfolding active_line
  active_rises p s = looked (λ r. if is_read r then statement_line a p s else done tt) (λ r. if is_read r then statement_line b p s else done tt)
      (λ r. either (is_read r) (statement_line a p s) (done tt) (statement_line b p s) (done tt) (statement_rises p s) (still (done tt)))

  if_rises : (p : Place) (c : Condition) → Rises (if_line a p c) (if_line b p c)
  unfolding if_line if_read
  if_rises p c = looked (λ r. if is_read r then if_read a p c else own (enter p false)) (λ r. if is_read r then if_read b p c else own (enter p false))
      (λ r. either (is_read r) (if_read a p c) (own (enter p false)) (if_read b p c) (own (enter p false))
      (behind (hear_condition p c) _ _ (λ h. next _ _ (evaluated_rises p h) (λ u. still (own (if_heard p c h))))) (still (own (enter p false))))

  else_if_rises : (p : Place) (c : Condition) → Rises (else_if_line a p c) (else_if_line b p c)
  unfolding else_if_line else_if_read
  else_if_rises p c = looked (λ r. if may_turn r.nest then else_if_read a p c else own (other p (Some false))) (λ r. if may_turn r.nest then else_if_read b p c else own (other p (Some false)))
      (λ r. either (may_turn r.nest) (else_if_read a p c) (own (other p (Some false))) (else_if_read b p c) (own (other p (Some false)))
      (behind (hear_condition p c) _ _ (λ h. next _ _ (evaluated_rises p h) (λ u. still (own (else_if_heard p c h))))) (still (own (other p (Some false)))))

  by_statement_rises : (p : Place) (s : Statement) → Rises (by_statement a p s) (by_statement b p s)
  by_statement_rises p (statement.If c) = if_rises p c
  by_statement_rises p (statement.ElseIf c) = else_if_rises p c
  by_statement_rises p statement.Else = still (own (other p None))
  by_statement_rises p statement.Endif = still (own (leave p))
  by_statement_rises p statement.Extraneous = still (refuse (at_place p fault.Separator))
  by_statement_rises p statement.Blank = still (done tt)
  by_statement_rises p (statement.Define d) = still (own (define_line p d))
  by_statement_rises p (statement.Include i) = active_rises p (statement.Include i)
  by_statement_rises p (statement.Undefine u) = active_rises p (statement.Undefine u)
  by_statement_rises p (statement.Export names) = active_rises p (statement.Export names)
  by_statement_rises p (statement.Unexport names) = active_rises p (statement.Unexport names)
  by_statement_rises p (statement.Assign d) = active_rises p (statement.Assign d)
  by_statement_rises p statement.Stray = active_rises p statement.Stray
  by_statement_rises p (statement.Unsupported word) = active_rises p (statement.Unsupported word)
  by_statement_rises p (statement.Rule l) = active_rises p (statement.Rule l)

  line_rises : (l : Line) → Rises (read_line a l) (read_line b l)
  unfolding read_line in_body
  line_rises l = behind (own take_define) _ _ (λ body. by body)
    where
      by : (body : Option OpenDefine) → Rises (by_body a l body) (by_body b l body)
      by (Some d) = either (ends_body d l) (statement_line a d.place (statement.Assign (whole d))) (own (body_line d l)) (statement_line b d.place (statement.Assign (whole d))) (own (body_line d l))
          (statement_rises d.place (statement.Assign (whole d))) (still (own (body_line d l)))
      by None = either l.tab (own (recipe l)) (by_statement a l.place (statement_of l.text)) (own (recipe l)) (by_statement b l.place (statement_of l.text)) (still (own (recipe l))) (by_statement_rises l.place (statement_of l.text))

  pub lines_rise : (too_long : Option Place) (ls : List Line) → Rises (read_lines a too_long ls) (read_lines b too_long ls)
  lines_rise too_long [] = still (own (end_text too_long))
  lines_rise too_long (l ∷ ls) = next _ _ (line_rises l) (λ u. lines_rise too_long ls)

pub text_rises : (left : ℕ) (p : Place) (text : Lines) → Rises (read_text left p text) (read_text (suc left) p text)
unfolding read_text refuse
text_rises zero p text = record { same = λ s o w x v h. absurd (never (at_place p fault.Limit, s) x w v h) }
text_rises (suc left) p text = lines_rise (read_text left) (read_text (suc left)) (text_rises left) text.too_long text.lines
