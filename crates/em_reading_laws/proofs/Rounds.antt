-- A round against a reading: what they have in common where nothing that is needed is missing.
--     Alike m      from readings that differ in what is noted, with nothing noted in the first, steps come to the same, unless the first refuse an absent file
use Rattle.std.proofs.Common.{◌≡◌, ◌⊎◌, ◌∙◌, inl, inr, ℕ, zero, suc, Bool, true, false, List, [], ◌∷◌, ◌||◌, Option, Some, None, Result, Ok, Err, refl, sym, ap, ap₂}
use Rattle.std.specs.Prelude.{if◌then◌else◌}
use Rattle.std.proofs.lemmas.List.Folds.{list_any-append}
use Rattle.em_base.specs.declared.place.Place.{Place}
use Rattle.em_cmdline.specs.declared.order.Order.{Order}
use Rattle.em_cond.specs.Nests.{may_turn}
use Rattle.em_lines.specs.declared.line.Line.{Line}
use Rattle.em_lines.specs.declared.line.Lines.{Lines}
use Rattle.em_lines.specs.Lines as lines
use Rattle.em_rules.specs.declared.book.Book.{Book}
use Rattle.em_vars.specs.Entries.{Entries}
use Rattle.em_wordlist.specs.Words.{words_of}
use Rattle.em_view.specs.Actions.{Oracle, Workspace, go_on, ◌>>=◌}
use Rattle.em_view.specs.Steps.{and_then, done, own}
use Rattle.em_statement.specs.declared.condition.Condition.{Condition}
use Rattle.em_statement.specs.declared.statement.Statement.{Statement}
use Rattle.em_statement.specs.declared.statement.Statement.TheVariants as statement
use Rattle.em_statement.specs.declared.statement.Include.{Include}
use Rattle.em_statement.specs.Statements.{statement_of}
use Rattle.em_reading.specs.declared.no.ReadNo.{ReadNo}
use Rattle.em_reading.specs.declared.no.MakefileFault.TheVariants as fault
use Rattle.em_reading.specs.declared.heard.Heard.{Heard}
use Rattle.em_reading.specs.declared.reading.Reading.{Reading}
use Rattle.em_reading.specs.declared.reading.OpenDefine.{OpenDefine}
use Rattle.em_reading.specs.declared.noted.Noted.{Noted}
use Rattle.em_reading.specs.declared.noted.Missing.{Missing}
use Rattle.em_reading.specs.Faults.{at_place}
use Rattle.em_reading.specs.Changes.{is_read, recipe, enter, other, ends_body, body_line, whole, nothing_noted, with_name, with_missing, with_file, opens, lacking, lacks}
use Rattle.em_reading.specs.Heard.{refused_in}
use Rattle.em_reading.specs.Start.{start, start_vars}
use Rattle.em_reader.specs.declared.files.Makefile.{Makefile}
use Rattle.em_reader.specs.declared.makefiles.Round.{Round}
use Rattle.em_reader.specs.Hearing.{Reads}
use Rattle.em_reader.specs.Acting.{unless_refused}
use Rattle.em_reader.specs.Reading.{Deeper, eval_lines, read_evals, evals_unless, evaluated, included, include_one, include_all, include_names, include_heard, included_in, act, statement_line, active_line, if_read, if_line, else_if_read, else_if_line, by_statement, in_body, by_body, read_line, read_lines, read_text}
use Rattle.em_reader.specs.Makefiles.{line_one, place_of, levels, read_file, read_makefile, read_all, made, made_round, read_from, round_from, round_of, reading, round}
use Rattle.em_reading_laws.specs.Steps.{state_of}
use Rattle.em_reading_laws.specs.Rounds.{is_wanting, IsAbsent}
use Rattle.em_reading_laws.proofs.Stepping.{never}
use Rattle.em_reading_laws.proofs.Blind.{gave, gave_no, put, Ends, Out, lift, Blind, close_blind, recipe_blind, enter_blind, other_blind, leave_blind, define_blind, body_blind, take_blind, evals_blind, end_blind, whole_blind, balanced_blind, found_blind, if_blind, else_if_blind, condition_blind, hear_blind, matched_blind, alone_blind, content_blind, makefile_blind, goal_blind}

-- ---- what is missing

abbrev wants : Option Noted → Bool
wants None = false
wants (Some n) = is_wanting n.missing

abbrev needs : {A : Type 0} → Ends A → Bool
needs x = wants (state_of x).noted

or_none : (b : Bool) → (b || false) ≡ b
or_none true = refl
or_none false = refl

or_one : (b : Bool) → (b || true) ≡ true
or_one true = refl
or_one false = refl

one_more : (n : Noted) (needed : Bool) (p : Place) (name : List ℕ) → is_wanting (with_missing needed p name n).missing ≡ (is_wanting n.missing || needed)
one_more n needed p name = list_any-append (λ (m : Missing). m.needed) n.missing (record { name = name; place = p; needed = needed } ∷ []) ∙ ap (λ b. is_wanting n.missing || b) (or_none needed)

-- ---- two runs

abbrev Same : {A : Type 0} → Noted → Out A → Out A → Type 0
Same {A} n a b = (t : Ends A) × (v : Workspace) × (k : Noted) × (a ≡ (lift None t, v)) × (b ≡ (lift (Some k) t, v)) × (is_wanting k.missing ≡ is_wanting n.missing)

abbrev Lost : {A : Type 0} → Out A → Out A → Type 0
Lost {A} a b = (e : ReadNo) × (s : Reading) × (v : Workspace) × (a ≡ (Err (e, s), v)) × IsAbsent e × (needs b.0 ≡ true)

abbrev Both : {A : Type 0} → Noted → Out A → Out A → Type 0
Both n a b = Same n a b ⊎ Lost a b

record Alike {A : Type 0} (m : Reads A) : Type 0 where
  alike : (n : Noted) (r : Reading) (o : Oracle) (w : Workspace) → Both {A = A} n (m (put None r) o w) (m (put (Some n) r) o w)
  stays : (r : Reading) (o : Oracle) (w : Workspace) → wants r.noted ≡ true → needs {A = A} (m r o w).0 ≡ true

blind : {A : Type 0} {m : Reads A} → Blind m → Alike m
blind {A} {m} h = record {
  alike = λ n r o w. inl ((m r o w).0, (m r o w).1, n, h.is None r o w, h.is (Some n) r o w, refl);
  stays = λ r o w is. ap (λ (z : Out A). needs z.0) (h.is r.noted r o w) ∙ by r.noted (m r o w).0 is;
}
  where
    by : (n : Option Noted) (x : Ends A) → wants n ≡ true → needs (lift n x) ≡ true
    by n (Ok p) is = is
    by n (Err p) is = is

abbrev on : {A B : Type 0} → (A → Reads B) → Oracle → Out A → Out B
on k o z = go_on z.0 z.1 (λ p. k p.0 p.1) o

next : {A B : Type 0} {m : Reads A} (k : A → Reads B) → Alike m → ((a : A) → Alike (k a)) → Alike (and_then m k)
unfolding and_then ◌>>=◌
next {A} {B} {m} k first rest = record {
  alike = λ n r o w. by n o (m (put None r) o w) (m (put (Some n) r) o w) (first.alike n r o w);
  stays = λ r o w is. still o (m r o w).0 (m r o w).1 (first.stays r o w is);
}
  where
    still : (o : Oracle) (x : Ends A) (v : Workspace) → needs x ≡ true → needs (go_on x v (λ p. k p.0 p.1) o).0 ≡ true
    still o (Ok p) v is = (rest p.0).stays p.1 o v is
    still o (Err p) v is = is

    further : (n k : Noted) → is_wanting k.missing ≡ is_wanting n.missing → (a b : Out B) → Both k a b → Both n a b
    further n k e a b (inl x) = inl (x.0, x.1, x.2, x.3, x.4, x.5 ∙ e)
    further n k e a b (inr x) = inr x

    goes : (n q : Noted) (o : Oracle) (t : Ends A) (v : Workspace) → is_wanting q.missing ≡ is_wanting n.missing → Both n (on k o (lift None t, v)) (on k o (lift (Some q) t, v))
    goes n q o (Ok p) v e = further n q e (k p.0 (put None p.1) o v) (k p.0 (put (Some q) p.1) o v) ((rest p.0).alike q p.1 o v)
    goes n q o (Err p) v e = inl (Err p, v, q, refl, refl, e)

    by : (n : Noted) (o : Oracle) (a b : Out A) → Both n a b → Both n (on k o a) (on k o b)
    by n o a b (inl x) = rw (x.3, x.4) (goes n x.2 o x.0 x.1 x.5)
    by n o a b (inr x) = inr (x.0, x.1, x.2, ap (on k o) x.3, x.4, still o b.0 b.1 x.5)

either : {A : Type 0} (b : Bool) (m n : Reads A) → Alike m → Alike n → Alike (if b then m else n)
either true m n h k = h
either false m n h k = k

looked : {A : Type 0} (f : Reading → Reads A) → ((n : Option Noted) (r : Reading) → f (put n r) ≡ f r) → ((r : Reading) → Alike (f r)) → Alike (λ r. f r r)
looked {A} f same h = record {
  alike = λ n r o w. rw (same None r, same (Some n) r) ((h r).alike n r o w);
  stays = λ r o w is. (h r).stays r o w is;
}

-- ---- `include`

opens_alike : (name : List ℕ) → Alike (own (opens name))
unfolding own
opens_alike name = record {
  alike = λ n r o w. inl (Ok (tt, r), w, with_name name n, refl, refl, refl);
  stays = λ r o w is. by r.noted is;
}
  where
    by : (n : Option Noted) → wants n ≡ true → wants (with_file name n) ≡ true
    by None is = is
    by (Some n) is = is

lacks_alike : (needed : Bool) (p : Place) (name : List ℕ) → Alike (own (lacks needed p name))
unfolding own
lacks_alike needed p name = record {
  alike = λ n r o w. by n r w needed;
  stays = λ r o w is. still r r.noted is;
}
  where
    by : (n : Noted) (r : Reading) (w : Workspace) (b : Bool) → Both {A = Unit {0}} n (lacking b p name None (put None r), w) (lacking b p name (Some n) (put (Some n) r), w)
    by n r w true = inr (at_place p (fault.Include name), put None r, w, refl, (p, name, refl), one_more n true p name ∙ or_one (is_wanting n.missing))
    by n r w false = inl (Ok (tt, r), w, with_missing false p name n, refl, refl, one_more n false p name ∙ or_none (is_wanting n.missing))

    still : (r : Reading) (n : Option Noted) → wants n ≡ true → needs (lacking needed p name n r) ≡ true
    still r None is = absurd cc
    still r (Some n) is = one_more n needed p name ∙ ap (λ b. b || needed) is

-- ---- lines

module _ (deeper : Deeper) (alike : (p : Place) (lines : Lines) → Alike (deeper p lines)) where
  evals_alike : (p : Place) (texts : List (List ℕ)) → Alike (read_evals deeper p texts)
  evals_alike p [] = blind (gave tt)
  evals_alike p (t ∷ ts) = next _ (alike p (eval_lines p t)) (λ u. evals_alike p ts)

  evaluated_alike : (p : Place) (h : Heard) → Alike (evaluated deeper p h)
  unfolding evaluated
  evaluated_alike p h = next _ (blind evals_blind) (λ texts. by (refused_in h) texts)
    where
      by : (no : Option (List ℕ)) (texts : List (List ℕ)) → Alike (evals_unless no deeper p texts)
      by None texts = evals_alike p texts
      by (Some name) texts = blind (gave tt)

  included_alike : (required : Bool) (p : Place) (name : List ℕ) (bytes : Option (List ℕ)) → Alike (included deeper required p name bytes)
  included_alike required p name None = lacks_alike required p name
  included_alike required p name (Some bytes) = next _ (opens_alike name) (λ u. alike p (lines.joined name bytes))

  include_alike : (required : Bool) (p : Place) (names : List (List ℕ)) → Alike (include_all deeper required p names)
  unfolding include_one
  include_alike required p [] = blind (gave tt)
  include_alike required p (n ∷ ns) = next _ (next _ (blind (content_blind p n)) (λ bytes. included_alike required p n bytes)) (λ u. include_alike required p ns)

  heard_alike : (p : Place) (i : Include) (text : List ℕ) (no : Option (List ℕ)) → Alike (unless_refused no p (include_names deeper i.required p text))
  unfolding include_names
  heard_alike p i text None = next _ (blind (matched_blind p [] (words_of text))) (λ names. include_alike i.required p names)
  heard_alike p i text (Some name) = blind (gave_no (at_place p (fault.Refused name)))

  act_alike : (p : Place) (s : Statement) (h : Heard) (i : Option Include) → Alike (act deeper p s h i)
  unfolding include_heard
  act_alike p s h None = blind (alone_blind p s h)
  act_alike p s h (Some i) = heard_alike p i h.first.text (refused_in h)

  statement_alike : (p : Place) (s : Statement) → Alike (statement_line deeper p s)
  unfolding statement_line
  statement_alike p s = next _ (blind close_blind) (λ u. next _ (blind (hear_blind p s)) (λ h. next _ (evaluated_alike p h) (λ v. next _ (blind close_blind) (λ w. act_alike p s h (included_in s)))))

  active_alike : (p : Place) (s : Statement) → Alike (active_line deeper p s)
  unfolding active_line
  active_alike p s = looked (λ r. if is_read r then statement_line deeper p s else done tt) (λ n r. refl)
      (λ r. either (is_read r) (statement_line deeper p s) (done tt) (statement_alike p s) (blind (gave tt)))

  if_alike : (p : Place) (c : Condition) → Alike (if_line deeper p c)
  unfolding if_line if_read
  if_alike p c = looked (λ r. if is_read r then if_read deeper p c else own (enter p false)) (λ n r. refl)
      (λ r. either (is_read r) (if_read deeper p c) (own (enter p false))
      (next _ (blind (condition_blind p c)) (λ h. next _ (evaluated_alike p h) (λ u. blind (if_blind p c h)))) (blind (enter_blind p false)))

  else_if_alike : (p : Place) (c : Condition) → Alike (else_if_line deeper p c)
  unfolding else_if_line else_if_read
  else_if_alike p c = looked (λ r. if may_turn r.nest then else_if_read deeper p c else own (other p (Some false))) (λ n r. refl)
      (λ r. either (may_turn r.nest) (else_if_read deeper p c) (own (other p (Some false)))
      (next _ (blind (condition_blind p c)) (λ h. next _ (evaluated_alike p h) (λ u. blind (else_if_blind p c h)))) (blind (other_blind p (Some false))))

  by_statement_alike : (p : Place) (s : Statement) → Alike (by_statement deeper p s)
  by_statement_alike p (statement.If c) = if_alike p c
  by_statement_alike p (statement.ElseIf c) = else_if_alike p c
  by_statement_alike p statement.Else = blind (other_blind p None)
  by_statement_alike p statement.Endif = blind (leave_blind p)
  by_statement_alike p statement.Extraneous = blind (gave_no (at_place p fault.Separator))
  by_statement_alike p statement.Blank = blind (gave tt)
  by_statement_alike p (statement.Define d) = blind (define_blind p d)
  by_statement_alike p (statement.Include i) = active_alike p (statement.Include i)
  by_statement_alike p (statement.Undefine u) = active_alike p (statement.Undefine u)
  by_statement_alike p (statement.Export names) = active_alike p (statement.Export names)
  by_statement_alike p (statement.Unexport names) = active_alike p (statement.Unexport names)
  by_statement_alike p (statement.Assign d) = active_alike p (statement.Assign d)
  by_statement_alike p statement.Stray = active_alike p statement.Stray
  by_statement_alike p (statement.Unsupported word) = active_alike p (statement.Unsupported word)
  by_statement_alike p (statement.Rule l) = active_alike p (statement.Rule l)

  line_alike : (l : Line) → Alike (read_line deeper l)
  unfolding read_line in_body
  line_alike l = next _ (blind take_blind) (λ body. by body)
    where
      by : (body : Option OpenDefine) → Alike (by_body deeper l body)
      by (Some d) = either (ends_body d l) (statement_line deeper d.place (statement.Assign (whole d))) (own (body_line d l)) (statement_alike d.place (statement.Assign (whole d))) (blind (body_blind d l))
      by None = either l.tab (own (recipe l)) (by_statement deeper l.place (statement_of l.text)) (blind (recipe_blind l)) (by_statement_alike l.place (statement_of l.text))

  lines_alike : (too_long : Option Place) (ls : List Line) → Alike (read_lines deeper too_long ls)
  lines_alike too_long [] = blind (end_blind too_long)
  lines_alike too_long (l ∷ ls) = next _ (line_alike l) (λ u. lines_alike too_long ls)

text_alike : (left : ℕ) (p : Place) (text : Lines) → Alike (read_text left p text)
unfolding read_text
text_alike zero p text = blind (gave_no (at_place p fault.Limit))
text_alike (suc left) p text = lines_alike (read_text left) (text_alike left) text.too_long text.lines

-- ---- makefiles

makefile_alike : (m : Option Makefile) → Alike (read_makefile m)
unfolding read_file
makefile_alike None = blind (gave tt)
makefile_alike (Some m) = next _ (blind found_blind) (λ u. next _ (opens_alike m.name) (λ v. text_alike levels (line_one m.name) (lines.joined m.name m.bytes)))

all_alike : (name : Option (List ℕ)) → Alike (read_all name)
unfolding read_all
all_alike name = next _ (blind (makefile_blind name)) (λ m. next _ (makefile_alike m) (λ u. next _ (blind whole_blind) (λ v. next _ (blind balanced_blind) (λ w. blind (goal_blind (place_of m))))))

-- ---- a reading and a round of it

abbrev Given : Type 0 → Type 0
Given A = Result (A × List ℕ) (ReadNo × List ℕ)

abbrev Gives : Type 0 → Type 0
Gives A = Given A × Workspace

abbrev read_of : Out (Unit {0}) → Gives Book
read_of z = (made z.0, z.1)

abbrev round_by : Out (Unit {0}) → Gives Round
round_by z = (made_round z.0, z.1)

abbrev book_in : Given Round → Given Book
book_in (Ok p) = Ok (p.0.book, p.1)
book_in (Err p) = Err p

abbrev book_of : Gives Round → Gives Book
book_of z = (book_in z.0, z.1)

-- a fault as a round's
abbrev fault_in : Round → Given Book → Given Round
fault_in d (Ok p) = Ok (d, p.1)
fault_in d (Err p) = Err p

abbrev value_or : {A : Type 0} → A → Given A → A
value_or d (Ok p) = p.0
value_or d (Err p) = d

abbrev told_or : {A : Type 0} → ReadNo → Given A → ReadNo
told_or d (Ok p) = d
told_or d (Err p) = p.0

same_book : (t : Ends (Unit {0})) (u : Workspace) (k : Noted) → read_of (lift None t, u) ≡ book_of (round_by (lift (Some k) t, u))
same_book (Ok p) u k = refl
same_book (Err p) u k = refl

wanted : (b : Book) (n : Option Noted) → is_wanting (round_of b n).missing ≡ wants n
wanted b None = refl
wanted b (Some n) = refl

ok_at : (t : Ends (Unit {0})) (u : Workspace) (k : Noted) (b : Book) (s : List ℕ) (v : Workspace) → is_wanting k.missing ≡ false → ◌≡◌ {A = Gives Book} (read_of (lift None t, u)) (Ok (b, s), v)
    → (q : Round) × (◌≡◌ {A = Gives Round} (round_by (lift (Some k) t, u)) (Ok (q, s), v)) × (q.book ≡ b) × (is_wanting q.missing ≡ false)
ok_at (Ok p) u k b s v none h =
    let q = round_of p.1.book (Some k) in
    (q, ap₂ (λ (said : List ℕ) (w : Workspace). let z : Gives Round = (Ok (q, said), w) in z) (ap (λ (z : Gives Book). state_of z.0) h) (ap (λ (z : Gives Book). z.1) h), ap (λ (z : Gives Book). value_or b z.0) h, none)
ok_at (Err p) u k b s v none h = absurd (never (p.0, p.1.spoken.said) (b, s) u v h)

ok_by : (x y : Out (Unit {0})) → Both nothing_noted x y → (b : Book) (s : List ℕ) (v : Workspace) → ◌≡◌ {A = Gives Book} (read_of x) (Ok (b, s), v)
    → (q : Round) × (◌≡◌ {A = Gives Round} (round_by y) (Ok (q, s), v)) × (q.book ≡ b) × (is_wanting q.missing ≡ false)
ok_by x y (inl z) b s v h =
    let got = ok_at z.0 z.1 z.2 b s v z.5 (ap read_of (sym z.3) ∙ h) in
    (got.0, ap round_by z.4 ∙ got.1, got.2, got.3)
ok_by x y (inr z) b s v h = absurd (never (z.0, z.1.spoken.said) (b, s) z.2 v (ap read_of (sym z.3) ∙ h))

round_ok : (x y : Out (Unit {0})) → Both nothing_noted x y → (q : Round) (s : List ℕ) (v : Workspace) → ◌≡◌ {A = Gives Round} (round_by y) (Ok (q, s), v) → is_wanting q.missing ≡ false
    → ◌≡◌ {A = Gives Book} (read_of x) (Ok (q.book, s), v)
round_ok x y (inl z) q s v h none = ap read_of z.3 ∙ same_book z.0 z.1 z.2 ∙ ap book_of (ap round_by (sym z.4) ∙ h)
round_ok x y (inr z) q s v h none = absurd (by y.0 y.1 z.5 h)
  where
    by : (t : Ends (Unit {0})) (u : Workspace) → needs t ≡ true → ◌≡◌ {A = Gives Round} (round_by (t, u)) (Ok (q, s), v) → ⊥
    by (Ok p) u is h =
        let same : round_of p.1.book p.1.noted ≡ q = ap (λ (c : Gives Round). value_or q c.0) h in
        let bad : true ≡ false = sym is ∙ sym (wanted p.1.book p.1.noted) ∙ ap (λ (c : Round). is_wanting c.missing) same ∙ none in
        cc
    by (Err p) u is h = never (p.0, p.1.spoken.said) (q, s) u v h

fault_at : (t : Ends (Unit {0})) (u : Workspace) (k : Noted) (e : ReadNo) (s : List ℕ) (v : Workspace) → ◌≡◌ {A = Gives Book} (read_of (lift None t, u)) (Err (e, s), v) → ◌≡◌ {A = Gives Round} (round_by (lift (Some k) t, u)) (Err (e, s), v)
fault_at (Ok p) u k e s v h = absurd (never (e, s) (p.1.book, p.1.spoken.said) v u (sym h))
fault_at (Err p) u k e s v h = ap (λ (z : Gives Book). let c : Gives Round = (fault_in (round_of p.1.book (Some k)) z.0, z.1) in c) h

fault_by : (x y : Out (Unit {0})) → Both nothing_noted x y → (e : ReadNo) (s : List ℕ) (v : Workspace) → ◌≡◌ {A = Gives Book} (read_of x) (Err (e, s), v) → (IsAbsent e → ⊥)
    → ◌≡◌ {A = Gives Round} (round_by y) (Err (e, s), v)
fault_by x y (inl z) e s v h other = ap round_by z.4 ∙ fault_at z.0 z.1 z.2 e s v (ap read_of (sym z.3) ∙ h)
fault_by x y (inr z) e s v h other =
    let same : z.0 ≡ e = ap (λ (c : Gives Book). told_or e c.0) (ap read_of (sym z.3) ∙ h) in
    absurd (other (z.4.0, z.4.1, sym same ∙ z.4.2))

first_by : (x y : Out (Unit {0})) → Both nothing_noted x y → (e : ReadNo) (s : List ℕ) (v : Workspace) → ◌≡◌ {A = Gives Round} (round_by y) (Err (e, s), v)
    → (◌≡◌ {A = Gives Book} (read_of x) (Err (e, s), v)) ⊎ ((f : ReadNo) × (t : List ℕ) × (u : Workspace) × IsAbsent f × (◌≡◌ {A = Gives Book} (read_of x) (Err (f, t), u)))
first_by x y (inl z) e s v h = inl (ap read_of z.3 ∙ same_book z.0 z.1 z.2 ∙ ap book_of (ap round_by (sym z.4) ∙ h))
first_by x y (inr z) e s v h = inr (z.0, z.1.spoken.said, z.2, z.4, ap read_of z.3)

module _ (order : Order) (cwd : List ℕ) (defaults : Entries) (said : List ℕ) (o : Oracle) (w : Workspace) where
  abbrev first : Reading
  first = start cwd (start_vars order.goals order.assigned cwd defaults) said

  both : Both nothing_noted (read_all order.makefile (put None first) o w) (read_all order.makefile (put (Some nothing_noted) first) o w)
  both = (all_alike order.makefile).alike nothing_noted first o w

  abbrev plain : Gives Book
  plain = reading order cwd defaults said o w

  abbrev noting : Gives Round
  noting = round order cwd defaults said o w

  pub read_law : (b : Book) (s : List ℕ) (v : Workspace) → plain ≡ (Ok (b, s), v) → (q : Round) × (noting ≡ (Ok (q, s), v)) × (q.book ≡ b) × (is_wanting q.missing ≡ false)
  unfolding read_from round_from
  read_law b s v h = ok_by _ _ both b s v h

  pub round_law : (q : Round) (s : List ℕ) (v : Workspace) → noting ≡ (Ok (q, s), v) → is_wanting q.missing ≡ false → plain ≡ (Ok (q.book, s), v)
  unfolding read_from round_from
  round_law q s v h none = round_ok _ _ both q s v h none

  pub fault_law : (e : ReadNo) (s : List ℕ) (v : Workspace) → (IsAbsent e → ⊥) → plain ≡ (Err (e, s), v) → noting ≡ (Err (e, s), v)
  unfolding read_from round_from
  fault_law e s v other h = fault_by _ _ both e s v h other

  pub first_law : (e : ReadNo) (s : List ℕ) (v : Workspace) → noting ≡ (Err (e, s), v)
      → (plain ≡ (Err (e, s), v)) ⊎ ((f : ReadNo) × (t : List ℕ) × (u : Workspace) × IsAbsent f × (plain ≡ (Err (f, t), u)))
  unfolding read_from round_from
  first_law e s v h = first_by _ _ both e s v h
