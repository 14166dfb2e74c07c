-- An `include` of one file is its text, read in its place.
use Rattle.std.proofs.Common.{◌≡◌, ◌∙◌, ℕ, zero, suc, false, List, [], ◌∷◌, ◌++◌, All, append-nil, Option, Some, None, Result, Ok, Err, refl, sym, ap, ap₂}
use Rattle.std.specs.Prelude.{◌≢◌, if◌then◌else◌}
use Rattle.em_base.specs.declared.place.Place.{Place}
use Rattle.em_glob.specs.Patterns.{is_pattern}
use Rattle.em_namefn.specs.Wildcards.{glyphs_of}
use Rattle.em_lines.specs.declared.line.Line.{Line}
use Rattle.em_lines.specs.Lines as lines
use Rattle.em_rules.specs.declared.rule.Rule.{Rule}
use Rattle.em_rules.specs.declared.book.BookNo.{BookNo}
use Rattle.em_rules.specs.Books.{fault_of, added}
use Rattle.em_vars.specs.Entries.{Entries}
use Rattle.em_wordlist.specs.Words.{words_of}
use Rattle.em_view.specs.Actions.{Oracle, Workspace, go_on, ◌>>=◌}
use Rattle.em_view.specs.Steps.{and_then, done, refuse, own, within}
use Rattle.em_expand.specs.Desks.{Says}
use Rattle.em_expand.specs.Expansion.{expansion}
use Rattle.em_statement.specs.declared.statement.Statement.TheVariants as statement
use Rattle.em_statement.specs.declared.statement.Include.{Include}
use Rattle.em_statement.specs.Statements.{statement_of}
use Rattle.em_reading.specs.declared.no.ReadNo.{ReadNo}
use Rattle.em_reading.specs.declared.no.MakefileFault.TheVariants as fault
use Rattle.em_reading.specs.Faults.{at_place}
use Rattle.em_reading.specs.declared.heard.Expanded.{Expanded}
use Rattle.em_reading.specs.declared.reading.Reading.{Reading}
use Rattle.em_reading.specs.declared.reading.OpenDefine.{OpenDefine}
use Rattle.em_reading.specs.Changes.{Changed, warnings, say, add_rule, close_by, close_rule, recipe, take_define, without_evals, opens, after_opens}
use Rattle.em_reader.specs.Hearing.{Reads, plain, both, nothing, spoken_of, with_spoken, itself, caught, heard, one}
use Rattle.em_reader.specs.Acting.{matches_of, matched_word, matched}
use Rattle.em_reader.specs.Reading.{Deeper, content_of, read_evals, evals_of, evaluated, included, include_one, include_all, include_names, include_heard, statement_line, active_line, by_statement, read_line, read_lines, read_text}
use Rattle.em_reading_laws.specs.Steps.{state_of}
use Rattle.em_reading_laws.specs.Reading.{End, from_there, IsOneInclude, IsTaken}
use Rattle.em_reading_laws.proofs.Stepping.{done_then, never}
use Rattle.em_reading_laws.proofs.Turning.{parted, sound}
use Rattle.em_reading_laws.proofs.Serving.{text_rises, lines_rise}

abbrev pub PlainLaw : Type 0
PlainLaw = (vars : Entries) (cwd : List ℕ) (place : Place) (text : List ℕ) → All (λ b. b ≢ 36) text → expansion vars cwd place text ≡ done text

-- ---- steps that are run

abbrev Out : Type 0 → Type 0
Out A = Result (A × Reading) (ReadNo × Reading) × Workspace

run_then : {A B : Type 0} (m : Reads A) (k : A → Reads B) (a : A) (s t : Reading) (o : Oracle) (w v : Workspace) → ◌≡◌ {A = Out A} (m s o w) (Ok (a, t), v) → and_then m k s o w ≡ k a t o v
unfolding and_then ◌>>=◌
run_then {A} m k a s t o w v e = ap (λ (z : Out A). go_on z.0 z.1 (λ p. k p.0 p.1) o) e

run_own : {A : Type 0} (f : Reading → Result (A × Reading) (ReadNo × Reading)) (s : Reading) (o : Oracle) (w : Workspace) (x : Result (A × Reading) (ReadNo × Reading)) → f s ≡ x → own f s o w ≡ (x, w)
unfolding own
run_own {A} f s o w x e = ap (λ (y : Result (A × Reading) (ReadNo × Reading)). let z : Out A = (y, w) in z) e

run_done : {A : Type 0} (a : A) (s : Reading) (o : Oracle) (w : Workspace) → ◌≡◌ {A = Out A} (done a s o w) (Ok (a, s), w)
unfolding done
run_done a s o w = refl

no_more : (m : Reads (Unit {0})) (s : Reading) (o : Oracle) (w : Workspace) → and_then m (λ u. done tt) s o w ≡ m s o w
unfolding and_then done ◌>>=◌
no_more m s o w = by (m s o w).0 (m s o w).1
  where
    by : (x : Result (Unit {0} × Reading) (ReadNo × Reading)) (v : Workspace) → ◌≡◌ {A = Out (Unit {0})} (go_on x v (λ p q u. (Ok (tt, p.1), u)) o) (x, v)
    by (Ok p) v = refl
    by (Err p) v = refl

-- ---- the rule before is whole

record IsClosed (r s : Reading) : Type 0 where
  begun : s.begun ≡ None
  evals : s.spoken.evals ≡ r.spoken.evals

same_good : (x s : Reading) → ◌≡◌ {A = Changed} (Ok (tt, x)) (Ok (tt, s)) → x ≡ s
same_good x s h = ap (λ (z : Changed). state_of z) h

closed_by : (r s : Reading) (b : Option Rule) → r.begun ≡ b → close_by b r ≡ Ok (tt, s) → IsClosed r s
closed_by r s None is e = let same = same_good r s e in record { begun = ap (λ (x : Reading). x.begun) (sym same) ∙ is; evals = ap (λ (x : Reading). x.spoken.evals) (sym same) }
closed_by r s (Some rule) is e = by (fault_of r.book.rules rule) e
  where
    by : (f : Option BookNo) → add_rule rule f (record r { begun = None }) ≡ Ok (tt, s) → IsClosed r s
    by None h = let same = same_good (record (say (warnings r.book rule) (record r { begun = None })) { book = added r.book rule }) s h in record { begun = ap (λ (x : Reading). x.begun) (sym same); evals = ap (λ (x : Reading). x.spoken.evals) (sym same) }
    by (Some f) h = absurd cc

-- ---- what the line does

module _ (law : PlainLaw) (deeper : Deeper) (p : Place) (s : Reading) (o : Oracle) (w : Workspace) where
  hears : (text : List ℕ) → All (λ b. b ≢ 36) text → heard p text s o w ≡ (Ok (plain text, s), w)
  unfolding heard caught within done
  hears text h = ap (λ (m : Says (List ℕ)). (let n : Reads Expanded = caught p (within spoken_of with_spoken itself m) in n) s o w) (law s.book.vars s.cwd p text h)

  hears_one : (text : List ℕ) → All (λ b. b ≢ 36) text → one p text s o w ≡ (Ok (both (plain text) nothing, s), w)
  unfolding one
  hears_one text h = run_then (heard p text) (λ e. done (both e nothing)) (plain text) s s o w w (hears text h) ∙ run_done (both (plain text) nothing) s o w

  no_evals : (text : List ℕ) → s.spoken.evals ≡ [] → evaluated deeper p (both (plain text) nothing) s o w ≡ (Ok (tt, s), w)
  unfolding evaluated
  no_evals text none =
      let same : without_evals s ≡ s = ap (λ t. let q : Reading = record s { spoken = record s.spoken { evals = t } } in q) (sym none) in
      run_then (own evals_of) (λ texts. read_evals deeper p texts) [] s s o w w (run_own evals_of s o w (Ok ([], s)) (ap₂ (λ (e : List (List ℕ)) (q : Reading). let x : Result (List (List ℕ) × Reading) (ReadNo × Reading) = Ok (e, q) in x) none same)) ∙ run_done tt s o w

  matches : (name : List ℕ) → is_pattern (glyphs_of name) ≡ false → matched p [] (name ∷ []) ≡ done (name ∷ [])
  matches name exact =
      let word : matched_word p name ≡ done (name ∷ []) = ap (λ b. let m : Reads (List (List ℕ)) = if b then matches_of p name else done (name ∷ []) in m) exact in
      ap (λ (m : Reads (List (List ℕ))). and_then m (λ names. matched p ([] ++ names) [])) word ∙ done_then (name ∷ []) (λ names. matched p ([] ++ names) [])

  names_read : (i : Include) (name bytes : List ℕ) (v : Workspace) → words_of i.names ≡ name ∷ [] → is_pattern (glyphs_of name) ≡ false → content_of p name s o w ≡ (Ok (Some bytes, s), v)
      → include_heard deeper p i (both (plain i.names) nothing) s o w ≡ deeper p (lines.joined name bytes) (after_opens name s) o v
  unfolding include_heard include_names include_one
  names_read i name bytes v words exact content =
      let all = λ (ns : List (List ℕ)). include_all deeper i.required p ns in
      ap (λ ws. and_then (matched p [] ws) all s o w) words
      ∙ ap (λ (m : Reads (List (List ℕ))). and_then m all s o w) (matches name exact)
      ∙ ap (λ (m : Reads (Unit {0})). m s o w) (done_then (name ∷ []) all)
      ∙ no_more (include_one deeper i.required p name) s o w
      ∙ run_then (content_of p name) (included deeper i.required p name) (Some bytes) s s o w v content
      ∙ run_then (own (opens name)) (λ u. deeper p (lines.joined name bytes)) tt s (after_opens name s) o v v (run_own (opens name) s o v (Ok (tt, after_opens name s)) refl)

module _ (law : PlainLaw) (deeper : Deeper) (l : Line) (i : Include) (name bytes : List ℕ) (r s : Reading) (o : Oracle) (w v : Workspace) (is : IsOneInclude l i name r) (taken : IsTaken l name bytes r s o w v) where
  abbrev after : IsClosed r s
  after = closed_by r s r.begun refl taken.closed

  statement_read : statement_line deeper l.place (statement.Include i) r o w ≡ deeper l.place (lines.joined name bytes) (after_opens name s) o v
  unfolding statement_line
  statement_read =
      let h = both (plain i.names) nothing in
      run_then (own close_rule) _ tt r s o w w (run_own close_rule r o w (Ok (tt, s)) taken.closed)
      ∙ run_then (one l.place i.names) _ h s s o w w (hears_one law deeper l.place s o w i.names is.plain)
      ∙ run_then (evaluated deeper l.place h) _ tt s s o w w (no_evals law deeper l.place s o w i.names (after.evals ∙ is.evals))
      ∙ run_then (own close_rule) _ tt s s o w w (run_own close_rule s o w (Ok (tt, s)) (ap (λ b. close_by b s) after.begun))
      ∙ names_read law deeper l.place s o w i name bytes v is.one is.exact taken.content

  line_read : read_line deeper l r o w ≡ deeper l.place (lines.joined name bytes) (after_opens name s) o v
  unfolding read_line active_line
  line_read =
      let same : record r { define = None } ≡ r = ap (λ d. let q : Reading = record r { define = d } in q) (sym is.define) in
      let first : take_define r ≡ Ok (None, r) = ap₂ (λ (d : Option OpenDefine) (q : Reading). let x : Result (Option OpenDefine × Reading) (ReadNo × Reading) = Ok (d, q) in x) is.define same in
      run_then (own take_define) _ None r r o w w (run_own take_define r o w (Ok (None, r)) first)
      ∙ ap (λ b. (let m : Reads (Unit {0}) = if b then own (recipe l) else by_statement deeper l.place (statement_of l.text) in m) r o w) is.tab
      ∙ ap (λ x. by_statement deeper l.place x r o w) is.is
      ∙ ap (λ b. (let m : Reads (Unit {0}) = if b then statement_line deeper l.place (statement.Include i) else done tt in m) r o w) is.active
      ∙ statement_read

  pub lines_read : (too_long : Option Place) (rest : List Line) → read_lines deeper too_long (l ∷ rest) r o w ≡ from_there (deeper l.place (lines.joined name bytes) (after_opens name s) o v) (read_lines deeper too_long rest) o
  unfolding and_then ◌>>=◌
  lines_read too_long rest = ap (λ (z : End). from_there z (read_lines deeper too_long rest) o) line_read

-- a text with a line that is too long is never read without a fault
only_whole : (deeper : Deeper) (too_long : Option Place) (ls : List Line) (r t : Reading) (o : Oracle) (w u : Workspace) → read_lines deeper too_long ls r o w ≡ (Ok (tt, t), u) → read_lines deeper None ls r o w ≡ (Ok (tt, t), u)
unfolding own
only_whole deeper None ls r t o w u h = h
only_whole deeper (Some q) ls r t o w u h =
    absurd (by (parted deeper ls r o w).0.0 (parted deeper ls r o w).0.1 (sym (ap (λ (xs : List Line). read_lines deeper (Some q) xs r o w) (sym (append-nil ls)) ∙ (parted deeper ls r o w).1 (Some q) []) ∙ h))
  where
    by : (x : Result (Unit {0} × Reading) (ReadNo × Reading)) (v : Workspace) → from_there (x, v) (read_lines deeper (Some q) []) o ≡ (Ok (tt, t), u) → ⊥
    by (Ok p) v h = never (at_place q fault.Limit, p.1) (tt, t) v u h
    by (Err p) v h = never p (tt, t) v u h

pub read_law : PlainLaw → (left : ℕ) (too_long : Option Place) (l : Line) (i : Include) (name bytes : List ℕ) (rest : List Line) (r s : Reading) (o : Oracle) (w v : Workspace)
    → IsOneInclude l i name r → IsTaken l name bytes r s o w v
    → read_lines (read_text left) too_long (l ∷ rest) r o w ≡ from_there (read_text left l.place (lines.joined name bytes) (after_opens name s) o v) (read_lines (read_text left) too_long rest) o
read_law law left too_long l i name bytes rest r s o w v is taken = lines_read law (read_text left) l i name bytes r s o w v is taken too_long rest

pub place_law : PlainLaw → (left : ℕ) (too_long : Option Place) (l : Line) (i : Include) (name bytes : List ℕ) (rest : List Line) (r s t : Reading) (o : Oracle) (w v u : Workspace)
    → IsOneInclude l i name r → IsTaken l name bytes r s o w v
    → read_text left l.place (lines.joined name bytes) (after_opens name s) o v ≡ (Ok (tt, t), u)
    → read_lines (read_text left) too_long (l ∷ rest) r o w ≡ read_lines (read_text left) too_long ((lines.joined name bytes).lines ++ rest) (after_opens name s) o v
unfolding read_text refuse
place_law law zero too_long l i name bytes rest r s t o w v u is taken h = absurd (never (at_place l.place fault.Limit, after_opens name s) (tt, t) v u h)
place_law law (suc left) too_long l i name bytes rest r s t o w v u is taken h =
    let text = lines.joined name bytes in
    let q = after_opens name s in
    let deep : read_lines (read_text left) None text.lines q o v ≡ (Ok (tt, t), u) = only_whole (read_text left) text.too_long text.lines q t o v u h in
    let here : read_lines (read_text (suc left)) None text.lines q o v ≡ (Ok (tt, t), u) = (lines_rise (read_text left) (read_text (suc left)) (text_rises left) None text.lines).same q o v (tt, t) u deep in
    read_law law (suc left) too_long l i name bytes rest r s o w v is taken
    ∙ ap (λ (z : End). from_there z (read_lines (read_text (suc left)) too_long rest) o) h
    ∙ sym (sound (read_text (suc left)) text.lines q o v too_long rest t u here)
