-- Nothing is done: a text without lines, and lines of a branch that isn't read.
use Rattle.std.proofs.Common.{◌≡◌, Bool, true, false, ℕ, suc, List, [], ◌∷◌, None, Result, Ok, refl, sym, ap}
use Rattle.std.proofs.lemmas.List.Elements.{recursion_from_All}
use Rattle.std.specs.List.{AllByRecursion}
use Rattle.std.specs.Prelude.{All, ◌||◌, not}
use Rattle.em_base.specs.declared.place.Place.{Place}
use Rattle.em_lines.specs.declared.line.Line.{Line}
use Rattle.em_view.specs.Actions.{Oracle, Workspace, ◌>>=◌}
use Rattle.em_view.specs.Steps.{and_then, done, own}
use Rattle.em_statement.specs.declared.statement.Statement.{Statement}
use Rattle.em_statement.specs.declared.statement.Statement.TheVariants as statement
use Rattle.em_statement.specs.Statements.{statement_of}
use Rattle.em_reading.specs.declared.no.ReadNo.{ReadNo}
use Rattle.em_reading.specs.declared.reading.Reading.{Reading}
use Rattle.em_reading.specs.Changes.{is_read}
use Rattle.em_reader.specs.Passing.{is_conditional, is_passed}
use Rattle.em_reader.specs.Reading.{Deeper, read_lines, read_text, read_line, by_body, by_statement, active_line}

abbrev Nothing : Reading → Workspace → Result (Unit {0} × Reading) (ReadNo × Reading) × Workspace
Nothing r w = (Ok (tt, r), w)

pub no_lines : (left : ℕ) (p : Place) (r : Reading) (o : Oracle) (w : Workspace) → r.define ≡ None → read_text (suc left) p (record { lines = []; too_long = None }) r o w ≡ (Ok (tt, r), w)
unfolding read_text own
no_lines left p r o w none = rw none refl

passed_over : (deeper : Deeper) (p : Place) (s : Statement) (r : Reading) (o : Oracle) (w : Workspace) → is_read r ≡ false → active_line deeper p s r o w ≡ Nothing r w
unfolding active_line done
passed_over deeper p s r o w unread = rw unread refl

passed : (deeper : Deeper) (p : Place) (s : Statement) (r : Reading) (o : Oracle) (w : Workspace) → is_read r ≡ false → is_conditional s ≡ false → by_statement deeper p s r o w ≡ Nothing r w
unfolding done own
passed deeper p (statement.If c) r o w unread isnt = absurd cc
passed deeper p (statement.ElseIf c) r o w unread isnt = absurd cc
passed deeper p statement.Else r o w unread isnt = absurd cc
passed deeper p statement.Endif r o w unread isnt = absurd cc
passed deeper p statement.Extraneous r o w unread isnt = absurd cc
passed deeper p statement.Blank r o w unread isnt = refl
passed deeper p (statement.Define a) r o w unread isnt = rw unread refl
passed deeper p (statement.Include i) r o w unread isnt = passed_over deeper p (statement.Include i) r o w unread
passed deeper p (statement.Undefine u) r o w unread isnt = passed_over deeper p (statement.Undefine u) r o w unread
passed deeper p (statement.Export n) r o w unread isnt = passed_over deeper p (statement.Export n) r o w unread
passed deeper p (statement.Unexport n) r o w unread isnt = passed_over deeper p (statement.Unexport n) r o w unread
passed deeper p (statement.Assign a) r o w unread isnt = passed_over deeper p (statement.Assign a) r o w unread
passed deeper p statement.Stray r o w unread isnt = passed_over deeper p statement.Stray r o w unread
passed deeper p (statement.Unsupported n) r o w unread isnt = passed_over deeper p (statement.Unsupported n) r o w unread
passed deeper p (statement.Rule l) r o w unread isnt = passed_over deeper p (statement.Rule l) r o w unread

unnot : (b : Bool) → not b ≡ true → b ≡ false
unnot true h = absurd cc
unnot false h = refl

line : (deeper : Deeper) (l : Line) (r : Reading) (o : Oracle) (w : Workspace) (tab : Bool) → l.tab ≡ tab → is_read r ≡ false → (tab || not (is_conditional (statement_of l.text))) ≡ true → by_body deeper l None r o w ≡ Nothing r w
unfolding own
line deeper l r o w true is unread h = rw (is, unread) refl
line deeper l r o w false is unread h = rw is (passed deeper l.place (statement_of l.text) r o w unread (unnot (is_conditional (statement_of l.text)) h))

one : (deeper : Deeper) (l : Line) (r : Reading) (o : Oracle) (w : Workspace) → r.define ≡ None → is_read r ≡ false → is_passed l ≡ true → read_line deeper l r o w ≡ Nothing r w
unfolding read_line and_then own ◌>>=◌
one deeper l r o w none unread h =
    let same : record r { define = None } ≡ r = ap (λ d. let q : Reading = record r { define = d } in q) (sym none) in
    rw (none, same) (line deeper l r o w l.tab refl unread h)

are : (deeper : Deeper) (lines : List Line) (r : Reading) (o : Oracle) (w : Workspace) → r.define ≡ None → is_read r ≡ false → AllByRecursion (λ l. is_passed l ≡ true) lines → read_lines deeper None lines r o w ≡ Nothing r w
unfolding and_then own ◌>>=◌
are deeper [] r o w none unread all = rw none refl
are deeper (l ∷ ls) r o w none unread all = rw (one deeper l r o w none unread all.0) (are deeper ls r o w none unread all.1)

pub nothing : (deeper : Deeper) (lines : List Line) (r : Reading) (o : Oracle) (w : Workspace) → r.define ≡ None → is_read r ≡ false → All (λ l. is_passed l ≡ true) lines → read_lines deeper None lines r o w ≡ (Ok (tt, r), w)
nothing deeper lines r o w none unread all = are deeper lines r o w none unread (recursion_from_All _ lines all)
