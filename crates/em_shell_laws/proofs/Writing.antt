-- What is put at a path, and what is appended there.
use Rattle.std.proofs.Common.{◌≡◌, ◌≢◌, ℕ, ◌+◌, ◌-◌, Bool, true, false, cond, List, [], ◌∷◌, ◌++◌, length, Option, Some, None, Result, Ok, Err, refl, sym, ap, subst, ◌∙◌, arith, append-nil, length-append}
use Rattle.std.specs.Prelude.{nat_lt}
use Rattle.std.specs.FinMap.{get, insert}
use Rattle.std.specs.Ordering.{eq_by_cmp}
use Rattle.em_base.proofs.Lemmas.{by_cases, order, same_key, own_key, get_put}
use Rattle.em_path.specs.Paths.{parent_text}
use Rattle.em_tree.specs.declared.node.Kind.{Kind}
use Rattle.em_tree.specs.declared.node.Kind.TheVariants as kind
use Rattle.em_tree.specs.declared.node.Node.{Node}
use Rattle.em_tree.specs.declared.node.Node.TheVariants.{File, Dir}
use Rattle.em_tree.specs.Trees.{Changes}
use Rattle.em_view.specs.declared.done.Piece.{Piece}
use Rattle.em_view.specs.declared.no.DeskNo.{DeskNo}
use Rattle.em_view.specs.declared.no.DeskNo.TheVariants as no
use Rattle.em_view.specs.Actions as action
use Rattle.em_view.specs.Actions.{Oracle, Workspace, Action, go_on, ◌>>=◌, ask, mine, ready, taken, spend}
use Rattle.em_tree.specs.declared.way.Led.{Led}
use Rattle.em_view.specs.Bare.{AreBare}
use Rattle.em_view.specs.Walking.{resolve, target}
use Rattle.em_view.specs.Rows.{blocks, size_of, kind_at, content_by, content_below, content_to, content, becomes, after_change, change, number, change_number, pay, refuse, look, put_refusal, stamped, put_at, put}
use Rattle.em_view.proofs.Fitting.{not_above}
use Rattle.em_utility.specs.declared.operand.OperandNo.{OperandNo}
use Rattle.em_utility.specs.declared.operand.OperandNo.TheVariants as operand
use Rattle.em_utility.specs.Operands.{refused, named}
use Rattle.em_command.specs.declared.jump.Jump.{Jump}
use Rattle.em_command.specs.declared.jump.Jump.TheVariants.{End}
use Rattle.em_command.specs.declared.here.Here.{Here}
use Rattle.em_command.specs.declared.streams.OpenedFile.{OpenedFile}
use Rattle.em_command.specs.Jumps.{looked}
use Rattle.em_command.specs.Heres.{piece, complaint, complain}
use Rattle.em_command.specs.Delivering.{append_to, append_some, append, told, appended}
use Rattle.em_shell_laws.specs.Ends.{Ends}
use Rattle.em_shell_laws.specs.Redirections.{HasNoLinks, Holds}
use Rattle.em_shell_laws.proofs.Going.{Outcome, got, lifted}
use Rattle.em_shell_laws.proofs.Staying.{kind_stays, content_stays, plainly, resolve_is, target_on}

-- ---- one change

is_other : (p q : List ℕ) → p ≢ q → eq_by_cmp order p q ≡ false
is_other p q other = by_cases (eq_by_cmp order p q) (λ b. eq_by_cmp order p q ≡ b → b ≡ false) (λ _ is. absurd (other (same_key p q is))) (λ _ _. refl) refl

put_here : (d : Changes) (p : List ℕ) (c : Option Node) → get (insert d p c) p ≡ Some c
put_here d p c = get_put d p c p ∙ ap (λ b. cond b (Some c) (get d p)) (own_key p)

becomes_it : (d : Changes) (p : List ℕ) (c : Option Node) (above : Option (List ℕ)) (n : ℕ) → ((q : List ℕ) → above ≡ Some q → parent_text p ≡ Some q) → get (becomes p c above n d) p ≡ Some c
becomes_it d p c None n up = put_here d p c
becomes_it d p c (Some q) n up =
    get_put (insert d p c) q (Some (Dir n)) p ∙ ap (λ b. cond b (Some (Some (Dir n))) (get (insert d p c) p)) (is_other p q (not_above p q (up q refl))) ∙ put_here d p c

above_new : (k : Kind) (o : Option (List ℕ)) (q : List ℕ) → stamped k o ≡ Some q → o ≡ Some q
above_new kind.Absent o q e = e
above_new kind.File o q e = absurd cc
above_new kind.Dir o q e = absurd cc
above_new kind.Link o q e = absurd cc

-- ---- put

put_left : (p bytes : List ℕ) (m : ℕ) (o : Oracle) (w v : Workspace) → put_at p m bytes o w ≡ (Ok tt, v) → Holds v p bytes
unfolding put_at change number
put_left p bytes m o w v e =
    let b = got _ _ o w v tt e in
    let c = got _ _ o b.1 v tt b.3 in
    let d = got _ _ o c.1 v tt c.3 in
    let f = got _ _ o d.1 v tt d.3 in
    let node : Option Node = Some (File bytes f.0) in
    let above = stamped b.0.0 (parent_text p) in
    let n = change_number f.1.base f.1.job (f.1.count + 1) in
    (f.0, ap (λ (y : Result (Unit {0}) DeskNo × Workspace). get y.1.changes p) (sym f.3) ∙ becomes_it f.1.changes p node above n (λ q is. above_new b.0.0 (parent_text p) q is))

pub put_holds : (p bytes : List ℕ) (o : Oracle) (w v : Workspace) → HasNoLinks o w → put p bytes o w ≡ (Ok tt, v) → Holds v p bytes
unfolding put ready target
put_holds p bytes o w v none e =
    let a = got ready _ o w v tt e in
    let b = got (target true p) _ o a.1 v tt a.3 in
    let same : a.1 ≡ w = ap (λ (y : Result (Unit {0}) DeskNo × Workspace). y.1) (sym a.2) in
    let c = got (resolve true p) _ o a.1 b.1 b.0 b.2 in
    let f = resolve_is true p o a.1 c.1 c.0 (none.0, subst (λ (u : Workspace). AreBare u.changes) (sym same) none.1) c.2 in
    let t = target_on c.0 p o c.1 b.1 b.0 f.0 c.3 in
    let at : ◌≡◌ {A = Result (Unit {0}) DeskNo × Workspace} (put_at p 0 bytes o b.1) (Ok tt, v) = ap (λ (q : List ℕ × ℕ). put_at q.0 q.1 bytes o b.1) (sym t.0) ∙ b.3 in
    put_left p bytes 0 o b.1 v at

-- ---- what is read

pub read : (o : Oracle) (p bytes : List ℕ) (w : Workspace) → Holds w p bytes → content_below p o w ≡ (Ok (Some bytes), w)
unfolding content_below ◌>>=◌ mine action.done
read o p bytes w holds = ap (λ (n : Option (Option Node)). content_by n p o w) holds.1

taken_keeps : (n : ℕ) (w : Workspace) → (taken n w).1.changes ≡ w.changes
taken_keeps n w = by_cases (nat_lt w.fuel n) (λ b. (let z : Result (Unit {0}) DeskNo × Workspace = cond b (Err no.Spent, w) (Ok tt, record w { fuel = w.fuel - n }) in z.1.changes ≡ w.changes)) (λ _. refl) (λ _. refl)

spent_keeps : (n : ℕ) (o : Oracle) (w v : Workspace) (u : Unit {0}) → spend n o w ≡ (Ok u, v) → v.changes ≡ w.changes
unfolding spend
spent_keeps n o w v u e = ap (λ (y : Result (Unit {0}) DeskNo × Workspace). y.1.changes) (sym e) ∙ taken_keeps n w

abbrev Body : Type 0
Body = Option (List ℕ)

pub content_held : (o : Oracle) (p bytes : List ℕ) (w v : Workspace) (body : Body) → HasNoLinks o w → Holds w p bytes → content p o w ≡ (Ok body, v) → body ≡ Some bytes
unfolding content action.done
content_held o p bytes w v body none holds e =
    let a = got (spend 1) _ o w v body e in
    let paid = spent_keeps 1 o w a.1 a.0 a.2 in
    let r = got (resolve true p) _ o a.1 v body a.3 in
    let f = resolve_is true p o a.1 r.1 r.0 (none.0, subst AreBare (sym paid) none.1) r.2 in
    let b = got (content_to r.0.way) _ o r.1 v body r.3 in
    let c = got (spend (blocks (size_of b.0) + r.0.followed)) _ o b.1 v body b.3 in
    let held : Holds r.1 p bytes = (holds.0, ap (λ (d : Changes). get d p) (f.1 ∙ paid) ∙ holds.1) in
    let now = read o p bytes r.1 held in
    let was : ◌≡◌ {A = Result Body DeskNo × Workspace} (content_below p o r.1) (Ok b.0, b.1) = ap (λ (l : Led). content_to l.way o r.1) (sym f.0) ∙ b.2 in
    let same : ◌≡◌ {A = Result Body DeskNo} (Ok b.0) (Ok (Some bytes)) = ap (λ (y : Result Body DeskNo × Workspace). y.0) (sym was ∙ now) in
    let given : ◌≡◌ {A = Result Body DeskNo} (Ok b.0) (Ok body) = ap (λ (y : Result Body DeskNo × Workspace). y.0) c.3 in
    cc

pub looking_keeps : (p : List ℕ) (o : Oracle) (w v : Workspace) (k : Kind) → kind_at p o w ≡ (Ok k, v) → v.changes ≡ w.changes
looking_keeps p o w v k e = ap (λ (y : Result Kind DeskNo × Workspace). y.1.changes) (sym e) ∙ (kind_stays p).same o w

reading_keeps : (p : List ℕ) (o : Oracle) (w v : Workspace) (body : Body) → content p o w ≡ (Ok body, v) → v.changes ≡ w.changes
reading_keeps p o w v body e = ap (λ (y : Result Body DeskNo × Workspace). y.1.changes) (sym e) ∙ (content_stays p).same o w

-- ---- append

abbrev Tried : Type 0
Tried = Result (Unit {0}) OperandNo × Workspace

abbrev pieces_of : Result (Unit {0} × Here) (Jump × Here) → List Piece
pieces_of (Ok p) = p.1.pieces
pieces_of (Err p) = p.1.pieces

longer : (ps : List Piece) (p : Piece) → ps ++ p ∷ [] ≢ ps
longer ps p e = (let more = length-append ps (p ∷ []) in let same = ap length e in omega (arith, more, same))

-- where nothing was written of a refusal there was none
unrefused : (o : Oracle) (f : OpenedFile) (text : List ℕ) (h : Here) (w v : Workspace) → Ends o (appended f text) h w tt h v → append f text o w ≡ (Ok tt, v)
unfolding appended looked
unrefused o f text h w v e = by (append f text o w) e
  where
    by : (z : Tried) → (let y : Outcome (Unit {0}) = (told z.0 h, z.1) in y) ≡ (Ok (tt, h), v) → z ≡ (Ok tt, v)
    by (Ok tt, x) is = ap (λ (y : Outcome (Unit {0})). let z : Tried = (Ok tt, y.1) in z) is
    by (Err (operand.Fault word r), x) is = absurd (longer h.pieces (piece 2 (complaint word r)) (ap (λ (y : Outcome (Unit {0})). pieces_of y.0) is))
    by (Err (operand.End j), x) is = absurd (let bad : ◌≡◌ {A = Result (Unit {0} × Here) (Jump × Here)} (Err (End j, h)) (Ok (tt, h)) = ap (λ y. y.0) is in cc)

-- what is put behind what was read
put_behind : (o : Oracle) (word p old text : List ℕ) (body : Body) (u v : Workspace) → HasNoLinks o u → body ≡ Some old → append_to word p text body o u ≡ (Ok tt, v) → Holds v p (old ++ text)
unfolding named
put_behind o word p old text body u v none is e =
    let put_it : append_to word p text (Some old) o u ≡ (Ok tt, v) = ap (λ (b : Body). append_to word p text b o u) (sym is) ∙ e in
    put_holds p (old ++ text) o u v none (lifted (refused word) tt (put p (old ++ text)) o u v put_it)

module _ (o : Oracle) (f : OpenedFile) (old : List ℕ) (h : Here) (w v : Workspace) (none : HasNoLinks o w) where
  pub behind : (text : List ℕ) → Holds w f.path old → Ends o (appended f text) h w tt h v → Holds v f.path (old ++ text)
  unfolding append_some named action.done
  behind [] holds e =
      let still : w.changes ≡ v.changes = ap (λ (y : Tried). y.1.changes) (unrefused o f [] h w v e) in
      (holds.0, ap (λ (d : Changes). get d f.path) (sym still) ∙ holds.1 ∙ ap (λ (bytes : List ℕ). Some (Some (File bytes holds.0))) (sym (append-nil old)))
  behind (b ∷ bs) holds e =
      let a = got _ (append_to f.word f.path (b ∷ bs)) o w v tt (unrefused o f (b ∷ bs) h w v e) in
      let was = lifted (refused f.word) a.0 (content f.path) o w a.1 a.2 in
      let body = content_held o f.path old w a.1 a.0 none holds was in
      put_behind o f.word f.path old (b ∷ bs) a.0 a.1 v (none.0, subst AreBare (sym (reading_keeps f.path o w a.1 a.0 was)) none.1) body a.3

  pub behind_old : (text : List ℕ) (u : Workspace) → content f.path o w ≡ (Ok (Some old), u) → text ≢ [] → Ends o (appended f text) h w tt h v → Holds v f.path (old ++ text)
  unfolding append_some named
  behind_old [] u is some e = absurd (some refl)
  behind_old (b ∷ bs) u is some e =
      let a = got _ (append_to f.word f.path (b ∷ bs)) o w v tt (unrefused o f (b ∷ bs) h w v e) in
      let was = lifted (refused f.word) a.0 (content f.path) o w a.1 a.2 in
      let same : ◌≡◌ {A = Result Body DeskNo} (Ok a.0) (Ok (Some old)) = ap (λ (y : Result Body DeskNo × Workspace). y.0) (sym was ∙ is) in
      let is : ◌≡◌ {A = Body} a.0 (Some old) = cc in
      put_behind o f.word f.path old (b ∷ bs) a.0 a.1 v (none.0, subst AreBare (sym (reading_keeps f.path o w a.1 a.0 was)) none.1) is a.3
