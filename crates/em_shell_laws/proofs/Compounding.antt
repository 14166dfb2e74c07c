-- Compound commands with redirections.
use Rattle.std.proofs.Common.{◌≡◌, ◌≢◌, ℕ, List, [], ◌∷◌, ◌++◌, map, Option, Some, None, Result, Ok, Err, refl, sym, ap, subst, ◌∙◌}
use Rattle.em_view.specs.declared.done.Piece.{Piece}
use Rattle.em_view.specs.declared.done.ExecNo.{ExecNo}
use Rattle.em_view.specs.Actions.{Oracle, Workspace, ◌>>=◌, go_on}
use Rattle.em_view.specs.Rows.{content}
use Rattle.em_view.specs.Steps.{and_then, done, refuse, own, with_state}
use Rattle.em_utility.specs.declared.operand.OperandNo.{OperandNo}
use Rattle.em_utility.specs.declared.operand.OperandNo.TheVariants as operand
use Rattle.em_syntax.specs.declared.tree.Compound.{Compound}
use Rattle.em_syntax.specs.declared.tree.Redirect.{Redirect}
use Rattle.em_command.specs.declared.jump.Jump.{Jump}
use Rattle.em_command.specs.declared.jump.Jump.TheVariants.{Exit, Break, Continue, End}
use Rattle.em_command.specs.declared.here.Here.{Here}
use Rattle.em_command.specs.declared.here.Scene.{Scene}
use Rattle.em_command.specs.declared.streams.OpenedFile.{OpenedFile}
use Rattle.em_command.specs.declared.streams.Streams.{Streams}
use Rattle.em_command.specs.Jumps.{Acts, looked}
use Rattle.em_command.specs.Heres.{piece, written, complain}
use Rattle.em_command.specs.Streams.{around}
use Rattle.em_command.specs.Acting.{jumped}
use Rattle.em_command.specs.Delivering.{handed, text_for, append, told, appended, delivered}
use Rattle.em_exec.specs.Copies.{Ended, after, seen, looked_at, unwritten, put_back, collected}
use Rattle.em_exec.specs.Words.{Deeper}
use Rattle.em_exec.specs.Running.{redirect_one, redirects, if_some, body_of, has_no_end, handing, passed_on, within_streams, routed, compound_of}
use Rattle.em_shell_laws.specs.Ends.{Ends, Leaves, Comes, HasEnd}
use Rattle.em_shell_laws.specs.Pipes.{said_on, beside}
use Rattle.em_shell_laws.specs.Redirections.{Empties, Finds, into, HasNoLinks, Holds}
use Rattle.em_shell_laws.proofs.Going.{Outcome, then_on, nothing_more}
use Rattle.em_shell_laws.proofs.Redirecting.{writes, appends, alone, into_handed, into_texts}
use Rattle.em_shell_laws.proofs.Writing.{behind, behind_old}

-- it is handed on, and the text for its file is appended
module _ (f : OpenedFile) (ps : List Piece) (o : Oracle) (h : Here) (w : Workspace) where
  abbrev passed : Here
  passed = written (map (λ p. piece 2 p.text) (beside 1 ps)) h

  one_file : delivered (into around f) ps h o w ≡ appended f (said_on 1 ps) passed o w
  unfolding delivered and_then ◌>>=◌ own done
  one_file =
      ap (λ (qs : List Piece). and_then (appended f (text_for (into around f) 0 ps)) (λ u. done tt) (written qs h) o w) (into_handed f ps)
      ∙ ap (λ (text : List ℕ). and_then (appended f text) (λ u. done tt) passed o w) (into_texts f ps)
      ∙ nothing_more (appended f (said_on 1 ps)) passed o w

-- ---- compounds

module _ (deeper : Deeper) (scene : Scene) (o : Oracle) (c : Compound) (rs : List Redirect) (s : Streams) (h t k : Here) (w v x : Workspace) (opened : Ends o (redirects deeper scene rs around) h w (Some s) t v) where
  abbrev inside : Acts (Unit {0})
  inside = body_of deeper (within_streams s scene) c

  abbrev back : Here
  back = record k { pieces = t.pieces }

  abbrev passing : Outcome (Unit {0}) → Outcome (Unit {0})
  passing z = (let y = seen (put_back t) z.0 in passed_on s y.0 y.1 o z.1)

  by_body : (z : Outcome (Unit {0})) → inside (unwritten t) o v ≡ z → compound_of deeper scene c rs h o w ≡ passing z
  unfolding compound_of routed collected looked_at and_then ◌>>=◌
  by_body z e = then_on (redirects deeper scene rs around) (λ r. if_some r (routed deeper scene c)) o (Some s) opened ∙ ap passing e

  module _ (z : Here) (y : Workspace) where
    pub delivers : (ended : Result (Unit {0}) Jump) → Comes o inside (unwritten t) v ended k x → HasEnd ended → Ends o (delivered s k.pieces) back x tt z y → Comes o (compound_of deeper scene c rs) h w ended z y
    unfolding done refuse
    delivers (Ok tt) e has f = by_body (Ok (tt, k), x) e ∙ then_on (delivered s k.pieces) (λ n. jumped (Ok tt)) o tt f
    delivers (Err Exit) e has f = by_body (Err (Exit, k), x) e ∙ then_on (delivered s k.pieces) (λ n. jumped (Err Exit)) o tt f
    delivers (Err Break) e has f = by_body (Err (Break, k), x) e ∙ then_on (delivered s k.pieces) (λ n. jumped (Err Break)) o tt f
    delivers (Err Continue) e has f = by_body (Err (Continue, k), x) e ∙ then_on (delivered s k.pieces) (λ n. jumped (Err Continue)) o tt f
    delivers (Err (End j)) e has f = absurd (has j refl)

  pub no_end : (j : ExecNo) → Leaves o inside (unwritten t) v (End j) k x → Leaves o (compound_of deeper scene c rs) h w (End j) (record k { pieces = t.pieces ++ handed s k.pieces }) x
  unfolding own refuse and_then ◌>>=◌
  no_end j e = by_body (Err (End j, k), x) e

  as_ended : (ended : Result (Unit {0}) Jump) → Comes o inside (unwritten t) v ended k x → HasEnd ended → compound_of deeper scene c rs h o w ≡ and_then (delivered s k.pieces) (λ u. jumped ended) back o x
  as_ended (Ok u) e has = by_body (Ok (u, k), x) e
  as_ended (Err Exit) e has = by_body (Err (Exit, k), x) e
  as_ended (Err Break) e has = by_body (Err (Break, k), x) e
  as_ended (Err Continue) e has = by_body (Err (Continue, k), x) e
  as_ended (Err (End j)) e has = absurd (has j refl)

-- ---- with one file

after_with : (r : Result (Unit {0}) Jump) (t : Here) → after (with_state r t) ≡ t
after_with (Ok u) t = refl
after_with (Err j) t = refl

jumped_with : (r : Result (Unit {0}) Jump) (t : Here) (o : Oracle) (w : Workspace) → jumped r t o w ≡ (with_state r t, w)
unfolding done refuse
jumped_with (Ok tt) t o w = refl
jumped_with (Err j) t o w = refl

abbrev jump_in : Ended → Result (Unit {0}) Jump
jump_in (Ok p) = Ok tt
jump_in (Err p) = Err p.0

isnt_end : (r : Result (Unit {0}) Jump) (j : ExecNo) (g z : Here) → HasEnd r → ◌≡◌ {A = Ended} (Err (End j, g)) (with_state r z) → ⊥
isnt_end (Ok u) j g z has e = (let bad : ◌≡◌ {A = Result (Unit {0}) Jump} (Err (End j)) (Ok tt) = ap jump_in e in cc)
isnt_end (Err i) j g z has e = has j (sym (ap jump_in e))

abbrev Tried : Type 0
Tried = Result (Unit {0}) OperandNo × Workspace

module _ (ended : Result (Unit {0}) Jump) (has : HasEnd ended) (o : Oracle) (g z : Here) (y : Workspace) where
  abbrev told_by : Tried → Outcome (Unit {0})
  told_by a = (told a.0 g, a.1)

  abbrev jumping : Outcome (Unit {0}) → Outcome (Unit {0})
  jumping d = go_on d.0 d.1 (λ (p : Unit {0} × Here). jumped ended p.1) o

  abbrev valued : Outcome (Unit {0}) → Outcome (Unit {0})
  valued d = (Ok (tt, after d.0), d.1)

  valued_at : (t : Here) (q : Workspace) → (let d : Outcome (Unit {0}) = (with_state ended t, q) in valued d) ≡ (Ok (tt, t), q)
  valued_at t q = ap (λ (u : Here). let d : Outcome (Unit {0}) = (Ok (tt, u), q) in d) (after_with ended t)

  -- it has come to this state and workspace
  at_end : (t : Here) (q : Workspace) → jumped ended t o q ≡ (with_state ended z, y) → (let d : Outcome (Unit {0}) = (Ok (tt, t), q) in d) ≡ (Ok (tt, z), y)
  at_end t q e = sym (valued_at t q) ∙ ap valued (sym (jumped_with ended t o q) ∙ e) ∙ valued_at z y

  was_told : (a : Tried) → jumping (told_by a) ≡ (with_state ended z, y) → told_by a ≡ (Ok (tt, z), y)
  was_told (Ok u, q) e = at_end g q e
  was_told (Err (operand.Fault word r), q) e = at_end (complain word r g) q e
  was_told (Err (operand.End j), q) e = absurd (isnt_end ended j g z has (ap (λ (d : Outcome (Unit {0})). d.0) e))

module _ (deeper : Deeper) (scene : Scene) (o : Oracle) (c : Compound) (r : Redirect) (f : OpenedFile) (h t k : Here) (w v x y : Workspace) (ended : Result (Unit {0}) Jump)
    (opened : Ends o (redirect_one deeper scene r around) h w (Some (into around f)) t v)
    (comes : Comes o (body_of deeper (within_streams (into around f) scene) c) (unwritten t) v ended k x) (has : HasEnd ended) where
  abbrev text : List ℕ
  text = said_on 1 k.pieces

  abbrev left_here : Here
  left_here = passed f k.pieces o (record k { pieces = t.pieces }) x

  was_appended : Comes o (compound_of deeper scene c (r ∷ [])) h w ended left_here y → Ends o (appended f text) left_here x tt left_here y
  unfolding and_then ◌>>=◌ appended looked
  was_appended e =
      let file = one_file f k.pieces o (record k { pieces = t.pieces }) x in
      let whole = as_ended deeper scene o c (r ∷ []) (into around f) h t k w v x (alone deeper scene o r around (into around f) h t w v opened) ended comes has in
      was_told ended has o left_here left_here y (append f text o x) (ap (jumping ended has o left_here left_here y) (sym file) ∙ sym whole ∙ e)

pub write : (deeper : Deeper) (scene : Scene) (o : Oracle) (c : Compound) (r : Redirect) (f : OpenedFile) (h t k : Here) (w v x y : Workspace) (ended : Result (Unit {0}) Jump) → Empties deeper scene o r h w f t v
    → Comes o (body_of deeper (within_streams (into around f) scene) c) (unwritten t) v ended k x → HasEnd ended → HasNoLinks o x → Holds x f.path []
    → Comes o (compound_of deeper scene c (r ∷ [])) h w ended (record k { pieces = t.pieces ++ map (λ p. piece 2 p.text) (beside 1 k.pieces) }) y → Holds y f.path (said_on 1 k.pieces)
write deeper scene o c r f h t k w v x y ended empties comes has none holds e =
    behind o f [] (passed f k.pieces o (record k { pieces = t.pieces }) x) x y none (said_on 1 k.pieces) holds
    (was_appended deeper scene o c r f h t k w v x y ended (writes deeper scene o r around f h t w v empties) comes has e)

pub append_old : (deeper : Deeper) (scene : Scene) (o : Oracle) (c : Compound) (r : Redirect) (f : OpenedFile) (old : List ℕ) (h t k : Here) (w v x u y : Workspace) (ended : Result (Unit {0}) Jump) → Finds deeper scene o r h w f t v
    → Comes o (body_of deeper (within_streams (into around f) scene) c) (unwritten t) v ended k x → HasEnd ended → HasNoLinks o x → content f.path o x ≡ (Ok (Some old), u) → said_on 1 k.pieces ≢ []
    → Comes o (compound_of deeper scene c (r ∷ [])) h w ended (record k { pieces = t.pieces ++ map (λ p. piece 2 p.text) (beside 1 k.pieces) }) y → Holds y f.path (old ++ said_on 1 k.pieces)
append_old deeper scene o c r f old h t k w v x u y ended finds comes has none was some e =
    behind_old o f old (passed f k.pieces o (record k { pieces = t.pieces }) x) x y none (said_on 1 k.pieces) u was some
    (was_appended deeper scene o c r f h t k w v x y ended (appends deeper scene o r around f h t w v finds) comes has e)
