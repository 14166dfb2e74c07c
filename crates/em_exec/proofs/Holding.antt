-- What a word's plan asks is what its next turn asks, and then what is left.
use Rattle.std.proofs.Common.{◌≡◌, ◌∙◌, ℕ, List, [], Result, Ok, Err, refl, ap}
use Rattle.em_view.specs.Actions.{Workspace, Oracle, Action, ◌>>=◌, done, fail, lift, spend, go_on}
use Rattle.em_view.specs.Steps as steps
use Rattle.em_view.specs.Steps.{and_then, own}
use Rattle.em_syntax.specs.declared.tree.Script.{Script}
use Rattle.em_fields.specs.declared.part.Part.{Part}
use Rattle.em_fields.specs.Parts.{fields}
use Rattle.em_word.specs.declared.fault.WordFault.{WordFault}
use Rattle.em_word.specs.declared.turn.Mode.{Mode}
use Rattle.em_word.specs.declared.turn.Mode.TheVariants as mode
use Rattle.em_word.specs.Ends.{of_desk}
use Rattle.em_word.specs.Talk.{Ends, Fails, Pays, Looks, Sets, Asks}
use Rattle.em_word.specs.Turns.{Stop, Finished, Matching, Setting, Asking, finish, turn, expanded, names_of_each}
use Rattle.em_word.specs.Values.{Plan}
use Rattle.em_command.specs.declared.here.Here.{Here}
use Rattle.em_command.specs.declared.here.Scene.{Scene}
use Rattle.em_command.specs.Jumps.{Acts}
use Rattle.em_command.specs.Heres.{assigned}
use Rattle.em_exec.specs.declared.expand.Expansion.{Expansion}
use Rattle.em_exec.specs.declared.expand.Expansion.TheVariants.{Fields, Pattern}
use Rattle.em_exec.specs.Words.{Deeper, worded, come_to, expansion_of, hold, output_if}

module _ (deeper : Deeper) (scene : Scene) where
  abbrev pub then_stop : Mode → Stop → Acts Expansion
  then_stop m (Finished names) = steps.done (Fields names)
  then_stop m (Matching gs) = steps.done (Pattern gs)
  then_stop m (Setting name value t) = and_then (own (assigned name value)) (λ u. hold deeper scene m t)
  then_stop m (Asking s k) = and_then (output_if deeper scene s) (λ text. hold deeper scene m (k text))

  -- names come to fields alone
  module _ (m : Mode) (h : Here) where
    by_names : (z : Result (List (List ℕ)) WordFault × Workspace) (o : Oracle)
        → (let y : Result Stop WordFault × Workspace = go_on z.0 z.1 (λ ns. done (Finished ns)) o in
        go_on (come_to y.0 h) y.1 (λ (p : Stop × Here). steps.done (expansion_of p.0) p.1) o ≡ go_on (come_to y.0 h) y.1 (λ (p : Stop × Here). then_stop m p.0 p.1) o)
    unfolding done
    by_names (Ok ns, w) o = refl
    by_names (Err f, w) o = refl

  ended : (m : Mode) (ps : List Part) → and_then (worded (λ h. finish m h.shell.cwd ps)) (λ s. steps.done (expansion_of s)) ≡ and_then (worded (λ h. finish m h.shell.cwd ps)) (then_stop m)
  unfolding and_then ◌>>=◌ worded done expanded
  ended mode.Fields ps = λ i h o w. by_names mode.Fields h (names_of_each h.shell.cwd [] (fields ps) o w) o i
  ended mode.Whole ps = refl
  ended mode.Pattern ps = refl

  module _ {A : Type 0} (k : A → Acts Expansion) (h : Here) where
    by_units : (z : Result (Unit {0}) WordFault × Workspace) (o : Oracle) (b : Here → Action WordFault A)
        → go_on (come_to z.0 h) z.1 (λ (p : Unit {0} × Here) o w. go_on (come_to (b p.1 o w).0 p.1) (b p.1 o w).1 (λ (q : A × Here). k q.0 q.1) o) o
        ≡ (let y : Result A WordFault × Workspace = go_on z.0 z.1 (λ u. b h) o in go_on (come_to y.0 h) y.1 (λ (q : A × Here). k q.0 q.1) o)
    by_units (Ok u, w) o b = refl
    by_units (Err f, w) o b = refl

  pub by_turns : (m : Mode) (t : Plan Script) → hold deeper scene m t ≡ and_then (worded (λ h. turn m t h.shell)) (then_stop m)
  unfolding and_then ◌>>=◌ worded fail done
  by_turns m (Ends ps) = ended m ps
  by_turns m (Fails f) = refl
  by_turns m (Pays n t) = ap (λ (x : Acts Expansion). and_then (worded (λ h. lift of_desk (spend n))) (λ u. x)) (by_turns m t)
      ∙ (λ i h o w. by_units (then_stop m) h (lift of_desk (spend n) o w) o (λ g. turn m t g.shell) i)
  by_turns m (Looks t) = λ i h. by_turns m (t h.shell) i h
  by_turns m (Sets name value t) = refl
  by_turns m (Asks s k) = refl
