-- Pipelines joined by `&&` and `||`.
use Rattle.std.proofs.Common.{◌≡◌, ◌≢◌, ℕ, Bool, true, false, not, List, [], ◌∷◌, ◌++◌, Ok, Err, refl, sym, ap, ◌∙◌, ne_eqb}
use Rattle.std.specs.Prelude.{◌==◌}
use Rattle.em_view.specs.Actions.{Oracle, Workspace, ◌>>=◌}
use Rattle.em_view.specs.Steps.{and_then, done}
use Rattle.em_syntax.specs.declared.tree.AndOr.{AndOr, out-AndOr}
use Rattle.em_syntax.specs.declared.tree.Joined.{Joined, out-Joined}
use Rattle.em_syntax.specs.declared.tree.Pipeline.{Pipeline}
use Rattle.em_command.specs.declared.jump.Jump.{Jump}
use Rattle.em_command.specs.declared.here.Here.{Here}
use Rattle.em_command.specs.declared.here.Scene.{Scene}
use Rattle.em_command.specs.Jumps.{Acts}
use Rattle.em_exec.specs.Words.{Deeper}
use Rattle.em_exec.specs.Running.{pipeline_of, goes_with, if_goes, joined_one, joined, and_or_of}
use Rattle.em_shell_laws.specs.Ends.{Ends, Leaves}
use Rattle.em_shell_laws.specs.Lists.{IsWith}
use Rattle.em_shell_laws.proofs.Going.{Outcome, then_on, left_out, alike, assoc, nothing_more}

module _ (deeper : Deeper) (scene : Scene) (o : Oracle) where
  abbrev one : Joined → Acts (Unit {0})
  one j = joined_one deeper scene j

  abbrev list : List Joined → Acts (Unit {0})
  list js = joined deeper scene js

  joined_behind : (js : List Joined) (j : Joined) (h : Here) (w : Workspace) → list (js ++ j ∷ []) h o w ≡ and_then (list js) (λ u. one j) h o w
  unfolding and_then ◌>>=◌ done
  joined_behind [] j h w = nothing_more (one j) h o w
  joined_behind (i ∷ js) j h w =
      alike (one i) (λ u. list (js ++ j ∷ [])) (λ u. and_then (list js) (λ x. one j)) h o w (λ u t v e. joined_behind js j t v)
      ∙ sym (assoc (one i) (λ u. list js) (λ x. one j) o h w)

  pub alone : (a : AndOr) (h : Here) (w : Workspace) → (out-AndOr a).rest.items ≡ [] → and_or_of deeper scene a h o w ≡ pipeline_of deeper scene (out-AndOr a).first h o w
  unfolding and_or_of
  alone a h w none =
      let first = pipeline_of deeper scene (out-AndOr a).first in
      ap (λ (js : List Joined). and_then first (λ u. list js) h o w) none ∙ nothing_more first h o w

  module _ (a b : AndOr) (j : Joined) (h : Here) (w : Workspace) (is : IsWith a j b) where
    behind : and_or_of deeper scene b h o w ≡ and_then (and_or_of deeper scene a) (λ u. one j) h o w
    unfolding and_or_of
    behind =
        let first = (out-AndOr a).first in
        let rest = (out-AndOr a).rest.items in
        ap (λ (p : Pipeline). and_then (pipeline_of deeper scene p) (λ u. list (out-AndOr b).rest.items) h o w) is.0
        ∙ ap (λ (js : List Joined). and_then (pipeline_of deeper scene first) (λ u. list js) h o w) is.1
        ∙ alike (pipeline_of deeper scene first) (λ u. list (rest ++ j ∷ [])) (λ u. and_then (list rest) (λ x. one j)) h o w (λ u t v e. joined_behind rest j t v)
        ∙ sym (assoc (pipeline_of deeper scene first) (λ u. list rest) (λ x. one j) o h w)

    pub left : (t : Here) (v : Workspace) (why : Jump) → Leaves o (and_or_of deeper scene a) h w why t v → Leaves o (and_or_of deeper scene b) h w why t v
    left t v why e = behind ∙ left_out (and_or_of deeper scene a) (λ u. one j) o why e

    module _ (t : Here) (v : Workspace) (e : Ends o (and_or_of deeper scene a) h w tt t v) where
      abbrev next : Bool → Outcome (Unit {0})
      next goes = if_goes goes (pipeline_of deeper scene (out-Joined j).next) t o v

      by_status : and_or_of deeper scene b h o w ≡ next (goes_with (out-Joined j).and t.shell.status)
      unfolding joined_one
      by_status = behind ∙ then_on (and_or_of deeper scene a) (λ u. one j) o tt e

      by_and : (is_and : (out-Joined j).and ≡ true) → and_or_of deeper scene b h o w ≡ next (t.shell.status == 0)
      by_and is_and = by_status ∙ ap (λ (x : Bool). next (goes_with x t.shell.status)) is_and

      by_or : (is_or : (out-Joined j).and ≡ false) → and_or_of deeper scene b h o w ≡ next (not (t.shell.status == 0))
      by_or is_or = by_status ∙ ap (λ (x : Bool). next (goes_with x t.shell.status)) is_or

      pub and_zero : (out-Joined j).and ≡ true → t.shell.status ≡ 0 → and_or_of deeper scene b h o w ≡ pipeline_of deeper scene (out-Joined j).next t o v
      and_zero is_and zero = by_and is_and ∙ ap (λ (n : ℕ). next (n == 0)) zero

      pub and_other : (out-Joined j).and ≡ true → t.shell.status ≢ 0 → Ends o (and_or_of deeper scene b) h w tt t v
      unfolding done
      and_other is_and some = by_and is_and ∙ ap next (ne_eqb t.shell.status 0 some)

      pub or_zero : (out-Joined j).and ≡ false → t.shell.status ≡ 0 → Ends o (and_or_of deeper scene b) h w tt t v
      unfolding done
      or_zero is_or zero = by_or is_or ∙ ap (λ (n : ℕ). next (not (n == 0))) zero

      pub or_other : (out-Joined j).and ≡ false → t.shell.status ≢ 0 → and_or_of deeper scene b h o w ≡ pipeline_of deeper scene (out-Joined j).next t o v
      or_other is_or some = by_or is_or ∙ ap (λ (x : Bool). next (not x)) (ne_eqb t.shell.status 0 some)
