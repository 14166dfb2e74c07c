-- The turns of a word's expansion.
use Rattle.std.proofs.Common.{◌≡◌, Result, Ok, Err, sym, subst}
use Rattle.std.specs.Prelude.{IsErrAnd, Option}
use Rattle.em_view.specs.Performs.{DeskState, Told}
use Rattle.em_view.specs.Steps.{Does}
use Rattle.em_word.specs.declared.expander.Expander.{Expander}
use Rattle.em_command.specs.declared.jump.Jump.{Jump}
use Rattle.em_command.specs.declared.here.Here.{Here}
use Rattle.em_command.specs.declared.here.Scene.{Scene}
use Rattle.em_command.specs.Jumps.{is_free}
use Rattle.em_exec.specs.declared.expand.Expansion.{Expansion}
use Rattle.em_exec.specs.Words.{Deeper}
use Rattle.em_exec.specs.Leads.{rest_of, Comes, Turned}

-- the same at a `?`
pub again_err : {V : Type 0} {tells : V → Told} {first here : DeskState V} {h t : Here} {e : Expander} {j : Jump} {r : Result Expansion Jump} (deeper : Deeper) (scene : Scene)
    → IsErrAnd r (λ x. x ≡ j) → Comes tells deeper scene first here h t e (Err j) → Does is_free tells first here h t r (rest_of deeper scene e)
again_err {r = Ok x} deeper scene is c = absurd is
again_err {tells} {first} {here} {h} {t} {e} {r = Err x} deeper scene is c = subst (λ (y : Jump). Does is_free tells first here h t (Err y) (rest_of deeper scene e)) (sym is) c.does

pub turned_err : {V : Type 0} {tells : V → Told} {first here : DeskState V} {h t : Here} {j : Jump} (deeper : Deeper) (scene : Scene) (old new : Expander) (r : Result (Option Expansion) Jump)
    → IsErrAnd r (λ x. x ≡ j) → (let e : Result Expansion Jump = Err j in Does is_free tells first here h t e (rest_of deeper scene old)) → Turned tells deeper scene first here h t old new r
turned_err deeper scene old new (Ok x) is d = absurd is
turned_err {tells} {first} {here} {h} {t} {j} deeper scene old new (Err x) is d =
    subst (λ (y : Jump). Comes tells deeper scene first here h t old (Err y)) (sym is) (record { does = d })
