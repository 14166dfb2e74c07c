-- Steps whose error is looked at.
--     tried_ok, tried_err      they gave a value; an error
use Rattle.std.proofs.Common.{◌≡◌, Bool, false, Result, Ok, Err, refl, ap}
use Rattle.em_base.specs.declared.memory.NoMemory.{NoMemory}
use Rattle.em_view.specs.Actions.{Workspace}
use Rattle.em_view.specs.Performs.{DeskState, Told}
use Rattle.em_view.specs.Steps.{Steps, Does}
use Rattle.em_submake.specs.Ways.{looked, tried}

module _ {V S E A : Type 0} {low : E → Bool} {free : NoMemory → Bool} {tells : V → Told} {old new : DeskState V} {s t : S} {m : Steps S E A} where
  pub tried_ok : {a : A} → Does low tells old new s t (Ok a) m → Does free tells old new s t (Ok (Ok a)) (tried m)
  unfolding tried
  tried_ok {a} p = record {
    performs = record {
      grows = p.performs.grows;
      plain = λ h o all. ap (λ (z : Result (A × S) (E × S) × Workspace). let x : Result (Result A E × S) (NoMemory × S) × Workspace = (looked z.0, z.1) in x) (p.performs.plain refl o all);
    };
  }

  pub tried_err : {e : E} → low e ≡ false → Does low tells old new s t (Err e) m → Does free tells old new s t (Ok (Err e)) (tried m)
  unfolding tried
  tried_err {e} plain p = record {
    performs = record {
      grows = p.performs.grows;
      plain = λ h o all. ap (λ (z : Result (A × S) (E × S) × Workspace). let x : Result (Result A E × S) (NoMemory × S) × Workspace = (looked z.0, z.1) in x) (p.performs.plain plain o all);
    };
  }
