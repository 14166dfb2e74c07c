-- Turns as a caller has them.
use Rattle.std.proofs.Common.{◌≡◌, refl, sym, subst}
use Rattle.std.specs.Prelude.{Result, Ok, Err}
use Rattle.std.specs.Result.{IsErrAnd}
use Rattle.em_view.specs.Actions.{Action}
use Rattle.em_view.specs.Performs.{DeskState, Told, Performs}
use Rattle.em_view.proofs.Performing.{ran_out}
use Rattle.em_word.specs.declared.fault.WordFault.{WordFault}
use Rattle.em_word.specs.declared.fault.WordFault.TheVariants as fault
use Rattle.em_word.specs.declared.turn.WordTurn.{WordTurn}
use Rattle.em_word.specs.declared.expander.Expander.{Expander}
use Rattle.em_word.specs.Ends.{is_want}
use Rattle.em_word.specs.Turns.{Stop}
use Rattle.em_word.specs.Held.{seen}

module _ {V : Type 0} {tells : V → Told} {m : Action WordFault Stop} (e : Expander) where
  pub seen_left : {old new : DeskState V} {f : WordFault} (r : Result WordTurn WordFault) → IsErrAnd r (λ x. x ≡ f) → Performs is_want tells old new (Err f) m → Performs is_want tells old new (seen e r) m
  seen_left (Ok t) is p = absurd is
  seen_left {old} {new} {f} (Err x) is p = subst (λ y. Performs is_want tells old new (Err y) m) (sym is) p

  pub seen_lost : {d : DeskState V} (r : Result WordTurn WordFault) → IsErrAnd r (λ x. x ≡ fault.NoMemory) → Performs is_want tells d d (seen e r) m
  seen_lost r is = seen_left r is (ran_out {r = Err fault.NoMemory} fault.NoMemory refl refl)
