-- What is done over a desk to a state that the caller lends, such as an output, what was said, a
-- shell or a reading. The state comes back beside a value and beside an error, since what was made
-- before a refusal stands.
--     Steps S E A             from a state an action, whose value or error comes with the state after it
--     and_then m k            one after another; `Do.antt` names it ◌>>=◌, for `do` blocks
--     done a, refuse e        a value, an error; the state stays
--     own f                   what is done to the state alone
--     below f m               what a lower layer does over the desk alone, with its errors under their names in this one
--     within get put f m      steps on a part of the state, lent to a lower layer
--     Does ..                 from the old desk and state to the new ones the steps were done
--     Works ..                the same without a desk
use Rattle.std.specs.Prelude.{◌≡◌, Bool, false, Result, Ok, Err}
use Rattle.em_view.specs.Actions.{Action, ◌>>=◌, renamed}
use Rattle.em_view.specs.Performs.{DeskState, Told, is_free, Performs}

abbrev pub Steps : Type 0 → Type 0 → Type 0 → Type 0
Steps S E A = S → Action (E × S) (A × S)

-- a result with the state beside it, also beside an error
abbrev pub with_state : {S E A : Type 0} → Result A E → S → Result (A × S) (E × S)
with_state (Ok a) s = Ok (a, s)
with_state (Err e) s = Err (e, s)

unfoldable pub and_then : {S E A B : Type 0} → Steps S E A → (A → Steps S E B) → Steps S E B
and_then m k = λ s. m s >>= (λ p. k p.0 p.1)

unfoldable pub done : {S E A : Type 0} → A → Steps S E A
done a = λ s o w. (Ok (a, s), w)

unfoldable pub refuse : {S E A : Type 0} → E → Steps S E A
refuse e = λ s o w. (Err (e, s), w)

unfoldable pub own : {S E A : Type 0} → (S → Result (A × S) (E × S)) → Steps S E A
own f = λ s o w. (f s, w)

unfoldable pub below : {S D E A : Type 0} → (D → E) → Action D A → Steps S E A
below f m = λ s o w. (with_state (renamed f (m o w).0) s, (m o w).1)

abbrev pub with_part : {S T D E A : Type 0} → (S → T → S) → (D → E) → S → Result (A × T) (D × T) → Result (A × S) (E × S)
with_part put f s (Ok p) = Ok (p.0, put s p.1)
with_part put f s (Err p) = Err (f p.0, put s p.1)

unfoldable pub within : {S T D E A : Type 0} → (S → T) → (S → T → S) → (D → E) → Steps T D A → Steps S E A
within get put f m = λ s o w. (with_part put f s (m (get s) o w).0, (m (get s) o w).1)

pub record Does {V S E A : Type 0} (free : E → Bool) (tells : V → Told) (old new : DeskState V) (before after : S) (result : Result A E) (steps : Steps S E A) : Type 0 where
  pub performs : Performs (λ x. free x.0) tells old new (with_state result after) (steps before)

abbrev pub Works : {S E A : Type 0} → (E → Bool) → S → S → Result A E → (S → Result (A × S) (E × S)) → Type 0
Works free before after result f = is_free free result ≡ false → with_state result after ≡ f before
