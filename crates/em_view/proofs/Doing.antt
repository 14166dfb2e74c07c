-- How a proof of steps is put together: the lemmas of Performing, with a state beside the result.
--     then_s, exit_s, leave_s     a step gave a value; an error; an error at a `?`
--     finish_s, refused_s         the end with a value; a refusal that a function made
--     owned_s, gave_s             what a function did to the state alone; a value that was worked out without the desk
--     lost_s, out_s               memory ran out, behind a step or before any
--     below_ok, below_err, within_ok, within_err      a call of a lower layer: the desk's, and one on a part of the state
--     more_s, stop_s, end_s       the turns of a loop whose invariant is in continuation form
use Rattle.std.proofs.Common.{◌≡◌, ℕ, Bool, true, false, Result, Ok, Err, refl, sym, ap, subst, ◌∙◌, arith}
use Rattle.std.specs.Prelude.{IsErrAnd}
use Rattle.em_view.specs.Actions.{Workspace, Oracle, Action, renamed}
use Rattle.em_view.specs.Performs.{DeskState, Told, is_free, Performs}
use Rattle.em_view.specs.Steps.{Steps, Does, with_state, and_then, done, refuse, own, below, with_part, within}
use Rattle.em_view.proofs.Performing.{itself, then, exit, act, pure}

module _ {V S E : Type 0} {free : E → Bool} {tells : V → Told} where
  module _ {A B : Type 0} {old mid new : DeskState V} {s t u : S} {a : A} {r : Result B E} {m : Steps S E A} (k : A → Steps S E B) where
    pub then_s : Does free tells old mid s t (Ok a) m → Does free tells mid new t u r (k a) → Does free tells old new s u r (and_then m k)
    unfolding and_then
    then_s p q = record { performs = then (λ x. k x.0 x.1) p.performs q.performs }

  module _ {A B : Type 0} {old new : DeskState V} {s u : S} {e : E} {m : Steps S E A} (k : A → Steps S E B) where
    pub exit_s : Does free tells old new s u (Err e) m → Does free tells old new s u (Err e) (and_then m k)
    unfolding and_then
    exit_s p = record { performs = exit (λ x. k x.0 x.1) p.performs }

    pub leave_s : {r : Result B E} → IsErrAnd r (λ x. x ≡ e) → Does free tells old new s u (Err e) m → Does free tells old new s u r (and_then m k)
    leave_s {r = Ok b} is p = absurd is
    leave_s {r = Err x} is p = subst (λ (y : E). Does free tells old new s u (Err y) (and_then m k)) (sym is) (exit_s p)

  pub finish_s : {A : Type 0} {d : DeskState V} {s : S} {a : A} → Does free tells d d s s (Ok a) (done a)
  unfolding done
  finish_s = record { performs = pure (λ o. refl) }

  pub refused_s : {A : Type 0} {d : DeskState V} {s : S} {f : E} (e : E) → (free f ≡ false → f ≡ e) → Does free tells d d s s (Err f) (refuse {A = A} e)
  unfolding refuse
  refused_s {A} {d} {s} e h = record { performs = act refl refl itself (omega arith) (λ n o. ap (λ (y : E). let z : Result (A × S) (E × S) = Err (y, s) in (z, d.work)) (sym (h n))) }

  pub owned_s : {A : Type 0} {d : DeskState V} {s t : S} {r : Result A E} (f : S → Result (A × S) (E × S)) → (is_free free r ≡ false → with_state r t ≡ f s) → Does free tells d d s t r (own f)
  unfolding own
  owned_s {A} {d} {r = Ok a} f h = record { performs = act refl refl itself (omega arith) (λ n o. ap (λ (z : Result (A × S) (E × S)). (z, d.work)) (sym (h refl))) }
  owned_s {A} {d} {r = Err e} f h = record { performs = act refl refl itself (omega arith) (λ n o. ap (λ (z : Result (A × S) (E × S)). (z, d.work)) (sym (h n))) }

  pub gave_s : {A : Type 0} {d : DeskState V} {s : S} {r : Result A E} (a : A) → (is_free free r ≡ false → r ≡ Ok a) → Does free tells d d s s r (done a)
  unfolding done
  gave_s {A} {d} {s} {r = Ok x} a h = record { performs = act refl refl itself (omega arith) (λ n o. ap (λ (y : Result A E). let z : Result (A × S) (E × S) = with_state y s in (z, d.work)) (sym (h refl))) }
  gave_s {A} {d} {s} {r = Err e} a h = record { performs = act refl refl itself (omega arith) (λ n o. ap (λ (y : Result A E). let z : Result (A × S) (E × S) = with_state y s in (z, d.work)) (sym (h n))) }

  pub lost_s : {B C T F : Type 0} {any : F → Bool} {old mid : DeskState V} {s u : S} {x y : T} {q : Result C F} {m : Steps T F C} {r : Result B E} {n : Steps S E B} (e : E)
      → free e ≡ true → IsErrAnd r (λ x. x ≡ e) → Does any tells old mid x y q m → Does free tells old mid s u r n
  lost_s {r = Ok b} e h is p = absurd is
  lost_s {r = Err x} e h is p = record { performs = record { grows = p.performs.grows; plain = λ k. absurd (let no : true ≡ false = sym (ap free is ∙ h) ∙ k in cc) } }

  pub out_s : {B : Type 0} {d : DeskState V} {s u : S} {r : Result B E} {n : Steps S E B} (e : E) → free e ≡ true → IsErrAnd r (λ x. x ≡ e) → Does free tells d d s u r n
  out_s {B} {d} {s} e h is = lost_s e h is (finish_s {d = d} {s = s} {a = true})

-- ---- lower layers

module _ {V S D E A : Type 0} {low : D → Bool} {free : E → Bool} {tells : V → Told} {old new : DeskState V} {s : S} {m : Action D A} (f : D → E) where
  pub below_ok : {a : A} → Performs low tells old new (Ok a) m → Does free tells old new s s (Ok a) (below f m)
  unfolding below
  below_ok {a} p = record {
    performs = record {
      grows = p.grows;
      plain = λ h o all. ap (λ (z : Result A D × Workspace). let x : Result (A × S) (E × S) × Workspace = (with_state (renamed f z.0) s, z.1) in x) (p.plain refl o all);
    };
  }

  pub below_err : {e : D} {g : E} → ((x : D) → free (f x) ≡ low x) → (free g ≡ false → g ≡ f e) → Performs low tells old new (Err e) m → Does free tells old new s s (Err g) (below f m)
  unfolding below
  below_err {e} {g} same is p =
      let given : free g ≡ false → low e ≡ false = λ h. sym (same e) ∙ ap free (sym (is h)) ∙ h in
      record {
        performs = record {
          grows = p.grows;
          plain = λ h o all. ap (λ (z : Result A D × Workspace). let x : Result (A × S) (E × S) × Workspace = (with_state (renamed f z.0) s, z.1) in x) (p.plain (given h) o all)
              ∙ ap (λ (y : E). let x : Result (A × S) (E × S) × Workspace = (Err (y, s), new.work) in x) (sym (is h));
        };
      }

module _ {V S T D E A : Type 0} {low : D → Bool} {free : E → Bool} {tells : V → Told} {old new : DeskState V} (get : S → T) (put : S → T → S) (f : D → E) (m : Steps T D A) (s : S) {t : T} where
  pub within_ok : {a : A} → Does low tells old new (get s) t (Ok a) m → Does free tells old new s (put s t) (Ok a) (within get put f m)
  unfolding within
  within_ok {a} q = let p = q.performs in record {
    performs = record {
      grows = p.grows;
      plain = λ h o all. ap (λ (z : Result (A × T) (D × T) × Workspace). let x : Result (A × S) (E × S) × Workspace = (with_part put f s z.0, z.1) in x) (p.plain refl o all);
    };
  }

  pub within_err : {e : D} {g : E} → ((x : D) → free (f x) ≡ low x) → (free g ≡ false → g ≡ f e) → Does low tells old new (get s) t (Err e) m → Does free tells old new s (put s t) (Err g) (within get put f m)
  unfolding within
  within_err {e} {g} same is q =
      let p = q.performs in
      let given : free g ≡ false → low e ≡ false = λ h. sym (same e) ∙ ap free (sym (is h)) ∙ h in
      record {
        performs = record {
          grows = p.grows;
          plain = λ h o all. ap (λ (z : Result (A × T) (D × T) × Workspace). let x : Result (A × S) (E × S) × Workspace = (with_part put f s z.0, z.1) in x) (p.plain (given h) o all)
              ∙ ap (λ (y : E). let x : Result (A × S) (E × S) × Workspace = (Err (y, put s t), new.work) in x) (sym (is h));
        };
      }

-- ---- loops

-- whatever goes on with the rest from this desk and state goes on with the whole from the first
-- ones
abbrev pub Goes : {V S E A : Type 0} → (E → Bool) → (V → Told) → DeskState V → DeskState V → S → S → Steps S E A → Steps S E A → Type 0
Goes {V} {S} {E} {A} free tells first here s t whole rest = (new : DeskState V) (u : S) (r : Result A E) → Does free tells here new t u r rest → Does free tells first new s u r whole

module _ {V S E A B : Type 0} {free : E → Bool} {tells : V → Told} {first here next : DeskState V} {s t u : S} {whole : Steps S E B} {m : Steps S E A} (k : A → Steps S E B) where
  pub more_s : {a : A} → Goes free tells first here s t whole (and_then m k) → Does free tells here next t u (Ok a) m → Goes free tells first next s u whole (k a)
  more_s inv p new v r q = inv new v r (then_s k p q)

  pub stop_s : {r : Result B E} {e : E} → Goes free tells first here s t whole (and_then m k) → IsErrAnd r (λ x. x ≡ e) → Does free tells here next t u (Err e) m → Does free tells first next s u r whole
  stop_s {r} inv is p = inv next u r (leave_s k is p)

pub end_s : {V S E B : Type 0} {free : E → Bool} {tells : V → Told} {first here new : DeskState V} {s t u : S} {whole rest : Steps S E B} {r : Result B E} → Goes free tells first here s t whole rest → Does free tells here new t u r rest
    → Does free tells first new s u r whole
end_s {new} {u} {r} inv p = inv new u r p
