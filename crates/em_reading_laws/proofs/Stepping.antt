-- Steps one after another, and what holds of the state behind them in any case.
--     done_then, regrouped     a value, and two steps taken together
--     same_then                the same steps behind a value
--     never                    an end with an error is none with a value
--     Keeps R m                from the state before to the one behind, R holds
use Rattle.std.proofs.Common.{◌≡◌, refl, ap, true, false, Result, Ok, Err}
use Rattle.std.specs.Prelude.{is_ok}
use Rattle.em_view.specs.Actions.{Action, Workspace, Oracle, go_on, ◌>>=◌, renamed}
use Rattle.em_view.specs.Steps.{Steps, and_then, done, refuse, own, below, with_state}
use Rattle.em_reading_laws.specs.Steps.{state_of}

module _ {S E : Type 0} where
  pub done_then : {A B : Type 0} (a : A) (k : A → Steps S E B) → and_then (done a) k ≡ k a
  unfolding and_then done ◌>>=◌
  done_then a k = refl

  pub regrouped : {A B C : Type 0} (m : Steps S E A) (k : A → Steps S E B) (l : B → Steps S E C) → and_then (and_then m k) l ≡ and_then m (λ a. and_then (k a) l)
  unfolding and_then ◌>>=◌
  regrouped {A} m k l = λ i. λ s o w. by_end (m s o w).0 (m s o w).1 o i
    where
      by_end : (x : Result (A × S) (E × S)) (w : Workspace) (o : Oracle) → go_on (go_on x w (λ p. k p.0 p.1) o).0 (go_on x w (λ p. k p.0 p.1) o).1 (λ p. l p.0 p.1) o ≡ go_on x w (λ p. and_then (k p.0) l p.1) o
      by_end (Ok a) w o = refl
      by_end (Err e) w o = refl

  pub same_then : {A B : Type 0} (m : Steps S E A) (k l : A → Steps S E B) → ((a : A) → k a ≡ l a) → and_then m k ≡ and_then m l
  same_then m k l h = λ i. and_then m (λ a. h a i)

pub never : {S E A : Type 0} (x : E × S) (y : A × S) (u v : Workspace) → ◌≡◌ {A = Result (A × S) (E × S) × Workspace} (Err x, u) (Ok y, v) → ⊥
never {S} {E} {A} x y u v h = let bad : false ≡ true = ap (λ (z : Result (A × S) (E × S) × Workspace). is_ok z.0) h in cc

-- ---- what holds of the state

pub record Keeps {S E A : Type 0} (R : S → S → Type 0) (m : Steps S E A) : Type 0 where
  pub kept : (s : S) (o : Oracle) (w : Workspace) → R s (state_of (m s o w).0)

module _ {S E : Type 0} {R : S → S → Type 0} where
  pub keeps_then : ((s t u : S) → R s t → R t u → R s u) → {A B : Type 0} {m : Steps S E A} (k : A → Steps S E B) → Keeps R m → ((a : A) → Keeps R (k a)) → Keeps R (and_then m k)
  unfolding and_then ◌>>=◌
  keeps_then trans {A} {B} {m} k first more = record { kept = λ s o w. by_end s o (m s o w).0 (m s o w).1 (first.kept s o w) }
    where
      by_end : (s : S) (o : Oracle) (x : Result (A × S) (E × S)) (v : Workspace) → R s (state_of x) → R s (state_of (go_on x v (λ p. k p.0 p.1) o).0)
      by_end s o (Ok p) v h = trans s p.1 (state_of (k p.0 p.1 o v).0) h ((more p.0).kept p.1 o v)
      by_end s o (Err p) v h = h

  pub keeps_done : ((s : S) → R s s) → {A : Type 0} (a : A) → Keeps {E = E} R (done a)
  unfolding done
  keeps_done same a = record { kept = λ s o w. same s }

  pub keeps_refuse : ((s : S) → R s s) → {A : Type 0} (e : E) → Keeps {A = A} R (refuse e)
  unfolding refuse
  keeps_refuse same e = record { kept = λ s o w. same s }

  pub keeps_own : {A : Type 0} (f : S → Result (A × S) (E × S)) → ((s : S) → R s (state_of (f s))) → Keeps R (own f)
  unfolding own
  keeps_own f h = record { kept = λ s o w. h s }

  pub keeps_below : ((s : S) → R s s) → {D A : Type 0} (f : D → E) (m : Action D A) → Keeps R (below f m)
  unfolding below
  keeps_below same {D} {A} f m = record { kept = λ s o w. by_end s (renamed f (m o w).0) }
    where
      by_end : (s : S) (r : Result A E) → R s (state_of (with_state r s))
      by_end s (Ok a) = same s
      by_end s (Err e) = same s
