-- Steps one after another, where it is known how the first ones come out.
--     then_on, left_out      they have come to their end; they have left out what follows
--     alike                  what follows matters only where they come to
--     assoc, nothing_more    how blocks of steps are put together
--     got, lifted            what actions have done that came to a value
use Rattle.std.proofs.Common.{◌≡◌, Result, Ok, Err, refl, ap}
use Rattle.em_view.specs.Actions as action
use Rattle.em_view.specs.Actions.{Oracle, Workspace, Action, go_on, ◌>>=◌, renamed, lift}
use Rattle.em_view.specs.Steps.{and_then, done}
use Rattle.em_command.specs.declared.jump.Jump.{Jump}
use Rattle.em_command.specs.declared.here.Here.{Here}
use Rattle.em_command.specs.Jumps.{Acts}
use Rattle.em_shell_laws.specs.Ends.{Ends, Leaves}

abbrev pub Outcome : Type 0 → Type 0
Outcome A = Result (A × Here) (Jump × Here) × Workspace

module _ {A B : Type 0} (m : Acts A) (k : A → Acts B) (o : Oracle) {h t : Here} {w v : Workspace} where
  pub then_on : (a : A) → Ends o m h w a t v → and_then m k h o w ≡ k a t o v
  unfolding and_then ◌>>=◌
  then_on a e = ap (λ (z : Outcome A). go_on z.0 z.1 (λ (p : A × Here). k p.0 p.1) o) e

  pub left_out : (j : Jump) → Leaves o m h w j t v → Leaves o (and_then m k) h w j t v
  unfolding and_then ◌>>=◌
  left_out j e = ap (λ (z : Outcome A). go_on z.0 z.1 (λ (p : A × Here). k p.0 p.1) o) e

module _ {A B : Type 0} (m : Acts A) (k l : A → Acts B) (h : Here) (o : Oracle) (w : Workspace) where
  pub alike : ((a : A) (t : Here) (v : Workspace) → Ends o m h w a t v → k a t o v ≡ l a t o v) → and_then m k h o w ≡ and_then m l h o w
  unfolding and_then ◌>>=◌
  alike same = on (m h o w) refl
    where
      on : (z : Outcome A) → m h o w ≡ z → go_on z.0 z.1 (λ (p : A × Here). k p.0 p.1) o ≡ go_on z.0 z.1 (λ (p : A × Here). l p.0 p.1) o
      on (Ok p, v) e = same p.0 p.1 v e
      on (Err x, v) e = refl

module _ {A B C : Type 0} (m : Acts A) (k : A → Acts B) (l : B → Acts C) (o : Oracle) where
  abbrev second : Outcome A → Outcome B
  second z = go_on z.0 z.1 (λ (p : A × Here). k p.0 p.1) o

  on_third : (z : Outcome A) → go_on (second z).0 (second z).1 (λ (q : B × Here). l q.0 q.1) o ≡ go_on z.0 z.1 (λ (p : A × Here). and_then (k p.0) l p.1) o
  unfolding and_then ◌>>=◌
  on_third (Ok p, v) = refl
  on_third (Err x, v) = refl

  pub assoc : (h : Here) (w : Workspace) → and_then (and_then m k) l h o w ≡ and_then m (λ a. and_then (k a) l) h o w
  unfolding and_then ◌>>=◌
  assoc h w = on_third (m h o w)

pub nothing_more : (m : Acts (Unit {0})) (h : Here) (o : Oracle) (w : Workspace) → and_then m (λ u. done tt) h o w ≡ m h o w
unfolding and_then ◌>>=◌ done
nothing_more m h o w = on (m h o w)
  where
    on : (z : Outcome (Unit {0})) → go_on z.0 z.1 (λ (p : Unit {0} × Here). done tt p.1) o ≡ z
    on (Ok (tt, t), v) = refl
    on (Err x, v) = refl

-- ---- actions

module _ {E A B : Type 0} (m : Action E A) (k : A → Action E B) (o : Oracle) (w v : Workspace) (b : B) where
  abbrev pub Got : Type 0
  Got = (a : A) × (u : Workspace) × (m o w ≡ (Ok a, u)) × (k a o u ≡ (Ok b, v))

  pub got : (m >>= k) o w ≡ (Ok b, v) → Got
  unfolding ◌>>=◌
  got e = on (m o w) refl e
    where
      on : (z : Result A E × Workspace) → m o w ≡ z → go_on z.0 z.1 k o ≡ (Ok b, v) → Got
      on (Ok a, u) is f = (a, u, is, f)
      on (Err x, u) is f = absurd (let bad : ◌≡◌ {A = Result B E} (Err x) (Ok b) = ap (λ y. y.0) f in cc)

module _ {D E A : Type 0} (f : D → E) (a : A) where
  abbrev Before : Type 0
  Before = Result A D × Workspace

  abbrev After : Type 0
  After = Result A E × Workspace

  -- what it came to, where that is a value
  abbrev value_in : Result A E → Result A D
  value_in (Ok x) = Ok x
  value_in (Err x) = Ok a

  same_value : (z : Before) (v : Workspace) → (let y : After = (renamed f z.0, z.1) in y) ≡ (Ok a, v) → z ≡ (Ok a, v)
  same_value (Ok x, u) v is = ap (λ (y : After). let z : Before = (value_in y.0, y.1) in z) is
  same_value (Err x, u) v is = absurd (let bad : ◌≡◌ {A = Result A E} (Err (f x)) (Ok a) = ap (λ (y : After). y.0) is in cc)

  pub lifted : (m : Action D A) (o : Oracle) (w v : Workspace) → lift f m o w ≡ (Ok a, v) → m o w ≡ (Ok a, v)
  unfolding lift
  lifted m o w v e = same_value (m o w) v e
