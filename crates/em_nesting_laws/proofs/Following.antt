-- Steps one after another.
--     assoc           in two ways
--     done_then       behind a value
--     mapped f m      steps whose value is looked at
--     then_mapped     what follows such steps
use Rattle.std.proofs.Common.{◌≡◌, ◌∙◌, Result, Ok, Err, refl}
use Rattle.em_view.specs.Actions.{Workspace, Oracle, ◌>>=◌, go_on}
use Rattle.em_view.specs.Steps.{Steps, and_then, done}

module _ {S E : Type 0} where
  abbrev pub mapped : {A B : Type 0} → (A → B) → Steps S E A → Steps S E B
  mapped f m = and_then m (λ a. done (f a))

  pub done_then : {A B : Type 0} (a : A) (k : A → Steps S E B) → and_then (done a) k ≡ k a
  unfolding and_then ◌>>=◌ done
  done_then a k = refl

  module _ {A B C : Type 0} where
    same_rest : (k : A → Steps S E B) (h : B → Steps S E C) (r : Result (A × S) (E × S)) (v : Workspace) (o : Oracle)
        → go_on (go_on r v (λ p. k p.0 p.1) o).0 (go_on r v (λ p. k p.0 p.1) o).1 (λ p. h p.0 p.1) o ≡ go_on r v (λ p. and_then (k p.0) h p.1) o
    unfolding and_then ◌>>=◌
    same_rest k h (Ok p) v o = refl
    same_rest k h (Err p) v o = refl

    pub assoc : (m : Steps S E A) (k : A → Steps S E B) (h : B → Steps S E C) → and_then (and_then m k) h ≡ and_then m (λ a. and_then (k a) h)
    unfolding and_then ◌>>=◌
    assoc m k h = λ i. λ s o w. same_rest k h (m s o w).0 (m s o w).1 o i

    pub then_mapped : (f : A → B) (m : Steps S E A) (k : B → Steps S E C) → and_then (mapped f m) k ≡ and_then m (λ a. k (f a))
    then_mapped f m k = assoc m (λ a. done (f a)) k ∙ (λ i. and_then m (λ a. done_then (f a) k i))
