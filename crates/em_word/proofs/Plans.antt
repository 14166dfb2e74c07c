-- Plans, one after another.
use Rattle.std.proofs.Common.{◌≡◌, refl, ap}
use Rattle.em_word.specs.Talk.{Talk, Ends, Fails, Pays, Looks, Sets, Asks, and_then}

pub assoc : {Q F A B C : Type 0} → (t : Talk Q F A) (k : A → Talk Q F B) (l : B → Talk Q F C) → and_then (and_then t k) l ≡ and_then t (λ a. and_then (k a) l)
assoc (Ends a) k l = refl
assoc (Fails f) k l = refl
assoc (Pays n t) k l = ap (Pays n) (assoc t k l)
assoc (Looks t) k l = λ i. Looks (λ s. assoc (t s) k l i)
assoc (Sets n v t) k l = ap (Sets n v) (assoc t k l)
assoc (Asks q t) k l = λ i. Asks q (λ s. assoc (t s) k l i)
