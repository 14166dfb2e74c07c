-- What is left of lists that are gone over.
--     next_at                   the rest of a list from a place on, by the item there
--     each_next, none_left      targets with their stamps: the first of both, and what is left once one list has ended
--     goes_as                   steps that are left, written otherwise
use Rattle.std.proofs.Common.{◌≡◌, ◌∙◌, ◌+◌, ◌<◌, ℕ, Bool, List, [], ◌∷◌, Option, length, drop, get_or, inl, inr, refl, ap, subst, add-one, drop-cons}
use Rattle.std.specs.Prelude.{◌⊎◌}
use Rattle.em_base.specs.declared.place.Place.{Place}
use Rattle.em_view.specs.Performs.{DeskState, Told}
use Rattle.em_view.specs.Steps.{Steps, and_then, done}
use Rattle.em_view.proofs.Doing.{Goes}
use Rattle.em_task.specs.declared.job.Job.{Job}
use Rattle.em_job.specs.Carrying.{delete_one, delete_each}

pub next_at : {X : Type 0} (xs : List X) (i : ℕ) (d : X) → i < length xs → drop i xs ≡ get_or xs i d ∷ drop (i + 1) xs
next_at xs i d lt = rw add-one (drop-cons xs i d lt)

module _ (j : Job) (p : Place) where
  pub each_next : {ts more : List (List ℕ)} {bs rest : List (Option ℕ)} {t : List ℕ} {b : Option ℕ} → ts ≡ t ∷ more → bs ≡ b ∷ rest
      → delete_each j p ts bs ≡ and_then (delete_one j p t b) (λ u. delete_each j p more rest)
  each_next e f = λ i. delete_each j p (e i) (f i)

  without_stamps : (ts : List (List ℕ)) → delete_each j p ts [] ≡ done tt
  without_stamps [] = refl
  without_stamps (t ∷ ts) = refl

  pub none_left : (ts : List (List ℕ)) (bs : List (Option ℕ)) → (ts ≡ []) ⊎ (bs ≡ []) → delete_each j p ts bs ≡ done tt
  none_left ts bs (inl e) = ap (λ (x : List (List ℕ)). delete_each j p x bs) e
  none_left ts bs (inr e) = ap (λ (x : List (Option ℕ)). delete_each j p ts x) e ∙ without_stamps ts

pub goes_as : {V S E B : Type 0} {free : E → Bool} {tells : V → Told} {first here : DeskState V} {s t : S} {whole a b : Steps S E B} → a ≡ b → Goes free tells first here s t whole a → Goes free tells first here s t whole b
goes_as {V} {S} {E} {B} {free} {tells} {first} {here} {s} {t} {whole} e h = subst (λ (m : Steps S E B). Goes free tells first here s t whole m) e h
