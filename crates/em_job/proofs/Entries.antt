-- Going over all variables is going over those that a shell gets.
--     over_places ..      what is done for the variables at these places, in order
--     all_is_places       that is what is done for all, where the places are those of the ones that a shell gets
use Rattle.std.proofs.Common.{◌≡◌, ◌∙◌, ◌+◌, ℕ, Bool, true, false, not, cond, ◌&&◌, if◌then◌else◌, List, [], ◌∷◌, map, drop, Result, Ok, refl, ap}
use Rattle.std.specs.Prelude.{slice_get, is_some}
use Rattle.std.specs.List.{filter, enumerate_from}
use Rattle.em_base.specs.declared.place.Place.{Place}
use Rattle.em_base.proofs.Lemmas.{by_cases}
use Rattle.em_vars.specs.declared.var.Var.{Var}
use Rattle.em_vars.specs.Entries.{Entries}
use Rattle.em_view.specs.Actions.{◌>>=◌}
use Rattle.em_view.specs.Steps.{and_then, done}
use Rattle.em_expand.specs.Layered.{own_text}
use Rattle.em_task.specs.Handed.{is_handed, handed_places}
use Rattle.em_task.specs.declared.job.Job.{Job}
use Rattle.em_task.proofs.Places.{places_from, at_front}
use Rattle.em_job.specs.Preparing.{Autos}
use Rattle.em_job.specs.Stops.{Acts}
use Rattle.em_job.specs.Carrying.{hand_over, hand, hand_entry, environment_from}

pub ok_is : {A E : Type 0} {a b : A} → let x : Result A E = Ok a in let y : Result A E = Ok b in x ≡ y → a ≡ b
ok_is e = cc

abbrev pub over_places : Job → Autos → Place → List ℕ → Entries → Acts Entries
over_places j autos p [] env = done env
over_places j autos p (i ∷ is) env = and_then (hand_entry j autos p env (slice_get j.vars i)) (λ next. over_places j autos p is next)

done_then : (env : Entries) (k : Entries → Acts Entries) → and_then (done env) k ≡ k env
unfolding and_then done ◌>>=◌
done_then env k = refl

-- a variable that isn't handed over passes by
passes : (j : Job) (autos : Autos) (p : Place) (env : Entries) (name : List ℕ) (v : Var) → is_handed v ≡ false → hand j autos p env name v ≡ done env
passes j autos p env name v isnt = ap (λ (b : Bool). let m : Acts Entries = if b && not (is_some (own_text autos name)) then hand_over j autos p env name v else done env in m) isnt

from_place : (j : Job) (autos : Autos) (p : Place) (n : ℕ) (es : Entries) → drop n j.vars ≡ es → (env : Entries) → environment_from j autos p es env ≡ over_places j autos p (places_from n es) env
from_place j autos p n [] is env = refl
from_place j autos p n (e ∷ es) is env =
    let front = at_front j.vars n e es is in
    let rest : (x : Entries) → environment_from j autos p es x ≡ over_places j autos p (places_from (n + 1) es) x = from_place j autos p (n + 1) es front.1 in
    let more = enumerate_from (n + 1) es in
    let k : Entries → Acts Entries = λ x. environment_from j autos p es x in
    by_cases (is_handed e.1) (λ b. and_then (hand j autos p env e.0 e.1) k ≡ over_places j autos p (map (λ q. q.0) (cond b ((n, e) ∷ filter (λ q. is_handed q.1.1) more) (filter (λ q. is_handed q.1.1) more))) env)
    (λ _. rw front.0 (ap (λ (h : Entries → Acts Entries). and_then (hand j autos p env e.0 e.1) h) (λ i x. rest x i)))
    (λ isnt. ap (λ (m : Acts Entries). and_then m k) (passes j autos p env e.0 e.1 isnt) ∙ done_then env k ∙ rest env)

pub all_is_places : (j : Job) (autos : Autos) (p : Place) (env : Entries) → environment_from j autos p j.vars env ≡ over_places j autos p (handed_places j.vars) env
all_is_places j autos p = from_place j autos p 0 j.vars refl
