-- The numbers of jobs by their targets, and what is put to the waits of one.
--     numbers_put                a name with a number more
--     found_more, found_all      one job more is found, and all
--     numbers_within             numbers that are found are jobs'
--     put_more                   what is put to the waits of one job more
use Rattle.std.proofs.Common.{◌≡◌, ℕ, ◌+◌, ◌<◌, ◌≤◌, ◌&&◌, ◌||◌, true, cond, nat_eq, nat_lt, List, [], ◌∷◌, ◌++◌, length, slice_get, Option, Some, None, All, arith, refl, sym, ap, ◌∙◌, append_assoc}
use Rattle.std.specs.Prelude.{slice_set, if◌then◌else◌}
use Rattle.std.specs.Cmp.{nat_eq_equiv}
use Rattle.std.specs.FinMap.{FinMap, get, insert, remove, get-remove}
use Rattle.std.specs.List.{list_any}
use Rattle.std.specs.Option.{option_map}
use Rattle.std.specs.Cmp.Lexicographic.{nat_list_cmp_total}
use Rattle.std.specs.Str.{bytes_eq}
use Rattle.std.proofs.lemmas.Bool.Decides.{nat_tests}
use Rattle.std.proofs.lemmas.Grind.{common_steps, flat_map-append}
use Rattle.std.proofs.lemmas.List.{append-nil}
use Rattle.std.proofs.lemmas.List.Folds.{list_any-append}
use Rattle.std.proofs.lemmas.Map.Text.{is_eq-slice_cmp}
use Rattle.std.proofs.lemmas.Map.Views.{All-from_any}
use Rattle.std.proofs.lemmas.Option.{gets, slice_get_past}
use Rattle.std.proofs.lemmas.Slice.Eq.{bytes_eq-Decides}
use Rattle.em_base.proofs.Lemmas.{by_cases, get_put, order}
use Rattle.em_plan.specs.declared.planned.PlanJob.{PlanJob}
use Rattle.em_learning.specs.Links.{AreNumbers, added_by, added_to, is_target, listed, lower}

pub numbers_put : (t : FinMap order (List ℕ)) (name : List ℕ) (k : ℕ) (q : List ℕ)
    → listed (get (insert (remove t name) name (listed (get t name) ++ k ∷ [])) q) ≡ listed (get t q) ++ (if bytes_eq q name then k ∷ [] else [])
numbers_put t name k q =
    rw (get_put (remove t name) name (listed (get t name) ++ k ∷ []) q, get-remove nat_list_cmp_total t name q, is_eq-slice_cmp q name)
    (by_cases (bytes_eq q name) (λ b. bytes_eq q name ≡ b → listed (cond b (Some (listed (get t name) ++ k ∷ [])) (cond b None (get t q))) ≡ listed (get t q) ++ (cond b (k ∷ []) []))
    (λ _ is. ap (λ n. listed (get t n) ++ k ∷ []) (sym ((bytes_eq-Decides q name).0 is)))
    (λ _ isnt. sym (append-nil (listed (get t q)))) refl)

pub found_more : (jobs : List PlanJob) (numbers more : List ℕ → List ℕ) (i : ℕ) (job : PlanJob) → slice_get jobs i ≡ Some job
    → ((q : List ℕ) → more q ≡ numbers q ++ (if bytes_eq q job.target then i ∷ [] else []))
    → ((name : List ℕ) (k : ℕ) → list_any (nat_eq k) (numbers name) ≡ (nat_lt k i && is_target name (slice_get jobs k)))
    → (name : List ℕ) (k : ℕ) → list_any (nat_eq k) (more name) ≡ (nat_lt k (i + 1) && is_target name (slice_get jobs k))
found_more jobs numbers more i job at put so_far name k =
    rw (put name, list_any-append)
    (by_cases (bytes_eq name job.target) (λ b. bytes_eq name job.target ≡ b → (list_any (nat_eq k) (numbers name) || list_any (nat_eq k) (cond b (i ∷ []) [])) ≡ (nat_lt k (i + 1) && is_target name (slice_get jobs k)))
    (λ _ is. grind (arith, nat_tests, so_far name k, at))
    (λ _ isnt. grind (arith, nat_tests, so_far name k, at)) refl)

pub found_all : (jobs : List PlanJob) (numbers : List ℕ → List ℕ) (i : ℕ) → length jobs ≤ i
    → ((name : List ℕ) (k : ℕ) → list_any (nat_eq k) (numbers name) ≡ (nat_lt k i && is_target name (slice_get jobs k))) → AreNumbers numbers jobs
found_all jobs numbers i all so_far = record { found = λ name k. grind (arith, nat_tests, so_far name k, slice_get_past jobs k) }

pub numbers_within : (jobs : List PlanJob) (numbers : List ℕ → List ℕ) → AreNumbers numbers jobs → (name : List ℕ) → All (λ m. m < length jobs) (numbers name)
numbers_within jobs numbers are name = All-from_any nat_eq_equiv (λ m. m < length jobs) (numbers name) within
  where
    within : (m : ℕ) → list_any (nat_eq m) (numbers name) ≡ true → m < length jobs
    within m is = grind (arith, nat_tests, are.found name m, slice_get_past jobs m)

put_at : (waits : List (List ℕ)) (m : ℕ) (needed w : List ℕ) → slice_get waits m ≡ Some w
    → (k : ℕ) → slice_get (slice_set waits m (w ++ lower m needed)) k ≡ option_map (λ (v : List ℕ). v ++ added_to k needed m) (slice_get waits k)
put_at waits m needed w at k = grind (arith, common_steps, gets, nat_tests, append-nil)

pub put_more : (first waits : List (List ℕ)) (front needed : List ℕ) (m : ℕ) (w : List ℕ) → slice_get waits m ≡ Some w
    → (k : ℕ) → slice_get waits k ≡ option_map (λ (v : List ℕ). v ++ added_by k front needed) (slice_get first k)
    → slice_get (slice_set waits m (w ++ lower m needed)) k ≡ option_map (λ (v : List ℕ). v ++ added_by k (front ++ m ∷ []) needed) (slice_get first k)
put_more first waits front needed m w at k so_far = put_at waits m needed w at k ∙ ap (option_map (λ (v : List ℕ). v ++ added_to k needed m)) so_far ∙ joined (slice_get first k)
  where
    both : added_by k (front ++ m ∷ []) needed ≡ added_by k front needed ++ added_to k needed m
    both = flat_map-append (added_to k needed) front (m ∷ []) ∙ ap (λ (v : List ℕ). added_by k front needed ++ v) (append-nil (added_to k needed m))

    joined : (o : Option (List ℕ)) → option_map (λ (v : List ℕ). v ++ added_to k needed m) (option_map (λ (v : List ℕ). v ++ added_by k front needed) o) ≡ option_map (λ (v : List ℕ). v ++ added_by k (front ++ m ∷ []) needed) o
    joined None = refl
    joined (Some v) = rw both (ap (λ (x : List ℕ). Some x) (append_assoc v (added_by k front needed) (added_to k needed m)))
