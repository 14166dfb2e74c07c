-- Jobs that get their numbers one after another.
use Rattle.std.proofs.Common.{◌≡◌, ◌∙◌, ◌+◌, ◌++◌, ◌∷◌, [], ℕ, zero, suc, List, Some, refl, sym, ap, add-one, append_assoc, arith}
use Rattle.std.specs.Prelude.{slice_get}
use Rattle.em_cmdline.specs.declared.order.Order.{Order}
use Rattle.em_rules.specs.declared.book.Book.{Book}
use Rattle.em_plan.specs.declared.planned.PlanJob.{PlanJob}
use Rattle.em_task.specs.declared.job.Job.{Job}
use Rattle.em_job.specs.Making.{job_of, jobs_from, jobs_of}
use Rattle.em_job.specs.Effects.{begin}

pub numbered : (book : Book) (order : Order) (base : ℕ) (jobs : List Job) (i n : ℕ) (j : Job) (p : PlanJob) (ps : List PlanJob) (all : List Job) → n ≡ i → j ≡ job_of book order base n p
    → jobs ++ jobs_from book order base i (p ∷ ps) ≡ all → (jobs ++ j ∷ []) ++ jobs_from book order base (i + 1) ps ≡ all
numbered book order base jobs i n j p ps all same is h =
    let first : (jobs ++ j ∷ []) ++ jobs_from book order base (suc i) ps ≡ jobs ++ j ∷ jobs_from book order base (suc i) ps = append_assoc jobs (j ∷ []) (jobs_from book order base (suc i) ps) in
    let job : j ≡ job_of book order base i p = is ∙ ap (λ (m : ℕ). job_of book order base m p) same in
    let whole = first ∙ ap (λ (x : Job). jobs ++ x ∷ jobs_from book order base (suc i) ps) job ∙ h in
    rw add-one whole

-- ---- the numbers with which jobs begin

abbrev Begins : Job → ℕ → ℕ → ℕ → Type 0
Begins j n base fuel = (begin j).job ≡ n × (begin j).base ≡ base × (begin j).fuel ≡ fuel × (begin j).count ≡ 0

module _ (book : Book) (order : Order) (base : ℕ) (j : Job) where
  begins_here : (n : ℕ) (p : PlanJob) → let x = job_of book order base n p in Some x ≡ Some j → Begins j n base order.fuel
  begins_here n p e = let same : j ≡ job_of book order base n p = sym (some_is e) in (ap (λ (x : Job). x.job) same, ap (λ (x : Job). x.base) same, ap (λ (x : Job). x.fuel) same, refl)
    where
      some_is : {a b : Job} → Some a ≡ Some b → a ≡ b
      some_is e = cc

  begins_from : (ps : List PlanJob) (n i : ℕ) → slice_get (jobs_from book order base n ps) i ≡ Some j → Begins j (n + i) base order.fuel
  begins_from [] n i e = absurd (cc)
  begins_from (p ∷ ps) n zero e = let is = begins_here n p e in (is.0 ∙ omega arith, is.1, is.2, is.3)
  begins_from (p ∷ ps) n (suc i) e = let is = begins_from ps (suc n) i e in (is.0 ∙ omega arith, is.1, is.2, is.3)

  pub begins : (i : ℕ) (ps : List PlanJob) → slice_get (jobs_of book order base ps) i ≡ Some j → Begins j i base order.fuel
  unfolding jobs_of
  begins i ps e = let is = begins_from ps 0 i e in (is.0 ∙ omega arith, is.1, is.2, is.3)
