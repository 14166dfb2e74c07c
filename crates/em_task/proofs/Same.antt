-- The tests of equality tell equal jobs.
use Rattle.std.proofs.Common.{◌≡◌, ◌&&◌, ◌==◌, Bool, true, false, List, [], ◌∷◌, Option, Some, None, ℕ, refl, ap, nat_eq, rules, arith}
use mathlib.Core.Bool.{beq}
use Rattle.std.specs.Option.{option_eq}
use Rattle.std.specs.Cmp.Lexicographic.{pointwise, bytes_decides}
use Rattle.std.proofs.lemmas.Bool.{and_parts, eqb-true}
use Rattle.std.proofs.lemmas.Grind.{common_steps}
use Rattle.em_plan.specs.contracts.planned.PlanJobPartialEq.TheImpl as plan_eq
use Rattle.em_plan.specs.contracts.planned.PrePartialEq.TheImpl as pre_eq
use Rattle.em_plan.specs.declared.planned.PlanJob.{PlanJob}
use Rattle.em_plan.specs.declared.planned.Pre.{Pre}
use Rattle.em_rules.specs.contracts.rule.RecipeLinePartialEq.TheImpl as line_eq
use Rattle.em_rules.specs.declared.rule.RecipeLine.{RecipeLine}
use Rattle.em_vars.proofs.Same.{entries_decide}
use Rattle.em_vars.specs.Entries.{Entries}
use Rattle.em_task.specs.contracts.job.FlagsPartialEq.TheImpl as flags_eq
use Rattle.em_task.specs.contracts.job.JobPartialEq.TheImpl as job_eq
use Rattle.em_task.specs.declared.job.Flags.{Flags}
use Rattle.em_task.specs.declared.job.Job.{Job}

same_bool : (a b : Bool) → beq a b ≡ true → a ≡ b
same_bool true true e = refl
same_bool true false e = absurd (cc)
same_bool false true e = absurd (cc)
same_bool false false e = refl

same_list : {A : Type 0} (eq : A → A → Bool) → ((x y : A) → eq x y ≡ true → x ≡ y) → (xs ys : List A) → pointwise eq xs ys ≡ true → xs ≡ ys
same_list eq same [] [] e = refl
same_list eq same [] (y ∷ ys) e = absurd (cc)
same_list eq same (x ∷ xs) [] e = absurd (cc)
same_list eq same (x ∷ xs) (y ∷ ys) e =
    let both = and_parts (eq x y) (pointwise eq xs ys) e in
    let rest : xs ≡ ys = same_list eq same xs ys both.1 in
    λ i. same x y both.0 i ∷ rest i

same_option : {A : Type 0} (eq : A → A → Bool) → ((x y : A) → eq x y ≡ true → x ≡ y) → (x y : Option A) → option_eq eq x y ≡ true → x ≡ y
same_option eq same None None e = refl
same_option eq same None (Some y) e = absurd (cc)
same_option eq same (Some x) None e = absurd (cc)
same_option eq same (Some x) (Some y) e = ap Some (same x y e)

same_text : (x y : List ℕ) → pointwise nat_eq x y ≡ true → x ≡ y
same_text x y e = (bytes_decides x y).0 e

same_pre : (x y : Pre) → pre_eq.ghosts.eq x y ≡ true → x ≡ y
same_pre x y e =
    let both = and_parts _ _ e in
    λ i. record { name = same_text x.name y.name both.0 i; jobs = same_text x.jobs y.jobs both.1 i }

same_line : (x y : RecipeLine) → line_eq.ghosts.eq x y ≡ true → x ≡ y
same_line x y e = first_of (search rules, grind (arith, common_steps))

same_flags : (x y : Flags) → flags_eq.ghosts.eq x y ≡ true → x ≡ y
same_flags x y e =
    let a = and_parts _ _ e in
    let b = and_parts _ _ a.1 in
    let c = and_parts _ _ b.1 in
    let d = and_parts _ _ c.1 in
    let f = and_parts _ _ d.1 in
    λ i. record {
      keep_going = same_bool x.keep_going y.keep_going a.0 i;
      dry = same_bool x.dry y.dry b.0 i;
      question = same_bool x.question y.question c.0 i;
      silent = same_bool x.silent y.silent d.0 i;
      ignore = same_bool x.ignore y.ignore f.0 i;
      always = same_bool x.always y.always f.1 i;
    }

same_plan : (x y : PlanJob) → plan_eq.ghosts.eq x y ≡ true → x ≡ y
same_plan x y e =
    let a = and_parts _ _ e in
    let b = and_parts _ _ a.1 in
    let c = and_parts _ _ b.1 in
    let d = and_parts _ _ c.1 in
    let f = and_parts _ _ d.1 in
    let g = and_parts _ _ f.1 in
    let h = and_parts _ _ g.1 in
    let k = and_parts _ _ h.1 in
    let l = and_parts _ _ k.1 in
    let m = and_parts _ _ l.1 in
    λ i. record {
      target = same_text x.target y.target a.0 i;
      targets = same_list (pointwise nat_eq) same_text x.targets y.targets b.0 i;
      double = same_bool x.double y.double c.0 i;
      normal = same_list pre_eq.ghosts.eq same_pre x.normal y.normal d.0 i;
      order = same_list pre_eq.ghosts.eq same_pre x.order y.order f.0 i;
      stem = same_text x.stem y.stem g.0 i;
      recipe = same_option (pointwise line_eq.ghosts.eq) (same_list line_eq.ghosts.eq same_line) x.recipe y.recipe h.0 i;
      ruled = same_bool x.ruled y.ruled k.0 i;
      phony = same_bool x.phony y.phony l.0 i;
      needed_by = same_option (pointwise nat_eq) same_text x.needed_by y.needed_by m.0 i;
      waits = same_text x.waits y.waits m.1 i;
    }

same_pair : (x y : List ℕ × List ℕ) → (pointwise nat_eq x.0 y.0 && pointwise nat_eq x.1 y.1) ≡ true → x ≡ y
same_pair x y e =
    let both = and_parts _ _ e in
    λ i. (same_text x.0 y.0 both.0 i, same_text x.1 y.1 both.1 i)

pub same_job : (x y : Job) → job_eq.ghosts.eq x y ≡ true → x ≡ y
same_job x y e =
    let a = and_parts _ _ e in
    let b = and_parts _ _ a.1 in
    let c = and_parts _ _ b.1 in
    let d = and_parts _ _ c.1 in
    let f = and_parts _ _ d.1 in
    let g = and_parts _ _ f.1 in
    let h = and_parts _ _ g.1 in
    let k = and_parts _ _ h.1 in
    let l = and_parts _ _ k.1 in
    let m = and_parts _ _ l.1 in
    let o = and_parts _ _ m.1 in
    λ i. record {
      job = eqb-true x.job y.job a.0 i;
      base = eqb-true x.base y.base b.0 i;
      fuel = eqb-true x.fuel y.fuel c.0 i;
      cwd = same_text x.cwd y.cwd d.0 i;
      flags = same_flags x.flags y.flags f.0 i;
      quiet = same_bool x.quiet y.quiet g.0 i;
      lenient = same_bool x.lenient y.lenient h.0 i;
      delete_on_error = same_bool x.delete_on_error y.delete_on_error k.0 i;
      phony = same_list (pointwise nat_eq) same_text x.phony y.phony l.0 i;
      plan = same_plan x.plan y.plan m.0 i;
      vars = same_list _ (λ p q. (entries_decide p q).0) x.vars y.vars o.0 i;
      assigned = same_list _ same_pair x.assigned y.assigned o.1 i;
    }
