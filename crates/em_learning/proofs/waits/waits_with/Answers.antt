use Rattle.std.proofs.Common.{◌≡◌, ◌∙◌, ap, sym, subst, ◌++◌, [], IfOk, List, ℕ, arith, drop, length, map, slice_get, take}
use Rattle.std.specs.FinMap.{get}
use Rattle.std.specs.Option.{option_map}
use Rattle.std.proofs.lemmas.List.{length-map}
use Rattle.std.proofs.Math.Seq.{take-append_seam}
use Rattle.em_plan.specs.declared.planned.PlanJob.{PlanJob}
use Rattle.em_plan.specs.Jobs.{rising}
use Rattle.em_learning.specs.Links.{added, listed}
use Rattle.em_learning.specs.Waits.{waits_with}
use Rattle.em_learning.proofs.Numbers.{numbers_within}
use Rattle.em_learning.proofs.Rows.{no_pairs, waits_are, waits_none}
use Rattle.em_learning.proofs.waits.waits_with.Goals as goal

pub returns-then-is_empty : goal.returns-then-is_empty
returns-then-is_empty c =
    let jobs = c.args.jobs.now in
    let none : c.args.history.now ≡ [] = sym c.pairs-pairs.ensures.pairs ∙ no_pairs c.pairs-pairs.result.now (sym c.if-is_empty.ensures) in
    c.from_vec.ensures ∙ c.in_ok-waits.ensures ∙ waits_none jobs c.requires ∙ ap (λ old. waits_with old jobs) (sym none)

pub add_all-requires : goal.add_all-requires
add_all-requires c name =
    let jobs = c.args.jobs.now in
    let long : length jobs ≡ length c.as_mut_slice.result.now = sym (length-map jobs (λ (j : PlanJob). j.waits)) ∙ ap length (sym (c.as_mut_slice.ensures.value ∙ c.in_ok-waits.ensures)) in
    rw (← long) (numbers_within jobs (λ q. listed (get c.in_ok-numbers.numbers q)) c.in_ok-numbers.ensures name)

pub returns : goal.returns
returns c =
    let jobs = c.args.jobs.now in
    let pairs = c.pairs-pairs.result.now in
    let numbers = λ (q : List ℕ). listed (get c.in_ok-numbers.numbers q) in
    let all : map rising c.add_all.new.waits ≡ waits_with pairs jobs =
    waits_are jobs c.requires pairs numbers c.in_ok-numbers.ensures c.add_all.new.waits (λ k.
    c.in_ok-add_all.ensures k ∙ ap (λ (w : List (List ℕ)). option_map (λ v. v ++ added numbers pairs k) (slice_get w k)) (c.as_mut_slice.ensures.value ∙ c.in_ok-waits.ensures)) in
    let rows = c.add_all.new.waits in
    let rest = drop (length rows) c.in_ok-waits.waits.items in
    let long : c.in_ok-waits.waits.len ≡ length rows = omega arith in
    let written : take c.in_ok-waits.waits.len (rows ++ rest) ≡ rows = ap (λ n. take n (rows ++ rest)) long ∙ take-append_seam rows rest in
    subst (λ w. IfOk c.all_rising.result (λ v. v ≡ w)) (ap (map rising) written ∙ all ∙ ap (λ old. waits_with old jobs) c.pairs-pairs.ensures.pairs) c.all_rising.ensures
