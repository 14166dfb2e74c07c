use Rattle.em_job.proofs.Keeping.{without_order, phony_stay, all_kept, others_stay}
use Rattle.em_job.proofs.laws.law_deleted.Goals as goal

pub returns : goal.returns
returns c = record {
  by_order = λ j befores p said o w e. without_order j p befores said o w e;
  phony = λ j befores p said o w all. phony_stay j p befores said o w all;
  kept = λ j befores p said s w all. all_kept j p s befores said w all;
  others = λ j befores p said s w q bare all. others_stay j p s befores said w q bare all;
}
