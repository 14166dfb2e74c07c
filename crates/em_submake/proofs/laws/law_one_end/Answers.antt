use Rattle.em_submake.specs.Submakes.{deeper_at}
use Rattle.em_submake.proofs.Unique.{one_job, one_make}
use Rattle.em_submake.proofs.laws.law_one_end.Goals as goal

pub returns : goal.returns
returns c job_of plot out o w y z g h = one_job c.law_one_text.ensures (deeper_at job_of 8) (one_make c.law_one_text.ensures job_of 8) plot out o w y z g h
