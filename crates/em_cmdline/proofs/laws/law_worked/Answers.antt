use Rattle.std.proofs.Common.{refl}
use Rattle.std.specs.Str.{is_utf8}
use Rattle.clap.proofs.OnLiterals.{clap_on_literals}
use Rattle.em_cmdline.specs.Words.{faults, found, order_app, order_of, refusal}
use Rattle.em_cmdline.proofs.laws.law_worked.Goals as goal

pub returns-clause-orders : goal.returns-clause-orders
unfolding clap_on_literals is_utf8 order_app faults found refusal order_of
returns-clause-orders c = refl

pub returns-clause-refusals : goal.returns-clause-refusals
unfolding clap_on_literals is_utf8 order_app faults found refusal order_of
returns-clause-refusals c = refl
