use Rattle.std.proofs.Common.{refl}
use Rattle.std.specs.Str.{is_utf8}
use Rattle.clap.proofs.OnLiterals.{clap_on_literals}
use Rattle.em_cmdline.specs.SubWords.{sub_app, sub_faults, sub_found, sub_order, sub_refusal}
use Rattle.em_cmdline.proofs.laws.law_sub_worked.Goals as goal

pub returns-clause-orders : goal.returns-clause-orders
unfolding clap_on_literals is_utf8 sub_app sub_faults sub_found sub_refusal sub_order
returns-clause-orders c = refl

pub returns-clause-refusals : goal.returns-clause-refusals
unfolding clap_on_literals is_utf8 sub_app sub_faults sub_found sub_refusal sub_order
returns-clause-refusals c = refl
