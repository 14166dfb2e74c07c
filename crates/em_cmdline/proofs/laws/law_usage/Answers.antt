use Rattle.std.proofs.Common.{refl}
use Rattle.clap.proofs.OnLiterals.{clap_on_literals}
use Rattle.em_cmdline.specs.Words.{order_app}
use Rattle.em_cmdline.proofs.laws.law_usage.Goals as goal

pub returns : goal.returns
unfolding clap_on_literals order_app
returns c = refl
