use Rattle.std.proofs.Common.{refl}
use Rattle.em_view.specs.Rows.{content_to}
use Rattle.em_view.proofs.Performing.{finish}
use Rattle.em_view.proofs.Levels.{nowhere}
use Rattle.em_view.proofs.desk.Desk.content_to.Goals as goal

pub returns-in_default-clause-performs : goal.returns-in_default-clause-performs
returns-in_default-clause-performs g c = rw (nowhere content_to _ refl refl c.args.way.now c.in_default.not-To) finish
