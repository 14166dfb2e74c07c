use Rattle.std.proofs.Common.{ap}
use Rattle.em_tree.specs.declared.node.Kind.TheVariants as kind
use Rattle.em_view.specs.Rows.{touch_at}
use Rattle.em_view.proofs.Performing.{then, leave, refused}
use Rattle.em_view.proofs.Looking.{sound_still}
use Rattle.em_view.proofs.Editing.{kind_seen}
use Rattle.em_view.proofs.desk.Desk.touch_at.Goals as goal

pub returns-in_err-kind_below-clause-performs : goal.returns-in_err-kind_below-clause-performs
unfolding touch_at
returns-in_err-kind_below-clause-performs g c = leave _ c.from_residual.ensures.1 c.in_err-kind_below.ensures.performs

pub touch_dir-requires-clause-sound : goal.touch_dir-requires-clause-sound
touch_dir-requires-clause-sound g c = (sound_still c.args.self.now c.kind_below.new.self _ c.in_ok-kind_below.ensures.still c.in_ok-kind_below.ensures.performs.grows.grew c.requires.sound)

pub touch_dir-requires-clause-seen : goal.touch_dir-requires-clause-seen
touch_dir-requires-clause-seen g c = (kind_seen {tells = g.V.View.tells} c.args.self.now c.kind_below.new.self kind.Dir c.args.q.now (ap (λ w. w.changes) c.in_ok-kind_below.ensures.still) (rw c.in-Dir.is at c.in_ok-kind_below.ensures.performs))

pub touch_file-requires-clause-sound : goal.touch_file-requires-clause-sound
touch_file-requires-clause-sound g c = (sound_still c.args.self.now c.kind_below.new.self _ c.in_ok-kind_below.ensures.still c.in_ok-kind_below.ensures.performs.grows.grew c.requires.sound)

pub touch_file-requires-clause-seen : goal.touch_file-requires-clause-seen
touch_file-requires-clause-seen g c = (kind_seen {tells = g.V.View.tells} c.args.self.now c.kind_below.new.self kind.File c.args.q.now (ap (λ w. w.changes) c.in_ok-kind_below.ensures.still) (rw c.in-File.is at c.in_ok-kind_below.ensures.performs))

pub returns-in-Absent-clause-performs : goal.returns-in-Absent-clause-performs
unfolding touch_at
returns-in-Absent-clause-performs g c = then _ c.in_ok-kind_below.ensures.performs (rw c.in-Absent.is refused)

pub returns-in-File-clause-performs : goal.returns-in-File-clause-performs
unfolding touch_at
returns-in-File-clause-performs g c = then _ c.in_ok-kind_below.ensures.performs (rw c.in-File.is c.touch_file.ensures.performs)

pub returns-in-Dir-clause-performs : goal.returns-in-Dir-clause-performs
unfolding touch_at
returns-in-Dir-clause-performs g c = then _ c.in_ok-kind_below.ensures.performs (rw c.in-Dir.is c.touch_dir.ensures.performs)

pub returns-in-Link-clause-performs : goal.returns-in-Link-clause-performs
unfolding touch_at
returns-in-Link-clause-performs g c = then _ c.in_ok-kind_below.ensures.performs (rw c.in-Link.is refused)
