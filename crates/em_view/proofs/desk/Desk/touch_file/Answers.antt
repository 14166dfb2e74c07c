use Rattle.std.proofs.Common.{ap, Some, None}
use Rattle.em_tree.specs.declared.node.Kind.TheVariants as kind
use Rattle.em_tree.specs.declared.node.Node.TheVariants.{File}
use Rattle.em_view.specs.Rows.{touch_file}
use Rattle.em_view.proofs.Performing.{then, leave, refused}
use Rattle.em_view.proofs.Looking.{applied, numbered, room_paid, sound_still}
use Rattle.em_view.proofs.Editing.{touch_fits, still_seen}
use Rattle.em_view.proofs.Fitting.{paths_becomes}
use Rattle.em_view.proofs.desk.Desk.touch_file.Goals as goal

pub returns-in_err-body-clause-performs : goal.returns-in_err-body-clause-performs
unfolding touch_file
returns-in_err-body-clause-performs g c = leave _ c.from_residual.ensures.1 c.in_err-body.ensures.performs

pub returns-in_default-clause-performs : goal.returns-in_default-clause-performs
unfolding touch_file
returns-in_default-clause-performs g c = then _ c.in_ok-body.ensures.performs (rw c.in_default.is refused)

pub returns-in_err-pay-clause-performs : goal.returns-in_err-pay-clause-performs
unfolding touch_file
returns-in_err-pay-clause-performs g c = then _ c.in_ok-body.ensures.performs (rw c.in-Some.is (leave _ c.from_residual-in_err-pay.ensures.1 c.in_err-pay.ensures.performs))

pub change-requires-clause-room : goal.change-requires-clause-room
change-requires-clause-room g c = room_paid c.content_below.new.self c.pay.new.self _ (sound_still c.args.self.now c.content_below.new.self _ c.in_ok-body.ensures.still c.in_ok-body.ensures.performs.grows.grew c.requires.sound).room c.in_ok-pay.ensures.ok.0 c.in_ok-pay.ensures.ok.1

pub change-requires-clause-fits : goal.change-requires-clause-fits
change-requires-clause-fits g c = rw (c.in_ok-copy.ensures, ap (λ d. d.usage) c.in_ok-pay.ensures.ok.0, ap (λ d. d.work.changes) c.in_ok-pay.ensures.ok.0) (touch_fits c.content_below.new.self c.args.q.now _ 0 (sound_still c.args.self.now c.content_below.new.self _ c.in_ok-body.ensures.still c.in_ok-body.ensures.performs.grows.grew c.requires.sound).fits (still_seen c.args.self.now c.content_below.new.self _ c.args.q.now kind.File c.in_ok-body.ensures.performs.grows.grew (ap (λ w. w.changes) c.in_ok-body.ensures.still) c.requires.seen))

pub change-requires-clause-paths : goal.change-requires-clause-paths
change-requires-clause-paths g c = rw (c.in_ok-copy.ensures, ap (λ d. d.work.changes) c.in_ok-pay.ensures.ok.0) (paths_becomes c.args.q.now _ None 0 _ (sound_still c.args.self.now c.content_below.new.self _ c.in_ok-body.ensures.still c.in_ok-body.ensures.performs.grows.grew c.requires.sound).paths c.requires.path tt)

pub returns-clause-performs : goal.returns-clause-performs
unfolding touch_file
returns-clause-performs g c =
    let made = applied {tells = g.V.View.tells} c.pay.new.self c.change.new.self c.in_ok-copy.field-0 (Some (File c.in-Some.body c.number-stamp.result)) None c.change.result c.change.ensures.ok c.change.ensures.err c.change.ensures.only in
    then _ c.in_ok-body.ensures.performs (rw c.in-Some.is (then _ c.in_ok-pay.ensures.performs (then _ (numbered c.pay.new.self c.number-stamp.result c.number-stamp.ensures) (rw c.in_ok-copy.ensures at made))))
