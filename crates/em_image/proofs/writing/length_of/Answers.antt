use Rattle.std.proofs.Common.{sym, ◌∙◌, arith}
use Rattle.std.specs.FinMap.{entries}
use Rattle.em_image.specs.Image.{limits}
use Rattle.em_image.proofs.Written.{fits_in, too_many, few, nodes_broken, file_broken, stamp_broken, none_broken}
use Rattle.em_image.proofs.writing.length_of.Goals as goal

pub returns-then-count-gt-MAX_NODES-clause-exact : goal.returns-then-count-gt-MAX_NODES-clause-exact
returns-then-count-gt-MAX_NODES-clause-exact c =
    nodes_broken limits (entries c.args.tree.now) (fits_in _ c.in-Some.field-0.room _ c.in-Some.ensures.text) (too_many c.args.tree.now c.count.result c.count.ensures.count c.if-count-gt-MAX_NODES.true)

pub returns-then-has_big_file-clause-exact : goal.returns-then-has_big_file-clause-exact
returns-then-has_big_file-clause-exact c =
    file_broken limits (entries c.args.tree.now) (fits_in _ c.in-Some.field-0.room _ c.in-Some.ensures.text) (few c.args.tree.now c.count.result c.count.ensures.count c.if-count-gt-MAX_NODES.false)
    (sym c.in-Some.ensures.nodes.1 ∙ c.if-has_big_file.true)

pub returns-then-has_late_stamp-clause-exact : goal.returns-then-has_late_stamp-clause-exact
returns-then-has_late_stamp-clause-exact c =
    stamp_broken limits (entries c.args.tree.now) (fits_in _ c.in-Some.field-0.room _ c.in-Some.ensures.text) (few c.args.tree.now c.count.result c.count.ensures.count c.if-count-gt-MAX_NODES.false)
    (sym c.in-Some.ensures.nodes.1 ∙ c.if-has_big_file.false) (sym c.in-Some.ensures.nodes.2 ∙ c.if-has_late_stamp.true)

pub returns-clause-exact : goal.returns-clause-exact
returns-clause-exact c = (
  none_broken limits (entries c.args.tree.now) (fits_in _ c.in-Some.field-0.room _ c.in-Some.ensures.text) (few c.args.tree.now c.count.result c.count.ensures.count c.if-count-gt-MAX_NODES.false)
      (sym c.in-Some.ensures.nodes.1 ∙ c.if-has_big_file.false) (sym c.in-Some.ensures.nodes.2 ∙ c.if-has_late_stamp.false),
  omega (arith, c.in-Some.ensures.text),
)
