use Rattle.em_exec.specs.Running.{script_at}
use Rattle.em_exec.proofs.Lines.{by_two, by_other}
use Rattle.em_exec.proofs.sub.by_fields.Goals as goal

pub returns-then-words-eq2 : goal.returns-then-words-eq2
returns-then-words-eq2 g c = by_two (script_at c.args.left) c.args.scene.now c.args.cd.now c.args.joined.now c.args.make.now c.args.words.now c.index-words-1.result c.if-words-eq2.true c.index-words-1.is c.inside.ensures

pub returns : goal.returns
returns g c = by_other (script_at c.args.left) c.args.scene.now c.args.cd.now c.args.joined.now c.args.make.now c.args.words.now c.if-words-eq2.false c.ordinary.ensures
