use Rattle.em_gen.specs.Generated.{rule_of}
use Rattle.em_gen.proofs.Pieces.{piece_more}
use Rattle.em_gen.proofs.makefile.put_rules.Goals as goal

pub loop-i-preserved : goal.loop-i-preserved
loop-i-preserved c = piece_more rule_of c.loop-i.out c.put_rule.new.out _ c.loop-i.i c.args.n c.loop-i-test.true c.in_ok-put_rule.ensures c.loop-i.invariant
