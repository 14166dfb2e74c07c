use Rattle.std.proofs.Common.{◌∙◌, sym}
use Rattle.em_chain.proofs.Lining.{erase_all}
use Rattle.em_chain.proofs.lines.PathChains.erase.Goals as goal

pub returns-then-ends_with : goal.returns-then-ends_with
returns-then-ends_with c = λ q. c.take_out.ensures q ∙ erase_all c.args.job c.args.self.now c.args.p.now q (sym c.ends_with.ensures ∙ c.if-ends_with.true)
