use Rattle.std.proofs.Common.{◌≡◌, sym, subst, None, arith}
use Rattle.em_insight.specs.Jobs.{refusal}
use Rattle.em_insight.proofs.Linking.{sound}
use Rattle.em_insight.proofs.sum.total.Goals as goal

pub loop-line-init : goal.loop-line-init
loop-line-init c = ((sound c.items-lines.result.now (subst (λ z. refusal z ≡ None) (sym c.items-lines.ensures) c.requires)).few, omega arith)
