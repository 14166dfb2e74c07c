use Rattle.std.proofs.Common.{ap}
use Rattle.em_lines.proofs.Numbered.{logical_bared}
use Rattle.em_lines.proofs.laws.law_logical.Goals as goal

pub returns-clause-lines : goal.returns-clause-lines
returns-clause-lines c = λ file bytes. ap (λ ls. ls.lines) (logical_bared file bytes)

pub returns-clause-end : goal.returns-clause-end
returns-clause-end c = λ file bytes. ap (λ ls. ls.too_long) (logical_bared file bytes)
