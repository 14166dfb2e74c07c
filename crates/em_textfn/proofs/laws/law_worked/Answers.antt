use Rattle.std.proofs.Common.{refl}
use Rattle.bstr.proofs.Computing.{computing}
use Rattle.em_textfn.proofs.laws.law_worked.Goals as goal

pub returns-clause-street : goal.returns-clause-street
unfolding computing
returns-clause-street c = refl

pub returns-clause-left : goal.returns-clause-left
unfolding computing
returns-clause-left c = refl

pub returns-clause-nothing : goal.returns-clause-nothing
unfolding computing
returns-clause-nothing c = refl

pub returns-clause-new : goal.returns-clause-new
unfolding computing
returns-clause-new c = refl

pub returns-clause-end : goal.returns-clause-end
unfolding computing
returns-clause-end c = refl

pub returns-clause-there : goal.returns-clause-there
unfolding computing
returns-clause-there c = refl

pub returns-clause-empty : goal.returns-clause-empty
unfolding computing
returns-clause-empty c = refl

pub returns-clause-absent : goal.returns-clause-absent
unfolding computing
returns-clause-absent c = refl
