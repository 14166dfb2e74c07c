use Rattle.em_namefn.proofs.Behind.{suffix_joined, suffix_dots, suffix_slashes, suffix_none}
use Rattle.em_namefn.proofs.laws.law_suffix.Goals as goal

pub returns-clause-joined : goal.returns-clause-joined
returns-clause-joined c = suffix_joined

pub returns-clause-dot : goal.returns-clause-dot
returns-clause-dot c = suffix_dots

pub returns-clause-slash : goal.returns-clause-slash
returns-clause-slash c = suffix_slashes

pub returns-clause-none : goal.returns-clause-none
returns-clause-none c = suffix_none
