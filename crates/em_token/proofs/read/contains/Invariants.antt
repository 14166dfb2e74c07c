use Rattle.std.proofs.Common.{◌≡◌, drop}
use Rattle.em_grammar.specs.Production.{is_among}
use Rattle.em_token.specs.Kinds.{code_of, kinds}
use Rattle.em_token.proofs.read.contains.Given as goal

abbrev pub invariant-loop-other : goal.invariant-loop-other
invariant-loop-other l = is_among (code_of l.kind) (kinds l.kinds) ≡ is_among (code_of l.kind) (kinds (drop l.other-index l.kinds))
