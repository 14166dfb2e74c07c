use Rattle.std.proofs.Common.{◌∷◌, [], rules, tests}
use Rattle.em_lineutil.specs.declared.format.Part.TheVariants.{Byte}
use Rattle.em_lineutil.proofs.Parting.{begun_with, plain_first}
use Rattle.em_lineutil.proofs.format.push_part.Goals as goal

pub returns-clause-ok : goal.returns-clause-ok
returns-clause-ok c =
    begun_with _ _ (Byte c.args.byte ∷ []) _ _ c.in_ok-push.ensures (plain_first c.args.byte c.args.behind.now (search (rules, tests)) (search (rules, tests)))
