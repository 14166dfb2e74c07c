use Rattle.std.proofs.Common.{◌-◌}
use Rattle.em_chain.proofs.chain.Chain.+search.Given as goal

abbrev pub decreases-search : goal.decreases-search
decreases-search l = l.high - l.low
