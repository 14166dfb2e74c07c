use Rattle.std.proofs.Common.{◌<◌, ℕ, get_or}
use Rattle.em_insight.proofs.dispatch.agent_at.Given as goal

abbrev pub invariant-loop-agent : goal.invariant-loop-agent
invariant-loop-agent l = (a : ℕ) → a < l.agent → l.moment < get_or l.free a 0
