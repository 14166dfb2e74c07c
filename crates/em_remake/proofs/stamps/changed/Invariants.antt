use Rattle.std.proofs.Common.{◌≡◌, drop}
use Rattle.em_remake.specs.Remaking.{changed}
use Rattle.em_remake.proofs.stamps.changed.Given as goal

-- none so far has changed
abbrev pub invariant-loop-name : goal.invariant-loop-name
invariant-loop-name l = changed l.before l.after (drop l.name-index l.names) l.cwd ≡ changed l.before l.after l.names l.cwd
