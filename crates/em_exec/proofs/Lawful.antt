-- The laws of scripts.
use Rattle.std.proofs.Common.{◌≡◌, ℕ, suc, List, [], Ok, Err, refl, ap}
use Rattle.em_view.specs.Actions.{Oracle, Workspace, ◌>>=◌}
use Rattle.em_view.specs.Steps.{own, and_then}
use Rattle.em_syntax.specs.declared.tree.Script.{Script, out-Script}
use Rattle.em_syntax.specs.declared.tree.AndOr.{AndOr}
use Rattle.em_command.specs.declared.jump.Jump.TheVariants.{Exit, Break, Continue, End}
use Rattle.em_command.specs.declared.here.Here.{Here}
use Rattle.em_command.specs.declared.here.Scene.{Scene}
use Rattle.em_command.specs.Heres.{with_status, rejoined, branch}
use Rattle.em_command.specs.Jumps.{Acts}
use Rattle.em_exec.specs.Copies.{Ended, Copy, after, apart, seen, looked_at, subshell}
use Rattle.em_exec.specs.Running.{script_at, script_of}

pub empty : (left : ℕ) (script : Script) (scene : Scene) (h : Here) (o : Oracle) (w : Workspace) → (out-Script script).list.items ≡ []
    → script_at (suc left) script scene h o w ≡ (let r : Ended = Ok (tt, with_status 0 h) in (r, w))
unfolding own
empty left script scene h o w e = ap (λ (xs : List AndOr). script_of (script_at left) scene xs h o w) e

-- a copy has ended, and its status and what it wrote have come back
left_by : (h : Here) (c : Copy) → (after (rejoined c.1 c.0 h)).shell ≡ record h.shell { status = (after (rejoined c.1 c.0 h)).shell.status }
left_by h (Ok u, t) = refl
left_by h (Err Exit, t) = refl
left_by h (Err Break, t) = refl
left_by h (Err Continue, t) = refl
left_by h (Err (End e), t) = refl

from_copy : (h : Here) (e : Ended) → (let c = seen (apart h) e in (after (rejoined c.0.1 c.0.0 c.1)).shell ≡ record h.shell { status = (after (rejoined c.0.1 c.0.0 c.1)).shell.status })
from_copy h (Ok p) = left_by h (Ok p.0, p.1)
from_copy h (Err p) = left_by h (Err p.0, p.1)

pub left : (m : Acts (Unit {0})) (h : Here) (o : Oracle) (w : Workspace) → (after (subshell m h o w).0).shell ≡ record h.shell { status = (after (subshell m h o w).0).shell.status }
unfolding subshell and_then ◌>>=◌ looked_at own
left m h o w = from_copy h (m (branch h) o w).0
