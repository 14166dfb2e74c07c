use Rattle.std.proofs.Common.{◌≡◌, Some, subst, length, take, drop, ◌-◌, ◌+◌, List, ℕ}
use Rattle.em_path.specs.Paths.{last_of}
use Rattle.em_path.proofs.Spelling.{last_is}
use Rattle.em_path.proofs.path.Path.last.Goals as goal

pub returns : goal.returns
returns c =
    let t = c.text-text.result.now in
    let i = c.last_slash.result in
    let is = last_is t i c.if-text-eq1.false record { bound = c.last_slash.ensures.bound; found = c.last_slash.ensures.found; after = c.last_slash.ensures.after } in
    subst (λ (q : List ℕ). Some (take (length t - (i + 1)) (drop (i + 1) t)) ≡ last_of q) c.text-text.ensures.text is
