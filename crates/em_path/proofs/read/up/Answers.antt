use Rattle.std.proofs.Common.{◌∙◌, subst, List, ℕ}
use Rattle.em_path.proofs.Spelling.{IsLastSlash}
use Rattle.em_path.proofs.Walking.{up_to}
use Rattle.em_path.proofs.read.up.Goals as goal

pub returns : goal.returns
returns c = λ cs names e.
    let t = c.args.text.now.items in
    let at = c.last_slash-at in
    let h : IsLastSlash c.as_slice.result.now at.result = record { bound = at.ensures.bound; found = at.ensures.found; after = at.ensures.after } in
    c.truncate.ensures.items ∙ up_to t at.result cs names e (subst (λ (q : List ℕ). IsLastSlash q at.result) c.as_slice.ensures.value h)
