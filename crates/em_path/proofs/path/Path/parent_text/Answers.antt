use Rattle.std.proofs.Common.{◌≡◌, ◌<◌, Some, sym, subst, take, List, ℕ, arith}
use Rattle.em_path.specs.Paths.{IsPath, parent_text, root_text}
use Rattle.em_path.proofs.Spelling.{root_parent, parent_is, path_begins}
use Rattle.em_path.proofs.path.Path.parent_text.Goals as goal

pub returns-then-at-eq0 : goal.returns-then-at-eq0
returns-then-at-eq0 c =
    let t = c.text-text.result.now in
    let at = c.last_slash-at in
    subst (λ (q : List ℕ). Some root_text ≡ parent_text q) c.text-text.ensures.text (root_parent t at.result c.if-text-eq1.false record { bound = at.ensures.bound; found = at.ensures.found; after = at.ensures.after } c.if-at-eq0.true)

pub returns : goal.returns
returns c =
    let t = c.text-text.result.now in
    let at = c.last_slash-at in
    let path : IsPath t = subst IsPath (sym c.text-text.ensures.text) c.text-text.ensures.path in
    let after : 0 < at.result = omega arith in
    subst (λ (q : List ℕ). Some (take at.result t) ≡ parent_text q) c.text-text.ensures.text (parent_is t at.result c.if-text-eq1.false record { bound = at.ensures.bound; found = at.ensures.found; after = at.ensures.after } (path_begins t path).1 after)
