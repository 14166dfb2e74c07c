use Rattle.std.proofs.Common.{◌≡◌, ◌<◌, Some, sym, ap, subst, ◌∙◌, take, List, ℕ, arith}
use Rattle.em_path.specs.Paths.{IsPath, parent_text, root_text}
use Rattle.em_path.proofs.Spelling.{not_under_root, root_parent, parent_is, parent_is_path, path_begins}
use Rattle.em_path.proofs.path.Path.parent.Goals as goal

pub returns-then-at-eq0-clause-ok : goal.returns-then-at-eq0-clause-ok
returns-then-at-eq0-clause-ok c =
    let t = c.text-text.result.now in
    let at = c.last_slash-at in
    let is = root_parent t at.result c.if-text-eq1.false record { bound = at.ensures.bound; found = at.ensures.found; after = at.ensures.after } c.if-at-eq0.true in
    ap (λ p. Some p) c.root.ensures.text ∙ subst (λ (q : List ℕ). Some root_text ≡ parent_text q) c.text-text.ensures.text is

pub invariant_of-result : goal.invariant_of-result
invariant_of-result c =
    let t = c.text-text.result.now in
    let at = c.last_slash-at in
    let path : IsPath t = subst IsPath (sym c.text-text.ensures.text) c.text-text.ensures.path in
    let after : 0 < at.result = omega arith in
    let cut : c.truncate.new.self ≡ take at.result t = c.truncate.ensures ∙ ap (λ (s : List ℕ). take at.result s) (c.in_ok-spelled.ensures.cases ∙ c.self.view_is ∙ sym c.text-text.ensures.text) in
    subst IsPath (sym cut) (parent_is_path t at.result path c.if-text-eq1.false record { bound = at.ensures.bound; found = at.ensures.found; after = at.ensures.after } (path_begins t path).1 after)

pub returns-clause-ok : goal.returns-clause-ok
returns-clause-ok c =
    let t = c.text-text.result.now in
    let at = c.last_slash-at in
    let path : IsPath t = subst IsPath (sym c.text-text.ensures.text) c.text-text.ensures.path in
    let after : 0 < at.result = omega arith in
    let is = parent_is t at.result c.if-text-eq1.false record { bound = at.ensures.bound; found = at.ensures.found; after = at.ensures.after } (path_begins t path).1 after in
    let cut : c.truncate.new.self ≡ take at.result t = c.truncate.ensures ∙ ap (λ (s : List ℕ). take at.result s) (c.in_ok-spelled.ensures.cases ∙ c.self.view_is ∙ sym c.text-text.ensures.text) in
    ap (λ p. Some p) cut ∙ subst (λ (q : List ℕ). Some (take at.result t) ≡ parent_text q) c.text-text.ensures.text is

pub returns-in_err-spelled-clause-top : goal.returns-in_err-spelled-clause-top
returns-in_err-spelled-clause-top c up =
    let t = c.text-text.result.now in
    let at = c.last_slash-at in
    let path : IsPath t = subst IsPath (sym c.text-text.ensures.text) c.text-text.ensures.path in
    let after : 0 < at.result = omega arith in
    absurd (not_under_root t at.result path c.if-text-eq1.false record { bound = at.ensures.bound; found = at.ensures.found; after = at.ensures.after } (path_begins t path).1 after (ap parent_text c.text-text.ensures.text ∙ up))

pub returns-clause-top : goal.returns-clause-top
returns-clause-top c up =
    let t = c.text-text.result.now in
    let at = c.last_slash-at in
    let path : IsPath t = subst IsPath (sym c.text-text.ensures.text) c.text-text.ensures.path in
    let after : 0 < at.result = omega arith in
    absurd (not_under_root t at.result path c.if-text-eq1.false record { bound = at.ensures.bound; found = at.ensures.found; after = at.ensures.after } (path_begins t path).1 after (ap parent_text c.text-text.ensures.text ∙ up))
