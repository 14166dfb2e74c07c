use Rattle.std.proofs.Common.{◌≤◌, ◌<◌, sym, ap, subst, ◌∙◌, refl, length, List, ℕ, arith}
use Rattle.em_path.specs.Paths.{IsPath, child_text, components}
use Rattle.em_path.proofs.Spelling.{child_from, child_length, child_depth, child_is_path}
use Rattle.em_path.proofs.path.Path.child.Goals as goal

pub returns-then-depth-eq64-clause-deep : goal.returns-then-depth-eq64-clause-deep
returns-then-depth-eq64-clause-deep c =
    let path = c.text.ensures.path in
    let size = child_length c.args.self.now c.args.name.now c.front-front.result.now c.text.result.now path c.text.ensures.text c.front-front.ensures in
    let deep = child_depth c.args.self.now c.args.name.now path c.requires.component in
    let same = ap (λ (q : List ℕ). length (components q)) c.text-2.ensures.text in
    (λ _. (omega arith, omega arith), λ _. refl)

pub invariant_of-result : goal.invariant_of-result
invariant_of-result c =
    let path = c.text.ensures.path in
    let size = child_length c.args.self.now c.args.name.now c.front-front.result.now c.text.result.now path c.text.ensures.text c.front-front.ensures in
    let same = ap (λ (q : List ℕ). length (components q)) c.text-2.ensures.text in
    let deep : length (components c.args.self.now) < 64 = omega (arith, path.deep) in
    let long : length (child_text c.args.self.now c.args.name.now) ≤ 1024 = omega arith in
    let is = child_from c.args.self.now c.args.name.now c.front-front.result.now c.text.result.now path c.text.ensures.text c.front-front.ensures in
    subst IsPath (sym (c.in_ok-from_vec.ensures.ok ∙ c.in_ok-joined.ensures ∙ is)) (child_is_path c.args.self.now c.args.name.now path c.requires.component deep long)
