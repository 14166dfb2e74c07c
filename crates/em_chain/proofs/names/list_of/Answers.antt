use Rattle.std.proofs.Common.{◌∙◌, sym, ap, subst, List, ℕ, ◌++◌}
use Rattle.em_tree.specs.Names.{IsNameList}
use Rattle.em_tree.proofs.Naming.{name_greater}
use Rattle.em_chain.proofs.names.list_of.Goals as goal

pub add-requires-clause-greater : goal.add-requires-clause-greater
add-requires-clause-greater c =
    let names = c.loop-name.names in
    let rest : List (List ℕ) = c.next.new.self in
    let whole = ap (λ (r : List (List ℕ)). names ++ r) (sym c.in-Some.ensures.steps) ∙ c.loop-name.invariant in
    rw c.in_ok-copy.ensures (name_greater names c.in-Some.name.now rest (subst (λ (ns : List (List ℕ)). IsNameList ns) (sym whole) c.requires))
