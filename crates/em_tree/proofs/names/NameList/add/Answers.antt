use Rattle.std.proofs.Common.{◌≡◌, sym, subst, List, ℕ}
use Rattle.std.specs.Prelude.{IfSome}
use Rattle.std.specs.declared.cmp.Ordering.TheVariants.{Less}
use Rattle.em_tree.specs.Names.{last_name}
use Rattle.em_tree.proofs.Maps.{order}
use Rattle.em_tree.proofs.Naming.{IsNameList-push}
use Rattle.em_tree.proofs.names.NameList.add.Goals as goal

pub invariant_of-self-2 : goal.invariant_of-self-2
invariant_of-self-2 c =
    let greater = subst (λ (xs : List (List ℕ)). IfSome (last_name xs) (λ l. order l c.args.name ≡ Less)) (sym c.self.view_is) c.requires.greater in
    rw c.in_ok-push.ensures.items (IsNameList-push c.self.inside.held.items c.args.name c.self.invariant c.requires.component greater)
