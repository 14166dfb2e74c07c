use Rattle.std.proofs.Common.{sym, subst, List, ℕ}
use Rattle.std.specs.Prelude.{filter_map}
use Rattle.em_path.specs.Paths.{last_of}
use Rattle.em_tree.specs.Names.{IsNameList}
use Rattle.em_tree.proofs.Naming.{IsNameList-names}
use Rattle.em_tree.proofs.tree.Tree.names.Goals as goal

pub collect_names-requires : goal.collect_names-requires
collect_names-requires c = record { names = subst (λ (ks : List (List ℕ)). IsNameList (filter_map last_of ks)) (sym c.in-Some.ensures.children) (IsNameList-names c.args.self.now c.args.p.now c.kind.ensures.tree) }
