use Rattle.std.proofs.Common.{◌∙◌, ap, List, ℕ}
use Rattle.std.specs.Prelude.{filter_map}
use Rattle.std.specs.FinMap.{get}
use Rattle.em_path.specs.Paths.{last_of}
use Rattle.em_tree.specs.declared.question.Answer.TheVariants as told
use Rattle.em_tree.specs.Trees.{kind_of}
use Rattle.em_tree.specs.Names.{children_of, in_dir}
use Rattle.em_tree.proofs.Lawful.{same_children}
use Rattle.em_tree.proofs.laws.law_children.Goals as goal

pub returns : goal.returns
returns c = λ s t a b p k e. ap (λ x. told.Names (in_dir x (filter_map last_of (children_of s p)))) k ∙ ap (λ (ks : List (List ℕ)). told.Names (in_dir (kind_of (get t p)) (filter_map last_of ks))) (same_children s t p e)
