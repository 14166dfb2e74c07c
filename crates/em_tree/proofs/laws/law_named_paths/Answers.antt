use Rattle.std.proofs.Common.{◌∙◌, ap}
use Rattle.std.specs.FinMap.{get}
use Rattle.em_tree.proofs.Laying.{over}
use Rattle.em_tree.proofs.Lawful.{get-laid_over}
use Rattle.em_tree.proofs.laws.law_named_paths.Goals as goal

pub returns : goal.returns
returns c = λ d t p x e. get-laid_over d t p ∙ ap (λ o. over o (get t p)) e
