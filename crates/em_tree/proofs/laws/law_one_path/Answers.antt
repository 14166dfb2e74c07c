use Rattle.std.proofs.Common.{ap}
use Rattle.em_tree.specs.declared.question.Answer.TheVariants as told
use Rattle.em_tree.specs.Trees.{kind_of, stamp_of, content_of, link_of}
use Rattle.em_tree.proofs.laws.law_one_path.Goals as goal

pub returns : goal.returns
returns c = record {
  kind = λ s t a b p e. ap (λ n. told.Kind (kind_of n)) e;
  stamp = λ s t a b p e. ap (λ n. told.Stamp (stamp_of n)) e;
  content = λ s t a b p e. ap (λ n. told.Content (content_of n)) e;
  link = λ s t a b p e. ap (λ n. told.Link (link_of n)) e;
  outcome = λ s t a b k e. ap (λ o. told.Outcome o) e;
}
