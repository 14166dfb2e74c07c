use Rattle.std.specs.Cmp.Lexicographic.{nat_list_cmp_total}
use Rattle.em_base.proofs.Lemmas.{exact, in_order_has, in_order_rises, order}
use Rattle.em_textfn.proofs.laws.law_sorted.Goals as goal

pub returns-clause-rises : goal.returns-clause-rises
returns-clause-rises c = in_order_rises order

pub returns-clause-same : goal.returns-clause-same
returns-clause-same c = in_order_has order nat_list_cmp_total exact
