use Rattle.std.proofs.Common.{List, ℕ, Bor}
use Rattle.em_lineutil.proofs.Places.{sorted_is}
use Rattle.em_lineutil.proofs.sort.put_in_order.Goals as goal

pub returns : goal.returns
returns c = sorted_is (λ (l : Bor (List ℕ)). l.now) c.args.lines.now.items c.sort_unstable.new.self.items c.sort_unstable.ensures.permutation c.sort_unstable.ensures.sorted
